-- Lists of one word, of two, of three and of four.
use Rattle.std.proofs.Common.{codes, ◌≡◌, ℕ, ◌+◌, ◌<◌, ◌≤◌, List, [], ◌∷◌, inl, inr, Option, Some, None, length, map, get_or, refl, sym, ap, ◌∙◌, subst, arith}
use Rattle.std.specs.Option.{IfNone}
use Rattle.std.proofs.lemmas.Fmt.{decimal_injective}
use Rattle.base_kinds.specs.declared.entry.Limits.{Limits}
use Rattle.session_core.specs.declared.how.How.{How}
use Rattle.program.specs.declared.ending.Ending.{Ending}
use Rattle.program.specs.Environment.{Environment, SeenDisk}
use Rattle.program.specs.Commands.{Command, Check, Script, Init, Log, Session, Serve, Load, Help, Version, AreLimits, IsName, IsNameWithLimits, IsScript, IsInit, IsCheck, IsLog, IsNoLoad, IsNoServe, IsNoSession, Gives, GivesNone}
use Rattle.program.specs.Links.{SeenLinks}
use Rattle.program.specs.Run.{Does}

pub one_word : {W : Type 0} (text : W → List ℕ) (words : List W) (word : W) → 1 ≤ length words → length words < 2 → word ≡ get_or words 0 word → map text words ≡ text word ∷ []
one_word text [] word some few is = absurd (omega (arith, some))
one_word text (first ∷ []) word some few is = ap (λ w. text w ∷ []) (sym is)
one_word text (first ∷ second ∷ others) word some few is = absurd (omega (arith, few))

pub two_words : {W : Type 0} (text : W → List ℕ) (words : List W) (word name : W) → 2 ≤ length words → length words < 3 → word ≡ get_or words 0 word → name ≡ get_or words 1 name → map text words ≡ text word ∷ text name ∷ []
two_words text [] word name some few is next = absurd (omega (arith, some))
two_words text (first ∷ []) word name some few is next = absurd (omega (arith, some))
two_words text (first ∷ second ∷ []) word name some few is next = ap (λ w. text w ∷ text second ∷ []) (sym is) ∙ ap (λ w. text word ∷ text w ∷ []) (sym next)
two_words text (first ∷ second ∷ third ∷ others) word name some few is next = absurd (omega (arith, few))

pub three_words : {W : Type 0} (text : W → List ℕ) (words : List W) (a b c : W) → 3 ≤ length words → length words < 4 → a ≡ get_or words 0 a → b ≡ get_or words 1 b → c ≡ get_or words 2 c → map text words ≡ text a ∷ text b ∷ text c ∷ []
three_words text [] a b c some few p q r = absurd (omega (arith, some))
three_words text (w ∷ []) a b c some few p q r = absurd (omega (arith, some))
three_words text (w ∷ x ∷ []) a b c some few p q r = absurd (omega (arith, some))
three_words text (w ∷ x ∷ y ∷ []) a b c some few p q r =
    ap (λ t. text t ∷ text x ∷ text y ∷ []) (sym p) ∙ ap (λ t. text a ∷ text t ∷ text y ∷ []) (sym q)
    ∙ ap (λ t. text a ∷ text b ∷ text t ∷ []) (sym r)
three_words text (w ∷ x ∷ y ∷ z ∷ others) a b c some few p q r = absurd (omega (arith, few))

first_of_three : (a b c p q r : List ℕ) → a ∷ b ∷ c ∷ [] ≡ p ∷ q ∷ r ∷ [] → a ≡ p
first_of_three a b c p q r e = cc

second_of_three : (a b c p q r : List ℕ) → a ∷ b ∷ c ∷ [] ≡ p ∷ q ∷ r ∷ [] → b ≡ q
second_of_three a b c p q r e = cc

third_of_three : (a b c p q r : List ℕ) → a ∷ b ∷ c ∷ [] ≡ p ∷ q ∷ r ∷ [] → c ≡ r
third_of_three a b c p q r e = cc

pub four_words : {W : Type 0} (text : W → List ℕ) (words : List W) (a b c d : W) → 4 ≤ length words → length words < 5 → a ≡ get_or words 0 a → b ≡ get_or words 1 b → c ≡ get_or words 2 c → d ≡ get_or words 3 d → map text words ≡ text a ∷ text b ∷ text c ∷ text d ∷ []
four_words text [] a b c d some few p q r s = absurd (omega (arith, some))
four_words text (w ∷ []) a b c d some few p q r s = absurd (omega (arith, some))
four_words text (w ∷ x ∷ []) a b c d some few p q r s = absurd (omega (arith, some))
four_words text (w ∷ x ∷ y ∷ []) a b c d some few p q r s = absurd (omega (arith, some))
four_words text (w ∷ x ∷ y ∷ z ∷ []) a b c d some few p q r s =
    ap (λ t. text t ∷ text x ∷ text y ∷ text z ∷ []) (sym p) ∙ ap (λ t. text a ∷ text t ∷ text y ∷ text z ∷ []) (sym q)
    ∙ ap (λ t. text a ∷ text b ∷ text t ∷ text z ∷ []) (sym r) ∙ ap (λ t. text a ∷ text b ∷ text c ∷ text t ∷ []) (sym s)
four_words text (v ∷ w ∷ x ∷ y ∷ z ∷ others) a b c d some few p q r s = absurd (omega (arith, few))

second_of_five : (a b c d e p q r s t : List ℕ) → a ∷ b ∷ c ∷ d ∷ e ∷ [] ≡ p ∷ q ∷ r ∷ s ∷ t ∷ [] → b ≡ q
second_of_five a b c d e p q r s t is = cc

third_of_five : (a b c d e p q r s t : List ℕ) → a ∷ b ∷ c ∷ d ∷ e ∷ [] ≡ p ∷ q ∷ r ∷ s ∷ t ∷ [] → c ≡ r
third_of_five a b c d e p q r s t is = cc

fourth_of_five : (a b c d e p q r s t : List ℕ) → a ∷ b ∷ c ∷ d ∷ e ∷ [] ≡ p ∷ q ∷ r ∷ s ∷ t ∷ [] → d ≡ s
fourth_of_five a b c d e p q r s t is = cc

pub last_of_five : (a b c d e p q r s t : List ℕ) → a ∷ b ∷ c ∷ d ∷ e ∷ [] ≡ p ∷ q ∷ r ∷ s ∷ t ∷ [] → e ≡ t
last_of_five a b c d e p q r s t is = cc

pub first_of_five : (a b c d e p q r s t : List ℕ) → a ∷ b ∷ c ∷ d ∷ e ∷ [] ≡ p ∷ q ∷ r ∷ s ∷ t ∷ [] → a ≡ p
first_of_five a b c d e p q r s t is = cc

pub five_words : {W : Type 0} (text : W → List ℕ) (words : List W) (a b c d e : W) → 5 ≤ length words → length words < 6 → a ≡ get_or words 0 a → b ≡ get_or words 1 b → c ≡ get_or words 2 c → d ≡ get_or words 3 d → e ≡ get_or words 4 e → map text words ≡ text a ∷ text b ∷ text c ∷ text d ∷ text e ∷ []
five_words text [] a b c d e some few p q r s t = absurd (omega (arith, some))
five_words text (v ∷ []) a b c d e some few p q r s t = absurd (omega (arith, some))
five_words text (v ∷ w ∷ []) a b c d e some few p q r s t = absurd (omega (arith, some))
five_words text (v ∷ w ∷ x ∷ []) a b c d e some few p q r s t = absurd (omega (arith, some))
five_words text (v ∷ w ∷ x ∷ y ∷ []) a b c d e some few p q r s t = absurd (omega (arith, some))
five_words text (v ∷ w ∷ x ∷ y ∷ z ∷ []) a b c d e some few p q r s t = cc
five_words text (u ∷ v ∷ w ∷ x ∷ y ∷ z ∷ others) a b c d e some few p q r s t = absurd (omega (arith, few))

pub five_are : (a b c d e p q r s t : List ℕ) → a ≡ p → b ≡ q → c ≡ r → d ≡ s → e ≡ t → a ∷ b ∷ c ∷ d ∷ e ∷ [] ≡ p ∷ q ∷ r ∷ s ∷ t ∷ []
five_are a b c d e p q r s t f g h i j = cc

pub four_are : (a b c d p q r s : List ℕ) → a ≡ p → b ≡ q → c ≡ r → d ≡ s → a ∷ b ∷ c ∷ d ∷ [] ≡ p ∷ q ∷ r ∷ s ∷ []
four_are a b c d p q r s e f g h = cc

pub same_word : (a b : List ℕ) → a ∷ [] ≡ b ∷ [] → a ≡ b
same_word a b e = cc

two_not_four : (a b p q r s : List ℕ) → a ∷ b ∷ [] ≡ p ∷ q ∷ r ∷ s ∷ [] → ⊥
two_not_four a b p q r s e = cc

first_of_two : (a b p q : List ℕ) → a ∷ b ∷ [] ≡ p ∷ q ∷ [] → a ≡ p
first_of_two a b p q e = cc

first_of_four : (a b c d p q r s : List ℕ) → a ∷ b ∷ c ∷ d ∷ [] ≡ p ∷ q ∷ r ∷ s ∷ [] → a ≡ p
first_of_four a b c d p q r s e = cc

-- two words of which another one is the first are of no form with limits behind this one
pub no_two : (word : List ℕ) (words : List (List ℕ)) (a n : List ℕ) → words ≡ a ∷ n ∷ [] → (a ≡ word → ⊥) → (name : List ℕ) (limits : Limits) → IsNameWithLimits word words name limits → ⊥
no_two word words a n shown other name limits (inl is) = other (first_of_two _ _ _ _ (sym shown ∙ is.0))
no_two word words a n shown other name limits (inr is) = two_not_four _ _ _ _ _ _ (sym shown ∙ is.1.1.0)

-- and so are four
pub no_four : (word : List ℕ) (words : List (List ℕ)) (a n e o : List ℕ) → words ≡ a ∷ n ∷ e ∷ o ∷ [] → (a ≡ word → ⊥) → (name : List ℕ) (limits : Limits) → IsNameWithLimits word words name limits → ⊥
no_four word words a n e o shown other name limits (inl is) = two_not_four _ _ _ _ _ _ (sym is.0 ∙ shown)
no_four word words a n e o shown other name limits (inr is) = other (first_of_four _ _ _ _ _ _ _ _ (sym shown ∙ is.1.1.0))

pub no_name : (word : List ℕ) (words : List (List ℕ)) (a n : List ℕ) → words ≡ a ∷ n ∷ [] → (a ≡ word → ⊥) → (name : List ℕ) → IsName word words name → ⊥
no_name word words a n shown other name is = other (first_of_two _ _ _ _ (sym shown ∙ is))

-- three words of which another one is the first aren't this one and two names
pub no_three : (word : List ℕ) (words : List (List ℕ)) (a n o : List ℕ) → words ≡ a ∷ n ∷ o ∷ [] → (a ≡ word → ⊥) → (first last : List ℕ) → words ≡ word ∷ first ∷ last ∷ [] → ⊥
no_three word words a n o shown other first last is = other (first_of_three _ _ _ _ _ _ (sym shown ∙ is))

second_of_two : (a b p q : List ℕ) → a ∷ b ∷ [] ≡ p ∷ q ∷ [] → b ≡ q
second_of_two a b p q e = cc

second_of_four : (a b c d p q r s : List ℕ) → a ∷ b ∷ c ∷ d ∷ [] ≡ p ∷ q ∷ r ∷ s ∷ [] → b ≡ q
second_of_four a b c d p q r s e = cc

third_of_four : (a b c d p q r s : List ℕ) → a ∷ b ∷ c ∷ d ∷ [] ≡ p ∷ q ∷ r ∷ s ∷ [] → c ≡ r
third_of_four a b c d p q r s e = cc

last_of_four : (a b c d p q r s : List ℕ) → a ∷ b ∷ c ∷ d ∷ [] ≡ p ∷ q ∷ r ∷ s ∷ [] → d ≡ s
last_of_four a b c d p q r s e = cc

pub if_none_all : {A : Type 0} (told : Option A) {P : Type 0} → P → IfNone told P
if_none_all None holds = holds
if_none_all (Some a) holds = tt

-- four words whose last two are no limits are of no form with limits
pub no_form : (word : List ℕ) (words : List (List ℕ)) (a n e o e' o' : List ℕ) → words ≡ a ∷ n ∷ e ∷ o ∷ [] → e' ≡ e → o' ≡ o → ((limits : Limits) → AreLimits e' o' limits → ⊥) → (name : List ℕ) (limits : Limits) → IsNameWithLimits word words name limits → ⊥
no_form word words a n e o e' o' shown entries octets none name limits (inl is) = two_not_four _ _ _ _ _ _ (sym is.0 ∙ shown)
no_form word words a n e o e' o' shown entries octets none name limits (inr is) =
    let both = sym shown ∙ is.1.1.0 in
    none limits (record {
      entries_are = entries ∙ third_of_four _ _ _ _ _ _ _ _ both ∙ is.1.1.1.entries_are;
      octets_are = octets ∙ last_of_four _ _ _ _ _ _ _ _ both ∙ is.1.1.1.octets_are;
      in_range = is.1.1.1.in_range;
    })

same_limits : (a b : Limits) → a.entries ≡ b.entries → a.octets ≡ b.octets → a ≡ b
same_limits a b entries octets =
    let first : a ≡ record { entries = b.entries; octets = a.octets } = ap (λ n. let l : Limits = record { entries = n; octets = a.octets } in l) entries in
    let last : record { entries = b.entries; octets = a.octets } ≡ b = ap (λ n. let l : Limits = record { entries = b.entries; octets = n } in l) octets in
    first ∙ last

same_form : (word : List ℕ) (words : List (List ℕ)) (name other : List ℕ) (limits others : Limits) → IsNameWithLimits word words name limits → IsNameWithLimits word words other others → (name ≡ other) × (limits ≡ others)
same_form word words name other limits others (inl p) (inl q) = (second_of_two _ _ _ _ (sym p.0 ∙ q.0), p.1 ∙ sym q.1)
same_form word words name other limits others (inl p) (inr q) = absurd (two_not_four _ _ _ _ _ _ (sym p.0 ∙ q.1.1.0))
same_form word words name other limits others (inr p) (inl q) = absurd (two_not_four _ _ _ _ _ _ (sym q.0 ∙ p.1.1.0))
same_form word words name other limits others (inr p) (inr q) =
    let both = sym p.1.1.0 ∙ q.1.1.0 in
    let entries = decimal_injective limits.entries others.entries (omega (arith, p.1.1.1.in_range.most_entries)) (omega (arith, q.1.1.1.in_range.most_entries)) (sym p.1.1.1.entries_are ∙ third_of_four _ _ _ _ _ _ _ _ both ∙ q.1.1.1.entries_are) in
    let octets = decimal_injective limits.octets others.octets (omega (arith, p.1.1.1.in_range.most_octets)) (omega (arith, q.1.1.1.in_range.most_octets)) (sym p.1.1.1.octets_are ∙ last_of_four _ _ _ _ _ _ _ _ both ∙ q.1.1.1.octets_are) in
    (second_of_four _ _ _ _ _ _ _ _ both, same_limits limits others entries octets)

-- words that are of no form give no command
pub gives_none : (words : List (List ℕ)) → ((name : List ℕ) (limits : Limits) → IsScript words name limits → ⊥) → ((name : List ℕ) (limits : Limits) → IsInit words name limits → ⊥) → ((name : List ℕ) → IsCheck words name → ⊥) → ((name : List ℕ) → IsLog words name → ⊥) → IsNoSession words → IsNoServe words → IsNoLoad words → (words ≡ codes "--help" ∷ [] → ⊥) → (words ≡ codes "--version" ∷ [] → ⊥) → GivesNone words
gives_none words no_script no_init no_check no_log no_session no_serve no_load no_help no_version (Check name) is = no_check name is
gives_none words no_script no_init no_check no_log no_session no_serve no_load no_help no_version (Script name limits) is = no_script name limits is
gives_none words no_script no_init no_check no_log no_session no_serve no_load no_help no_version (Init name limits) is = no_init name limits is
gives_none words no_script no_init no_check no_log no_session no_serve no_load no_help no_version (Log name) is = no_log name is
gives_none words no_script no_init no_check no_log no_session no_serve no_load no_help no_version (Session schema journal) is = no_session schema journal is
gives_none words no_script no_init no_check no_log no_session no_serve no_load no_help no_version (Serve schema journal address sessions) is = no_serve schema journal address sessions is
gives_none words no_script no_init no_check no_log no_session no_serve no_load no_help no_version (Load seed count) is = no_load seed count is
gives_none words no_script no_init no_check no_log no_session no_serve no_load no_help no_version Help is = no_help is
gives_none words no_script no_init no_check no_log no_session no_serve no_load no_help no_version Version is = no_version is

-- a number that tells the first words of the forms apart: how many octets it has and its first one, added up
abbrev word_key : List (List ℕ) → ℕ
word_key [] = 0
word_key (word ∷ others) = length word + get_or word 0 0

with_limits : (word : List ℕ) (words : List (List ℕ)) (name : List ℕ) (limits : Limits) → IsNameWithLimits word words name limits → word_key words ≡ length word + get_or word 0 0
with_limits word words name limits (inl is) = ap (λ ws. word_key ws) is.0
with_limits word words name limits (inr is) = ap (λ ws. word_key ws) is.1.1.0

abbrev key : Command → ℕ
key (Check name) = 104
key (Script name limits) = 121
key (Init name limits) = 109
key (Log name) = 111
key (Session schema journal) = 122
key (Serve schema journal address sessions) = 120
key (Load seed count) = 112
key Help = 51
key Version = 54

has_key : (words : List (List ℕ)) (command : Command) → Gives words command → word_key words ≡ key command
has_key words (Check name) is = ap (λ ws. word_key ws) is
has_key words (Script name limits) is = with_limits (codes "script") words name limits is
has_key words (Init name limits) is = with_limits (codes "init") words name limits is
has_key words (Log name) is = ap (λ ws. word_key ws) is
has_key words (Session schema journal) is = ap (λ ws. word_key ws) is
has_key words (Serve schema journal address sessions) is = ap (λ ws. word_key ws) is.words_are
has_key words (Load seed count) is = ap (λ ws. word_key ws) is.words_are
has_key words Help is = ap (λ ws. word_key ws) is
has_key words Version is = ap (λ ws. word_key ws) is

one_key : (words : List (List ℕ)) (a b : Command) → Gives words a → Gives words b → key a ≡ key b
one_key words a b is also = sym (has_key words a is) ∙ has_key words b also

apart : (m n : ℕ) → m < n → m ≡ n → ⊥
apart m n less same = omega (arith, less, same)

apart' : (m n : ℕ) → n < m → m ≡ n → ⊥
apart' m n less same = omega (arith, less, same)

-- words give one command
pub one_command : (words : List (List ℕ)) (a b : Command) → Gives words a → Gives words b → a ≡ b
one_command words (Check name) (Check other) is also = ap (λ n. Check n) (second_of_two _ _ _ _ (sym is ∙ also))
one_command words (Check name) (Script other others) is also = absurd (apart 104 121 (omega arith) (one_key words (Check name) (Script other others) is also))
one_command words (Check name) (Init other others) is also = absurd (apart 104 109 (omega arith) (one_key words (Check name) (Init other others) is also))
one_command words (Check name) (Log other) is also = absurd (apart 104 111 (omega arith) (one_key words (Check name) (Log other) is also))
one_command words (Check name) (Session schema journal) is also = absurd (apart 104 122 (omega arith) (one_key words (Check name) (Session schema journal) is also))
one_command words (Check name) (Serve schema journal address sessions) is also = absurd (apart 104 120 (omega arith) (one_key words (Check name) (Serve schema journal address sessions) is also))
one_command words (Check name) (Load seed count) is also = absurd (apart 104 112 (omega arith) (one_key words (Check name) (Load seed count) is also))
one_command words (Check name) Help is also = absurd (apart' 104 51 (omega arith) (one_key words (Check name) Help is also))
one_command words (Check name) Version is also = absurd (apart' 104 54 (omega arith) (one_key words (Check name) Version is also))
one_command words (Script name limits) (Check other) is also = absurd (apart' 121 104 (omega arith) (one_key words (Script name limits) (Check other) is also))
one_command words (Script name limits) (Script other others) is also =
    let same = same_form (codes "script") words name other limits others is also in
    ap (λ n. Script n limits) same.0 ∙ ap (λ l. Script other l) same.1
one_command words (Script name limits) (Init other others) is also = absurd (apart' 121 109 (omega arith) (one_key words (Script name limits) (Init other others) is also))
one_command words (Script name limits) (Log other) is also = absurd (apart' 121 111 (omega arith) (one_key words (Script name limits) (Log other) is also))
one_command words (Script name limits) (Session schema journal) is also = absurd (apart 121 122 (omega arith) (one_key words (Script name limits) (Session schema journal) is also))
one_command words (Script name limits) (Serve schema journal address sessions) is also = absurd (apart' 121 120 (omega arith) (one_key words (Script name limits) (Serve schema journal address sessions) is also))
one_command words (Script name limits) (Load seed count) is also = absurd (apart' 121 112 (omega arith) (one_key words (Script name limits) (Load seed count) is also))
one_command words (Script name limits) Help is also = absurd (apart' 121 51 (omega arith) (one_key words (Script name limits) Help is also))
one_command words (Script name limits) Version is also = absurd (apart' 121 54 (omega arith) (one_key words (Script name limits) Version is also))
one_command words (Init name limits) (Check other) is also = absurd (apart' 109 104 (omega arith) (one_key words (Init name limits) (Check other) is also))
one_command words (Init name limits) (Script other others) is also = absurd (apart 109 121 (omega arith) (one_key words (Init name limits) (Script other others) is also))
one_command words (Init name limits) (Init other others) is also =
    let same = same_form (codes "init") words name other limits others is also in
    ap (λ n. Init n limits) same.0 ∙ ap (λ l. Init other l) same.1
one_command words (Init name limits) (Log other) is also = absurd (apart 109 111 (omega arith) (one_key words (Init name limits) (Log other) is also))
one_command words (Init name limits) (Session schema journal) is also = absurd (apart 109 122 (omega arith) (one_key words (Init name limits) (Session schema journal) is also))
one_command words (Init name limits) (Serve schema journal address sessions) is also = absurd (apart 109 120 (omega arith) (one_key words (Init name limits) (Serve schema journal address sessions) is also))
one_command words (Init name limits) (Load seed count) is also = absurd (apart 109 112 (omega arith) (one_key words (Init name limits) (Load seed count) is also))
one_command words (Init name limits) Help is also = absurd (apart' 109 51 (omega arith) (one_key words (Init name limits) Help is also))
one_command words (Init name limits) Version is also = absurd (apart' 109 54 (omega arith) (one_key words (Init name limits) Version is also))
one_command words (Log name) (Check other) is also = absurd (apart' 111 104 (omega arith) (one_key words (Log name) (Check other) is also))
one_command words (Log name) (Script other others) is also = absurd (apart 111 121 (omega arith) (one_key words (Log name) (Script other others) is also))
one_command words (Log name) (Init other others) is also = absurd (apart' 111 109 (omega arith) (one_key words (Log name) (Init other others) is also))
one_command words (Log name) (Log other) is also = ap (λ n. Log n) (second_of_two _ _ _ _ (sym is ∙ also))
one_command words (Log name) (Session schema journal) is also = absurd (apart 111 122 (omega arith) (one_key words (Log name) (Session schema journal) is also))
one_command words (Log name) (Serve schema journal address sessions) is also = absurd (apart 111 120 (omega arith) (one_key words (Log name) (Serve schema journal address sessions) is also))
one_command words (Log name) (Load seed count) is also = absurd (apart 111 112 (omega arith) (one_key words (Log name) (Load seed count) is also))
one_command words (Log name) Help is also = absurd (apart' 111 51 (omega arith) (one_key words (Log name) Help is also))
one_command words (Log name) Version is also = absurd (apart' 111 54 (omega arith) (one_key words (Log name) Version is also))
one_command words (Session schema journal) (Check other) is also = absurd (apart' 122 104 (omega arith) (one_key words (Session schema journal) (Check other) is also))
one_command words (Session schema journal) (Script other others) is also = absurd (apart' 122 121 (omega arith) (one_key words (Session schema journal) (Script other others) is also))
one_command words (Session schema journal) (Init other others) is also = absurd (apart' 122 109 (omega arith) (one_key words (Session schema journal) (Init other others) is also))
one_command words (Session schema journal) (Log other) is also = absurd (apart' 122 111 (omega arith) (one_key words (Session schema journal) (Log other) is also))
one_command words (Session schema journal) (Session other others) is also =
    let both = sym is ∙ also in
    ap (λ n. Session n journal) (second_of_three _ _ _ _ _ _ both) ∙ ap (λ n. Session other n) (third_of_three _ _ _ _ _ _ both)
one_command words (Session schema journal) (Serve other others address sessions) is also = absurd (apart' 122 120 (omega arith) (one_key words (Session schema journal) (Serve other others address sessions) is also))
one_command words (Session schema journal) (Load seed count) is also = absurd (apart' 122 112 (omega arith) (one_key words (Session schema journal) (Load seed count) is also))
one_command words (Session schema journal) Help is also = absurd (apart' 122 51 (omega arith) (one_key words (Session schema journal) Help is also))
one_command words (Session schema journal) Version is also = absurd (apart' 122 54 (omega arith) (one_key words (Session schema journal) Version is also))
one_command words (Serve schema journal address sessions) (Check other) is also = absurd (apart' 120 104 (omega arith) (one_key words (Serve schema journal address sessions) (Check other) is also))
one_command words (Serve schema journal address sessions) (Script other others) is also = absurd (apart 120 121 (omega arith) (one_key words (Serve schema journal address sessions) (Script other others) is also))
one_command words (Serve schema journal address sessions) (Init other others) is also = absurd (apart' 120 109 (omega arith) (one_key words (Serve schema journal address sessions) (Init other others) is also))
one_command words (Serve schema journal address sessions) (Log other) is also = absurd (apart' 120 111 (omega arith) (one_key words (Serve schema journal address sessions) (Log other) is also))
one_command words (Serve schema journal address sessions) (Session other others) is also = absurd (apart 120 122 (omega arith) (one_key words (Serve schema journal address sessions) (Session other others) is also))
one_command words (Serve schema journal address sessions) (Serve schema' journal' address' sessions') is also =
    let both = sym is.words_are ∙ also.words_are in
    let count = decimal_injective sessions sessions' (omega (arith, is.few)) (omega (arith, also.few)) (last_of_five _ _ _ _ _ _ _ _ _ _ both) in
    ap (λ n. Serve n journal address sessions) (second_of_five _ _ _ _ _ _ _ _ _ _ both) ∙ ap (λ n. Serve schema' n address sessions) (third_of_five _ _ _ _ _ _ _ _ _ _ both)
    ∙ ap (λ n. Serve schema' journal' n sessions) (fourth_of_five _ _ _ _ _ _ _ _ _ _ both) ∙ ap (λ n. Serve schema' journal' address' n) count
one_command words (Serve schema journal address sessions) (Load seed count) is also = absurd (apart' 120 112 (omega arith) (one_key words (Serve schema journal address sessions) (Load seed count) is also))
one_command words (Serve schema journal address sessions) Help is also = absurd (apart' 120 51 (omega arith) (one_key words (Serve schema journal address sessions) Help is also))
one_command words (Serve schema journal address sessions) Version is also = absurd (apart' 120 54 (omega arith) (one_key words (Serve schema journal address sessions) Version is also))
one_command words (Load seed count) (Check other) is also = absurd (apart' 112 104 (omega arith) (one_key words (Load seed count) (Check other) is also))
one_command words (Load seed count) (Script other others) is also = absurd (apart 112 121 (omega arith) (one_key words (Load seed count) (Script other others) is also))
one_command words (Load seed count) (Init other others) is also = absurd (apart' 112 109 (omega arith) (one_key words (Load seed count) (Init other others) is also))
one_command words (Load seed count) (Log other) is also = absurd (apart' 112 111 (omega arith) (one_key words (Load seed count) (Log other) is also))
one_command words (Load seed count) (Session schema journal) is also = absurd (apart 112 122 (omega arith) (one_key words (Load seed count) (Session schema journal) is also))
one_command words (Load seed count) (Serve schema journal address sessions) is also = absurd (apart 112 120 (omega arith) (one_key words (Load seed count) (Serve schema journal address sessions) is also))
one_command words (Load seed count) (Load other others) is also =
    let both = sym is.words_are ∙ also.words_are in
    let seeds = decimal_injective seed other (omega (arith, is.seed_fits)) (omega (arith, also.seed_fits)) (second_of_three _ _ _ _ _ _ both) in
    let counts = decimal_injective count others (omega (arith, is.few)) (omega (arith, also.few)) (third_of_three _ _ _ _ _ _ both) in
    ap (λ n. Load n count) seeds ∙ ap (λ n. Load other n) counts
one_command words (Load seed count) Help is also = absurd (apart' 112 51 (omega arith) (one_key words (Load seed count) Help is also))
one_command words (Load seed count) Version is also = absurd (apart' 112 54 (omega arith) (one_key words (Load seed count) Version is also))
one_command words Help (Check other) is also = absurd (apart 51 104 (omega arith) (one_key words Help (Check other) is also))
one_command words Help (Script other others) is also = absurd (apart 51 121 (omega arith) (one_key words Help (Script other others) is also))
one_command words Help (Init other others) is also = absurd (apart 51 109 (omega arith) (one_key words Help (Init other others) is also))
one_command words Help (Log other) is also = absurd (apart 51 111 (omega arith) (one_key words Help (Log other) is also))
one_command words Help (Session schema journal) is also = absurd (apart 51 122 (omega arith) (one_key words Help (Session schema journal) is also))
one_command words Help (Serve schema journal address sessions) is also = absurd (apart 51 120 (omega arith) (one_key words Help (Serve schema journal address sessions) is also))
one_command words Help (Load seed count) is also = absurd (apart 51 112 (omega arith) (one_key words Help (Load seed count) is also))
one_command words Help Help is also = refl
one_command words Help Version is also = absurd (apart 51 54 (omega arith) (one_key words Help Version is also))
one_command words Version (Check other) is also = absurd (apart 54 104 (omega arith) (one_key words Version (Check other) is also))
one_command words Version (Script other others) is also = absurd (apart 54 121 (omega arith) (one_key words Version (Script other others) is also))
one_command words Version (Init other others) is also = absurd (apart 54 109 (omega arith) (one_key words Version (Init other others) is also))
one_command words Version (Log other) is also = absurd (apart 54 111 (omega arith) (one_key words Version (Log other) is also))
one_command words Version (Session schema journal) is also = absurd (apart 54 122 (omega arith) (one_key words Version (Session schema journal) is also))
one_command words Version (Serve schema journal address sessions) is also = absurd (apart 54 120 (omega arith) (one_key words Version (Serve schema journal address sessions) is also))
one_command words Version (Load seed count) is also = absurd (apart 54 112 (omega arith) (one_key words Version (Load seed count) is also))
one_command words Version Help is also = absurd (apart' 54 51 (omega arith) (one_key words Version Help is also))
one_command words Version Version is also = refl

-- what one command of the words does is what the words ask
pub does_all : (words : List (List ℕ)) (command : Command) (before after : Environment) (returned : Option SeenDisk) (how : Option How) (links : SeenLinks) (ending : Ending) → Gives words command → Does command before after returned how links ending → (other : Command) → Gives words other → Does other before after returned how links ending
does_all words command before after returned how links ending is does other also = subst (λ c. Does c before after returned how links ending) (one_command words command other is also) does

-- and so it is of what a command leaves that is handed on
pub ends_so : (words : List (List ℕ)) (command : Command) (before after after' : Environment) (returned returned' : Option SeenDisk) (how how' : Option How) (links links' : SeenLinks) (ending ending' : Ending) → after' ≡ after → returned' ≡ returned → how' ≡ how → links' ≡ links → ending' ≡ ending → Gives words command → Does command before after returned how links ending → (other : Command) → Gives words other → Does other before after' returned' how' links' ending'
ends_so words command before after after' returned returned' how how' links links' ending ending' p q r l s is does other also =
    let one = subst (λ (e : Environment). Does command before e returned how links ending) (sym p) does in
    let two = subst (λ (d : Option SeenDisk). Does command before after' d how links ending) (sym q) one in
    let three = subst (λ (h : Option How). Does command before after' returned' h links ending) (sym r) two in
    let linked = subst (λ (l : SeenLinks). Does command before after' returned' how' l ending) (sym l) three in
    let four = subst (λ (e : Ending). Does command before after' returned' how' links' e) (sym s) linked in
    does_all words command before after' returned' how' links' ending' is four other also
