-- Lists of a few words, and the forms that they have.
use Rattle.std.proofs.Common.{codes, ◌≡◌, ℕ, ◌<◌, ◌≤◌, List, [], ◌∷◌, length, map, get_or, sym, ap, ◌∙◌, arith, Option, Some, None}
use Rattle.std.specs.Option.{IfNone}
use Rattle.ask_command.specs.Words.{Ask, Capabilities, Get, Set, Delete, Trial, Confirm, Cancel, Form, Call, Help, Version, ask_words, form_words}

pub one_word : {W : Type 0} (text : W → List ℕ) (words : List W) (a : W) → 1 ≤ length words → length words < 2 → a ≡ get_or words 0 a → map text words ≡ text a ∷ []
one_word text [] a some few p = absurd (omega (arith, some))
one_word text (w ∷ []) a some few p = cc
one_word text (w ∷ x ∷ others) a some few p = absurd (omega (arith, few))

pub two_words : {W : Type 0} (text : W → List ℕ) (words : List W) (a b : W) → 2 ≤ length words → length words < 3 → a ≡ get_or words 0 a → b ≡ get_or words 1 b → map text words ≡ text a ∷ text b ∷ []
two_words text [] a b some few p q = absurd (omega (arith, some))
two_words text (w ∷ []) a b some few p q = absurd (omega (arith, some))
two_words text (w ∷ x ∷ []) a b some few p q = cc
two_words text (w ∷ x ∷ y ∷ others) a b some few p q = absurd (omega (arith, few))

pub three_words : {W : Type 0} (text : W → List ℕ) (words : List W) (a b c : W) → 3 ≤ length words → length words < 4 → a ≡ get_or words 0 a → b ≡ get_or words 1 b → c ≡ get_or words 2 c → map text words ≡ text a ∷ text b ∷ text c ∷ []
three_words text [] a b c some few p q r = absurd (omega (arith, some))
three_words text (w ∷ []) a b c some few p q r = absurd (omega (arith, some))
three_words text (w ∷ x ∷ []) a b c some few p q r = absurd (omega (arith, some))
three_words text (w ∷ x ∷ y ∷ []) a b c some few p q r = cc
three_words text (w ∷ x ∷ y ∷ z ∷ others) a b c some few p q r = absurd (omega (arith, few))

pub four_words : {W : Type 0} (text : W → List ℕ) (words : List W) (a b c d : W) → 4 ≤ length words → length words < 5 → a ≡ get_or words 0 a → b ≡ get_or words 1 b → c ≡ get_or words 2 c → d ≡ get_or words 3 d → map text words ≡ text a ∷ text b ∷ text c ∷ text d ∷ []
four_words text [] a b c d some few p q r s = absurd (omega (arith, some))
four_words text (w ∷ []) a b c d some few p q r s = absurd (omega (arith, some))
four_words text (w ∷ x ∷ []) a b c d some few p q r s = absurd (omega (arith, some))
four_words text (w ∷ x ∷ y ∷ []) a b c d some few p q r s = absurd (omega (arith, some))
four_words text (w ∷ x ∷ y ∷ z ∷ []) a b c d some few p q r s = cc
four_words text (v ∷ w ∷ x ∷ y ∷ z ∷ others) a b c d some few p q r s = absurd (omega (arith, few))

pub six_words : {W : Type 0} (text : W → List ℕ) (words : List W) (a b c d e f : W) → 6 ≤ length words → length words < 7 → a ≡ get_or words 0 a → b ≡ get_or words 1 b → c ≡ get_or words 2 c → d ≡ get_or words 3 d → e ≡ get_or words 4 e → f ≡ get_or words 5 f → map text words ≡ text a ∷ text b ∷ text c ∷ text d ∷ text e ∷ text f ∷ []
six_words text [] a b c d e f some few p q r s t u = absurd (omega (arith, some))
six_words text (w ∷ []) a b c d e f some few p q r s t u = absurd (omega (arith, some))
six_words text (w ∷ x ∷ []) a b c d e f some few p q r s t u = absurd (omega (arith, some))
six_words text (w ∷ x ∷ y ∷ []) a b c d e f some few p q r s t u = absurd (omega (arith, some))
six_words text (w ∷ x ∷ y ∷ z ∷ []) a b c d e f some few p q r s t u = absurd (omega (arith, some))
six_words text (v ∷ w ∷ x ∷ y ∷ z ∷ []) a b c d e f some few p q r s t u = absurd (omega (arith, some))
six_words text (g ∷ v ∷ w ∷ x ∷ y ∷ z ∷ []) a b c d e f some few p q r s t u = cc
six_words text (g ∷ h ∷ v ∷ w ∷ x ∷ y ∷ z ∷ others) a b c d e f some few p q r s t u = absurd (omega (arith, few))

-- ---- words behind an address

first_is : (a b : List ℕ) (others more : List (List ℕ)) → a ∷ others ≡ b ∷ more → a ≡ b
first_is a b others more is = cc

others_are : (a b : List ℕ) (others more : List (List ℕ)) → a ∷ others ≡ b ∷ more → others ≡ more
others_are a b others more is = cc

some_not_none : (a : List ℕ) (others : List (List ℕ)) → a ∷ others ≡ [] → ⊥
some_not_none a others is = cc

-- words that are an address and words of no call are of no form
pub no_form : (words : List (List ℕ)) (a b : List ℕ) (others : List (List ℕ)) → words ≡ a ∷ b ∷ others → ((ask : Ask) → b ∷ others ≡ ask_words ask → ⊥) → (form : Form) → words ≡ form_words form → ⊥
no_form words a b others shown none (Call address ask) is = none ask (others_are a address (b ∷ others) (ask_words ask) (sym shown ∙ is))
no_form words a b others shown none Help is = some_not_none b others (others_are a (codes "--help") (b ∷ others) [] (sym shown ∙ is))
no_form words a b others shown none Version is = some_not_none b others (others_are a (codes "--version") (b ∷ others) [] (sym shown ∙ is))

-- and those that are an address and words of a call are of its form
pub is_call : (words : List (List ℕ)) (address : List ℕ) (rest : List (List ℕ)) (ask : Ask) → words ≡ address ∷ rest → rest ≡ ask_words ask → words ≡ form_words (Call address ask)
is_call words address rest ask shown is = shown ∙ ap (λ t. address ∷ t) is

-- one word that is neither of the two that stand alone
pub not_alone : (word : List ℕ) → (word ≡ codes "--help" → ⊥) → (word ≡ codes "--version" → ⊥) → (form : Form) → word ∷ [] ≡ form_words form → ⊥
not_alone word help version (Call address Capabilities) is = some_not_none _ _ (sym (others_are _ _ _ _ is))
not_alone word help version (Call address (Get path)) is = some_not_none _ _ (sym (others_are _ _ _ _ is))
not_alone word help version (Call address (Set path json)) is = some_not_none _ _ (sym (others_are _ _ _ _ is))
not_alone word help version (Call address (Delete path)) is = some_not_none _ _ (sym (others_are _ _ _ _ is))
not_alone word help version (Call address (Trial id seconds path json)) is = some_not_none _ _ (sym (others_are _ _ _ _ is))
not_alone word help version (Call address (Confirm id)) is = some_not_none _ _ (sym (others_are _ _ _ _ is))
not_alone word help version (Call address (Cancel id)) is = some_not_none _ _ (sym (others_are _ _ _ _ is))
not_alone word help version Help is = help (first_is _ _ _ _ is)
not_alone word help version Version is = version (first_is _ _ _ _ is)

one_not_two : (a b c : List ℕ) (others : List (List ℕ)) → a ∷ [] ≡ b ∷ c ∷ others → ⊥
one_not_two a b c others is = some_not_none c others (sym (others_are a b [] (c ∷ others) is))

two_not_three : (a b c d e : List ℕ) (others : List (List ℕ)) → a ∷ b ∷ [] ≡ c ∷ d ∷ e ∷ others → ⊥
two_not_three a b c d e others is = one_not_two b d e others (others_are a c (b ∷ []) (d ∷ e ∷ others) is)

three_not_four : (a b c d e f g : List ℕ) (others : List (List ℕ)) → a ∷ b ∷ c ∷ [] ≡ d ∷ e ∷ f ∷ g ∷ others → ⊥
three_not_four a b c d e f g others is = two_not_three b c e f g others (others_are a d (b ∷ c ∷ []) (e ∷ f ∷ g ∷ others) is)

pub no_bare : (word : List ℕ) → (word ≡ codes "capabilities" → ⊥) → (ask : Ask) → word ∷ [] ≡ ask_words ask → ⊥
no_bare word other Capabilities is = other (first_is _ _ _ _ is)
no_bare word other (Get path) is = one_not_two _ _ _ _ is
no_bare word other (Set path json) is = one_not_two _ _ _ _ is
no_bare word other (Delete path) is = one_not_two _ _ _ _ is
no_bare word other (Trial id seconds path json) is = one_not_two _ _ _ _ is
no_bare word other (Confirm id) is = one_not_two _ _ _ _ is
no_bare word other (Cancel id) is = one_not_two _ _ _ _ is

pub no_one : (word first : List ℕ) → (word ≡ codes "get" → ⊥) → (word ≡ codes "delete" → ⊥) → (word ≡ codes "confirm" → ⊥) → (word ≡ codes "cancel" → ⊥) → (ask : Ask) → word ∷ first ∷ [] ≡ ask_words ask → ⊥
no_one word first get delete confirm cancel Capabilities is = one_not_two _ _ _ _ (sym is)
no_one word first get delete confirm cancel (Get path) is = get (first_is _ _ _ _ is)
no_one word first get delete confirm cancel (Set path json) is = two_not_three _ _ _ _ _ _ is
no_one word first get delete confirm cancel (Delete path) is = delete (first_is _ _ _ _ is)
no_one word first get delete confirm cancel (Trial id seconds path json) is = two_not_three _ _ _ _ _ _ is
no_one word first get delete confirm cancel (Confirm id) is = confirm (first_is _ _ _ _ is)
no_one word first get delete confirm cancel (Cancel id) is = cancel (first_is _ _ _ _ is)

pub no_two : (word path json : List ℕ) → (word ≡ codes "set" → ⊥) → (ask : Ask) → word ∷ path ∷ json ∷ [] ≡ ask_words ask → ⊥
no_two word path json other Capabilities is = one_not_two _ _ _ _ (sym is)
no_two word path json other (Get p) is = two_not_three _ _ _ _ _ _ (sym is)
no_two word path json other (Set p j) is = other (first_is _ _ _ _ is)
no_two word path json other (Delete p) is = two_not_three _ _ _ _ _ _ (sym is)
no_two word path json other (Trial id seconds p j) is = three_not_four _ _ _ _ _ _ _ _ is
no_two word path json other (Confirm id) is = two_not_three _ _ _ _ _ _ (sym is)
no_two word path json other (Cancel id) is = two_not_three _ _ _ _ _ _ (sym is)

pub no_four : (word id seconds path json : List ℕ) → (word ≡ codes "trial" → ⊥) → (ask : Ask) → word ∷ id ∷ seconds ∷ path ∷ json ∷ [] ≡ ask_words ask → ⊥
no_four word id seconds path json other Capabilities is = one_not_two _ _ _ _ (sym is)
no_four word id seconds path json other (Get p) is = two_not_three _ _ _ _ _ _ (sym is)
no_four word id seconds path json other (Set p j) is = three_not_four _ _ _ _ _ _ _ _ (sym is)
no_four word id seconds path json other (Delete p) is = two_not_three _ _ _ _ _ _ (sym is)
no_four word id seconds path json other (Trial i s p j) is = other (first_is _ _ _ _ is)
no_four word id seconds path json other (Confirm i) is = two_not_three _ _ _ _ _ _ (sym is)
no_four word id seconds path json other (Cancel i) is = two_not_three _ _ _ _ _ _ (sym is)

three_are : (a b c p q r : List ℕ) → a ≡ p → b ≡ q → c ≡ r → a ∷ b ∷ c ∷ [] ≡ p ∷ q ∷ r ∷ []
three_are a b c p q r s t u = cc

five_are : (a b c d e p q r s t : List ℕ) → a ≡ p → b ≡ q → c ≡ r → d ≡ s → e ≡ t → a ∷ b ∷ c ∷ d ∷ e ∷ [] ≡ p ∷ q ∷ r ∷ s ∷ t ∷ []
five_are a b c d e p q r s t f g h i j = cc

-- four words, and six, by the texts of those behind the address
pub no_four_words : (words : List (List ℕ)) (a b c d p q r : List ℕ) → words ≡ a ∷ b ∷ c ∷ d ∷ [] → p ≡ b → q ≡ c → r ≡ d → ((ask : Ask) → p ∷ q ∷ r ∷ [] ≡ ask_words ask → ⊥) → (form : Form) → words ≡ form_words form → ⊥
no_four_words words a b c d p q r shown s t u none = no_form words a b (c ∷ d ∷ []) shown (λ ask is. none ask (three_are p q r b c d s t u ∙ is))

pub no_six_words : (words : List (List ℕ)) (a b c d e f p q r s t : List ℕ) → words ≡ a ∷ b ∷ c ∷ d ∷ e ∷ f ∷ [] → p ≡ b → q ≡ c → r ≡ d → s ≡ e → t ≡ f → ((ask : Ask) → p ∷ q ∷ r ∷ s ∷ t ∷ [] ≡ ask_words ask → ⊥) → (form : Form) → words ≡ form_words form → ⊥
no_six_words words a b c d e f p q r s t shown u v w x y none = no_form words a b (c ∷ d ∷ e ∷ f ∷ []) shown (λ ask is. none ask (five_are p q r s t b c d e f u v w x y ∙ is))

pub is_six_words : (words : List (List ℕ)) (a b c d e f z p q r s t : List ℕ) (ask : List (List ℕ)) → words ≡ a ∷ b ∷ c ∷ d ∷ e ∷ f ∷ [] → z ≡ a → p ≡ b → q ≡ c → r ≡ d → s ≡ e → t ≡ f → p ∷ q ∷ r ∷ s ∷ t ∷ [] ≡ ask → words ≡ z ∷ ask
is_six_words words a b c d e f z p q r s t ask shown o u v w x y is = cc

pub if_none_all : {A : Type 0} (told : Option A) {P : Type 0} → P → IfNone told P
if_none_all None holds = holds
if_none_all (Some a) holds = tt
