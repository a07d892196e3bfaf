-- A line taken word by word.
use Rattle.std.proofs.Common.{◌≡◌, ℕ, List, ◌∷◌, ◌++◌, true, not, eqb, drop, refl, sym, ap, ◌∙◌, IsTrue, subst}
use Rattle.std.proofs.lemmas.Bool.{and_parts, false≢true}
use Rattle.std.proofs.lemmas.List.Folds.{list_all-append}
use Rattle.script_text.specs.declared.line.Line.{Line}
use Rattle.script_text.specs.Grammar.{IsFront, Then, Last}
use Rattle.plain_texts.specs.Splits.{lacks}
use Rattle.script_text.specs.inner.FirstWords.{IsFirstWord, SaysOne, IsWordKind}
use Rattle.plain_texts.proofs.Cuts.{same_parts}

no_space : (word rest : List ℕ) → lacks 32 (word ++ 32 ∷ rest) ≡ true → ⊥
no_space word rest lacking =
    false≢true (and_parts (lacks 32 word) (lacks 32 (32 ∷ rest)) (sym (list_all-append (λ octet. not (eqb octet 32)) word (32 ∷ rest)) ∙ lacking)).1

-- no word stands before a space
pub no_front : {A : Type 0} (Word : List ℕ → A → Type 0) (octets : List ℕ) → IsTrue (lacks 32 octets) → (value : A) (rest : List ℕ) → IsFront Word octets value rest → ⊥
no_front Word octets lacking value rest front = no_space front.word rest (ap (lacks 32) (sym front.whole) ∙ lacking)

same_words : (octets word rest word' rest' : List ℕ) → octets ≡ word ++ 32 ∷ rest → lacks 32 word ≡ true → octets ≡ word' ++ 32 ∷ rest' → lacks 32 word' ≡ true → (word ≡ word') × (rest ≡ rest')
same_words octets word rest word' rest' is lacking is' lacking' =
    let parts = same_parts 32 word (32 ∷ rest) word' (32 ∷ rest') (sym is ∙ is') lacking refl lacking' refl in
    (parts.0, ap (λ r. drop 1 r) parts.1)

-- what the word before the first space doesn't say, no front says
pub no_word : {A : Type 0} (Word : List ℕ → A → Type 0) → IsWordKind Word → (octets word rest : List ℕ) → IsFirstWord octets word rest → ((value : A) → Word word value → ⊥) → (value : A) (other : List ℕ) → IsFront Word octets value other → ⊥
no_word Word kind octets word rest first refused value other front =
    let same = same_words octets front.word other word rest front.whole (kind.spaceless front.word value front.is) first.whole first.lacking in
    refused value (subst (λ (w : List ℕ). Word w value) same.0 front.is)

pub front_of : {A : Type 0} (Word : List ℕ → A → Type 0) (octets word rest : List ℕ) (value : A) → IsFirstWord octets word rest → Word word value → IsFront Word octets value rest
front_of Word octets word rest value first is = record { word = word; whole = first.whole; is = is }

same_front : {A : Type 0} (Word : List ℕ → A → Type 0) → IsWordKind Word → (octets : List ℕ) (a b : A) (rest rest' : List ℕ) → IsFront Word octets a rest → IsFront Word octets b rest' → (a ≡ b) × (rest ≡ rest')
same_front Word kind octets a b rest rest' front front' =
    let same = same_words octets front.word rest front'.word rest' front.whole (kind.spaceless front.word a front.is) front'.whole (kind.spaceless front'.word b front'.is) in
    (kind.one front'.word a b (subst (λ (w : List ℕ). Word w a) same.0 front.is) front'.is, same.1)

-- behind the front that was read, the rest makes the line
pub next_at : {A : Type 0} (Word : List ℕ → A → Type 0) → IsWordKind Word → (Next : A → List ℕ → Line → Type 0) (octets : List ℕ) (value : A) (rest : List ℕ) → IsFront Word octets value rest → (line : Line) → Then Word Next octets line → Next value rest line
next_at Word kind Next octets value rest front line is =
    let same = same_front Word kind octets is.value value is.rest rest is.front front in
    subst (λ (r : List ℕ). Next value r line) same.1 (subst (λ v. Next v is.rest line) same.0 is.next)

-- ---- no line

-- where no such word stands at the front
pub none_at : {A : Type 0} {Word : List ℕ → A → Type 0} {Next : A → List ℕ → Line → Type 0} {octets : List ℕ} → ((value : A) (rest : List ℕ) → IsFront Word octets value rest → ⊥) → (line : Line) → Then Word Next octets line → ⊥
none_at none line is = none is.value is.rest is.front

-- where the octets are no such word
pub none_last : {A : Type 0} {Word : List ℕ → A → Type 0} {make : A → Line} {octets : List ℕ} → ((value : A) → Word octets value → ⊥) → (line : Line) → Last Word make octets line → ⊥
none_last none line is = none is.value is.is

-- where what is behind the front that was read makes none
pub none_behind : {A : Type 0} {Word : List ℕ → A → Type 0} {Next : A → List ℕ → Line → Type 0} {octets : List ℕ} {value : A} {rest : List ℕ} → IsWordKind Word → IsFront Word octets value rest → ((line : Line) → Next value rest line → ⊥) → (line : Line) → Then Word Next octets line → ⊥
none_behind {A} {Word} {Next} {octets} {value} {rest} kind front none line is = none line (next_at Word kind Next octets value rest front line is)

-- ---- octets are one line at most

abbrev pub OneLine : (List ℕ → Line → Type 0) → Type 0
OneLine Spelled = (octets : List ℕ) (a b : Line) → Spelled octets a → Spelled octets b → a ≡ b

pub one_then : {A : Type 0} (Word : List ℕ → A → Type 0) → IsWordKind Word → (Next : A → List ℕ → Line → Type 0) → ((value : A) → OneLine (Next value)) → OneLine (Then Word Next)
one_then Word kind Next each octets a b is is' =
    each is'.value is'.rest a b (next_at Word kind Next octets is'.value is'.rest is'.front a is) is'.next

pub one_last : {A : Type 0} (Word : List ℕ → A → Type 0) → SaysOne Word → (make : A → Line) → OneLine (Last Word make)
one_last Word one make octets a b is is' = is.made ∙ ap make (one octets is.value is'.value is.is is'.is) ∙ sym is'.made
