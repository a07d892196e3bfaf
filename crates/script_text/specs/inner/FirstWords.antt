-- The first word of a line, as it is taken off.
use Rattle.std.specs.Prelude.{◌≡◌, ℕ, List, ◌∷◌, ◌++◌, true, IsTrue}
use Rattle.plain_texts.specs.Splits.{lacks}

-- the word before the first space, and what follows that space
pub record IsFirstWord (octets word rest : List ℕ) : Type 0 where
  pub whole : octets ≡ word ++ 32 ∷ rest
  pub lacking : IsTrue (lacks 32 word)

-- the octets say one thing at most
abbrev pub SaysOne : {A : Type 0} → (List ℕ → A → Type 0) → Type 0
SaysOne {A} Word = (text : List ℕ) (a b : A) → Word text a → Word text b → a ≡ b

-- a word that a space may follow: it says one thing at most, and has no space in it
pub record IsWordKind {A : Type 0} (Word : List ℕ → A → Type 0) : Type 0 where
  pub one : SaysOne Word
  pub spaceless : (text : List ℕ) (a : A) → Word text a → lacks 32 text ≡ true
