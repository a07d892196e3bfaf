-- Where a decimal is cut.
use Rattle.std.specs.Prelude.{◌≡◌, List, ◌∷◌, ◌++◌, ℕ, Bool, false, IsTrue}
use Rattle.std.specs.Fmt.{sign_text}
use Rattle.plain_texts.specs.Splits.{lacks}
use Rattle.value_core.specs.Decimals.{point_text}

-- the octets cut at a `-` at their front and at their first point
pub record HasParts (octets : List ℕ) (negative : Bool) (whole behind : List ℕ) : Type 0 where
  pub spelled : octets ≡ sign_text negative ++ (whole ++ point_text behind)
  pub lacking : IsTrue (lacks 46 whole)
  pub signless : negative ≡ false → (rest : List ℕ) → octets ≡ 45 ∷ rest → ⊥
