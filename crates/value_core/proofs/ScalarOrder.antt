-- Scalars are equal exactly where their values are.
use Rattle.std.proofs.Common.{◌≡◌, refl, sym, ◌∙◌}
use Rattle.std.specs.Ordering.{is_eq}
use Rattle.std.specs.Cmp.{IsTotalOrder}
use Rattle.base_kinds.specs.Values.{same_scalar}
use Rattle.value_core.specs.declared.scalar.Scalar.{Scalar}
use Rattle.value_core.specs.declared.scalar.Scalar.TheVariants as scalars
use Rattle.value_core.specs.contracts.scalar.ScalarOrd.TheImpl.{ghosts as order}
use Rattle.value_core.specs.contracts.scalar.ScalarOrd.TheImpl.Laws as laws
use Rattle.value_core.specs.contracts.scalar.ScalarPartialEq.TheImpl.{ghosts as equality}
use Rattle.value_core.specs.Scalars.{value_of}

pub equal_scalars : (a b : Scalar) → equality.eq a b ≡ same_scalar (value_of a) (value_of b)
equal_scalars (scalars.Bool a) (scalars.Bool b) = refl
equal_scalars (scalars.Bool a) (scalars.Int b) = refl
equal_scalars (scalars.Bool a) (scalars.Uint b) = refl
equal_scalars (scalars.Bool a) (scalars.Dec b q) = refl
equal_scalars (scalars.Bool a) (scalars.Text b) = refl
equal_scalars (scalars.Bool a) (scalars.Bin b) = refl
equal_scalars (scalars.Bool a) (scalars.Enum b) = refl
equal_scalars (scalars.Int a) (scalars.Bool b) = refl
equal_scalars (scalars.Int a) (scalars.Int b) = refl
equal_scalars (scalars.Int a) (scalars.Uint b) = refl
equal_scalars (scalars.Int a) (scalars.Dec b q) = refl
equal_scalars (scalars.Int a) (scalars.Text b) = refl
equal_scalars (scalars.Int a) (scalars.Bin b) = refl
equal_scalars (scalars.Int a) (scalars.Enum b) = refl
equal_scalars (scalars.Uint a) (scalars.Bool b) = refl
equal_scalars (scalars.Uint a) (scalars.Int b) = refl
equal_scalars (scalars.Uint a) (scalars.Uint b) = refl
equal_scalars (scalars.Uint a) (scalars.Dec b q) = refl
equal_scalars (scalars.Uint a) (scalars.Text b) = refl
equal_scalars (scalars.Uint a) (scalars.Bin b) = refl
equal_scalars (scalars.Uint a) (scalars.Enum b) = refl
equal_scalars (scalars.Dec a p) (scalars.Bool b) = refl
equal_scalars (scalars.Dec a p) (scalars.Int b) = refl
equal_scalars (scalars.Dec a p) (scalars.Uint b) = refl
equal_scalars (scalars.Dec a p) (scalars.Dec b q) = refl
equal_scalars (scalars.Dec a p) (scalars.Text b) = refl
equal_scalars (scalars.Dec a p) (scalars.Bin b) = refl
equal_scalars (scalars.Dec a p) (scalars.Enum b) = refl
equal_scalars (scalars.Text a) (scalars.Bool b) = refl
equal_scalars (scalars.Text a) (scalars.Int b) = refl
equal_scalars (scalars.Text a) (scalars.Uint b) = refl
equal_scalars (scalars.Text a) (scalars.Dec b q) = refl
equal_scalars (scalars.Text a) (scalars.Text b) = refl
equal_scalars (scalars.Text a) (scalars.Bin b) = refl
equal_scalars (scalars.Text a) (scalars.Enum b) = refl
equal_scalars (scalars.Bin a) (scalars.Bool b) = refl
equal_scalars (scalars.Bin a) (scalars.Int b) = refl
equal_scalars (scalars.Bin a) (scalars.Uint b) = refl
equal_scalars (scalars.Bin a) (scalars.Dec b q) = refl
equal_scalars (scalars.Bin a) (scalars.Text b) = refl
equal_scalars (scalars.Bin a) (scalars.Bin b) = refl
equal_scalars (scalars.Bin a) (scalars.Enum b) = refl
equal_scalars (scalars.Enum a) (scalars.Bool b) = refl
equal_scalars (scalars.Enum a) (scalars.Int b) = refl
equal_scalars (scalars.Enum a) (scalars.Uint b) = refl
equal_scalars (scalars.Enum a) (scalars.Dec b q) = refl
equal_scalars (scalars.Enum a) (scalars.Text b) = refl
equal_scalars (scalars.Enum a) (scalars.Bin b) = refl
equal_scalars (scalars.Enum a) (scalars.Enum b) = refl

pub scalars_total : IsTotalOrder order.cmp
scalars_total = laws.total-law

pub tied_scalars : (a b : Scalar) → is_eq (order.cmp a b) ≡ same_scalar (value_of a) (value_of b)
tied_scalars a b = sym (laws.matches_eq-law a b) ∙ equal_scalars a b
