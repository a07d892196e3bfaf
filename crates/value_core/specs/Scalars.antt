-- The values that scalars stand for, and how many are few.
use Rattle.std.specs.Prelude.{ℕ}
use Rattle.base_kinds.specs.declared.value.Value.{Value}
use Rattle.base_kinds.specs.declared.value.Value as v
use Rattle.value_core.specs.declared.scalar.Scalar.{Scalar}
use Rattle.value_core.specs.declared.scalar.Scalar.TheVariants as scalars

abbrev pub value_of : Scalar → Value
value_of (scalars.Bool is) = v.Bool is
value_of (scalars.Int number) = v.Int number
value_of (scalars.Uint number) = v.Uint number
value_of (scalars.Dec digits places) = v.Dec digits places
value_of (scalars.Text octets) = v.Text octets.now
value_of (scalars.Bin octets) = v.Bin octets.now
value_of (scalars.Enum octets) = v.Enum octets.now

-- so many values are compared each with each, without memory
abbrev pub few_values : ℕ
few_values = 16
