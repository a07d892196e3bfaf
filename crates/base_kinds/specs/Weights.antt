-- The weight of a tree: a bound on what its rows take in JSON (this project's own measure).
use Rattle.std.specs.Prelude.{ℕ, ◌+◌, ◌*◌, List, length, sum_by}
use Rattle.base_kinds.specs.declared.path.Elem.{Elem}
use Rattle.base_kinds.specs.declared.operation.Row.{Row}
use Rattle.base_kinds.specs.declared.value.Value.{Value, Row_of-Value, end_of-Value, more_of-Value}
use Rattle.base_kinds.specs.declared.value.Value as v

abbrev mutual
  pub value_weight : Value → ℕ
  value_weight (v.Bool b) = 8
  value_weight (v.Int number) = 32
  value_weight (v.Uint number) = 32
  value_weight (v.Dec digits places) = 32
  value_weight (v.Text text) = 2 + 6 * length text
  value_weight (v.Bin octets) = 8 + 2 * length octets
  value_weight (v.Enum text) = 2 + 6 * length text
  value_weight (v.List' n values) = 8 + values_weight values

  -- each value of a list has its own weight and 8
  pub values_weight : {n : _} → Row_of-Value n → ℕ
  values_weight end_of-Value = 0
  values_weight (more_of-Value value others) = value_weight value + 8 + values_weight others

abbrev pub key_weight : List ℕ × List ℕ → ℕ
key_weight key = 16 + length key.0 + length key.1

abbrev pub elem_weight : Elem → ℕ
elem_weight elem = 16 + length elem.name + sum_by key_weight elem.keys

abbrev pub row_weight : Row → ℕ
row_weight row = 64 + sum_by elem_weight row.path + value_weight row.value

abbrev pub tree_weight : List Row → ℕ
tree_weight rows = sum_by row_weight rows
