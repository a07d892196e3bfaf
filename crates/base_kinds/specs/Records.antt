-- How many octets an entry has as a record of the journal, whose format is this project's own. Numbers have 8 octets,
-- authors, counts and lengths of texts 4, the number of elements of a path and of keys of an element 2, and what tells a
-- variant 1.
use Rattle.std.specs.Prelude.{ℕ, ◌+◌, List, length, min, sum_by}
use Rattle.base_kinds.specs.declared.path.Elem.{Elem}
use Rattle.base_kinds.specs.declared.operation.Row.{Row}
use Rattle.base_kinds.specs.declared.operation.Op.{Op}
use Rattle.base_kinds.specs.declared.entry.Entry.{Entry}
use Rattle.base_kinds.specs.declared.entry.Kind.{Kind}
use Rattle.base_kinds.specs.declared.entry.Kind.TheVariants as kinds
use Rattle.base_kinds.specs.declared.value.Value.{Value, Row_of-Value, end_of-Value, more_of-Value}
use Rattle.base_kinds.specs.declared.value.Value as v
use Rattle.base_kinds.specs.Limits.{bare_record_octets, greatest_count}

-- a length and the octets
abbrev pub text_octets : List ℕ → ℕ
text_octets text = 4 + length text

abbrev pub key_octets : List ℕ × List ℕ → ℕ
key_octets key = text_octets key.0 + text_octets key.1

-- a name, a count and the keys
abbrev pub elem_octets : Elem → ℕ
elem_octets elem = text_octets elem.name + 2 + sum_by key_octets elem.keys

-- a count and the elements
abbrev pub path_octets : List Elem → ℕ
path_octets path = 2 + sum_by elem_octets path

-- a tag, and then the value: a decimal has its digits and its places, a list a count and its values
abbrev mutual
  pub value_octets : Value → ℕ
  value_octets (v.Bool b) = 2
  value_octets (v.Int number) = 9
  value_octets (v.Uint number) = 9
  value_octets (v.Dec digits places) = 10
  value_octets (v.Text text) = 1 + text_octets text
  value_octets (v.Bin octets) = 1 + text_octets octets
  value_octets (v.Enum text) = 1 + text_octets text
  value_octets (v.List' n values) = 5 + values_octets values

  pub values_octets : {n : _} → Row_of-Value n → ℕ
  values_octets end_of-Value = 0
  values_octets (more_of-Value value others) = value_octets value + values_octets others

abbrev pub row_octets : Row → ℕ
row_octets row = path_octets row.path + value_octets row.value

-- the act, the path, a count and the rows
abbrev pub op_octets : Op → ℕ
op_octets op = 1 + path_octets op.path + 4 + sum_by row_octets op.rows

-- a count and the operations
abbrev pub ops_octets : List Op → ℕ
ops_octets ops = 4 + sum_by op_octets ops

abbrev pub kind_octets : Kind → ℕ
kind_octets (kinds.Apply ops) = ops_octets ops
kind_octets (kinds.Trial id ops deadline) = text_octets id + 8 + ops_octets ops
kind_octets kinds.Confirm = 0
kind_octets kinds.Cancel = 0
kind_octets kinds.Expire = 0
kind_octets kinds.Restart = 0
kind_octets (kinds.Extend deadline) = 8

-- author, stamp, the kind's number, and what the kind has
abbrev pub record_octets : Entry → ℕ
record_octets entry = bare_record_octets + kind_octets entry.kind

-- a count that stops at the greatest number of 64 bits
abbrev pub counted : ℕ → ℕ
counted count = min count greatest_count
