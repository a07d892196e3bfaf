-- The numbers of the fields of gnmi.proto's messages of a Set, by their names there.
use Rattle.std.specs.Prelude.{ℕ}
use Rattle.base_kinds.specs.declared.operation.Act.{Act}
use Rattle.base_kinds.specs.declared.operation.Act.TheVariants as acts

-- SetRequest
abbrev pub set_prefix : ℕ
set_prefix = 1

abbrev pub set_delete : ℕ
set_delete = 2

abbrev pub set_replace : ℕ
set_replace = 3

abbrev pub set_update : ℕ
set_update = 4

-- Every field with a number above this one is taken as one of `union_replace`, which is 6, whatever it holds.
abbrev pub set_extension : ℕ
set_extension = 5

-- SetResponse
abbrev pub reply_prefix : ℕ
reply_prefix = 1

abbrev pub reply_response : ℕ
reply_response = 2

abbrev pub reply_timestamp : ℕ
reply_timestamp = 4

-- UpdateResult
abbrev pub result_path : ℕ
result_path = 2

abbrev pub result_op : ℕ
result_op = 4

-- UpdateResult.Operation
abbrev pub op_of : Act → ℕ
op_of acts.Delete = 1
op_of acts.Replace = 2
op_of acts.Update = 3
