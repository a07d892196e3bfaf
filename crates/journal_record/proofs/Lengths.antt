-- How long a record is.
use Rattle.std.proofs.Common.{◌≡◌, ℕ, ◌+◌, List, [], ◌∷◌, ◌++◌, length, refl, arith, sum_by}
use Rattle.std.specs.List.{flat_map}
use Rattle.std.specs.Int.{w16, w32, w64, to_be_bytes}
use Rattle.std.proofs.lemmas.List.{length-append}
use Rattle.std.proofs.lemmas.List.Sums.{sum_by-cons}
use Rattle.base_kinds.specs.declared.path.Elem.{Elem}
use Rattle.base_kinds.specs.declared.operation.Row.{Row}
use Rattle.base_kinds.specs.declared.operation.Op.{Op}
use Rattle.base_kinds.specs.declared.entry.Entry.{Entry}
use Rattle.base_kinds.specs.declared.entry.Kind.{Kind}
use Rattle.base_kinds.specs.declared.entry.Kind.TheVariants as kinds
use Rattle.base_kinds.specs.declared.value.Value.{Value, Row_of-Value, end_of-Value, more_of-Value}
use Rattle.base_kinds.specs.declared.value.Value as v
use Rattle.base_kinds.specs.Values.{row_values}
use Rattle.base_kinds.specs.Records.{text_octets, key_octets, elem_octets, path_octets, value_octets, values_octets, row_octets, op_octets, ops_octets, kind_octets, record_octets}
use Rattle.journal_record.specs.Spelling.{text_spelling, key_spelling, keys_spelling, elem_spelling, path_spelling, value_spelling, inner_values, row_spelling, rows_spelling, op_spelling, ops_spelling, kind_spelling, record_of}

pub text_length : (t : List ℕ) → length (text_spelling t) ≡ text_octets t
unfolding text_spelling
text_length t = omega (arith, length-append (to_be_bytes w32 (length t)) t)

all_lengths : {A : Type 0} (spelling : A → List ℕ) (octets : A → ℕ) → ((x : A) → length (spelling x) ≡ octets x) → (xs : List A) → length (flat_map spelling xs) ≡ sum_by octets xs
all_lengths spelling octets each [] = refl
all_lengths spelling octets each (x ∷ xs) = omega (arith, length-append (spelling x) (flat_map spelling xs), each x, all_lengths spelling octets each xs, sum_by-cons octets x xs)

pub key_length : (k : List ℕ × List ℕ) → length (key_spelling k) ≡ key_octets k
unfolding key_spelling
key_length k = omega (arith, length-append (text_spelling k.0) (text_spelling k.1), text_length k.0, text_length k.1)

pub keys_length : (ks : List (List ℕ × List ℕ)) → length (keys_spelling ks) ≡ 2 + sum_by key_octets ks
unfolding keys_spelling
keys_length ks = omega (arith, length-append (to_be_bytes w16 (length ks)) (flat_map key_spelling ks), all_lengths key_spelling key_octets key_length ks)

pub elem_length : (e : Elem) → length (elem_spelling e) ≡ elem_octets e
unfolding elem_spelling
elem_length e = omega (arith, length-append (text_spelling e.name) (keys_spelling e.keys), text_length e.name, keys_length e.keys)

pub path_length : (path : List Elem) → length (path_spelling path) ≡ path_octets path
unfolding path_spelling
path_length path = omega (arith, length-append (to_be_bytes w16 (length path)) (flat_map elem_spelling path), all_lengths elem_spelling elem_octets elem_length path)

mutual
  pub value_length : (x : Value) → length (value_spelling x) ≡ value_octets x
  value_length (v.Bool b) = refl
  value_length (v.Int n) = refl
  value_length (v.Uint n) = refl
  value_length (v.Dec digits places) = refl
  value_length (v.Text t) = omega (arith, text_length t)
  value_length (v.Bin t) = omega (arith, text_length t)
  value_length (v.Enum t) = omega (arith, text_length t)
  value_length (v.List' n inner) = omega (arith, length-append (to_be_bytes w32 (length (row_values inner))) (inner_values inner), inner_length inner)

  inner_length : {n : _} (inner : Row_of-Value n) → length (inner_values inner) ≡ values_octets inner
  inner_length end_of-Value = refl
  inner_length (more_of-Value first others) = omega (arith, length-append (value_spelling first) (inner_values others), value_length first, inner_length others)

pub row_length : (row : Row) → length (row_spelling row) ≡ row_octets row
unfolding row_spelling
row_length row = omega (arith, length-append (path_spelling row.path) (value_spelling row.value), path_length row.path, value_length row.value)

pub rows_length : (rows : List Row) → length (rows_spelling rows) ≡ 4 + sum_by row_octets rows
unfolding rows_spelling
rows_length rows = omega (arith, length-append (to_be_bytes w32 (length rows)) (flat_map row_spelling rows), all_lengths row_spelling row_octets row_length rows)

pub op_length : (op : Op) → length (op_spelling op) ≡ op_octets op
unfolding op_spelling
op_length op = omega (arith, length-append (path_spelling op.path) (rows_spelling op.rows), path_length op.path, rows_length op.rows)

pub ops_length : (ops : List Op) → length (ops_spelling ops) ≡ ops_octets ops
unfolding ops_spelling
ops_length ops = omega (arith, length-append (to_be_bytes w32 (length ops)) (flat_map op_spelling ops), all_lengths op_spelling op_octets op_length ops)

pub kind_length : (kind : Kind) → length (kind_spelling kind) ≡ 1 + kind_octets kind
unfolding kind_spelling
kind_length (kinds.Apply ops) = omega (arith, ops_length ops)
kind_length (kinds.Trial id ops deadline) =
    omega (arith, length-append (text_spelling id) (to_be_bytes w64 deadline ++ ops_spelling ops), length-append (to_be_bytes w64 deadline) (ops_spelling ops), text_length id, ops_length ops)
kind_length kinds.Confirm = refl
kind_length kinds.Cancel = refl
kind_length kinds.Expire = refl
kind_length kinds.Restart = refl
kind_length (kinds.Extend deadline) = refl

pub record_length : (entry : Entry) → length (record_of entry) ≡ record_octets entry
unfolding record_of
record_length entry =
    omega (arith, length-append (to_be_bytes w32 entry.author) (to_be_bytes w64 entry.stamp ++ kind_spelling entry.kind), length-append (to_be_bytes w64 entry.stamp) (kind_spelling entry.kind), kind_length entry.kind)
