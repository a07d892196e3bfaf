-- Reading from the left: what stands at the front, and the octets after it, if there is such a
-- part. What a record is stands in Spelling.antt, and each step is proved to agree with it.
use Rattle.std.specs.Prelude.{◌≡◌, ℕ, zero, suc, List, [], ◌∷◌, true, false, ◌&&◌, length, take, drop, nat_lt, nat_le, ◌==◌, if◌then◌else◌, Option, Some, None, Result, Ok, Err}
use Rattle.std.specs.Int.{Width, w16, w32, w64, byte_len, from_be_bytes, cast_signed}
use Rattle.std.specs.Str.{is_utf8}
use Rattle.base_lists.specs.Options.{◌>>=◌}
use Rattle.base_kinds.specs.declared.path.Elem.{Elem}
use Rattle.base_kinds.specs.declared.operation.Row.{Row}
use Rattle.base_kinds.specs.declared.operation.Op.{Op}
use Rattle.base_kinds.specs.declared.operation.Act.{Act}
use Rattle.base_kinds.specs.declared.operation.Act.TheVariants.{Delete, Replace, Update}
use Rattle.base_kinds.specs.declared.entry.Entry.{Entry}
use Rattle.base_kinds.specs.declared.entry.Kind.{Kind}
use Rattle.base_kinds.specs.declared.entry.Kind.TheVariants as kinds
use Rattle.base_kinds.specs.declared.value.Value.{Value}
use Rattle.base_kinds.specs.declared.value.Value.TheVariants as values
use Rattle.base_kinds.specs.Limits.{most_elements, most_fraction_digits}
use Rattle.base_kinds.specs.Paths.{text_cmp}
use Rattle.base_kinds.specs.Rising.{row_cmp}
use Rattle.base_kinds.specs.Legal.{has_fit_rows}
use Rattle.base_lists.specs.Rising.{rises}
use Rattle.journal_record.specs.declared.fault.RecordFault.{RecordFault}
use Rattle.journal_record.specs.declared.fault.RecordFault.TheVariants as faults

-- a failure says that there is no such part, or that memory ran out
abbrev pub Fails : {Y : Type 0} → RecordFault → Option Y → Type 0
Fails faults.NoRecord read = read ≡ None
Fails faults.NoMemory read = Unit {0}

-- what a function returned, seen by view, is what is read, unless memory ran out
abbrev pub AnswersPart : {X Y : Type 0} → (X → Y) → Result X RecordFault → Option Y → Type 0
AnswersPart view (Ok x) read = read ≡ Some (view x)
AnswersPart view (Err e) read = Fails e read

abbrev pub number_at : Width → List ℕ → Option (ℕ × List ℕ)
number_at w octets =
    if nat_lt (length octets) (byte_len w) then None
    else Some (from_be_bytes w (take (byte_len w) octets), drop (byte_len w) octets)

-- a length, and so many octets
unfoldable pub octets_at : List ℕ → Option (List ℕ × List ℕ)
octets_at octets = do
  n ← number_at w32 octets
  if nat_lt (length n.1) n.0 then None else Some (take n.0 n.1, drop n.0 n.1)

unfoldable pub text_at : List ℕ → Option (List ℕ × List ℕ)
text_at octets = do
  t ← octets_at octets
  if is_utf8 t.0 then Some t else None

-- so many parts, one after the other
abbrev pub many_at : {A : Type 0} → (List ℕ → Option (A × List ℕ)) → ℕ → List ℕ
    → Option (List A × List ℕ)
many_at one zero octets = Some ([], octets)
many_at {A} one (suc count) octets = do
  first ← one octets
  others ← many_at one count first.1
  Some (first.0 ∷ others.0, others.1)

-- a count, and so many parts
abbrev pub listed_at : {A : Type 0} → Width → (List ℕ → Option (A × List ℕ)) → List ℕ
    → Option (List A × List ℕ)
listed_at w one octets = do
  n ← number_at w octets
  many_at one n.0 n.1

unfoldable pub key_at : List ℕ → Option ((List ℕ × List ℕ) × List ℕ)
key_at octets = do
  name ← text_at octets
  value ← text_at name.1
  Some ((name.0, value.0), value.1)

unfoldable pub keys_at : List ℕ → Option (List (List ℕ × List ℕ) × List ℕ)
keys_at octets = do
  keys ← listed_at w16 key_at octets
  if rises (λ a b. text_cmp a.0 b.0) keys.0 then Some keys else None

unfoldable pub elem_at : List ℕ → Option (Elem × List ℕ)
elem_at octets = do
  name ← text_at octets
  keys ← keys_at name.1
  Some (record { name = name.0; keys = keys.0 }, keys.1)

unfoldable pub path_at : List ℕ → Option (List Elem × List ℕ)
path_at octets = do
  n ← number_at w16 octets
  if nat_le n.0 most_elements then many_at elem_at n.0 n.1 else None

abbrev pub bool_at : List ℕ → Option (Value × List ℕ)
bool_at [] = None
bool_at (octet ∷ rest) =
    if octet == 0 then Some (values.Bool false, rest)
    else (if octet == 1 then Some (values.Bool true, rest) else None)

-- how many digits stand behind the point
abbrev pub places_at : List ℕ → Option (ℕ × List ℕ)
places_at [] = None
places_at (places ∷ rest) =
    if nat_le 1 places && nat_le places most_fraction_digits then Some (places, rest) else None

unfoldable pub dec_at : List ℕ → Option (Value × List ℕ)
dec_at octets = do
  digits ← number_at w64 octets
  places ← places_at digits.1
  Some (values.Dec (cast_signed w64 digits.0) places.0, places.1)

abbrev pub int_at : List ℕ → Option (Value × List ℕ)
int_at octets = do
  n ← number_at w64 octets
  Some (values.Int (cast_signed w64 n.0), n.1)

abbrev pub uint_at : List ℕ → Option (Value × List ℕ)
uint_at octets = do
  n ← number_at w64 octets
  Some (values.Uint n.0, n.1)

abbrev pub text_value_at : List ℕ → Option (Value × List ℕ)
text_value_at octets = do
  t ← text_at octets
  Some (values.Text t.0, t.1)

abbrev pub bin_at : List ℕ → Option (Value × List ℕ)
bin_at octets = do
  t ← octets_at octets
  Some (values.Bin t.0, t.1)

abbrev pub enum_at : List ℕ → Option (Value × List ℕ)
enum_at octets = do
  t ← text_at octets
  Some (values.Enum t.0, t.1)

-- what follows the tag of a value that is no list
unfoldable pub scalar_at : ℕ → List ℕ → Option (Value × List ℕ)
scalar_at tag octets =
    if tag == 1 then bool_at octets
    else if tag == 2 then int_at octets
    else if tag == 3 then uint_at octets
    else if tag == 4 then dec_at octets
    else if tag == 5 then text_value_at octets
    else if tag == 6 then bin_at octets
    else if tag == 7 then enum_at octets
    else None

unfoldable pub item_at : List ℕ → Option (Value × List ℕ)
item_at [] = None
item_at (tag ∷ rest) = scalar_at tag rest

unfoldable pub list_at : List ℕ → Option (Value × List ℕ)
list_at octets = do
  items ← listed_at w32 item_at octets
  Some (values.List items.0, items.1)

unfoldable pub value_at : List ℕ → Option (Value × List ℕ)
value_at [] = None
value_at (tag ∷ rest) = if tag == 8 then list_at rest else scalar_at tag rest

unfoldable pub row_at : List ℕ → Option (Row × List ℕ)
row_at octets = do
  path ← path_at octets
  value ← value_at path.1
  Some (record { path = path.0; value = value.0 }, value.1)

unfoldable pub rows_at : List ℕ → Option (List Row × List ℕ)
rows_at octets = do
  rows ← listed_at w32 row_at octets
  if rises row_cmp rows.0 then Some rows else None

abbrev pub act_at : List ℕ → Option (Act × List ℕ)
act_at [] = None
act_at (octet ∷ rest) =
    if octet == 1 then Some (Delete, rest)
    else if octet == 2 then Some (Replace, rest)
    else if octet == 3 then Some (Update, rest)
    else None

unfoldable pub op_parts_at : List ℕ → Option (Op × List ℕ)
op_parts_at octets = do
  act ← act_at octets
  path ← path_at act.1
  rows ← rows_at path.1
  Some (record { act = act.0; path = path.0; rows = rows.0 }, rows.1)

unfoldable pub op_at : List ℕ → Option (Op × List ℕ)
op_at octets = do
  op ← op_parts_at octets
  if has_fit_rows op.0.act op.0.rows then Some op else None

unfoldable pub ops_at : List ℕ → Option (List Op × List ℕ)
ops_at octets = listed_at w32 op_at octets

unfoldable pub trial_at : List ℕ → Option (Kind × List ℕ)
trial_at octets = do
  id ← text_at octets
  deadline ← number_at w64 id.1
  ops ← ops_at deadline.1
  Some (kinds.Trial id.0 ops.0 deadline.0, ops.1)

abbrev pub apply_at : List ℕ → Option (Kind × List ℕ)
apply_at octets = do
  ops ← ops_at octets
  Some (kinds.Apply ops.0, ops.1)

abbrev pub extend_at : List ℕ → Option (Kind × List ℕ)
extend_at octets = do
  n ← number_at w64 octets
  Some (kinds.Extend n.0, n.1)

-- what follows the number of a kind
unfoldable pub content_at : ℕ → List ℕ → Option (Kind × List ℕ)
content_at number octets =
    if number == 1 then apply_at octets
    else if number == 2 then trial_at octets
    else if number == 3 then Some (kinds.Confirm, octets)
    else if number == 4 then Some (kinds.Cancel, octets)
    else if number == 5 then Some (kinds.Expire, octets)
    else if number == 6 then Some (kinds.Restart, octets)
    else if number == 7 then extend_at octets
    else None

unfoldable pub kind_at : List ℕ → Option (Kind × List ℕ)
kind_at [] = None
kind_at (number ∷ rest) = content_at number rest

-- the entry with this number
unfoldable pub entry_at : ℕ → List ℕ → Option (Entry × List ℕ)
entry_at number octets = do
  author ← number_at w32 octets
  stamp ← number_at w64 author.1
  kind ← kind_at stamp.1
  Some (record { number = number; author = author.0; stamp = stamp.0; kind = kind.0 }, kind.1)
