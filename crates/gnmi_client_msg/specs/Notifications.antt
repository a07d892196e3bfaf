-- What a Notification of a Get tells of a tree (gNMI 2.1). `None` stands where it tells what has no place in one: a stamp below
-- 0, or a value that is neither a scalar nor a list of scalars.
use Rattle.std.specs.Prelude.{ℕ, ℤ, pos, negsuc, List, [], ◌++◌, map, Option, Some, None}
use Rattle.base_lists.specs.Options.{◌>>=◌}
use Rattle.base_kinds.specs.declared.path.Elem.{Elem}
use Rattle.base_kinds.specs.declared.operation.Row.{Row}
use Rattle.base_kinds.specs.declared.request.Given.{Given}
use Rattle.base_kinds.specs.declared.request.Given.TheVariants as given
use Rattle.base_kinds.specs.declared.request.Note.{Note}
use Rattle.base_kinds.specs.declared.value.Value.{Value}
use Rattle.gnmi_kinds.specs.declared.path.GnmiPath.{GnmiPath}
use Rattle.gnmi_data_msg.specs.Parts.{each}
use Rattle.gnmi_note_msg.specs.Reading.{UpdateRead, NoteRead, note_of}

-- an int64 that isn't below 0
abbrev pub not_below_0 : ℤ → Option ℕ
not_below_0 (pos n) = Some n
not_below_0 (negsuc n) = None

-- the value of a leaf or a leaf-list
abbrev pub leaf_value : Given → Option Value
leaf_value (given.Scalar value) = Some value
leaf_value (given.Json json) = None
leaf_value given.Missing = None

-- The row of an update. Of its path the elements count; its duplicates are left out.
abbrev pub row_in : UpdateRead → Option Row
row_in update = do
  value ← leaf_value update.value
  Some (record { path = update.path.path; value = value })

abbrev pub path_in : GnmiPath → List Elem
path_in path = path.path

-- the elements that stand before those of each path
abbrev pub prefix_in : Option GnmiPath → List Elem
prefix_in None = []
prefix_in (Some prefix) = prefix.path

abbrev pub row_behind : List Elem → Row → Row
row_behind prefix row = record { path = prefix ++ row.path; value = row.value }

abbrev pub path_behind : List Elem → List Elem → List Elem
path_behind prefix path = prefix ++ path

-- the stamp, a row for each update and the paths that are gone, in their order
abbrev pub note_in : NoteRead → Option Note
note_in read = do
  stamp ← not_below_0 read.stamp
  rows ← each row_in read.updates
  Some (record {
    stamp = stamp;
    deletes = map (path_behind (prefix_in read.prefix)) (map path_in read.deletes);
    updates = map (row_behind (prefix_in read.prefix)) rows;
  })

-- what the octets of a Notification tell
abbrev pub told_of : List ℕ → Option Note
told_of octets = note_of octets >>= note_in
