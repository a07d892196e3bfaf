-- gnmi.proto's Path and PathElem.
use Rattle.std.specs.Prelude.{ℕ, List, [], fold, Option, Some, None, if◌then◌else◌}
use Rattle.std.specs.Option.{is_some, option_map}
use Rattle.std.specs.BTreeMap.{insert_entry}
use Rattle.base_lists.specs.Options.{◌>>=◌}
use Rattle.base_kinds.specs.declared.path.Elem.{Elem}
use Rattle.base_kinds.specs.Paths.{text_cmp}
use Rattle.pb_wire.specs.Values.{last_octets, map_key, map_value}
use Rattle.gnmi_kinds.specs.declared.path.GnmiPath.{GnmiPath}
use Rattle.gnmi_data_msg.specs.Numbers.{path_element, path_origin, path_elem, path_target, elem_name, elem_key}
use Rattle.gnmi_data_msg.specs.Parts.{fields_in, messages_in, are_texts, single_text}

-- an entry of the map of keys (protobuf.dev, "Encoding", "Maps"): an absent key or value is empty
unfoldable pub entry_of : List ℕ → Option (List ℕ × List ℕ)
entry_of octets = do
  fields ← fields_in octets
  key ← single_text octets map_key fields
  value ← single_text octets map_value fields
  Some (key, value)

-- the keys by their names: of entries with one name the last counts
abbrev pub keys_of : List (List ℕ × List ℕ) → List (List ℕ × List ℕ)
keys_of entries = fold (λ keys entry. insert_entry text_cmp keys entry.0 entry.1) [] entries

unfoldable pub elem_of : List ℕ → Option Elem
elem_of octets = do
  fields ← fields_in octets
  name ← single_text octets elem_name fields
  keys ← option_map keys_of (messages_in entry_of octets elem_key fields)
  Some (record { name = name; keys = keys })

-- the path that the octets of a Path are
unfoldable pub path_of : List ℕ → Option GnmiPath
path_of octets = do
  fields ← fields_in octets
  origin ← single_text octets path_origin fields
  elems ← messages_in elem_of octets path_elem fields
  target ← single_text octets path_target fields
  if are_texts octets path_element fields
      then Some (record {
        path = elems;
        origin = origin;
        target = target;
        old_element = is_some (last_octets octets path_element fields);
      })
      else None
