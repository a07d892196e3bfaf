-- What of a request's paths this target doesn't support (gNMI 2.7).
use Rattle.std.specs.Prelude.{ℕ, List, [], Bool, true, false, not, ◌||◌, codes}
use Rattle.std.specs.Str.{bytes_eq}
use Rattle.base_kinds.specs.declared.path.Elem.{Elem}
use Rattle.gnmi_kinds.specs.declared.path.GnmiPath.{GnmiPath}

-- names are of the schema that has no other name, or is named so
abbrev pub is_known_origin : List ℕ → Bool
is_known_origin origin = bytes_eq origin [] || bytes_eq origin (codes "openconfig")

-- names of another schema, or texts in the deprecated field `element`
abbrev pub is_foreign : GnmiPath → Bool
is_foreign path = not (is_known_origin path.origin) || path.old_element

abbrev pub path_in : GnmiPath → List Elem
path_in path = path.path
