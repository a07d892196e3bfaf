-- The message of a Set: an update of /interfaces/interface[name=..]/config/mtu (gnmi.proto; a number stands before each
-- field's octets).
use Rattle.std.specs.Prelude.{ℕ, List, ◌++◌, codes}
use Rattle.pb_wire.specs.Writing.{octets_field, varint_field}
use Rattle.generated_sets.specs.Draws.{interface_of, mtu_of}

-- PathElem: 1 is `name`
abbrev pub element : List ℕ → List ℕ
element name = octets_field 1 name

-- and 2 is `key`, a map whose entries have a key, 1, and a value, 2
abbrev pub element_with_key : List ℕ → List ℕ → List ℕ → List ℕ
element_with_key name key value =
    element name ++ octets_field 2 (octets_field 1 key ++ octets_field 2 value)

-- Path: 3 is `elem`
abbrev pub path_of_mtu : List ℕ → List ℕ
path_of_mtu interface =
    octets_field 3 (element (codes "interfaces"))
    ++ octets_field 3 (element_with_key (codes "interface") (codes "name") interface)
    ++ octets_field 3 (element (codes "config"))
    ++ octets_field 3 (element (codes "mtu"))

-- Update: 1 is `path`, 3 is `val`; and 3 is `uint_val` of TypedValue
abbrev pub update_of_mtu : List ℕ → ℕ → List ℕ
update_of_mtu interface mtu =
    octets_field 1 (path_of_mtu interface) ++ octets_field 3 (varint_field 3 mtu)

-- SetRequest: 4 is `update`
abbrev pub set_request : ℕ → List ℕ
set_request drawn = octets_field 4 (update_of_mtu (interface_of drawn) (mtu_of drawn))
