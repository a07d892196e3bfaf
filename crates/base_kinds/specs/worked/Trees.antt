-- Schemas, validity, weights, records and limits on worked examples.
use Rattle.std.specs.Prelude.{◌≡◌, ℕ, List, [], ◌∷◌, ◌++◌, true, false, codes, refl, pos, negsuc, Some, None, replicate}
use Rattle.base_kinds.specs.declared.path.Elem.{Elem}
use Rattle.base_kinds.specs.declared.value.Value.{Value}
use Rattle.base_kinds.specs.declared.value.Value.TheVariants as values
use Rattle.base_kinds.specs.declared.operation.Row.{Row}
use Rattle.base_kinds.specs.declared.schema.Shape.TheVariants as shapes
use Rattle.base_kinds.specs.declared.schema.Sort.TheVariants as sorts
use Rattle.base_kinds.specs.worked.Samples.{plain, hostname, text_row, hostname_entry, hostname_tree, bare_node, system_schema, port_schema, port, name_row, speed_row, port_rows, via_row}
use Rattle.base_kinds.specs.Schema.{SchemaNode}
use Rattle.base_kinds.specs.Values.{has_shape}
use Rattle.base_kinds.specs.Valid.{valid, fits}
use Rattle.base_kinds.specs.Weights.{row_weight, tree_weight}
use Rattle.base_kinds.specs.Records.{record_octets}
use Rattle.base_kinds.specs.Rules.{size_of}

-- no rows are valid, and so are two ports and a reference to one of them
no_rows_are_valid : valid port_schema [] ≡ true
no_rows_are_valid = refl

two_ports_are_valid : valid port_schema
    (port_rows (codes "a") ++ (port_rows (codes "b") ++ via_row (codes "b") ∷ [])) ≡
    true
two_ports_are_valid = refl

hostname_is_valid : valid system_schema hostname_tree ≡ true
hostname_is_valid = refl

-- a leaf that the schema doesn't have, a row at a container, and an element with a key that its node lacks
unknown_leaf : valid system_schema
    (text_row (plain (codes "system") ∷ plain (codes "name") ∷ []) (codes "x") ∷ []) ≡
    false
unknown_leaf = refl

row_at_container : valid system_schema (text_row (plain (codes "system") ∷ []) (codes "x") ∷ []) ≡
    false
row_at_container = refl

key_too_many : valid system_schema (text_row (record {
  name =
      codes "system";
  keys = (codes "k", codes "v") ∷ [];
} ∷ plain (codes "config")
    ∷ plain (codes "motd") ∷ []) (codes "x")
    ∷ []) ≡ false
key_too_many = refl

-- a value of another shape, and one out of the shape's range
other_shape : valid port_schema
    (name_row (codes "a") ∷ speed_row (codes "a") (values.Text (codes "10")) ∷ []) ≡
    false
other_shape = refl

out_of_range : valid port_schema
    (name_row (codes "a") ∷ speed_row (codes "a") (values.Uint 256) ∷ []) ≡
    false
out_of_range = refl

-- no key leaf, and a key leaf with another value
no_key_leaf : valid port_schema (speed_row (codes "a") (values.Uint 10) ∷ []) ≡ false
no_key_leaf = refl

other_key_leaf : valid port_schema (record (name_row (codes "a")) {
  value =
      values.Text (codes "b");
} ∷ speed_row (codes "a") (values.Uint 10) ∷ []) ≡ false
other_key_leaf = refl

-- the mandatory leaf of the second port is missing
no_mandatory_leaf : valid port_schema (port_rows (codes "a") ++ name_row (codes "b") ∷ []) ≡ false
no_mandatory_leaf = refl

-- a reference to no port
no_target : valid port_schema (port_rows (codes "a") ++ via_row (codes "b") ∷ []) ≡ false
no_target = refl

-- a third port
too_many_ports : valid port_schema
    (port_rows (codes "a") ++ (port_rows (codes "b") ++ port_rows (codes "c"))) ≡
    false
too_many_ports = refl

-- numbers at the ends of eight signed bits, and decimals with other places
signed_least : has_shape (shapes.Int 8) (values.Int (negsuc 127)) ≡ true
signed_least = refl

signed_too_low : has_shape (shapes.Int 8) (values.Int (negsuc 128)) ≡ false
signed_too_low = refl

signed_most : has_shape (shapes.Int 8) (values.Int (pos 127)) ≡ true
signed_most = refl

signed_too_high : has_shape (shapes.Int 8) (values.Int (pos 128)) ≡ false
signed_too_high = refl

other_places : has_shape (shapes.Dec 2) (values.Dec (pos 15) 1) ≡ false
other_places = refl

enum_listed : has_shape (shapes.Enum (codes "A" ∷ codes "B" ∷ [])) (values.Enum (codes "B")) ≡ true
enum_listed = refl

enum_not_listed : has_shape (shapes.Enum (codes "A" ∷ codes "B" ∷ [])) (values.Enum (codes "C")) ≡
    false
enum_not_listed = refl

-- 64, 16 and 6, 16 and 6, 16 and 8, 2 and 6 times 2
hostname_weight : tree_weight hostname_tree ≡ 146
hostname_weight = refl

-- 13; 4; 1, the path of 40 octets, 4; the path again and 7 for the value
hostname_record : record_octets hostname_entry ≡ 109
hostname_record = refl

-- 16 octets in front, a gate, the record, a gate
hostname_size : size_of (hostname_entry ∷ []) ≡ 127
hostname_size = refl

-- a leaf-list of two texts, of three, of two equal ones, and of another shape
abbrev pub tags_row : List Value → Row
tags_row tags = record { path = plain (codes "tags") ∷ []; value = values.List tags }

two_tags : valid port_schema
    (tags_row (values.Text (codes "x") ∷ values.Text (codes "y") ∷ []) ∷ []) ≡
    true
unfolding Rattle.base_kinds.specs.declared.value.Value.TheBlock.hidden-the_row-Value-0 denote.Hole.Carrier.hidden
two_tags = refl

three_tags : valid port_schema
    (tags_row (values.Text (codes "x") ∷ values.Text (codes "y") ∷ values.Text (codes "z")
    ∷ []) ∷ []) ≡
    false
unfolding Rattle.base_kinds.specs.declared.value.Value.TheBlock.hidden-the_row-Value-0 denote.Hole.Carrier.hidden
three_tags = refl

equal_tags : valid port_schema
    (tags_row (values.Text (codes "x") ∷ values.Text (codes "x") ∷ []) ∷ []) ≡
    false
unfolding Rattle.base_kinds.specs.declared.value.Value.TheBlock.hidden-the_row-Value-0 denote.Hole.Carrier.hidden
equal_tags = refl

tags_of_numbers : valid port_schema (tags_row (values.Uint 1 ∷ []) ∷ []) ≡ false
unfolding Rattle.base_kinds.specs.declared.value.Value.TheBlock.hidden-the_row-Value-0 denote.Hole.Carrier.hidden
tags_of_numbers = refl

-- neither is a leaf-list a single value, nor a leaf a list
single_tag : valid port_schema (text_row (plain (codes "tags") ∷ []) (codes "x") ∷ []) ≡ false
single_tag = refl

list_at_leaf : valid system_schema (record {
  path =
      hostname;
  value = values.List (values.Text (codes "x") ∷ []);
} ∷ []) ≡ false
unfolding Rattle.base_kinds.specs.declared.value.Value.TheBlock.hidden-the_row-Value-0 denote.Hole.Carrier.hidden
list_at_leaf = refl

-- 64; 16 and 4; 8, and for each value 8, 2 and 6
tags_weight : row_weight (tags_row (values.Text (codes "x") ∷ values.Text (codes "y") ∷ [])) ≡ 124
unfolding Rattle.base_kinds.specs.declared.value.Value.TheBlock.hidden-the_row-Value-0 denote.Hole.Carrier.hidden
tags_weight = refl

-- the heaviest text that fits: its row weighs 1,899,998, and with an octet more 1,900,004
heaviest_text : fits (text_row hostname (replicate 316644 120) ∷ []) ≡ true
heaviest_text = refl

too_heavy_text : fits (text_row hostname (replicate 316645 120) ∷ []) ≡ false
too_heavy_text = refl

-- A list in a list: slots, each of at most one port. Two slots may have a port each, and one slot may not have two.
abbrev pub slot_schema : List SchemaNode
slot_schema =
    record (bare_node (codes "slot" ∷ []) sorts.List None) { keys = codes "id" ∷ [] }
    ∷ bare_node (codes "slot" ∷ codes "id" ∷ []) sorts.Leaf (Some shapes.Text)
    ∷ record (bare_node (codes "slot" ∷ codes "port" ∷ []) sorts.List None) {
      keys =
          codes "name" ∷ [];
      maximum = Some 1;
    }
    ∷ bare_node (codes "slot" ∷ codes "port" ∷ codes "name" ∷ []) sorts.Leaf (Some shapes.Text)
    ∷ []

abbrev pub slot : List ℕ → Elem
slot id = record { name = codes "slot"; keys = (codes "id", id) ∷ [] }

abbrev pub slot_row : List ℕ → Row
slot_row id = text_row (slot id ∷ plain (codes "id") ∷ []) id

abbrev pub slot_port_row : List ℕ → List ℕ → Row
slot_port_row id name = text_row (slot id ∷ port name ∷ plain (codes "name") ∷ []) name

one_port_a_slot : valid slot_schema
    (slot_row (codes "1") ∷ slot_port_row (codes "1") (codes "a") ∷ slot_row (codes "2")
    ∷ slot_port_row (codes "2") (codes "a") ∷ []) ≡
    true
one_port_a_slot = refl

two_ports_a_slot : valid slot_schema
    (slot_row (codes "1") ∷ slot_port_row (codes "1") (codes "a")
    ∷ slot_port_row (codes "1") (codes "b") ∷ []) ≡
    false
two_ports_a_slot = refl

-- a mandatory leaf below the root is wanted wherever any row stands, and none is wanted in a tree without rows
abbrev pub named_schema : List SchemaNode
named_schema =
    record (bare_node (codes "name" ∷ []) sorts.Leaf (Some shapes.Text)) { is_mandatory = true }
    ∷ bare_node (codes "note" ∷ []) sorts.Leaf (Some shapes.Text) ∷ []

note_without_name : valid named_schema (text_row (plain (codes "note") ∷ []) (codes "x") ∷ []) ≡
    false
note_without_name = refl

note_with_name : valid named_schema
    (text_row (plain (codes "name") ∷ []) (codes "n")
    ∷ text_row (plain (codes "note") ∷ []) (codes "x") ∷ []) ≡
    true
note_with_name = refl

nothing_named : valid named_schema [] ≡ true
nothing_named = refl
