-- Values at a small schema, worked out by hand from the rules.
use Rattle.std.specs.Prelude.{◌≡◌, ℕ, pos, negsuc, List, [], ◌∷◌, codes, false, true, Option, Some, None, Ok, Err, refl}
use Rattle.std.specs.Fmt.{digits}
use Rattle.std.specs.Str.{is_utf8, chars}
use Rattle.serde_json.specs.Read.{max_depth}
use Rattle.serde_json.specs.Data.{null, boolean, number, unsigned, negative, string, array, object, no_items, item, Members, no_members, member}
use Rattle.base_kinds.specs.declared.path.Elem.{Elem}
use Rattle.base_kinds.specs.declared.operation.Row.{Row}
use Rattle.base_kinds.specs.declared.schema.Shape.{Shape}
use Rattle.base_kinds.specs.declared.schema.Shape.TheVariants as shapes
use Rattle.base_kinds.specs.declared.schema.Sort.{Sort}
use Rattle.base_kinds.specs.declared.schema.Sort.TheVariants as sorts
use Rattle.base_kinds.specs.declared.value.Value.TheVariants as values
use Rattle.base_kinds.specs.Limits.{most_json_depth}
use Rattle.base_kinds.specs.Schema.{SchemaNode}
use Rattle.json_rows.specs.declared.fault.RowsFault.TheVariants.{NotInSchema, BadValue}
use Rattle.plain_texts.specs.Numbers.{natural_of}
use Rattle.value_core.specs.Decimals.{decimal_of}
use Rattle.value_core.specs.Integers.{integer_of}
use Rattle.json_rows.specs.Leaves.{leaf_of}
use Rattle.json_rows.specs.Members.{module_in, name_in}
use Rattle.json_rows.specs.Rows.{rows_of_data, rows_of}
use Rattle.serde_json.proofs.OnLiterals.{serde_json_on_literals}

abbrev node : List (List ℕ) → Sort → Option Shape → List (List ℕ) → SchemaNode
node names sort shape keys =
    record {
      names = names;
      sort = sort;
      shape = shape;
      keys = keys;
      module_name = codes "m";
      is_mandatory = false;
      reference = None;
      maximum = None;
    }

-- a container `c` with a leaf `b`, a leaf-list `t`, and a list `l` with the keys `k` and `j`, and a leaf `v`
abbrev schema : List SchemaNode
schema =
    node (codes "c" ∷ []) sorts.Container None [] ∷
    node (codes "c" ∷ codes "b" ∷ []) sorts.Leaf (Some (shapes.Uint 8)) [] ∷
    node (codes "c" ∷ codes "t" ∷ []) sorts.LeafList (Some shapes.Text) [] ∷
    node (codes "c" ∷ codes "l" ∷ []) sorts.List None (codes "k" ∷ codes "j" ∷ []) ∷
    node (codes "c" ∷ codes "l" ∷ codes "k" ∷ []) sorts.Leaf (Some shapes.Text) [] ∷
    node (codes "c" ∷ codes "l" ∷ codes "j" ∷ []) sorts.Leaf (Some (shapes.Int 16)) [] ∷
    node (codes "c" ∷ codes "l" ∷ codes "v" ∷ []) sorts.Leaf (Some shapes.Bool) [] ∷ []

abbrev plain : List ℕ → Elem
plain name = record { name = name; keys = [] }

abbrev row_b : Row
row_b = record { path = plain (codes "c") ∷ plain (codes "b") ∷ []; value = values.Uint 7 }

abbrev one_b : Members
one_b = member (codes "b") (number (unsigned 7)) no_members

-- at a container
by_name : rows_of_data schema (plain (codes "c") ∷ []) (Some (object one_b)) ≡ Ok (row_b ∷ [])
by_name = refl

-- at the root, whose members are the top nodes
at_the_root : rows_of_data schema []
    (Some (object (member (codes "m:c") (object one_b) no_members))) ≡ Ok (row_b ∷ [])
at_the_root = refl

no_child : rows_of_data schema (plain (codes "c") ∷ [])
    (Some (object (member (codes "x") null no_members))) ≡ Err NotInSchema
no_child = refl

other_module : rows_of_data schema (plain (codes "c") ∷ [])
    (Some (object (member (codes "x:b") (number (unsigned 7)) no_members))) ≡ Err NotInSchema
other_module = refl

too_great : rows_of_data schema (plain (codes "c") ∷ [])
    (Some (object (member (codes "b") (number (unsigned 256)) no_members))) ≡ Err BadValue
too_great = refl

both_spellings : rows_of_data schema (plain (codes "c") ∷ [])
    (Some (object (member (codes "b") (number (unsigned 7))
    (member (codes "m:b") (number (unsigned 7)) no_members)))) ≡ Err BadValue
both_spellings = refl

no_path : rows_of_data schema (plain (codes "d") ∷ []) None ≡ Err NotInSchema
no_path = refl

-- a leaf-list
texts : rows_of_data schema (plain (codes "c") ∷ plain (codes "t") ∷ [])
    (Some (array (item (string (codes "x")) (item (string (codes "y")) no_items))))
    ≡ Ok (record {
      path = plain (codes "c") ∷ plain (codes "t") ∷ [];
      value = values.List (values.Text (codes "x") ∷ values.Text (codes "y") ∷ []);
    } ∷ [])
texts = refl

no_texts : rows_of_data schema (plain (codes "c") ∷ plain (codes "t") ∷ [])
    (Some (array no_items)) ≡ Ok []
no_texts = refl

equal_texts : rows_of_data schema (plain (codes "c") ∷ plain (codes "t") ∷ [])
    (Some (array (item (string (codes "x")) (item (string (codes "x")) no_items)))) ≡ Err BadValue
equal_texts = refl

-- an entry, whose keys stand in the order of their names
abbrev entry : Elem
entry = record { name = codes "l"; keys = (codes "j", codes "-1") ∷ (codes "k", codes "x") ∷ [] }

abbrev below_entry : List ℕ → List Elem
below_entry name = plain (codes "c") ∷ entry ∷ plain name ∷ []

abbrev keyed : Members → Members
keyed others = member (codes "j") (number (negative (negsuc 0)))
    (member (codes "k") (string (codes "x")) others)

abbrev key_rows : List Row
key_rows = record { path = below_entry (codes "j"); value = values.Int (negsuc 0) }
    ∷ record { path = below_entry (codes "k"); value = values.Text (codes "x") } ∷ []

abbrev list_path : List Elem
list_path = plain (codes "c") ∷ plain (codes "l") ∷ []

one_entry : rows_of_data schema list_path (Some (array (item (object (keyed no_members)) no_items)))
    ≡ Ok key_rows
unfolding digits
one_entry = refl

equal_keys : rows_of_data schema list_path
    (Some (array (item (object (keyed no_members)) (item (object (keyed no_members)) no_items))))
    ≡ Err BadValue
unfolding digits
equal_keys = refl

a_missing_key : rows_of_data schema list_path
    (Some (array (item (object (member (codes "k") (string (codes "x")) no_members)) no_items)))
    ≡ Err BadValue
a_missing_key = refl

-- the keys are read before the other members are looked at
keys_come_first : rows_of_data schema list_path
    (Some (array (item (object (member (codes "a") null no_members)) no_items))) ≡ Err BadValue
keys_come_first = refl

-- where the path has the keys they may be left out, and give no rows then
abbrev entry_path : List Elem
entry_path = plain (codes "c") ∷ entry ∷ []

keys_in_the_path : rows_of_data schema entry_path
    (Some (object (member (codes "v") (boolean true) no_members)))
    ≡ Ok (record { path = below_entry (codes "v"); value = values.Bool true } ∷ [])
keys_in_the_path = refl

other_keys : rows_of_data schema entry_path
    (Some (object (member (codes "k") (string (codes "y")) no_members))) ≡ Err BadValue
other_keys = refl

-- the spellings of members
with_module : module_in (codes "m:b") ≡ Some (codes "m")
with_module = refl

name_behind : name_in (codes "m:b") ≡ codes "b"
name_behind = refl

-- strings at numbers
largest : natural_of (codes "18446744073709551615") ≡ Some 18446744073709551615
unfolding digits natural_of
largest = refl

leading_zero : natural_of (codes "07") ≡ None
unfolding digits natural_of
leading_zero = refl

least : integer_of (codes "-9223372036854775808") ≡ Some (negsuc 9223372036854775807)
unfolding digits integer_of
least = refl

minus_zero : integer_of (codes "-0") ≡ None
unfolding digits integer_of
minus_zero = refl

minus_zero_point : decimal_of 2 (codes "-0") ≡ Some (pos 0)
unfolding decimal_of
minus_zero_point = refl

lenient : decimal_of 3 (codes "01.50") ≡ Some (pos 1500)
unfolding decimal_of
lenient = refl

no_digit_behind : decimal_of 3 (codes "1.") ≡ None
unfolding decimal_of
no_digit_behind = refl

one_place_more : decimal_of 1 (codes "1.50") ≡ None
unfolding decimal_of
one_place_more = refl

-- an integer at a decimal
whole : leaf_of (shapes.Dec 2) (number (negative (negsuc 4))) ≡ Some (values.Dec (negsuc 499) 2)
unfolding digits decimal_of
whole = refl

-- arrays and objects are read so deep as the profile says
as_deep_as_the_profile_says : most_json_depth ≡ max_depth
as_deep_as_the_profile_says = refl

-- a whole text
by_text : rows_of schema [] (codes "{\"m:c\":{\"b\":7}}") ≡ Ok (row_b ∷ [])
unfolding serde_json_on_literals is_utf8 chars denote.Hole.Carrier.out
by_text = refl

no_json : rows_of schema [] (codes "{\"m:c\":{\"b\":7}") ≡ Err BadValue
unfolding serde_json_on_literals is_utf8 chars denote.Hole.Carrier.out
no_json = refl
