-- The definitions on worked examples.
use Rattle.std.specs.Prelude.{◌≡◌, ℕ, List, [], ◌∷◌, codes, refl, true, false, Some, None, Ok, Err, pos, negsuc, replicate}
use Rattle.std.specs.Fmt.{digits}
use Rattle.base_kinds.specs.declared.path.Elem.{Elem}
use Rattle.base_kinds.specs.declared.operation.Row.{Row}
use Rattle.base_kinds.specs.declared.operation.Act.TheVariants.{Delete, Replace, Update}
use Rattle.base_kinds.specs.declared.value.Value.{Value}
use Rattle.base_kinds.specs.declared.value.Value.TheVariants as values
use Rattle.base_kinds.specs.declared.schema.Shape.{Shape}
use Rattle.base_kinds.specs.declared.schema.Shape.TheVariants as shapes
use Rattle.base_kinds.specs.declared.schema.Sort.{Sort}
use Rattle.base_kinds.specs.declared.schema.Sort.TheVariants as sorts
use Rattle.base_kinds.specs.declared.entry.Ask.TheVariants as asks
use Rattle.base_kinds.specs.declared.request.Change.{Change}
use Rattle.base_kinds.specs.declared.request.Given.TheVariants as given
use Rattle.base_kinds.specs.declared.request.Span.TheVariants as spans
use Rattle.base_kinds.specs.declared.request.Action.{Action}
use Rattle.base_kinds.specs.declared.request.Action.TheVariants as actions
use Rattle.base_kinds.specs.declared.request.UnresolvedSet.{UnresolvedSet}
use Rattle.base_kinds.specs.declared.refusal.Refusal.TheVariants.{BadPath, NotInSchema, BadValue, Unsupported, BadDuration, MixedAction, BadId}
use Rattle.base_kinds.specs.Schema.{SchemaNode}
use Rattle.set_request.specs.Actions.{duration}
use Rattle.plain_texts.specs.Numbers.{natural_of}
use Rattle.value_core.specs.Decimals.{decimal_of}
use Rattle.value_core.specs.Integers.{integer_of}
use Rattle.value_core.specs.KeyValues.{key_value}
use Rattle.set_request.specs.Resolution.{resolved}
use Rattle.set_request.specs.Scalars.{value_in_shape, decimal_with}

-- a schema of a leaf in two containers, a list of interfaces by name, and a leaf-list

abbrev inner : List (List ℕ) → Sort → List (List ℕ) → SchemaNode
inner names sort keys = record {
  names = names;
  sort = sort;
  shape = None;
  keys = keys;
  module_name = codes "m";
  is_mandatory = false;
  reference = None;
  maximum = None;
}

abbrev leafy : List (List ℕ) → Sort → Shape → SchemaNode
leafy names sort shape = record {
  names = names;
  sort = sort;
  shape = Some shape;
  keys = [];
  module_name = codes "m";
  is_mandatory = false;
  reference = None;
  maximum = None;
}

abbrev schema : List SchemaNode
schema =
    inner (codes "system" ∷ []) sorts.Container []
    ∷ leafy (codes "system" ∷ codes "hostname" ∷ []) sorts.Leaf shapes.Text
    ∷ leafy (codes "system" ∷ codes "tag" ∷ []) sorts.LeafList (shapes.Uint 8)
    ∷ inner (codes "interface" ∷ []) sorts.List (codes "name" ∷ [])
    ∷ leafy (codes "interface" ∷ codes "name" ∷ []) sorts.Leaf shapes.Text
    ∷ leafy (codes "interface" ∷ codes "mtu" ∷ []) sorts.Leaf (shapes.Uint 16)
    ∷ []

abbrev plain : List ℕ → Elem
plain name = record { name = name; keys = [] }

abbrev interface : List ℕ → Elem
interface name = record { name = codes "interface"; keys = (codes "name", name) ∷ [] }

abbrev hostname : List Elem
hostname = plain (codes "system") ∷ plain (codes "hostname") ∷ []

abbrev mtu : List Elem
mtu = interface (codes "eth0") ∷ plain (codes "mtu") ∷ []

abbrev name_of : List Elem
name_of = interface (codes "eth0") ∷ plain (codes "name") ∷ []

abbrev scalar : List Elem → Value → Change
scalar path value = record { path = path; given = given.Scalar value }

abbrev nothing : UnresolvedSet
nothing = record {
  prefix = [];
  target = [];
  deletes = [];
  replaces = [];
  updates = [];
  action = actions.Plain;
  unsupported = false;
}

abbrev update : Change → UnresolvedSet
update change = record nothing { updates = change ∷ [] }

abbrev acts : Action → UnresolvedSet
acts action = record nothing { action = action }

abbrev row : List Elem → Value → Row
row path value = record { path = path; value = value }

-- a request without operations is one, and makes an entry
no_operations : resolved schema nothing ≡ Ok (asks.Apply [])
no_operations = refl

-- the hostname becomes "r1", and the prefix stands in front of the path
hostname_set : resolved schema
    (record nothing {
      prefix = plain (codes "system") ∷ [];
      updates = scalar (plain (codes "hostname") ∷ []) (values.Text (codes "r1")) ∷ [];
    })
    ≡ Ok (asks.Apply (record {
      act = Update;
      path = hostname;
      rows = row hostname (values.Text (codes "r1")) ∷ [];
    } ∷ []))
hostname_set = refl

-- an update below an entry of a list has the entry's key leaf as a row too
key_leaf_added : resolved schema (update (scalar mtu (values.Int (pos 1500))))
    ≡ Ok (asks.Apply (record {
      act = Update;
      path = mtu;
      rows = row mtu (values.Uint 1500) ∷ row name_of (values.Text (codes "eth0")) ∷ [];
    } ∷ []))
unfolding key_value
key_leaf_added = refl

-- and stands once where the value is its own
key_leaf_once : resolved schema (update (scalar name_of (values.Text (codes "eth0"))))
    ≡ Ok (asks.Apply (record {
      act = Update;
      path = name_of;
      rows = row name_of (values.Text (codes "eth0")) ∷ [];
    } ∷ []))
unfolding key_value
key_leaf_once = refl

key_leaf_differs : resolved schema (update (scalar name_of (values.Text (codes "eth1"))))
    ≡ Err BadValue
unfolding key_value
key_leaf_differs = refl

-- deletes come first, then replaces, then updates; a delete names patterns and unknown nodes as it likes
order_of_acts : resolved schema
    (record nothing {
      updates = scalar hostname (values.Text (codes "u")) ∷ [];
      replaces = scalar hostname (values.Text (codes "r")) ∷ [];
      deletes =
          (plain (codes "...") ∷ plain (codes "none") ∷ []) ∷ [];
    })
    ≡ Ok (asks.Apply (record {
      act = Delete;
      path = plain (codes "...") ∷ plain (codes "none") ∷ [];
      rows = [];
    } ∷ record {
      act = Replace;
      path = hostname;
      rows =
          row hostname (values.Text (codes "r")) ∷ [];
    }
    ∷ record {
      act = Update;
      path = hostname;
      rows = row hostname (values.Text (codes "u")) ∷ [];
    } ∷ []))
order_of_acts = refl

-- the refusals

unsupported_first : resolved schema (record nothing { unsupported = true; action = actions.Mixed })
    ≡ Err Unsupported
unsupported_first = refl

two_actions : resolved schema (acts actions.Mixed) ≡ Err MixedAction
two_actions = refl

confirm_with_operations : resolved schema
    (record nothing { action = actions.Confirm []; deletes = [] ∷ [] }) ≡ Err MixedAction
confirm_with_operations = refl

id_before_duration : resolved schema (acts (actions.Trial [] (spans.Of (pos 0) (pos 0))))
    ≡ Err BadId
id_before_duration = refl

no_time : resolved schema (acts (actions.Trial (codes "t") (spans.Of (pos 0) (pos 999999999))))
    ≡ Err BadDuration
no_time = refl

trial_of_ten_minutes : resolved schema (acts (actions.Trial (codes "t") spans.Absent))
    ≡ Ok (asks.Trial (codes "t") [] 600000000000)
trial_of_ten_minutes = refl

one_day : duration (spans.Of (pos 86400) (pos 0)) ≡ Some 86400000000000
one_day = refl

more_than_a_day : duration (spans.Of (pos 86400) (pos 1)) ≡ None
more_than_a_day = refl

nanoseconds_of_a_second : duration (spans.Of (pos 1) (pos 1000000000)) ≡ None
nanoseconds_of_a_second = refl

negative_nanoseconds : duration (spans.Of (pos 2) (negsuc 0)) ≡ None
negative_nanoseconds = refl

no_name : resolved schema (record nothing { deletes = (plain [] ∷ []) ∷ [] }) ≡ Err BadPath
no_name = refl

most_elements : resolved schema
    (record nothing {
      prefix = plain (codes "a") ∷ [];
      deletes = replicate 31 (plain (codes "b")) ∷ [];
    })
    ≡ Ok (asks.Apply (record {
      act = Delete;
      path = plain (codes "a") ∷ replicate 31 (plain (codes "b"));
      rows = [];
    } ∷ []))
most_elements = refl

one_element_more : resolved schema
    (record nothing {
      prefix = plain (codes "a") ∷ [];
      deletes = replicate 32 (plain (codes "b")) ∷ [];
    }) ≡ Err BadPath
one_element_more = refl

wildcard_in_update : resolved schema (update (scalar (plain (codes "*") ∷ []) (values.Bool true)))
    ≡ Err BadPath
wildcard_in_update = refl

wildcard_key_in_update : resolved schema
    (update (scalar (interface (codes "*") ∷ []) (values.Bool true))) ≡ Err BadPath
wildcard_key_in_update = refl

unknown_name : resolved schema (update (scalar (plain (codes "none") ∷ []) (values.Bool true)))
    ≡ Err NotInSchema
unknown_name = refl

key_left_out : resolved schema
    (update (scalar (plain (codes "interface") ∷ plain (codes "none") ∷ []) (values.Bool true)))
    ≡ Err BadPath
key_left_out = refl

no_value : resolved schema (update (record { path = hostname; given = given.Missing }))
    ≡ Err BadValue
no_value = refl

scalar_at_a_container : resolved schema
    (update (scalar (plain (codes "system") ∷ []) (values.Text (codes "r1")))) ≡ Err BadValue
scalar_at_a_container = refl

scalar_at_the_root : resolved schema (update (scalar [] (values.Text (codes "r1")))) ≡ Err BadValue
scalar_at_the_root = refl

-- scalars

int_at_an_unsigned_leaf : value_in_shape (shapes.Uint 8) (values.Int (pos 255))
    ≡ Some (values.Uint 255)
int_at_an_unsigned_leaf = refl

too_large : value_in_shape (shapes.Uint 8) (values.Uint 256) ≡ None
too_large = refl

negative_at_an_unsigned_leaf : value_in_shape (shapes.Uint 8) (values.Int (negsuc 0)) ≡ None
negative_at_an_unsigned_leaf = refl

unsigned_at_a_signed_leaf : value_in_shape (shapes.Int 8) (values.Uint 127)
    ≡ Some (values.Int (pos 127))
unsigned_at_a_signed_leaf = refl

text_at_an_enum : value_in_shape (shapes.Enum (codes "UP" ∷ codes "DOWN" ∷ []))
    (values.Text (codes "UP")) ≡ Some (values.Enum (codes "UP"))
text_at_an_enum = refl

-- 1.50 with two places is 1.5 with one, -1.5 is -1.500, and 1.55 isn't rounded
fewer_places : decimal_with 1 (pos 150) 2 ≡ Some (values.Dec (pos 15) 1)
fewer_places = refl

more_places : decimal_with 3 (negsuc 14) 1 ≡ Some (values.Dec (negsuc 1499) 3)
more_places = refl

not_rounded : decimal_with 1 (pos 155) 2 ≡ None
not_rounded = refl

most_digits : decimal_with 2 (pos 92233720368547758071) 3 ≡ None
most_digits = refl

-- key texts
integer_key : key_value (shapes.Int 8) (codes "-128") ≡ Some (values.Int (negsuc 127))
unfolding key_value integer_of digits
integer_key = refl

spare_zero : key_value (shapes.Uint 8) (codes "007") ≡ None
unfolding key_value natural_of digits
spare_zero = refl

decimal_key : key_value (shapes.Dec 2) (codes "-1.5") ≡ Some (values.Dec (negsuc 149) 2)
unfolding key_value decimal_of digits
decimal_key = refl

spare_digit : key_value (shapes.Dec 2) (codes "1.50") ≡ None
unfolding key_value decimal_of digits
spare_digit = refl
