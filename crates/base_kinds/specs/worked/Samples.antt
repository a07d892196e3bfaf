-- Paths, rows, entries and schemas that worked examples speak of.
use Rattle.std.specs.Prelude.{ℕ, List, [], ◌∷◌, false, true, codes, Option, Some, None}
use Rattle.base_kinds.specs.declared.path.Elem.{Elem}
use Rattle.base_kinds.specs.declared.value.Value.{Value}
use Rattle.base_kinds.specs.declared.value.Value.TheVariants as values
use Rattle.base_kinds.specs.declared.operation.Row.{Row}
use Rattle.base_kinds.specs.declared.operation.Op.{Op}
use Rattle.base_kinds.specs.declared.operation.Act.TheVariants.{Delete, Update}
use Rattle.base_kinds.specs.declared.entry.Kind.TheVariants as kinds
use Rattle.base_kinds.specs.declared.entry.Ask.{Ask}
use Rattle.base_kinds.specs.declared.entry.Ask.TheVariants as asks
use Rattle.base_kinds.specs.declared.entry.Entry.{Entry}
use Rattle.base_kinds.specs.declared.schema.Shape.{Shape}
use Rattle.base_kinds.specs.declared.schema.Shape.TheVariants as shapes
use Rattle.base_kinds.specs.declared.schema.Sort.{Sort}
use Rattle.base_kinds.specs.declared.schema.Sort.TheVariants as sorts
use Rattle.base_kinds.specs.Limits.{default_limits}
use Rattle.base_kinds.specs.Rules.{rules_of}
use Rattle.base_kinds.specs.Schema.{SchemaNode}
use Rattle.base_kinds.specs.Step.{Rules}

-- an element without keys
abbrev pub plain : List ℕ → Elem
plain name = record { name = name; keys = [] }

abbrev pub hostname : List Elem
hostname = plain (codes "system") ∷ plain (codes "config") ∷ plain (codes "hostname") ∷ []

abbrev pub motd : List Elem
motd = plain (codes "system") ∷ plain (codes "config") ∷ plain (codes "motd") ∷ []

abbrev pub text_row : List Elem → List ℕ → Row
text_row path text = record { path = path; value = values.Text text }

abbrev pub text_update : List Elem → List ℕ → Op
text_update path text = record { act = Update; path = path; rows = text_row path text ∷ [] }

-- `/system/config/hostname` becomes "r1"
abbrev pub hostname_set : Ask
hostname_set = asks.Apply (text_update hostname (codes "r1") ∷ [])

abbrev pub hostname_entry : Entry
hostname_entry =
    record {
      number = 1;
      author = 1;
      stamp = 1000;
      kind = kinds.Apply (text_update hostname (codes "r1") ∷ []);
    }

abbrev pub hostname_tree : List Row
hostname_tree = text_row hostname (codes "r1") ∷ []

abbrev pub delete : List Elem → Op
delete path = record { act = Delete; path = path; rows = [] }

abbrev pub update : List Elem → List Row → Op
update path rows = record { act = Update; path = path; rows = rows }

-- a node without keys or marks
abbrev pub bare_node : List (List ℕ) → Sort → Option Shape → SchemaNode
bare_node names sort shape =
    record {
      names = names;
      sort = sort;
      shape = shape;
      keys = [];
      module_name = codes "m";
      is_mandatory = false;
      reference = None;
      maximum = None;
    }

abbrev pub system_names : List (List ℕ)
system_names = codes "system" ∷ codes "config" ∷ []

-- `/system/config` with two leaves of texts
abbrev pub system_schema : List SchemaNode
system_schema =
    bare_node (codes "system" ∷ []) sorts.Container None
    ∷ bare_node (codes "system" ∷ codes "config" ∷ []) sorts.Container None
    ∷ bare_node (codes "system" ∷ codes "config" ∷ codes "hostname" ∷ []) sorts.Leaf
    (Some shapes.Text)
    ∷ bare_node (codes "system" ∷ codes "config" ∷ codes "motd" ∷ []) sorts.Leaf (Some shapes.Text)
    ∷ []

-- A list of at most two interfaces with a mandatory leaf, a leaf that refers to their names, and a leaf-list of at most two.
abbrev pub port_schema : List SchemaNode
port_schema =
    record (bare_node (codes "port" ∷ []) sorts.List None) {
      keys =
          codes "name" ∷ [];
      maximum = Some 2;
    }
    ∷ bare_node (codes "port" ∷ codes "name" ∷ []) sorts.Leaf (Some shapes.Text)
    ∷ record (bare_node (codes "port" ∷ codes "speed" ∷ []) sorts.Leaf (Some (shapes.Uint 8))) {
      is_mandatory =
          true;
    }
    ∷ record (bare_node (codes "via" ∷ []) sorts.Leaf (Some shapes.Text)) {
      reference =
          Some (codes "port" ∷ codes "name" ∷ []);
    }
    ∷ record (bare_node (codes "tags" ∷ []) sorts.LeafList (Some shapes.Text)) { maximum = Some 2 }
    ∷ []

abbrev pub port : List ℕ → Elem
port name = record { name = codes "port"; keys = (codes "name", name) ∷ [] }

abbrev pub name_row : List ℕ → Row
name_row name = record { path = port name ∷ plain (codes "name") ∷ []; value = values.Text name }

abbrev pub speed_row : List ℕ → Value → Row
speed_row name speed = record { path = port name ∷ plain (codes "speed") ∷ []; value = speed }

abbrev pub port_rows : List ℕ → List Row
port_rows name = name_row name ∷ speed_row name (values.Uint 10) ∷ []

abbrev pub via_row : List ℕ → Row
via_row name = text_row (plain (codes "via") ∷ []) name

-- what targets with these schemas judge by
abbrev pub system_rules : Rules
system_rules = rules_of system_schema default_limits

abbrev pub port_rules : Rules
port_rules = rules_of port_schema default_limits
