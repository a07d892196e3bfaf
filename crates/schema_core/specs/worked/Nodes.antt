-- A few nodes with and without a place, as the definitions have them.
use Rattle.std.specs.Prelude.{◌≡◌, List, [], ◌∷◌, true, false, Some, None, refl, codes}
use Rattle.base_kinds.specs.declared.schema.Shape.TheVariants as shapes
use Rattle.base_kinds.specs.declared.schema.Sort.TheVariants as sorts
use Rattle.base_kinds.specs.Schema.{SchemaNode}
use Rattle.schema_core.specs.Nodes.{names_at, has_parent}

abbrev lab : SchemaNode
lab =
    record {
      names = codes "lab" ∷ [];
      sort = sorts.Container;
      shape = None;
      keys = [];
      module_name = codes "m";
      is_mandatory = false;
      reference = None;
      maximum = None;
    }

abbrev rate : SchemaNode
rate =
    record {
      names = codes "lab" ∷ codes "rate" ∷ [];
      sort = sorts.Leaf;
      shape = Some shapes.Text;
      keys = [];
      module_name = codes "m";
      is_mandatory = true;
      reference = None;
      maximum = None;
    }

abbrev nodes : List SchemaNode
nodes = lab ∷ rate ∷ []

root_is_no_node : has_parent nodes [] ≡ false
root_is_no_node = refl

one_name_stands_below_the_root : has_parent [] (codes "lab" ∷ []) ≡ true
one_name_stands_below_the_root = refl

below_a_container : has_parent nodes (codes "lab" ∷ codes "via" ∷ []) ≡ true
below_a_container = refl

below_a_leaf : has_parent nodes (codes "lab" ∷ codes "rate" ∷ codes "via" ∷ []) ≡ false
below_a_leaf = refl

below_no_node : has_parent nodes (codes "bar" ∷ codes "via" ∷ []) ≡ false
below_no_node = refl

names_of_the_second : names_at nodes 1 ≡ codes "lab" ∷ codes "rate" ∷ []
names_of_the_second = refl
