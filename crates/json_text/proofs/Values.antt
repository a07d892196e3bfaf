-- A leaf-list's value.
use Rattle.std.proofs.Common.{◌≡◌, List, map, true, cond, refl, ap, ◌∙◌}
use Rattle.serde_json.specs.Data.{array}
use Rattle.serde_json.specs.View.{items_of}
use Rattle.base_kinds.specs.declared.schema.Shape.{Shape}
use Rattle.base_kinds.specs.declared.value.Value.{Value}
use Rattle.base_kinds.specs.declared.value.Value.TheVariants as values
use Rattle.base_kinds.specs.Values.{is_list, values_in}
use Rattle.base_kinds.proofs.Lists.{values_in-List}
use Rattle.json_text.specs.Leaves.{scalar_data, leaf_data}

pub is_list-List : (vs : List Value) → is_list (values.List vs) ≡ true
unfolding Rattle.base_kinds.specs.declared.value.Value.TheBlock.hidden-the_row-Value-0 denote.Hole.Carrier.hidden
is_list-List vs = refl

pub leaf_data-List : (shape : Shape) (vs : List Value) → leaf_data shape (values.List vs) ≡ array (items_of (map (scalar_data shape) vs))
leaf_data-List shape vs =
    ap (λ b. cond b (array (items_of (map (scalar_data shape) (values_in (values.List vs))))) (scalar_data shape (values.List vs))) (is_list-List vs)
    ∙ ap (λ (xs : List Value). array (items_of (map (scalar_data shape) xs))) (values_in-List vs)

-- the value is this list
pub leaf_data_of : (shape : Shape) (x : Value) (vs : List Value) → x ≡ values.List vs → leaf_data shape x ≡ array (items_of (map (scalar_data shape) vs))
leaf_data_of shape x vs e = ap (leaf_data shape) e ∙ leaf_data-List shape vs
