use Rattle.std.proofs.Common.{sym, ap, ◌∙◌}
use Rattle.serde_json.specs.Data.{array}
use Rattle.serde_json.proofs.Views.{view-Array}
use Rattle.base_kinds.specs.declared.value.Value.TheVariants as values
use Rattle.json_text.proofs.Values.{leaf_data_of}
use Rattle.json_text.proofs.leaves.value_json.Goals as goal

pub returns-in_ok-scalars_json-in-List : goal.returns-in_ok-scalars_json-in-List
returns-in_ok-scalars_json-in-List c =
    view-Array c.in_ok-scalars_json-in-List.field-0 ∙ ap array c.in_ok-scalars_json-in-List.ensures
    ∙ sym (leaf_data_of c.args.shape.now c.args.value.now c.items.result.now (c.in-List.is ∙ ap values.List (sym c.items.ensures)))
