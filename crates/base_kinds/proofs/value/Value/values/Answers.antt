use Rattle.std.proofs.Common.{ap, sym, ◌∙◌}
use Rattle.base_kinds.specs.Values.{values_in}
use Rattle.base_kinds.proofs.Lists.{values_in-List}
use Rattle.base_kinds.proofs.value.Value.values.Goals as goal

pub returns-in-List : goal.returns-in-List
returns-in-List c = c.items.ensures ∙ sym (values_in-List c.in-List.values) ∙ ap values_in (sym c.in-List.is)
