use Rattle.std.proofs.Common.{ap, sym, ◌∙◌}
use Rattle.std.specs.List.{list_all}
use Rattle.base_kinds.specs.Legal.{is_fit_scalar, is_fit_value}
use Rattle.set_request.proofs.Lists.{fit_list}
use Rattle.set_request.proofs.fitness.is_fit_value.Goals as goal

pub returns-in-List : goal.returns-in-List
returns-in-List c = c.all_fit_scalars.ensures ∙ ap (list_all is_fit_scalar) c.items.ensures ∙ sym (fit_list c.in-List.values) ∙ ap is_fit_value (sym c.in-List.is)
