use Rattle.std.proofs.Common.{sym, ap, ◌∙◌}
use Rattle.std.specs.Ordering.{is_lt}
use Rattle.path_core.specs.PathText.{name_cmp}
use Rattle.path_core.proofs.Keys.{below_last}
use Rattle.path_core.proofs.reading.may_follow.Goals as goal

pub returns-in-Some : goal.returns-in-Some
returns-in-Some c = c.is_lt.ensures ∙ ap is_lt c.cmp.ensures ∙ below_last name_cmp c.args.keys.now c.in-Some.last.now c.args.key.now (sym c.in-Some.ensures.value)
