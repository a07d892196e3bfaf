use Rattle.std.proofs.Common.{sym, ◌∙◌, ap, Some}
use Rattle.stream_core.proofs.Joining.{less_taken, greater_taken, both_taken, rest_rises}
use Rattle.stream_core.proofs.notes.take_next.Goals as goal

pub returns-in-Some-Less-clause-taken : goal.returns-in-Some-Less-clause-taken
returns-in-Some-Less-clause-taken c = less_taken c.pop.result c.args.kept.now.items c.pop.new.rows.items c.args.now.now.items c.pop.ensures.first c.requires.now (sym c.first_order.ensures ∙ c.in-Some-Less.is ∙ ap Some c.in-Some-Less.field-0-is)

pub returns-in-Some-Less-clause-kept : goal.returns-in-Some-Less-clause-kept
returns-in-Some-Less-clause-kept c = rest_rises c.pop.result c.args.kept.now.items c.pop.new.rows.items c.pop.ensures.first c.requires.kept

pub returns-in-Some-Equal-clause-taken : goal.returns-in-Some-Equal-clause-taken
returns-in-Some-Equal-clause-taken c =
    both_taken c.pop-in-Some-Equal.result c.pop-in-Some-Equal-2.result c.args.kept.now.items c.pop-in-Some-Equal.new.rows.items c.args.now.now.items c.pop-in-Some-Equal-2.new.rows.items
    c.pop-in-Some-Equal.ensures.first c.pop-in-Some-Equal.ensures.none c.pop-in-Some-Equal-2.ensures.first c.requires.now (sym c.first_order.ensures ∙ c.in-Some-Equal.is ∙ ap Some c.in-Some-Equal.field-0-is)

pub returns-in-Some-Equal-clause-kept : goal.returns-in-Some-Equal-clause-kept
returns-in-Some-Equal-clause-kept c = rest_rises c.pop-in-Some-Equal.result c.args.kept.now.items c.pop-in-Some-Equal.new.rows.items c.pop-in-Some-Equal.ensures.first c.requires.kept

pub returns-in-Some-Equal-clause-now : goal.returns-in-Some-Equal-clause-now
returns-in-Some-Equal-clause-now c = rest_rises c.pop-in-Some-Equal-2.result c.args.now.now.items c.pop-in-Some-Equal-2.new.rows.items c.pop-in-Some-Equal-2.ensures.first c.requires.now

pub returns-in-Some-Greater-clause-taken : goal.returns-in-Some-Greater-clause-taken
returns-in-Some-Greater-clause-taken c = greater_taken c.pop-in-Some-Greater.result c.args.kept.now.items c.args.now.now.items c.pop-in-Some-Greater.new.rows.items c.pop-in-Some-Greater.ensures.first c.requires.now (sym c.first_order.ensures ∙ c.in-Some-Greater.is ∙ ap Some c.in-Some-Greater.field-0-is)

pub returns-in-Some-Greater-clause-now : goal.returns-in-Some-Greater-clause-now
returns-in-Some-Greater-clause-now c = rest_rises c.pop-in-Some-Greater.result c.args.now.now.items c.pop-in-Some-Greater.new.rows.items c.pop-in-Some-Greater.ensures.first c.requires.now
