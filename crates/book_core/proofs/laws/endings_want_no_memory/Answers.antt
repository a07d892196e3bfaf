use Rattle.std.specs.Prelude.{ℕ}
use Rattle.base_kinds.specs.declared.entry.View.{View}
use Rattle.book_core.proofs.Closings.{answered_leave_room, openings_leave_room, endings_are_accepted, endings_are_answered, sets_expire, looks_expire}
use Rattle.book_core.proofs.laws.endings_want_no_memory.Goals as goal

pub returns-clause-accepted : goal.returns-clause-accepted
returns-clause-accepted c = endings_are_accepted

pub returns-clause-answered : goal.returns-clause-answered
returns-clause-answered c = endings_are_answered

pub returns-clause-sets : goal.returns-clause-sets
returns-clause-sets c = sets_expire

pub returns-clause-looks : goal.returns-clause-looks
returns-clause-looks c = looks_expire

pub returns-clause-opened : goal.returns-clause-opened
returns-clause-opened c = openings_leave_room

pub returns-clause-after_sets : goal.returns-clause-after_sets
returns-clause-after_sets c = answered_leave_room ℕ

pub returns-clause-after_looks : goal.returns-clause-after_looks
returns-clause-after_looks c = answered_leave_room View
