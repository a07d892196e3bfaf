use Rattle.book_core.proofs.Openings.{leaves_with}
use Rattle.book_core.proofs.opening.append_one.Goals as goal

pub returns-in-Some-clause-any_moment : goal.returns-in-Some-clause-any_moment
returns-in-Some-clause-any_moment g c = leaves_with _ _ _ c.in-Some.entry _ _ c.in-Some.is c.append.ensures.any_moment
