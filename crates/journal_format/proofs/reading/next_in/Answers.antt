use Rattle.std.proofs.Common.{sym, refl}
use Rattle.journal_format.proofs.Next.{next_found, next_none}
use Rattle.journal_format.proofs.reading.next_in.Goals as goal

pub returns-in-None-clause-none : goal.returns-in-None-clause-none
returns-in-None-clause-none c = λ _.
    next_none c.args.limits.now c.args.so_far.now c.args.octets.now c.in-Ok.entry c.in-Ok.rest.now _ c.requires.in_range c.in-Ok.ensures.found c.in-Ok.ensures.only refl (sym c.in-None.ensures)

pub returns-in-Some-clause-found : goal.returns-in-Some-clause-found
returns-in-Some-clause-found c =
    next_found c.args.limits.now c.args.so_far.now c.args.octets.now c.in-Ok.entry c.in-Some.next c.in-Ok.rest.now _ c.in-Ok.ensures.found refl (sym c.in-Some.ensures)
