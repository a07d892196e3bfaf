use Rattle.std.proofs.Common.{arith, rules}
use Rattle.std.proofs.lemmas.Grind.{common_steps}
use Rattle.memory_disks.proofs.Laid.{laid_of}
use Rattle.memory_disks.proofs.octets.write_over.Goals as goal

pub returns-clause-ok : goal.returns-clause-ok
returns-clause-ok c = laid_of _ c.grow.new.octets.items _ _ c.args.place c.in-Some.end (grind (arith, common_steps)) (search (rules, c.in-Some.ensures)) c.in_ok-grow.ensures.ok c.lay.ensures
