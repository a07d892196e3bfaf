use Rattle.std.proofs.Common.{rules, arith, ◌<◌, length}
use Rattle.h2_recv.specs.Receiving.{next_end}
use Rattle.h2_recv.proofs.FrameLemmas.{end_ahead}
use Rattle.h2_recv.proofs.reader.wanted.Goals as goal

pub returns-clause-some : goal.returns-clause-some
returns-clause-some c =
    let ahead : length c.args.octets.now < next_end c.args.octets.now = end_ahead c.args.octets.now (λ i. search rules) c.requires in omega (arith, c.next_end.ensures)
