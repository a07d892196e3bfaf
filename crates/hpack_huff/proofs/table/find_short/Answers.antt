use Rattle.std.proofs.Common.{arith}
use Rattle.hpack_huff.proofs.CodeLemmas.{short_at}
use Rattle.hpack_huff.proofs.table.find_short.Goals as goal

pub returns : goal.returns
returns c = rw (c.from.ensures, c.from-2.ensures) (short_at c.args.top (omega arith))
