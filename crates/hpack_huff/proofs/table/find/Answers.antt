use Rattle.std.proofs.Common.{arith}
use Rattle.hpack_huff.proofs.CodeLemmas.{first-from_short, long_from_top}
use Rattle.hpack_huff.proofs.table.find.Goals as goal

pub find_from-requires-clause-long : goal.find_from-requires-clause-long
find_from-requires-clause-long c = long_from_top c.args.window (omega arith)

pub returns-then-top-lt-SHORT : goal.returns-then-top-lt-SHORT
returns-then-top-lt-SHORT c =
    first-from_short c.args.window c.find_short.result.symbol c.find_short.result.length c.find_short.ensures
