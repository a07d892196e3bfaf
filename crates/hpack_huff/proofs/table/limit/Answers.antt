use Rattle.std.proofs.Common.{arith}
use Rattle.hpack_huff.proofs.CodeLemmas.{limits_at}
use Rattle.hpack_huff.proofs.table.limit.Goals as goal

pub returns : goal.returns
returns c = limits_at c.args.length (omega arith)
