use Rattle.std.proofs.Common.{arith}
use Rattle.hpack_huff.proofs.CodeLemmas.{first_at}
use Rattle.hpack_huff.proofs.table.first_code.Goals as goal

pub returns : goal.returns
returns c = first_at c.args.length (omega arith)
