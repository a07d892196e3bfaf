use Rattle.std.proofs.Common.{Err, ap}
use Rattle.benches.proofs.huffman.read_all.Goals as goal

pub returns-in-Err-BadCode-clause-bad : goal.returns-in-Err-BadCode-clause-bad
returns-in-Err-BadCode-clause-bad c = λ _. c.in-Err-BadCode.ensures.bad (ap Err c.in-Err-BadCode.field-0-is)
