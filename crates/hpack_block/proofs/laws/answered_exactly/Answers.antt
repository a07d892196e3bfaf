use Rattle.hpack_block.proofs.BlockLemmas.{answered_read, answered_too_long, answered_bad}
use Rattle.hpack_block.proofs.laws.answered_exactly.Goals as goal

pub returns-clause-read : goal.returns-clause-read
returns-clause-read c = answered_read

pub returns-clause-too_long : goal.returns-clause-too_long
returns-clause-too_long c = answered_too_long

pub returns-clause-bad : goal.returns-clause-bad
returns-clause-bad c = answered_bad
