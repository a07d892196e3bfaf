use Rattle.std.proofs.Common.{refl}
use Rattle.h2_streams.proofs.worked.worked_whole_blocks.Goals as goal

pub returns-clause-block_bad : goal.returns-clause-block_bad
returns-clause-block_bad c = refl

pub returns-clause-block_closed : goal.returns-clause-block_closed
returns-clause-block_closed c = refl

pub returns-clause-block_after_end : goal.returns-clause-block_after_end
returns-clause-block_after_end c = refl

pub returns-clause-block_open : goal.returns-clause-block_open
returns-clause-block_open c = refl

pub returns-clause-trailers : goal.returns-clause-trailers
returns-clause-trailers c = refl

pub returns-clause-malformed : goal.returns-clause-malformed
returns-clause-malformed c = refl

pub returns-clause-call : goal.returns-clause-call
returns-clause-call c = refl

pub returns-clause-too_long : goal.returns-clause-too_long
returns-clause-too_long c = refl

pub returns-clause-ended : goal.returns-clause-ended
returns-clause-ended c = refl

pub returns-clause-one_stream_too_many : goal.returns-clause-one_stream_too_many
returns-clause-one_stream_too_many c = refl

pub returns-clause-block_skipped : goal.returns-clause-block_skipped
returns-clause-block_skipped c = refl
