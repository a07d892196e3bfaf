use Rattle.std.proofs.Common.{refl}
use Rattle.h2_streams.proofs.worked.worked_header_frames.Goals as goal

pub returns-clause-in_a_block : goal.returns-clause-in_a_block
returns-clause-in_a_block c = refl

pub returns-clause-unknown_in_a_block : goal.returns-clause-unknown_in_a_block
returns-clause-unknown_in_a_block c = refl

pub returns-clause-other_continuation : goal.returns-clause-other_continuation
returns-clause-other_continuation c = refl

pub returns-clause-continuation : goal.returns-clause-continuation
returns-clause-continuation c = refl

pub returns-clause-headers_on_0 : goal.returns-clause-headers_on_0
returns-clause-headers_on_0 c = refl

pub returns-clause-headers_no_priority : goal.returns-clause-headers_no_priority
returns-clause-headers_no_priority c = refl

pub returns-clause-headers_padded : goal.returns-clause-headers_padded
returns-clause-headers_padded c = refl

pub returns-clause-continuation_outside : goal.returns-clause-continuation_outside
returns-clause-continuation_outside c = refl

pub returns-clause-headers_on_even : goal.returns-clause-headers_on_even
returns-clause-headers_on_even c = refl

pub returns-clause-headers_begin_a_block : goal.returns-clause-headers_begin_a_block
returns-clause-headers_begin_a_block c = refl

pub returns-clause-headers_no_padding : goal.returns-clause-headers_no_padding
returns-clause-headers_no_padding c = refl

pub returns-clause-headers_long_padding : goal.returns-clause-headers_long_padding
returns-clause-headers_long_padding c = refl

pub returns-clause-largest_block : goal.returns-clause-largest_block
returns-clause-largest_block c = refl
