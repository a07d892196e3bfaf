use Rattle.std.proofs.Common.{refl}
use Rattle.h2_responses.proofs.worked.worked_response_frames.Goals as goal

pub returns-clause-data_before_headers : goal.returns-clause-data_before_headers
returns-clause-data_before_headers c = refl

pub returns-clause-data_unopened : goal.returns-clause-data_unopened
returns-clause-data_unopened c = refl

pub returns-clause-data_on_even : goal.returns-clause-data_on_even
returns-clause-data_on_even c = refl

pub returns-clause-data_padded : goal.returns-clause-data_padded
returns-clause-data_padded c = refl

pub returns-clause-data_over : goal.returns-clause-data_over
returns-clause-data_over c = refl

pub returns-clause-headers_unopened : goal.returns-clause-headers_unopened
returns-clause-headers_unopened c = refl

pub returns-clause-continuation_outside : goal.returns-clause-continuation_outside
returns-clause-continuation_outside c = refl

pub returns-clause-head : goal.returns-clause-head
returns-clause-head c = refl

pub returns-clause-head_alone : goal.returns-clause-head_alone
returns-clause-head_alone c = refl

pub returns-clause-trailers : goal.returns-clause-trailers
returns-clause-trailers c = refl

pub returns-clause-second_head : goal.returns-clause-second_head
returns-clause-second_head c = refl

pub returns-clause-block_over : goal.returns-clause-block_over
returns-clause-block_over c = refl

pub returns-clause-block_bad : goal.returns-clause-block_bad
returns-clause-block_bad c = refl

pub returns-clause-block_too_long : goal.returns-clause-block_too_long
returns-clause-block_too_long c = refl
