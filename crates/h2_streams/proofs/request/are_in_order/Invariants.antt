use Rattle.std.proofs.Common.{◌≡◌, length}
use Rattle.h2_streams.specs.Requests.{are_in_order}
use Rattle.h2_streams.proofs.request.are_in_order.Given as goal

abbrev pub invariant-loop-header : goal.invariant-loop-header
invariant-loop-header l = are_in_order l.rest ≡ are_in_order l.headers

abbrev pub decreases-loop-header : goal.decreases-loop-header
decreases-loop-header l = length l.rest
