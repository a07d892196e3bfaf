use Rattle.std.proofs.Common.{◌≡◌, drop}
use Rattle.h2_streams.specs.Requests.{are_regular}
use Rattle.h2_streams.proofs.request.are_regular.Given as goal

abbrev pub invariant-loop-header : goal.invariant-loop-header
invariant-loop-header l = are_regular (drop l.header-index l.headers) ≡ are_regular l.headers
