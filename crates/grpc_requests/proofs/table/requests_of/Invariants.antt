use Rattle.std.proofs.Common.{◌≡◌, ◌++◌}
use Rattle.grpc_requests.specs.Requests.{requests_of}
use Rattle.grpc_requests.proofs.table.requests_of.Given as goal

-- the requests so far, and those of what is left
abbrev pub invariant-loop-asked : goal.invariant-loop-asked
invariant-loop-asked l = l.more ++ requests_of l.fn.stream l.asked-iterator.rest.items ≡ requests_of l.fn.stream l.fn.asked
