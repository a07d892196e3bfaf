use Rattle.std.proofs.Common.{◌≡◌, ◌++◌}
use Rattle.grpc_requests.specs.Calls.{further}
use Rattle.grpc_requests.proofs.open_call.further.Given as goal

-- what is asked so far, and what the messages that are left ask
abbrev pub invariant-loop-message : goal.invariant-loop-message
invariant-loop-message l = l.asked ++ further l.begun l.message-iterator.rest.items ≡ further l.fn.begun l.fn.messages
