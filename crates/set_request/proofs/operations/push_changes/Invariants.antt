use Rattle.std.proofs.Common.{◌≡◌, drop}
use Rattle.base_lists.specs.Results.{traverse}
use Rattle.set_request.specs.Operations.{op_of_change}
use Rattle.set_request.proofs.Traversals.{joined}
use Rattle.set_request.proofs.operations.push_changes.Given as goal

-- what is left, behind the operations so far, gives what all changes give
abbrev pub invariant-loop-change : goal.invariant-loop-change
invariant-loop-change l = joined l.ops (traverse (op_of_change l.schema l.prefix l.act) (drop l.change-index l.changes)) ≡ joined l.fn.ops (traverse (op_of_change l.schema l.prefix l.act) l.changes)
