use Rattle.std.proofs.Common.{◌≡◌, drop}
use Rattle.base_lists.specs.Results.{traverse}
use Rattle.set_request.specs.Operations.{op_of_delete}
use Rattle.set_request.proofs.Traversals.{joined}
use Rattle.set_request.proofs.operations.push_deletes.Given as goal

-- what is left, behind the operations so far, gives what all deletes give
abbrev pub invariant-loop-path : goal.invariant-loop-path
invariant-loop-path l = joined l.ops (traverse (op_of_delete l.prefix) (drop l.path-index l.paths)) ≡ joined l.fn.ops (traverse (op_of_delete l.prefix) l.paths)
