use Rattle.std.proofs.Common.{◌≡◌, drop}
use Rattle.set_request.specs.KeyLeaves.{key_leaves_from}
use Rattle.set_request.proofs.Traversals.{joined}
use Rattle.set_request.proofs.key_leaves.push_elems.Given as goal

-- what is left, behind the elements so far, gives what all elements give
abbrev pub invariant-loop-elem : goal.invariant-loop-elem
invariant-loop-elem l = joined l.rows (key_leaves_from l.schema l.entry (drop l.elem-index l.elems)) ≡ joined l.fn.rows (key_leaves_from l.schema l.fn.entry l.elems)
