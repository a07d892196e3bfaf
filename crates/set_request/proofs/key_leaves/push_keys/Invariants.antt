use Rattle.std.proofs.Common.{◌≡◌, drop}
use Rattle.base_lists.specs.Results.{traverse}
use Rattle.set_request.specs.KeyLeaves.{key_leaf}
use Rattle.set_request.proofs.Traversals.{joined}
use Rattle.set_request.proofs.key_leaves.push_keys.Given as goal

-- what is left, behind the rows so far, gives what all keys give
abbrev pub invariant-loop-key : goal.invariant-loop-key
invariant-loop-key l = joined l.rows (traverse (key_leaf l.schema l.entry) (drop l.key-index l.keys)) ≡ joined l.fn.rows (traverse (key_leaf l.schema l.entry) l.keys)
