use Rattle.std.proofs.Common.{◌≡◌, drop}
use Rattle.base_lists.specs.Results.{traverse}
use Rattle.set_request.proofs.Traversals.{joined}
use Rattle.request_desk.specs.Gets.{asked_path}
use Rattle.request_desk.proofs.asked.paths_behind.Given as goal

-- what is left, behind the paths so far, gives what all paths give
abbrev pub invariant-loop-path : goal.invariant-loop-path
invariant-loop-path l =
    joined l.asked (traverse (asked_path l.prefix) (drop l.path-index l.paths))
    ≡ traverse (asked_path l.prefix) l.paths
