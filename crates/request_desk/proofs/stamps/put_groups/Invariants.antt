use Rattle.std.proofs.Common.{vec_len, vec_capacity}
use Rattle.request_desk.proofs.Groups.{IsWriting}
use Rattle.request_desk.proofs.stamps.put_groups.Given as goal

-- the groups so far are written, and there is room for the others
abbrev pub invariant-groups : goal.invariant-groups
invariant-groups l =
    IsWriting l.fn.out.items l.out.items (vec_len l.out) (vec_capacity l.out) l.number l.left

abbrev pub decreases-groups : goal.decreases-groups
decreases-groups l = l.left
