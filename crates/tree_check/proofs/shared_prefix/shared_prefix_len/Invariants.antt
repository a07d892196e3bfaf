use Rattle.std.proofs.Common.{◌≡◌, ◌≤◌, ◌-◌, length, take, List, ℕ}
use Rattle.base_kinds.specs.declared.path.Elem.{Elem}
use Rattle.tree_check.proofs.shared_prefix.shared_prefix_len.Given as goal

pub record Shares (a b : List Elem) (n : ℕ) : Type 0 where
  pub first : n ≤ length a
  pub second : n ≤ length b
  pub same : take n a ≡ take n b

abbrev pub invariant-loop-n : goal.invariant-loop-n
invariant-loop-n l = Shares l.a l.b l.n

abbrev pub decreases-loop-n : goal.decreases-loop-n
decreases-loop-n l = length l.a - l.n
