use Rattle.std.proofs.Common.{◌≡◌, ◌++◌, length}
use Rattle.h2_recv.specs.inner.Steps.{Goes}
use Rattle.h2_recv.proofs.reader.Reader.frames.Given as goal

abbrev pub invariant-loop-behind : goal.invariant-loop-behind
invariant-loop-behind l = Goes (l.fn.self.rest ++ l.octets) l.fn.self.peer l.fn.out l.self.rest l.behind l.self.peer l.out × (l.self.begun ≡ l.fn.self.begun)

abbrev pub decreases-loop-behind : goal.decreases-loop-behind
decreases-loop-behind l = length l.behind
