use Rattle.std.proofs.Common.{length}
use Rattle.stream_workers.proofs.Jobs.{GoesToEnd}
use Rattle.stream_workers.proofs.ending.end_all.Given as goal

abbrev pub invariant-loop-next : goal.invariant-loop-next
invariant-loop-next g l = GoesToEnd g.P.BookPort.port l.fn.running.items l.left.items (g.P.BookPort.port l.fn.book) (g.P.BookPort.port l.book) l.fn.wire l.wire

abbrev pub decreases-loop-next : goal.decreases-loop-next
decreases-loop-next g l = length l.left.items
