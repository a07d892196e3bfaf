use Rattle.std.proofs.Common.{◌≡◌, take}
use Rattle.book_port.specs.Chronicles.{entered}
use Rattle.book_core.proofs.opening.chronicle_of.Given as goal

abbrev pub invariant-loop-entry : goal.invariant-loop-entry
invariant-loop-entry l = l.chronicle ≡ entered (take l.entry-index l.entries)
