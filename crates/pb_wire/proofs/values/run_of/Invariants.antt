use Rattle.pb_wire.proofs.RunLemmas.{Run}
use Rattle.pb_wire.proofs.values.run_of.Given as goal

abbrev pub invariant-loop-at : goal.invariant-loop-at
invariant-loop-at l = Run l.members l.fields l.at l.run l.last
