use Rattle.std.proofs.Common.{rules, subst, sym, map}
use Rattle.h2_send.specs.Inputs.{input_of}
use Rattle.h2_send.proofs.Closing.{new_line}
use Rattle.h2_send.proofs.Holding.{any_sound}
use Rattle.h2_send.specs.Outputs.{HasGoneOut}
use Rattle.h2_send.proofs.Outputs.{greeted_out}
use Rattle.h2_send.proofs.wire.Wire.greet.Goals as goal

pub invariant_of-self : goal.invariant_of-self
invariant_of-self g c = any_sound _ c.self.inside.connection (map input_of c.self.inside.given) (new_line c.self.inside.condition c.self.inside.connection (map input_of c.self.inside.given) (search rules) c.self.invariant.folded) c.self.invariant.accepted

pub returns-clause-sound : goal.returns-clause-sound
returns-clause-sound g c = invariant_of-self g c

pub returns-clause-output : goal.returns-clause-output
returns-clause-output g c start has = greeted_out c.put_greeting.result c.self.inside.condition _ (map input_of c.self.inside.given) c.answered-done.result start _ _ (search rules) c.put_greeting.ensures c.answered-done.ensures c.condition_after-self-inside.ensures (subst (λ w. HasGoneOut w.condition w.inputs start (g.S.Sink.seen w.sink)) (sym c.self.view_is) has)
