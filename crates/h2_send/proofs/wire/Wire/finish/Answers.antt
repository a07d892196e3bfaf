use Rattle.std.proofs.Common.{rules, subst, sym, ◌≡◌, false, map}
use Rattle.h2_send.specs.Conditions.{is_closed}
use Rattle.h2_send.specs.Inputs.{input_of}
use Rattle.h2_send.proofs.Closing.{live_line}
use Rattle.h2_send.proofs.Holding.{any_sound}
use Rattle.h2_send.specs.Outputs.{HasGoneOut}
use Rattle.h2_send.proofs.Outputs.{ended_out}
use Rattle.h2_send.proofs.wire.Wire.finish.Goals as goal

pub invariant_of-self : goal.invariant_of-self
invariant_of-self g c =
    let live : is_closed c.self.inside.condition ≡ false = search rules in
    any_sound _ c.self.inside.connection (map input_of c.self.inside.given) (live_line c.self.inside.condition c.self.inside.connection (map input_of c.self.inside.given) live c.self.invariant.folded) c.self.invariant.accepted

pub returns-clause-sound : goal.returns-clause-sound
returns-clause-sound g c = invariant_of-self g c

pub returns-clause-output : goal.returns-clause-output
returns-clause-output g c start has =
    let live : is_closed c.self.inside.condition ≡ false = search rules in
    ended_out c.put_last-last.result c.args.code c.self.inside.condition _ c.self.inside.connection (map input_of c.self.inside.given) c.answered-done.result start _ _ live c.self.invariant.folded c.put_last-last.ensures c.answered-done.ensures c.condition_after-self-inside.ensures (subst (λ w. HasGoneOut w.condition w.inputs start (g.S.Sink.seen w.sink)) (sym c.self.view_is) has)
