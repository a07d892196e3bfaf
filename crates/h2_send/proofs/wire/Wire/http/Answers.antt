use Rattle.std.proofs.Common.{rules, subst, sym, ◌≡◌, true, false, map}
use Rattle.h2_events.specs.declared.said.Said.TheVariants.{Status}
use Rattle.h2_events.specs.declared.port.Ready.TheVariants.{Free}
use Rattle.h2_send.specs.Conditions.{readiness}
use Rattle.h2_send.specs.Inputs.{Speech, input_of}
use Rattle.h2_send.specs.Offers.{IsStatus, has_begun}
use Rattle.h2_send.proofs.Closing.{grown, free_open}
use Rattle.h2_send.proofs.Holding.{stays_sound, ready_free}
use Rattle.h2_send.specs.Outputs.{HasGoneOut}
use Rattle.h2_send.proofs.Outputs.{given_out}
use Rattle.h2_send.proofs.wire.Wire.http.Goals as goal

pub invariant_of-self : goal.invariant_of-self
invariant_of-self g c =
    let free : readiness c.self.inside.condition c.args.stream c.self.inside.connection ≡ Free = search rules in
    let unbegun : has_begun c.args.stream c.self.inside.connection.streams ≡ false = search rules in
    let status : IsStatus c.args.status = search rules in
    let is_open = free_open c.self.inside.condition c.args.stream c.self.inside.connection free in
    stays_sound true (Speech c.args.stream (Status c.args.status)) c.self.inside.condition _ c.self.inside.connection c.say_status-done.new.connection (map input_of c.self.inside.given) _ c.say_status-done.result _ _ is_open c.self.invariant (ready_free c.self.inside.condition c.args.stream c.self.inside.connection free, unbegun, status) c.say_status-done.ensures c.condition_after-self-inside.ensures (grown _ _ _ c.remember.ensures)

pub returns-clause-sound : goal.returns-clause-sound
returns-clause-sound g c = invariant_of-self g c

pub returns-clause-output : goal.returns-clause-output
returns-clause-output g c start has =
    let free : readiness c.self.inside.condition c.args.stream c.self.inside.connection ≡ Free = search rules in
    let is_open = free_open c.self.inside.condition c.args.stream c.self.inside.connection free in
    given_out true (Speech c.args.stream (Status c.args.status)) c.self.inside.condition _ c.self.inside.connection c.say_status-done.new.connection (map input_of c.self.inside.given) _ c.say_status-done.result start _ _ is_open c.self.invariant.folded c.say_status-done.ensures c.condition_after-self-inside.ensures (grown _ _ _ c.remember.ensures) (subst (λ w. HasGoneOut w.condition w.inputs start (g.S.Sink.seen w.sink)) (sym c.self.view_is) has)
