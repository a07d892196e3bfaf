use Rattle.std.proofs.Common.{rules, subst, sym, ◌≡◌, true, ap, ◌∙◌, map, [], ◌∷◌, ◌++◌}
use Rattle.h2_events.specs.Items.{said_by}
use Rattle.h2_events.specs.Ports.{FitsMessage}
use Rattle.h2_events.specs.declared.port.Ready.TheVariants.{Free}
use Rattle.h2_send.specs.Conditions.{readiness}
use Rattle.h2_send.specs.Inputs.{Speech, input_of}
use Rattle.h2_send.proofs.Closing.{grown, free_open}
use Rattle.h2_send.proofs.Holding.{stays_sound, ready_free, accepts_piece}
use Rattle.h2_send.specs.Outputs.{HasGoneOut}
use Rattle.h2_send.proofs.Outputs.{given_out}
use Rattle.h2_send.proofs.wire.Wire.say.Goals as goal

pub invariant_of-self : goal.invariant_of-self
invariant_of-self g c =
    let free : readiness c.self.inside.condition c.args.stream c.self.inside.connection ≡ Free = search rules in
    let is_open = free_open c.self.inside.condition c.args.stream c.self.inside.connection free in
    let fits : FitsMessage c.args.piece.now = search rules in
    let accepts = accepts_piece c.args.stream c.args.piece.now c.self.inside.connection fits (ready_free c.self.inside.condition c.args.stream c.self.inside.connection free) in
    stays_sound true (Speech c.args.stream (said_by c.args.piece.now)) c.self.inside.condition _ c.self.inside.connection c.say_piece-done.new.connection (map input_of c.self.inside.given) _ c.say_piece-done.result _ _ is_open c.self.invariant accepts c.say_piece-done.ensures c.condition_after-self-inside.ensures (grown _ _ _ c.remember.ensures ∙ ap (λ piece. map input_of c.self.inside.given ++ Speech c.args.stream (said_by piece) ∷ []) c.of.ensures)

pub returns-clause-sound : goal.returns-clause-sound
returns-clause-sound g c = invariant_of-self g c

pub returns-clause-output : goal.returns-clause-output
returns-clause-output g c start has =
    let free : readiness c.self.inside.condition c.args.stream c.self.inside.connection ≡ Free = search rules in
    let is_open = free_open c.self.inside.condition c.args.stream c.self.inside.connection free in
    given_out true (Speech c.args.stream (said_by c.args.piece.now)) c.self.inside.condition _ c.self.inside.connection c.say_piece-done.new.connection (map input_of c.self.inside.given) _ c.say_piece-done.result start _ _ is_open c.self.invariant.folded c.say_piece-done.ensures c.condition_after-self-inside.ensures (grown _ _ _ c.remember.ensures ∙ ap (λ piece. map input_of c.self.inside.given ++ Speech c.args.stream (said_by piece) ∷ []) c.of.ensures) (subst (λ w. HasGoneOut w.condition w.inputs start (g.S.Sink.seen w.sink)) (sym c.self.view_is) has)
