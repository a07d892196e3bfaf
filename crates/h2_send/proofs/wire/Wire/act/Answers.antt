use Rattle.std.proofs.Common.{rules, subst, sym, ◌≡◌, ap, ◌∙◌, map, [], ◌∷◌, ◌++◌}
use Rattle.h2_send.specs.Inputs.{Event, input_of}
use Rattle.h2_send.specs.Lines.{is_new_stream}
use Rattle.h2_send.specs.declared.condition.Condition.TheVariants as condition
use Rattle.h2_send.proofs.Closing.{grown}
use Rattle.h2_send.proofs.Holding.{stays_sound}
use Rattle.h2_send.specs.Outputs.{HasGoneOut}
use Rattle.h2_send.proofs.Outputs.{given_out}
use Rattle.h2_send.proofs.wire.Wire.act.Goals as goal

pub invariant_of-self : goal.invariant_of-self
invariant_of-self g c =
    let is_open : c.self.inside.condition ≡ condition.Open = search rules in
    stays_sound (is_new_stream c.args.event.now) (Event c.args.event.now) c.self.inside.condition _ c.self.inside.connection c.respond-done.new.connection (map input_of c.self.inside.given) _ c.respond-done.result _ _ is_open c.self.invariant (search rules) c.respond-done.ensures c.condition_after-self-inside.ensures (grown _ _ _ c.remember.ensures ∙ ap (λ event. map input_of c.self.inside.given ++ Event event ∷ []) c.of.ensures)

pub returns-clause-sound : goal.returns-clause-sound
returns-clause-sound g c = invariant_of-self g c

pub returns-clause-output : goal.returns-clause-output
returns-clause-output g c start has =
    let is_open : c.self.inside.condition ≡ condition.Open = search rules in
    given_out (is_new_stream c.args.event.now) (Event c.args.event.now) c.self.inside.condition _ c.self.inside.connection c.respond-done.new.connection (map input_of c.self.inside.given) _ c.respond-done.result start _ _ is_open c.self.invariant.folded c.respond-done.ensures c.condition_after-self-inside.ensures (grown _ _ _ c.remember.ensures ∙ ap (λ event. map input_of c.self.inside.given ++ Event event ∷ []) c.of.ensures) (subst (λ w. HasGoneOut w.condition w.inputs start (g.S.Sink.seen w.sink)) (sym c.self.view_is) has)
