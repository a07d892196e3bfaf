use Rattle.std.proofs.Common.{rules, ◌≡◌, ℕ, List, [], ◌∷◌, ◌++◌, MatchBool, sym, ap, ◌∙◌, subst}
use Rattle.test_lock.proofs.Additions.{extends}
use Rattle.test_lock.proofs.lock_turns.take_turns.Goals as goal

pub leave-requires-clause-extends : goal.leave-requires-clause-extends
leave-requires-clause-extends g c =
    let old : List (ℕ × ℕ) = c.enter-tally.new.pass.seat.me.0.seen in
    let new : List (ℕ × ℕ) = c.add.new.self.entries.items in
    let n : c.number-number.result ≡ c.enter-tally.new.pass.seat.me.0.turn.number =
    c.number-number.ensures.0 ∙ (sym c.loop-turn.invariant.same.2 ∙ sym c.enter-tally.ensures.pass.0.2) in
    let added : MatchBool c.add.result (new ≡ old ++ (c.number-number.result, c.loop-turn.turn) ∷ []) (new ≡ old) =
    subst (λ (z : List (ℕ × ℕ)). MatchBool c.add.result (new ≡ z ++ (c.number-number.result, c.loop-turn.turn) ∷ []) (new ≡ z)) c.enter-tally.ensures.seen.0 c.add.ensures in
    extends (λ e. e.0) old new (c.number-number.result, c.loop-turn.turn) c.enter-tally.new.pass.seat.me.0.turn.number c.add.result n added
