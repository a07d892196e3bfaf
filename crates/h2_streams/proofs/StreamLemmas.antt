-- Changes of one stream, and the states of others.
use Rattle.std.proofs.Common.{◌≡◌, ℕ, ◌==◌, List, [], ◌∷◌, ◌++◌, Bool, true, false, refl, sym, ap, ◌∙◌, cond, not}
use Rattle.std.specs.Prelude.{◌≢◌}
use Rattle.std.proofs.lemmas.Bool.{eqb-true}
use Rattle.h2_streams.specs.declared.streams.StreamState.{StreamState}
use Rattle.h2_streams.specs.declared.streams.StreamState.TheVariants as state
use Rattle.h2_streams.specs.declared.streams.Stream.{Stream}
use Rattle.h2_streams.specs.States.{state_among, without, with_state, ended_by_peer}

false_if : (b : Bool) → (b ≡ true → ⊥) → b ≡ false
false_if true n = absurd (n refl)
false_if false n = refl

-- a number that isn't the other is different from it
differs : (a b : ℕ) → (a ≡ b → ⊥) → (a == b) ≡ false
differs a b n = false_if (a == b) (λ e. n (eqb-true a b e))

-- the stream in front is another one
other_first : (other : ℕ) (x : Stream) (xs : List Stream) → (x.id ≡ other → ⊥) → state_among other (x ∷ xs) ≡ state_among other xs
other_first other x xs n = ap (λ (b : Bool). cond b x.state (state_among other xs)) (differs x.id other n)

left_out : (b : Bool) (other : ℕ) (x : Stream) (xs rest : List Stream) → (b ≡ true → x.id ≡ other → ⊥)
    → state_among other rest ≡ state_among other xs → state_among other (cond (not b) (x ∷ rest) rest) ≡ state_among other (x ∷ xs)
left_out true other x xs rest n e = e ∙ sym (other_first other x xs (n refl))
left_out false other x xs rest n e = ap (λ t. cond (x.id == other) x.state t) e

pub others_without : (s other : ℕ) (xs : List Stream) → other ≢ s → state_among other (without s xs) ≡ state_among other xs
others_without s other [] n = refl
others_without s other (x ∷ xs) n =
    left_out (x.id == s) other x xs (without s xs) (λ e f. n (sym f ∙ eqb-true x.id s e)) (others_without s other xs n)

changed : (b : Bool) (s other : ℕ) (now : StreamState) (x : Stream) (xs rest : List Stream) → (b ≡ true → x.id ≡ s) → other ≢ s
    → state_among other rest ≡ state_among other xs
    → state_among other (cond b (record { id = s; state = now }) x ∷ rest) ≡ state_among other (x ∷ xs)
changed true s other now x xs rest is n e =
    other_first other (record { id = s; state = now }) rest (λ f. n (sym f)) ∙ e
    ∙ sym (other_first other x xs (λ f. n (sym f ∙ is refl)))
changed false s other now x xs rest is n e = ap (λ t. cond (x.id == other) x.state t) e

pub others_with_state : (s other : ℕ) (now : StreamState) (xs : List Stream) → other ≢ s → state_among other (with_state s now xs) ≡ state_among other xs
others_with_state s other now [] n = refl
others_with_state s other now (x ∷ xs) n =
    changed (x.id == s) s other now x xs (with_state s now xs) (eqb-true x.id s) n (others_with_state s other now xs n)

pub others_opened : (s other : ℕ) (now : StreamState) (xs : List Stream) → other ≢ s → state_among other (xs ++ record { id = s; state = now } ∷ []) ≡ state_among other xs
others_opened s other now [] n = other_first other (record { id = s; state = now }) [] (λ f. n (sym f))
others_opened s other now (x ∷ xs) n = ap (λ t. cond (x.id == other) x.state t) (others_opened s other now xs n)

pub others_ended : (s other : ℕ) (now : StreamState) (xs : List Stream) → other ≢ s → state_among other (ended_by_peer s now xs) ≡ state_among other xs
others_ended s other state.Open xs n = others_with_state s other state.HalfClosedRemote xs n
others_ended s other state.HalfClosedLocal xs n = others_without s other xs n
others_ended s other state.HalfClosedRemote xs n = refl
others_ended s other state.Closed xs n = refl
