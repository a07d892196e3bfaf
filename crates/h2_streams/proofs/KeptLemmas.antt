-- The streams that are kept: by rising number, none of them closed, and at most 32.
use Rattle.std.proofs.Common.{◌≡◌, ℕ, ◌==◌, ◌+◌, ◌<◌, ◌≤◌, List, [], ◌∷◌, ◌++◌, Bool, true, false, refl, sym, subst, cond, not, max, filter, length, length-append, arith}
use Rattle.std.specs.Prelude.{◌≢◌}
use Rattle.std.proofs.Math.Nat.{le-max_left, le-max_right}
use Rattle.std.proofs.lemmas.Bool.{eqb-true}
use Rattle.std.proofs.lemmas.List.{length-map}
use Rattle.h2_streams.specs.declared.streams.StreamState.{StreamState}
use Rattle.h2_streams.specs.declared.streams.StreamState.TheVariants as state
use Rattle.h2_streams.specs.declared.streams.Stream.{Stream}
use Rattle.h2_streams.specs.Codes.{most_streams}
use Rattle.h2_streams.specs.States.{without, in_state, with_state, ended_by_peer, ended_here, state_at_opening}
use Rattle.h2_streams.specs.Laws.{AreRising, AreKept}

lower : (a b highest : ℕ) (xs : List Stream) → a ≤ b → AreRising b highest xs → AreRising a highest xs
lower a b highest [] le p = tt
lower a b highest (x ∷ xs) le p =
    let lt : b < x.id = p.0 in (omega (arith, le, lt), p.1, p.2, p.3)

left_out : (b : Bool) (a highest : ℕ) (x : Stream) (rest : List Stream) → a < x.id → x.id ≤ highest → x.state ≢ state.Closed → AreRising x.id highest rest
    → AreRising a highest (cond (not b) (x ∷ rest) rest)
left_out true a highest x rest lt le live p = lower a x.id highest rest (omega (arith, lt)) p
left_out false a highest x rest lt le live p = (lt, le, live, p)

rising_without : (s a highest : ℕ) (xs : List Stream) → AreRising a highest xs → AreRising a highest (without s xs)
rising_without s a highest [] p = tt
rising_without s a highest (x ∷ xs) p =
    left_out (x.id == s) a highest x (without s xs) p.0 p.1 p.2 (rising_without s x.id highest xs p.3)

changed : (b : Bool) (s a highest : ℕ) (now : StreamState) (x : Stream) (rest : List Stream) → (b ≡ true → x.id ≡ s) → now ≢ state.Closed
    → a < x.id → x.id ≤ highest → x.state ≢ state.Closed → AreRising x.id highest rest
    → AreRising a highest (cond b (record { id = s; state = now }) x ∷ rest)
changed true s a highest now x rest is live lt le was p =
    let e : x.id ≡ s = is refl in (
      subst (λ (k : ℕ). a < k) e lt,
      subst (λ (k : ℕ). k ≤ highest) e le,
      live,
      subst (λ (k : ℕ). AreRising k highest rest) e p,
    )
changed false s a highest now x rest is live lt le was p = (lt, le, was, p)

rising_with_state : (s a highest : ℕ) (now : StreamState) (xs : List Stream) → now ≢ state.Closed → AreRising a highest xs → AreRising a highest (with_state s now xs)
rising_with_state s a highest now [] live p = tt
rising_with_state s a highest now (x ∷ xs) live p =
    changed (x.id == s) s a highest now x (with_state s now xs) (eqb-true x.id s) live p.0 p.1 p.2 (rising_with_state s x.id highest now xs live p.3)

rising_up_to : (a highest most : ℕ) (xs : List Stream) → highest ≤ most → AreRising a highest xs → AreRising a most xs
rising_up_to a highest most [] le p = tt
rising_up_to a highest most (x ∷ xs) le p =
    let at : x.id ≤ highest = p.1 in (p.0, omega (arith, le, at), p.2, rising_up_to x.id highest most xs le p.3)

rising_more : (s a highest : ℕ) (now : StreamState) (xs : List Stream) → a ≤ highest → highest < s → now ≢ state.Closed → AreRising a highest xs
    → AreRising a (max highest s) (xs ++ record { id = s; state = now } ∷ [])
rising_more s a highest now [] le lt live p = (omega (arith, le, lt), le-max_right highest s, live, tt)
rising_more s a highest now (x ∷ xs) le lt live p =
    let at : x.id ≤ highest = p.1 in
    let most : highest ≤ max highest s = le-max_left highest s in
    (p.0, omega (arith, at, most), p.2, rising_more s x.id highest now xs at lt live p.3)

one_less : (b : Bool) (x : Stream) (xs rest : List Stream) → length rest ≤ length xs → length (cond (not b) (x ∷ rest) rest) ≤ length (x ∷ xs)
one_less true x xs rest le = omega (arith, le)
one_less false x xs rest le = omega (arith, le)

fewer : (s : ℕ) (xs : List Stream) → length (without s xs) ≤ length xs
fewer s [] = omega arith
fewer s (x ∷ xs) = one_less (x.id == s) x xs (without s xs) (fewer s xs)

-- ---- changes of the streams

pub kept_without : (s highest : ℕ) (xs : List Stream) → AreKept highest xs → AreKept highest (without s xs)
kept_without s highest xs p = record { rising = rising_without s 0 highest xs p.rising; few = omega (arith, fewer s xs, p.few) }

pub kept_with_state : (s highest : ℕ) (now : StreamState) (xs : List Stream) → now ≢ state.Closed → AreKept highest xs → AreKept highest (with_state s now xs)
kept_with_state s highest now xs live p = record {
  rising = rising_with_state s 0 highest now xs live p.rising;
  few = subst (λ (n : ℕ). n ≤ most_streams) (sym (length-map xs (in_state s now))) p.few;
}

local_not_closed : state.HalfClosedLocal ≢ state.Closed
local_not_closed e = absurd cc

remote_not_closed : state.HalfClosedRemote ≢ state.Closed
remote_not_closed e = absurd cc

pub kept_by_peer : (s highest : ℕ) (now : StreamState) (xs : List Stream) → AreKept highest xs → AreKept highest (ended_by_peer s now xs)
kept_by_peer s highest state.Open xs p = kept_with_state s highest state.HalfClosedRemote xs remote_not_closed p
kept_by_peer s highest state.HalfClosedLocal xs p = kept_without s highest xs p
kept_by_peer s highest state.HalfClosedRemote xs p = p
kept_by_peer s highest state.Closed xs p = p

pub kept_here : (s highest : ℕ) (now : StreamState) (xs : List Stream) → AreKept highest xs → AreKept highest (ended_here s now xs)
kept_here s highest state.Open xs p = kept_with_state s highest state.HalfClosedLocal xs local_not_closed p
kept_here s highest state.HalfClosedRemote xs p = kept_without s highest xs p
kept_here s highest state.HalfClosedLocal xs p = p
kept_here s highest state.Closed xs p = p

pub kept_up_to : (s highest : ℕ) (xs : List Stream) → AreKept highest xs → AreKept (max highest s) xs
kept_up_to s highest xs p = record { rising = rising_up_to 0 highest (max highest s) xs (le-max_left highest s) p.rising; few = p.few }

opening_not_closed : (ends : Bool) → state_at_opening ends ≢ state.Closed
opening_not_closed true e = absurd cc
opening_not_closed false e = absurd cc

pub kept_opened : (s highest : ℕ) (ends : Bool) (xs : List Stream) → highest < s → length xs < most_streams → AreKept highest xs
    → AreKept (max highest s) (xs ++ record { id = s; state = state_at_opening ends } ∷ [])
kept_opened s highest ends xs lt room p = record {
  rising = rising_more s 0 highest (state_at_opening ends) xs (omega arith) lt (opening_not_closed ends) p.rising;
  few = omega (arith, length-append xs (record { id = s; state = state_at_opening ends } ∷ []), room);
}
