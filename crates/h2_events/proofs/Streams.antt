-- What can be said, and that the highest stream never falls.
use Rattle.std.proofs.Common.{◌≡◌, ℕ, ◌≤◌, ◌==◌, List, [], ◌∷◌, ◌++◌, Bool, true, false, not, ◌&&◌, ◌||◌, IsTrue, refl, sym, ap, ◌∙◌, arith, max, cond}
use Rattle.std.specs.List.{AllByRecursion}
use Rattle.std.proofs.lemmas.Bool.{false≢true, eq-eqb}
use Rattle.h2_frame.specs.ErrorCodes.{frame_size_error}
use Rattle.h2_events.specs.declared.event.RecvEvent.{RecvEvent}
use Rattle.h2_events.specs.declared.event.RecvEvent.TheVariants as event
use Rattle.h2_events.specs.declared.said.Said.{Said}
use Rattle.h2_events.specs.Events.{resets, opens, highest_with, highest_from}
use Rattle.h2_events.specs.Items.{Item, Meant, Accepted, Wrote, heard, is_last, can_say_after, can_say_from, can_say}

-- ---- what can be said

pub can_say-append : (s : ℕ) (before : Bool) (xs ys : List Item) → can_say_from s before (xs ++ ys) ≡ can_say_from s (can_say_from s before xs) ys
can_say-append s before [] ys = refl
can_say-append s before (x ∷ xs) ys = can_say-append s (can_say_after s before x) xs ys

true_or : (a b : Bool) → IsTrue a → (a || b) ≡ true
true_or true b h = refl
true_or false b h = absurd (false≢true h)

pub opened_now : (s : ℕ) (xs : List Item) (x : RecvEvent) → IsTrue (opens s x) → can_say s (xs ++ Meant x ∷ []) ≡ true
opened_now s xs x h = can_say-append s false xs (Meant x ∷ []) ∙ true_or (opens s x) _ h

neither : (opened before closes : Bool) → opened ≡ false → IsTrue closes → (opened || (before && not closes)) ≡ false
neither true before closes p h = absurd (false≢true (sym p))
neither false true true p h = refl
neither false true false p h = absurd (false≢true h)
neither false false closes p h = refl

-- no event opens a stream and resets one
resets_opens_none : (s : ℕ) (x : RecvEvent) → IsTrue (resets s x) → opens s x ≡ false
resets_opens_none s (event.Settings size again) h = refl
resets_opens_none s event.SettingsAck h = refl
resets_opens_none s (event.Ping octets) h = refl
resets_opens_none s (event.Window stream by) h = refl
resets_opens_none s (event.Call stream headers ends) h = absurd (false≢true h)
resets_opens_none s (event.TooLong stream) h = absurd (false≢true h)
resets_opens_none s (event.Piece stream octets size ends) h = refl
resets_opens_none s (event.Trailers stream) h = refl
resets_opens_none s (event.Reset stream) h = refl
resets_opens_none s (event.StreamFault stream code) h = refl
resets_opens_none s event.GoAway h = refl

pub reset_now : (s : ℕ) (xs : List Item) (x : RecvEvent) → IsTrue (resets s x) → can_say s (xs ++ Meant x ∷ []) ≡ false
reset_now s xs x h =
    can_say-append s false xs (Meant x ∷ []) ∙ neither (opens s x) (can_say s xs) (resets s x) (resets_opens_none s x h) h

same_itself : (n : ℕ) → (n == n) ≡ true
same_itself n = eq-eqb n n refl

ended : (before same last : Bool) → same ≡ true → IsTrue last → (before && not (same && last)) ≡ false
ended true true true p h = refl
ended before true false p h = absurd (false≢true h)
ended before false last p h = absurd (false≢true p)
ended false true true p h = refl

pub ended_now : (s : ℕ) (xs : List Item) (x : Said) → IsTrue (is_last x) → can_say s (xs ++ Accepted s x ∷ []) ≡ false
ended_now s xs x h =
    can_say-append s false xs (Accepted s x ∷ []) ∙ ended (can_say s xs) (s == s) (is_last x) (same_itself s) h

pub stays_closed : (s : ℕ) (ys : List Item) → AllByRecursion (λ x. opens s x ≡ false) (heard ys) → can_say_from s false ys ≡ false
stays_closed s [] h = refl
stays_closed s (Meant x ∷ ys) h =
    ap (λ b. can_say_from s (b || (false && not (resets s x))) ys) h.0 ∙ stays_closed s ys h.1
stays_closed s (Accepted on said ∷ ys) h = stays_closed s ys h
stays_closed s (Wrote frame ∷ ys) h = stays_closed s ys h

pub closed_stays : (s : ℕ) (xs ys : List Item) → can_say s xs ≡ false → AllByRecursion (λ x. opens s x ≡ false) (heard ys) → can_say s (xs ++ ys) ≡ false
closed_stays s xs ys p h =
    can_say-append s false xs ys ∙ ap (λ b. can_say_from s b ys) p ∙ stays_closed s ys h

-- ---- the highest stream

pub highest-append : (n : ℕ) (xs ys : List RecvEvent) → highest_from n (xs ++ ys) ≡ highest_from (highest_from n xs) ys
highest-append n [] ys = refl
highest-append n (x ∷ xs) ys = highest-append (highest_with n x) xs ys

same_or_more : (b : Bool) (n s : ℕ) → n ≤ cond b n (max n s)
same_or_more true n s = grind arith
same_or_more false n s = grind arith

one_rises : (n : ℕ) (x : RecvEvent) → n ≤ highest_with n x
one_rises n (event.Settings size resizes) = grind arith
one_rises n event.SettingsAck = grind arith
one_rises n (event.Ping octets) = grind arith
one_rises n (event.Window stream by) = grind arith
one_rises n (event.Call stream headers ends) = grind arith
one_rises n (event.TooLong stream) = grind arith
one_rises n (event.Piece stream octets size ends) = grind arith
one_rises n (event.Trailers stream) = grind arith
one_rises n (event.Reset stream) = grind arith
one_rises n (event.StreamFault stream code) = same_or_more (code == frame_size_error) n stream
one_rises n event.GoAway = grind arith

pub highest-rises : (n : ℕ) (xs : List RecvEvent) → n ≤ highest_from n xs
highest-rises n [] = grind arith
highest-rises n (x ∷ xs) = let h = one_rises n x in let k = highest-rises (highest_with n x) xs in grind (arith, h, k)
