-- Streams that were opened: requests come on them alone, and none is opened twice.
use Rattle.std.proofs.Common.{◌≡◌, ◌⊎◌, inl, inr, ℕ, ◌==◌, ◌<◌, ◌≤◌, List, [], ◌∷◌, ◌++◌, zero, suc, length, drop, Bool, true, false, ◌||◌, refl, sym, ap, ◌∙◌, subst, cond, arith, append_assoc}
use Rattle.std.specs.Prelude.{Option, Some, None}
use Rattle.std.specs.List.{AllByRecursion, fold, list_any}
use Rattle.std.proofs.lemmas.Bool.{eqb-true, eq-eqb, false≢true}
use Rattle.h2_events.specs.declared.event.RecvEvent.{RecvEvent}
use Rattle.h2_events.specs.declared.event.RecvEvent.TheVariants as event
use Rattle.h2_events.specs.Events.{opens, highest_with, highest_from, highest_of}
use Rattle.h2_events.proofs.Streams.{highest-rises}
use Rattle.h2_send.specs.Accepting.{IsOpenedOnce}
use Rattle.session_core.specs.Saying.{any_opens}
use Rattle.std.specs.Prelude.{option_map}
use Rattle.grpc_requests.specs.declared.request.Asked.{Asked}
use Rattle.grpc_requests.specs.declared.request.Request.{Request}
use Rattle.grpc_requests.specs.Calls.{Call, stream_of, call_after, asks_by, with_piece}
use Rattle.grpc_requests.specs.Requests.{is_on, still_open, asked_before, open_after, open_call, requests_of, requests_on, requests_with, requests_after, requests}

or_right : (a b : Bool) → b ≡ true → (a || b) ≡ true
or_right true b is = refl
or_right false b is = is

pub any_opens-append : (s : ℕ) (xs ys : List RecvEvent) → any_opens s (xs ++ ys) ≡ (any_opens s xs || any_opens s ys)
any_opens-append s [] ys = refl
any_opens-append s (x ∷ xs) ys = ap (λ b. opens s x || b) (any_opens-append s xs ys) ∙ or_assoc (opens s x) (any_opens s xs) (any_opens s ys) where
  or_assoc : (a b c : Bool) → (a || (b || c)) ≡ ((a || b) || c)
  or_assoc true b c = refl
  or_assoc false b c = refl

or_left : (a b : Bool) → a ≡ true → (a || b) ≡ true
or_left true b is = refl
or_left false b is = absurd (false≢true is)

pub still_opened : (s : ℕ) (xs ys : List RecvEvent) → any_opens s xs ≡ true → any_opens s (xs ++ ys) ≡ true
still_opened s xs ys is = any_opens-append s xs ys ∙ or_left (any_opens s xs) (any_opens s ys) is

-- a stream that an event opens is one of the highest then
opens_high : (s n : ℕ) (x : RecvEvent) → opens s x ≡ true → s ≤ highest_with n x
opens_high s n (event.Settings size again) is = absurd (false≢true is)
opens_high s n event.SettingsAck is = absurd (false≢true is)
opens_high s n (event.Ping octets) is = absurd (false≢true is)
opens_high s n (event.Window stream by) is = absurd (false≢true is)
opens_high s n (event.Call stream headers ends) is = let e = eqb-true stream s is in grind (arith, e)
opens_high s n (event.TooLong stream) is = let e = eqb-true stream s is in grind (arith, e)
opens_high s n (event.Piece stream octets size ends) is = absurd (false≢true is)
opens_high s n (event.Trailers stream) is = absurd (false≢true is)
opens_high s n (event.Reset stream) is = absurd (false≢true is)
opens_high s n (event.StreamFault stream code) is = absurd (false≢true is)
opens_high s n event.GoAway is = absurd (false≢true is)

any_high : (s n : ℕ) (b : Bool) (x : RecvEvent) (xs : List RecvEvent) → opens s x ≡ b → (b || any_opens s xs) ≡ true
    → ((n : ℕ) → any_opens s xs ≡ true → s ≤ highest_from n xs) → s ≤ highest_from (highest_with n x) xs
any_high s n true x xs first is rest = let h = opens_high s n x first in let k = highest-rises (highest_with n x) xs in grind (arith, h, k)
any_high s n false x xs first is rest = rest (highest_with n x) is

opened_high : (s n : ℕ) (xs : List RecvEvent) → any_opens s xs ≡ true → s ≤ highest_from n xs
opened_high s n [] is = absurd (false≢true is)
opened_high s n (x ∷ xs) is = any_high s n (opens s x) x xs refl is (λ m h. opened_high s m xs h)

-- An event that opens a stream opens one above all that were opened.
pub record OpensAbove (highest : ℕ) (x : RecvEvent) : Type 0 where
  pub above : (s : ℕ) → opens s x ≡ true → highest < s

not_opened : (b : Bool) (s : ℕ) (x : RecvEvent) (xs : List RecvEvent) → opens s x ≡ b → any_opens s xs ≡ true → OpensAbove (highest_of xs) x → b ≡ false
not_opened true s x xs opens_s before new =
    let h = new.above s opens_s in let k = opened_high s 0 xs before in absurd (omega (arith, h, k))
not_opened false s x xs opens_s before new = refl

pub opened_once : (s : ℕ) (x : RecvEvent) (xs : List RecvEvent) → any_opens s xs ≡ true → OpensAbove (highest_of xs) x → opens s x ≡ false
opened_once s x xs before new = not_opened (opens s x) s x xs refl before new

or_false : (a b : Bool) → a ≡ false → b ≡ false → (a || b) ≡ false
or_false a b first second = ap (λ (c : Bool). c || b) first ∙ second

any_one_more : (s : ℕ) (xs : List RecvEvent) (x : RecvEvent) → list_any (opens s) xs ≡ false → opens s x ≡ false → list_any (opens s) (xs ++ x ∷ []) ≡ false
any_one_more s [] x none new = or_false (opens s x) false new refl
any_one_more s (y ∷ xs) x none new = or_false (opens s y) (list_any (opens s) (xs ++ x ∷ [])) (first_false (opens s y) (list_any (opens s) xs) none)
    (any_one_more s xs x (second_false (opens s y) (list_any (opens s) xs) none) new) where
      first_false : (a b : Bool) → (a || b) ≡ false → a ≡ false
      first_false false b is = refl
      first_false true b is = is

      second_false : (a b : Bool) → (a || b) ≡ false → b ≡ false
      second_false false b is = is
      second_false true b is = absurd cc

-- a stream is opened once, also where one event more opens another
pub once_more : (s : ℕ) (xs : List RecvEvent) (x : RecvEvent) → IsOpenedOnce s xs → (any_opens s xs ≡ true → opens s x ≡ false) → IsOpenedOnce s (xs ++ x ∷ [])
once_more s [] x once new = (λ is. refl, tt)
once_more s (y ∷ xs) x once new =
    (λ is. any_one_more s xs x (once.0 is) (new (ap (λ (b : Bool). b || any_opens s xs) is)), once_more s xs x once.1 (λ later. new (or_right (opens s y) (any_opens s xs) later)))

-- ---- requests come of streams that were opened

abbrev IsCall : Option Call → Type 0
IsCall None = ⊥
IsCall (Some call) = Unit {0}

mapped : (f : Call → Call) (call : Option Call) → IsCall (option_map f call) → IsCall call
mapped f None is = is
mapped f (Some call) is = tt

-- a call that there is after an event was there before, or the event opened its stream
either_opens : (s stream : ℕ) (x : RecvEvent) (call : Option Call) → stream_of x ≡ Some stream → (stream == s) ≡ true → IsCall (call_after x call) → IsCall call ⊎ (opens s x ≡ true)
either_opens s stream (event.Call on headers ends) call at same is = let e : on ≡ stream = cc in inr (ap (λ n. n == s) e ∙ same)
either_opens s stream (event.TooLong on) call at same is = let e : on ≡ stream = cc in inr (ap (λ n. n == s) e ∙ same)
either_opens s stream (event.Piece on octets size ends) call at same is = inl (mapped (with_piece octets ends) call is)
either_opens s stream (event.Trailers on) call at same is = inl (mapped (with_piece [] true) call is)
either_opens s stream (event.Reset on) call at same is = absurd is
either_opens s stream (event.StreamFault on code) call at same is = absurd is
either_opens s stream (event.Settings size again) call at same is = inl is
either_opens s stream event.SettingsAck call at same is = inl is
either_opens s stream (event.Ping octets) call at same is = inl is
either_opens s stream (event.Window on by) call at same is = inl is
either_opens s stream event.GoAway call at same is = inl is

unless : (call : Option Call) → IsCall (still_open call) → IsCall call
unless None is = is
unless (Some call) is = tt

after_one : (s : ℕ) (at : Option ℕ) (b : Bool) (x : RecvEvent) (call : Option Call) → stream_of x ≡ at → is_on s at ≡ b
    → IsCall (cond b (still_open (call_after x call)) call) → IsCall call ⊎ (opens s x ≡ true)
after_one s None true x call at same is = absurd (false≢true same)
after_one s (Some stream) true x call at same is = either_opens s stream x call at same (unless (call_after x call) is)
after_one s at false x call at_is same is = inl is

then_opened : (s : ℕ) (x : RecvEvent) (xs : List RecvEvent) (call : Option Call) → (IsCall call ⊎ (opens s x ≡ true)) ⊎ (any_opens s xs ≡ true) → IsCall call ⊎ (any_opens s (x ∷ xs) ≡ true)
then_opened s x xs call (inl (inl is)) = inl is
then_opened s x xs call (inl (inr is)) = inr (or_left (opens s x) (any_opens s xs) is)
then_opened s x xs call (inr is) = inr (or_right (opens s x) (any_opens s xs) is)

after_first : (s : ℕ) (x : RecvEvent) (xs : List RecvEvent) (call : Option Call) → IsCall (open_after s call x) ⊎ (any_opens s xs ≡ true) → IsCall call ⊎ (any_opens s (x ∷ xs) ≡ true)
after_first s x xs call (inl is) = then_opened s x xs call (inl (after_one s (stream_of x) (is_on s (stream_of x)) x call refl refl is))
after_first s x xs call (inr is) = then_opened s x xs call (inr is)

open_from : (s : ℕ) (call : Option Call) (xs : List RecvEvent) → IsCall (fold (open_after s) call xs) → IsCall call ⊎ (any_opens s xs ≡ true)
open_from s call [] is = inl is
open_from s call (x ∷ xs) is = after_first s x xs call (open_from s (open_after s call x) xs is)

was_opened : (s : ℕ) (xs : List RecvEvent) → IsCall (open_call s xs) → any_opens s xs ≡ true
was_opened s xs is = only_opened (open_from s None xs is) where
  only_opened : ⊥ ⊎ (any_opens s xs ≡ true) → any_opens s xs ≡ true
  only_opened (inl none) = absurd none
  only_opened (inr is) = is

-- the request's stream was opened by these events
abbrev pub IsOpened : List RecvEvent → Request → Type 0
IsOpened events request = any_opens request.stream events ≡ true

asked_opened : (s : ℕ) (heard : List RecvEvent) (x : RecvEvent) → IsCall (open_call s heard) ⊎ (opens s x ≡ true) → any_opens s (heard ++ x ∷ []) ≡ true
asked_opened s heard x (inl is) = still_opened s heard (x ∷ []) (was_opened s heard is)
asked_opened s heard x (inr is) = any_opens-append s heard (x ∷ []) ∙ or_right (any_opens s heard) (any_opens s (x ∷ [])) (or_left (opens s x) false is)

same_itself : (n : ℕ) → (n == n) ≡ true
same_itself n = eq-eqb n n refl

all_on : (s : ℕ) (events : List RecvEvent) (asks : List Asked) → any_opens s events ≡ true → AllByRecursion (IsOpened events) (requests_of s asks)
all_on s events [] is = tt
all_on s events (what ∷ asks) is = (is, all_on s events asks is)

none_on : (s : ℕ) (events : List RecvEvent) (n : ℕ) → AllByRecursion (IsOpened events) (requests_of s (drop n []))
none_on s events zero = tt
none_on s events (suc n) = tt

asks_opened : (s : ℕ) (heard : List RecvEvent) (x : RecvEvent) (n : ℕ) (call : Option Call) → stream_of x ≡ Some s → call_after x (open_call s heard) ≡ call
    → AllByRecursion (IsOpened (heard ++ x ∷ [])) (requests_of s (drop n (asks_by call)))
asks_opened s heard x n None at is = none_on s (heard ++ x ∷ []) n
asks_opened s heard x n (Some call) at is =
    all_on s (heard ++ x ∷ []) (drop n (asks_by (Some call))) (asked_opened s heard x (either_opens s s x (open_call s heard) at (same_itself s) (subst IsCall (sym is) tt)))

request_opened : (heard : List RecvEvent) (x : RecvEvent) (at : Option ℕ) → stream_of x ≡ at → AllByRecursion (IsOpened (heard ++ x ∷ [])) (requests_on heard x at)
request_opened heard x None at = tt
request_opened heard x (Some s) at = asks_opened s heard x (length (asked_before x (open_call s heard))) (call_after x (open_call s heard)) at refl

all_joined : {X : Type 0} (P : X → Type 0) (xs ys : List X) → AllByRecursion P xs → AllByRecursion P ys → AllByRecursion P (xs ++ ys)
all_joined P [] ys p q = q
all_joined P (x ∷ xs) ys p q = (p.0, all_joined P xs ys p.1 q)

pub all_front : {X : Type 0} (P : X → Type 0) (xs ys : List X) → AllByRecursion P (xs ++ ys) → AllByRecursion P xs
all_front P [] ys p = tt
all_front P (x ∷ xs) ys p = (p.0, all_front P xs ys p.1)

more_opened : (events more : List RecvEvent) (requests : List Request) → AllByRecursion (IsOpened events) requests → AllByRecursion (IsOpened (events ++ more)) requests
more_opened events more [] p = tt
more_opened events more (r ∷ requests) p = (still_opened r.stream events more p.0, more_opened events more requests p.1)

opened_after : (heard xs : List RecvEvent) → AllByRecursion (IsOpened (heard ++ xs)) (requests_after heard xs)
opened_after heard [] = tt
opened_after heard (x ∷ xs) =
    let all : (heard ++ x ∷ []) ++ xs ≡ heard ++ x ∷ xs = append_assoc heard (x ∷ []) xs in
    let first = subst (λ (es : List RecvEvent). AllByRecursion (IsOpened es) (requests_with heard x)) all
    (more_opened (heard ++ x ∷ []) xs (requests_with heard x) (request_opened heard x (stream_of x) refl)) in
    let later = subst (λ (es : List RecvEvent). AllByRecursion (IsOpened es) (requests_after (heard ++ x ∷ []) xs)) all (opened_after (heard ++ x ∷ []) xs) in
    all_joined (IsOpened (heard ++ x ∷ xs)) (requests_with heard x) (requests_after (heard ++ x ∷ []) xs) first later

pub requests_opened : (events : List RecvEvent) → AllByRecursion (IsOpened events) (requests events)
requests_opened events = opened_after [] events
