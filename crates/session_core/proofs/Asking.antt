-- Requests on a stream begin once: behind the first of them come only those that go on with its call.
use Rattle.std.proofs.Common.{◌≡◌, ℕ, zero, suc, ◌==◌, ◌≤◌, ◌||◌, nat_lt, Bool, true, false, cond, List, [], ◌∷◌, ◌++◌, length, drop, refl, sym, ap, ◌∙◌, subst, append-nil, append_assoc, arith, true≢false, eqb-true}
use Rattle.std.specs.Prelude.{nat_eq, Option, Some, None}
use Rattle.std.specs.List.{AllByRecursion, list_any}
use Rattle.std.proofs.lemmas.Bool.{false≢true, or_parts}
use Rattle.std.proofs.lemmas.List.{length-append}
use lib.Seq.{drop-nil}
use Rattle.base_kinds.specs.declared.refusal.Refusal.{Refusal}
use Rattle.hpack_block.specs.declared.header.Header.{Header}
use Rattle.grpc_core.specs.declared.head.CallHead.{CallHead}
use Rattle.grpc_core.specs.declared.head.CallHead.TheVariants as heads
use Rattle.grpc_core.specs.declared.message.SplitFault.{SplitFault}
use Rattle.grpc_core.specs.declared.message.Standing.{Standing}
use Rattle.grpc_core.specs.declared.message.Standing.TheVariants.{Waiting, Whole, Faulty}
use Rattle.grpc_core.specs.declared.message.SplitFault.TheVariants.{Compressed, TooLarge}
use Rattle.grpc_core.specs.declared.method.Method.{Method}
use Rattle.grpc_core.specs.declared.method.Method.TheVariants.{Capabilities, Get, Set, Subscribe}
use Rattle.grpc_core.specs.Heads.{head_of}
use Rattle.grpc_core.specs.Messages.{Cut, cut, cut_at, cut_within, largest_message, of_length, standing, stated}
use Rattle.h2_events.specs.declared.event.RecvEvent.{RecvEvent}
use Rattle.h2_events.specs.declared.event.RecvEvent.TheVariants as event
use Rattle.h2_events.specs.Events.{opens}
use Rattle.h2_send.specs.Accepting.{IsOpenedOnce}
use Rattle.grpc_requests.specs.declared.request.Asked.{Asked}
use Rattle.grpc_requests.specs.declared.request.Asked.TheVariants as asks
use Rattle.grpc_requests.specs.declared.request.Request.{Request}
use Rattle.grpc_requests.specs.Calls.{Call, asks_at, asks_by, asks_of, asks_open, asks_over, asks_with, call_after, ends_with, further, has_message, is_over, is_over_at, is_over_with, refusal_of, stream_of, subscribe_end, with_piece}
use Rattle.grpc_requests.specs.Requests.{asks_more, is_on, open_after, open_call, requests, requests_after, requests_of, requests_on, requests_with, still_open}
use Rattle.grpc_requests.proofs.Tables.{open_more}

-- what is asked on a stream, in order
abbrev pub asked_on : ℕ → List Request → List Asked
asked_on stream [] = []
asked_on stream (r ∷ rs) = cond (r.stream == stream) (r.asked ∷ asked_on stream rs) (asked_on stream rs)

-- it goes on with a call that has begun
abbrev pub IsLater : Asked → Type 0
IsLater (asks.Later what) = Unit {0}
IsLater _ = ⊥

abbrev pub AreLater : List Asked → Type 0
AreLater asked = AllByRecursion IsLater asked

-- Nothing is asked; or the first of it begins, and the others go on.
abbrev pub BeginsOnce : List Asked → Type 0
BeginsOnce [] = Unit {0}
BeginsOnce (first ∷ rest) = AreLater rest

-- ---- lists of what is asked

pub later_both : (xs ys : List Asked) → AreLater xs → AreLater ys → AreLater (xs ++ ys)
later_both [] ys p q = q
later_both (x ∷ xs) ys p q = (p.0, later_both xs ys p.1 q)

pub later_last : (xs ys : List Asked) → AreLater (xs ++ ys) → AreLater ys
later_last [] ys p = p
later_last (x ∷ xs) ys p = later_last xs ys p.1

later_drop : (n : ℕ) (xs : List Asked) → AreLater xs → AreLater (drop n xs)
later_drop zero xs all = all
later_drop (suc n) [] all = tt
later_drop (suc n) (x ∷ xs) all = later_drop n xs all.1

pub later_begin : (xs : List Asked) → AreLater xs → BeginsOnce xs
later_begin [] all = tt
later_begin (x ∷ xs) all = all.1

begins_drop : (n : ℕ) (xs : List Asked) → BeginsOnce xs → BeginsOnce (drop n xs)
begins_drop zero xs once = once
begins_drop (suc n) [] once = tt
begins_drop (suc n) (x ∷ xs) once = later_begin (drop n xs) (later_drop n xs once)

behind_first : (n : ℕ) (xs : List Asked) → BeginsOnce xs → AreLater (drop (suc n) xs)
behind_first n [] once = tt
behind_first n (x ∷ xs) once = later_drop n xs once

abbrev HasFirst : List Asked → Type 0
HasFirst [] = ⊥
HasFirst (first ∷ rest) = Unit {0}

-- More is asked, where it was known how much was asked before.
more_begins : (so_far before after : List Asked) → BeginsOnce so_far → (HasFirst so_far → HasFirst before) → BeginsOnce after → BeginsOnce (so_far ++ drop (length before) after)
more_begins [] before after begun first once = begins_drop (length before) after once
more_begins (a ∷ so_far) [] after begun first once = absurd (first tt)
more_begins (a ∷ so_far) (b ∷ before) after begun first once = later_both so_far (drop (length (b ∷ before)) after) begun (behind_first (length before) after once)

dropped_first : (n : ℕ) (xs : List Asked) → HasFirst (drop n xs) → HasFirst xs
dropped_first n [] has = subst HasFirst (drop-nil n) has
dropped_first n (x ∷ xs) has = tt

first_still : (so_far before after : List Asked) → (HasFirst so_far → HasFirst before) → (HasFirst before → HasFirst after) → HasFirst (so_far ++ drop (length before) after) → HasFirst after
first_still [] before after first still has = dropped_first (length before) after has
first_still (a ∷ so_far) before after first still has = still (first tt)

-- ---- what one call asks begins once

further_later : (messages : List (List ℕ)) → AreLater (further true messages)
further_later [] = tt
further_later (message ∷ messages) = (tt, further_later messages)

end_later : (fault : Option Refusal) → AreLater (subscribe_end true fault ∷ [])
end_later (Some refusal) = (tt, tt)
end_later None = (tt, tt)

over_begins : (method : Method) (messages : List (List ℕ)) (rest : List ℕ) (fault : Option Refusal) → BeginsOnce (asks_over method false messages rest fault)
over_begins Capabilities messages rest fault = tt
over_begins Get messages rest fault = tt
over_begins Set messages rest fault = tt
over_begins Subscribe [] rest fault = tt
over_begins Subscribe (message ∷ messages) rest fault = later_both (further true messages) (subscribe_end true fault ∷ []) (further_later messages) (end_later fault)

open_begins : (method : Method) (messages : List (List ℕ)) → BeginsOnce (asks_open method false messages)
open_begins Capabilities messages = tt
open_begins Get messages = tt
open_begins Set messages = tt
open_begins Subscribe [] = tt
open_begins Subscribe (message ∷ messages) = further_later messages

of_begins : (method : Method) (messages : List (List ℕ)) (rest : List ℕ) (fault : Option SplitFault) (ended : Bool) → BeginsOnce (asks_of method false messages rest fault ended)
of_begins method messages rest (Some fault) ended = over_begins method messages rest (Some (refusal_of fault))
of_begins method messages rest None true = over_begins method messages rest None
of_begins method messages rest None false = open_begins method messages

at_begins : (head : CallHead) (octets : List ℕ) (ended : Bool) → BeginsOnce (asks_at head octets ended)
at_begins (heads.Call method) octets ended = of_begins method (cut octets).messages (cut octets).rest (cut octets).fault ended
at_begins (heads.Http status) octets ended = tt
at_begins (heads.Refused refusal) octets ended = tt

with_begins : (headers : Option (List Header)) (octets : List ℕ) (ended : Bool) → BeginsOnce (asks_with headers octets ended)
with_begins None octets ended = tt
with_begins (Some headers) octets ended = at_begins (head_of headers) octets ended

call_begins : (call : Call) → BeginsOnce (asks_by (Some call))
call_begins call = with_begins call.headers call.octets call.ended

-- ---- octets that begin with a message do so with more behind them

abbrev IsWhole : Standing → Type 0
IsWhole (Whole size) = Unit {0}
IsWhole _ = ⊥

cut_whole : (others : List ℕ → Cut) (octets : List ℕ) (stands : Standing) → has_message (cut_at others octets stands).messages ≡ true → IsWhole stands
cut_whole others octets Waiting is = absurd (false≢true is)
cut_whole others octets (Faulty fault) is = absurd (false≢true is)
cut_whole others octets (Whole size) is = tt

whole_cut : (others : List ℕ → Cut) (octets : List ℕ) (stands : Standing) → IsWhole stands → has_message (cut_at others octets stands).messages ≡ true
whole_cut others octets Waiting is = absurd is
whole_cut others octets (Faulty fault) is = absurd is
whole_cut others octets (Whole size) is = refl

whole_if : (large short shorter : Bool) (size : ℕ) → (short ≡ false → shorter ≡ false) → IsWhole (cond large (Faulty TooLarge) (cond short Waiting (Whole size))) → IsWhole (cond large (Faulty TooLarge) (cond shorter Waiting (Whole size)))
whole_if true short shorter size longer is = is
whole_if false true shorter size longer is = absurd is
whole_if false false shorter size longer is = subst (λ (b : Bool). IsWhole (cond b Waiting (Whole size))) (sym (longer refl)) tt

enough : (there more size : ℕ) → there ≤ more → nat_lt there size ≡ false → nat_lt more size ≡ false
enough there more size longer is = grind (arith, longer, is)

whole_longer : (size there more : ℕ) → there ≤ more → IsWhole (of_length size there) → IsWhole (of_length size more)
whole_longer size there more longer is = whole_if (nat_lt largest_message size) (nat_lt there size) (nat_lt more size) size (enough there more size longer) is

whole_flag : (plain : Bool) (first second : Standing) → (IsWhole first → IsWhole second) → IsWhole (cond plain first (Faulty Compressed)) → IsWhole (cond plain second (Faulty Compressed))
whole_flag true first second still is = still is
whole_flag false first second still is = is

longer : (octets more : List ℕ) → length octets ≤ length (octets ++ more)
longer octets more = omega (arith, length-append octets more)

first_cut : (octets more : List ℕ) → has_message (cut octets).messages ≡ true → has_message (cut (octets ++ more)).messages ≡ true
first_cut [] more is = absurd (false≢true is)
first_cut (f ∷ []) more is = absurd (false≢true is)
first_cut (f ∷ a ∷ []) more is = absurd (false≢true is)
first_cut (f ∷ a ∷ b ∷ []) more is = absurd (false≢true is)
first_cut (f ∷ a ∷ b ∷ c ∷ []) more is = absurd (false≢true is)
first_cut (f ∷ a ∷ b ∷ c ∷ d ∷ octets) more is =
    let size = stated a b c d in
    let was : IsWhole (standing (f ∷ a ∷ b ∷ c ∷ d ∷ octets)) =
    cut_whole (cut_within (length (a ∷ b ∷ c ∷ d ∷ octets))) (f ∷ a ∷ b ∷ c ∷ d ∷ octets) (standing (f ∷ a ∷ b ∷ c ∷ d ∷ octets)) is in
    whole_cut (cut_within (length (a ∷ b ∷ c ∷ d ∷ (octets ++ more)))) (f ∷ a ∷ b ∷ c ∷ d ∷ (octets ++ more)) (standing (f ∷ a ∷ b ∷ c ∷ d ∷ (octets ++ more)))
    (whole_flag (nat_eq f 0) (of_length size (length octets)) (of_length size (length (octets ++ more))) (whole_longer size (length octets) (length (octets ++ more)) (longer octets more)) was)

-- ---- a call that has asked for something goes on to have done so

subscribe_first : (messages : List (List ℕ)) (rest : List ℕ) (fault : Option SplitFault) (ended : Bool) → has_message messages ≡ true → HasFirst (asks_of Subscribe false messages rest fault ended)
subscribe_first [] rest fault ended is = absurd (false≢true is)
subscribe_first (message ∷ messages) rest (Some fault) ended is = tt
subscribe_first (message ∷ messages) rest None true is = tt
subscribe_first (message ∷ messages) rest None false is = tt

open_first : (method : Method) (messages others : List (List ℕ)) (rest : List ℕ) (fault : Option SplitFault) (ended : Bool) → (has_message messages ≡ true → has_message others ≡ true)
    → HasFirst (asks_open method false messages) → HasFirst (asks_of method false others rest fault ended)
open_first Capabilities messages others rest fault ended still has = absurd has
open_first Get messages others rest fault ended still has = absurd has
open_first Set messages others rest fault ended still has = absurd has
open_first Subscribe [] others rest fault ended still has = absurd has
open_first Subscribe (message ∷ messages) others rest fault ended still has = subscribe_first others rest fault ended (still refl)

first_goes_on : (method : Method) (messages others : List (List ℕ)) (rest left : List ℕ) (fault after : Option SplitFault) (ended last : Bool) → (has_message messages ≡ true → has_message others ≡ true)
    → ends_with fault ended ≡ false → HasFirst (asks_of method false messages rest fault ended) → HasFirst (asks_of method false others left after last)
first_goes_on method messages others rest left (Some fault) after ended last still over has = absurd (true≢false over)
first_goes_on method messages others rest left None after true last still over has = absurd (true≢false over)
first_goes_on method messages others rest left None after false last still over has = open_first method messages others left after last still has

at_first : (head : CallHead) (octets more : List ℕ) (ended last : Bool) → is_over_at head octets ended ≡ false → HasFirst (asks_at head octets ended) → HasFirst (asks_at head (octets ++ more) last)
at_first (heads.Call method) octets more ended last over has =
    first_goes_on method (cut octets).messages (cut (octets ++ more)).messages (cut octets).rest (cut (octets ++ more)).rest (cut octets).fault (cut (octets ++ more)).fault ended last (first_cut octets more) over has
at_first (heads.Http status) octets more ended last over has = absurd (true≢false over)
at_first (heads.Refused refusal) octets more ended last over has = absurd (true≢false over)

with_first : (headers : Option (List Header)) (octets more : List ℕ) (ended last : Bool) → is_over_with headers octets ended ≡ false → HasFirst (asks_with headers octets ended) → HasFirst (asks_with headers (octets ++ more) last)
with_first None octets more ended last over has = absurd (true≢false over)
with_first (Some headers) octets more ended last over has = at_first (head_of headers) octets more ended last over has

piece_first : (call : Call) (octets : List ℕ) (ended : Bool) → is_over call ≡ false → HasFirst (asks_by (Some call)) → HasFirst (asks_by (Some (with_piece octets ended call)))
piece_first call octets ended over has = with_first call.headers call.octets octets call.ended (call.ended || ended) over has

-- ---- one event

-- so much was asked on a stream, where this call is open there
record HasAsked (so_far : List Asked) (call : Call) : Type 0 where
  goes_on : is_over call ≡ false
  first : HasFirst so_far → HasFirst (asks_by (Some call))
  begun : BeginsOnce so_far

abbrev Goes : List Asked → Option Call → Type 0
Goes so_far None = BeginsOnce so_far
Goes so_far (Some call) = HasAsked so_far call

begun_so_far : (so_far : List Asked) (call : Option Call) → Goes so_far call → BeginsOnce so_far
begun_so_far so_far None goes = goes
begun_so_far so_far (Some call) goes = goes.begun

call_goes : (so_far : List Asked) (call : Call) → BeginsOnce so_far → (HasFirst so_far → HasFirst (asks_by (Some call))) → Goes so_far (still_open (Some call))
call_goes so_far call begun first = by_test (is_over call) refl where
  by_test : (b : Bool) → is_over call ≡ b → Goes so_far (cond b None (Some call))
  by_test true is = begun
  by_test false is = record { goes_on = is; first = first; begun = begun }

piece_goes : (so_far : List Asked) (call : Call) (octets : List ℕ) (ended : Bool) → HasAsked so_far call
    → Goes (so_far ++ drop (length (asks_by (Some call))) (asks_by (Some (with_piece octets ended call)))) (still_open (Some (with_piece octets ended call)))
piece_goes so_far call octets ended goes =
    let before = asks_by (Some call) in
    let after = asks_by (Some (with_piece octets ended call)) in
    call_goes (so_far ++ drop (length before) after) (with_piece octets ended call)
    (more_begins so_far before after goes.begun goes.first (call_begins (with_piece octets ended call)))
    (first_still so_far before after goes.first (piece_first call octets ended goes.goes_on))

reset_goes : (so_far : List Asked) (call : Call) → HasAsked so_far call → BeginsOnce (so_far ++ drop (length (asks_by (Some call))) [])
reset_goes so_far call goes = more_begins so_far (asks_by (Some call)) [] goes.begun goes.first tt

if_here : (here : Bool) (so_far more : List Asked) (call after : Option Call) → Goes so_far call → Goes (so_far ++ more) after → Goes (so_far ++ cond here more []) (cond here after call)
if_here true so_far more call after goes then = then
if_here false so_far more call after goes then = subst (λ (xs : List Asked). Goes xs call) (sym (append-nil so_far)) goes

none_here : (here : Bool) (so_far : List Asked) → BeginsOnce so_far → Goes (so_far ++ cond here [] []) (cond here None None)
none_here here so_far begun = if_here here so_far [] None None begun (subst BeginsOnce (sym (append-nil so_far)) begun)

nothing_asked : (so_far : List Asked) (call : Option Call) → Goes so_far call → Goes (so_far ++ []) call
nothing_asked so_far call goes = subst (λ (xs : List Asked). Goes xs call) (sym (append-nil so_far)) goes

elsewhere : (here : Bool) (so_far more : List Asked) (call after : Option Call) → here ≡ false → Goes so_far call → Goes (so_far ++ cond here more []) (cond here after call)
elsewhere here so_far more call after off goes = subst (λ (b : Bool). Goes (so_far ++ cond b more []) (cond b after call)) (sym off) (nothing_asked so_far call goes)

-- what an event asks on a stream where this call is open
abbrev asked_there : ℕ → RecvEvent → Option Call → List Asked
asked_there stream e call = cond (is_on stream (stream_of e)) (asks_more e call) []

-- one that doesn't open it
event_goes : (stream : ℕ) (e : RecvEvent) (call : Option Call) (so_far : List Asked) → opens stream e ≡ false → Goes so_far call → Goes (so_far ++ asked_there stream e call) (open_after stream call e)
event_goes stream (event.Call on headers ended) call so_far closed goes = elsewhere (on == stream) so_far (asks_more (event.Call on headers ended) call) call (still_open (call_after (event.Call on headers ended) call)) closed goes
event_goes stream (event.TooLong on) call so_far closed goes = elsewhere (on == stream) so_far (asks_more (event.TooLong on) call) call (still_open (call_after (event.TooLong on) call)) closed goes
event_goes stream (event.Piece on octets size ended) None so_far closed goes = none_here (on == stream) so_far goes
event_goes stream (event.Piece on octets size ended) (Some call) so_far closed goes =
    if_here (on == stream) so_far (asks_more (event.Piece on octets size ended) (Some call)) (Some call) (still_open (Some (with_piece octets ended call))) goes (piece_goes so_far call octets ended goes)
event_goes stream (event.Trailers on) None so_far closed goes = none_here (on == stream) so_far goes
event_goes stream (event.Trailers on) (Some call) so_far closed goes =
    if_here (on == stream) so_far (asks_more (event.Trailers on) (Some call)) (Some call) (still_open (Some (with_piece [] true call))) goes (piece_goes so_far call [] true goes)
event_goes stream (event.Reset on) None so_far closed goes = none_here (on == stream) so_far goes
event_goes stream (event.Reset on) (Some call) so_far closed goes = if_here (on == stream) so_far (asks_more (event.Reset on) (Some call)) (Some call) None goes (reset_goes so_far call goes)
event_goes stream (event.StreamFault on code) None so_far closed goes = none_here (on == stream) so_far goes
event_goes stream (event.StreamFault on code) (Some call) so_far closed goes = if_here (on == stream) so_far (asks_more (event.StreamFault on code) (Some call)) (Some call) None goes (reset_goes so_far call goes)
event_goes stream (event.Settings size resizes) call so_far closed goes = nothing_asked so_far call goes
event_goes stream event.SettingsAck call so_far closed goes = nothing_asked so_far call goes
event_goes stream (event.Ping octets) call so_far closed goes = nothing_asked so_far call goes
event_goes stream (event.Window on by) call so_far closed goes = nothing_asked so_far call goes
event_goes stream event.GoAway call so_far closed goes = nothing_asked so_far call goes

fresh_goes : (call : Call) → Goes (asks_by (Some call)) (still_open (Some call))
fresh_goes call = call_goes (asks_by (Some call)) call (call_begins call) (λ has. has)

-- one that does
opened_goes : (stream : ℕ) (e : RecvEvent) (call : Option Call) → opens stream e ≡ true → Goes (asked_there stream e call) (open_after stream call e)
opened_goes stream (event.Call on headers ended) call is =
    subst (λ (b : Bool). Goes (cond b (asks_more (event.Call on headers ended) call) []) (cond b (still_open (call_after (event.Call on headers ended) call)) call)) (sym is)
    (fresh_goes (record { headers = Some headers; octets = []; ended = ended }))
opened_goes stream (event.TooLong on) call is =
    subst (λ (b : Bool). Goes (cond b (asks_more (event.TooLong on) call) []) (cond b (still_open (call_after (event.TooLong on) call)) call)) (sym is)
    (fresh_goes (record { headers = None; octets = []; ended = false }))
opened_goes stream (event.Piece on octets size ended) call is = absurd (false≢true is)
opened_goes stream (event.Trailers on) call is = absurd (false≢true is)
opened_goes stream (event.Reset on) call is = absurd (false≢true is)
opened_goes stream (event.StreamFault on code) call is = absurd (false≢true is)
opened_goes stream (event.Settings size resizes) call is = absurd (false≢true is)
opened_goes stream event.SettingsAck call is = absurd (false≢true is)
opened_goes stream (event.Ping octets) call is = absurd (false≢true is)
opened_goes stream (event.Window on by) call is = absurd (false≢true is)
opened_goes stream event.GoAway call is = absurd (false≢true is)

same_if : {A : Type 0} (b : Bool) (x : A) → cond b x x ≡ x
same_if true x = refl
same_if false x = refl

record StaysNone (stream : ℕ) (e : RecvEvent) : Type 0 where
  asked : asked_there stream e None ≡ []
  call : open_after stream None e ≡ None

quiet : (stream on : ℕ) (e : RecvEvent) → asked_there stream e None ≡ cond (on == stream) [] [] → open_after stream None e ≡ cond (on == stream) None None → StaysNone stream e
quiet stream on e asked call = record { asked = asked ∙ same_if (on == stream) []; call = call ∙ same_if (on == stream) None }

-- where no call is open, one that opens none leaves none, and asks nothing
stays_none : (stream : ℕ) (e : RecvEvent) → opens stream e ≡ false → StaysNone stream e
stays_none stream (event.Call on headers ended) closed = record {
  asked = ap (λ (b : Bool). cond b (asks_more (event.Call on headers ended) None) []) closed;
  call = ap (λ (b : Bool). cond b (still_open (call_after (event.Call on headers ended) None)) None) closed;
}
stays_none stream (event.TooLong on) closed = record {
  asked = ap (λ (b : Bool). cond b (asks_more (event.TooLong on) None) []) closed;
  call = ap (λ (b : Bool). cond b (still_open (call_after (event.TooLong on) None)) None) closed;
}
stays_none stream (event.Piece on octets size ended) closed = quiet stream on (event.Piece on octets size ended) refl refl
stays_none stream (event.Trailers on) closed = quiet stream on (event.Trailers on) refl refl
stays_none stream (event.Reset on) closed = quiet stream on (event.Reset on) refl refl
stays_none stream (event.StreamFault on code) closed = quiet stream on (event.StreamFault on code) refl refl
stays_none stream (event.Settings size resizes) closed = record { asked = refl; call = refl }
stays_none stream event.SettingsAck closed = record { asked = refl; call = refl }
stays_none stream (event.Ping octets) closed = record { asked = refl; call = refl }
stays_none stream (event.Window on by) closed = record { asked = refl; call = refl }
stays_none stream event.GoAway closed = record { asked = refl; call = refl }

-- ---- all events

asked_if : (b : Bool) (first : Asked) (xs ys : List Asked) → cond b (first ∷ (xs ++ ys)) (xs ++ ys) ≡ cond b (first ∷ xs) xs ++ ys
asked_if true first xs ys = refl
asked_if false first xs ys = refl

pub asked_on-append : (stream : ℕ) (xs ys : List Request) → asked_on stream (xs ++ ys) ≡ asked_on stream xs ++ asked_on stream ys
asked_on-append stream [] ys = refl
asked_on-append stream (r ∷ xs) ys =
    ap (λ (t : List Asked). cond (r.stream == stream) (r.asked ∷ t) t) (asked_on-append stream xs ys)
    ∙ asked_if (r.stream == stream) r.asked (asked_on stream xs) (asked_on stream ys)

one_more : (b : Bool) (first : Asked) (rest : List Asked) → cond b (first ∷ cond b rest []) (cond b rest []) ≡ cond b (first ∷ rest) []
one_more true first rest = refl
one_more false first rest = refl

asked_of : (stream on : ℕ) (asked : List Asked) → asked_on stream (requests_of on asked) ≡ cond (on == stream) asked []
asked_of stream on [] = sym (same_if (on == stream) [])
asked_of stream on (first ∷ rest) =
    ap (λ (t : List Asked). cond (on == stream) (first ∷ t) t) (asked_of stream on rest) ∙ one_more (on == stream) first rest

asked_at : (stream : ℕ) (heard : List RecvEvent) (e : RecvEvent) (on : Option ℕ) → asked_on stream (requests_on heard e on) ≡ cond (is_on stream on) (asks_more e (open_call stream heard)) []
asked_at stream heard e None = refl
asked_at stream heard e (Some on) = asked_of stream on (asks_more e (open_call on heard)) ∙ by_test (on == stream) refl where
  by_test : (b : Bool) → (on == stream) ≡ b → cond b (asks_more e (open_call on heard)) [] ≡ cond b (asks_more e (open_call stream heard)) []
  by_test true is = ap (λ (s : ℕ). asks_more e (open_call s heard)) (eqb-true on stream is)
  by_test false is = refl

-- what is asked on the stream with one event, and with those behind it
asked_first : (stream : ℕ) (heard : List RecvEvent) (e : RecvEvent) (events : List RecvEvent) (call : Option Call) → open_call stream heard ≡ call
    → asked_on stream (requests_after heard (e ∷ events)) ≡ asked_there stream e call ++ asked_on stream (requests_after (heard ++ e ∷ []) events)
asked_first stream heard e events call is =
    asked_on-append stream (requests_with heard e) (requests_after (heard ++ e ∷ []) events)
    ∙ ap (λ (t : List Asked). t ++ asked_on stream (requests_after (heard ++ e ∷ []) events)) (asked_at stream heard e (stream_of e) ∙ ap (asked_there stream e) is)

call_then : (stream : ℕ) (heard : List RecvEvent) (e : RecvEvent) (call : Option Call) → open_call stream heard ≡ call → open_call stream (heard ++ e ∷ []) ≡ open_after stream call e
call_then stream heard e call is = open_more stream heard e ∙ ap (λ (c : Option Call). open_after stream c e) is

-- where none of them opens the stream
goes_all : (stream : ℕ) (heard events : List RecvEvent) (call : Option Call) (so_far : List Asked) → open_call stream heard ≡ call → Goes so_far call → list_any (opens stream) events ≡ false
    → BeginsOnce (so_far ++ asked_on stream (requests_after heard events))
goes_all stream heard [] call so_far is goes closed = subst BeginsOnce (sym (append-nil so_far)) (begun_so_far so_far call goes)
goes_all stream heard (e ∷ events) call so_far is goes closed =
    let parts = or_parts (opens stream e) (list_any (opens stream) events) closed in
    let here = asked_there stream e call in
    let rest = asked_on stream (requests_after (heard ++ e ∷ []) events) in
    let behind : BeginsOnce ((so_far ++ here) ++ rest) =
    goes_all stream (heard ++ e ∷ []) events (open_after stream call e) (so_far ++ here) (call_then stream heard e call is) (event_goes stream e call so_far parts.0 goes) parts.1 in
    subst BeginsOnce (append_assoc so_far here rest ∙ ap (λ (t : List Asked). so_far ++ t) (sym (asked_first stream heard e events call is))) behind

-- where it isn't open yet, nothing was asked
begins_all : (stream : ℕ) (heard events : List RecvEvent) → open_call stream heard ≡ None → IsOpenedOnce stream events → BeginsOnce (asked_on stream (requests_after heard events))
begins_all stream heard [] is once = tt
begins_all stream heard (e ∷ events) is once =
    subst BeginsOnce (sym (asked_first stream heard e events None is)) (by_test (opens stream e) refl (begins_all stream (heard ++ e ∷ []) events)) where
      by_test : (b : Bool) → opens stream e ≡ b → (open_call stream (heard ++ e ∷ []) ≡ None → IsOpenedOnce stream events → BeginsOnce (asked_on stream (requests_after (heard ++ e ∷ []) events)))
          → BeginsOnce (asked_there stream e None ++ asked_on stream (requests_after (heard ++ e ∷ []) events))
      by_test true opened rest =
          goes_all stream (heard ++ e ∷ []) events (open_after stream None e) (asked_there stream e None) (call_then stream heard e None is) (opened_goes stream e None opened) (once.0 opened)
      by_test false closed rest =
          let none = stays_none stream e closed in
          subst (λ (t : List Asked). BeginsOnce (t ++ asked_on stream (requests_after (heard ++ e ∷ []) events))) (sym none.asked) (rest (call_then stream heard e None is ∙ none.call) once.1)

pub begins_once : (stream : ℕ) (events : List RecvEvent) → IsOpenedOnce stream events → BeginsOnce (asked_on stream (requests events))
begins_once stream events once = begins_all stream [] events refl once
