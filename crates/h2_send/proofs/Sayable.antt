-- Where something can be said, by the order.
use Rattle.std.proofs.Common.{◌≡◌, ℕ, zero, suc, ◌==◌, Bool, true, false, cond, not, List, [], ◌∷◌, map, refl, sym, ap, ◌∙◌}
use Rattle.std.specs.Prelude.{nat_eq, ◌&&◌, ◌||◌, if◌then◌else◌}
use Rattle.std.specs.List.{insert}
use Rattle.std.proofs.lemmas.Bool.{eqb-true}
use Rattle.h2_frame.specs.Frames.{Frame}
use Rattle.h2_windows.specs.Streams.{is_stream, new_stream, opened, without, granted}
use Rattle.h2_windows.specs.declared.stream.Stream.{Stream}
use Rattle.h2_events.specs.Events.{opens, resets}
use Rattle.h2_events.specs.Items.{can_say_after, can_say_from, can_say, is_last}
use Rattle.h2_events.specs.Items as item
use Rattle.h2_events.specs.declared.event.RecvEvent.{RecvEvent}
use Rattle.h2_events.specs.declared.event.RecvEvent.TheVariants as event
use Rattle.h2_events.specs.declared.said.Said.TheVariants.{Message, Finish, Status}
use Rattle.h2_events.proofs.Streams.{can_say-append}
use Rattle.grpc_core.specs.Messages.{framed}
use Rattle.h2_send.specs.Inputs.{Input, Event, Speech, item_of}
use Rattle.h2_send.specs.Lines.{Line, first_line, told, with_increment}
use Rattle.h2_send.specs.Acting.{handled, taken_in}
use Rattle.h2_send.specs.Orders.{line_after, order_after}
use Rattle.h2_send.proofs.Readiness.{there, sent_there, loaded_there}

and_true : (b : Bool) → b ≡ (b && true)
and_true true = refl
and_true false = refl

and_false : (b c : Bool) → b ≡ (b && not (c && false))
and_false b true = and_true b
and_false b false = and_true b

and_last : (b c : Bool) → (b && not c) ≡ (b && not (c && true))
and_last b true = refl
and_last b false = refl

-- ---- a stream is taken out

taken_out : (x y e r : Bool) → (x ≡ true → y ≡ e) → (e ≡ true → y ≡ x) → cond (not x) (y || (r && not e)) (r && not e) ≡ ((y || r) && not e)
taken_out true true true true p q = refl
taken_out true true true false p q = refl
taken_out true true false r p q = let h = p refl in absurd cc
taken_out true false true r p q = let h = p refl in absurd cc
taken_out true false false true p q = refl
taken_out true false false false p q = refl
taken_out false true true r p q = let h = q refl in absurd cc
taken_out false true false r p q = refl
taken_out false false true true p q = refl
taken_out false false true false p q = refl
taken_out false false false true p q = refl
taken_out false false false false p q = refl

without_if : (is : Bool) (on : ℕ) (s : Stream) (others : List Stream) (r : Bool) → there on others ≡ r → there on (cond (not is) (s ∷ others) others) ≡ cond (not is) (is_stream on s || r) r
without_if true on s others r same = same
without_if false on s others r same = ap (λ b. is_stream on s || b) same

without_is : (on id : ℕ) (streams : List Stream) → there on (without id streams) ≡ (there on streams && not (id == on))
without_is on id [] = refl
without_is on id (s ∷ streams) = without_if (is_stream id s) on s (without id streams) (there on streams && not (id == on)) (without_is on id streams) ∙ taken_out (is_stream id s) (is_stream on s) (id == on) (there on streams) (λ h. ap (λ n. nat_eq n on) (eqb-true s.id id h)) (λ h. ap (λ n. nat_eq s.id n) (sym (eqb-true id on h)))

-- ---- a stream is put in

or_swap : (a b c : Bool) → (a || (b || c)) ≡ (b || (a || c))
or_swap true true c = refl
or_swap true false c = refl
or_swap false true c = refl
or_swap false false c = refl

insert_is : (on id k : ℕ) (streams : List Stream) → there on (insert streams k (new_stream id)) ≡ ((id == on) || there on streams)
insert_is on id zero streams = refl
insert_is on id (suc k) [] = refl
insert_is on id (suc k) (s ∷ streams) = ap (λ b. is_stream on s || b) (insert_is on id k streams) ∙ or_swap (is_stream on s) (id == on) (there on streams)

known : (e b : Bool) → (e ≡ true → b ≡ true) → b ≡ (e || b)
known true b p = p refl
known false b p = refl

opened_if : (is : Bool) (on id k : ℕ) (streams : List Stream) → there id streams ≡ is → there on (if is then streams else insert streams k (new_stream id)) ≡ ((id == on) || there on streams)
opened_if true on id k streams same = known (id == on) (there on streams) (λ h. ap (λ n. there n streams) (sym (eqb-true id on h)) ∙ same)
opened_if false on id k streams same = insert_is on id k streams

opened_is : (on id : ℕ) (streams : List Stream) → there on (opened id streams) ≡ ((id == on) || there on streams)
opened_is on id streams = opened_if (there id streams) on id _ streams refl

-- ---- nothing else changes which are there

same_if : (is : Bool) (on : ℕ) (s t : Stream) → t.id ≡ s.id → is_stream on (if is then t else s) ≡ is_stream on s
same_if true on s t same = ap (λ n. nat_eq n on) same
same_if false on s t same = refl

granted_is : (on id n : ℕ) (streams : List Stream) → there on (granted id n streams) ≡ there on streams
granted_is on id n [] = refl
granted_is on id n (s ∷ streams) = ap (λ b. b || there on (granted id n streams)) (same_if (is_stream id s) on s _ refl) ∙ ap (λ b. is_stream on s || b) (granted_is on id n streams)

increment_is : (on id n : ℕ) (line : Line) → there on (with_increment id n line).streams ≡ there on line.streams
increment_is on zero n line = refl
increment_is on (suc id) n line = granted_is on (suc id) n line.streams

event_is : (on : ℕ) (e : RecvEvent) (line : Line) → there on (told e line).streams ≡ (opens on e || (there on line.streams && not (resets on e)))
event_is on (event.Settings initial again) line = and_true (there on line.streams)
event_is on event.SettingsAck line = and_true (there on line.streams)
event_is on (event.Ping octets) line = and_true (there on line.streams)
event_is on (event.Window id n) line = increment_is on id n line ∙ and_true (there on line.streams)
event_is on (event.Call id headers ends) line = opened_is on id line.streams ∙ ap (λ b. (id == on) || b) (and_true (there on line.streams))
event_is on (event.TooLong id) line = opened_is on id line.streams ∙ ap (λ b. (id == on) || b) (and_true (there on line.streams))
event_is on (event.Piece id octets size ends) line = and_true (there on line.streams)
event_is on (event.Trailers id) line = and_true (there on line.streams)
event_is on (event.Reset id) line = without_is on id line.streams
event_is on (event.StreamFault id code) line = without_is on id line.streams
event_is on event.GoAway line = and_true (there on line.streams)

pub input_is : (on : ℕ) (input : Input) (line : Line) → there on (taken_in input line).streams ≡ can_say_after on (there on line.streams) (item_of input)
input_is on (Event e) line = event_is on e line
input_is on (Speech id (Message octets)) line = loaded_there on id (framed octets) line.streams ∙ and_false (there on line.streams) (id == on)
input_is on (Speech id (Finish refusal)) line = without_is on id line.streams ∙ and_last (there on line.streams) (id == on)
input_is on (Speech id (Status status)) line = without_is on id line.streams ∙ and_last (there on line.streams) (id == on)

pub handled_is : (on : ℕ) (input : Input) (line : Line) → there on (handled input line).line.streams ≡ can_say_after on (there on line.streams) (item_of input)
handled_is on input line =
    let l = taken_in input line in
    sent_there on l.initial l.window l.streams ∙ input_is on input line

frames_say_nothing : (on : ℕ) (before : Bool) (frames : List Frame) → can_say_from on before (map item.Wrote frames) ≡ before
frames_say_nothing on before [] = refl
frames_say_nothing on before (f ∷ frames) = frames_say_nothing on before frames

said_from : (on : ℕ) (line : Line) (inputs : List Input) → can_say_from on (there on line.streams) (order_after line inputs) ≡ there on (line_after line inputs).streams
said_from on line [] = refl
said_from on line (i ∷ inputs) =
    let frames = (handled i line).frames in
    let others = order_after (handled i line).line inputs in
    let now = can_say_after on (there on line.streams) (item_of i) in
    can_say-append on now (map item.Wrote frames) others ∙ ap (λ b. can_say_from on b others) (frames_say_nothing on now frames ∙ sym (handled_is on i line)) ∙ said_from on (handled i line).line inputs

pub sayable : (on : ℕ) (inputs : List Input) → can_say on (order_after first_line inputs) ≡ there on (line_after first_line inputs).streams
sayable on inputs = said_from on first_line inputs
