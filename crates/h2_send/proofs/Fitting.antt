-- What is written for sound inputs has heads that fit.
use Rattle.std.specs.Prelude.{if◌then◌else◌}
use Rattle.std.proofs.Common.{inl, inr, ◌≡◌, Bool, ℕ, zero, suc, ◌^◌, ◌<◌, ◌≤◌, true, false, List, [], ◌∷◌, ◌++◌, map, refl, sym, ap, ◌∙◌, subst, arith}
use Rattle.std.specs.List.{AllByRecursion}
use Rattle.h2_windows.specs.Fitting.{HaveFitHeads, HaveFitNumbers}
use Rattle.h2_windows.specs.Sending.{sent, largest_payload}
use Rattle.h2_windows.proofs.Fitting.{fit-append, sent_fit, sent_numbers, opened_numbers, without_numbers, granted_numbers}
use Rattle.h2_events.specs.Events.{IsSound, CanFault}
use Rattle.h2_events.specs.Items.{written}
use Rattle.h2_events.specs.Items as item
use Rattle.h2_events.proofs.Orders.{written-append}
use Rattle.h2_events.specs.declared.event.RecvEvent.{RecvEvent}
use Rattle.h2_events.specs.declared.event.RecvEvent.TheVariants as event
use Rattle.h2_send.specs.Lines.{Line, first_line, told, with_increment}
use Rattle.h2_events.specs.declared.said.Said.TheVariants.{Message, Finish, Status}
use Rattle.grpc_core.specs.Messages.{framed}
use Rattle.h2_windows.specs.Streams.{is_stream}
use Rattle.h2_windows.specs.declared.stream.Stream.{Stream}
use Rattle.h2_send.proofs.ReplyFitting.{opening_fits, ending_fits, status_fits}
use Rattle.h2_send.specs.Inputs.{Input, Event, Speech, IsSoundInput}
use Rattle.h2_send.specs.Offers.{has_begun, loaded, with_octets}
use Rattle.h2_send.specs.Acting.{replies, first_frames, taken_in, handled}
use Rattle.h2_send.specs.Orders.{order_after}
use Rattle.h2_send.proofs.Orders.{written_all, written_input}

increment_numbers : (id n : ℕ) (line : Line) → HaveFitNumbers line.streams → HaveFitNumbers (with_increment id n line).streams
increment_numbers zero n line small = small
increment_numbers (suc id) n line small = granted_numbers (suc id) n line.streams small

told_numbers : (e : RecvEvent) (line : Line) → IsSound e → HaveFitNumbers line.streams → HaveFitNumbers (told e line).streams
told_numbers (event.Settings initial resizes) line sound small = small
told_numbers event.SettingsAck line sound small = small
told_numbers (event.Ping octets) line sound small = small
told_numbers (event.Window id n) line sound small = increment_numbers id n line small
told_numbers (event.Call id headers ends) line sound small = opened_numbers id line.streams sound.0.small small
told_numbers (event.TooLong id) line sound small = opened_numbers id line.streams sound.small small
told_numbers (event.Piece id octets size ends) line sound small = small
told_numbers (event.Trailers id) line sound small = small
told_numbers (event.Reset id) line sound small = without_numbers id line.streams small
told_numbers (event.StreamFault id code) line sound small = without_numbers id line.streams small
told_numbers event.GoAway line sound small = small

fault_number : (id code : ℕ) → CanFault id code → id < 2 ^ 31
fault_number id code (inl client) = client.small
fault_number id code (inr (some, small, is)) = small

at_connection : (0 < 2 ^ 31)
at_connection = omega arith

four : 4 ≤ largest_payload
four = omega arith

replies_fit : (e : RecvEvent) → IsSound e → HaveFitHeads (replies e)
replies_fit (event.Settings initial resizes) sound = (record { states_length = refl; length_fits = omega arith; stream_fits = at_connection }, tt)
replies_fit event.SettingsAck sound = tt
replies_fit (event.Ping octets) sound = (record { states_length = refl; length_fits = omega arith; stream_fits = at_connection }, tt)
replies_fit (event.Window id n) sound = tt
replies_fit (event.Call id headers ends) sound = tt
replies_fit (event.TooLong id) sound = tt
replies_fit (event.Piece id octets zero ends) sound = tt
replies_fit (event.Piece id octets (suc n) true) sound = (record { states_length = refl; length_fits = four; stream_fits = at_connection }, tt)
replies_fit (event.Piece id octets (suc n) false) sound = (record { states_length = refl; length_fits = four; stream_fits = at_connection }, (record { states_length = refl; length_fits = four; stream_fits = sound.0.small }, tt))
replies_fit (event.Trailers id) sound = tt
replies_fit (event.Reset id) sound = tt
replies_fit (event.StreamFault id code) sound = (record { states_length = refl; length_fits = four; stream_fits = fault_number id code sound }, tt)
replies_fit event.GoAway sound = tt

loaded_numbers_if : (is : Bool) (s t : Stream) (streams others : List Stream) → t.id ≡ s.id → s.id < 2 ^ 31 → HaveFitNumbers streams → HaveFitNumbers others → HaveFitNumbers (if is then t ∷ streams else s ∷ others)
loaded_numbers_if true s t streams others same less a b = (subst (λ k. k < 2 ^ 31) (sym same) less, a)
loaded_numbers_if false s t streams others same less a b = (less, b)

loaded_numbers : (id : ℕ) (octets : List ℕ) (streams : List Stream) → HaveFitNumbers streams → HaveFitNumbers (loaded id octets streams)
loaded_numbers id octets [] a = tt
loaded_numbers id octets (s ∷ streams) a = loaded_numbers_if (is_stream id s) s (with_octets octets s) streams (loaded id octets streams) refl a.0 a.1 (loaded_numbers id octets streams a.1)

taken_numbers : (input : Input) (line : Line) → IsSoundInput input → HaveFitNumbers line.streams → HaveFitNumbers (taken_in input line).streams
taken_numbers (Event event) line sound small = told_numbers event line sound small
taken_numbers (Speech id (Message octets)) line sound small = loaded_numbers id (framed octets) line.streams small
taken_numbers (Speech id (Finish refusal)) line sound small = without_numbers id line.streams small
taken_numbers (Speech id (Status status)) line sound small = without_numbers id line.streams small

first_fit : (input : Input) (line : Line) → IsSoundInput input → HaveFitHeads (first_frames input line)
first_fit (Event event) line sound = replies_fit event sound
first_fit (Speech id (Message octets)) line sound = opening_fits (has_begun id line.streams) line.owes_update id sound
first_fit (Speech id (Finish refusal)) line sound = ending_fits (has_begun id line.streams) line.owes_update id refusal sound
first_fit (Speech id (Status status)) line sound = status_fits line.owes_update id status sound.0 sound.1

order_fits : (line : Line) (inputs : List Input) → AllByRecursion IsSoundInput inputs → HaveFitNumbers line.streams → HaveFitHeads (written (order_after line inputs))
order_fits line [] sound small = tt
order_fits line (i ∷ inputs) sound small =
    let l = taken_in i line in
    let numbers = taken_numbers i line sound.0 small in
    let frames = (handled i line).frames in
    let others = order_after (handled i line).line inputs in
    let own : HaveFitHeads frames = fit-append (first_frames i line) (sent l.initial l.window l.streams).frames (first_fit i line sound.0) (sent_fit l.initial l.window l.streams numbers) in
    let rest : HaveFitHeads (written others) = order_fits (handled i line).line inputs sound.1 (sent_numbers l.initial l.window l.streams numbers) in
    subst (λ fs. HaveFitHeads fs) (sym (written_input i (map item.Wrote frames ++ others) ∙ written-append (map item.Wrote frames) others ∙ ap (λ fs. fs ++ written others) (written_all frames))) (fit-append frames (written others) own rest)

pub inputs_fit : (inputs : List Input) → AllByRecursion IsSoundInput inputs → HaveFitHeads (written (order_after first_line inputs))
inputs_fit inputs sound = order_fits first_line inputs sound tt
