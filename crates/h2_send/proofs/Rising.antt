-- The lines that inputs make.
use Rattle.std.proofs.Common.{◌≡◌, ℕ, zero, suc, ◌<◌, Bool, true, false, List, [], ◌∷◌, ◌++◌, refl, sym, subst}
use Rattle.std.specs.Prelude.{if◌then◌else◌}
use Rattle.h2_windows.specs.declared.stream.Stream.{Stream}
use Rattle.h2_windows.specs.Pacing.{ArePaced, Passing, is_data_on}
use Rattle.h2_windows.specs.Shares.{window_of}
use Rattle.h2_windows.specs.Sending.{after_sending}
use Rattle.h2_windows.specs.Streams.{AreAbove, AreRising, is_stream}
use Rattle.h2_windows.proofs.Rising.{opened_rise, without_rise, granted_rise, sent_rise, once}
use Rattle.h2_windows.proofs.Paced.{sent_paced}
use Rattle.h2_events.specs.declared.event.RecvEvent.{RecvEvent}
use Rattle.h2_events.specs.declared.event.RecvEvent.TheVariants as event
use Rattle.h2_send.specs.Lines.{Line, first_line, told, changed, with_increment}
use Rattle.h2_events.specs.declared.said.Said.TheVariants.{Message, Finish, Status}
use Rattle.grpc_core.specs.Messages.{framed}
use Rattle.h2_send.specs.Inputs.{Input, Event, Speech}
use Rattle.h2_send.specs.Offers.{loaded, with_octets}
use Rattle.h2_send.specs.Acting.{taken_in, handled}
use Rattle.h2_send.specs.Orders.{line_after}
use Rattle.h2_send.proofs.Kept.{own_kept}

increment_rises : (id n : ℕ) (line : Line) → AreRising line.streams → AreRising (with_increment id n line).streams
increment_rises zero n line rise = rise
increment_rises (suc id) n line rise = granted_rise (suc id) n line.streams rise

changed_rises : (e : RecvEvent) (line : Line) → AreRising line.streams → AreRising (changed e line).streams
changed_rises (event.Settings initial resizes) line rise = rise
changed_rises event.SettingsAck line rise = rise
changed_rises (event.Ping octets) line rise = rise
changed_rises (event.Window id n) line rise = increment_rises id n line rise
changed_rises (event.Call id headers ends) line rise = opened_rise id line.streams rise
changed_rises (event.TooLong id) line rise = opened_rise id line.streams rise
changed_rises (event.Piece id octets size ends) line rise = rise
changed_rises (event.Trailers id) line rise = rise
changed_rises (event.Reset id) line rise = without_rise id line.streams rise
changed_rises (event.StreamFault id code) line rise = without_rise id line.streams rise
changed_rises event.GoAway line rise = rise

told_rises : (e : RecvEvent) (line : Line) → AreRising line.streams → AreRising (told e line).streams
told_rises e line rise = changed_rises e line rise

loaded_if : (is : Bool) (n : ℕ) (s t : Stream) (streams others : List Stream) → t.id ≡ s.id → n < s.id → AreAbove n streams → AreAbove n others → AreAbove n (if is then t ∷ streams else s ∷ others)
loaded_if true n s t streams others same less a b = (subst (λ k. n < k) (sym same) less, a)
loaded_if false n s t streams others same less a b = (less, b)

loaded_above : (n id : ℕ) (octets : List ℕ) (streams : List Stream) → AreAbove n streams → AreAbove n (loaded id octets streams)
loaded_above n id octets [] a = tt
loaded_above n id octets (s ∷ streams) a = loaded_if (is_stream id s) n s (with_octets octets s) streams (loaded id octets streams) refl a.0 a.1 (loaded_above n id octets streams a.1)

loaded_rise_if : (is : Bool) (s t : Stream) (streams others : List Stream) → t.id ≡ s.id → AreAbove s.id streams → AreAbove s.id others → AreRising streams → AreRising others → AreRising (if is then t ∷ streams else s ∷ others)
loaded_rise_if true s t streams others same a b rise rises = (subst (λ k. AreAbove k streams) (sym same) a, rise)
loaded_rise_if false s t streams others same a b rise rises = (b, rises)

loaded_rise : (id : ℕ) (octets : List ℕ) (streams : List Stream) → AreRising streams → AreRising (loaded id octets streams)
loaded_rise id octets [] rise = tt
loaded_rise id octets (s ∷ streams) rise = loaded_rise_if (is_stream id s) s (with_octets octets s) streams (loaded id octets streams) refl rise.0 (loaded_above s.id id octets streams rise.0) rise.1 (loaded_rise id octets streams rise.1)

pub taken_rises : (input : Input) (line : Line) → AreRising line.streams → AreRising (taken_in input line).streams
taken_rises (Event event) line rise = told_rises event line rise
taken_rises (Speech id (Message octets)) line rise = loaded_rise id (framed octets) line.streams rise
taken_rises (Speech id (Finish refusal)) line rise = without_rise id line.streams rise
taken_rises (Speech id (Status status)) line rise = without_rise id line.streams rise

pub handled_rises : (input : Input) (line : Line) → AreRising line.streams → AreRising (handled input line).line.streams
handled_rises input line rise =
    let l = taken_in input line in
    sent_rise l.initial l.window l.streams (taken_rises input line rise)

rises_on : (line : Line) (inputs : List Input) → AreRising line.streams → AreRising (line_after line inputs).streams
rises_on line [] rise = rise
rises_on line (i ∷ inputs) rise = rises_on (handled i line).line inputs (handled_rises i line rise)

pub rises : (inputs : List Input) → AreRising (line_after first_line inputs).streams
rises inputs = rises_on first_line inputs tt

paced_on : (line : Line) (inputs : List Input) → ArePaced line.initial line.window line.streams → ArePaced (line_after line inputs).initial (line_after line inputs).window (line_after line inputs).streams
paced_on line [] paced = paced
paced_on line (i ∷ inputs) paced =
    let l = taken_in i line in
    paced_on (handled i line).line inputs (sent_paced l.initial l.window l.streams)

pub paced : (inputs : List Input) → ArePaced (line_after first_line inputs).initial (line_after first_line inputs).window (line_after first_line inputs).streams
paced inputs = paced_on first_line inputs tt

pub within : (inputs : List Input) (i : Input) (before : List Stream) (s : Stream) (after : List Stream) → (taken_in i (line_after first_line inputs)).streams ≡ before ++ s ∷ after → (n : ℕ) × Passing (is_data_on s.id) (window_of (taken_in i (line_after first_line inputs)).initial s) (window_of (taken_in i (line_after first_line inputs)).initial (after_sending n s)) (handled i (line_after first_line inputs)).frames
within inputs i before s after is =
    let line = line_after first_line inputs in
    let (first, second) = once before s after (subst (λ ss. AreRising ss) is (taken_rises i line (rises inputs))) in
    own_kept i line before s after is first second
