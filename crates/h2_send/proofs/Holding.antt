-- What a wire keeps back, and that its inputs are accepted.
use Rattle.std.proofs.Common.{◌≡◌, ℕ, zero, suc, ◌*◌, ◌≤◌, Bool, true, false, cond, not, List, [], ◌∷◌, ◌++◌, length, ℤ, pos, ◌+ℤ◌, ◌-ℤ◌, Result, sym, subst, arith, length-drop, lit≤}
use Rattle.std.specs.Prelude.{nat_lt, if◌then◌else◌}
use Rattle.std.specs.List.{list_any, insert, position_or_len}
use Rattle.grpc_core.specs.Messages.{framed}
use Rattle.environment.specs.Output.{Output}
use Rattle.h2_windows.specs.Bounds.{largest_pending}
use Rattle.h2_windows.specs.Holding.{waiting}
use Rattle.h2_windows.specs.Shares.{share}
use Rattle.h2_windows.specs.Sending.{sent}
use Rattle.h2_windows.specs.Streams.{is_stream, new_stream, opened, without, granted}
use Rattle.h2_windows.specs.declared.stream.Stream.{Stream}
use Rattle.h2_events.specs.Items.{said_by}
use Rattle.h2_events.specs.Ports.{FitsMessage}
use Rattle.h2_events.specs.declared.event.RecvEvent.{RecvEvent}
use Rattle.h2_events.specs.declared.event.RecvEvent.TheVariants as event
use Rattle.h2_events.specs.declared.said.Piece.{Piece}
use Rattle.h2_events.specs.declared.said.Piece.TheVariants as piece
use Rattle.h2_events.specs.declared.said.Said.TheVariants.{Message, Finish, Status}
use Rattle.h2_events.specs.declared.port.Ready.TheVariants.{Free}
use Rattle.h2_send.specs.Inputs.{Input, Event, Speech}
use Rattle.h2_send.specs.Lines.{Line, first_line, told, with_increment}
use Rattle.h2_send.specs.Offers.{ready_on, loaded, with_octets}
use Rattle.h2_send.specs.Acting.{taken_in, handled}
use Rattle.h2_send.specs.Orders.{line_after}
use Rattle.h2_send.specs.Accepting.{IsAccepted, AreAccepted, HoldWithin}
use Rattle.h2_send.specs.Conditions.{condition_after, readiness}
use Rattle.h2_send.specs.Wires.{Responds, IsFolded, IsHeld, IsSoundWire}
use Rattle.h2_send.specs.declared.condition.Condition.{Condition}
use Rattle.h2_send.specs.declared.condition.Condition.TheVariants as condition
use Rattle.h2_send.specs.declared.fault.WireFaultOut.{WireFaultOut}
use Rattle.h2_send.proofs.Closing.{any_folded, folds, open_line}

abbrev Little : Stream → Type 0
Little s = length s.pending ≤ largest_pending

sent_within : (initial : ℕ) (window : ℤ) (streams : List Stream) → HoldWithin streams → HoldWithin (sent initial window streams).streams
sent_within initial window [] all = tt
sent_within initial window (s ∷ streams) all =
    let n = share initial window s in
    (omega (arith, all.0, length-drop n s.pending), sent_within initial (window -ℤ pos n) streams all.1)

insert_within : (id k : ℕ) (streams : List Stream) → HoldWithin streams → HoldWithin (insert streams k (new_stream id))
insert_within id zero streams all = (lit≤ tt, all)
insert_within id (suc k) [] all = (lit≤ tt, tt)
insert_within id (suc k) (s ∷ streams) all = (all.0, insert_within id k streams all.1)

opened_within : (id : ℕ) (streams : List Stream) → HoldWithin streams → HoldWithin (opened id streams)
opened_within id streams all = by (list_any (is_stream id) streams)
  where
    by : (b : Bool) → HoldWithin (if b then streams else insert streams (position_or_len (λ s. nat_lt id s.id) streams) (new_stream id))
    by true = all
    by false = insert_within id (position_or_len (λ s. nat_lt id s.id) streams) streams all

without_within : (id : ℕ) (streams : List Stream) → HoldWithin streams → HoldWithin (without id streams)
without_within id [] all = tt
without_within id (s ∷ streams) all = by (is_stream id s) (without_within id streams all.1)
  where
    by : (b : Bool) → HoldWithin (without id streams) → HoldWithin (cond (not b) (s ∷ without id streams) (without id streams))
    by true rest = rest
    by false rest = (all.0, rest)

granted_within : (id n : ℕ) (streams : List Stream) → HoldWithin streams → HoldWithin (granted id n streams)
granted_within id n [] all = tt
granted_within id n (s ∷ streams) all = (by (is_stream id s), granted_within id n streams all.1)
  where
    by : (b : Bool) → Little (if b then record s { credit = s.credit +ℤ pos n } else s)
    by true = all.0
    by false = all.0

loaded_within : (id : ℕ) (octets : List ℕ) (streams : List Stream) → length octets ≤ largest_pending → HoldWithin streams → HoldWithin (loaded id octets streams)
loaded_within id octets [] short all = tt
loaded_within id octets (s ∷ streams) short all = by (is_stream id s) (loaded_within id octets streams short all.1)
  where
    by : (b : Bool) → HoldWithin (loaded id octets streams) → HoldWithin (if b then with_octets octets s ∷ streams else s ∷ loaded id octets streams)
    by true rest = (short, all.1)
    by false rest = (all.0, rest)

increment_within : (id n : ℕ) (line : Line) → HoldWithin line.streams → HoldWithin (with_increment id n line).streams
increment_within zero n line all = all
increment_within (suc id) n line all = granted_within (suc id) n line.streams all

told_within : (e : RecvEvent) (line : Line) → HoldWithin line.streams → HoldWithin (told e line).streams
told_within (event.Settings initial resizes) line all = all
told_within event.SettingsAck line all = all
told_within (event.Ping octets) line all = all
told_within (event.Window id n) line all = increment_within id n line all
told_within (event.Call id headers ends) line all = opened_within id line.streams all
told_within (event.TooLong id) line all = opened_within id line.streams all
told_within (event.Piece id octets size ends) line all = all
told_within (event.Trailers id) line all = all
told_within (event.Reset id) line all = without_within id line.streams all
told_within (event.StreamFault id code) line all = without_within id line.streams all
told_within event.GoAway line all = all

taken_within : (input : Input) (line : Line) → IsAccepted input line → HoldWithin line.streams → HoldWithin (taken_in input line).streams
taken_within (Event e) line is all = told_within e line all
taken_within (Speech id (Message octets)) line is all = loaded_within id (framed octets) line.streams (omega (arith, is.1)) all
taken_within (Speech id (Finish refusal)) line is all = without_within id line.streams all
taken_within (Speech id (Status status)) line is all = without_within id line.streams all

handled_within : (input : Input) (line : Line) → IsAccepted input line → HoldWithin line.streams → HoldWithin (handled input line).line.streams
handled_within input line is all =
    let l = taken_in input line in
    sent_within l.initial l.window l.streams (taken_within input line is all)

within_from : (line : Line) (inputs : List Input) → AreAccepted line inputs → HoldWithin line.streams → HoldWithin (line_after line inputs).streams
within_from line [] are all = all
within_from line (input ∷ inputs) are all = within_from (handled input line).line inputs are.1 (handled_within input line are.0 all)

-- What waits on a stream of a connection is one message at most,
pub held_within : (inputs : List Input) → AreAccepted first_line inputs → HoldWithin (line_after first_line inputs).streams
held_within inputs are = within_from first_line inputs are tt

-- and all that waits a message a stream.
pub sum_within : (streams : List Stream) → HoldWithin streams → waiting streams ≤ largest_pending * length streams
sum_within [] all = omega arith
sum_within (s ∷ streams) all =
    let rest = sum_within streams all.1 in
    omega (arith, all.0, rest)

-- ---- a wire stays sound

pub accepted_more : (line : Line) (inputs : List Input) (input : Input) → AreAccepted line inputs → IsAccepted input (line_after line inputs) → AreAccepted line (inputs ++ input ∷ [])
accepted_more line [] input are is = (is, tt)
accepted_more line (i ∷ inputs) input are is = (are.0, accepted_more (handled i line).line inputs input are.1 is)

any_held : (state : Condition) (line : Line) (inputs : List Input) → IsFolded state line inputs → AreAccepted first_line inputs → IsHeld state line
any_held condition.New line inputs is are = subst (λ (l : Line). HoldWithin l.streams) (sym is) (held_within inputs are)
any_held condition.Open line inputs is are = subst (λ (l : Line). HoldWithin l.streams) (sym is) (held_within inputs are)
any_held condition.Finished line inputs is are = tt
any_held condition.WriteFault line inputs is are = tt
any_held condition.NoMemory line inputs is are = tt

sound : (state : Condition) (line : Line) (inputs : List Input) → IsFolded state line inputs → AreAccepted first_line inputs → IsSoundWire state line inputs
sound state line inputs folded are = record { folded = folded; accepted = are; held = any_held state line inputs folded are }

-- however it is, with a line that its inputs make of the first one
pub any_sound : (state : Condition) (line : Line) (inputs : List Input) → line ≡ line_after first_line inputs → AreAccepted first_line inputs → IsSoundWire state line inputs
any_sound state line inputs is are = sound state line inputs (any_folded state line inputs is) are

-- an input more
pub stays_sound : (wants : Bool) (input : Input) (was next : Condition) (before now : Line) (inputs after : List Input) (result : Result (Unit {0}) WireFaultOut) (old new : Output) → was ≡ condition.Open → IsSoundWire was before inputs → IsAccepted input before → Responds wants (handled input before) result now old new → next ≡ condition_after condition.Open result → after ≡ inputs ++ input ∷ [] → IsSoundWire next now after
stays_sound wants input was next before now inputs after result old new is s accepts responds leaves grows =
    let line : before ≡ line_after first_line inputs = open_line was before inputs is s.folded in
    let are : AreAccepted first_line after = subst (λ is. AreAccepted first_line is) (sym grows) (accepted_more first_line inputs input s.accepted (subst (λ l. IsAccepted input l) line accepts)) in
    sound next now after (folds wants input was next before now inputs after result old new is s.folded responds leaves grows) are

-- a stream that something can be said on is free
pub ready_free : (state : Condition) (id : ℕ) (line : Line) → readiness state id line ≡ Free → ready_on id line.streams ≡ Free
ready_free condition.New id line is = absurd cc
ready_free condition.Open id line is = is
ready_free condition.Finished id line is = absurd cc
ready_free condition.WriteFault id line is = absurd cc
ready_free condition.NoMemory id line is = absurd cc

pub accepts_piece : (id : ℕ) (said : Piece) (line : Line) → FitsMessage said → ready_on id line.streams ≡ Free → IsAccepted (Speech id (said_by said)) line
accepts_piece id (piece.Message octets) line fits is = (is, fits)
accepts_piece id (piece.Finish refusal) line fits is = is
