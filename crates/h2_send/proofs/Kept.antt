-- What is written for an event keeps within the windows.
use Rattle.std.proofs.Common.{◌≡◌, ℕ, zero, suc, Bool, true, false, List, [], ◌∷◌, ◌++◌, ℤ, refl, sym, ap, ◌∙◌, subst}
use Rattle.std.specs.Prelude.{nat_eq, Option, Some, None}
use Rattle.std.specs.List.{AllByRecursion}
use Rattle.h2_frame.specs.Frames.{Frame}
use Rattle.h2_windows.specs.Pacing.{Passing, Within, window_after, is_data, is_data_on}
use Rattle.h2_windows.specs.Shares.{window_of}
use Rattle.h2_windows.specs.Sending.{sent, after_sending}
use Rattle.h2_windows.specs.declared.stream.Stream.{Stream}
use Rattle.h2_windows.proofs.Counted.{Within-append, window_after-append, connection_kept}
use Rattle.h2_windows.proofs.StreamWindows.{stream_kept, others_sent}
use Rattle.h2_events.specs.declared.event.RecvEvent.{RecvEvent}
use Rattle.h2_events.specs.declared.event.RecvEvent.TheVariants as event
use Rattle.h2_events.specs.declared.said.Said.TheVariants.{Message, Finish, Status}
use Rattle.base_kinds.specs.declared.refusal.Refusal.{Refusal}
use Rattle.h2_send.specs.Headers.{opening, ending}
use Rattle.h2_send.specs.Inputs.{Input, Event, Speech}
use Rattle.h2_send.specs.Lines.{Line}
use Rattle.h2_send.specs.Offers.{has_begun}
use Rattle.h2_send.specs.Acting.{replies, first_frames, taken_in, handled}

pub behind : (counts : Frame → Bool) (a b c : ℤ) (xs ys : List Frame) → Passing counts a b xs → Passing counts b c ys → Passing counts a c (xs ++ ys)
behind counts a b c xs ys first second = record {
  within = Within-append counts a xs ys first.within (subst (λ w. Within counts w ys) (sym first.is_after) second.within);
  is_after = window_after-append counts a xs ys ∙ ap (λ w. window_after counts w ys) first.is_after ∙ second.is_after;
}

none : (counts : Frame → Bool) (window : ℤ) → Passing counts window window []
none counts window = record { within = tt; is_after = refl }

never : {P : Type 0} → false ≡ true → P
never is = absurd cc

-- What an event is answered with has no DATA.
module _ (window : ℤ) where
  pub replies_kept : (e : RecvEvent) → Passing is_data window window (replies e)
  replies_kept (event.Settings initial resizes) = record { within = (never, tt); is_after = refl }
  replies_kept event.SettingsAck = none is_data window
  replies_kept (event.Ping octets) = record { within = (never, tt); is_after = refl }
  replies_kept (event.Window id n) = none is_data window
  replies_kept (event.Call id headers ends) = none is_data window
  replies_kept (event.TooLong id) = none is_data window
  replies_kept (event.Piece id octets zero ends) = none is_data window
  replies_kept (event.Piece id octets (suc n) true) = record { within = (never, tt); is_after = refl }
  replies_kept (event.Piece id octets (suc n) false) = record { within = (never, (never, tt)); is_after = refl }
  replies_kept (event.Trailers id) = none is_data window
  replies_kept (event.Reset id) = none is_data window
  replies_kept (event.StreamFault id code) = record { within = (never, tt); is_after = refl }
  replies_kept event.GoAway = none is_data window

  pub replies_pass : (on : ℕ) (e : RecvEvent) → Passing (is_data_on on) window window (replies e)
  replies_pass on (event.Settings initial resizes) = record { within = (never, tt); is_after = refl }
  replies_pass on event.SettingsAck = none (is_data_on on) window
  replies_pass on (event.Ping octets) = record { within = (never, tt); is_after = refl }
  replies_pass on (event.Window id n) = none (is_data_on on) window
  replies_pass on (event.Call id headers ends) = none (is_data_on on) window
  replies_pass on (event.TooLong id) = none (is_data_on on) window
  replies_pass on (event.Piece id octets zero ends) = none (is_data_on on) window
  replies_pass on (event.Piece id octets (suc n) true) = record { within = (never, tt); is_after = refl }
  replies_pass on (event.Piece id octets (suc n) false) = record { within = (never, (never, tt)); is_after = refl }
  replies_pass on (event.Trailers id) = none (is_data_on on) window
  replies_pass on (event.Reset id) = none (is_data_on on) window
  replies_pass on (event.StreamFault id code) = record { within = (never, tt); is_after = refl }
  replies_pass on event.GoAway = none (is_data_on on) window

-- Nor have the HEADERS of what is said.
module _ (window : ℤ) where
  opening_kept : (begun owes : Bool) (id : ℕ) → Passing is_data window window (opening begun owes id)
  opening_kept true owes id = none is_data window
  opening_kept false owes id = record { within = (never, tt); is_after = refl }

  ending_kept : (begun owes : Bool) (id : ℕ) (refusal : Option Refusal) → Passing is_data window window (ending begun owes id refusal)
  ending_kept true owes id refusal = record { within = (never, tt); is_after = refl }
  ending_kept false owes id (Some refusal) = record { within = (never, tt); is_after = refl }
  ending_kept false owes id None = record { within = (never, (never, tt)); is_after = refl }

  opening_passes : (on : ℕ) (begun owes : Bool) (id : ℕ) → Passing (is_data_on on) window window (opening begun owes id)
  opening_passes on true owes id = none (is_data_on on) window
  opening_passes on false owes id = record { within = (never, tt); is_after = refl }

  ending_passes : (on : ℕ) (begun owes : Bool) (id : ℕ) (refusal : Option Refusal) → Passing (is_data_on on) window window (ending begun owes id refusal)
  ending_passes on true owes id refusal = record { within = (never, tt); is_after = refl }
  ending_passes on false owes id (Some refusal) = record { within = (never, tt); is_after = refl }
  ending_passes on false owes id None = record { within = (never, (never, tt)); is_after = refl }

  pub first_kept : (input : Input) (line : Line) → Passing is_data window window (first_frames input line)
  first_kept (Event event) line = replies_kept window event
  first_kept (Speech id (Message octets)) line = opening_kept (has_begun id line.streams) line.owes_update id
  first_kept (Speech id (Finish refusal)) line = ending_kept (has_begun id line.streams) line.owes_update id refusal
  first_kept (Speech id (Status status)) line = record { within = (never, tt); is_after = refl }

  pub first_passes : (on : ℕ) (input : Input) (line : Line) → Passing (is_data_on on) window window (first_frames input line)
  first_passes on (Event event) line = replies_pass window on event
  first_passes on (Speech id (Message octets)) line = opening_passes on (has_begun id line.streams) line.owes_update id
  first_passes on (Speech id (Finish refusal)) line = ending_passes on (has_begun id line.streams) line.owes_update id refusal
  first_passes on (Speech id (Status status)) line = record { within = (never, tt); is_after = refl }

pub handled_kept : (input : Input) (line : Line) → Passing is_data (taken_in input line).window (handled input line).line.window (handled input line).frames
handled_kept input line =
    let l = taken_in input line in
    behind is_data l.window l.window (handled input line).line.window (first_frames input line) (sent l.initial l.window l.streams).frames (first_kept l.window input line) (connection_kept l.initial l.window l.streams)

pub own_kept : (input : Input) (line : Line) (before : List Stream) (s : Stream) (after : List Stream) → (taken_in input line).streams ≡ before ++ s ∷ after → AllByRecursion (λ t. nat_eq t.id s.id ≡ false) before → AllByRecursion (λ t. nat_eq t.id s.id ≡ false) after → (n : ℕ) × Passing (is_data_on s.id) (window_of (taken_in input line).initial s) (window_of (taken_in input line).initial (after_sending n s)) (handled input line).frames
own_kept input line before s after is first second =
    let l = taken_in input line in
    let (n, kept) = stream_kept l.initial l.window before s after first second in
    let frames = subst (λ ss. Passing (is_data_on s.id) (window_of l.initial s) (window_of l.initial (after_sending n s)) (sent l.initial l.window ss).frames) (sym is) kept in
    (n, behind (is_data_on s.id) (window_of l.initial s) (window_of l.initial s) (window_of l.initial (after_sending n s)) (first_frames input line) (sent l.initial l.window l.streams).frames (first_passes (window_of l.initial s) s.id input line) frames)

pub others_kept : (input : Input) (line : Line) (id : ℕ) (own : ℤ) → AllByRecursion (λ t. nat_eq t.id id ≡ false) (taken_in input line).streams → Passing (is_data_on id) own own (handled input line).frames
others_kept input line id own differ =
    let l = taken_in input line in
    behind (is_data_on id) own own own (first_frames input line) (sent l.initial l.window l.streams).frames (first_passes own id input line) (others_sent l.initial id l.window own l.streams differ)
