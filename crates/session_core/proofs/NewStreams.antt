-- A frame opens a stream only above all that were opened before (RFC 9113 section 5.1.1).
use Rattle.std.proofs.Common.{◌≡◌, ℕ, ◌==◌, ◌<◌, ◌%◌, List, [], ◌∷◌, ◌++◌, Bool, true, false, refl, sym, ap, subst, cond, not, arith, nat_lt, nat_le, length, ◌&&◌, Option, Some, None, Result, Ok, Err}
use Rattle.std.specs.Prelude.{◌+◌, ◌^◌, if◌then◌else◌}
use Rattle.std.specs.List.{AllByRecursion}
use Rattle.std.proofs.lemmas.Bool.{eqb-true, false≢true}
use Rattle.hpack_block.specs.declared.header.Header.{Header}
use Rattle.hpack_block.specs.declared.header.BlockFault.{BlockFault}
use Rattle.hpack_block.specs.declared.header.BlockFault.TheVariants as unread
use Rattle.h2_frame.specs.declared.frame.Head.{Head}
use Rattle.h2_frame.specs.Frames.{Frame, LeadingFrames}
use Rattle.h2_frame.specs.Kinds.{settings_kind, continuation_kind, ack_flag, end_stream_flag, end_headers_flag, priority_flag}
use Rattle.h2_frame.specs.ErrorCodes.{protocol_error, frame_size_error, stream_closed, refused_stream, enhance_your_calm}
use Rattle.h2_events.specs.declared.event.RecvEvent.{RecvEvent}
use Rattle.h2_events.specs.declared.event.RecvEvent.TheVariants as event
use Rattle.h2_events.specs.Events.{largest_frame, highest_of}
use Rattle.h2_streams.specs.declared.streams.StreamState.{StreamState}
use Rattle.h2_streams.specs.declared.streams.StreamState.TheVariants as state
use Rattle.h2_streams.specs.declared.kind.Kind.{Kind}
use Rattle.h2_streams.specs.declared.kind.Kind.TheVariants as kind
use Rattle.h2_streams.specs.declared.settings.Settings.{Settings}
use Rattle.h2_streams.specs.declared.peer.HeaderBlock.{HeaderBlock}
use Rattle.h2_streams.specs.declared.peer.Peer.{Peer}
use Rattle.h2_streams.specs.Codes.{has, kind_of, largest_block, most_streams}
use Rattle.h2_streams.specs.States.{is_idle, state_among, peer_ends, open_stream}
use Rattle.h2_streams.specs.Outcomes.{Outcome, nothing, gives, stream_fault}
use Rattle.h2_streams.specs.Payloads.{content, number}
use Rattle.h2_streams.specs.Requests.{is_well_formed}
use Rattle.h2_streams.specs.Blocks.{refused, request, later_block, block_on, headers_mean}
use Rattle.h2_streams.specs.Calls.{Moment, read, frames_of, events_of, new_peer}
use Rattle.h2_streams.specs.Meanings.{Meaning, said, block_ends, data_on, data_with, data_means, with_fragment, longer, headers_with, headers_begin, continuation_means, priority_means, reset_on, rst_stream_means, outcome_of_settings, settings_mean, ping_means, goaway_means, increment_on, increment_means, window_update_means, kind_means, next_means, meaning_of, Comes, Means}
use Rattle.h2_streams.specs.Laws.{IsSoundPeer, IsReadable, HasClientStream}
use Rattle.h2_streams.proofs.CallLemmas.{calls_cut, frames_joined, highest_is_from_events}
use Rattle.h2_streams.proofs.SoundLemmas.{sound_moments}
use Rattle.h2_recv.specs.declared.reader.Reader.{Reader}
use Rattle.h2_recv.specs.Receiving.{ReadsWithEnds, new_reader}
use Rattle.session_core.proofs.Opening.{OpensAbove, all_front}

abbrev OpensIfAny : ℕ → Option RecvEvent → Type 0
OpensIfAny highest None = Unit {0}
OpensIfAny highest (Some x) = OpensAbove highest x

abbrev OpensNew : ℕ → Outcome → Type 0
OpensNew highest (Ok told) = OpensIfAny highest told.event
OpensNew highest (Err code) = Unit {0}

record IsNew (highest : ℕ) (outcome : Outcome) : Type 0 where
  new : OpensNew highest outcome

-- of a meaning: its block is on a stream of the peer
abbrev IsNewMeaning : ℕ → Meaning → Type 0
IsNewMeaning highest (said outcome) = IsNew highest outcome
IsNewMeaning highest (block_ends block) = (block.stream % 2 == 0) ≡ false

record IsNewThen (highest : ℕ) (meaning : Meaning) : Type 0 where
  holds : IsNewMeaning highest meaning

module _ (highest : ℕ) where
  either : (b : Bool) (x y : Outcome) → IsNew highest x → IsNew highest y → IsNew highest (cond b x y)
  either true x y p q = p
  either false x y p q = q

  either_then : (b : Bool) (x y : Meaning) → (b ≡ true → IsNewThen highest x) → (b ≡ false → IsNewThen highest y) → IsNewThen highest (cond b x y)
  either_then true x y p q = p refl
  either_then false x y p q = q refl

  fault : (code : ℕ) → IsNew highest (Err code)
  fault code = record { new = tt }

  quiet : (peer : Peer) → IsNew highest (nothing peer)
  quiet peer = record { new = tt }

  fault_said : (code : ℕ) → IsNewThen highest (said (Err code))
  fault_said code = record { holds = fault code }

  new_said : (outcome : Outcome) → IsNew highest outcome → IsNewThen highest (said outcome)
  new_said outcome p = record { holds = p }

  none_opened : {P : Type 0} → false ≡ true → P
  none_opened is = absurd (false≢true is)

  faulted : (stream code : ℕ) (peer : Peer) → IsNew highest (stream_fault stream code peer)
  faulted stream code peer = record { new = record { above = λ s is. none_opened is } }

  -- ---- DATA

  data_on_new : (head : Head) (octets : List ℕ) (now : StreamState) (peer : Peer) → IsNew highest (data_on head octets now peer)
  data_on_new head octets state.Closed peer = record { new = record { above = λ s is. none_opened is } }
  data_on_new head octets state.HalfClosedRemote peer = faulted head.stream stream_closed peer
  data_on_new head octets state.Open peer = record { new = record { above = λ s is. none_opened is } }
  data_on_new head octets state.HalfClosedLocal peer = record { new = record { above = λ s is. none_opened is } }

  data_with_new : (head : Head) (inside : Result (List ℕ) ℕ) (peer : Peer) → IsNew highest (data_with head inside peer)
  data_with_new head (Err code) peer = fault code
  data_with_new head (Ok octets) peer = data_on_new head octets (state_among head.stream peer.streams) peer

  data_new : (frame : Frame) (peer : Peer) → IsNew highest (data_means frame peer)
  data_new frame peer =
      either (is_idle peer frame.head.stream) (Err protocol_error) (data_with frame.head (content 0 frame.head.flags frame.payload) peer)
      (fault protocol_error) (data_with_new frame.head (content 0 frame.head.flags frame.payload) peer)

  -- ---- frames that open nothing

  priority_new : (frame : Frame) (peer : Peer) → IsNew highest (priority_means frame peer)
  priority_new frame peer =
      either (frame.head.stream == 0) (Err protocol_error) _ (fault protocol_error)
      (either (not (length frame.payload == 5)) (stream_fault frame.head.stream frame_size_error peer) (nothing peer)
      (faulted frame.head.stream frame_size_error peer) (quiet peer))

  reset_new : (stream : ℕ) (now : StreamState) (peer : Peer) → IsNew highest (reset_on stream now peer)
  reset_new stream state.Closed peer = quiet peer
  reset_new stream state.Open peer = record { new = record { above = λ s is. none_opened is } }
  reset_new stream state.HalfClosedLocal peer = record { new = record { above = λ s is. none_opened is } }
  reset_new stream state.HalfClosedRemote peer = record { new = record { above = λ s is. none_opened is } }

  rst_stream_new : (frame : Frame) (peer : Peer) → IsNew highest (rst_stream_means frame peer)
  rst_stream_new frame peer =
      either (not (length frame.payload == 4)) (Err frame_size_error) _ (fault frame_size_error)
      (either (is_idle peer frame.head.stream) (Err protocol_error) (reset_on frame.head.stream (state_among frame.head.stream peer.streams) peer)
      (fault protocol_error) (reset_new frame.head.stream (state_among frame.head.stream peer.streams) peer))

  settings_told_new : (told : Result Settings ℕ) (peer : Peer) → IsNew highest (outcome_of_settings told peer)
  settings_told_new (Err code) peer = fault code
  settings_told_new (Ok told) peer = record { new = record { above = λ s is. none_opened is } }

  settings_new : (frame : Frame) (peer : Peer) → IsNew highest (settings_mean frame peer)
  settings_new frame peer =
      either (has ack_flag frame.head.flags && not (length frame.payload == 0)) (Err frame_size_error) _ (fault frame_size_error)
      (either (not (length frame.payload % 6 == 0)) (Err frame_size_error) _ (fault frame_size_error)
      (either (not (frame.head.stream == 0)) (Err protocol_error) _ (fault protocol_error)
      (either (has ack_flag frame.head.flags) (gives event.SettingsAck peer) _ (record { new = record { above = λ s is. none_opened is } })
      (settings_told_new _ peer))))

  ping_new : (frame : Frame) (peer : Peer) → IsNew highest (ping_means frame peer)
  ping_new frame peer =
      either (not (length frame.payload == 8)) (Err frame_size_error) _ (fault frame_size_error)
      (either (not (frame.head.stream == 0)) (Err protocol_error) _ (fault protocol_error)
      (either (has ack_flag frame.head.flags) (nothing peer) _ (quiet peer) (record { new = record { above = λ s is. none_opened is } })))

  goaway_new : (frame : Frame) (peer : Peer) → IsNew highest (goaway_means frame peer)
  goaway_new frame peer =
      either (nat_lt (length frame.payload) 8) (Err frame_size_error) _ (fault frame_size_error)
      (either (not (frame.head.stream == 0)) (Err protocol_error) _ (fault protocol_error) (record { new = record { above = λ s is. none_opened is } }))

  increment_on_new : (stream by : ℕ) (now : StreamState) (peer : Peer) → IsNew highest (increment_on stream by now peer)
  increment_on_new stream by state.Open peer = record { new = record { above = λ s is. none_opened is } }
  increment_on_new stream by state.HalfClosedRemote peer = record { new = record { above = λ s is. none_opened is } }
  increment_on_new stream by state.HalfClosedLocal peer = quiet peer
  increment_on_new stream by state.Closed peer = quiet peer

  increment_new : (stream by : ℕ) (peer : Peer) → IsNew highest (increment_means stream by peer)
  increment_new stream by peer =
      either ((by == 0) && (stream == 0)) (Err protocol_error) _ (fault protocol_error)
      (either (by == 0) (stream_fault stream protocol_error peer) _ (faulted stream protocol_error peer)
      (either (stream == 0) (gives (event.Window 0 by) peer) _ (record { new = record { above = λ s is. none_opened is } })
      (increment_on_new stream by (state_among stream peer.streams) peer)))

  window_update_new : (frame : Frame) (peer : Peer) → IsNew highest (window_update_means frame peer)
  window_update_new frame peer =
      either (not (length frame.payload == 4)) (Err frame_size_error) _ (fault frame_size_error)
      (either (not (frame.head.stream == 0) && is_idle peer frame.head.stream) (Err protocol_error) _ (fault protocol_error)
      (increment_new frame.head.stream (number 0 frame.payload % 2 ^ 31) peer))

  -- ---- header blocks

  trailers_new : (stream : ℕ) (ends : Bool) (peer : Peer) → IsNew highest (cond ends (gives (event.Trailers stream) (peer_ends stream peer)) (stream_fault stream protocol_error peer))
  trailers_new stream true peer = record { new = record { above = λ s is. none_opened is } }
  trailers_new stream false peer = faulted stream protocol_error peer

  later_new : (stream : ℕ) (ends : Bool) (now : StreamState) (peer : Peer) → IsNew highest (later_block stream ends now peer)
  later_new stream ends state.Closed peer = quiet peer
  later_new stream ends state.HalfClosedRemote peer = faulted stream stream_closed peer
  later_new stream ends state.Open peer = trailers_new stream ends peer
  later_new stream ends state.HalfClosedLocal peer = trailers_new stream ends peer

  refused_new : (stream code : ℕ) (peer : Peer) → IsNew highest (refused stream code peer)
  refused_new stream code peer = record { new = record { above = λ s is. none_opened is } }

  request_new : (stream : ℕ) (ends : Bool) (list : Option (List Header)) (peer : Peer) → highest < stream → IsNew highest (request stream ends list peer)
  request_new stream ends None peer above = record { new = record { above = λ s is. subst (λ n. highest < n) (eqb-true stream s is) above } }
  request_new stream ends (Some headers) peer above =
      either (is_well_formed headers) (gives (event.Call stream headers ends) (open_stream stream ends peer)) (refused stream protocol_error peer)
      (record { new = record { above = λ s is. subst (λ n. highest < n) (eqb-true stream s is) above } }) (refused_new stream protocol_error peer)

  fragment_new : (flags : ℕ) (block : HeaderBlock) (fragment : List ℕ) (peer : Peer) → (block.stream % 2 == 0) ≡ false → IsNewThen highest (with_fragment flags block fragment peer)
  fragment_new flags block fragment peer odd =
      either_then (nat_lt largest_block (length block.octets + length fragment)) (said (Err enhance_your_calm)) _
      (λ _. fault_said enhance_your_calm)
      (λ _. either_then (has end_headers_flag flags) (block_ends (longer block fragment)) (said (nothing (record peer { block = Some (longer block fragment) })))
      (λ _. record { holds = odd })
      (λ _. new_said (nothing (record peer { block = Some (longer block fragment) })) (quiet (record peer { block = Some (longer block fragment) }))))

  headers_with_new : (head : Head) (inside : Result (List ℕ) ℕ) (peer : Peer) → (head.stream % 2 == 0) ≡ false → IsNewThen highest (headers_with head inside peer)
  headers_with_new head (Err code) peer odd = fault_said code
  headers_with_new head (Ok fragment) peer odd =
      fragment_new head.flags (record { stream = head.stream; ends = has end_stream_flag head.flags; octets = [] }) fragment peer odd

  begin_new : (frame : Frame) (peer : Peer) → IsNewThen highest (headers_begin frame peer)
  begin_new frame peer =
      let inside = content (if has priority_flag frame.head.flags then 5 else 0) frame.head.flags frame.payload in
      either_then (frame.head.stream % 2 == 0) (said (Err protocol_error)) (headers_with frame.head inside peer)
      (λ _. fault_said protocol_error) (λ odd. headers_with_new frame.head inside peer odd)

  -- ---- a frame

  kind_new : (k : Kind) (frame : Frame) (peer : Peer) → IsNewThen highest (kind_means k frame peer)
  kind_new kind.Data frame peer = new_said (data_means frame peer) (data_new frame peer)
  kind_new kind.Headers frame peer = begin_new frame peer
  kind_new kind.Priority frame peer = new_said (priority_means frame peer) (priority_new frame peer)
  kind_new kind.RstStream frame peer = new_said (rst_stream_means frame peer) (rst_stream_new frame peer)
  kind_new kind.Settings frame peer = new_said (settings_mean frame peer) (settings_new frame peer)
  kind_new kind.PushPromise frame peer = fault_said protocol_error
  kind_new kind.Ping frame peer = new_said (ping_means frame peer) (ping_new frame peer)
  kind_new kind.GoAway frame peer = new_said (goaway_means frame peer) (goaway_new frame peer)
  kind_new kind.WindowUpdate frame peer = new_said (window_update_means frame peer) (window_update_new frame peer)
  kind_new kind.Continuation frame peer = fault_said protocol_error
  kind_new kind.Unknown frame peer = new_said (nothing peer) (quiet peer)

odd_block : (n : ℕ) → n % 2 ≡ 1 → (n % 2 == 0) ≡ false
odd_block n odd = ap (λ k. k == 0) odd

next_new : (highest : ℕ) (block : Option HeaderBlock) (frame : Frame) (peer : Peer) → HasClientStream block → IsNewThen highest (next_means block frame peer)
next_new highest None frame peer h = kind_new highest (kind_of frame.head.kind) frame peer
next_new highest (Some block) frame peer h =
    either_then highest ((frame.head.kind == continuation_kind) && (frame.head.stream == block.stream)) (continuation_means frame block peer) (said (Err protocol_error))
    (λ _. fragment_new highest frame.head.flags block frame.payload peer (odd_block block.stream h.odd)) (λ _. fault_said highest protocol_error)

frame_new : (highest : ℕ) (frame : Frame) (peer : Peer) → HasClientStream peer.block → IsNewThen highest (meaning_of frame peer)
frame_new highest frame peer h =
    either_then highest peer.greeted (next_means peer.block frame peer) _ (λ _. next_new highest peer.block frame peer h)
    (λ _. either_then highest ((frame.head.kind == settings_kind) && not (has ack_flag frame.head.flags)) (said (settings_mean frame peer)) (said (Err protocol_error))
    (λ _. new_said highest (settings_mean frame peer) (settings_new highest frame peer)) (λ _. fault_said highest protocol_error))

idle_above : (peer : Peer) (stream : ℕ) → (stream % 2 == 0) ≡ false → not (is_idle peer stream) ≡ false → peer.highest < stream
idle_above peer stream odd idle = grind (arith, odd, idle)

block_on_new : (stream : ℕ) (ends : Bool) (list : Option (List Header)) (peer : Peer) → (stream % 2 == 0) ≡ false → IsNew peer.highest (block_on stream ends list peer)
block_on_new stream ends list peer odd = at_idle (not (is_idle peer stream)) refl where
  at_idle : (b : Bool) → not (is_idle peer stream) ≡ b → IsNew peer.highest (cond b (later_block stream ends (state_among stream peer.streams) peer) (if nat_le most_streams (length peer.streams) then refused stream refused_stream peer else request stream ends list peer))
  at_idle true is = later_new peer.highest stream ends (state_among stream peer.streams) peer
  at_idle false is =
      either peer.highest (nat_le most_streams (length peer.streams)) (refused stream refused_stream peer) (request stream ends list peer)
      (refused_new peer.highest stream refused_stream peer) (request_new peer.highest stream ends list peer (idle_above peer stream odd is))

headers_new : (stream : ℕ) (ends : Bool) (list : Result (List Header) BlockFault) (peer : Peer) → (stream % 2 == 0) ≡ false → IsNew peer.highest (headers_mean stream ends list peer)
headers_new stream ends (Ok headers) peer odd = block_on_new stream ends (Some headers) peer odd
headers_new stream ends (Err unread.TooLong) peer odd = block_on_new stream ends None peer odd
headers_new stream ends (Err unread.Bad) peer odd = fault peer.highest _
headers_new stream ends (Err unread.NoMemory) peer odd = fault peer.highest _

comes_new : (peer : Peer) (meaning : Meaning) (outcome : Outcome) → IsNewThen peer.highest meaning → Comes meaning peer outcome → IsNew peer.highest outcome
comes_new peer (said answer) outcome p q = subst (λ (o : Outcome). IsNew peer.highest o) q p.holds
comes_new peer (block_ends block) outcome p q =
    let r = headers_new block.stream block.ends q.list q.peer_then p.holds in
    subst (λ (n : ℕ). IsNew n outcome) (ap (λ (o : Peer). o.highest) q.peer_then_is) (subst (λ (o : Outcome). IsNew q.peer_then.highest o) (sym q.outcome_is) r)

means_new : (peer next : Peer) (frame : Frame) (x : RecvEvent) → IsSoundPeer peer → Means peer frame (Ok (record { event = Some x; peer = next })) → OpensAbove peer.highest x
means_new peer next frame x sound means = let p = comes_new peer (meaning_of frame peer) (Ok (record { event = Some x; peer = next })) (frame_new peer.highest frame peer sound.block) means in p.new

-- ---- behind frames that were read

readable : (octets after : List ℕ) (frames : List Frame) → LeadingFrames largest_frame octets frames after → AllByRecursion IsReadable frames
readable octets after [] p = tt
readable octets after (f ∷ frames) p = (record { fits = p.1.spells.fits; allowed = p.1.allowed }, readable p.0 after frames p.2)

frames_front : (octets after : List ℕ) (one two : List Moment) → LeadingFrames largest_frame octets (frames_of (one ++ two)) after → AllByRecursion IsReadable (frames_of one)
frames_front octets after one two p =
    all_front IsReadable (frames_of one) (frames_of two) (subst (λ (fs : List Frame). AllByRecursion IsReadable fs) (frames_joined one two) (readable octets after (frames_of (one ++ two)) p))

sound_at_first : IsSoundPeer new_peer
sound_at_first = record { window = omega arith; block = tt; streams = record { rising = tt; few = omega arith } }

pub opens_above : (octets : List ℕ) (moments : List Moment) (frame : Frame) (x : RecvEvent) (reader : Reader) → ReadsWithEnds new_reader octets (moments ++ read frame (Some x) ∷ []) reader
    → OpensAbove (highest_of (events_of moments)) x
opens_above octets moments frame x reader reads =
    let r = reads.reaches in
    let cut = calls_cut new_peer reader.peer moments (read frame (Some x) ∷ []) r.calls in
    let sound = sound_moments new_peer cut.0 moments sound_at_first cut.1 (frames_front r.behind reader.rest moments (read frame (Some x) ∷ []) r.leading) in
    subst (λ (n : ℕ). OpensAbove n x) (highest_is_from_events new_peer cut.0 moments cut.1) (means_new cut.0 cut.2.0 frame x sound.1 cut.2.1)
