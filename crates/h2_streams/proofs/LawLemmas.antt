-- What holds of every frame's outcome: one lemma a definition of what frames mean.
use Rattle.std.proofs.Common.{◌≡◌, ℕ, ◌==◌, ◌%◌, List, [], Bool, true, false, refl, sym, ap, ◌∙◌, subst, cond, not, max, arith, nat_lt, nat_le, length, ◌&&◌, Option, Some, None, Result, Ok, Err}
use Rattle.std.specs.Prelude.{◌+◌, ◌^◌, if◌then◌else◌}
use Rattle.std.proofs.lemmas.Bool.{eqb-true}
use Rattle.hpack_block.specs.declared.header.Header.{Header}
use Rattle.hpack_block.specs.declared.header.BlockFault.{BlockFault}
use Rattle.hpack_block.specs.declared.header.BlockFault.TheVariants as unread
use Rattle.h2_frame.specs.declared.frame.Head.{Head}
use Rattle.h2_frame.specs.Frames.{Frame}
use Rattle.h2_frame.specs.Kinds.{settings_kind, continuation_kind, ack_flag, end_stream_flag, end_headers_flag, priority_flag}
use Rattle.h2_frame.specs.ErrorCodes.{protocol_error, frame_size_error, stream_closed, refused_stream, enhance_your_calm}
use Rattle.h2_events.specs.declared.event.RecvEvent.TheVariants as event
use Rattle.h2_streams.specs.declared.streams.StreamState.{StreamState}
use Rattle.h2_streams.specs.declared.streams.StreamState.TheVariants as state
use Rattle.h2_streams.specs.declared.kind.Kind.{Kind}
use Rattle.h2_streams.specs.declared.kind.Kind.TheVariants as kind
use Rattle.h2_streams.specs.declared.settings.Settings.{Settings}
use Rattle.h2_streams.specs.declared.peer.HeaderBlock.{HeaderBlock}
use Rattle.h2_streams.specs.declared.peer.Peer.{Peer}
use Rattle.h2_streams.specs.Codes.{has, kind_of, largest_block, most_streams}
use Rattle.h2_streams.specs.States.{is_idle, state_among, peer_ends, open_stream}
use Rattle.h2_streams.specs.Outcomes.{Outcome, nothing, gives, stream_fault}
use Rattle.h2_streams.specs.Payloads.{content, number, with_settings}
use Rattle.h2_streams.specs.Requests.{is_well_formed}
use Rattle.h2_streams.specs.Blocks.{refused, request, later_block, block_on, headers_mean, BlockMeans}
use Rattle.h2_streams.specs.Meanings.{Meaning, said, block_ends, data_on, data_with, data_means, with_fragment, longer, headers_with, headers_begin, continuation_means, priority_means, reset_on, rst_stream_means, outcome_of_settings, settings_mean, ping_means, goaway_means, increment_on, increment_means, window_update_means, kind_means, next_means, meaning_of, Comes, Means}
use Rattle.h2_streams.specs.Laws.{TellsHighest, KeepsOthers}
use Rattle.h2_streams.proofs.StreamLemmas.{others_without, others_opened, others_ended}

-- both laws of an outcome on this stream
record IsLawful (stream : ℕ) (peer : Peer) (outcome : Outcome) : Type 0 where
  highest : TellsHighest peer outcome
  others : KeepsOthers stream peer outcome

-- and of a meaning, whose block is one of this stream
abbrev IsLawfulMeaning : ℕ → Peer → Meaning → Type 0
IsLawfulMeaning stream peer (said outcome) = IsLawful stream peer outcome
IsLawfulMeaning stream peer (block_ends block) = block.stream ≡ stream

record IsLawfulThen (stream : ℕ) (peer : Peer) (meaning : Meaning) : Type 0 where
  law : IsLawfulMeaning stream peer meaning

either : (stream : ℕ) (peer : Peer) (b : Bool) (x y : Outcome) → (b ≡ true → IsLawful stream peer x) → (b ≡ false → IsLawful stream peer y)
    → IsLawful stream peer (cond b x y)
either stream peer true x y p q = p refl
either stream peer false x y p q = q refl

either_then : (stream : ℕ) (peer : Peer) (b : Bool) (x y : Meaning) → (b ≡ true → IsLawfulThen stream peer x) → (b ≡ false → IsLawfulThen stream peer y)
    → IsLawfulThen stream peer (cond b x y)
either_then stream peer true x y p q = p refl
either_then stream peer false x y p q = q refl

fault_law : (stream : ℕ) (peer : Peer) (code : ℕ) → IsLawful stream peer (Err code)
fault_law stream peer code = record { highest = tt; others = tt }

said_law : (stream : ℕ) (peer : Peer) (outcome : Outcome) → IsLawful stream peer outcome → IsLawfulThen stream peer (said outcome)
said_law stream peer outcome p = record { law = p }

fault_said : (stream : ℕ) (peer : Peer) (code : ℕ) → IsLawfulThen stream peer (said (Err code))
fault_said stream peer code = said_law stream peer (Err code) (fault_law stream peer code)

nothing_law : (stream : ℕ) (peer : Peer) → IsLawful stream peer (nothing peer)
nothing_law stream peer = record { highest = refl; others = λ other n. refl }

opened_already : (peer : Peer) (stream : ℕ) → is_idle peer stream ≡ false → peer.highest ≡ max peer.highest stream
opened_already peer stream e = grind arith

highest_of_fault : (b : Bool) (highest stream : ℕ) → (b ≡ false → highest ≡ max highest stream) → highest ≡ cond b highest (max highest stream)
highest_of_fault true highest stream p = refl
highest_of_fault false highest stream p = p refl

stream_fault_law : (stream code : ℕ) (peer : Peer) → ((code == frame_size_error) ≡ false → peer.highest ≡ max peer.highest stream)
    → IsLawful stream peer (stream_fault stream code peer)
stream_fault_law stream code peer p = record {
  highest = highest_of_fault (code == frame_size_error) peer.highest stream p;
  others = λ other n. others_without stream other peer.streams n;
}

not_true : (b : Bool) → not b ≡ true → b ≡ false
not_true true e = sym e
not_true false e = refl

-- ---- DATA

piece_law : (head : Head) (octets : List ℕ) (b : Bool) (peer : Peer) → IsLawful head.stream peer (gives (event.Piece head.stream octets head.length b) (cond b (peer_ends head.stream peer) peer))
piece_law head octets true peer = record {
  highest = refl;
  others = λ other n. others_ended head.stream other (state_among head.stream peer.streams) peer.streams n;
}
piece_law head octets false peer = record { highest = refl; others = λ other n. refl }

data_on_law : (head : Head) (octets : List ℕ) (now : StreamState) (peer : Peer) → is_idle peer head.stream ≡ false → IsLawful head.stream peer (data_on head octets now peer)
data_on_law head octets state.Closed peer e = record { highest = refl; others = λ other n. refl }
data_on_law head octets state.HalfClosedRemote peer e = stream_fault_law head.stream stream_closed peer (λ _. opened_already peer head.stream e)
data_on_law head octets state.Open peer e = piece_law head octets (has end_stream_flag head.flags) peer
data_on_law head octets state.HalfClosedLocal peer e = piece_law head octets (has end_stream_flag head.flags) peer

data_with_law : (head : Head) (inside : Result (List ℕ) ℕ) (peer : Peer) → is_idle peer head.stream ≡ false → IsLawful head.stream peer (data_with head inside peer)
data_with_law head (Err code) peer e = fault_law head.stream peer code
data_with_law head (Ok octets) peer e = data_on_law head octets (state_among head.stream peer.streams) peer e

data_law : (frame : Frame) (peer : Peer) → IsLawful frame.head.stream peer (data_means frame peer)
data_law frame peer =
    either frame.head.stream peer (is_idle peer frame.head.stream) (Err protocol_error) (data_with frame.head (content 0 frame.head.flags frame.payload) peer)
    (λ _. fault_law frame.head.stream peer protocol_error) (λ e. data_with_law frame.head (content 0 frame.head.flags frame.payload) peer e)

-- ---- header blocks

refused_law : (stream code : ℕ) (peer : Peer) → (code == frame_size_error) ≡ false → IsLawful stream peer (refused stream code peer)
refused_law stream code peer e = record { highest = ap (λ (b : Bool). cond b peer.highest (max peer.highest stream)) (sym e); others = λ other n. refl }

request_law : (stream : ℕ) (ends : Bool) (list : Option (List Header)) (peer : Peer) → IsLawful stream peer (request stream ends list peer)
request_law stream ends None peer = record { highest = refl; others = λ other n. others_opened stream other (if ends then state.HalfClosedRemote else state.Open) peer.streams n }
request_law stream ends (Some headers) peer =
    either stream peer (is_well_formed headers) (gives (event.Call stream headers ends) (open_stream stream ends peer)) (refused stream protocol_error peer)
    (λ _. record { highest = refl; others = λ other n. others_opened stream other (if ends then state.HalfClosedRemote else state.Open) peer.streams n })
    (λ _. refused_law stream protocol_error peer refl)

trailers_law : (stream : ℕ) (ends : Bool) (peer : Peer) → is_idle peer stream ≡ false
    → IsLawful stream peer (cond ends (gives (event.Trailers stream) (peer_ends stream peer)) (stream_fault stream protocol_error peer))
trailers_law stream true peer e = record { highest = refl; others = λ other n. others_ended stream other (state_among stream peer.streams) peer.streams n }
trailers_law stream false peer e = stream_fault_law stream protocol_error peer (λ _. opened_already peer stream e)

later_law : (stream : ℕ) (ends : Bool) (now : StreamState) (peer : Peer) → is_idle peer stream ≡ false → IsLawful stream peer (later_block stream ends now peer)
later_law stream ends state.Closed peer e = nothing_law stream peer
later_law stream ends state.HalfClosedRemote peer e = stream_fault_law stream stream_closed peer (λ _. opened_already peer stream e)
later_law stream ends state.Open peer e = trailers_law stream ends peer e
later_law stream ends state.HalfClosedLocal peer e = trailers_law stream ends peer e

abbrev idle_block : ℕ → Bool → Option (List Header) → Peer → Outcome
idle_block stream ends list peer = if nat_le most_streams (length peer.streams) then refused stream refused_stream peer else request stream ends list peer

idle_law : (stream : ℕ) (ends : Bool) (list : Option (List Header)) (peer : Peer) → IsLawful stream peer (idle_block stream ends list peer)
idle_law stream ends list peer =
    either stream peer (nat_le most_streams (length peer.streams)) (refused stream refused_stream peer) (request stream ends list peer)
    (λ _. refused_law stream refused_stream peer refl) (λ _. request_law stream ends list peer)

block_on_law : (stream : ℕ) (ends : Bool) (list : Option (List Header)) (peer : Peer) → IsLawful stream peer (block_on stream ends list peer)
block_on_law stream ends list peer =
    either stream peer (not (is_idle peer stream)) (later_block stream ends (state_among stream peer.streams) peer) (idle_block stream ends list peer)
    (λ e. later_law stream ends (state_among stream peer.streams) peer (not_true (is_idle peer stream) e)) (λ _. idle_law stream ends list peer)

headers_law : (stream : ℕ) (ends : Bool) (list : Result (List Header) BlockFault) (peer : Peer) → IsLawful stream peer (headers_mean stream ends list peer)
headers_law stream ends (Ok headers) peer = block_on_law stream ends (Some headers) peer
headers_law stream ends (Err unread.TooLong) peer = block_on_law stream ends None peer
headers_law stream ends (Err unread.Bad) peer = fault_law stream peer _
headers_law stream ends (Err unread.NoMemory) peer = fault_law stream peer _

-- the decoder and the block are no part of either law
block_law : (block : HeaderBlock) (peer : Peer) (outcome : Outcome) → BlockMeans block peer outcome → IsLawful block.stream peer outcome
block_law block peer outcome p =
    let q = headers_law block.stream block.ends p.list p.peer_then in
    let r : IsLawful block.stream p.peer_then outcome = subst (λ (o : Outcome). IsLawful block.stream p.peer_then o) (sym p.outcome_is) q in
    before block.stream peer p.peer_then outcome (ap (λ (o : Peer). o.highest) p.peer_then_is) (ap (λ (o : Peer). o.streams) p.peer_then_is) r where
      before : (stream : ℕ) (peer later : Peer) (outcome : Outcome) → later.highest ≡ peer.highest → later.streams ≡ peer.streams → IsLawful stream later outcome → IsLawful stream peer outcome
      before stream peer later (Err code) h s r = fault_law stream peer code
      before stream peer later (Ok told) h s r = record {
        highest = rw (← h) r.highest;
        others = λ other n. r.others other n ∙ ap (λ xs. state_among other xs) s;
      }

fragment_law : (stream flags : ℕ) (block : HeaderBlock) (fragment : List ℕ) (peer : Peer) → block.stream ≡ stream → IsLawfulThen stream peer (with_fragment flags block fragment peer)
fragment_law stream flags block fragment peer e =
    either_then stream peer (nat_lt largest_block (length block.octets + length fragment)) (said (Err enhance_your_calm)) _
    (λ _. fault_said stream peer enhance_your_calm)
    (λ _. either_then stream peer (has end_headers_flag flags) (block_ends (longer block fragment)) (said (nothing (record peer { block = Some (longer block fragment) })))
    (λ _. record { law = e })
    (λ _. said_law stream peer (nothing (record peer { block = Some (longer block fragment) })) (record { highest = refl; others = λ other n. refl })))

headers_with_law : (head : Head) (inside : Result (List ℕ) ℕ) (peer : Peer) → IsLawfulThen head.stream peer (headers_with head inside peer)
headers_with_law head (Err code) peer = fault_said head.stream peer code
headers_with_law head (Ok fragment) peer =
    fragment_law head.stream head.flags (record { stream = head.stream; ends = has end_stream_flag head.flags; octets = [] }) fragment peer refl

begin_law : (frame : Frame) (peer : Peer) → IsLawfulThen frame.head.stream peer (headers_begin frame peer)
begin_law frame peer =
    let inside = content (if has priority_flag frame.head.flags then 5 else 0) frame.head.flags frame.payload in
    either_then frame.head.stream peer (frame.head.stream % 2 == 0) (said (Err protocol_error)) (headers_with frame.head inside peer)
    (λ _. fault_said frame.head.stream peer protocol_error) (λ _. headers_with_law frame.head inside peer)

-- ---- frames without octets of a message

priority_law : (frame : Frame) (peer : Peer) → IsLawful frame.head.stream peer (priority_means frame peer)
priority_law frame peer =
    let stream = frame.head.stream in
    either stream peer (stream == 0) (Err protocol_error) _ (λ _. fault_law stream peer protocol_error)
    (λ _. either stream peer (not (length frame.payload == 5)) (stream_fault stream frame_size_error peer) (nothing peer)
    (λ _. stream_fault_law stream frame_size_error peer (λ e. cc)) (λ _. nothing_law stream peer))

reset_law : (stream : ℕ) (now : StreamState) (peer : Peer) → IsLawful stream peer (reset_on stream now peer)
reset_law stream state.Closed peer = nothing_law stream peer
reset_law stream state.Open peer = record { highest = refl; others = λ other n. others_without stream other peer.streams n }
reset_law stream state.HalfClosedLocal peer = record { highest = refl; others = λ other n. others_without stream other peer.streams n }
reset_law stream state.HalfClosedRemote peer = record { highest = refl; others = λ other n. others_without stream other peer.streams n }

rst_stream_law : (frame : Frame) (peer : Peer) → IsLawful frame.head.stream peer (rst_stream_means frame peer)
rst_stream_law frame peer =
    let stream = frame.head.stream in
    either stream peer (not (length frame.payload == 4)) (Err frame_size_error) _ (λ _. fault_law stream peer frame_size_error)
    (λ _. either stream peer (is_idle peer stream) (Err protocol_error) (reset_on stream (state_among stream peer.streams) peer)
    (λ _. fault_law stream peer protocol_error) (λ _. reset_law stream (state_among stream peer.streams) peer))

told_law : (stream : ℕ) (told : Result Settings ℕ) (peer : Peer) → IsLawful stream peer (outcome_of_settings told peer)
told_law stream (Err code) peer = fault_law stream peer code
told_law stream (Ok settings) peer = record { highest = refl; others = λ other n. refl }

settings_law : (frame : Frame) (peer : Peer) → IsLawful frame.head.stream peer (settings_mean frame peer)
settings_law frame peer =
    let stream = frame.head.stream in
    either stream peer (has ack_flag frame.head.flags && not (length frame.payload == 0)) (Err frame_size_error) _ (λ _. fault_law stream peer frame_size_error)
    (λ _. either stream peer (not (length frame.payload % 6 == 0)) (Err frame_size_error) _ (λ _. fault_law stream peer frame_size_error)
    (λ _. either stream peer (not (stream == 0)) (Err protocol_error) _ (λ _. fault_law stream peer protocol_error)
    (λ _. either stream peer (has ack_flag frame.head.flags) (gives event.SettingsAck peer)
    (outcome_of_settings (with_settings frame.payload (record { window = peer.window; table = false })) peer)
    (λ _. record { highest = refl; others = λ other n. refl })
    (λ _. told_law stream (with_settings frame.payload (record { window = peer.window; table = false })) peer))))

ping_law : (frame : Frame) (peer : Peer) → IsLawful frame.head.stream peer (ping_means frame peer)
ping_law frame peer =
    let stream = frame.head.stream in
    either stream peer (not (length frame.payload == 8)) (Err frame_size_error) _ (λ _. fault_law stream peer frame_size_error)
    (λ _. either stream peer (not (stream == 0)) (Err protocol_error) _ (λ _. fault_law stream peer protocol_error)
    (λ _. either stream peer (has ack_flag frame.head.flags) (nothing peer) (gives (event.Ping (number 0 frame.payload)) peer)
    (λ _. nothing_law stream peer) (λ _. record { highest = refl; others = λ other n. refl })))

goaway_law : (frame : Frame) (peer : Peer) → IsLawful frame.head.stream peer (goaway_means frame peer)
goaway_law frame peer =
    let stream = frame.head.stream in
    either stream peer (nat_lt (length frame.payload) 8) (Err frame_size_error) _ (λ _. fault_law stream peer frame_size_error)
    (λ _. either stream peer (not (stream == 0)) (Err protocol_error) (gives event.GoAway peer) (λ _. fault_law stream peer protocol_error)
    (λ _. record { highest = refl; others = λ other n. refl }))

increment_on_law : (stream by : ℕ) (now : StreamState) (peer : Peer) → IsLawful stream peer (increment_on stream by now peer)
increment_on_law stream by state.Open peer = record { highest = refl; others = λ other n. refl }
increment_on_law stream by state.HalfClosedRemote peer = record { highest = refl; others = λ other n. refl }
increment_on_law stream by state.Closed peer = nothing_law stream peer
increment_on_law stream by state.HalfClosedLocal peer = nothing_law stream peer

-- a stream that isn't 0 and isn't idle was opened
increment_law : (stream by : ℕ) (peer : Peer) → ((stream == 0) ≡ false → is_idle peer stream ≡ false) → IsLawful stream peer (increment_means stream by peer)
increment_law stream by peer opened =
    either stream peer ((by == 0) && (stream == 0)) (Err protocol_error) _ (λ _. fault_law stream peer protocol_error)
    (λ e. either stream peer (by == 0) (stream_fault stream protocol_error peer) _
    (λ f. stream_fault_law stream protocol_error peer (λ _. opened_already peer stream (opened (second (by == 0) (stream == 0) f e))))
    (λ _. either stream peer (stream == 0) (gives (event.Window 0 by) peer) (increment_on stream by (state_among stream peer.streams) peer)
    (λ _. record { highest = refl; others = λ other n. refl }) (λ _. increment_on_law stream by (state_among stream peer.streams) peer))) where
      second : (a b : Bool) → a ≡ true → (a && b) ≡ false → b ≡ false
      second true b p q = q
      second false b p q = absurd cc

window_update_law : (frame : Frame) (peer : Peer) → IsLawful frame.head.stream peer (window_update_means frame peer)
window_update_law frame peer =
    let stream = frame.head.stream in
    let by = number 0 frame.payload % 2 ^ 31 in
    either stream peer (not (length frame.payload == 4)) (Err frame_size_error) _ (λ _. fault_law stream peer frame_size_error)
    (λ _. either stream peer (not (stream == 0) && is_idle peer stream) (Err protocol_error) (increment_means stream by peer)
    (λ _. fault_law stream peer protocol_error)
    (λ e. increment_law stream by peer (λ f. other_first (stream == 0) (is_idle peer stream) f e))) where
      other_first : (a b : Bool) → a ≡ false → (not a && b) ≡ false → b ≡ false
      other_first true b p q = absurd cc
      other_first false b p q = q

-- ---- a frame

kind_law : (k : Kind) (frame : Frame) (peer : Peer) → IsLawfulThen frame.head.stream peer (kind_means k frame peer)
kind_law kind.Data frame peer = said_law frame.head.stream peer (data_means frame peer) (data_law frame peer)
kind_law kind.Headers frame peer = begin_law frame peer
kind_law kind.Priority frame peer = said_law frame.head.stream peer (priority_means frame peer) (priority_law frame peer)
kind_law kind.RstStream frame peer = said_law frame.head.stream peer (rst_stream_means frame peer) (rst_stream_law frame peer)
kind_law kind.Settings frame peer = said_law frame.head.stream peer (settings_mean frame peer) (settings_law frame peer)
kind_law kind.PushPromise frame peer = fault_said frame.head.stream peer protocol_error
kind_law kind.Ping frame peer = said_law frame.head.stream peer (ping_means frame peer) (ping_law frame peer)
kind_law kind.GoAway frame peer = said_law frame.head.stream peer (goaway_means frame peer) (goaway_law frame peer)
kind_law kind.WindowUpdate frame peer = said_law frame.head.stream peer (window_update_means frame peer) (window_update_law frame peer)
kind_law kind.Continuation frame peer = fault_said frame.head.stream peer protocol_error
kind_law kind.Unknown frame peer = said_law frame.head.stream peer (nothing peer) (nothing_law frame.head.stream peer)

next_law : (block : Option HeaderBlock) (frame : Frame) (peer : Peer) → IsLawfulThen frame.head.stream peer (next_means block frame peer)
next_law None frame peer = kind_law (kind_of frame.head.kind) frame peer
next_law (Some block) frame peer =
    either_then frame.head.stream peer ((frame.head.kind == continuation_kind) && (frame.head.stream == block.stream)) (continuation_means frame block peer) (said (Err protocol_error))
    (λ e. fragment_law frame.head.stream frame.head.flags block frame.payload peer
    (sym (eqb-true frame.head.stream block.stream (second (frame.head.kind == continuation_kind) (frame.head.stream == block.stream) e))))
    (λ _. fault_said frame.head.stream peer protocol_error) where
      second : (a b : Bool) → (a && b) ≡ true → b ≡ true
      second true b p = p
      second false b p = absurd cc

frame_law : (frame : Frame) (peer : Peer) → IsLawfulThen frame.head.stream peer (meaning_of frame peer)
frame_law frame peer =
    either_then frame.head.stream peer peer.greeted (next_means peer.block frame peer) _ (λ _. next_law peer.block frame peer)
    (λ _. either_then frame.head.stream peer ((frame.head.kind == settings_kind) && not (has ack_flag frame.head.flags)) (said (settings_mean frame peer)) (said (Err protocol_error))
    (λ _. said_law frame.head.stream peer (settings_mean frame peer) (settings_law frame peer)) (λ _. fault_said frame.head.stream peer protocol_error))

comes_law : (stream : ℕ) (peer : Peer) (meaning : Meaning) (outcome : Outcome) → IsLawfulThen stream peer meaning → Comes meaning peer outcome → IsLawful stream peer outcome
comes_law stream peer (said answer) outcome p q = subst (λ (o : Outcome). IsLawful stream peer o) q p.law
comes_law stream peer (block_ends block) outcome p q = subst (λ (s : ℕ). IsLawful s peer outcome) p.law (block_law block peer outcome q)

lawful : (peer : Peer) (frame : Frame) (outcome : Outcome) → Means peer frame outcome → IsLawful frame.head.stream peer outcome
lawful peer frame outcome p = comes_law frame.head.stream peer (meaning_of frame peer) outcome (frame_law frame peer) p

pub tells_highest : (peer : Peer) (frame : Frame) (outcome : Outcome) → Means peer frame outcome → TellsHighest peer outcome
tells_highest peer frame outcome p = let h = lawful peer frame outcome p in h.highest

pub keeps_others : (peer : Peer) (frame : Frame) (outcome : Outcome) → Means peer frame outcome → KeepsOthers frame.head.stream peer outcome
keeps_others peer frame outcome p = let h = lawful peer frame outcome p in h.others
