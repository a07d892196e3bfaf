-- Events of frames are sound: one lemma a definition of what frames mean.
use Rattle.std.proofs.Common.{◌≡◌, ℕ, ◌==◌, ◌+◌, ◌-◌, ◌^◌, ◌%◌, ◌<◌, ◌≤◌, List, [], ◌∷◌, Bool, true, false, refl, sym, ap, subst, cond, not, arith, nat_lt, nat_le, length, length-drop, take, drop, ◌&&◌, ◌||◌, inl, inr, All, Option, Some, None, Result, Ok, Err}
use Rattle.std.specs.Prelude.{⊤, if◌then◌else◌}
use Rattle.std.specs.List.{AllByRecursion}
use Rattle.std.proofs.lemmas.List.Elements.{All-head, All-tail}
use Rattle.std.proofs.lemmas.Bool.{eqb-true, eqb-false}
use Rattle.std.proofs.lemmas.List.{length-take}
use Rattle.base_lists.specs.Results.{and_then}
use Rattle.hpack_block.specs.declared.header.Header.{Header}
use Rattle.hpack_block.specs.declared.header.BlockFault.{BlockFault}
use Rattle.hpack_block.specs.declared.header.BlockFault.TheVariants as unread
use Rattle.hpack_block.specs.Answers.{State, Answers, largest_list}
use Rattle.hpack_block.specs.Tables.{size_of_all}
use Rattle.h2_frame.specs.declared.frame.Head.{Head}
use Rattle.h2_frame.specs.Frames.{Frame}
use Rattle.h2_frame.specs.Kinds.{settings_kind, continuation_kind, ack_flag, end_stream_flag, end_headers_flag, padded_flag, priority_flag}
use Rattle.h2_frame.specs.ErrorCodes.{protocol_error, flow_control_error, frame_size_error, stream_closed, refused_stream, enhance_your_calm}
use Rattle.h2_events.specs.declared.event.RecvEvent.TheVariants as event
use Rattle.h2_events.specs.Events.{largest_window, largest_frame, IsClientStream, CanFault, IsSound}
use Rattle.h2_streams.specs.declared.streams.StreamState.{StreamState}
use Rattle.h2_streams.specs.declared.streams.StreamState.TheVariants as state
use Rattle.h2_streams.specs.declared.kind.Kind.{Kind}
use Rattle.h2_streams.specs.declared.kind.Kind.TheVariants as kind
use Rattle.h2_streams.specs.declared.settings.Settings.{Settings}
use Rattle.h2_streams.specs.declared.peer.HeaderBlock.{HeaderBlock}
use Rattle.h2_streams.specs.declared.peer.Peer.{Peer}
use Rattle.h2_streams.specs.Codes.{has, kind_of, largest_block, most_streams}
use Rattle.h2_streams.specs.States.{is_idle, state_among, peer_ends, open_stream, opened_and_reset, reset}
use Rattle.h2_streams.specs.Outcomes.{Outcome, nothing, gives, stream_fault}
use Rattle.h2_streams.specs.Payloads.{between, padded_content, content, number, with_setting, with_settings}
use Rattle.h2_streams.specs.Requests.{is_well_formed}
use Rattle.h2_streams.specs.Blocks.{refused, request, later_block, block_on, headers_mean, BlockMeans}
use Rattle.h2_streams.specs.Meanings.{Meaning, said, block_ends, data_on, data_with, data_means, with_fragment, longer, headers_with, headers_begin, continuation_means, priority_means, reset_on, rst_stream_means, outcome_of_settings, settings_mean, ping_means, goaway_means, increment_on, increment_means, window_update_means, kind_means, next_means, meaning_of, Comes, Means}
use Rattle.h2_streams.specs.Calls.{Moment, read, ended, Calls, frames_of, events_of}
use Rattle.h2_streams.proofs.KeptLemmas.{kept_without, kept_by_peer, kept_here, kept_up_to, kept_opened}
use Rattle.h2_streams.specs.Laws.{AreKept, HasClientStream, IsSoundPeer, IsReadable, GivesSound}
use Rattle.h2_streams.specs.States.{this_side_ends}

record IsGood (outcome : Outcome) : Type 0 where
  sound : GivesSound outcome

abbrev GivesGood : Meaning → Type 0
GivesGood (said outcome) = IsGood outcome
GivesGood (block_ends block) = IsClientStream block.stream

record IsGoodThen (meaning : Meaning) : Type 0 where
  good : GivesGood meaning

either : (b : Bool) (x y : Outcome) → (b ≡ true → IsGood x) → (b ≡ false → IsGood y) → IsGood (cond b x y)
either true x y p q = p refl
either false x y p q = q refl

either_then : (b : Bool) (x y : Meaning) → (b ≡ true → IsGoodThen x) → (b ≡ false → IsGoodThen y) → IsGoodThen (cond b x y)
either_then true x y p q = p refl
either_then false x y p q = q refl

fault : (code : ℕ) → IsGood (Err code)
fault code = record { sound = tt }

good_said : (outcome : Outcome) → IsGood outcome → IsGoodThen (said outcome)
good_said outcome p = record { good = p }

fault_said : (code : ℕ) → IsGoodThen (said (Err code))
fault_said code = good_said (Err code) (fault code)

quiet : (peer : Peer) → IsSoundPeer peer → IsGood (nothing peer)
quiet peer p = record { sound = (tt, p) }

-- only streams and the highest are other than before
kept : (peer now : Peer) → now.window ≡ peer.window → now.block ≡ peer.block → IsSoundPeer peer → AreKept now.highest now.streams → IsSoundPeer now
kept peer now w b p k = record { window = rw w p.window; block = subst (λ o. HasClientStream o) (sym b) p.block; streams = k }

after_reset : (stream : ℕ) (peer : Peer) → IsSoundPeer peer → IsSoundPeer (reset stream peer)
after_reset stream peer p = kept peer (reset stream peer) refl refl p (kept_without stream peer.highest peer.streams p.streams)

after_end : (stream : ℕ) (peer : Peer) → IsSoundPeer peer → IsSoundPeer (peer_ends stream peer)
after_end stream peer p =
    kept peer (peer_ends stream peer) refl refl p (kept_by_peer stream peer.highest (state_among stream peer.streams) peer.streams p.streams)

after_end_here : (stream : ℕ) (peer : Peer) → IsSoundPeer peer → IsSoundPeer (this_side_ends stream peer)
after_end_here stream peer p =
    kept peer (this_side_ends stream peer) refl refl p (kept_here stream peer.highest (state_among stream peer.streams) peer.streams p.streams)

odd_of : (stream : ℕ) → (stream % 2 == 0) ≡ false → stream % 2 ≡ 1
odd_of stream e = let n = eqb-false (stream % 2) 0 e in grind (arith, n)

first_false : (a b : Bool) → (a || b) ≡ false → a ≡ false
first_false true b e = e
first_false false b e = refl

second_false : (a b : Bool) → (a || b) ≡ false → b ≡ false
second_false true b e = absurd cc
second_false false b e = e

opened_stream : (peer : Peer) (stream : ℕ) → is_idle peer stream ≡ false → stream < 2 ^ 31 → IsClientStream stream
opened_stream peer stream e lt = record { odd = odd_of stream (first_false (stream % 2 == 0) (nat_lt peer.highest stream) e); small = lt }

faulted : (stream code : ℕ) (peer : Peer) → IsSoundPeer peer → CanFault stream code → IsGood (stream_fault stream code peer)
faulted stream code peer p can = record { sound = (can, after_reset stream peer p) }

-- ---- payloads

abbrev ShortIn : ℕ → Result (List ℕ) ℕ → Type 0
ShortIn most (Ok inside) = length inside ≤ most
ShortIn most (Err code) = ⊤

record IsWithin (most : ℕ) (inside : Result (List ℕ) ℕ) : Type 0 where
  short : ShortIn most inside

either_within : (most : ℕ) (b : Bool) (x y : Result (List ℕ) ℕ) → IsWithin most x → IsWithin most y → IsWithin most (cond b x y)
either_within most true x y p q = p
either_within most false x y p q = q

inside_short : (n skipped most : ℕ) (octets : List ℕ) → length octets ≤ most → length (take n (drop skipped octets)) ≤ most
inside_short n skipped most octets le = omega (arith, length-take n (drop skipped octets), length-drop skipped octets, le)

between_short : (skipped padding most : ℕ) (octets : List ℕ) → length octets ≤ most → IsWithin most (between skipped padding octets)
between_short skipped padding most octets le =
    either_within most (nat_lt (length octets) skipped) (Err frame_size_error) _ (record { short = tt })
    (either_within most (nat_lt (length octets - skipped) padding) (Err protocol_error) (Ok (take (length octets - skipped - padding) (drop skipped octets)))
    (record { short = tt }) (record { short = inside_short (length octets - skipped - padding) skipped most octets le }))

padded_short : (skipped : ℕ) (payload : List ℕ) → IsWithin (length payload) (padded_content skipped payload)
padded_short skipped [] = record { short = tt }
padded_short skipped (padding ∷ octets) = between_short skipped padding (length (padding ∷ octets)) octets (grind arith)

content_short : (skipped flags : ℕ) (payload : List ℕ) → IsWithin (length payload) (content skipped flags payload)
content_short skipped flags payload =
    either_within (length payload) (has padded_flag flags) (padded_content skipped payload) (between skipped 0 payload) (padded_short skipped payload)
    (between_short skipped 0 (length payload) payload (grind arith))

-- ---- DATA

piece_good : (head : Head) (octets : List ℕ) (b : Bool) (peer : Peer) → IsSoundPeer peer → IsClientStream head.stream → length octets ≤ head.length → head.length ≤ largest_frame
    → IsGood (gives (event.Piece head.stream octets head.length b) (cond b (peer_ends head.stream peer) peer))
piece_good head octets true peer p client le most = record { sound = ((client, le, most), after_end head.stream peer p) }
piece_good head octets false peer p client le most = record { sound = ((client, le, most), p) }

data_on_good : (head : Head) (octets : List ℕ) (now : StreamState) (peer : Peer) → IsSoundPeer peer → IsClientStream head.stream → length octets ≤ head.length → head.length ≤ largest_frame
    → IsGood (data_on head octets now peer)
data_on_good head octets state.Closed peer p client le most = let none : 0 ≤ head.length = grind arith in record { sound = ((client, none, most), p) }
data_on_good head octets state.HalfClosedRemote peer p client le most = faulted head.stream stream_closed peer p (inl client)
data_on_good head octets state.Open peer p client le most = piece_good head octets (has end_stream_flag head.flags) peer p client le most
data_on_good head octets state.HalfClosedLocal peer p client le most = piece_good head octets (has end_stream_flag head.flags) peer p client le most

data_with_good : (head : Head) (inside : Result (List ℕ) ℕ) (peer : Peer) → IsSoundPeer peer → IsClientStream head.stream → IsWithin head.length inside → head.length ≤ largest_frame
    → IsGood (data_with head inside peer)
data_with_good head (Err code) peer p client short most = fault code
data_with_good head (Ok octets) peer p client short most = data_on_good head octets (state_among head.stream peer.streams) peer p client short.short most

data_good : (frame : Frame) (peer : Peer) → IsSoundPeer peer → IsReadable frame → IsGood (data_means frame peer)
data_good frame peer p f =
    let stream = frame.head.stream in
    let inside = content 0 frame.head.flags frame.payload in
    let short : IsWithin frame.head.length inside = subst (λ (n : ℕ). IsWithin n inside) f.fits.payload_length (content_short 0 frame.head.flags frame.payload) in
    either (is_idle peer stream) (Err protocol_error) (data_with frame.head inside peer) (λ _. fault protocol_error)
    (λ e. data_with_good frame.head inside peer p (opened_stream peer stream e f.fits.stream_fits) short f.allowed)

-- ---- header blocks

refused_good : (stream code : ℕ) (peer : Peer) → IsSoundPeer peer → IsClientStream stream → IsGood (refused stream code peer)
refused_good stream code peer p client = record { sound = (inl client, kept peer (opened_and_reset stream peer) refl refl p (kept_up_to stream peer.highest peer.streams p.streams)) }

abbrev IsListed : Option (List Header) → Type 0
IsListed None = ⊤
IsListed (Some headers) = size_of_all headers ≤ largest_list

opened : (stream : ℕ) (ends : Bool) (peer : Peer) → IsSoundPeer peer → peer.highest < stream → length peer.streams < most_streams → IsSoundPeer (open_stream stream ends peer)
opened stream ends peer p lt room =
    kept peer (open_stream stream ends peer) refl refl p (kept_opened stream peer.highest ends peer.streams lt room p.streams)

request_good : (stream : ℕ) (ends : Bool) (list : Option (List Header)) (peer : Peer) → IsSoundPeer peer → IsClientStream stream → IsListed list
    → peer.highest < stream → length peer.streams < most_streams → IsGood (request stream ends list peer)
request_good stream ends None peer p client listed lt room = record { sound = (client, opened stream ends peer p lt room) }
request_good stream ends (Some headers) peer p client listed lt room =
    either (is_well_formed headers) (gives (event.Call stream headers ends) (open_stream stream ends peer)) (refused stream protocol_error peer)
    (λ _. record { sound = ((client, listed), opened stream ends peer p lt room) })
    (λ _. refused_good stream protocol_error peer p client)

trailers_good : (stream : ℕ) (ends : Bool) (peer : Peer) → IsSoundPeer peer → IsClientStream stream
    → IsGood (cond ends (gives (event.Trailers stream) (peer_ends stream peer)) (stream_fault stream protocol_error peer))
trailers_good stream true peer p client = record { sound = (client, after_end stream peer p) }
trailers_good stream false peer p client = faulted stream protocol_error peer p (inl client)

later_good : (stream : ℕ) (ends : Bool) (now : StreamState) (peer : Peer) → IsSoundPeer peer → IsClientStream stream → IsGood (later_block stream ends now peer)
later_good stream ends state.Closed peer p client = quiet peer p
later_good stream ends state.HalfClosedRemote peer p client = faulted stream stream_closed peer p (inl client)
later_good stream ends state.Open peer p client = trailers_good stream ends peer p client
later_good stream ends state.HalfClosedLocal peer p client = trailers_good stream ends peer p client

odd_not_even : (n : ℕ) → n % 2 ≡ 1 → (n % 2 == 0) ≡ false
odd_not_even n e = rw e refl

second_true : (a b : Bool) → a ≡ false → (a || b) ≡ true → b ≡ true
second_true true b p q = absurd cc
second_true false b p q = q

-- an odd stream that is idle is above the highest
above_highest : (stream : ℕ) (peer : Peer) → IsClientStream stream → is_idle peer stream ≡ true → peer.highest < stream
above_highest stream peer client e =
    let above : nat_lt peer.highest stream ≡ true = second_true (stream % 2 == 0) (nat_lt peer.highest stream) (odd_not_even stream client.odd) e in
    grind (arith, above)

room_left : (n : ℕ) → nat_le most_streams n ≡ false → n < most_streams
room_left n e = grind (arith, e)

not_not : (b : Bool) → not b ≡ false → b ≡ true
not_not true e = refl
not_not false e = sym e

block_on_good : (stream : ℕ) (ends : Bool) (list : Option (List Header)) (peer : Peer) → IsSoundPeer peer → IsClientStream stream → IsListed list → IsGood (block_on stream ends list peer)
block_on_good stream ends list peer p client listed =
    either (not (is_idle peer stream)) (later_block stream ends (state_among stream peer.streams) peer) _ (λ _. later_good stream ends (state_among stream peer.streams) peer p client)
    (λ e. either (nat_le most_streams (length peer.streams)) (refused stream refused_stream peer) (request stream ends list peer)
    (λ _. refused_good stream refused_stream peer p client)
    (λ full. request_good stream ends list peer p client listed (above_highest stream peer client (not_not (is_idle peer stream) e)) (room_left (length peer.streams) full)))

short_list : (decoder after : State) (octets : List ℕ) (headers : List Header) → Answers decoder octets (Ok headers) after → size_of_all headers ≤ largest_list
short_list (Ok table) after octets headers a = a.short
short_list (Err end) after octets headers a = absurd (let e = a.0 in cc)

headers_good : (stream : ℕ) (ends : Bool) (decoder after : State) (octets : List ℕ) (list : Result (List Header) BlockFault) (peer : Peer) → Answers decoder octets list after
    → IsSoundPeer peer → IsClientStream stream → IsGood (headers_mean stream ends list peer)
headers_good stream ends decoder after octets (Ok headers) peer a p client = block_on_good stream ends (Some headers) peer p client (short_list decoder after octets headers a)
headers_good stream ends decoder after octets (Err unread.TooLong) peer a p client = block_on_good stream ends None peer p client tt
headers_good stream ends decoder after octets (Err unread.Bad) peer a p client = fault _
headers_good stream ends decoder after octets (Err unread.NoMemory) peer a p client = fault _

block_good : (block : HeaderBlock) (peer : Peer) (outcome : Outcome) → IsSoundPeer peer → IsClientStream block.stream → BlockMeans block peer outcome → IsGood outcome
block_good block peer outcome p client m =
    let now : IsSoundPeer m.peer_then = record {
      window = rw (ap (λ (o : Peer). o.window) m.peer_then_is) p.window;
      block = subst (λ o. HasClientStream o) (sym (ap (λ (o : Peer). o.block) m.peer_then_is)) tt;
      streams = subst (λ (o : Peer). AreKept o.highest o.streams) (sym m.peer_then_is) p.streams;
    } in
    subst (λ (o : Outcome). IsGood o) (sym m.outcome_is) (headers_good block.stream block.ends peer.decoder m.peer_then.decoder block.octets m.list m.peer_then m.read now client)

fragment_good : (flags : ℕ) (block : HeaderBlock) (fragment : List ℕ) (peer : Peer) → IsSoundPeer peer → IsClientStream block.stream → IsGoodThen (with_fragment flags block fragment peer)
fragment_good flags block fragment peer p client =
    either_then (nat_lt largest_block (length block.octets + length fragment)) (said (Err enhance_your_calm)) _ (λ _. fault_said enhance_your_calm)
    (λ _. either_then (has end_headers_flag flags) (block_ends (longer block fragment)) (said (nothing (record peer { block = Some (longer block fragment) })))
    (λ _. record { good = client })
    (λ _. good_said (nothing (record peer { block = Some (longer block fragment) })) (record { sound = (tt, record { window = p.window; block = client; streams = p.streams }) })))

headers_with_good : (head : Head) (inside : Result (List ℕ) ℕ) (peer : Peer) → IsSoundPeer peer → IsClientStream head.stream → IsGoodThen (headers_with head inside peer)
headers_with_good head (Err code) peer p client = fault_said code
headers_with_good head (Ok fragment) peer p client =
    fragment_good head.flags (record { stream = head.stream; ends = has end_stream_flag head.flags; octets = [] }) fragment peer p client

begin_good : (frame : Frame) (peer : Peer) → IsSoundPeer peer → IsReadable frame → IsGoodThen (headers_begin frame peer)
begin_good frame peer p f =
    let stream = frame.head.stream in
    let inside = content (if has priority_flag frame.head.flags then 5 else 0) frame.head.flags frame.payload in
    either_then (stream % 2 == 0) (said (Err protocol_error)) (headers_with frame.head inside peer) (λ _. fault_said protocol_error)
    (λ e. headers_with_good frame.head inside peer p (record { odd = odd_of stream e; small = f.fits.stream_fits }))

-- ---- frames without octets of a message

some_of : (n : ℕ) → (n == 0) ≡ false → 0 < n
some_of n e = let h = eqb-false n 0 e in grind (arith, h)

priority_good : (frame : Frame) (peer : Peer) → IsSoundPeer peer → IsReadable frame → IsGood (priority_means frame peer)
priority_good frame peer p f =
    let stream = frame.head.stream in
    either (stream == 0) (Err protocol_error) _ (λ _. fault protocol_error)
    (λ e. either (not (length frame.payload == 5)) (stream_fault stream frame_size_error peer) (nothing peer)
    (λ _. faulted stream frame_size_error peer p (inr (some_of stream e, f.fits.stream_fits, refl))) (λ _. quiet peer p))

reset_on_good : (stream : ℕ) (now : StreamState) (peer : Peer) → IsSoundPeer peer → IsClientStream stream → IsGood (reset_on stream now peer)
reset_on_good stream state.Closed peer p client = quiet peer p
reset_on_good stream state.Open peer p client = record { sound = (client, after_reset stream peer p) }
reset_on_good stream state.HalfClosedLocal peer p client = record { sound = (client, after_reset stream peer p) }
reset_on_good stream state.HalfClosedRemote peer p client = record { sound = (client, after_reset stream peer p) }

rst_stream_good : (frame : Frame) (peer : Peer) → IsSoundPeer peer → IsReadable frame → IsGood (rst_stream_means frame peer)
rst_stream_good frame peer p f =
    let stream = frame.head.stream in
    either (not (length frame.payload == 4)) (Err frame_size_error) _ (λ _. fault frame_size_error)
    (λ _. either (is_idle peer stream) (Err protocol_error) (reset_on stream (state_among stream peer.streams) peer) (λ _. fault protocol_error)
    (λ e. reset_on_good stream (state_among stream peer.streams) peer p (opened_stream peer stream e f.fits.stream_fits)))

abbrev LowIn : Result Settings ℕ → Type 0
LowIn (Ok told) = told.window ≤ largest_window
LowIn (Err code) = ⊤

record IsLow (told : Result Settings ℕ) : Type 0 where
  low : LowIn told

either_low : (b : Bool) (x y : Result Settings ℕ) → (b ≡ true → IsLow x) → (b ≡ false → IsLow y) → IsLow (cond b x y)
either_low true x y p q = p refl
either_low false x y p q = q refl

low_fault : (code : ℕ) → IsLow (Err code)
low_fault code = record { low = tt }

setting_low : (name value : ℕ) (told : Settings) → told.window ≤ largest_window → IsLow (with_setting name value told)
setting_low name value told le =
    either_low (name == 1) (Ok (record told { table = true })) _ (λ _. record { low = le })
    (λ _. either_low ((name == 2) && nat_lt 1 value) (Err protocol_error) _ (λ _. low_fault protocol_error)
    (λ _. either_low (name == 4) (cond (nat_lt largest_window value) (Err flow_control_error) (Ok (record told { window = value }))) _
    (λ _. either_low (nat_lt largest_window value) (Err flow_control_error) (Ok (record told { window = value })) (λ _. low_fault flow_control_error) (λ e. record { low = grind (arith, e) }))
    (λ _. either_low ((name == 5) && (nat_lt value 16384 || nat_lt 16777215 value)) (Err protocol_error) (Ok told) (λ _. low_fault protocol_error) (λ _. record { low = le }))))

then_low : (rest : Settings → Result Settings ℕ) (told : Result Settings ℕ) → IsLow told → ((s : Settings) → s.window ≤ largest_window → IsLow (rest s)) → IsLow (and_then told rest)
then_low rest (Err code) p q = low_fault code
then_low rest (Ok s) p q = q s p.low

settings_low : (octets : List ℕ) (told : Settings) → told.window ≤ largest_window → IsLow (with_settings octets told)
settings_low [] told le = record { low = le }
settings_low (a ∷ []) told le = record { low = le }
settings_low (a ∷ b ∷ []) told le = record { low = le }
settings_low (a ∷ b ∷ c ∷ []) told le = record { low = le }
settings_low (a ∷ b ∷ c ∷ d ∷ []) told le = record { low = le }
settings_low (a ∷ b ∷ c ∷ d ∷ e ∷ []) told le = record { low = le }
settings_low (a ∷ b ∷ c ∷ d ∷ e ∷ f ∷ rest) told le =
    let first = with_setting (number 0 (a ∷ b ∷ [])) (number 0 (c ∷ d ∷ e ∷ f ∷ [])) told in
    then_low (with_settings rest) first (setting_low (number 0 (a ∷ b ∷ [])) (number 0 (c ∷ d ∷ e ∷ f ∷ [])) told le) (λ s h. settings_low rest s h)

told_good : (told : Result Settings ℕ) (peer : Peer) → IsSoundPeer peer → IsLow told → IsGood (outcome_of_settings told peer)
told_good (Err code) peer p low = fault code
told_good (Ok s) peer p low = record { sound = (low.low, record { window = low.low; block = p.block; streams = p.streams }) }

settings_good : (frame : Frame) (peer : Peer) → IsSoundPeer peer → IsGood (settings_mean frame peer)
settings_good frame peer p =
    let told = with_settings frame.payload (record { window = peer.window; table = false }) in
    either (has ack_flag frame.head.flags && not (length frame.payload == 0)) (Err frame_size_error) _ (λ _. fault frame_size_error)
    (λ _. either (not (length frame.payload % 6 == 0)) (Err frame_size_error) _ (λ _. fault frame_size_error)
    (λ _. either (not (frame.head.stream == 0)) (Err protocol_error) _ (λ _. fault protocol_error)
    (λ _. either (has ack_flag frame.head.flags) (gives event.SettingsAck peer) (outcome_of_settings told peer) (λ _. record { sound = (tt, p) })
    (λ _. told_good told peer p (settings_low frame.payload (record { window = peer.window; table = false }) p.window)))))

below_64 : (octets : List ℕ) → length octets ≡ 8 → All (λ (octet : ℕ). octet < 2 ^ 8) octets → number 0 octets < 2 ^ 64
below_64 [] e fits = absurd (omega (arith, e))
below_64 (a ∷ []) e fits = absurd (omega (arith, e))
below_64 (a ∷ b ∷ []) e fits = absurd (omega (arith, e))
below_64 (a ∷ b ∷ c ∷ []) e fits = absurd (omega (arith, e))
below_64 (a ∷ b ∷ c ∷ d ∷ []) e fits = absurd (omega (arith, e))
below_64 (a ∷ b ∷ c ∷ d ∷ f ∷ []) e fits = absurd (omega (arith, e))
below_64 (a ∷ b ∷ c ∷ d ∷ f ∷ g ∷ []) e fits = absurd (omega (arith, e))
below_64 (a ∷ b ∷ c ∷ d ∷ f ∷ g ∷ h ∷ []) e fits = absurd (omega (arith, e))
below_64 (a ∷ b ∷ c ∷ d ∷ f ∷ g ∷ h ∷ i ∷ []) e fits =
    let small = λ (octet : ℕ). octet < 2 ^ 8 in
    let fb = All-tail small a (b ∷ c ∷ d ∷ f ∷ g ∷ h ∷ i ∷ []) fits in
    let fc = All-tail small b (c ∷ d ∷ f ∷ g ∷ h ∷ i ∷ []) fb in
    let fd = All-tail small c (d ∷ f ∷ g ∷ h ∷ i ∷ []) fc in
    let ff = All-tail small d (f ∷ g ∷ h ∷ i ∷ []) fd in
    let fg = All-tail small f (g ∷ h ∷ i ∷ []) ff in
    let fh = All-tail small g (h ∷ i ∷ []) fg in
    let fi = All-tail small h (i ∷ []) fh in
    let la : a < 2 ^ 8 = All-head small a (b ∷ c ∷ d ∷ f ∷ g ∷ h ∷ i ∷ []) fits in
    let lb : b < 2 ^ 8 = All-head small b (c ∷ d ∷ f ∷ g ∷ h ∷ i ∷ []) fb in
    let lc : c < 2 ^ 8 = All-head small c (d ∷ f ∷ g ∷ h ∷ i ∷ []) fc in
    let ld : d < 2 ^ 8 = All-head small d (f ∷ g ∷ h ∷ i ∷ []) fd in
    let lf : f < 2 ^ 8 = All-head small f (g ∷ h ∷ i ∷ []) ff in
    let lg : g < 2 ^ 8 = All-head small g (h ∷ i ∷ []) fg in
    let lh : h < 2 ^ 8 = All-head small h (i ∷ []) fh in
    let li : i < 2 ^ 8 = All-head small i [] fi in
    omega (arith, la, lb, lc, ld, lf, lg, lh, li)
below_64 (a ∷ b ∷ c ∷ d ∷ f ∷ g ∷ h ∷ i ∷ j ∷ rest) e fits = absurd (omega (arith, e))

ping_good : (frame : Frame) (peer : Peer) → IsSoundPeer peer → IsReadable frame → IsGood (ping_means frame peer)
ping_good frame peer p f =
    either (not (length frame.payload == 8)) (Err frame_size_error) _ (λ _. fault frame_size_error)
    (λ e. either (not (frame.head.stream == 0)) (Err protocol_error) _ (λ _. fault protocol_error)
    (λ _. either (has ack_flag frame.head.flags) (nothing peer) (gives (event.Ping (number 0 frame.payload)) peer) (λ _. quiet peer p)
    (λ _. record { sound = (below_64 frame.payload (eqb-true (length frame.payload) 8 (not_not (length frame.payload == 8) e)) f.fits.octets_fit, p) })))

goaway_good : (frame : Frame) (peer : Peer) → IsSoundPeer peer → IsGood (goaway_means frame peer)
goaway_good frame peer p =
    either (nat_lt (length frame.payload) 8) (Err frame_size_error) _ (λ _. fault frame_size_error)
    (λ _. either (not (frame.head.stream == 0)) (Err protocol_error) (gives event.GoAway peer) (λ _. fault protocol_error) (λ _. record { sound = (tt, p) }))

window_good : (stream by : ℕ) (peer : Peer) → IsSoundPeer peer → IsClientStream stream → (by == 0) ≡ false → by < 2 ^ 31 → IsGood (gives (event.Window stream by) peer)
window_good stream by peer p client e lt = record { sound = ((inr client, some_of by e, lt), p) }

increment_on_good : (stream by : ℕ) (now : StreamState) (peer : Peer) → IsSoundPeer peer → IsClientStream stream → (by == 0) ≡ false → by < 2 ^ 31 → IsGood (increment_on stream by now peer)
increment_on_good stream by state.Open peer p client e lt = window_good stream by peer p client e lt
increment_on_good stream by state.HalfClosedRemote peer p client e lt = window_good stream by peer p client e lt
increment_on_good stream by state.Closed peer p client e lt = quiet peer p
increment_on_good stream by state.HalfClosedLocal peer p client e lt = quiet peer p

both_true : (a b : Bool) → a ≡ true → (a && b) ≡ false → b ≡ false
both_true true b p q = q
both_true false b p q = absurd cc

increment_good : (stream by : ℕ) (peer : Peer) → IsSoundPeer peer → ((stream == 0) ≡ false → IsClientStream stream) → by < 2 ^ 31 → IsGood (increment_means stream by peer)
increment_good stream by peer p client lt =
    either ((by == 0) && (stream == 0)) (Err protocol_error) _ (λ _. fault protocol_error)
    (λ e. either (by == 0) (stream_fault stream protocol_error peer) _
    (λ g. faulted stream protocol_error peer p (inl (client (both_true (by == 0) (stream == 0) g e))))
    (λ g. either (stream == 0) (gives (event.Window 0 by) peer) (increment_on stream by (state_among stream peer.streams) peer)
    (λ _. record { sound = ((inl refl, some_of by g, lt), p) })
    (λ k. increment_on_good stream by (state_among stream peer.streams) peer p (client k) g lt)))

opens_first : (a b : Bool) → a ≡ false → (not a && b) ≡ false → b ≡ false
opens_first true b p q = absurd cc
opens_first false b p q = q

below_31 : (n : ℕ) → n % 2 ^ 31 < 2 ^ 31
below_31 n = omega arith

window_update_good : (frame : Frame) (peer : Peer) → IsSoundPeer peer → IsReadable frame → IsGood (window_update_means frame peer)
window_update_good frame peer p f =
    let stream = frame.head.stream in
    let by = number 0 frame.payload % 2 ^ 31 in
    either (not (length frame.payload == 4)) (Err frame_size_error) _ (λ _. fault frame_size_error)
    (λ _. either (not (stream == 0) && is_idle peer stream) (Err protocol_error) (increment_means stream by peer) (λ _. fault protocol_error)
    (λ e. increment_good stream by peer p (λ k. opened_stream peer stream (opens_first (stream == 0) (is_idle peer stream) k e) f.fits.stream_fits) (below_31 (number 0 frame.payload))))

-- ---- a frame

kind_good : (k : Kind) (frame : Frame) (peer : Peer) → IsSoundPeer peer → IsReadable frame → IsGoodThen (kind_means k frame peer)
kind_good kind.Data frame peer p f = good_said (data_means frame peer) (data_good frame peer p f)
kind_good kind.Headers frame peer p f = begin_good frame peer p f
kind_good kind.Priority frame peer p f = good_said (priority_means frame peer) (priority_good frame peer p f)
kind_good kind.RstStream frame peer p f = good_said (rst_stream_means frame peer) (rst_stream_good frame peer p f)
kind_good kind.Settings frame peer p f = good_said (settings_mean frame peer) (settings_good frame peer p)
kind_good kind.PushPromise frame peer p f = fault_said protocol_error
kind_good kind.Ping frame peer p f = good_said (ping_means frame peer) (ping_good frame peer p f)
kind_good kind.GoAway frame peer p f = good_said (goaway_means frame peer) (goaway_good frame peer p)
kind_good kind.WindowUpdate frame peer p f = good_said (window_update_means frame peer) (window_update_good frame peer p f)
kind_good kind.Continuation frame peer p f = fault_said protocol_error
kind_good kind.Unknown frame peer p f = good_said (nothing peer) (quiet peer p)

next_good : (block : Option HeaderBlock) (frame : Frame) (peer : Peer) → IsSoundPeer peer → HasClientStream block → IsReadable frame → IsGoodThen (next_means block frame peer)
next_good None frame peer p h f = kind_good (kind_of frame.head.kind) frame peer p f
next_good (Some block) frame peer p h f =
    either_then ((frame.head.kind == continuation_kind) && (frame.head.stream == block.stream)) (continuation_means frame block peer) (said (Err protocol_error))
    (λ _. fragment_good frame.head.flags block frame.payload peer p h) (λ _. fault_said protocol_error)

frame_good : (frame : Frame) (peer : Peer) → IsSoundPeer peer → IsReadable frame → IsGoodThen (meaning_of frame peer)
frame_good frame peer p f =
    either_then peer.greeted (next_means peer.block frame peer) _ (λ _. next_good peer.block frame peer p p.block f)
    (λ _. either_then ((frame.head.kind == settings_kind) && not (has ack_flag frame.head.flags)) (said (settings_mean frame peer)) (said (Err protocol_error))
    (λ _. good_said (settings_mean frame peer) (settings_good frame peer p)) (λ _. fault_said protocol_error))

comes_good : (peer : Peer) (meaning : Meaning) (outcome : Outcome) → IsSoundPeer peer → IsGoodThen meaning → Comes meaning peer outcome → IsGood outcome
comes_good peer (said answer) outcome p g q = subst (λ (o : Outcome). IsGood o) q g.good
comes_good peer (block_ends block) outcome p g q = block_good block peer outcome p g.good q

pub sound_frame : (peer : Peer) (frame : Frame) (outcome : Outcome) → IsSoundPeer peer → IsReadable frame → Means peer frame outcome → GivesSound outcome
sound_frame peer frame outcome p f m = let g = comes_good peer (meaning_of frame peer) outcome p (frame_good frame peer p f) m in g.sound

pub sound_moments : (start last : Peer) (moments : List Moment) → IsSoundPeer start → Calls start moments last → AllByRecursion IsReadable (frames_of moments)
    → AllByRecursion IsSound (events_of moments) × IsSoundPeer last
sound_moments start last [] p c f = (tt, subst (λ (o : Peer). IsSoundPeer o) c p)
sound_moments start last (read frame (Some e) ∷ moments) p c f =
    let h = sound_frame start frame (Ok (record { event = Some e; peer = c.0 })) p f.0 c.1 in
    let more = sound_moments c.0 last moments h.1 c.2 f.1 in
    ((h.0, more.0), more.1)
sound_moments start last (read frame None ∷ moments) p c f =
    let h = sound_frame start frame (Ok (record { event = None; peer = c.0 })) p f.0 c.1 in
    sound_moments c.0 last moments h.1 c.2 f.1
sound_moments start last (ended s ∷ moments) p c f =
    sound_moments c.0 last moments (subst (λ (o : Peer). IsSoundPeer o) c.1 (after_end_here s start p)) c.2 f
