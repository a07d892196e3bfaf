use Rattle.std.proofs.Common.{◌≡◌, ℕ, ◌+◌, ◌*◌, ◌^◌, List, [], ◌∷◌, length, get_or, refl, sym, ap, subst, arith, Option, None, Result, Ok, Err}
use Rattle.std.specs.Prelude.{◌≢◌, IfOk}
use Rattle.hpack_block.specs.declared.header.Header.{Header}
use Rattle.hpack_block.specs.declared.header.BlockFault.{BlockFault}
use Rattle.hpack_block.specs.declared.header.BlockFault.TheVariants as unread
use Rattle.hpack_block.specs.Answers.{State, Answers}
use Rattle.h2_frame.specs.Frames.{Frame}
use Rattle.h2_events.specs.declared.event.RecvEvent.{RecvEvent}
use Rattle.h2_events.specs.declared.event.RecvFault.{RecvFault}
use Rattle.h2_events.specs.declared.event.RecvFault.TheVariants as fault
use Rattle.h2_streams.specs.declared.peer.HeaderBlock.{HeaderBlock}
use Rattle.h2_streams.specs.declared.peer.Peer.{Peer}
use Rattle.h2_streams.specs.Codes.{kind_of}
use Rattle.h2_streams.specs.Outcomes.{Outcome, Answered, Reports}
use Rattle.h2_streams.specs.Payloads.{number}
use Rattle.h2_streams.specs.Blocks.{headers_mean, BlockMeans}
use Rattle.h2_streams.specs.Meanings.{Meaning, said, Comes, FrameAnswered, block_ends, kind_means, next_means}

pub two_halves : (octets : List ℕ) → length octets ≡ 8 → number 0 octets ≡
    number 0 (get_or octets 0 0 ∷ get_or octets 1 0 ∷ get_or octets 2 0 ∷ get_or octets 3 0 ∷ []) * 2 ^ 32
    + number 0 (get_or octets 4 0 ∷ get_or octets 5 0 ∷ get_or octets 6 0 ∷ get_or octets 7 0 ∷ [])
two_halves [] h = absurd (omega arith)
two_halves (a ∷ []) h = absurd (omega arith)
two_halves (a ∷ b ∷ []) h = absurd (omega arith)
two_halves (a ∷ b ∷ c ∷ []) h = absurd (omega arith)
two_halves (a ∷ b ∷ c ∷ d ∷ []) h = absurd (omega arith)
two_halves (a ∷ b ∷ c ∷ d ∷ e ∷ []) h = absurd (omega arith)
two_halves (a ∷ b ∷ c ∷ d ∷ e ∷ f ∷ []) h = absurd (omega arith)
two_halves (a ∷ b ∷ c ∷ d ∷ e ∷ f ∷ g ∷ []) h = absurd (omega arith)
two_halves (a ∷ b ∷ c ∷ d ∷ e ∷ f ∷ g ∷ i ∷ []) h = omega arith
two_halves (a ∷ b ∷ c ∷ d ∷ e ∷ f ∷ g ∷ i ∷ j ∷ rest) h = absurd (omega arith)

pub outside : (peer : Peer) (frame : Frame) (result : Result (Option RecvEvent) RecvFault) (new : Peer) → peer.block ≡ None
    → FrameAnswered (kind_means (kind_of frame.head.kind) frame (record peer { block = None })) (record peer { block = None }) result new
    → FrameAnswered (next_means peer.block frame peer) peer result new
outside peer frame result new e h =
    subst (λ (b : Option HeaderBlock). FrameAnswered (next_means b frame (record peer { block = b })) (record peer { block = b }) result new) (sym e) h

pub block_answered : (block : HeaderBlock) (peer : Peer) (list : Result (List Header) BlockFault) (decoder : State) (result : Result (Option RecvEvent) RecvFault) (new : Peer)
    → Answers peer.decoder block.octets list decoder → list ≢ Err unread.NoMemory
    → Answered (headers_mean block.stream block.ends list (record peer { decoder = decoder; block = None })) result new
    → FrameAnswered (block_ends block) peer result new
block_answered block peer list decoder result new read in_memory h =
    λ ok. (
      headers_mean block.stream block.ends list (record peer { decoder = decoder; block = None }),
      record { list = list; peer_then = record peer { decoder = decoder; block = None }; read = read; in_memory = in_memory; peer_then_is = refl; outcome_is = refl },
      h ok,
    )

pub block_unread : (block : HeaderBlock) (peer : Peer) (list : Result (List Header) BlockFault) (why : BlockFault) (decoder : State) (result : Result (Option RecvEvent) RecvFault) (new : Peer)
    → Answers peer.decoder block.octets list decoder → list ≡ Err why
    → (why ≢ unread.NoMemory → Answered (headers_mean block.stream block.ends (Err why) (record peer { decoder = decoder; block = None })) result new)
    → (why ≡ unread.NoMemory → result ≡ Err fault.NoMemory)
    → FrameAnswered (block_ends block) peer result new
block_unread block peer list unread.Bad decoder result new read e h m = block_answered block peer list decoder result new read (λ (same : list ≡ Err unread.NoMemory). cc) (rw e (h (λ (same : unread.Bad ≡ unread.NoMemory). cc)))
block_unread block peer list unread.TooLong decoder result new read e h m = block_answered block peer list decoder result new read (λ (same : list ≡ Err unread.NoMemory). cc) (rw e (h (λ (same : unread.TooLong ≡ unread.NoMemory). cc)))
block_unread block peer list unread.NoMemory decoder result new read e h m = λ ok. absurd (ok (m refl))

abbrev Reply : Type 0
Reply = Result (Option RecvEvent) RecvFault

ok_has_memory : (event : Option RecvEvent) (reply : Reply) → reply ≡ Ok event → reply ≢ Err fault.NoMemory
ok_has_memory event reply e same = cc

fault_has_memory : (code : ℕ) (reply : Reply) → reply ≡ Err (fault.Protocol code) → reply ≢ Err fault.NoMemory
fault_has_memory code reply e same = cc

block_told : (block : HeaderBlock) (peer : Peer) (event : Option RecvEvent) (new : Peer) (outcome : Outcome) → BlockMeans block peer outcome
    → Reports outcome (Ok event) new → BlockMeans block peer (Ok (record { event = event; peer = new }))
block_told block peer event new (Ok told) means h =
    let same_event : event ≡ told.event = let e = h.0 in cc in
    rw (same_event, h.1) means
block_told block peer event new (Err code) means h = absurd cc

block_fault : (block : HeaderBlock) (peer : Peer) (code : ℕ) (new : Peer) (outcome : Outcome) → BlockMeans block peer outcome
    → Reports outcome (Err (fault.Protocol code)) new → BlockMeans block peer (Err code)
block_fault block peer code new (Ok told) means h = absurd (let e = h.0 in cc)
block_fault block peer code new (Err other) means h =
    let e : other ≡ code = cc in
    subst (λ (n : ℕ). BlockMeans block peer (Err n)) e means

-- what was answered, as a meaning
pub meant : (meaning : Meaning) (peer : Peer) (event : Option RecvEvent) (new : Peer) → FrameAnswered meaning peer (Ok event) new
    → Comes meaning peer (Ok (record { event = event; peer = new }))
meant (said (Ok told)) peer event new h =
    let t = h (ok_has_memory event (Ok event) refl) in
    let same_event : event ≡ told.event = let e = t.0 in cc in
    rw (same_event, t.1) refl
meant (said (Err code)) peer event new h =
    let t = h (ok_has_memory event (Ok event) refl) in
    absurd cc
meant (block_ends block) peer event new h =
    let t = h (ok_has_memory event (Ok event) refl) in
    block_told block peer event new t.0 t.1 t.2

pub meant_fault : (meaning : Meaning) (peer : Peer) (code : ℕ) (new : Peer) → FrameAnswered meaning peer (Err (fault.Protocol code)) new
    → Comes meaning peer (Err code)
meant_fault (said (Ok told)) peer code new h =
    let t = h (fault_has_memory code (Err (fault.Protocol code)) refl) in
    absurd cc
meant_fault (said (Err other)) peer code new h =
    let t = h (fault_has_memory code (Err (fault.Protocol code)) refl) in
    let e : other ≡ code = cc in
    ap (λ (n : ℕ). Err n) e
meant_fault (block_ends block) peer code new h =
    let t = h (fault_has_memory code (Err (fault.Protocol code)) refl) in
    block_fault block peer code new t.0 t.1 t.2

pub meant_ok : (meaning : Meaning) (peer : Peer) (result : Result (Option RecvEvent) RecvFault) (new : Peer) → FrameAnswered meaning peer result new
    → IfOk result (λ event. Comes meaning peer (Ok (record { event = event; peer = new })))
meant_ok meaning peer (Ok event) new h = meant meaning peer event new h
meant_ok meaning peer (Err why) new h = tt
