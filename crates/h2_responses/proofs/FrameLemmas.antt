use Rattle.std.proofs.Common.{◌≡◌, ℕ, refl, sym, ap, subst, Option, None, Result, Ok, Err, List}
use Rattle.std.specs.Prelude.{◌≢◌, IfOk}
use Rattle.hpack_block.specs.declared.header.Header.{Header}
use Rattle.hpack_block.specs.declared.header.BlockFault.{BlockFault}
use Rattle.hpack_block.specs.declared.header.BlockFault.TheVariants as unread
use Rattle.hpack_block.specs.Answers.{State, Answers}
use Rattle.h2_frame.specs.Frames.{Frame}
use Rattle.h2_events.specs.declared.event.RecvFault.{RecvFault}
use Rattle.h2_events.specs.declared.event.RecvFault.TheVariants as fault
use Rattle.h2_streams.specs.declared.peer.HeaderBlock.{HeaderBlock}
use Rattle.h2_streams.specs.Codes.{kind_of}
use Rattle.h2_responses.specs.declared.event.ServerEvent.{ServerEvent}
use Rattle.h2_responses.specs.declared.server.Server.{Server}
use Rattle.h2_responses.specs.Outcomes.{Outcome, Answered, Reports}
use Rattle.h2_responses.specs.Meanings.{Meaning, said, Comes, FrameAnswered, block_ends, headers_mean, BlockMeans, kind_means, next_means}

pub outside : (server : Server) (frame : Frame) (result : Result (Option ServerEvent) RecvFault) (new : Server) → server.block ≡ None
    → FrameAnswered (kind_means (kind_of frame.head.kind) frame (record server { block = None })) (record server { block = None }) result new
    → FrameAnswered (next_means server.block frame server) server result new
outside server frame result new e h =
    subst (λ (b : Option HeaderBlock). FrameAnswered (next_means b frame (record server { block = b })) (record server { block = b }) result new) (sym e) h

pub block_answered : (block : HeaderBlock) (server : Server) (list : Result (List Header) BlockFault) (decoder : State) (result : Result (Option ServerEvent) RecvFault) (new : Server)
    → Answers server.decoder block.octets list decoder → list ≢ Err unread.NoMemory
    → Answered (headers_mean block.stream block.ends list (record server { decoder = decoder; block = None })) result new
    → FrameAnswered (block_ends block) server result new
block_answered block server list decoder result new read in_memory h =
    λ ok. (
      headers_mean block.stream block.ends list (record server { decoder = decoder; block = None }),
      record { list = list; server_then = record server { decoder = decoder; block = None }; read = read; in_memory = in_memory; server_then_is = refl; outcome_is = refl },
      h ok,
    )

pub block_unread : (block : HeaderBlock) (server : Server) (list : Result (List Header) BlockFault) (why : BlockFault) (decoder : State) (result : Result (Option ServerEvent) RecvFault) (new : Server)
    → Answers server.decoder block.octets list decoder → list ≡ Err why
    → (why ≡ unread.TooLong → result ≡ Err (fault.Protocol 11))
    → (why ≡ unread.Bad → result ≡ Err (fault.Protocol 9))
    → (why ≡ unread.NoMemory → result ≡ Err fault.NoMemory)
    → FrameAnswered (block_ends block) server result new
block_unread block server list unread.Bad decoder result new read e l b m = block_answered block server list decoder result new read (λ (same : list ≡ Err unread.NoMemory). cc) (λ ok. rw e (b refl))
block_unread block server list unread.TooLong decoder result new read e l b m = block_answered block server list decoder result new read (λ (same : list ≡ Err unread.NoMemory). cc) (λ ok. rw e (l refl))
block_unread block server list unread.NoMemory decoder result new read e l b m = λ ok. absurd (ok (m refl))

abbrev Reply : Type 0
Reply = Result (Option ServerEvent) RecvFault

ok_has_memory : (event : Option ServerEvent) (reply : Reply) → reply ≡ Ok event → reply ≢ Err fault.NoMemory
ok_has_memory event reply e same = cc

fault_has_memory : (code : ℕ) (reply : Reply) → reply ≡ Err (fault.Protocol code) → reply ≢ Err fault.NoMemory
fault_has_memory code reply e same = cc

block_told : (block : HeaderBlock) (server : Server) (event : Option ServerEvent) (new : Server) (outcome : Outcome) → BlockMeans block server outcome
    → Reports outcome (Ok event) new → BlockMeans block server (Ok (record { event = event; server = new }))
block_told block server event new (Ok told) means h =
    let same_event : event ≡ told.event = let e = h.0 in cc in
    rw (same_event, h.1) means
block_told block server event new (Err code) means h = absurd cc

block_fault : (block : HeaderBlock) (server : Server) (code : ℕ) (new : Server) (outcome : Outcome) → BlockMeans block server outcome
    → Reports outcome (Err (fault.Protocol code)) new → BlockMeans block server (Err code)
block_fault block server code new (Ok told) means h = absurd (let e = h.0 in cc)
block_fault block server code new (Err other) means h =
    let e : other ≡ code = cc in
    subst (λ (n : ℕ). BlockMeans block server (Err n)) e means

-- what was answered, as a meaning
pub meant : (meaning : Meaning) (server : Server) (event : Option ServerEvent) (new : Server) → FrameAnswered meaning server (Ok event) new
    → Comes meaning server (Ok (record { event = event; server = new }))
meant (said (Ok told)) server event new h =
    let t = h (ok_has_memory event (Ok event) refl) in
    let same_event : event ≡ told.event = let e = t.0 in cc in
    rw (same_event, t.1) refl
meant (said (Err code)) server event new h =
    let t = h (ok_has_memory event (Ok event) refl) in
    absurd cc
meant (block_ends block) server event new h =
    let t = h (ok_has_memory event (Ok event) refl) in
    block_told block server event new t.0 t.1 t.2

pub meant_fault : (meaning : Meaning) (server : Server) (code : ℕ) (new : Server) → FrameAnswered meaning server (Err (fault.Protocol code)) new
    → Comes meaning server (Err code)
meant_fault (said (Ok told)) server code new h =
    let t = h (fault_has_memory code (Err (fault.Protocol code)) refl) in
    absurd cc
meant_fault (said (Err other)) server code new h =
    let t = h (fault_has_memory code (Err (fault.Protocol code)) refl) in
    let e : other ≡ code = cc in
    ap (λ (n : ℕ). Err n) e
meant_fault (block_ends block) server code new h =
    let t = h (fault_has_memory code (Err (fault.Protocol code)) refl) in
    block_fault block server code new t.0 t.1 t.2

pub meant_ok : (meaning : Meaning) (server : Server) (result : Result (Option ServerEvent) RecvFault) (new : Server) → FrameAnswered meaning server result new
    → IfOk result (λ event. Comes meaning server (Ok (record { event = event; server = new })))
meant_ok meaning server (Ok event) new h = meant meaning server event new h
meant_ok meaning server (Err why) new h = tt
