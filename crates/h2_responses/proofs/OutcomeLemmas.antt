-- A frame leads to one outcome.
use Rattle.std.proofs.Common.{◌≡◌, ℕ, List, refl, sym, ap, ◌∙◌, None, Result, Ok, Err}
use Rattle.std.specs.Prelude.{◌≢◌}
use Rattle.hpack_block.specs.declared.header.Header.{Header}
use Rattle.hpack_block.specs.declared.header.BlockFault.{BlockFault}
use Rattle.hpack_block.specs.declared.header.BlockFault.TheVariants as unread
use Rattle.hpack_block.specs.Answers.{State, Answers}
use Rattle.hpack_block.proofs.BlockLemmas.{answered_read, answered_too_long, answered_bad}
use Rattle.h2_frame.specs.Frames.{Frame}
use Rattle.h2_streams.specs.declared.peer.HeaderBlock.{HeaderBlock}
use Rattle.h2_responses.specs.declared.server.Server.{Server}
use Rattle.h2_responses.specs.Outcomes.{Outcome}
use Rattle.h2_responses.specs.Meanings.{Meaning, said, block_ends, headers_mean, BlockMeans, Comes, Means, meaning_of}

one_answer : (state : State) (octets : List ℕ) (one other : Result (List Header) BlockFault) (new next : State) → Answers state octets one new → one ≢ Err unread.NoMemory
    → Answers state octets other next → other ≢ Err unread.NoMemory → (one ≡ other) × (new ≡ next)
one_answer (Err why) octets one other new next p n q k = (p.0 ∙ sym q.0, p.1 ∙ sym q.1)
one_answer (Ok table) octets (Ok headers) other new next p n q k =
    let r = answered_read table octets other next headers p.last q k p.block p.short in (sym r.0, p.new_is ∙ sym r.1)
one_answer (Ok table) octets (Err unread.TooLong) other new next p n q k =
    let r = answered_too_long table octets other next p.headers p.last q k p.block p.long in (sym r.0, p.new_is ∙ sym r.1)
one_answer (Ok table) octets (Err unread.Bad) other new next p n q k = let r = answered_bad table octets other next q k p.0 in (sym r.0, p.1 ∙ sym r.1)
one_answer (Ok table) octets (Err unread.NoMemory) other new next p n q k = absurd (n refl)

one_block_meaning : (block : HeaderBlock) (server : Server) (one other : Outcome) → BlockMeans block server one → BlockMeans block server other → one ≡ other
one_block_meaning block server one other p q =
    let r = one_answer server.decoder block.octets p.list q.list p.server_then.decoder q.server_then.decoder p.read p.in_memory q.read q.in_memory in
    let servers : p.server_then ≡ q.server_then = p.server_then_is ∙ ap (λ (d : State). record server { decoder = d; block = None }) r.1 ∙ sym q.server_then_is in
    p.outcome_is ∙ ap (λ (l : Result (List Header) BlockFault). headers_mean block.stream block.ends l p.server_then) r.0
    ∙ ap (λ (o : Server). headers_mean block.stream block.ends q.list o) servers ∙ sym q.outcome_is

one_coming : (meaning : Meaning) (server : Server) (one other : Outcome) → Comes meaning server one → Comes meaning server other → one ≡ other
one_coming (said outcome) server one other p q = sym p ∙ q
one_coming (block_ends block) server one other p q = one_block_meaning block server one other p q

pub one_outcome : (server : Server) (frame : Frame) (one other : Outcome) → Means server frame one → Means server frame other → one ≡ other
one_outcome server frame one other p q = one_coming (meaning_of frame server) server one other p q
