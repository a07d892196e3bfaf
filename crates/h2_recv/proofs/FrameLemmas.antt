use Rattle.std.proofs.Common.{◌≡◌, ℕ, ◌+◌, ◌<◌, ◌≤◌, ◌⊎◌, List, [], ◌++◌, length, get_or, take, refl, sym, subst, ◌∙◌, arith, inl, inr, Err}
use Rattle.std.specs.Prelude.{slice_range}
use Rattle.std.proofs.lemmas.List.{append-nil, get_or-take, get_or_append_left, take_all}
use Rattle.std.proofs.lemmas.Bool.{cases_lt}
use Rattle.h2_frame.specs.declared.frame.Head.{Head}
use Rattle.h2_frame.specs.Frames.{Spells, StandsFirst, IsPart, frame_of, stated_length}
use Rattle.h2_frame.proofs.Reading.{IsOctets, states_least, frame_no_part, stands}
use Rattle.h2_events.specs.declared.event.RecvFault.{RecvFault}
use Rattle.h2_events.specs.declared.event.RecvFault.TheVariants as fault
use Rattle.h2_streams.specs.declared.peer.Peer.{Peer}
use Rattle.h2_events.specs.Events.{largest_frame}
use Rattle.h2_streams.specs.Outcomes.{Outcome}
use Rattle.h2_streams.specs.Meanings.{Means}
use Rattle.h2_recv.specs.declared.reader.Reader.{Reader}
use Rattle.h2_recv.specs.inner.Steps.{IsWithin, IsFrame, Looks}
use Rattle.h2_recv.specs.Receiving.{next_end}

short_or : (octets : List ℕ) → IsOctets octets → IsPart largest_frame octets → (length octets < 9 + stated_length octets) ⊎ (9 + stated_length octets ≤ length octets) → length octets < 9 + stated_length octets
short_or octets fits part (inl lt) = lt
short_or octets fits part (inr le) =
    let least : stated_length octets ≤ part.frame.head.length = states_least octets part.missing part.frame part.whole in
    let allowed : stated_length octets ≤ largest_frame = omega (arith, part.allowed) in
    absurd (frame_no_part largest_frame octets _ _ (stands largest_frame octets fits allowed le) part)

-- a part of a frame ends before what it states
pub part_short : (octets : List ℕ) → IsOctets octets → IsPart largest_frame octets → length octets < 9 + stated_length octets
part_short octets fits part = short_or octets fits part (cases_lt (length octets) (9 + stated_length octets))

pub end_ahead : (octets : List ℕ) → IsOctets octets → IsPart largest_frame octets → length octets < next_end octets
end_ahead octets fits part = let lt : length octets < 9 + stated_length octets = part_short octets fits part in grind arith

within_or : (octets more : List ℕ) → length (octets ++ more) ≤ next_end octets → (length octets < 9) ⊎ (9 ≤ length octets) → IsWithin (octets ++ more)
within_or octets more le (inl lt) = let e : length (octets ++ more) ≤ 9 = grind arith in omega arith
within_or octets more le (inr ge) =
    let e : length (octets ++ more) ≤ 9 + stated_length octets = grind arith in
    let a : get_or (octets ++ more) 0 0 ≡ get_or octets 0 0 = get_or_append_left octets more 0 0 (omega arith) in
    let b : get_or (octets ++ more) 1 0 ≡ get_or octets 1 0 = get_or_append_left octets more 0 1 (omega arith) in
    let c : get_or (octets ++ more) 2 0 ≡ get_or octets 2 0 = get_or_append_left octets more 0 2 (omega arith) in
    omega arith

pub within_end : (octets more : List ℕ) → length (octets ++ more) ≤ next_end octets → IsWithin (octets ++ more)
within_end octets more le = within_or octets more le (cases_lt (length octets) 9)

pub whole_used : (octets : List ℕ) (head : Head) (used : ℕ) → StandsFirst largest_frame octets head used → IsWithin octets → used ≡ length octets
whole_used octets head used p within =
    let front = take used octets in
    let least : stated_length front ≤ head.length = states_least front [] _ (subst (λ (o : List ℕ). Spells o (frame_of head (slice_range octets 9 used))) (sym (append-nil front)) p.frame) in
    let a : get_or front 0 0 ≡ get_or octets 0 0 = get_or-take used octets 0 0 (omega (arith, p.size)) in
    let b : get_or front 1 0 ≡ get_or octets 1 0 = get_or-take used octets 1 0 (omega (arith, p.size)) in
    let c : get_or front 2 0 ≡ get_or octets 2 0 = get_or-take used octets 2 0 (omega (arith, p.size)) in
    omega (arith, p.size, p.within)

pub is_frame : (peer : Peer) (octets shown seen : List ℕ) (head : Head) (used : ℕ) (outcome : Outcome) → shown ≡ octets → seen ≡ octets → IsWithin octets → StandsFirst largest_frame shown head used
    → Means peer (frame_of head (slice_range seen 9 used)) outcome → IsFrame octets peer outcome
is_frame peer octets shown seen head used outcome e f within p means =
    let all : used ≡ length shown = whole_used shown head used p (subst (λ (o : List ℕ). IsWithin o) (sym e) within) in
    record {
      frame = frame_of head (slice_range shown 9 used);
      spells = subst (λ (o : List ℕ). Spells o (frame_of head (slice_range shown 9 used))) (take_all used shown (omega arith) ∙ e) p.frame;
      allowed = p.allowed;
      means = subst (λ (o : List ℕ). Means peer (frame_of head (slice_range o 9 used)) outcome) (f ∙ sym e) means;
    }

pub failed : (old new : Reader) (shown seen : List ℕ) (head : Head) (used : ℕ) (why : RecvFault) → shown ≡ old.rest → seen ≡ old.rest → IsWithin old.rest → StandsFirst largest_frame shown head used
    → ((code : ℕ) → why ≡ fault.Protocol code → Means old.peer (frame_of head (slice_range seen 9 used)) (Err code)) → Looks old (Err why) new
failed old new shown seen head used (fault.Protocol code) e f within p means = inr (is_frame old.peer old.rest shown seen head used (Err code) e f within p (means code refl))
failed old new shown seen head used fault.NoMemory e f within p means = tt
