-- What is said at a port of a wire, and counted there.
use Rattle.std.proofs.Common.{◌≡◌, ◌⊎◌, inl, inr, ℕ, zero, suc, ◌+◌, ◌-◌, ◌^◌, ◌≤◌, ◌==◌, ◌<◌, min, if◌then◌else◌, Bool, true, false, IsTrue, List, [], ◌∷◌, ◌++◌, map, refl, sym, ap, ◌∙◌, subst, append-nil, append_assoc, arith}
use Rattle.std.proofs.lemmas.List.{map-append}
use Rattle.std.specs.Prelude.{Option, Some}
use Rattle.h2_events.specs.Items.{said_by}
use Rattle.h2_events.specs.declared.said.Piece.{Piece}
use Rattle.h2_events.specs.declared.said.Said.{Said}
use Rattle.h2_events.specs.declared.port.Took.{Took}
use Rattle.h2_events.specs.declared.port.Took.TheVariants as took
use Rattle.h2_events.specs.declared.port.Ready.{Ready}
use Rattle.h2_events.specs.declared.port.Ready.TheVariants as ready
use Rattle.h2_send.specs.Conditions.{IsClosed}
use Rattle.h2_send.specs.declared.condition.Condition.{Condition}
use Rattle.h2_send.specs.declared.condition.Condition.TheVariants as condition
use Rattle.h2_send.proofs.Offered.{gone_then, fault_then, starved_then, all_gone}
use Rattle.h2_send.specs.Inputs.{Input, Speech}
use Rattle.h2_send.specs.Port.{Offers, ready_in, PortView, Progress, said_so_far, accepted_by, given_by, once_more, with_taken, noted, asked}
use Rattle.stream_worker.specs.Wires.{WireView, last_count, IsBusied, SpeaksOn}
use Rattle.stream_worker.specs.inner.Steps.{frees_in, pieces_in, lost_in, HasAsked, HasOffered}

-- ---- counts

asks_once : (frees offers from_frees from_offers turns : ℕ) → frees + from_offers ≤ from_frees + turns + offers + 0
    → min (frees + 1) (2 ^ 64 - 1) + from_offers ≤ from_frees + turns + offers + 1
asks_once frees offers from_frees from_offers turns le = omega (arith, le)

busied_asked : (turns : ℕ) (answer : Ready) (from mid : PortView) → IsBusied 0 turns from mid → IsBusied (frees_in answer) turns from (asked answer mid)
busied_asked turns ready.Free from mid (inl last) = inl last
busied_asked turns ready.Free from mid (inr le) = inr (asks_once mid.frees mid.offers from.frees from.offers turns le)
busied_asked turns ready.Busy from mid busied = busied
busied_asked turns ready.Gone from mid busied = busied

lt_or_le : (n m : ℕ) → (n < m) ⊎ (m ≤ n)
lt_or_le zero zero = inr (omega arith)
lt_or_le zero (suc m) = inl (omega arith)
lt_or_le (suc n) zero = inr (omega arith)
lt_or_le (suc n) (suc m) = up (lt_or_le n m)
  where
    up : (n < m) ⊎ (m ≤ n) → (suc n < suc m) ⊎ (suc m ≤ suc n)
    up (inl lt) = inl (omega (arith, lt))
    up (inr le) = inr (omega (arith, le))

offers_once : (frees offers from_frees from_offers turns : ℕ) → (offers ≡ last_count) ⊎ (frees + from_offers ≤ from_frees + turns + offers + 1)
    → (offers < last_count) ⊎ (last_count ≤ offers)
    → (once_more offers ≡ last_count) ⊎ (frees + from_offers ≤ from_frees + turns + once_more offers + 0)
offers_once frees offers from_frees from_offers turns busied (inr most) = inl (omega (arith, most))
offers_once frees offers from_frees from_offers turns (inl last) (inl less) = inl (omega (arith, last))
offers_once frees offers from_frees from_offers turns (inr le) (inl less) = inr (omega (arith, le, less))

busied_offered : (turns : ℕ) (answer : Took) (given : ℕ × Piece) (from mid : PortView) → IsBusied 1 turns from mid → IsBusied 0 turns from (noted answer given mid)
busied_offered turns answer given from mid busied = offers_once mid.frees mid.offers from.frees from.offers turns busied (lt_or_le mid.offers last_count)

pub busied_turned : (turns : ℕ) (from to : PortView) → IsBusied 1 turns from to → IsBusied 0 (turns + 1) from to
busied_turned turns from to (inl last) = inl last
busied_turned turns from to (inr le) = inr (omega (arith, le))

-- ---- what is said

nothing_more : {T : Type 0} (test : Bool) (start : List T) → start ++ (if test then [] else []) ≡ start
nothing_more true start = append-nil start
nothing_more false start = append-nil start

both : {T : Type 0} (test : Bool) (start first second : List T)
    → (start ++ (if test then first else [])) ++ (if test then second else []) ≡ start ++ (if test then first ++ second else [])
both true start first second = append_assoc start first second
both false start first second = append_assoc start [] []

-- ---- a question and an offer

pub speaks_asked : (stream turns : ℕ) (answer : Ready) (from mid to : WireView) (pieces : List Piece)
    → SpeaksOn stream 0 turns from pieces [] mid → HasAsked answer mid to → SpeaksOn stream (frees_in answer) turns from pieces [] to
speaks_asked stream turns answer from mid to pieces speaks asks = record {
  taken = ap (λ (c : PortView). c.taken) asks.counts ∙ taken_stays answer ∙ speaks.taken;
  connection = asks.connection ∙ speaks.connection;
  authors = asks.authors ∙ speaks.authors;
  owns = asks.owns ∙ speaks.owns;
  given = asks.given ∙ speaks.given;
  says = λ other own. asks.says other (subst (λ (owns : ℕ → Bool). IsTrue (owns other)) (sym speaks.owns) own) ∙ speaks.says other own;
  busied = subst (λ (c : PortView). IsBusied (frees_in answer) turns from.counts c) (sym asks.counts) (busied_asked turns answer from.counts mid.counts speaks.busied);
}
  where
    taken_stays : (a : Ready) → (asked a mid.counts).taken ≡ mid.counts.taken
    taken_stays ready.Free = refl
    taken_stays ready.Busy = refl
    taken_stays ready.Gone = refl

taken_more : (answer : Took) (stream : ℕ) (piece : Piece) (all : List (ℕ × Piece))
    → with_taken answer (stream, piece) all ≡ all ++ map (λ (p : Piece). (stream, p)) (pieces_in answer piece)
taken_more took.Taken stream piece all = refl
taken_more took.Busy stream piece all = sym (append-nil all)
taken_more took.Gone stream piece all = sym (append-nil all)
taken_more took.WriteFault stream piece all = sym (append-nil all)
taken_more took.NoMemory stream piece all = sym (append-nil all)

accepted_is : (answer : Took) (piece : Piece) (before : List Piece)
    → map said_by before ++ accepted_by answer (said_by piece) ≡ map said_by (before ++ pieces_in answer piece) ++ lost_in answer piece
accepted_is took.Taken piece before = sym (append-nil _ ∙ map-append said_by before (piece ∷ []))
accepted_is took.Busy piece before = sym (append-nil _ ∙ map-append said_by before [])
accepted_is took.Gone piece before = sym (append-nil _ ∙ map-append said_by before [])
accepted_is took.WriteFault piece before = ap (λ (l : List Piece). map said_by l ++ said_by piece ∷ []) (sym (append-nil before))
accepted_is took.NoMemory piece before = ap (λ (l : List Piece). map said_by l ++ said_by piece ∷ []) (sym (append-nil before))

pub speaks_offered : (stream turns : ℕ) (answer : Took) (piece : Piece) (from mid to : WireView) (pieces : List Piece)
    → SpeaksOn stream 1 turns from pieces [] mid → HasOffered stream answer piece mid to
    → SpeaksOn stream 0 turns from (pieces ++ pieces_in answer piece) (lost_in answer piece) to
speaks_offered stream turns answer piece from mid to pieces speaks offers = record {
  taken = ap (λ (c : PortView). c.taken) offers.counts ∙ taken_more answer stream piece mid.counts.taken
      ∙ ap (λ (l : List (ℕ × Piece)). l ++ map on (pieces_in answer piece)) speaks.taken
      ∙ append_assoc from.counts.taken (map on pieces) (map on (pieces_in answer piece))
      ∙ ap (λ (l : List (ℕ × Piece)). from.counts.taken ++ l) (sym (map-append on pieces (pieces_in answer piece)));
  connection = offers.connection ∙ speaks.connection;
  authors = offers.authors ∙ speaks.authors;
  owns = offers.owns ∙ speaks.owns;
  given = offers.given
      ∙ ap (λ (l : List (Option Input)). l ++ given_by answer stream (said_by piece)) speaks.given
      ∙ append_assoc from.given (map so (map said_by pieces ++ [])) (map so (accepted_by answer (said_by piece)))
      ∙ ap (λ (l : List (Option Input)). from.given ++ l) (sym (map-append so (map said_by pieces ++ []) (accepted_by answer (said_by piece))))
      ∙ ap (λ (w : List Said). from.given ++ map so (w ++ accepted_by answer (said_by piece))) (append-nil (map said_by pieces))
      ∙ ap (λ (w : List Said). from.given ++ map so w) (accepted_is answer piece pieces);
  says = λ other own. offers.says other (subst (λ (owns : ℕ → Bool). IsTrue (owns other)) (sym speaks.owns) own)
      ∙ ap (λ (l : List Said). l ++ (if stream == other then accepted_by answer (said_by piece) else [])) (speaks.says other own)
      ∙ ap (λ (w : List Said). (said_so_far other from.progress ++ (if stream == other then w else [])) ++ (if stream == other then accepted_by answer (said_by piece) else [])) (append-nil (map said_by pieces))
      ∙ both (stream == other) (said_so_far other from.progress) (map said_by pieces) (accepted_by answer (said_by piece))
      ∙ ap (λ (w : List Said). said_so_far other from.progress ++ (if stream == other then w else [])) (accepted_is answer piece pieces);
  busied = subst (λ (c : PortView). IsBusied 0 turns from.counts c) (sym offers.counts) (busied_offered turns answer (stream, piece) from.counts mid.counts speaks.busied);
}
  where
    on : Piece → ℕ × Piece
    on p = (stream, p)

    so : Said → Option Input
    so word = Some (Speech stream word)

pub speaks_turned : (stream turns : ℕ) (from to : WireView) (pieces : List Piece) → SpeaksOn stream 1 turns from pieces [] to → SpeaksOn stream 0 (turns + 1) from pieces [] to
speaks_turned stream turns from to pieces speaks = record {
  taken = speaks.taken;
  connection = speaks.connection;
  authors = speaks.authors;
  owns = speaks.owns;
  given = speaks.given;
  says = speaks.says;
  busied = busied_turned turns from.counts to.counts speaks.busied;
}

pub speaks_begin : (stream : ℕ) (from : WireView) → SpeaksOn stream 0 0 from [] [] from
speaks_begin stream from = record {
  taken = sym (append-nil from.counts.taken);
  connection = refl;
  authors = refl;
  owns = refl;
  given = sym (append-nil from.given);
  says = λ other own. sym (nothing_more (stream == other) (said_so_far other from.progress));
  busied = inr (omega arith);
}

-- ---- what an offer tells of the stream

pub offers_gone : (is_alone : Bool) (stream : ℕ) (word : Said) (old new : Progress) → Offers is_alone took.Gone stream word old new → ready_in stream new ≡ ready.Gone
offers_gone is_alone stream word old new o = gone_then stream word o.found new (ready_in stream o.found) refl o.tries

pub fault_closes : (is_alone : Bool) (stream : ℕ) (word : Said) (old new : Progress) → Offers is_alone took.WriteFault stream word old new → IsClosed new.condition
fault_closes is_alone stream word old new o =
    subst (λ (c : Condition). IsClosed c) (sym ((fault_then stream word o.found new (ready_in stream o.found) o.tries).0)) tt

pub fault_gone : (is_alone : Bool) (stream : ℕ) (word : Said) (old new : Progress) → Offers is_alone took.WriteFault stream word old new → ready_in stream new ≡ ready.Gone
fault_gone is_alone stream word old new o = all_gone condition.WriteFault new stream tt ((fault_then stream word o.found new (ready_in stream o.found) o.tries).0)

pub memory_closes : (is_alone : Bool) (stream : ℕ) (word : Said) (old new : Progress) → Offers is_alone took.NoMemory stream word old new → IsClosed new.condition
memory_closes is_alone stream word old new o =
    subst (λ (c : Condition). IsClosed c) (sym (starved_then stream word o.found new (ready_in stream o.found) o.tries)) tt

pub memory_gone : (is_alone : Bool) (stream : ℕ) (word : Said) (old new : Progress) → Offers is_alone took.NoMemory stream word old new → ready_in stream new ≡ ready.Gone
memory_gone is_alone stream word old new o = all_gone condition.NoMemory new stream tt (starved_then stream word o.found new (ready_in stream o.found) o.tries)
