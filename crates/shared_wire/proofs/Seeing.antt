-- How a port sees the wire, by what its turn found and added.
use Rattle.std.proofs.Common.{◌≡◌, ℕ, false, List, [], ◌∷◌, ◌++◌, map, refl, sym, ap, ◌∙◌, subst, append-nil}
use Rattle.std.specs.Prelude.{Option, Some}
use Rattle.std.proofs.lemmas.List.{map-append}
use Rattle.h2_events.specs.declared.port.Ready.{Ready}
use Rattle.h2_events.specs.declared.port.Ready.TheVariants as ready
use Rattle.h2_events.specs.declared.port.Took.{Took}
use Rattle.h2_events.specs.declared.port.Took.TheVariants as took
use Rattle.h2_events.specs.declared.said.Said.{Said}
use Rattle.h2_send.specs.Inputs.{Input, Speech}
use Rattle.h2_send.specs.Port.{PortView, Progress, Asks, GoesOn, Offers, Takes, Tries, given_by, ready_in}
use Rattle.shared_wire.specs.Records.{WireRecord, Deed, Gave, GoesOut, Leaves, TookBy, AreRecords, ReadsOn, SaysOn, left_in}
use Rattle.shared_wire.specs.Visits.{DoesInTurn, TakesTurn, VisitView, given_in, given_of}
use Rattle.shared_wire.proofs.Following.{last_is, leaves_last}
use Rattle.shared_wire.proofs.GoingOn.{goes_on_behind}

goes : (seen others : List WireRecord) → AreRecords seen → AreRecords (seen ++ others) → GoesOn (left_in seen) (left_in (seen ++ others))
goes [] others are all = absurd are
goes (first ∷ seen) others are all = goes_on_behind first seen others all

module _ (old new : VisitView) (found added : List WireRecord) (turn : TakesTurn old found added new) where
  found_on : GoesOn (left_in old.seen) (left_in found)
  found_on = subst (λ l. GoesOn (left_in old.seen) (left_in l)) (sym turn.begins.whole) (goes old.seen turn.begins.others turn.has_seen (subst AreRecords turn.begins.whole turn.records))

  seen_is : new.seen ≡ found ++ added
  seen_is = ap (λ (v : VisitView). v.seen) turn.new_is

  seen_same : added ≡ [] → new.seen ≡ found
  seen_same none = seen_is ∙ ap (λ l. found ++ l) none ∙ append-nil found

  -- what was said went out, or closed the wire
  takes_by : (answer : Took) (input : Input) (left : Progress) → GoesOut left.condition input (left_in found) left.output → left.inputs ≡ (left_in found).inputs ++ input ∷ [] → TookBy answer left.condition → Takes answer input (left_in found) left
  takes_by took.Taken input left out grows is = (subst (λ s. GoesOut s input (left_in found) left.output) is out, grows, is)
  takes_by took.WriteFault input left out grows is = (subst (λ s. GoesOut s input (left_in found) left.output) is out, grows, is)
  takes_by took.NoMemory input left out grows is = (subst (λ s. GoesOut s input (left_in found) left.output) is out, grows, is)
  takes_by took.Busy input left out grows never = absurd never
  takes_by took.Gone input left out grows never = absurd never

  takes : (answer : Took) (input : Input) (r : WireRecord) → added ≡ r ∷ [] → r.deed ≡ Gave input → TookBy answer r.left.condition → Takes answer input (left_in found) (left_in new.seen)
  takes answer input r is deed tooks =
      let leaves : Leaves (Gave input) (left_in found) r.left = subst (λ (d : Deed). Leaves d (left_in found) r.left) deed (leaves_last found r turn.records (subst (λ l. AreRecords (found ++ l)) is turn.records_on)) in
      let last : left_in new.seen ≡ r.left = ap left_in (seen_is ∙ ap (λ l. found ++ l) is) ∙ ap (λ (x : WireRecord). x.left) (last_is found r) in
      subst (Takes answer input (left_in found)) (sym last) (takes_by answer input r.left leaves.2 leaves.1 tooks)

  tries : (stream : ℕ) (said : Said) (answer : Took) (d : Ready) → ready_in stream (left_in found) ≡ d → SaysOn stream said answer found added → Tries d answer (Speech stream said) (left_in found) (left_in new.seen)
  tries stream said answer ready.Free is says = let (r, one, tells) = says.free is in takes answer (Speech stream said) r one tells.0 tells.1
  tries stream said answer ready.Busy is says = let (none, busy) = says.busy is in (busy, ap left_in (seen_same none))
  tries stream said answer ready.Gone is says = let (none, gone) = says.gone is in (gone, ap left_in (seen_same none))

pub asks : (stream : ℕ) (answer : Ready) (old new : VisitView) → DoesInTurn (ReadsOn stream answer) old new → Asks false answer stream (left_in old.seen) (left_in new.seen)
asks stream answer old new does =
    let same : new.seen ≡ does.found = seen_same old new does.found does.added does.turn does.does.none in record {
      goes_on = subst (λ l. GoesOn (left_in old.seen) (left_in l)) (sym same) (found_on old new does.found does.added does.turn);
      alone = λ never. absurd cc;
      answers = does.does.is ∙ ap (λ l. ready_in stream (left_in l)) (sym same);
    }

pub offers : (stream : ℕ) (said : Said) (answer : Took) (old new : VisitView) → DoesInTurn (SaysOn stream said answer) old new → Offers false answer stream said (left_in old.seen) (left_in new.seen)
offers stream said answer old new does = record {
  found = left_in does.found;
  goes_on = found_on old new does.found does.added does.turn;
  alone = λ never. absurd cc;
  tries = tries old new does.found does.added does.turn stream said answer (ready_in stream (left_in does.found)) refl does.does;
}

-- what a port counts is no part of its turn
pub counts_were : (Does : List WireRecord → List WireRecord → Type 0) (old mid new : VisitView) (counts : PortView) → new ≡ record mid { counts = counts } → DoesInTurn Does old mid → DoesInTurn Does old (record new { counts = old.counts })
counts_were Does old mid new counts is does =
    let kept : record new { counts = old.counts } ≡ mid = (λ i. record (is i) { counts = old.counts }) ∙ (λ i. record mid { counts = ap (λ (v : VisitView). v.counts) (sym does.turn.new_is) i }) in
    subst (DoesInTurn Does old) (sym kept) does

-- ---- what is given

-- what an offer gave where the stream was free
accepted_given : (stream : ℕ) (said : Said) (answer : Took) (r : WireRecord) → TookBy answer r.left.condition → r.deed ≡ Gave (Speech stream said) → given_of r.deed ∷ [] ≡ given_by answer stream said
accepted_given stream said took.Taken r tooks deed = ap (λ (d : Deed). given_of d ∷ []) deed
accepted_given stream said took.WriteFault r tooks deed = ap (λ (d : Deed). given_of d ∷ []) deed
accepted_given stream said took.NoMemory r tooks deed = ap (λ (d : Deed). given_of d ∷ []) deed
accepted_given stream said took.Busy r never deed = absurd never
accepted_given stream said took.Gone r never deed = absurd never

given_more : (stream : ℕ) (said : Said) (answer : Took) (found added : List WireRecord) (d : Ready) → ready_in stream (left_in found) ≡ d → SaysOn stream said answer found added → given_in added ≡ given_by answer stream said
given_more stream said answer found added ready.Free is says = let (r, one, tells) = says.free is in ap given_in one ∙ accepted_given stream said answer r tells.1 tells.0
given_more stream said answer found added ready.Busy is says = let (none, busy) = says.busy is in ap given_in none ∙ ap (λ (t : Took). given_by t stream said) (sym busy)
given_more stream said answer found added ready.Gone is says = let (none, gone) = says.gone is in ap given_in none ∙ ap (λ (t : Took). given_by t stream said) (sym gone)

pub given_asked : (stream : ℕ) (answer : Ready) (old new : VisitView) → DoesInTurn (ReadsOn stream answer) old new → given_in new.made ≡ given_in old.made
given_asked stream answer old new does =
    ap (λ (v : VisitView). given_in v.made) does.turn.new_is
    ∙ ap (λ (l : List WireRecord). given_in (old.made ++ l)) does.does.none
    ∙ ap given_in (append-nil old.made)

pub given_offered : (stream : ℕ) (said : Said) (answer : Took) (old new : VisitView) → DoesInTurn (SaysOn stream said answer) old new → given_in new.made ≡ given_in old.made ++ given_by answer stream said
given_offered stream said answer old new does =
    ap (λ (v : VisitView). given_in v.made) does.turn.new_is
    ∙ map-append (λ (r : WireRecord). given_of r.deed) old.made does.added
    ∙ ap (λ (l : List (Option Input)). given_in old.made ++ l) (given_more stream said answer does.found does.added (ready_in stream (left_in does.found)) refl does.does)
