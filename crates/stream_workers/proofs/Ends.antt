-- What feeders have done at their end, one more of them.
use Rattle.std.proofs.Common.{◌≡◌, inl, inr, ℕ, List, [], ◌∷◌, ◌++◌, Bool, true, false, map, refl, sym, ap, ◌∙◌, subst, append-nil, append_assoc}
use Rattle.std.specs.Prelude.{Some}
use Rattle.std.proofs.lemmas.Bool.{false≢true}
use Rattle.base_kinds.specs.Schema.{SchemaNode}
use Rattle.book_port.specs.Follows.{Turn}
use Rattle.book_port.specs.Ports.{PortView, CanMeet, Meets, TakesOne, TakesTurns}
use Rattle.h2_events.specs.declared.port.Ready.{Ready}
use Rattle.h2_send.specs.Inputs.{Speech}
use Rattle.shared_wire.specs.Records.{ReadsOn, WireRecord}
use Rattle.shared_wire.specs.Visits.{DoesInTurn, VisitEnd, VisitView, Meets as MeetsVisit, OthersWentOn, end_of, given_in}
use Rattle.stream_worker.specs.Feeds.{Feeds}
use Rattle.stream_worker.specs.declared.job.FeedEnd.{FeedEnd}
use Rattle.sub_plan.specs.declared.plan.Plan.{Plan}
use Rattle.stream_workers.specs.Ports.{StayTheirs}
use Rattle.stream_workers.specs.Feeders.{AllEnd, AreOf, FeedersView, HasEnded, IsOf, IsStarted, Started, ports_at, words_of}

-- ---- feeders of a book and of a wire

pub still_of : (book new_book wire new_wire : List ℕ) (started : List Started) → new_book ≡ book → new_wire ≡ wire → AreOf book wire started → AreOf new_book new_wire started
still_of book new_book wire new_wire started book_is wire_is are =
    subst (λ (name : List ℕ). AreOf name new_wire started) (sym book_is) (subst (λ (name : List ℕ). AreOf book name started) (sym wire_is) are)

pub stay_of : (book new_book : PortView) (wire new_wire : VisitView) (started : List Started) → StayTheirs book new_book wire new_wire → AreOf book.book wire.lock started → AreOf new_book.book new_wire.lock started
stay_of book new_book wire new_wire started stay are =
    still_of book.book new_book.book wire.lock new_wire.lock started (ap (λ (p : PortView). p.book) stay.book_is) (ap (λ (v : VisitView). v.lock) stay.wire_is) are

one_more : (book wire : List ℕ) (started : List Started) (one : Started) → AreOf book wire started → IsOf book wire one → AreOf book wire (started ++ one ∷ [])
one_more book wire [] one are is = (is, tt)
one_more book wire (first ∷ started) one are is = (are.0, one_more book wire started one are.1 is)

pub started_of_more : (stream : ℕ) (plan : Plan) (old new : FeedersView) (book new_book : PortView) (wire new_wire : VisitView) → StayTheirs book new_book wire new_wire → IsStarted stream plan old new book new_book wire new_wire → AreOf book.book wire.lock old.started → AreOf new_book.book new_wire.lock new.started
started_of_more stream plan old new book new_book wire new_wire stay is are =
    let one : Started = record { stream = stream; plan = plan; book = is.book; wire = is.wire } in
    subst (λ (s : List Started). AreOf new_book.book new_wire.lock s) (sym (ap (λ (f : FeedersView). f.started) is.new_is))
    (one_more new_book.book new_wire.lock old.started one (stay_of book new_book wire new_wire old.started stay are) (record {
      book_is = ap (λ (p : PortView). p.book) is.book_twin.twin_is ∙ sym (ap (λ (p : PortView). p.book) is.book_twin.new_is);
      shared = ap (λ (p : PortView). p.is_alone) is.book_twin.twin_is;
      wire_is = ap (λ (v : VisitView). v.lock) is.wire_twin.twin_is ∙ sym (ap (λ (v : VisitView). v.lock) is.wire_twin.new_is);
      none_made = ap (λ (v : VisitView). v.made) is.wire_twin.twin_is;
      none_met = ap (λ (v : VisitView). v.met) is.wire_twin.twin_is;
    }))

-- ---- a feeder that has ended

-- turns leave a port one of the same book
one_taken : (old new : PortView) (turn : Turn) → TakesOne old turn new → (new.book ≡ old.book) × (new.is_alone ≡ old.is_alone)
one_taken old new turn (inl set) = (ap (λ (p : PortView). p.book) set.1.new_is, ap (λ (p : PortView). p.is_alone) set.1.new_is)
one_taken old new turn (inr look) = (ap (λ (p : PortView). p.book) look.1.new_is, ap (λ (p : PortView). p.is_alone) look.1.new_is)

all_taken : (old new : PortView) (turns : List Turn) → TakesTurns old turns new → (new.book ≡ old.book) × (new.is_alone ≡ old.is_alone)
all_taken old new [] is = (ap (λ (p : PortView). p.book) is, ap (λ (p : PortView). p.is_alone) is)
all_taken old new (turn ∷ turns) is =
    let first = one_taken old is.0 turn is.1 in
    let later = all_taken is.0 new turns is.2 in
    (later.0 ∙ first.0, later.1 ∙ first.1)

abbrev first_of : List ℕ → ℕ
first_of [] = 0
first_of (n ∷ ns) = n

abbrev others_of : List ℕ → List ℕ
others_of [] = []
others_of (n ∷ ns) = ns

abbrev is_none : List ℕ → Bool
is_none [] = true
is_none (n ∷ ns) = false

none_of : (ends : List VisitEnd) → map (λ (one : VisitEnd). one.author) ends ≡ [] → ends ≡ []
none_of [] is = refl
none_of (one ∷ ends) is = absurd (false≢true (ap is_none is))

module _ (schema : List SchemaNode) (started : Started) (end : FeedEnd) (book : PortView) (wire : VisitView)
    (feeds : Feeds schema started.stream started.plan end (ports_at started.book started.wire) (ports_at book wire)) where
  pub can_meet : (port : PortView) (lock : List ℕ) → port.is_alone ≡ false → IsOf port.book lock started → CanMeet port book
  can_meet port lock shared is =
      let taken = all_taken started.book book feeds.turns feeds.looks.taken in
      record { book = taken.0 ∙ is.book_is; shared = shared; other_shared = taken.1 ∙ is.shared }

  met_none : started.wire.met ≡ [] → wire.met ≡ []
  met_none none = none_of wire.met (ap others_of feeds.speaks.authors ∙ ap (λ (ends : List VisitEnd). map (λ (one : VisitEnd). one.author) ends) none)

  -- The port was asked how a stream stands.
  module _ (on : ℕ) (ready : Ready) (visit : VisitView) (asked : DoesInTurn (ReadsOn on ready) wire visit) where
    found_is : visit.seen ≡ asked.found
    found_is = ap (λ (v : VisitView). v.seen) asked.turn.new_is ∙ ap (λ (rs : List WireRecord). asked.found ++ rs) asked.does.none ∙ append-nil asked.found

    visit_is : visit ≡ record wire { seen = visit.seen; finds = wire.finds ++ visit.seen ∷ [] }
    visit_is =
        asked.turn.new_is
        ∙ ap (λ (rs : List WireRecord). record wire { seen = asked.found ++ rs; finds = wire.finds ++ asked.found ∷ []; made = wire.made ++ rs }) asked.does.none
        ∙ ap (λ (rs : List WireRecord). record wire { seen = rs; finds = wire.finds ++ asked.found ∷ []; made = wire.made ++ [] }) (append-nil asked.found)
        ∙ ap (λ (rs : List WireRecord). record wire { seen = asked.found; finds = wire.finds ++ asked.found ∷ []; made = rs }) (append-nil wire.made)
        ∙ ap (λ (rs : List WireRecord). record wire { seen = rs; finds = wire.finds ++ rs ∷ [] }) (sym found_is)

    author_is : visit.author ≡ wire.author
    author_is = ap (λ (v : VisitView). v.author) visit_is

    visit_met : started.wire.met ≡ [] → visit.met ≡ []
    visit_met none = ap (λ (v : VisitView). v.met) visit_is ∙ met_none none

    pub has_lock : (port lock : List ℕ) → IsOf port lock started → visit.lock ≡ lock
    has_lock port lock is = ap (λ (v : VisitView). v.lock) visit_is ∙ feeds.speaks.connection ∙ is.wire_is

    pub one_ended : (book_name lock : List ℕ) → IsOf book_name lock started → HasEnded schema started
        (record { stream = started.stream; plan = started.plan; end = end; from = ports_at started.book started.wire; to = ports_at book wire }) visit
    one_ended book_name lock is = record {
      stream = refl;
      plan = refl;
      from = refl;
      feeds = feeds;
      last = wire;
      last_is = refl;
      records = asked.turn.has_seen;
      went_on = subst (λ (n : ℕ). OthersWentOn n wire.seen visit.seen) (sym author_is) (subst (OthersWentOn wire.author wire.seen) (sym found_is) asked.turn.begins);
      visit_is = visit_is;
      author = author_is ∙ ap first_of feeds.speaks.authors;
      none_met = visit_met is.none_met;
      made = ap (λ (v : VisitView). given_in v.made) visit_is
          ∙ feeds.speaks.given
          ∙ ap (λ (rs : List WireRecord). given_in rs ++ map (λ word. Some (Speech started.stream word)) (words_of feeds)) is.none_made;
    }

    -- and behind it the others
    pub one_ends : (others : List Started) (old_book mid_book new_book : PortView) (old_wire mid_wire new_wire : VisitView) → IsOf old_book.book old_wire.lock started → Meets old_book book mid_book → MeetsVisit old_wire visit mid_wire
        → AllEnd schema others mid_book mid_wire new_book new_wire → AllEnd schema (started ∷ others) old_book old_wire new_book new_wire
    one_ends others old_book mid_book new_book old_wire mid_wire new_wire is meets visit_meets all = record {
      feeders = record { stream = started.stream; plan = started.plan; end = end; from = ports_at started.book started.wire; to = ports_at book wire } ∷ all.feeders;
      visits = visit ∷ all.visits;
      ended = (one_ended old_book.book old_wire.lock is, all.ended);
      books = (mid_book, meets, all.books);
      wires = (mid_wire, visit_meets, all.wires);
      met = all.met
          ∙ ap (λ (ends : List VisitEnd). ends ++ map end_of all.visits) (ap (λ (v : VisitView). v.met) visit_meets.new_is
          ∙ ap (λ (ends : List VisitEnd). old_wire.met ++ end_of visit ∷ ends) (visit_met is.none_met))
          ∙ append_assoc old_wire.met (end_of visit ∷ []) (map end_of all.visits);
    }

pub ends_under : (schema under : List SchemaNode) (started : Started) (end : FeedEnd) (book : PortView) (wire : VisitView) → Feeds under started.stream started.plan end (ports_at started.book started.wire) (ports_at book wire) → under ≡ schema
    → (on : ℕ) (ready : Ready) (visit : VisitView) → DoesInTurn (ReadsOn on ready) wire visit
    → (others : List Started) (old_book mid_book new_book : PortView) (old_wire mid_wire new_wire : VisitView) → IsOf old_book.book old_wire.lock started → Meets old_book book mid_book → MeetsVisit old_wire visit mid_wire
    → AllEnd schema others mid_book mid_wire new_book new_wire → AllEnd schema (started ∷ others) old_book old_wire new_book new_wire
ends_under schema under started end book wire feeds is on ready visit asked others old_book mid_book new_book old_wire mid_wire new_wire its meets visit_meets all =
    one_ends schema started end book wire (subst (λ (s : List SchemaNode). Feeds s started.stream started.plan end (ports_at started.book started.wire) (ports_at book wire)) is feeds) on ready visit asked
    others old_book mid_book new_book old_wire mid_wire new_wire its meets visit_meets all

pub none_end : (schema : List SchemaNode) (book : PortView) (wire : VisitView) → AllEnd schema [] book wire book wire
none_end schema book wire = record {
  feeders = [];
  visits = [];
  ended = (refl, refl);
  books = refl;
  wires = refl;
  met = sym (append-nil wire.met);
}
