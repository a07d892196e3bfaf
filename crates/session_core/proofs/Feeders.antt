-- What feeders said on the streams of their calls, once all of them have ended.
use Rattle.std.proofs.Common.{◌≡◌, ◌≢◌, ◌⊎◌, inl, inr, ℕ, ◌==◌, List, [], ◌∷◌, ◌++◌, Bool, true, false, cond, map, refl, sym, ap, ◌∙◌, subst, eq-eqb, eqb-true}
use Rattle.std.specs.Prelude.{◌||◌, Option, Some, None, Ok}
use Rattle.std.specs.List.{AllByRecursion}
use Rattle.std.proofs.lemmas.Bool.{false≢true, or_left, or_right}
use Rattle.std.proofs.lemmas.List.{map-append}
use mathlib.Core.Logic.{dite}
use native.Mathlib.Decide.{ℕ_discrete}
use Rattle.base_kinds.specs.declared.entry.Entry.{Entry}
use Rattle.base_kinds.specs.Schema.{SchemaNode}
use Rattle.book_port.specs.Opened.{Opened}
use Rattle.book_port.specs.Ports.{PortView}
use Rattle.h2_events.specs.declared.event.RecvEvent.{RecvEvent}
use Rattle.h2_events.specs.declared.said.Said.{Said}
use Rattle.h2_events.specs.Items.{Item, Read, heard, said_on}
use Rattle.h2_events.specs.Items as item
use Rattle.h2_frame.specs.Frames.{Frame}
use Rattle.h2_events.proofs.Orders.{said_on-append}
use Rattle.h2_streams.specs.Calls.{Moment, events_of, reads_of}
use Rattle.h2_streams.specs.Calls as calls
use Rattle.h2_send.specs.Accepting.{IsOpenedOnce}
use Rattle.h2_send.specs.Inputs.{Input, Event, Speech, item_of}
use Rattle.h2_send.specs.Lines.{first_line}
use Rattle.h2_send.specs.Orders.{order_of}
use Rattle.h2_send.specs.Port.{Progress}
use Rattle.h2_send.proofs.Orders.{said_again}
use Rattle.request_desk.specs.declared.subscribe_steps.SubscribeStep.TheVariants.{Begin}
use Rattle.grpc_requests.specs.declared.request.Request.{Request}
use Rattle.grpc_requests.specs.Requests.{requests}
use Rattle.shared_wire.specs.Records.{Deed as WireDeed, Began, Gave, Refused, Ended, Starved, AreRecords, WireRecord, left_in, record_author}
use Rattle.shared_wire.specs.Visits.{AreOfThese, HasJustMade, IsOfOne, VisitEnd, VisitView, end_of, first_records, given_in, given_of}
use Rattle.shared_wire.proofs.Owning.{all_of}
use Rattle.stream_worker.specs.Feeds.{Feeds, Ports}
use Rattle.sub_plan.specs.declared.plan.Plan.{Plan}
use Rattle.turn_lock.specs.Chronicles.{entries_by}
use Rattle.turn_lock.proofs.Counts.{by_hit, by_miss}
use Rattle.stream_workers.specs.Feeders.{AllEnd, Feeder, HasEnded, HaveEnded, MeetsVisits, Started, is_fed, streams_of, words_of}
use Rattle.stream_workers.specs.Ports.{IsUnused}
use Rattle.session_core.specs.declared.waiting.Waiting.{Waiting}
use Rattle.session_core.specs.Deeds.{AreDone, Deed, Service, handed_in, requests_in, said_to, turns_in}
use Rattle.session_core.specs.FeederRuns.{IsNewPort, ServesCall}
use Rattle.session_core.specs.Feeding.{left_last}
use Rattle.session_core.specs.Serving.{Course, Start, deeds_in, first_service, service_of, without_fed}
use Rattle.session_core.specs.inner.Feeders.{HasFeeders, IsHandedBy, IsServedBeside, FeederState, is_told, book_of}
use Rattle.session_core.specs.inner.Sending.{spoken}
use Rattle.session_core.proofs.Fronts.{HasSeenFront, IsAtFront, all_see, begun_with, fronts_of, gave_by, gave_in, inputs_behind}
use Rattle.session_core.proofs.Keeping.{all_both, all_last}
use Rattle.session_core.proofs.Serving.{same_events}
use Rattle.session_core.proofs.Silence.{AreDifferent, handed_differ, handed_silent}

-- ---- lists

pub all_zip : {X : Type 0} (P Q R : X → Type 0) → ((x : X) → P x → Q x → R x) → (xs : List X) → AllByRecursion P xs → AllByRecursion Q xs → AllByRecursion R xs
all_zip P Q R f [] p q = tt
all_zip P Q R f (x ∷ xs) p q = (f x p.0 q.0, all_zip P Q R f xs p.1 q.1)

-- ---- what they say on a stream

spoken_one : (s : ℕ) (deed : WireDeed) (rs : List WireRecord) → said_on s (map item_of (gave_in rs)) ≡ spoken s (given_in rs) → said_on s (map item_of (gave_by deed ++ gave_in rs)) ≡ spoken s (given_of deed ∷ given_in rs)
spoken_one s Began rs is = is
spoken_one s (Gave (Event e)) rs is = is
spoken_one s (Gave (Speech on said)) rs is = ap (λ (t : List Said). cond (on == s) (said ∷ t) t) is
spoken_one s (Refused input) rs is = is
spoken_one s (Ended code) rs is = is
spoken_one s (Starved input) rs is = is

spoken_all : (s : ℕ) (rs : List WireRecord) → said_on s (map item_of (gave_in rs)) ≡ spoken s (given_in rs)
spoken_all s [] = refl
spoken_all s (r ∷ rs) = spoken_one s r.deed rs (spoken_all s rs)

pub said_behind : (s : ℕ) (first more : List Input) → said_on s (order_of (first ++ more)) ≡ said_on s (order_of first) ++ said_on s (map item_of more)
said_behind s first more =
    said_again s first_line (first ++ more) ∙ ap (said_on s) (map-append item_of first more) ∙ said_on-append s (map item_of first) (map item_of more)
    ∙ ap (λ (t : List Said). t ++ said_on s (map item_of more)) (sym (said_again s first_line first))

-- On each stream it said what it had said before it was put behind its lock, and what the records say.
pub wire_said : (s : ℕ) (all : List WireRecord) → AreRecords all → said_on s (order_of (left_in all).inputs) ≡ said_on s (order_of (begun_with all)) ++ spoken s (given_in all)
wire_said s [] are = absurd are
wire_said s (first ∷ rs) are =
    let began : spoken s (given_in (first ∷ rs)) ≡ spoken s (given_in rs) = ap (λ (d : WireDeed). spoken s (given_of d ∷ given_in rs)) are.0 in
    ap (λ (is : List Input). said_on s (order_of is)) (inputs_behind first rs are.2) ∙ said_behind s first.left.inputs (gave_in rs)
    ∙ ap (λ (t : List Said). said_on s (order_of first.left.inputs) ++ t) (spoken_all s rs ∙ sym began)

-- ---- records of one author

-- it says nothing on the stream
abbrev IsQuiet : ℕ → WireRecord → Type 0
IsQuiet s r = spoken s (given_of r.deed ∷ []) ≡ []

abbrev AreQuiet : ℕ → List WireRecord → Type 0
AreQuiet s rs = AllByRecursion (IsQuiet s) rs

first_if : (b : Bool) (said : Said) (rest : List Said) → cond b (said ∷ rest) rest ≡ cond b (said ∷ []) [] ++ rest
first_if true said rest = refl
first_if false said rest = refl

spoken_first : (s : ℕ) (given : Option Input) (done : List (Option Input)) → spoken s (given ∷ done) ≡ spoken s (given ∷ []) ++ spoken s done
spoken_first s None done = refl
spoken_first s (Some (Event e)) done = refl
spoken_first s (Some (Speech on said)) done = first_if (on == s) said (spoken s done)

-- where all others say nothing on the stream
spoken_by : (s n : ℕ) (rs : List WireRecord) → AllByRecursion (λ (r : WireRecord). r.author ≢ n → IsQuiet s r) rs → spoken s (given_in rs) ≡ spoken s (given_in (entries_by record_author n rs))
spoken_by s n [] others = refl
spoken_by s n (r ∷ rs) others =
    let rest = spoken_by s n rs others.1 in
    let own = entries_by record_author n rs in
    spoken_first s (given_of r.deed) (given_in rs)
    ∙ dite (ℕ_discrete r.author n)
    (λ is. ap (λ (t : List Said). spoken s (given_of r.deed ∷ []) ++ t) rest ∙ sym (spoken_first s (given_of r.deed) (given_in own)) ∙ ap (λ (es : List WireRecord). spoken s (given_in es)) (sym (by_hit record_author n r rs is)))
    (λ ne. ap (λ (t : List Said). t ++ spoken s (given_in rs)) (others.0 ne) ∙ rest ∙ ap (λ (es : List WireRecord). spoken s (given_in es)) (sym (by_miss record_author n r rs ne)))

-- what holds of all that an author made holds of each record of its
each_by : (P : WireRecord → Type 0) (n : ℕ) (rs : List WireRecord) → AllByRecursion P (entries_by record_author n rs) → AllByRecursion (λ (r : WireRecord). r.author ≡ n → P r) rs
each_by P n [] all = tt
each_by P n (r ∷ rs) all = dite (ℕ_discrete r.author n)
    (λ is. let both = subst (AllByRecursion P) (by_hit record_author n r rs is) all in ((λ _. both.0), each_by P n rs both.1))
    (λ ne. ((λ is. absurd (ne is)), each_by P n rs (subst (AllByRecursion P) (by_miss record_author n r rs ne) all)))

-- ---- all ports of the wire

-- it is this author's, or says nothing on the stream
abbrev SaysApart : ℕ → ℕ → VisitEnd → Type 0
SaysApart s n visit = (visit.author ≡ n) ⊎ AreQuiet s visit.made

abbrev SayApart : ℕ → ℕ → List VisitEnd → Type 0
SayApart s n visits = AllByRecursion (SaysApart s n) visits

module _ (s n : ℕ) (rs : List WireRecord) where
  -- a record of one of these ports, where it isn't this author's
  abbrev IsQuietOf : List VisitEnd → WireRecord → Type 0
  IsQuietOf visits r = IsOfOne visits r → r.author ≢ n → IsQuiet s r

  abbrev IsQuietBy : VisitEnd → WireRecord → Type 0
  IsQuietBy visit r = r.author ≡ visit.author → r.author ≢ n → IsQuiet s r

  of_none : (these : List WireRecord) → AllByRecursion (IsQuietOf []) these
  of_none [] = tt
  of_none (r ∷ these) = ((λ is. absurd is), of_none these)

  all_own : (visit : VisitEnd) → visit.author ≡ n → (these : List WireRecord) → AllByRecursion (IsQuietBy visit) these
  all_own visit own [] = tt
  all_own visit own (r ∷ these) = ((λ is ne. absurd (ne (is ∙ own))), all_own visit own these)

  more_quiet : (visit : VisitEnd) (these : List WireRecord) → AllByRecursion (λ (r : WireRecord). r.author ≡ visit.author → IsQuiet s r) these → AllByRecursion (IsQuietBy visit) these
  more_quiet visit [] all = tt
  more_quiet visit (r ∷ these) all = ((λ is ne. all.0 is), more_quiet visit these all.1)

  one_visit : (visit : VisitEnd) → HasJustMade rs visit → SaysApart s n visit → AllByRecursion (IsQuietBy visit) rs
  one_visit visit has (inl own) = all_own visit own rs
  one_visit visit has (inr quiet) = more_quiet visit rs (each_by (IsQuiet s) visit.author rs (subst (AreQuiet s) (sym (all_of rs visit has)) quiet))

  either : (visit : VisitEnd) (visits : List VisitEnd) (r : WireRecord) → IsQuietBy visit r → IsQuietOf visits r → IsQuietOf (visit ∷ visits) r
  either visit visits r first rest (inl is) = first is
  either visit visits r first rest (inr is) = rest is

  all_visits : (visits : List VisitEnd) → AllByRecursion (HasJustMade rs) visits → SayApart s n visits → AllByRecursion (IsQuietOf visits) rs
  all_visits [] has apart = of_none rs
  all_visits (visit ∷ visits) has apart =
      all_zip (IsQuietBy visit) (IsQuietOf visits) (IsQuietOf (visit ∷ visits)) (either visit visits) rs (one_visit visit has.0 apart.0) (all_visits visits has.1 apart.1)

others_quiet : (s n : ℕ) (all : List WireRecord) (visits : List VisitEnd) → AreRecords all → AreOfThese visits all → AllByRecursion (IsQuietOf s n all visits) all → AllByRecursion (λ (r : WireRecord). r.author ≢ n → IsQuiet s r) all
others_quiet s n [] visits are of quiet = tt
others_quiet s n (first ∷ rs) visits are of quiet = (
  (λ ne. ap (λ (d : WireDeed). spoken s (given_of d ∷ [])) are.0),
  all_zip (IsOfOne visits) (IsQuietOf s n (first ∷ rs) visits) (λ (r : WireRecord). r.author ≢ n → IsQuiet s r) (λ r is so. so is) rs of quiet.1,
)

-- What is said on a stream by all records is what one port says there, where no other port says anything there.
pub one_speaks : (s : ℕ) (all : List WireRecord) (visits : List VisitEnd) (one : VisitEnd) → AreRecords all → AreOfThese visits all → AllByRecursion (HasJustMade all) visits → HasJustMade all one → SayApart s one.author visits
    → spoken s (given_in all) ≡ spoken s (given_in one.made)
one_speaks s all visits one are of has has_one apart =
    spoken_by s one.author all (others_quiet s one.author all visits are of (all_visits s one.author all visits has apart))
    ∙ ap (λ (rs : List WireRecord). spoken s (given_in rs)) (all_of all one has_one)

-- ---- the words of a feeder

abbrev first_given : List (Option Input) → Option Input
first_given [] = None
first_given (one ∷ others) = one

abbrev others_given : List (Option Input) → List (Option Input)
others_given [] = []
others_given (one ∷ others) = others

abbrev is_nothing : List (Option Input) → Bool
is_nothing [] = true
is_nothing (one ∷ others) = false

-- those of another stream
words_apart : (s on : ℕ) (made : List WireRecord) (words : List Said) → (on == s) ≡ false → given_in made ≡ map (λ word. Some (Speech on word)) words → AreQuiet s made
words_apart s on [] words off is = tt
words_apart s on (r ∷ made) [] off is = absurd (false≢true (ap is_nothing is))
words_apart s on (r ∷ made) (word ∷ words) off is = (
  ap (λ (given : Option Input). spoken s (given ∷ [])) (ap first_given is) ∙ ap (λ (b : Bool). cond b (word ∷ []) []) off,
  words_apart s on made words off (ap others_given is),
)

-- and its own
words_there : (s : ℕ) (words : List Said) → spoken s (map (λ word. Some (Speech s word)) words) ≡ words
words_there s [] = refl
words_there s (word ∷ words) =
    let rest = spoken s (map (λ w. Some (Speech s w)) words) in
    ap (λ (b : Bool). cond b (word ∷ rest) rest) (eq-eqb s s refl) ∙ ap (λ (t : List Said). word ∷ t) (words_there s words)

none_given : (s : ℕ) (made : List WireRecord) → spoken s (given_in made) ≡ [] → AreQuiet s made
none_given s [] none = tt
none_given s (r ∷ made) none =
    let parts = none_both (spoken s (given_of r.deed ∷ [])) (spoken s (given_in made)) (sym (spoken_first s (given_of r.deed) (given_in made)) ∙ none) in
    (parts.0, none_given s made parts.1)
  where
    none_both : (xs ys : List Said) → xs ++ ys ≡ [] → (xs ≡ []) × (ys ≡ [])
    none_both [] ys is = (refl, is)
    none_both (x ∷ xs) ys is = absurd cc

-- ---- all feeders

other_way : (a b : ℕ) → (a == b) ≡ false → (b == a) ≡ false
other_way a b off = by_test (b == a) refl where
  by_test : (t : Bool) → (b == a) ≡ t → t ≡ false
  by_test true is = absurd (false≢true (sym off ∙ eq-eqb a b (sym (eqb-true b a is))))
  by_test false is = refl

-- the streams are those of the calls for which they were started
pub same_streams : (schema : List SchemaNode) (started : List Started) (feeders : List Feeder) (visits : List VisitView) → HaveEnded schema started feeders visits → streams_of feeders ≡ map (λ (one : Started). one.stream) started
same_streams schema [] feeders visits ended = ap streams_of ended.0
same_streams schema (one ∷ started) [] visits ended = absurd ended
same_streams schema (one ∷ started) (feeder ∷ feeders) [] ended = absurd ended
same_streams schema (one ∷ started) (feeder ∷ feeders) (visit ∷ visits) ended =
    ap (λ (s : ℕ). s ∷ streams_of feeders) ended.0.stream ∙ ap (λ (streams : List ℕ). one.stream ∷ streams) (same_streams schema started feeders visits ended.1)

-- none of these feeders says anything on another stream
all_apart : (schema : List SchemaNode) (s n : ℕ) (started : List Started) (feeders : List Feeder) (visits : List VisitView) → HaveEnded schema started feeders visits → AllByRecursion (λ (on : ℕ). (on == s) ≡ false) (streams_of feeders)
    → SayApart s n (map end_of visits)
all_apart schema s n [] feeders visits ended off = subst (λ (vs : List VisitView). SayApart s n (map end_of vs)) (sym ended.1) tt
all_apart schema s n (one ∷ started) [] visits ended off = absurd ended
all_apart schema s n (one ∷ started) (feeder ∷ feeders) [] ended off = absurd ended
all_apart schema s n (one ∷ started) (feeder ∷ feeders) (visit ∷ visits) ended off = (
  inr (words_apart s feeder.stream visit.made (words_of ended.0.feeds) off.0 ended.0.made),
  all_apart schema s n started feeders visits ended.1 off.1,
)

unused_apart : (s n : ℕ) (visits : List VisitEnd) → AllByRecursion IsUnused visits → SayApart s n visits
unused_apart s n [] unused = tt
unused_apart s n (visit ∷ visits) unused = (inr (subst (AreQuiet s) (sym unused.0) tt), unused_apart s n visits unused.1)

-- All that the feeder said on its stream is what all records say there.
pub record SpeaksAlone (schema : List SchemaNode) (all : List WireRecord) (feeder : Feeder) : Type 0 where
  pub feeds : Feeds schema feeder.stream feeder.plan feeder.end feeder.from feeder.to
  pub spoke : spoken feeder.stream (given_in all) ≡ words_of feeds

module _ (schema : List SchemaNode) (all : List WireRecord) (ends : List VisitEnd) (are : AreRecords all) (of : AreOfThese ends all) (has : AllByRecursion (HasJustMade all) ends) where
  -- where these say nothing there, no port does but that author's
  abbrev Suffices : List VisitView → ℕ → Type 0
  Suffices visits s = (n : ℕ) → SayApart s n (map end_of visits) → SayApart s n ends

  one_more : (feeder : Feeder) (started : Started) (visit : VisitView) (visits : List VisitView) → HasEnded schema started feeder visit → (s : ℕ) → (s == feeder.stream) ≡ false → Suffices (visit ∷ visits) s → Suffices visits s
  one_more feeder started visit visits ended s off suffices n apart =
      suffices n (inr (words_apart s feeder.stream visit.made (words_of ended.feeds) (other_way s feeder.stream off) ended.made), apart)

  each_speaks : (started : List Started) (feeders : List Feeder) (visits : List VisitView) → HaveEnded schema started feeders visits → AreDifferent (streams_of feeders) → AllByRecursion (HasJustMade all) (map end_of visits)
      → AllByRecursion (Suffices visits) (streams_of feeders) → AllByRecursion (SpeaksAlone schema all) feeders
  each_speaks [] feeders visits ended differ made suffice = subst (AllByRecursion (SpeaksAlone schema all)) (sym ended.0) tt
  each_speaks (one ∷ started) [] visits ended differ made suffice = absurd ended
  each_speaks (one ∷ started) (feeder ∷ feeders) [] ended differ made suffice = absurd ended
  each_speaks (one ∷ started) (feeder ∷ feeders) (visit ∷ visits) ended differ made suffice =
      let s = feeder.stream in
      let apart = suffice.0 visit.author (inl refl, all_apart schema s visit.author started feeders visits ended.1 differ.0) in
      let spoke = one_speaks s all ends (end_of visit) are of has made.0 apart ∙ ap (spoken s) ended.0.made ∙ words_there s (words_of ended.0.feeds) in (
        record { feeds = ended.0.feeds; spoke = spoke },
        each_speaks started feeders visits ended.1 differ.1 made.1
            (all_zip (λ (t : ℕ). (t == s) ≡ false) (Suffices (visit ∷ visits)) (Suffices visits) (one_more feeder one visit visits ended.0) (streams_of feeders) differ.0 suffice.1),
      )

-- The session itself says nothing on these streams.
abbrev pub AreSilent : List (Option Input) → List ℕ → Type 0
AreSilent own streams = AllByRecursion (λ (s : ℕ). spoken s own ≡ []) streams

pub feeders_speak : (schema : List SchemaNode) (started : List Started) (old_book new_book : PortView) (old_wire new_wire : VisitView) (all : List WireRecord) → (end : AllEnd schema started old_book old_wire new_book new_wire)
    → AllByRecursion IsUnused old_wire.met → AreRecords all → AreOfThese (end_of new_wire ∷ new_wire.met) all → AllByRecursion (HasJustMade all) (end_of new_wire ∷ new_wire.met)
    → AreDifferent (map (λ (one : Started). one.stream) started) → AreSilent (given_in new_wire.made) (map (λ (one : Started). one.stream) started)
    → AllByRecursion (SpeaksAlone schema all) end.feeders
feeders_speak schema started old_book new_book old_wire new_wire all end unused are of has differ silent =
    let streams : streams_of end.feeders ≡ map (λ (one : Started). one.stream) started = same_streams schema started end.feeders end.visits end.ended in
    let ends : List VisitEnd = end_of new_wire ∷ new_wire.met in
    each_speaks schema all ends are of has started end.feeders end.visits end.ended (subst AreDifferent (sym streams) differ)
    (all_last (HasJustMade all) old_wire.met (map end_of end.visits) (subst (AllByRecursion (HasJustMade all)) end.met has.1))
    (all_suffice (streams_of end.feeders) (subst (AreSilent (given_in new_wire.made)) (sym streams) silent)) where
      suffices : (s : ℕ) → spoken s (given_in new_wire.made) ≡ [] → (n : ℕ) → SayApart s n (map end_of end.visits) → SayApart s n (end_of new_wire ∷ new_wire.met)
      suffices s none n apart =
          (inr (none_given s new_wire.made none), subst (SayApart s n) (sym end.met) (all_both (SaysApart s n) old_wire.met (map end_of end.visits) (unused_apart s n old_wire.met unused) apart))

      all_suffice : (streams : List ℕ) → AreSilent (given_in new_wire.made) streams → AllByRecursion (λ (s : ℕ). (n : ℕ) → SayApart s n (map end_of end.visits) → SayApart s n (end_of new_wire ∷ new_wire.met)) streams
      all_suffice [] none = tt
      all_suffice (s ∷ streams) none = (suffices s none.0, all_suffice streams none.1)

-- ---- what is said on its stream

pub record SaysItsWords (schema : List SchemaNode) (given : List Input) (feeder : Feeder) : Type 0 where
  pub feeds : Feeds schema feeder.stream feeder.plan feeder.end feeder.from feeder.to
  pub said : said_on feeder.stream (order_of given) ≡ words_of feeds

says_words : (schema : List SchemaNode) (all : List WireRecord) (feeder : Feeder) → AreRecords all → begun_with all ≡ [] → SpeaksAlone schema all feeder
    → SaysItsWords schema (left_in all).inputs feeder
says_words schema all feeder are none speaks = record {
  feeds = speaks.feeds;
  said = wire_said feeder.stream all are ∙ ap (λ (is : List Input). said_on feeder.stream (order_of is) ++ spoken feeder.stream (given_in all)) none ∙ speaks.spoke;
}

each_says : (schema : List SchemaNode) (all : List WireRecord) (feeders : List Feeder) → AreRecords all → begun_with all ≡ []
    → AllByRecursion (SpeaksAlone schema all) feeders → AllByRecursion (SaysItsWords schema (left_in all).inputs) feeders
each_says schema all [] are none speak = tt
each_says schema all (feeder ∷ feeders) are none speak = (says_words schema all feeder are none speak.0, each_says schema all feeders are none speak.1)

pub feeders_say : (schema : List SchemaNode) (started : List Started) (old_book new_book : PortView) (old_wire new_wire : VisitView) (all : List WireRecord)
    → (end : AllEnd schema started old_book old_wire new_book new_wire)
    → AllByRecursion IsUnused old_wire.met → AreRecords all → AreOfThese (end_of new_wire ∷ new_wire.met) all → AllByRecursion (HasJustMade all) (end_of new_wire ∷ new_wire.met)
    → AreDifferent (map (λ (one : Started). one.stream) started) → AreSilent (given_in new_wire.made) (map (λ (one : Started). one.stream) started)
    → begun_with all ≡ []
    → AllByRecursion (SaysItsWords schema (left_in all).inputs) end.feeders
feeders_say schema started old_book new_book old_wire new_wire all end unused are of has differ silent none =
    each_says schema all end.feeders are none (feeders_speak schema started old_book new_book old_wire new_wire all end unused are of has differ silent)

-- ---- the calls that they serve

-- a port of this book, where it is told by another one of it
new_of : (opened : Opened) (book : List ℕ) (port : PortView) (seen others : List Entry) (one : PortView) → book_of port ≡ (opened, book) → seen ≡ others → IsNewPort port.opened port.book seen one → IsNewPort opened book others one
new_of opened book port seen others one same told is = record {
  opened_is = is.opened_is ∙ ap (λ (of : Opened × List ℕ). of.0) same;
  book_is = is.book_is ∙ ap (λ (of : Opened × List ℕ). of.1) same;
  shared = is.shared;
  start_is = is.start_is ∙ told;
  seen_is = is.seen_is ∙ told;
  no_finds = is.no_finds;
  none_made = is.none_made;
  no_marks = is.no_marks;
  none_met = is.none_met;
}

serves_call : (schema : List SchemaNode) (name : List ℕ) (port outer : PortView) → book_of port ≡ book_of outer → port.seen ≡ outer.seen → (deeds : List Deed) (given : List Input) (one : Started) (feeder : Feeder) (visit : VisitView)
    → IsHandedBy name port deeds one → HasEnded schema one feeder visit → SaysItsWords schema given feeder → HasSeenFront given feeder.to.wire.progress → ServesCall schema outer deeds given feeder
serves_call schema name port outer of same deeds given one feeder visit handed ended says front = record {
  before = handed.before;
  deed = handed.deed;
  after = handed.after;
  whole = handed.whole;
  on = sym handed.started.on ∙ sym ended.stream;
  body = handed.body;
  asked = handed.asked;
  begins = handed.started.begins ∙ ap (λ (plan : Plan). Ok (Begin plan)) (sym ended.plan);
  streams = ap (λ (plan : Plan). plan.mode) ended.plan ∙ handed.started.streams;
  new_port = subst (λ (ports : Ports). IsNewPort outer.opened outer.book (left_last outer.seen (turns_in handed.before)) ports.book) (sym ended.from)
      (new_of outer.opened outer.book port (left_last port.seen (turns_in handed.before)) (left_last outer.seen (turns_in handed.before)) one.book of
      (ap (λ (entries : List Entry). left_last entries (turns_in handed.before)) same) handed.started.new_port);
  unused = ap (λ (ports : Ports). ports.wire.given) ended.from ∙ ap given_in handed.started.is_of.none_made;
  feeds = says.feeds;
  said = says.said;
  rest = front.rest;
  seen = front.seen;
  closed = front.closed;
}

pub serve_calls : (schema : List SchemaNode) (name : List ℕ) (port outer : PortView) → book_of port ≡ book_of outer → port.seen ≡ outer.seen → (deeds : List Deed) (given : List Input) (started : List Started) (feeders : List Feeder) (visits : List VisitView)
    → AllByRecursion (IsHandedBy name port deeds) started → HaveEnded schema started feeders visits → AllByRecursion (SaysItsWords schema given) feeders → AllByRecursion (λ (feeder : Feeder). HasSeenFront given feeder.to.wire.progress) feeders → AllByRecursion (ServesCall schema outer deeds given) feeders
serve_calls schema name port outer of same deeds given [] feeders visits handed ended says fronts = subst (AllByRecursion (ServesCall schema outer deeds given)) (sym ended.0) tt
serve_calls schema name port outer of same deeds given (one ∷ started) [] visits handed ended says fronts = tt
serve_calls schema name port outer of same deeds given (one ∷ started) (feeder ∷ feeders) [] handed ended says fronts = absurd ended
serve_calls schema name port outer of same deeds given (one ∷ started) (feeder ∷ feeders) (visit ∷ visits) handed ended says fronts =
    (serves_call schema name port outer of same deeds given one feeder visit handed.0 ended.0 says.0 fronts.0, serve_calls schema name port outer of same deeds given started feeders visits handed.1 ended.1 says.1 fronts.1)

-- ---- the session's own port of the wire

-- Meeting others leaves whose it is, what it has seen first, and what it made.
pub record StaysOwn (old new : VisitView) : Type 0 where
  pub author : new.author ≡ old.author
  pub start : new.start ≡ old.start
  pub made : new.made ≡ old.made

pub meetings_keep : (old : VisitView) (visits : List VisitView) (new : VisitView) → MeetsVisits old visits new → StaysOwn old new
meetings_keep old [] new is = record {
  author = ap (λ (v : VisitView). v.author) is;
  start = ap (λ (v : VisitView). v.start) is;
  made = ap (λ (v : VisitView). v.made) is;
}
meetings_keep old (visit ∷ visits) new (next, meets, rest) =
    let later = meetings_keep next visits new rest in
    record {
      author = later.author ∙ ap (λ (v : VisitView). v.author) meets.new_is;
      start = later.start ∙ ap (λ (v : VisitView). v.start) meets.new_is;
      made = later.made ∙ ap (λ (v : VisitView). v.made) meets.new_is;
    }

-- where it is the first port of the wire
pub begun_so : (all : List WireRecord) (one : VisitEnd) (at : Progress) → HasJustMade all one → one.start ≡ first_records at → begun_with all ≡ at.inputs
begun_so all one at has is = ap begun_with has.whole ∙ ap (λ (rs : List WireRecord). begun_with (rs ++ has.since)) is

-- ---- of a session

-- it says nothing on the streams of those who were started, and its reader isn't told of their ends
abbrev IsLeftAlone : List (Option Input) → List Moment → ℕ → Type 0
IsLeftAlone own moments s = (spoken s own ≡ []) × (is_told s moments ≡ false)

started_silent : (schema : List SchemaNode) (start end : Service) (deeds : List Deed) (owed : List Request) (events : List RecvEvent) (name : List ℕ) (port : PortView) (waiting : List Waiting) (moments : List Moment) (side : FeederState)
    → start.calls ≡ [] → AreDone schema start deeds end → requests_in deeds ++ owed ≡ requests events → ((s : ℕ) → IsOpenedOnce s events) → HasFeeders port side waiting moments deeds
    → (started : List Started) → AllByRecursion (IsHandedBy name port deeds) started → AllByRecursion (IsLeftAlone side.own moments) (map (λ (one : Started). one.stream) started)
started_silent schema start end deeds owed events name port waiting moments side none done asked once beside [] handed = tt
started_silent schema start end deeds owed events name port waiting moments side none done asked once beside (one ∷ started) handed =
    let h = handed.0 in
    let nothing : said_to one.stream deeds ≡ [] =
    handed_silent schema start end deeds owed events one.stream h.before h.after h.deed h.body none done asked (once one.stream) h.whole h.asked (sym h.started.on) in
    let silent = beside.silent one.stream nothing in
    ((silent.unsaid, silent.untold), started_silent schema start end deeds owed events name port waiting moments side none done asked once beside started handed.1)

all_of_both : {X : Type 0} (P Q : X → Type 0) (xs : List X) → AllByRecursion (λ x. P x × Q x) xs → AllByRecursion P xs × AllByRecursion Q xs
all_of_both P Q [] are = (tt, tt)
all_of_both P Q (x ∷ xs) are = let rest = all_of_both P Q xs are.1 in ((are.0.0, rest.0), (are.0.1, rest.1))

-- Where a session has handed over the calls for which these feeders were started, each feeder serves its call.
pub feeders_serve : (schema : List SchemaNode) (start last : Service) (deeds : List Deed) (owed : List Request) (events : List RecvEvent) (port outer : PortView) (waiting : List Waiting) (moments : List Moment) (side : FeederState)
    → (served_by : List SchemaNode) → start.calls ≡ [] → AreDone served_by start deeds last → requests_in deeds ++ owed ≡ requests events → ((s : ℕ) → IsOpenedOnce s events) → HasFeeders port side waiting moments deeds
    → book_of port ≡ book_of outer → port.seen ≡ outer.seen
    → (old_book new_book : PortView) (old_wire new_wire : VisitView) (all : List WireRecord)
    → (end : AllEnd schema side.started old_book old_wire new_book new_wire)
    → AllByRecursion IsUnused old_wire.met → AreRecords all → AreOfThese (end_of new_wire ∷ new_wire.met) all → AllByRecursion (HasJustMade all) (end_of new_wire ∷ new_wire.met)
    → side.own ≡ given_in old_wire.made → begun_with all ≡ [] → IsAtFront all new_wire
    → AllByRecursion (ServesCall schema outer deeds (left_in all).inputs) end.feeders × AllByRecursion (λ (s : ℕ). is_told s moments ≡ false) (streams_of end.feeders)
feeders_serve schema start last deeds owed events port outer waiting moments side served_by none done asked once beside of_it same old_book new_book old_wire new_wire all end unused are of has own begun front =
    let streams : List ℕ = map (λ (one : Started). one.stream) side.started in
    let differ : AreDifferent streams = subst AreDifferent beside.streams (handed_differ deeds owed events asked once) in
    let made : side.own ≡ given_in new_wire.made = own ∙ ap given_in (sym (meetings_keep old_wire end.visits new_wire end.wires).made) in
    let alone = all_of_both (λ (s : ℕ). spoken s side.own ≡ []) (λ (s : ℕ). is_told s moments ≡ false) streams
    (started_silent served_by start last deeds owed events side.name port waiting moments side none done asked once beside side.started beside.handed) in
    let silent : AreSilent (given_in new_wire.made) streams = subst (λ (o : List (Option Input)). AreSilent o streams) made alone.0 in (
      serve_calls schema side.name port outer of_it same deeds (left_in all).inputs side.started end.feeders end.visits beside.handed end.ended
          (feeders_say schema side.started old_book new_book old_wire new_wire all end unused are of has differ silent begun)
          (all_see schema all are side.started end.feeders end.visits end.ended (fronts_of all old_wire end.visits new_wire end.wires front).1),
      subst (AllByRecursion (λ (s : ℕ). is_told s moments ≡ false)) (sym (same_streams schema side.started end.feeders end.visits end.ended)) alone.1,
    )

-- So each does in the course of a session that was served beside them,
pub course_served : (schema : List SchemaNode) (fed : List ℕ) (start : Start) (side : FeederState) (course : Course) (outer : PortView) → book_of start.port ≡ book_of outer → start.port.seen ≡ outer.seen → (served : IsServedBeside fed start side course)
    → (old_book new_book : PortView) (old_wire new_wire : VisitView) (all : List WireRecord)
    → (end : AllEnd schema side.started old_book old_wire new_book new_wire)
    → AllByRecursion IsUnused old_wire.met → AreRecords all → AreOfThese (end_of new_wire ∷ new_wire.met) all → AllByRecursion (HasJustMade all) (end_of new_wire ∷ new_wire.met)
    → side.own ≡ given_in old_wire.made → begun_with all ≡ [] → IsAtFront all new_wire
    → AllByRecursion (ServesCall schema outer (deeds_in served.served) (left_in all).inputs) end.feeders × AllByRecursion (λ (s : ℕ). is_told s course.moments ≡ false) (streams_of end.feeders)
course_served schema fed start side course outer of_it same served old_book new_book old_wire new_wire all end unused are of has own begun front =
    let s = served.served in
    let events : heard (order_of course.inputs) ≡ events_of course.moments = same_events fed course.moments (order_of course.inputs) s.one_order in
    feeders_serve schema (first_service start) (service_of course.standing) (deeds_in s) course.owed (events_of course.moments) start.port outer course.waiting course.moments side start.schema refl s.done s.asked
    (λ stream. subst (IsOpenedOnce stream) events (s.opened stream)) served.beside of_it same old_book new_book old_wire new_wire all end unused are of has own begun front

-- its reader isn't told that they have ended their calls,
none_fed_here : (fed : List ℕ) (other : ℕ) → AllByRecursion (λ (s : ℕ). (other == s) ≡ false) fed → is_fed fed other ≡ false
none_fed_here [] other are = refl
none_fed_here (s ∷ fed) other are = ap (λ b. b || is_fed fed other) (other_way other s are.0) ∙ none_fed_here fed other are.1

neither : (a b : Bool) → (a || b) ≡ false → (a ≡ false) × (b ≡ false)
neither true b is = absurd (false≢true (sym is))
neither false b is = (refl, is)

untold_both : (other : ℕ) (moments : List Moment) (fed : List ℕ) → AllByRecursion (λ (s : ℕ). is_told s (calls.ended other ∷ moments) ≡ false) fed
    → AllByRecursion (λ (s : ℕ). (other == s) ≡ false) fed × AllByRecursion (λ (s : ℕ). is_told s moments ≡ false) fed
untold_both other moments [] are = (tt, tt)
untold_both other moments (s ∷ fed) are =
    let both = neither (other == s) (is_told s moments) are.0 in
    let rest = untold_both other moments fed are.1 in
    ((both.0, rest.0), (both.1, rest.1))

still_untold : (frame : Frame) (event : Option RecvEvent) (moments : List Moment) (fed : List ℕ) → AllByRecursion (λ (s : ℕ). is_told s (calls.read frame event ∷ moments) ≡ false) fed → AllByRecursion (λ (s : ℕ). is_told s moments ≡ false) fed
still_untold frame event moments [] are = tt
still_untold frame event moments (s ∷ fed) are = (are.0, still_untold frame event moments fed are.1)

pub all_untold : (fed : List ℕ) (moments : List Moment) → AllByRecursion (λ (s : ℕ). is_told s moments ≡ false) fed → without_fed fed (reads_of moments) ≡ reads_of moments
all_untold fed [] are = refl
all_untold fed (calls.read frame (Some event) ∷ moments) are = ap (λ (reads : List Read). item.Event event ∷ reads) (all_untold fed moments (still_untold frame (Some event) moments fed are))
all_untold fed (calls.read frame None ∷ moments) are = all_untold fed moments (still_untold frame None moments fed are)
all_untold fed (calls.ended other ∷ moments) are =
    let both = untold_both other moments fed are in
    ap (λ b. cond b (without_fed fed (reads_of moments)) (item.Ended other ∷ without_fed fed (reads_of moments))) (none_fed_here fed other both.0)
    ∙ ap (λ (reads : List Read). item.Ended other ∷ reads) (all_untold fed moments both.1)

-- and each call that was handed over has a feeder.
fed_still : (stream : ℕ) (fed streams : List ℕ) → AllByRecursion (λ (s : ℕ). is_fed fed s ≡ true) streams → AllByRecursion (λ (s : ℕ). is_fed (stream ∷ fed) s ≡ true) streams
fed_still stream fed [] are = tt
fed_still stream fed (s ∷ streams) are = (or_right (stream == s) (is_fed fed s) are.0, fed_still stream fed streams are.1)

all_fed : (streams : List ℕ) → AllByRecursion (λ (s : ℕ). is_fed streams s ≡ true) streams
all_fed [] = tt
all_fed (s ∷ streams) = (or_left (s == s) (is_fed streams s) (eq-eqb s s refl), fed_still s streams streams (all_fed streams))

pub handed_fed : (schema : List SchemaNode) (port : PortView) (side : FeederState) (waiting : List Waiting) (moments : List Moment) (deeds : List Deed) (feeders : List Feeder) (visits : List VisitView) → HasFeeders port side waiting moments deeds → HaveEnded schema side.started feeders visits
    → AllByRecursion (λ (s : ℕ). is_fed (streams_of feeders) s ≡ true) (handed_in deeds)
handed_fed schema port side waiting moments deeds feeders visits beside ended =
    subst (AllByRecursion (λ (s : ℕ). is_fed (streams_of feeders) s ≡ true)) (same_streams schema side.started feeders visits ended ∙ sym beside.streams) (all_fed (streams_of feeders))
