-- A wire that others have ports to, as the sending half of a session: what its turns do, by the records that they find and add.
use Rattle.std.proofs.Common.{◌≡◌, ◌⊎◌, inl, inr, ℕ, ◌+◌, ◌==◌, List, [], ◌∷◌, ◌++◌, Bool, true, false, if◌then◌else◌, length, map, refl, sym, ap, ◌∙◌, subst, arith, append-nil, IfErr, Result, Ok, Err}
use Rattle.std.specs.Prelude.{Option, Some, None}
use Rattle.std.specs.List.{AllByRecursion}
use Rattle.std.proofs.lemmas.List.{map-append}
use mathlib.Core.Logic.{dite}
use native.Mathlib.Decide.{ℕ_discrete}
use Rattle.h2_frame.specs.ErrorCodes.{flow_control_error}
use Rattle.h2_events.specs.declared.event.RecvEvent.{RecvEvent}
use Rattle.h2_events.specs.declared.port.Ready.{Ready}
use Rattle.h2_events.specs.declared.port.Ready.TheVariants as ready
use Rattle.h2_events.specs.declared.port.Took.{Took}
use Rattle.h2_events.specs.declared.port.Took.TheVariants as took
use Rattle.h2_events.specs.declared.said.Said.{Said}
use Rattle.h2_events.specs.declared.said.Said.TheVariants.{Status}
use Rattle.h2_send.specs.Accepting.{IsAccepted}
use Rattle.h2_send.specs.Conditions.{IsClosed, answer_of, readiness, took_of}
use Rattle.h2_send.specs.Inputs.{Input, Event, Speech}
use Rattle.h2_send.specs.Lines.{overflows}
use Rattle.h2_send.specs.Offers.{has_begun}
use Rattle.h2_send.specs.Port.{Progress, Takes, line_of, ready_in}
use Rattle.h2_send.specs.declared.condition.Condition.{Condition}
use Rattle.h2_send.specs.declared.condition.Condition.TheVariants as condition
use Rattle.h2_send.specs.declared.fault.WireFaultOut.{WireFaultOut}
use Rattle.h2_send.specs.declared.fault.WireFaultOut.TheVariants as faults
use Rattle.shared_wire.specs.Records.{ActsOrEnds, AddsWhereOpen, AnswersEnd, AnswersEvent, AnswersStatus, AreRecords, Began, ByRoom, Deed, Ended, EndsIfTooFar, EndsOn, EndsOut, Follow, Gave, GoesOut, IsOpen, Leaves, ReadsOn, ReadsOrTells, Refused, SaysOn, SaysOrTells, Starved, StatesOn, StatesOrTells, TakesNoStatus, TookBy, UnlessFault, WireRecord, fault_in, last_behind, last_record, left_in, most_records, overflow_or}
use Rattle.shared_wire.specs.Visits.{DoesInTurn, TakesTurn, VisitEnd, VisitView, given_in, given_of, others_of}
use Rattle.shared_wire.proofs.Following.{follow_behind, last_append, last_is}
use Rattle.shared_wire.proofs.OthersDid.{others_turn}
use Rattle.session_core.specs.inner.Sending.{Acts, WireHistory, Closes, DoesWhereOpen, Finds, Gives, HasGrown, Reads, Says, SaysNothing, SaysThere, Starves, TellsDone, TellsFault, TellsTook, spoken, told_by}
use Rattle.stream_workers.specs.Ports.{IsUnused}
use Rattle.session_core.specs.inner.Feeders.{IsOwnVisit}
use Rattle.session_core.proofs.Others.{free_accepted}

-- ---- what others gave

heads : {A : Type 0} {x y : A} {xs ys : List A} → ◌≡◌ {A = List A} (x ∷ xs) (y ∷ ys) → x ≡ y
heads q = cc

tails : {A : Type 0} {x y : A} {xs ys : List A} → ◌≡◌ {A = List A} (x ∷ xs) (y ∷ ys) → xs ≡ ys
tails q = cc

not_given : {input : Input} → ◌≡◌ {A = Option Input} None (Some input) → ⊥
not_given q = cc

same_given : {a b : Input} → ◌≡◌ {A = Option Input} (Some a) (Some b) → a ≡ b
same_given q = cc

its_deed : (deed : Deed) (input : Input) → given_of deed ≡ Some input → deed ≡ Gave input
its_deed Began input is = absurd (not_given is)
its_deed (Gave other) input is = ap Gave (same_given is)
its_deed (Refused other) input is = absurd (not_given is)
its_deed (Ended code) input is = absurd (not_given is)
its_deed (Starved other) input is = absurd (not_given is)

took_left : (state : Condition) (input : Input) (at left : Progress) → left.condition ≡ state → left.inputs ≡ at.inputs ++ input ∷ [] → GoesOut state input at left.output → (answer : Took) × Takes answer input at left
took_left condition.New input at left is grows never = absurd never
took_left condition.Open input at left is grows out = (took.Taken, (out, grows, is))
took_left condition.Finished input at left is grows never = absurd never
took_left condition.WriteFault input at left is grows out = (took.WriteFault, (out, grows, is))
took_left condition.NoMemory input at left is grows out = (took.NoMemory, (out, grows, is))

-- each of these records stands behind one that left the wire open
gives_by : (before : WireRecord) (rs : List WireRecord) → Follow before rs → (inputs : List Input) → given_in rs ≡ map Some inputs → Gives inputs before.left (last_behind before rs).left
gives_by before [] follow [] is = refl
gives_by before [] follow (input ∷ inputs) is = absurd cc
gives_by before (r ∷ rs) follow [] is = absurd cc
gives_by before (r ∷ rs) (is_open, leaves, ports, rest) (input ∷ inputs) is =
    let (accepted, grows, out) = subst (λ (d : Deed). Leaves d before.left r.left) (its_deed r.deed input (heads is)) leaves in
    let (answer, takes) = took_left r.left.condition input before.left r.left refl grows out in
    (is_open, accepted, answer, r.left, takes, gives_by r rs rest inputs (tails is))

gives_behind : (seen others : List WireRecord) → AreRecords seen → AreRecords (seen ++ others) → (inputs : List Input) → given_in others ≡ map Some inputs → Gives inputs (left_in seen) (left_in (seen ++ others))
gives_behind [] others are all inputs is = absurd are
gives_behind (first ∷ seen) others are all inputs is =
    subst (λ (r : WireRecord). Gives inputs (last_behind first seen).left r.left) (sym (last_append first seen others))
    (gives_by (last_behind first seen) others (follow_behind first seen others all.2) inputs is)

-- ---- what was said on a stream

said_both : (on : Bool) (said : Said) (all xs ys : List Said) → all ≡ xs ++ ys → (if on then said ∷ all else all) ≡ (if on then said ∷ xs else xs) ++ ys
said_both true said all xs ys is = ap (λ l. said ∷ l) is
said_both false said all xs ys is = is

spoken_both : (stream : ℕ) (xs ys : List (Option Input)) → spoken stream (xs ++ ys) ≡ spoken stream xs ++ spoken stream ys
spoken_both stream [] ys = refl
spoken_both stream (None ∷ xs) ys = spoken_both stream xs ys
spoken_both stream (Some (Event event) ∷ xs) ys = spoken_both stream xs ys
spoken_both stream (Some (Speech on said) ∷ xs) ys = said_both (on == stream) said (spoken stream (xs ++ ys)) (spoken stream xs) (spoken stream ys) (spoken_both stream xs ys)

-- nothing was said there by these records
abbrev IsSilent : ℕ → List WireRecord → Type 0
IsSilent stream rs = spoken stream (given_in rs) ≡ []

silent_both : (stream : ℕ) (xs ys : List WireRecord) → IsSilent stream xs → IsSilent stream ys → IsSilent stream (xs ++ ys)
silent_both stream xs ys one two =
    ap (spoken stream) (map-append (λ (r : WireRecord). given_of r.deed) xs ys)
    ∙ spoken_both stream (given_in xs) (given_in ys)
    ∙ (λ i. one i ++ two i)

silent_none : (stream : ℕ) (rs : List WireRecord) → rs ≡ [] → IsSilent stream rs
silent_none stream rs none = ap (λ l. spoken stream (given_in l)) none

-- one record, of this deed
silent_one : (stream : ℕ) (rs : List WireRecord) (r : WireRecord) (deed : Deed) → rs ≡ r ∷ [] → r.deed ≡ deed → spoken stream (given_of deed ∷ []) ≡ [] → IsSilent stream rs
silent_one stream rs r deed one is silent = ap (λ l. spoken stream (given_in l)) one ∙ ap (λ (d : Deed). spoken stream (given_of d ∷ [])) is ∙ silent

silent_elsewhere : (on stream : ℕ) (said : Said) → (on == stream) ≡ false → spoken stream (given_of (Gave (Speech on said)) ∷ []) ≡ []
silent_elsewhere on stream said other = ap (λ (b : Bool). if b then said ∷ [] else []) other

-- ---- records by how they find the wire

open_or : (state : Condition) → (state ≡ condition.Open) ⊎ (state ≡ condition.Open → ⊥)
open_or condition.New = inr (λ e. cc)
open_or condition.Open = inl refl
open_or condition.Finished = inr (λ e. cc)
open_or condition.WriteFault = inr (λ e. cc)
open_or condition.NoMemory = inr (λ e. cc)

not_open : (state : Condition) → IsClosed state → state ≡ condition.Open → ⊥
not_open state is_closed is = subst IsClosed is is_closed

either_so : {A B P : Type 0} → A ⊎ B → (A → P) → (B → P) → P
either_so (inl a) one two = one a
either_so (inr b) one two = two b

in_room : {P : Type 0} (found : List WireRecord) (Does Lacks : Type 0) → ByRoom found Does Lacks → (Does → P) → (Lacks → P) → P
in_room found Does Lacks by does lacks = dite (ℕ_discrete (length found + 1) most_records) (λ is. lacks (by.last is)) (λ ne. does (by.room ne))

silent_added : (stream : ℕ) (found added : List WireRecord) (Holds : WireRecord → Type 0) (Closed : Type 0) → AddsWhereOpen found added Holds Closed → ((r : WireRecord) → added ≡ r ∷ [] → Holds r → IsSilent stream added) → IsSilent stream added
silent_added stream found added Holds Closed adds one =
    either_so (open_or (left_in found).condition)
    (λ is_open. let (r, is, holds) = adds.is_open is_open in one r is holds)
    (λ shut. silent_none stream added (adds.closed shut).0)

-- ---- one record

takes_by : (answer : Took) (input : Input) (at left : Progress) → Leaves (Gave input) at left → TookBy answer left.condition → IsAccepted input (line_of at) × Takes answer input at left
takes_by took.Taken input at left (accepted, grows, out) is = (accepted, (subst (λ (s : Condition). GoesOut s input at left.output) is out, grows, is))
takes_by took.WriteFault input at left (accepted, grows, out) is = (accepted, (subst (λ (s : Condition). GoesOut s input at left.output) is out, grows, is))
takes_by took.NoMemory input at left (accepted, grows, out) is = (accepted, (subst (λ (s : Condition). GoesOut s input at left.output) is out, grows, is))
takes_by took.Busy input at left leaves never = absurd never
takes_by took.Gone input at left leaves never = absurd never

-- memory was wanting for what was given
starves_by : (input : Input) (at left : Progress) → Leaves (Gave input) at left → left.condition ≡ condition.NoMemory → Starves at left
starves_by input at left (accepted, grows, out) is = (subst (λ (s : Condition). GoesOut s input at left.output) is out, is, (input ∷ [], grows, omega arith))

-- and for a record
starves_lost : (at left : Progress) → left ≡ record at { condition = condition.NoMemory } → Starves at left
starves_lost at left is = (
  ap (λ (p : Progress). p.output) is,
  ap (λ (p : Progress). p.condition) is,
  ([], ap (λ (p : Progress). p.inputs) is ∙ sym (append-nil at.inputs), omega arith),
)

its_leaves : (r : WireRecord) (deed : Deed) (at : Progress) → r.deed ≡ deed → Leaves r.deed at r.left → Leaves deed at r.left
its_leaves r deed at is leaves = subst (λ (d : Deed). Leaves d at r.left) is leaves

starves_so : (r : WireRecord) (input : Input) (at : Progress) → r.deed ≡ Starved input → Leaves r.deed at r.left → Starves at r.left
starves_so r input at is leaves = starves_lost at r.left (its_leaves r (Starved input) at is leaves)

-- something is said
says_by : (stream : ℕ) (said : Said) (answer : Took) (at : Progress) (r : WireRecord) → Leaves r.deed at r.left → r.deed ≡ Gave (Speech stream said) → TookBy answer r.left.condition → Says stream said answer at r.left
says_by stream said took.Taken at r leaves is tooks = takes_by took.Taken (Speech stream said) at r.left (its_leaves r (Gave (Speech stream said)) at is leaves) tooks
says_by stream said took.WriteFault at r leaves is tooks = takes_by took.WriteFault (Speech stream said) at r.left (its_leaves r (Gave (Speech stream said)) at is leaves) tooks
says_by stream said took.NoMemory at r leaves is tooks = starves_by (Speech stream said) at r.left (its_leaves r (Gave (Speech stream said)) at is leaves) tooks
says_by stream said took.Busy at r leaves is never = absurd never
says_by stream said took.Gone at r leaves is never = absurd never

-- an event is acted on
acts_by : (event : RecvEvent) (done : Result (Unit {0}) WireFaultOut) (at : Progress) (r : WireRecord) → Leaves r.deed at r.left → AnswersEvent event done r → (done ≡ Err faults.Overflow → ⊥) → Acts event done at r.left
acts_by event (Ok tt) at r leaves (is, state) other = takes_by took.Taken (Event event) at r.left (its_leaves r (Gave (Event event)) at is leaves) state
acts_by event (Err faults.WriteFault) at r leaves (is, state) other = inl (takes_by took.WriteFault (Event event) at r.left (its_leaves r (Gave (Event event)) at is leaves) state)
acts_by event (Err faults.NoMemory) at r leaves (is, state, opens) other = starves_by (Event event) at r.left (its_leaves r (Gave (Event event)) at is leaves) state
acts_by event (Err faults.Overflow) at r leaves is other = absurd (other refl)

-- the connection is ended
closes_by : (code : ℕ) (done : Result (Unit {0}) WireFaultOut) (at : Progress) (r : WireRecord) → Leaves r.deed at r.left → AnswersEnd code done r → Closes code done at r.left
closes_by code (Ok tt) at r leaves (is, state) =
    let (same, out) = its_leaves r (Ended code) at is leaves in
    (subst (λ (s : Condition). EndsOut s code at r.left.output) state out, same, state)
closes_by code (Err faults.WriteFault) at r leaves (is, state) =
    let (same, out) = its_leaves r (Ended code) at is leaves in
    (subst (λ (s : Condition). EndsOut s code at r.left.output) state out, same, state)
closes_by code (Err faults.NoMemory) at r leaves never = absurd never
closes_by code (Err faults.Overflow) at r leaves never = absurd never

-- ---- nothing is done behind a fault

module _ {T : Type 0} (added : List WireRecord) (answer : Result T WireFaultOut) (Does : T → Type 0) where
  done_open : (state : Condition) → state ≡ condition.Open → UnlessFault (answer_of state) added answer Does → (value : T) × (answer ≡ Ok value) × Does value
  done_open state is does = subst (λ (s : Condition). UnlessFault (answer_of s) added answer Does) is does

  told_closed : (state : Condition) → IsClosed state → ((value : T) → answer ≡ Ok value → Does value → added ≡ []) → UnlessFault (answer_of state) added answer Does
      → (added ≡ []) × IfErr (answer_of state) (λ fault. answer ≡ Err fault)
  told_closed condition.New is_closed none does = absurd is_closed
  told_closed condition.Open is_closed none does = absurd is_closed
  told_closed condition.Finished is_closed none (value, is, does) = (none value is does, tt)
  told_closed condition.WriteFault is_closed none (is, nothing) = (nothing, is)
  told_closed condition.NoMemory is_closed none (is, nothing) = (nothing, is)

  silent_unless : (stream : ℕ) (state : Condition) → ((value : T) → Does value → IsSilent stream added) → UnlessFault (answer_of state) added answer Does → IsSilent stream added
  silent_unless stream condition.New silent (value, is, does) = silent value does
  silent_unless stream condition.Open silent (value, is, does) = silent value does
  silent_unless stream condition.Finished silent (value, is, does) = silent value does
  silent_unless stream condition.WriteFault silent (is, nothing) = silent_none stream added nothing
  silent_unless stream condition.NoMemory silent (is, nothing) = silent_none stream added nothing

-- a wire that is closed takes nothing
closed_gone : (stream : ℕ) (at : Progress) → IsClosed at.condition → ready_in stream at ≡ ready.Gone
closed_gone stream at is_closed = gone_by at.condition is_closed where
  gone_by : (state : Condition) → IsClosed state → readiness state stream (line_of at) ≡ ready.Gone
  gone_by condition.New is = absurd is
  gone_by condition.Open is = absurd is
  gone_by condition.Finished is = refl
  gone_by condition.WriteFault is = refl
  gone_by condition.NoMemory is = refl

-- what is said of a fault
took_told : (state : Condition) (answer : Result Took WireFaultOut) → IfErr (answer_of state) (λ fault. answer ≡ Err fault) → IfErr (answer_of state) (λ fault. told_by answer ≡ took_of (Err fault))
took_told condition.New answer is = tt
took_told condition.Open answer is = tt
took_told condition.Finished answer is = tt
took_told condition.WriteFault answer is = ap told_by is
took_told condition.NoMemory answer is = ap told_by is

-- only what finds its stream free is accepted
not_free : (stream : ℕ) (said : Said) (at : Progress) (other : Ready) → at.condition ≡ condition.Open → ready_in stream at ≡ other → (other ≡ ready.Free → ⊥) → IsAccepted (Speech stream said) (line_of at) → ⊥
not_free stream said at other is_open is apart accepts =
    apart (sym is ∙ ap (λ (s : Condition). readiness s stream (line_of at)) is_open ∙ free_accepted stream said (line_of at) accepts)

no_status : (stream status : ℕ) (at : Progress) → has_begun stream (line_of at).streams ≡ true → IsAccepted (Speech stream (Status status)) (line_of at) → ⊥
no_status stream status at begun (free, none, fits) = apart (sym none ∙ begun) where
  apart : false ≡ true → ⊥
  apart e = cc

-- ---- records behind others

follow_so : (all : List WireRecord) → AreRecords all → (rs : List WireRecord) → AreRecords (all ++ rs) → Follow (last_record all) rs
follow_so [] are rs on = absurd are
follow_so (first ∷ all) are rs on = follow_behind first all rs on.2

left_so : (all : List WireRecord) → AreRecords all → (rs : List WireRecord) → left_in (all ++ rs) ≡ (last_behind (last_record all) rs).left
left_so [] are rs = absurd are
left_so (first ∷ all) are rs = ap (λ (r : WireRecord). r.left) (last_append first all rs)

its_first : (before r : WireRecord) (rs : List WireRecord) → Follow before (r ∷ rs) → Leaves r.deed before.left r.left
its_first before r rs (is_open, leaves, ports, rest) = leaves

its_rest : (before r : WireRecord) (rs : List WireRecord) → Follow before (r ∷ rs) → Follow r rs
its_rest before r rs (is_open, leaves, ports, rest) = rest

end_silent : (stream code : ℕ) (answer : Result (Unit {0}) WireFaultOut) (rs : List WireRecord) (r : WireRecord) → rs ≡ r ∷ [] → AnswersEnd code answer r → IsSilent stream rs
end_silent stream code (Ok tt) rs r one (is, state) = silent_one stream rs r (Ended code) one is refl
end_silent stream code (Err faults.WriteFault) rs r one (is, state) = silent_one stream rs r (Ended code) one is refl
end_silent stream code (Err faults.NoMemory) rs r one never = absurd never
end_silent stream code (Err faults.Overflow) rs r one never = absurd never

ends_silent : (stream code : ℕ) (answer : Result (Unit {0}) WireFaultOut) (before rs : List WireRecord) → EndsOn code answer before rs → IsSilent stream rs
ends_silent stream code answer before rs ends = silent_added stream before rs (AnswersEnd code answer) (answer ≡ fault_in before) ends (end_silent stream code answer rs)

-- ---- a turn

-- what contracts see of the ports
abbrev pub visit_history : VisitView → WireHistory
visit_history visit = record { name = visit.lock; others = others_of visit; own = given_in visit.made }

module _ (old new : VisitView) (found added : List WireRecord) (turn : TakesTurn old found added new) where
  abbrev at : Progress
  at = left_in found

  abbrev now : Progress
  now = left_in new.seen

  found_so : Finds (others_of old) (others_of new) (left_in old.seen) at
  found_so = record {
    did = given_in turn.begins.others;
    told = others_turn old new found added turn;
    gave = λ inputs is. subst (λ (l : List WireRecord). Gives inputs (left_in old.seen) (left_in l)) (sym turn.begins.whole)
        (gives_behind old.seen turn.begins.others turn.has_seen (subst AreRecords turn.begins.whole turn.records) inputs is);
  }

  grown_so : HasGrown (visit_history old) (visit_history new)
  grown_so = record {
    name = ap (λ (v : VisitView). v.lock) turn.new_is;
    did = given_in turn.begins.others;
    told = others_turn old new found added turn;
  }

  silent_so : (stream : ℕ) → IsSilent stream added → spoken stream (given_in new.made) ≡ spoken stream (given_in old.made)
  silent_so stream silent =
      ap (λ (v : VisitView). spoken stream (given_in v.made)) turn.new_is
      ∙ ap (spoken stream) (map-append (λ (r : WireRecord). given_of r.deed) old.made added)
      ∙ spoken_both stream (given_in old.made) (given_in added)
      ∙ ap (λ (l : List Said). spoken stream (given_in old.made) ++ l) silent
      ∙ append-nil (spoken stream (given_in old.made))

  -- the records that it added stand behind those that it found
  follows : (rs : List WireRecord) → added ≡ rs → Follow (last_record found) rs
  follows rs is = follow_so found turn.records rs (subst (λ (l : List WireRecord). AreRecords (found ++ l)) is turn.records_on)

  leaves : (r : WireRecord) (rs : List WireRecord) → added ≡ r ∷ rs → Leaves r.deed at r.left
  leaves r rs is = its_first (last_record found) r rs (follows (r ∷ rs) is)

  now_is : (rs : List WireRecord) → added ≡ rs → now ≡ (last_behind (last_record found) rs).left
  now_is rs is =
      ap (λ (v : VisitView). left_in v.seen) turn.new_is
      ∙ ap (λ (l : List WireRecord). left_in (found ++ l)) is
      ∙ left_so found turn.records rs

  does_so : (Does : Progress → Progress → Type 0) (Tells : Result (Unit {0}) WireFaultOut → Type 0) → (IsOpen found → Does at now) → (IsClosed at.condition → (added ≡ []) × Tells (answer_of at.condition))
      → DoesWhereOpen (others_of old) (others_of new) (left_in old.seen) now Does Tells
  does_so Does Tells does tells = record {
    found = at;
    finds = found_so;
    does = does;
    tells = λ is_closed. let (none, told) = tells is_closed in (now_is [] none, told);
  }

  -- one record was added, which did this
  by_one : (Does : Progress → Progress → Type 0) (r : WireRecord) → added ≡ r ∷ [] → (Leaves r.deed at r.left → Does at r.left) → Does at now
  by_one Does r one does = subst (Does at) (sym (now_is (r ∷ []) one)) (does (leaves r [] one))

  -- ---- how a stream stands

  module _ (stream : ℕ) (answer : Result Ready WireFaultOut) (does : ReadsOrTells stream answer found added) where
    reads_turn : DoesWhereOpen (others_of old) (others_of new) (left_in old.seen) now (Reads stream answer) (TellsFault (left_in old.seen) answer)
    reads_turn = does_so (Reads stream answer) (TellsFault (left_in old.seen) answer)
        (λ is_open. let (value, is, reads) = done_open added answer (λ value. ReadsOn stream value found added) at.condition is_open does in (is ∙ ap Ok reads.is, now_is [] reads.none))
        (λ is_closed. let (none, told) = told_closed added answer (λ value. ReadsOn stream value found added) at.condition is_closed (λ value is reads. reads.none) does in (none, λ was_open. told))

    reads_silent : (other : ℕ) → IsSilent other added
    reads_silent other = silent_unless added answer (λ value. ReadsOn stream value found added) other at.condition (λ value reads. silent_none other added reads.none) does

  -- ---- the end

  module _ (code : ℕ) (answer : Result (Unit {0}) WireFaultOut) (ends : EndsOn code answer found added) where
    closes_turn : DoesWhereOpen (others_of old) (others_of new) (left_in old.seen) now (Closes code answer) (TellsDone answer)
    closes_turn = does_so (Closes code answer) (TellsDone answer)
        (λ is_open. let (r, one, answers) = ends.is_open is_open in by_one (Closes code answer) r one (λ leaves. closes_by code answer at r leaves answers))
        (λ is_closed. ends.closed (not_open at.condition is_closed))

  -- ---- something is said

  module _ (stream : ℕ) (said : Said) (answer : Result Took WireFaultOut) (does : SaysOrTells stream said answer found added) where
    abbrev IsSaid : Took → Type 0
    IsSaid value = SaysOn stream said value found added

    said_so : (value : Took) (r : Ready) → ready_in stream at ≡ r → IsOpen found → IsSaid value → Says stream said value at now
    said_so value ready.Free is is_open says =
        let (r, one, answers) = says.free is in
        let (deed, tooks) = answers in
        by_one (Says stream said value) r one (λ leaves. says_by stream said value at r leaves deed tooks)
    said_so value ready.Busy is is_open says =
        let (none, busy) = says.busy is in
        subst (λ (t : Took). Says stream said t at now) (sym busy) (not_free stream said at ready.Busy is_open is (λ e. cc), now_is [] none)
    said_so value ready.Gone is is_open says =
        let (none, gone) = says.gone is in
        subst (λ (t : Took). Says stream said t at now) (sym gone) (not_free stream said at ready.Gone is_open is (λ e. cc), now_is [] none)

    says_turn : DoesWhereOpen (others_of old) (others_of new) (left_in old.seen) now (Says stream said (told_by answer)) (TellsTook (left_in old.seen) (told_by answer))
    says_turn = does_so (Says stream said (told_by answer)) (TellsTook (left_in old.seen) (told_by answer))
        (λ is_open.
        let (value, is, says) = done_open added answer IsSaid at.condition is_open does in
        subst (λ (t : Took). Says stream said t at now) (sym (ap told_by is)) (said_so value (ready_in stream at) refl is_open says))
        (λ is_closed.
        let (none, told) = told_closed added answer IsSaid at.condition is_closed (λ value is says. (says.gone (closed_gone stream at is_closed)).0) does in
        (none, λ was_open. took_told at.condition answer told))

    says_silent_by : (other : ℕ) → (stream == other) ≡ false → (value : Took) (r : Ready) → ready_in stream at ≡ r → IsSaid value → IsSilent other added
    says_silent_by other apart value ready.Free is says =
        let (r, one, answers) = says.free is in
        let (deed, tooks) = answers in
        silent_one other added r (Gave (Speech stream said)) one deed (silent_elsewhere stream other said apart)
    says_silent_by other apart value ready.Busy is says = silent_none other added (says.busy is).0
    says_silent_by other apart value ready.Gone is says = silent_none other added (says.gone is).0

    says_silent : (other : ℕ) → (stream == other) ≡ false → IsSilent other added
    says_silent other apart = silent_unless added answer IsSaid other at.condition (λ value says. says_silent_by other apart value (ready_in stream at) refl says) does

  -- ---- a status of HTTP

  module _ (stream status : ℕ) (answer : Result Took WireFaultOut) (does : StatesOrTells stream status answer found added) where
    abbrev IsStated : Took → Type 0
    IsStated value = StatesOn stream status value found added

    abbrev its_input : Input
    its_input = Speech stream (Status status)

    refused_so : (r : WireRecord) → r.deed ≡ Refused its_input → Leaves r.deed at r.left → r.left ≡ at
    refused_so r is leaves = (its_leaves r (Refused its_input) at is leaves).1

    none_taken : IsOpen found → TakesNoStatus stream at → IsAccepted its_input (line_of at) → ⊥
    none_taken is_open (inl gone) = not_free stream (Status status) at ready.Gone is_open gone (λ e. cc)
    none_taken is_open (inr (free, begun)) = no_status stream status at begun

    status_by : (value : Took) (r : WireRecord) → IsOpen found → AnswersStatus stream status at value r → Leaves r.deed at r.left → Says stream (Status status) value at r.left
    status_by took.Taken r is_open (deed, tooks) leaves = says_by stream (Status status) took.Taken at r leaves deed tooks
    status_by took.WriteFault r is_open (deed, tooks) leaves = says_by stream (Status status) took.WriteFault at r leaves deed tooks
    status_by took.NoMemory r is_open (deed, tooks) leaves = says_by stream (Status status) took.NoMemory at r leaves deed tooks
    status_by took.Busy r is_open (deed, busy) leaves = (not_free stream (Status status) at ready.Busy is_open busy (λ e. cc), refused_so r deed leaves)
    status_by took.Gone r is_open (deed, none) leaves = (none_taken is_open none, refused_so r deed leaves)

    lost_by : (value : Took) (r : WireRecord) → value ≡ took.NoMemory → r.deed ≡ Starved its_input → Leaves r.deed at r.left → Says stream (Status status) value at r.left
    lost_by value r is deed leaves = subst (λ (t : Took). Says stream (Status status) t at r.left) (sym is) (starves_so r its_input at deed leaves)

    stated_so : (value : Took) → IsOpen found → IsStated value → Says stream (Status status) value at now
    stated_so value is_open states =
        let (r, one, by) = states.is_open is_open in
        by_one (Says stream (Status status) value) r one (λ leaves.
        in_room found (AnswersStatus stream status at value r) ((r.deed ≡ Starved its_input) × (value ≡ took.NoMemory)) by
        (λ answers. status_by value r is_open answers leaves)
        (λ lost. lost_by value r lost.1 lost.0 leaves))

    states_turn : DoesWhereOpen (others_of old) (others_of new) (left_in old.seen) now (Says stream (Status status) (told_by answer)) (TellsTook (left_in old.seen) (told_by answer))
    states_turn = does_so (Says stream (Status status) (told_by answer)) (TellsTook (left_in old.seen) (told_by answer))
        (λ is_open.
        let (value, is, states) = done_open added answer IsStated at.condition is_open does in
        subst (λ (t : Took). Says stream (Status status) t at now) (sym (ap told_by is)) (stated_so value is_open states))
        (λ is_closed.
        let (none, told) = told_closed added answer IsStated at.condition is_closed (λ value is states. (states.closed (not_open at.condition is_closed)).0) does in
        (none, λ was_open. took_told at.condition answer told))

    status_silent : (other : ℕ) → (stream == other) ≡ false → (value : Took) (r : WireRecord) → added ≡ r ∷ [] → AnswersStatus stream status at value r → IsSilent other added
    status_silent other apart took.Taken r one (deed, tooks) = silent_one other added r (Gave its_input) one deed (silent_elsewhere stream other (Status status) apart)
    status_silent other apart took.WriteFault r one (deed, tooks) = silent_one other added r (Gave its_input) one deed (silent_elsewhere stream other (Status status) apart)
    status_silent other apart took.NoMemory r one (deed, tooks) = silent_one other added r (Gave its_input) one deed (silent_elsewhere stream other (Status status) apart)
    status_silent other apart took.Busy r one (deed, busy) = silent_one other added r (Refused its_input) one deed refl
    status_silent other apart took.Gone r one (deed, none) = silent_one other added r (Refused its_input) one deed refl

    stated_silent : (other : ℕ) → (stream == other) ≡ false → (value : Took) → IsStated value → IsSilent other added
    stated_silent other apart value states =
        silent_added other found added (λ (r : WireRecord). ByRoom found (AnswersStatus stream status at value r) ((r.deed ≡ Starved its_input) × (value ≡ took.NoMemory))) (value ≡ took.Gone) states
        (λ r one by. in_room found (AnswersStatus stream status at value r) ((r.deed ≡ Starved its_input) × (value ≡ took.NoMemory)) by
        (λ answers. status_silent other apart value r one answers)
        (λ lost. silent_one other added r (Starved its_input) one lost.0 refl))

    states_silent : (other : ℕ) → (stream == other) ≡ false → IsSilent other added
    states_silent other apart = silent_unless added answer IsStated other at.condition (λ value states. stated_silent other apart value states) does

  -- ---- an event

  module _ (event : RecvEvent) (answer : Result (Unit {0}) WireFaultOut) (does : ActsOrEnds event answer found added) where
    abbrev HasStarved : WireRecord → Type 0
    HasStarved r = (r.deed ≡ Starved (Event event)) × (does.done ≡ Err faults.NoMemory)

    whole : (acted ended : List WireRecord) → does.acted ≡ acted → does.ended ≡ ended → added ≡ acted ++ ended
    whole acted ended one two = does.whole ∙ (λ i. one i ++ two i)

    -- nothing was done behind it
    acts_alone : (done : Result (Unit {0}) WireFaultOut) (r : WireRecord) → does.acted ≡ r ∷ [] → does.ended ≡ [] → answer ≡ done → (Leaves r.deed at r.left → Acts event done at r.left) → Acts event answer at now
    acts_alone done r one none is acts =
        subst (λ (a : Result (Unit {0}) WireFaultOut). Acts event a at now) (sym is) (by_one (Acts event done) r (whole (r ∷ []) [] one none) acts)

    -- the connection was ended for it
    too_far : (ended : Result (Unit {0}) WireFaultOut) (left : Progress) → answer ≡ overflow_or ended → overflows event (line_of at) ≡ true → Closes flow_control_error ended at left → Acts event answer at left
    too_far (Ok tt) left is over closes = subst (λ (a : Result (Unit {0}) WireFaultOut). Acts event a at left) (sym is) (over, closes)
    too_far (Err faults.WriteFault) left is over closes = subst (λ (a : Result (Unit {0}) WireFaultOut). Acts event a at left) (sym is) (inr (over, closes))
    too_far (Err faults.NoMemory) left is over never = absurd never
    too_far (Err faults.Overflow) left is over never = absurd never

    acts_ended : (ended : Result (Unit {0}) WireFaultOut) (r : WireRecord) → IsOpen found → does.acted ≡ r ∷ [] → r.deed ≡ Refused (Event event) → EndsOn flow_control_error ended (found ++ does.acted) does.ended → answer ≡ overflow_or ended → Acts event answer at now
    acts_ended ended r is_open one deed ends is =
        let (over, same) = its_leaves r (Refused (Event event)) at deed (leaves r does.ended (whole (r ∷ []) does.ended one refl)) in
        let left : left_in (found ++ does.acted) ≡ r.left = ap (λ (l : List WireRecord). left_in (found ++ l)) one ∙ ap (λ (x : WireRecord). x.left) (last_is found r) in
        let (last, two, answers) = ends.is_open (ap (λ (p : Progress). p.condition) (left ∙ same) ∙ is_open) in
        let all = whole (r ∷ []) (last ∷ []) one two in
        let closes : Closes flow_control_error ended r.left last.left = closes_by flow_control_error ended r.left last (its_first r last [] (its_rest (last_record found) r (last ∷ []) (follows (r ∷ last ∷ []) all))) answers in
        too_far ended now is over (subst (λ (p : Progress). Closes flow_control_error ended at p) (sym (now_is (r ∷ last ∷ []) all)) (subst (λ (p : Progress). Closes flow_control_error ended p last.left) same closes))

    acts_room : (done : Result (Unit {0}) WireFaultOut) (r : WireRecord) → IsOpen found → does.acted ≡ r ∷ [] → AnswersEvent event done r → EndsIfTooFar done answer (found ++ does.acted) does.ended → Acts event answer at now
    acts_room (Ok tt) r is_open one answers (none, is) = acts_alone (Ok tt) r one none is (λ leaves. acts_by event (Ok tt) at r leaves answers (λ e. cc))
    acts_room (Err faults.WriteFault) r is_open one answers (none, is) = acts_alone (Err faults.WriteFault) r one none is (λ leaves. acts_by event (Err faults.WriteFault) at r leaves answers (λ e. cc))
    acts_room (Err faults.NoMemory) r is_open one answers (none, is) = acts_alone (Err faults.NoMemory) r one none is (λ leaves. acts_by event (Err faults.NoMemory) at r leaves answers (λ e. cc))
    acts_room (Err faults.Overflow) r is_open one deed (ended, ends, is) = acts_ended ended r is_open one deed ends is

    acts_lost : (r : WireRecord) → does.acted ≡ r ∷ [] → HasStarved r → Acts event answer at now
    acts_lost r one (deed, is) =
        let (none, told) = subst (λ (d : Result (Unit {0}) WireFaultOut). EndsIfTooFar d answer (found ++ does.acted) does.ended) is does.ends in
        acts_alone (Err faults.NoMemory) r one none told (λ leaves. starves_so r (Event event) at deed leaves)

    -- it was closed before
    told_so : (state : Condition) (done : Result (Unit {0}) WireFaultOut) → done ≡ answer_of state → EndsIfTooFar done answer (found ++ does.acted) does.ended → (does.ended ≡ []) × (answer ≡ answer_of state)
    told_so condition.New done is ends = subst (λ (d : Result (Unit {0}) WireFaultOut). EndsIfTooFar d answer (found ++ does.acted) does.ended) is ends
    told_so condition.Open done is ends = subst (λ (d : Result (Unit {0}) WireFaultOut). EndsIfTooFar d answer (found ++ does.acted) does.ended) is ends
    told_so condition.Finished done is ends = subst (λ (d : Result (Unit {0}) WireFaultOut). EndsIfTooFar d answer (found ++ does.acted) does.ended) is ends
    told_so condition.WriteFault done is ends = subst (λ (d : Result (Unit {0}) WireFaultOut). EndsIfTooFar d answer (found ++ does.acted) does.ended) is ends
    told_so condition.NoMemory done is ends = subst (λ (d : Result (Unit {0}) WireFaultOut). EndsIfTooFar d answer (found ++ does.acted) does.ended) is ends

    acts_turn : DoesWhereOpen (others_of old) (others_of new) (left_in old.seen) now (Acts event answer) (TellsDone answer)
    acts_turn = does_so (Acts event answer) (TellsDone answer)
        (λ is_open.
        let (r, one, by) = does.acts.is_open is_open in
        in_room found (AnswersEvent event does.done r) (HasStarved r) by
        (λ answers. acts_room does.done r is_open one answers does.ends)
        (λ lost. acts_lost r one lost))
        (λ is_closed.
        let (none, is) = does.acts.closed (not_open at.condition is_closed) in
        let (nothing, told) = told_so at.condition does.done is does.ends in
        (whole [] [] none nothing, told))

    event_silent : (stream : ℕ) (done : Result (Unit {0}) WireFaultOut) (r : WireRecord) → does.acted ≡ r ∷ [] → AnswersEvent event done r → IsSilent stream does.acted
    event_silent stream (Ok tt) r one (deed, state) = silent_one stream does.acted r (Gave (Event event)) one deed refl
    event_silent stream (Err faults.WriteFault) r one (deed, state) = silent_one stream does.acted r (Gave (Event event)) one deed refl
    event_silent stream (Err faults.NoMemory) r one (deed, state, opens) = silent_one stream does.acted r (Gave (Event event)) one deed refl
    event_silent stream (Err faults.Overflow) r one deed = silent_one stream does.acted r (Refused (Event event)) one deed refl

    acted_silent : (stream : ℕ) → IsSilent stream does.acted
    acted_silent stream =
        silent_added stream found does.acted (λ (r : WireRecord). ByRoom found (AnswersEvent event does.done r) (HasStarved r)) (does.done ≡ fault_in found) does.acts
        (λ r one by. in_room found (AnswersEvent event does.done r) (HasStarved r) by
        (λ answers. event_silent stream does.done r one answers)
        (λ lost. silent_one stream does.acted r (Starved (Event event)) one lost.0 refl))

    ended_silent : (stream : ℕ) (done : Result (Unit {0}) WireFaultOut) → EndsIfTooFar done answer (found ++ does.acted) does.ended → IsSilent stream does.ended
    ended_silent stream (Ok tt) (none, is) = silent_none stream does.ended none
    ended_silent stream (Err faults.WriteFault) (none, is) = silent_none stream does.ended none
    ended_silent stream (Err faults.NoMemory) (none, is) = silent_none stream does.ended none
    ended_silent stream (Err faults.Overflow) (ended, ends, is) = ends_silent stream flow_control_error ended (found ++ does.acted) does.ended ends

    acts_silent : (stream : ℕ) → IsSilent stream added
    acts_silent stream = subst (IsSilent stream) (sym does.whole) (silent_both stream does.acted does.ended (acted_silent stream) (ended_silent stream does.done does.ends))

-- ---- the calls of a session

module _ (old new : VisitView) where
  pub grown : (Does : List WireRecord → List WireRecord → Type 0) → DoesInTurn Does old new → HasGrown (visit_history old) (visit_history new)
  grown Does d = grown_so old new d.found d.added d.turn

  pub reads : (stream : ℕ) (answer : Result Ready WireFaultOut) → DoesInTurn (ReadsOrTells stream answer) old new
      → DoesWhereOpen (others_of old) (others_of new) (left_in old.seen) (left_in new.seen) (Reads stream answer) (TellsFault (left_in old.seen) answer)
  reads stream answer d = reads_turn old new d.found d.added d.turn stream answer d.does

  pub reads_nothing : (stream : ℕ) (answer : Result Ready WireFaultOut) → DoesInTurn (ReadsOrTells stream answer) old new → SaysNothing (visit_history old) (visit_history new)
  reads_nothing stream answer d other = silent_so old new d.found d.added d.turn other (reads_silent old new d.found d.added d.turn stream answer d.does other)

  pub acts : (event : RecvEvent) (answer : Result (Unit {0}) WireFaultOut) → DoesInTurn (ActsOrEnds event answer) old new
      → DoesWhereOpen (others_of old) (others_of new) (left_in old.seen) (left_in new.seen) (Acts event answer) (TellsDone answer)
  acts event answer d = acts_turn old new d.found d.added d.turn event answer d.does

  pub acts_nothing : (event : RecvEvent) (answer : Result (Unit {0}) WireFaultOut) → DoesInTurn (ActsOrEnds event answer) old new → SaysNothing (visit_history old) (visit_history new)
  acts_nothing event answer d other = silent_so old new d.found d.added d.turn other (acts_silent old new d.found d.added d.turn event answer d.does other)

  pub closes : (code : ℕ) (answer : Result (Unit {0}) WireFaultOut) → DoesInTurn (EndsOn code answer) old new
      → DoesWhereOpen (others_of old) (others_of new) (left_in old.seen) (left_in new.seen) (Closes code answer) (TellsDone answer)
  closes code answer d = closes_turn old new d.found d.added d.turn code answer d.does

  pub closes_nothing : (code : ℕ) (answer : Result (Unit {0}) WireFaultOut) → DoesInTurn (EndsOn code answer) old new → SaysNothing (visit_history old) (visit_history new)
  closes_nothing code answer d other = silent_so old new d.found d.added d.turn other (ends_silent other code answer d.found d.added d.does)

  module _ (stream : ℕ) (answer : Result Took WireFaultOut) (told : Took) (is : told ≡ told_by answer) where
    pub says : (said : Said) → DoesInTurn (SaysOrTells stream said answer) old new
        → DoesWhereOpen (others_of old) (others_of new) (left_in old.seen) (left_in new.seen) (Says stream said told) (TellsTook (left_in old.seen) told)
    says said d =
        subst (λ (t : Took). DoesWhereOpen (others_of old) (others_of new) (left_in old.seen) (left_in new.seen) (Says stream said t) (TellsTook (left_in old.seen) t)) (sym is)
        (says_turn old new d.found d.added d.turn stream said answer d.does)

    pub states : (status : ℕ) → DoesInTurn (StatesOrTells stream status answer) old new
        → DoesWhereOpen (others_of old) (others_of new) (left_in old.seen) (left_in new.seen) (Says stream (Status status) told) (TellsTook (left_in old.seen) told)
    states status d =
        subst (λ (t : Took). DoesWhereOpen (others_of old) (others_of new) (left_in old.seen) (left_in new.seen) (Says stream (Status status) t) (TellsTook (left_in old.seen) t)) (sym is)
        (states_turn old new d.found d.added d.turn stream status answer d.does)

  pub says_there : (stream : ℕ) (answer : Result Took WireFaultOut) (said : Said) → DoesInTurn (SaysOrTells stream said answer) old new → SaysThere stream (visit_history old) (visit_history new)
  says_there stream answer said d other apart = silent_so old new d.found d.added d.turn other (says_silent old new d.found d.added d.turn stream said answer d.does other apart)

  pub states_there : (stream : ℕ) (answer : Result Took WireFaultOut) (status : ℕ) → DoesInTurn (StatesOrTells stream status answer) old new → SaysThere stream (visit_history old) (visit_history new)
  states_there stream answer status d other apart = silent_so old new d.found d.added d.turn other (states_silent old new d.found d.added d.turn stream status answer d.does other apart)

-- ---- the session's own port

pub still_own : (Does : List WireRecord → List WireRecord → Type 0) (old new : VisitView) → DoesInTurn Does old new → IsOwnVisit old → IsOwnVisit new
still_own Does old new d own = record {
  unused = subst (λ (met : List VisitEnd). AllByRecursion IsUnused met) (sym (ap (λ (v : VisitView). v.met) d.turn.new_is)) own.unused;
  records = subst AreRecords (sym (ap (λ (v : VisitView). v.seen) d.turn.new_is)) d.turn.records_on;
  at = own.at;
  first = ap (λ (v : VisitView). v.start) d.turn.new_is ∙ own.first;
  none = own.none;
}
