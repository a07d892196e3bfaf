-- What a turn holds, behind one record more.
use Rattle.std.proofs.Common.{◌≡◌, ◌⊎◌, inl, inr, ℕ, ◌+◌, ◌^◌, ◌<◌, List, [], ◌∷◌, ◌++◌, false, length, Result, Ok, Err, refl, sym, ap, ◌∙◌, subst, arith, length-append, append-nil}
use Rattle.environment.specs.Output.{Output}
use Rattle.h2_events.specs.declared.port.Ready.TheVariants as ready
use Rattle.h2_events.specs.declared.port.Took.{Took}
use Rattle.h2_events.specs.declared.port.Took.TheVariants as took
use Rattle.h2_send.specs.Conditions.{answer_of, condition_after, IsClosed}
use Rattle.h2_events.specs.Items.{said_by}
use Rattle.h2_events.specs.declared.said.Piece.{Piece}
use Rattle.h2_events.specs.declared.said.Piece.TheVariants as piece
use Rattle.h2_events.specs.declared.said.Said.{Said}
use Rattle.h2_send.specs.Inputs.{Speech, input_of}
use Rattle.h2_send.specs.Port.{Progress, ready_in}
use Rattle.h2_send.specs.Wires.{WireView, Does, IsFolded, finished, progress_of}
use Rattle.h2_send.specs.declared.given.Given.{Given}
use Rattle.h2_send.specs.declared.fault.WireFaultOut.{WireFaultOut}
use Rattle.h2_send.specs.declared.fault.WireFaultOut.TheVariants as fault
use Rattle.h2_send.specs.declared.condition.Condition.{Condition}
use Rattle.h2_send.specs.declared.condition.Condition.TheVariants as condition
use Rattle.h2_send.proofs.Closing.{open_line}
use Rattle.shared_wire.specs.Records.{WireRecord, FitsTypes, IsPorts, Leaves, Adds, AddsWhereOpen, AnswersEnd, AnswersPiece, SaysOn, AreRecords, HasNoRoom, IsLastRoom, IsOpen, ByRoom, fault_in, last_record, left_in, most_records}
use Rattle.shared_wire.specs.Parts.{FitTypes, input_parts}
use Rattle.shared_wire.specs.Visits.{IsLeftClosed, StandsBehind}
use Rattle.shared_wire.specs.inner.Holding.{Holds}
use Rattle.shared_wire.specs.inner.Logging.{Loses, acted_so, condition_by, deed_of, left_by, starved_record, stated_so}
use Rattle.shared_wire.specs.declared.log.Noted.{Noted}
use Rattle.shared_wire.specs.declared.log.Noted.TheVariants as noted
use Rattle.shared_wire.proofs.Following.{last_is, records_more}
use Rattle.shared_wire.proofs.Leaving.{noted_record, ends_silently}

pub closed_not_open : (state : Condition) → IsClosed state → state ≡ condition.Open → ⊥
closed_not_open state closed is = subst IsClosed is closed

-- what is noted has the bits of its types where what the call was given has them
pub acted_fits : (given : Given) (result : Result (Unit {0}) WireFaultOut) → FitTypes (input_parts (input_of given)) → FitsTypes (deed_of (acted_so given result))
acted_fits given (Ok tt) fits = fits
acted_fits given (Err fault.WriteFault) fits = fits
acted_fits given (Err fault.NoMemory) fits = fits
acted_fits given (Err fault.Overflow) fits = fits

pub stated_fits : (given : Given) (answer : Took) → FitTypes (input_parts (input_of given)) → FitsTypes (deed_of (stated_so given answer))
stated_fits given took.Taken fits = fits
stated_fits given took.Busy fits = fits
stated_fits given took.Gone fits = fits
stated_fits given took.WriteFault fits = fits
stated_fits given took.NoMemory fits = fits

-- 16 bits are fewer than 64
pub wider : (n : ℕ) → n < 2 ^ 16 → n < 2 ^ 64
wider n small = omega (arith, small)

pub said_fits : (stream : ℕ) (said : Piece) → stream < 2 ^ 32 → FitTypes (input_parts (Speech stream (said_by said)))
said_fits stream (piece.Message octets) small = (small, omega arith)
said_fits stream (piece.Finish refusal) small = (small, omega arith)

-- how it stands behind one record more, which tells of the wire as it is left
module _ {S : Type 0} (seen : S → Output) (v : WireView S) (rs : List WireRecord) (r : WireRecord) (are : AreRecords rs) (is_open : IsOpen rs) (leaves : Leaves r.deed (left_in rs) r.left) (some : IsPorts r.author r.deed) where
  abbrev all : List WireRecord
  all = rs ++ r ∷ []

  last : last_record all ≡ r
  last = last_is rs r

  are_all : AreRecords all
  are_all = records_more rs r are is_open leaves some

  pub stands_behind : seen v.sink ≡ r.left.output → (r.left.condition ≡ condition.Open → progress_of seen v ≡ r.left) → IsLeftClosed r.left.condition all v.condition → StandsBehind seen all v
  stands_behind output opened closed = record {
    records = are_all;
    output = output ∙ ap (λ (x : WireRecord). x.left.output) (sym last);
    is_open = λ is. opened (ap (λ (x : WireRecord). x.left.condition) (sym last) ∙ is) ∙ ap (λ (x : WireRecord). x.left) (sym last);
    closed = λ is. subst (λ (x : WireRecord). IsLeftClosed x.left.condition all v.condition) (sym last) closed;
  }

  counted : (count : ℕ) → length rs ≡ count → length all ≡ count + 1
  counted count is = let l = length-append rs (r ∷ []) in omega (arith, l, is)

  answers_so : (state : Condition) → r.left.condition ≡ state → answer_of state ≡ fault_in all
  answers_so state left_state = sym (ap (λ (x : WireRecord). answer_of x.left.condition) last ∙ ap answer_of left_state)

  -- the wire stands as this call left it, and there was room for it
  left_so : (state : Condition) → v.condition ≡ state → (state ≡ condition.NoMemory → HasNoRoom all → ⊥) → IsLeftClosed state all v.condition
  left_so condition.New is room = is
  left_so condition.Open is room = is
  left_so condition.Finished is room = is
  left_so condition.WriteFault is room = is
  left_so condition.NoMemory is room = (λ full. absurd (room refl full), λ _. is)

  -- the wire goes on, or this call closed it
  pub holds_on : (state : Condition) (count : ℕ) → length rs ≡ count → progress_of seen v ≡ r.left → v.condition ≡ state → IsFolded v.condition v.line v.inputs → ((state ≡ condition.Open) ⊎ (state ≡ condition.NoMemory) → count + 1 < most_records) → Holds seen state v all (count + 1)
  holds_on state count long is stands folded room = record {
    counted = counted count long;
    stands = stands_behind (ap (λ (p : Progress). p.output) is) (λ _. is) (subst (λ s. IsLeftClosed s all v.condition) (sym left_state) (left_so state stands some_room));
    answers = answers_so state left_state;
    is_open = λ then_. record {
      is_open = ap (λ (x : WireRecord). x.left.condition) last ∙ left_state ∙ then_;
      wire_open = stands ∙ then_;
      line = open_line v.condition v.line v.inputs (stands ∙ then_) folded;
      room = room (inl then_);
    };
    closed = λ shut is. shut (sym left_state ∙ ap (λ (x : WireRecord). x.left.condition) (sym last) ∙ is);
  }
    where
      left_state : r.left.condition ≡ state
      left_state = ap (λ (p : Progress). p.condition) (sym is) ∙ stands

      some_room : state ≡ condition.NoMemory → HasNoRoom all → ⊥
      some_room wants full = let less = room (inr wants) in let many = counted count long in omega (arith, less, many, full)

  -- there was room for this record alone, and the wire is closed
  pub holds_starved : (count : ℕ) → length rs ≡ count → IsLastRoom rs → seen v.sink ≡ r.left.output → v.condition ≡ condition.Finished → r.left.condition ≡ condition.NoMemory → Holds seen condition.NoMemory v all (count + 1)
  holds_starved count long last_room output closed left_state = record {
    counted = counted count long;
    stands = stands_behind output (λ is. absurd (not_open is)) (subst (λ s. IsLeftClosed s all v.condition) (sym left_state) (λ _. closed, λ room. absurd (room full)));
    answers = answers_so condition.NoMemory left_state;
    is_open = λ never. absurd cc;
    closed = λ shut is. not_open (ap (λ (x : WireRecord). x.left.condition) (sym last) ∙ is);
  }
    where
      not_open : r.left.condition ≡ condition.Open → ⊥
      not_open is = closed_not_open condition.NoMemory tt (sym left_state ∙ is)

      full : HasNoRoom all
      full = let l = length-append rs (r ∷ []) in omega (arith, l, last_room)

-- ---- what is added

pub adds_none : (author : ℕ) (rs : List WireRecord) → AreRecords rs → Adds author rs [] rs
adds_none author rs are = record { whole = sym (append-nil rs); by = tt; records = are }

pub adds_one : (author : ℕ) (rs : List WireRecord) (r : WireRecord) → r.author ≡ author → AreRecords rs → IsOpen rs → Leaves r.deed (left_in rs) r.left → IsPorts r.author r.deed → Adds author rs (r ∷ []) (rs ++ r ∷ [])
adds_one author rs r is are is_open leaves some = record { whole = refl; by = (is, tt); records = records_more rs r are is_open leaves some }

pub open_of : (state : Condition) → ((state ≡ condition.Open → ⊥) → ⊥) → state ≡ condition.Open
open_of condition.New never = absurd (never (λ is. absurd cc))
open_of condition.Open never = refl
open_of condition.Finished never = absurd (never (λ is. absurd cc))
open_of condition.WriteFault never = absurd (never (λ is. absurd cc))
open_of condition.NoMemory never = absurd (never (λ is. absurd cc))

-- ---- one call on a wire that a turn found open

module _ {S : Type 0} (seen : S → Output) (author : ℕ) (w v : WireView S) (state : Condition) (log new : List WireRecord) (count : ℕ) (h : Holds seen state w log count) (is_open : state ≡ condition.Open) (entry deed : Noted) (is : entry ≡ deed) (new_is : new ≡ log ++ noted_record seen author entry v ∷ []) (leaves : Leaves (deed_of deed) (progress_of seen w) (left_by deed (progress_of seen v))) (some : IsPorts author (deed_of deed)) where
  abbrev pub its_record : WireRecord
  its_record = noted_record seen author deed v

  all_is : new ≡ log ++ its_record ∷ []
  all_is = new_is ∙ ap (λ d. log ++ noted_record seen author d v ∷ []) is

  leaves_here : Leaves its_record.deed (left_in log) its_record.left
  leaves_here = subst (λ at. Leaves its_record.deed at its_record.left) (h.stands.is_open (h.is_open is_open).is_open) leaves

  pub noted_adds : Adds author log (its_record ∷ []) new
  noted_adds = subst (Adds author log (its_record ∷ [])) (sym all_is) (adds_one author log its_record refl h.stands.records (h.is_open is_open).is_open leaves_here some)

  pub noted_holds : (next : Condition) → left_by deed (progress_of seen v) ≡ progress_of seen v → v.condition ≡ next → IsFolded v.condition v.line v.inputs → ((next ≡ condition.Open) ⊎ (next ≡ condition.NoMemory) → count + 1 < most_records) → Holds seen next v new (count + 1)
  noted_holds next kept stands folded room =
      subst (λ l. Holds seen next v l (count + 1)) (sym all_is)
      (holds_on seen v log its_record h.stands.records (h.is_open is_open).is_open leaves_here some next count h.counted (sym kept) stands folded room)

-- ---- a call for which there was no room but the last

module _ {S : Type 0} (seen : S → Output) (author : ℕ) (w v : WireView S) (state : Condition) (log new : List WireRecord) (count : ℕ) (h : Holds seen state w log count) (is_open : IsOpen log) (last_room : IsLastRoom log) (deed : Noted) (loses : Loses deed (left_in log)) (new_is : new ≡ log ++ noted_record seen author deed v ∷ []) (some : IsPorts author (deed_of deed)) where
  pub was_open : state ≡ condition.Open
  was_open = open_of state (λ shut. h.closed shut is_open)

  abbrev at : Progress
  at = left_in log

  abbrev pub lost : WireRecord
  lost = starved_record author deed at

  starved_is : (d : Noted) → Loses d at → progress_of seen v ≡ record at { condition = condition.Finished } → left_by d (progress_of seen v) ≡ left_by d at
  starved_is noted.Began never ends = absurd never
  starved_is (noted.Gave given) never ends = absurd never
  starved_is (noted.Lost given) accepted ends = ap (λ p. left_by (noted.Lost given) p) ends
  starved_is (noted.Refused given) never ends = absurd never
  starved_is (noted.Ended code) never ends = absurd never
  starved_is (noted.Starved given) any ends = ap (λ p. left_by (noted.Starved given) p) ends

  starved_leaves : (d : Noted) → Loses d at → Leaves (deed_of d) at (left_by d at)
  starved_leaves noted.Began never = absurd never
  starved_leaves (noted.Gave given) never = absurd never
  starved_leaves (noted.Lost given) accepted = (accepted, refl, refl)
  starved_leaves (noted.Refused given) never = absurd never
  starved_leaves (noted.Ended code) never = absurd never
  starved_leaves (noted.Starved given) any = refl

  starved_closed : (d : Noted) → Loses d at → ((left_by d at).condition ≡ condition.NoMemory) × (at.output ≡ (left_by d at).output)
  starved_closed noted.Began never = absurd never
  starved_closed (noted.Gave given) never = absurd never
  starved_closed (noted.Lost given) accepted = (refl, refl)
  starved_closed (noted.Refused given) never = absurd never
  starved_closed (noted.Ended code) never = absurd never
  starved_closed (noted.Starved given) any = (refl, refl)

  module _ (result : Result (Unit {0}) WireFaultOut) (does : Does seen false condition.Finished [] (finished 0 w.line) result w v) where
    ends : progress_of seen v ≡ record at { condition = condition.Finished }
    ends = ends_silently seen author w v (h.is_open was_open).line result does ∙ ap (λ p. let q : Progress = record p { condition = condition.Finished } in q) (h.stands.is_open is_open)

    all_lost : new ≡ log ++ lost ∷ []
    all_lost = new_is ∙ ap (λ l. log ++ (let r : WireRecord = record { author = author; deed = deed_of deed; left = l } in r) ∷ []) (starved_is deed loses ends)

    pub starved_adds : Adds author log (lost ∷ []) new
    starved_adds = subst (Adds author log (lost ∷ [])) (sym all_lost) (adds_one author log lost refl h.stands.records is_open (starved_leaves deed loses) some)

    pub starved_holds : Holds seen condition.NoMemory v new (count + 1)
    starved_holds =
        let shut = starved_closed deed loses in
        subst (λ l. Holds seen condition.NoMemory v l (count + 1)) (sym all_lost)
        (holds_starved seen v log lost h.stands.records is_open (starved_leaves deed loses) some count h.counted last_room
        (ap (λ (p : Progress). p.output) ends ∙ shut.1) (ap (λ (p : Progress). p.condition) ends) shut.0)

-- ---- what is noted

pub acted_kept : (given : Given) (result : Result (Unit {0}) WireFaultOut) (p : Progress) → left_by (acted_so given result) p ≡ p
acted_kept given (Ok tt) p = refl
acted_kept given (Err fault.WriteFault) p = refl
acted_kept given (Err fault.NoMemory) p = refl
acted_kept given (Err fault.Overflow) p = refl

pub stated_kept : (given : Given) (answer : Took) (p : Progress) → left_by (stated_so given answer) p ≡ p
stated_kept given took.Taken p = refl
stated_kept given took.Busy p = refl
stated_kept given took.Gone p = refl
stated_kept given took.WriteFault p = refl
stated_kept given took.NoMemory p = refl

-- a connection that was ended is closed, and memory wasn't wanting for that
pub closed_after : (code : ℕ) (result : Result (Unit {0}) WireFaultOut) (r : WireRecord) → AnswersEnd code result r → (condition_after condition.Finished result ≡ condition.Open) ⊎ (condition_after condition.Finished result ≡ condition.NoMemory) → ⊥
closed_after code (Ok tt) r answers (inl is) = absurd cc
closed_after code (Ok tt) r answers (inr is) = absurd cc
closed_after code (Err fault.WriteFault) r answers (inl is) = absurd cc
closed_after code (Err fault.WriteFault) r answers (inr is) = absurd cc
closed_after code (Err fault.NoMemory) r never either = absurd never
closed_after code (Err fault.Overflow) r never either = absurd never

-- a stream that is free neither keeps octets back nor is gone
free_not_busy : {P : Type 0} → ready.Free ≡ ready.Busy → P
free_not_busy is = absurd cc

free_not_gone : {P : Type 0} → ready.Free ≡ ready.Gone → P
free_not_gone is = absurd cc

-- there was room, or none but the last
pub by_room : (found : List WireRecord) (Does Starves : Type 0) → (IsLastRoom found → ⊥) → Does → ByRoom found Does Starves
by_room found Does Starves other does = record { room = λ _. does; last = λ is. absurd (other is) }

pub by_none : (found : List WireRecord) (Does Starves : Type 0) → IsLastRoom found → Starves → ByRoom found Does Starves
by_none found Does Starves is starves = record { room = λ other. absurd (other is); last = λ _. starves }

-- what is said of the one record that a call adds
pub tells_open : (found : List WireRecord) (r : WireRecord) (Tells : WireRecord → Type 0) (Closed : Type 0) → IsOpen found → Tells r → AddsWhereOpen found (r ∷ []) Tells Closed
tells_open found r Tells Closed is_open tells = record { is_open = λ _. (r, refl, tells); closed = λ shut. absurd (shut is_open) }

pub tells_free : (stream : ℕ) (said : Said) (answer : Took) (found : List WireRecord) (r : WireRecord) → ready_in stream (left_in found) ≡ ready.Free → AnswersPiece stream said answer r → (IsLastRoom found → answer ≡ took.NoMemory) → SaysOn stream said answer found (r ∷ [])
tells_free stream said answer found r free tells last = record {
  free = λ _. (r, refl, tells);
  last = λ _. last;
  busy = λ is. free_not_busy (sym free ∙ is);
  gone = λ is. free_not_gone (sym free ∙ is);
}
