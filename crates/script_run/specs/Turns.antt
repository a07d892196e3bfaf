-- What a turn of a book does on a disk that is armed to fail. It settles what is in doubt, lets a trial expire that is due,
-- and then enters what is asked for, where that is accepted. The first call of the disk that doesn't pass ends the turn.
use Rattle.std.specs.Prelude.{ℕ, zero, suc, List, [], ◌∷◌, ◌++◌, Bool, true, false, not, nat_lt, Option, Some, None, option_map, Result, Ok, Err, if◌then◌else◌}
use Rattle.std.specs.List.{list_any}
use Rattle.base_kinds.specs.declared.entry.Entry.{Entry}
use Rattle.base_kinds.specs.declared.refusal.Refusal.{Refusal}
use Rattle.base_kinds.specs.declared.refusal.Refusal.TheVariants.{DiskFault}
use Rattle.base_kinds.specs.declared.entry.View.{View}
use Rattle.base_kinds.specs.declared.path.Elem.{Elem}
use Rattle.base_kinds.specs.Events.{Request, Set, Get, Event, Answer, OfSet, OfGet, is_long, set_answer, get_answer, view_of}
use Rattle.base_kinds.specs.Step.{Rules, after_expiry, step}
use Rattle.disk_model.specs.Arming.{Arming, outcome_of, arming_after, arming_after_calls}
use Rattle.disk_model.specs.declared.outcome.Outcome.{Outcome}
use Rattle.disk_model.specs.declared.outcome.Outcome.TheVariants.{Passes, Fails, Stops}
use Rattle.book_core.specs.Calls.{repair_calls, expiry_entry, answer_entry}

-- a book in the course of a turn
pub record BookState : Type 0 where
  pub history : List Entry
  -- the entry of an append that failed, where it isn't settled whether it stands behind the history
  pub doubt : Option Entry
  pub arming : Arming
  -- whether a call of the disk has failed in this turn
  pub failed : Bool

-- which of several calls fails first, counted from 0, by what the first one does and by which of the others does
abbrev pub failed_first : Outcome → Option ℕ → Option ℕ
failed_first Passes later = option_map (λ call. suc call) later
failed_first Fails later = Some 0
failed_first (Stops fill) later = Some 0

-- which of the next calls fails first, of so many
abbrev pub failed_call : ℕ → Arming → Option ℕ
failed_call zero arming = None
failed_call (suc calls) arming =
    failed_first (outcome_of arming) (failed_call calls (arming_after arming))

-- ---- the repair

abbrev pub settled_by : Option ℕ → BookState → BookState
settled_by None book = record book {
  doubt = None;
  arming = arming_after_calls (repair_calls book.doubt) book.arming;
}
settled_by (Some call) book = record book {
  arming = arming_after_calls (suc call) book.arming;
  failed = true;
}

-- what is in doubt is settled: it doesn't stand
abbrev pub settled : BookState → BookState
settled book = settled_by (failed_call (repair_calls book.doubt) book.arming) book

-- ---- an entry

-- Where one of the four calls of an append failed: the first two write the record, and leave nothing in doubt, and the
-- other two the gate in front of it.
abbrev pub doubt_at : ℕ → Entry → Option Entry
doubt_at call entry = if nat_lt call 2 then None else Some entry

abbrev pub entered_by : Option ℕ → Entry → BookState → BookState
entered_by None entry book = record {
  history = book.history ++ entry ∷ [];
  doubt = None;
  arming = arming_after_calls 4 book.arming;
  failed = book.failed;
}
entered_by (Some call) entry book = record {
  history = book.history;
  doubt = doubt_at call entry;
  arming = arming_after_calls (suc call) book.arming;
  failed = true;
}

-- the entry is the next one of the history, where there is one and no call has failed before
abbrev pub entered : Option Entry → BookState → BookState
entered None book = book
entered (Some entry) book =
    if book.failed then book else entered_by (failed_call 4 book.arming) entry book

-- ---- a turn

unfoldable pub turn : ℕ → Option Entry → BookState → BookState
turn reading asked book = entered asked (entered (expiry_entry book.history reading) (settled book))

-- a request that is refused by itself takes no turn
abbrev pub takes_turn : Request → Bool
takes_turn (Set (Ok ask)) = true
takes_turn (Set (Err refusal)) = false
takes_turn (Get patterns) = not (list_any is_long patterns)

-- the entry that a request becomes, where it is accepted
abbrev pub requested_entry : Rules → List Entry → ℕ → ℕ → Request → Option Entry
requested_entry rules h reading author (Set (Ok ask)) =
    answer_entry (step rules h reading author ask)
requested_entry rules h reading author (Set (Err refusal)) = None
requested_entry rules h reading author (Get patterns) = None

abbrev pub event_entry : Rules → List Entry → Event → Option Entry
event_entry rules h event = requested_entry rules h event.reading event.author event.request

-- the book behind an event
abbrev pub book_after : Rules → Event → BookState → BookState
book_after rules event book =
    if takes_turn event.request
    then turn event.reading (event_entry rules book.history event) book
    else book

-- a request is refused where a call of the disk failed
abbrev pub unless_failed : {T : Type 0} → Bool → Result T Refusal → Result T Refusal
unless_failed failed answer = if failed then Err DiskFault else answer

abbrev pub request_reply : Rules → List Entry → ℕ → ℕ → Request → Bool → Answer
request_reply rules h reading author (Set resolved) failed =
    OfSet (unless_failed failed (set_answer rules h reading author resolved))
request_reply rules h reading author (Get patterns) failed =
    OfGet (unless_failed failed (get_answer h reading patterns))

-- the answer to an event over this history, by whether a call of the disk failed in its turn
abbrev pub turn_answer : Rules → List Entry → Event → Bool → Answer
turn_answer rules h event failed =
    request_reply rules h event.reading event.author event.request failed

-- ---- a look of a subscription

-- To the history it is what a read of nothing is, whoever takes it: the event of the clock alone.
abbrev pub look_event : ℕ → Event
look_event reading = record { reading = reading; author = 1; request = Get [] }

abbrev pub patterns_in : Option (List (List Elem)) → List (List Elem)
patterns_in None = []
patterns_in (Some patterns) = patterns

-- what it shows, by whether a call of the disk failed in its turn
abbrev pub looked_by : Bool → List Entry → ℕ → Option (List (List Elem)) → Result View Refusal
looked_by failed h reading look =
    unless_failed failed (Ok (view_of (after_expiry h reading) (patterns_in look)))
