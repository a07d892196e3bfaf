-- One machine for every front end. What comes to a target, as lines of a script or as calls of clients, is a list of
-- events: each is a request that an author makes at a reading of the clock. It has an answer, and leaves a history.
use Rattle.std.specs.Prelude.{ℕ, List, [], ◌∷◌, Bool, nat_lt, length, Result, Ok, Err, if◌then◌else◌}
use Rattle.std.specs.List.{list_any}
use Rattle.base_kinds.specs.declared.path.Elem.{Elem}
use Rattle.base_kinds.specs.declared.operation.Row.{Row}
use Rattle.base_kinds.specs.declared.entry.Entry.{Entry}
use Rattle.base_kinds.specs.declared.entry.View.{View}
use Rattle.base_kinds.specs.declared.entry.Ask.{Ask}
use Rattle.base_kinds.specs.declared.refusal.Refusal.{Refusal}
use Rattle.base_kinds.specs.declared.refusal.Refusal.TheVariants.{BadPath, NotFound}
use Rattle.base_kinds.specs.History.{world_of, stamp_of}
use Rattle.base_kinds.specs.Limits.{most_elements}
use Rattle.base_kinds.specs.Parts.{part}
use Rattle.base_kinds.specs.Step.{Rules, after_expiry, step, with_answer}

-- A Set, as its request was resolved: what it asks of the target, or why the request is refused by itself (gNMI 3.4).
-- A Get: the patterns of the paths that are read (gNMI 3.3).
pub data Request : Type 0 where
  Set : Result Ask Refusal → Request
  Get : List (List Elem) → Request

pub record Event : Type 0 where
  pub reading : ℕ
  pub author : ℕ
  pub request : Request

-- the entry that a Set became, or the rows that a Get found; or why it is refused
pub data Answer : Type 0 where
  OfSet : Result Entry Refusal → Answer
  OfGet : Result View Refusal → Answer

-- ---- Set

-- a request that is refused by itself meets no event of the clock; any other one is judged behind that event
abbrev pub set_answer : Rules → List Entry → ℕ → ℕ → Result Ask Refusal → Result Entry Refusal
set_answer rules h reading author (Ok ask) = step rules h reading author ask
set_answer rules h reading author (Err refusal) = Err refusal

abbrev pub history_after_set : Rules → List Entry → ℕ → ℕ → Result Ask Refusal → List Entry
history_after_set rules h reading author (Ok ask) =
    with_answer (after_expiry h reading) (step rules h reading author ask)
history_after_set rules h reading author (Err refusal) = h

-- ---- Get

abbrev pub is_long : List Elem → Bool
is_long path = nat_lt most_elements (length path)

-- what the patterns cover of the tree that the history stands for, and the stamp of its last entry
abbrev pub view_of : List Entry → List (List Elem) → View
view_of h patterns = record { stamp = stamp_of h; rows = part patterns (world_of h).tree }

abbrev pub is_empty_part : List Row → List Elem → Bool
is_empty_part rows pattern = nat_lt (length (part (pattern ∷ []) rows)) 1

-- a pattern that covers no row is refused (gNMI 3.3.4)
abbrev pub view_or_not_found : List Entry → List (List Elem) → Result View Refusal
view_or_not_found h patterns =
    if list_any (is_empty_part (world_of h).tree) patterns then Err NotFound
    else Ok (view_of h patterns)

-- a path with too many elements is refused at once; any other ones are read behind the event of the clock
abbrev pub get_answer : List Entry → ℕ → List (List Elem) → Result View Refusal
get_answer h reading patterns =
    if list_any is_long patterns then Err BadPath
    else view_or_not_found (after_expiry h reading) patterns

abbrev pub history_after_get : List Entry → ℕ → List (List Elem) → List Entry
history_after_get h reading patterns =
    if list_any is_long patterns then h else after_expiry h reading

-- ---- events

abbrev pub request_answer : Rules → List Entry → ℕ → ℕ → Request → Answer
request_answer rules h reading author (Set resolved) =
    OfSet (set_answer rules h reading author resolved)
request_answer rules h reading author (Get patterns) = OfGet (get_answer h reading patterns)

abbrev pub history_after_request : Rules → List Entry → ℕ → ℕ → Request → List Entry
history_after_request rules h reading author (Set resolved) =
    history_after_set rules h reading author resolved
history_after_request rules h reading author (Get patterns) = history_after_get h reading patterns

abbrev pub event_answer : Rules → List Entry → Event → Answer
event_answer rules h event = request_answer rules h event.reading event.author event.request

abbrev pub history_after : Rules → List Entry → Event → List Entry
history_after rules h event = history_after_request rules h event.reading event.author event.request

-- the answers to events that come one after another, and the history behind them all
abbrev pub event_answers : Rules → List Entry → List Event → List Answer
event_answers rules h [] = []
event_answers rules h (event ∷ events) =
    event_answer rules h event ∷ event_answers rules (history_after rules h event) events

abbrev pub history_after_all : Rules → List Entry → List Event → List Entry
history_after_all rules h [] = h
history_after_all rules h (event ∷ events) =
    history_after_all rules (history_after rules h event) events
