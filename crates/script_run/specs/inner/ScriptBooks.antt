-- A script's book, what a turn leaves of it, and what the openings behind a stop do.
use Rattle.std.specs.Prelude.{◌≡◌, ℕ, suc, ◌<◌, List, [], ◌∷◌, ◌++◌, Bool, true, false, length, Option, None, Some, Result}
use Rattle.base_kinds.specs.declared.path.Elem.{Elem}
use Rattle.base_kinds.specs.declared.entry.Ask.{Ask}
use Rattle.base_kinds.specs.declared.request.UnresolvedSet.{UnresolvedSet}
use Rattle.base_kinds.specs.declared.entry.Limits.{Limits}
use Rattle.base_kinds.specs.Events.{Set, Get, Event}
use Rattle.base_kinds.specs.Schema.{SchemaNode}
use Rattle.base_kinds.specs.Step.{step}
use Rattle.disk_model.specs.Arming.{Arming, arming_after_calls, restarted, unarmed}
use Rattle.disk_model.specs.Images.{mask_after_sync}
use Rattle.memory_disks.specs.Fuses.{FuseView}
use Rattle.journal_format.specs.Journal.{IsJournal}
use Rattle.commit_journal.specs.Images.{histories_or}
use Rattle.book_core.specs.Calls.{answer_entry}
use Rattle.book_core.specs.Views.{BookView, history_in}
use Rattle.book_core.specs.laws.DoubtLaws.{IsRunWith}
use Rattle.book_core.specs.laws.ReopeningLaws.{CanReopen}
use Rattle.base_kinds.specs.declared.entry.Entry.{Entry}
use Rattle.book_port.specs.Opened.{reopened, rules_in}
use Rattle.script_run.specs.Requests.{nothing_pending}
use Rattle.script_run.specs.ScriptStates.{ScriptState, book_behind}
use Rattle.script_run.specs.Turns.{BookState, book_after, failed_call, look_event, looked_by, turn}
use Rattle.base_kinds.specs.declared.entry.View.{View}
use Rattle.base_kinds.specs.declared.refusal.Refusal.{Refusal}
use Rattle.script_run.specs.Stops.{Image, IsImageOf, OpensAgain, Restarted, calls_to_open, histories_behind}
use Rattle.script_run.specs.Restarts.{restart_text}
use Rattle.script_run.specs.declared.reopening.Reopening.{Reopening}
use Rattle.script_run.specs.declared.reopening.Reopening.TheVariants.{Ready, Stopped, Failed}
use Rattle.set_request.specs.Resolution.{resolved}

-- the book between two turns
abbrev pub state_of : BookView FuseView → BookState
state_of book = record {
  history = history_in book;
  doubt = book.doubt;
  arming = book.disk.arming;
  failed = false;
}

-- a book without entries, on a disk for which nothing waits
pub record IsNew (schema : List SchemaNode) (limits : Limits)
    (book : BookView FuseView) : Type 0 where
  pub schema_is : book.opened.schema ≡ schema
  pub limits_are : book.opened.limits ≡ limits
  pub history : history_in book ≡ []
  pub doubt : book.doubt ≡ None
  pub arming : book.disk.arming ≡ unarmed

-- what a turn left
pub record IsLeft (left : BookState) (old new : BookView FuseView) : Type 0 where
  pub opened : new.opened ≡ old.opened
  pub history : history_in new ≡ left.history
  pub doubt : new.doubt ≡ left.doubt
  pub arming : new.disk.arming ≡ left.arming

-- the book behind an event
abbrev pub left_by : Event → BookView FuseView → BookState
left_by event book = book_after (rules_in book.opened) event (state_of book)

-- a Set of this author, and the turn of one that asks for this
abbrev pub asked_event : BookView FuseView → ℕ → ℕ → UnresolvedSet → Event
asked_event book reading author request =
    record {
      reading = reading;
      author = author;
      request = Set (resolved book.opened.schema request);
    }

abbrev pub asked_turn : BookView FuseView → ℕ → ℕ → Ask → BookState
asked_turn book reading author ask =
    turn reading (answer_entry (step (rules_in book.opened) (history_in book) reading author ask))
    (state_of book)

-- a read of one pattern
abbrev pub read_event : ℕ → ℕ → List Elem → Event
read_event reading author pattern =
    record { reading = reading; author = author; request = Get (pattern ∷ []) }

-- A look of a subscription is to the history what a read of nothing is, whoever takes it: the event of the clock alone.
abbrev pub left_by_look : Option (List (List Elem)) → ℕ → BookView FuseView → BookState
left_by_look None reading book = state_of book
left_by_look (Some patterns) reading book = left_by (look_event reading) book

-- what it shows
abbrev pub looked_at : Option (List (List Elem)) → ℕ → BookView FuseView → Result View Refusal
looked_at look reading book =
    looked_by (left_by_look look reading book).failed (history_in book) reading look

-- the state behind a Set
abbrev pub state_after_set : Event → ScriptState → ScriptState
state_after_set event state = let left = book_behind (Some event) state in
    record {
      schema = state.schema;
      limits = state.limits;
      reading = state.reading;
      pending = nothing_pending;
      subs = state.subs;
      calls = state.calls;
      history = left.history;
      doubt = left.doubt;
      arming = left.arming;
    }

-- what is in doubt may stand behind the history
abbrev pub MayStand : BookView FuseView → Type 0
MayStand book = IsRunWith book.opened (history_in book) book.doubt

-- ---- openings behind a stop

-- a disk with a journal that may be gone on from under the schema
pub record IsReopenable (schema : List SchemaNode) (disk : FuseView) : Type 0 where
  pub limits : Limits
  pub history : List Entry
  pub journal : IsJournal disk.content.seen limits history
  pub can : CanReopen schema history
  pub synced : disk.content.mask ≡ mask_after_sync disk.content.seen
  pub running : disk.arming.stopped ≡ false

-- what a disk has whose octets are the journal of this history
abbrev pub image_on : FuseView → List Entry → Image
image_on disk history = record { octets = disk.content.seen; history = history }

-- the book that was opened
pub record IsRestarted (schema : List SchemaNode) (limits : Limits) (restart : Restarted)
    (book : BookView FuseView) : Type 0 where
  pub schema_is : book.opened.schema ≡ schema
  pub limits_are : book.opened.limits ≡ limits
  pub history_is : history_in book ≡ restart.history
  -- no call has left a mark as yet
  pub counted : length book.chronicle ≡ length restart.history
  pub no_doubt : book.doubt ≡ None
  pub arming_is : book.disk.arming ≡ restart.arming

abbrev pub IsRestartedIfAny : List SchemaNode → Limits → Option Restarted
    → Option (BookView FuseView) → Type 0
IsRestartedIfAny schema limits None None = Unit {0}
IsRestartedIfAny schema limits None (Some book) = ⊥
IsRestartedIfAny schema limits (Some restart) None = ⊥
IsRestartedIfAny schema limits (Some restart) (Some book) = IsRestarted schema limits restart book

-- the openings from this image on, what they print, and the book
pub record Restarting (schema : List SchemaNode) (limits : Limits) (now : ℕ) (image : Image)
    (arming : Arming) (before after : List ℕ) (book : Option (BookView FuseView)) : Type 0 where
  pub later : List Image
  pub ending : Option Restarted
  pub opens : OpensAgain image later limits now arming ending
  pub added : after ≡ before ++ restart_text later ending
  pub book_is : IsRestartedIfAny schema limits ending book

-- that from what the disk has
abbrev pub RestartsOn : List SchemaNode → ℕ → FuseView → List ℕ → List ℕ
    → Option (BookView FuseView) → Type 0
RestartsOn schema now disk before after book =
    (limits : Limits) (history : List Entry) → IsJournal disk.content.seen limits history →
    Restarting schema limits now (image_on disk history) disk.arming before after book

-- ---- one opening

pub record IsReady (schema : List SchemaNode) (limits : Limits) (now : ℕ) (image : Image)
    (arming : Arming) (book : BookView FuseView) : Type 0 where
  pub passes : failed_call (calls_to_open image) arming ≡ None
  pub book_is : IsRestarted schema limits (record {
    history = reopened image.history now;
    arming = arming_after_calls (calls_to_open image) arming;
  }) book

-- the disk that is made of what the stop left
pub record IsStopped (schema : List SchemaNode) (limits : Limits) (now : ℕ) (image : Image)
    (arming : Arming) (next : FuseView) : Type 0 where
  pub call : ℕ
  pub fails : failed_call (calls_to_open image) arming ≡ Some call
  pub stops : (arming_after_calls (suc call) arming).stopped ≡ true
  pub arming_is : next.arming ≡ restarted (arming_after_calls (suc call) arming)
  pub history : List Entry
  pub leaves : IsImageOf limits (histories_behind call now image) (image_on next history)
  pub can : CanReopen schema history
  pub synced : next.content.mask ≡ mask_after_sync next.content.seen

pub record IsFailed (image : Image) (arming : Arming) : Type 0 where
  pub call : ℕ
  pub fails : failed_call (calls_to_open image) arming ≡ Some call
  pub no_stop : (arming_after_calls (suc call) arming).stopped ≡ false

abbrev pub ReopensTo : List SchemaNode → Limits → ℕ → Image → Arming → Reopening → Type 0
ReopensTo schema limits now image arming (Ready book) = IsReady schema limits now image arming book
ReopensTo schema limits now image arming (Stopped next) =
    IsStopped schema limits now image arming next
ReopensTo schema limits now image arming Failed = IsFailed image arming

abbrev pub Reopens : List SchemaNode → ℕ → FuseView → Reopening → Type 0
Reopens schema now disk opening =
    (limits : Limits) (history : List Entry) → IsJournal disk.content.seen limits history →
    ReopensTo schema limits now (image_on disk history) disk.arming opening

-- a stop fewer waits for the disk that is made of what the stop left
abbrev pub HasFewerStops : FuseView → Reopening → Type 0
HasFewerStops disk (Ready book) = Unit {0}
HasFewerStops disk (Stopped next) = length next.arming.stops < length disk.arming.stops
HasFewerStops disk Failed = Unit {0}

-- ---- all of them, from the book that a stop has ended

abbrev pub book_if : Bool → BookView FuseView → Option (BookView FuseView)
book_if true book = Some book
book_if false book = None

-- the disk that is made of what the stop left
pub record IsLeftByStop (book : BookView FuseView) (next : FuseView) : Type 0 where
  pub history : List Entry
  pub leaves : IsImageOf book.opened.limits (histories_or (history_in book) book.doubt)
      (image_on next history)
  pub arming_is : next.arming ≡ restarted book.disk.arming
  pub reopenable : IsReopenable book.opened.schema next

pub record RestartsBook (now : ℕ) (old new : BookView FuseView) (before after : List ℕ)
    (goes_on : Bool) : Type 0 where
  pub first : Image
  pub leaves : IsImageOf old.opened.limits (histories_or (history_in old) old.doubt) first
  pub restarts : Restarting old.opened.schema old.opened.limits now first
      (restarted old.disk.arming)
      before after (book_if goes_on new)
