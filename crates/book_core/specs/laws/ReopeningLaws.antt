-- What the opening of a disk gives that a stop has left, under the schema of the book that was there.
use Rattle.std.specs.Prelude.{◌≡◌, ◌⊎◌, ℕ, List, [], ◌∷◌, ◌++◌, Option, Some, None}
use Rattle.std.specs.List.{AllByRecursion}
use Rattle.base_kinds.specs.declared.entry.Entry.{Entry}
use Rattle.base_kinds.specs.declared.entry.Limits.{Limits}
use Rattle.base_kinds.specs.Bases.{IsSound}
use Rattle.base_kinds.specs.History.{world_of}
use Rattle.base_kinds.specs.Schema.{SchemaNode}
use Rattle.disk_model.specs.Calls.{Fuse}
use Rattle.disk_model.specs.Content.{Content}
use Rattle.disk_model.specs.Images.{IsImage}
use Rattle.disk_model.specs.Moments.{LeavesNow}
use Rattle.commit_journal.specs.Images.{IsOneOf, IsJournalOr, IsJournalOfAny, histories_or}
use Rattle.book_port.specs.Opened.{Opened, IsRun, reopened}
use Rattle.book_core.specs.declared.opening.BookOpening.{BookOpening}
use Rattle.book_core.specs.declared.opening.BookOpening.TheVariants.{Ready, Damaged, Unfit, DiskFault, NoMemory}
use Rattle.book_core.specs.Moments.{GoesThrough}
use Rattle.book_core.specs.Openings.{Opens}
use Rattle.book_core.specs.Views.{BookView, history_in}
use Rattle.book_core.specs.laws.DoubtLaws.{IsRunWith}

-- A target with this schema may go on from the history: whenever it is started, the tree behind the
-- end of an open trial is sound.
abbrev pub CanReopen : List SchemaNode → List Entry → Type 0
CanReopen schema h = (now : ℕ) → IsSound schema (world_of (reopened h now)).tree

-- The book goes on from one of these histories, behind the entry that ends an open trial. So no trial
-- is open in it.
pub record GoesOnFrom {D : Type 0} (limits : Limits) (histories : List (List Entry)) (now : ℕ)
    (book : BookView D) : Type 0 where
  pub found : List Entry
  pub is_one : IsOneOf histories found
  pub limits_are : book.opened.limits ≡ limits
  pub base_is : book.opened.base ≡ reopened found now
  pub history_is : history_in book ≡ reopened found now
  pub no_trial : (world_of (history_in book)).trial ≡ None
  pub no_doubt : book.doubt ≡ None

-- An opening that goes on from one of these histories, unless the disk fails or memory is wanting. It
-- finds no damage, and no tree that doesn't keep to the schema.
abbrev pub Reopens : {D C : Type 0} → Limits → List (List Entry) → ℕ → BookOpening D C → Type 0
Reopens limits histories now (Ready book) = GoesOnFrom limits histories now book
Reopens limits histories now (Damaged place left) = ⊥
Reopens limits histories now (Unfit left) = ⊥
Reopens limits histories now (DiskFault left) = Unit {0}
Reopens limits histories now (NoMemory left) = Unit {0}

-- what a book's history is at any time may be gone on from
abbrev pub RunsCanReopen : Type 0
RunsCanReopen = (opened : Opened) (h : List Entry) → IsRun opened h → CanReopen opened.schema h

-- so may one whose tree behind the end of an open trial is sound, and it may with that end
abbrev pub SoundCanReopen : Type 0
SoundCanReopen = (schema : List SchemaNode) (h : List Entry) (now : ℕ)
    → IsSound schema (world_of (reopened h now)).tree
    → CanReopen schema h × CanReopen schema (reopened h now)

abbrev pub IsAmong : List (Option ℕ) → List (List (Option ℕ)) → Type 0
IsAmong mask [] = ⊥
IsAmong mask (other ∷ masks) = (mask ≡ other) ⊎ IsAmong mask masks

-- At old, or at a moment after it up to new, a stop left an image of this mask.
pub record IsMoment (old new : Content) (mask : List (Option ℕ)) : Type 0 where
  pub later : List (List (Option ℕ))
  pub past : new.mask ∷ new.past ≡ later ++ (old.mask ∷ old.past)
  pub among : IsAmong mask (later ++ old.mask ∷ [])

module _ {D : Type 0} (C : Type 0) (told : D → Option Content) (faults : D → ℕ)
    (fuse : D → Fuse) where
  -- A disk with a journal of one of these histories is opened to go on from it.
  abbrev pub JournalsReopen : Type 0
  JournalsReopen = (disk : D) (content : Content) (schema : List SchemaNode) (limits : Limits)
      (histories : List (List Entry)) (now : ℕ) (opening : BookOpening D C)
      → told disk ≡ Some content → IsJournalOfAny limits histories content.seen
      → AllByRecursion (CanReopen schema) histories
      → Opens told faults fuse disk schema now opening → Reopens limits histories now opening

  -- So whatever a stop leaves of a book's disk is opened under the book's schema to go on from its
  -- history, or from that with what was in doubt.
  abbrev pub BooksReopen : Type 0
  BooksReopen = (disk : D) (left content : Content) (opened : Opened) (h : List Entry)
      (doubt : Option Entry) (now : ℕ) (opening : BookOpening D C)
      → IsRun opened h → IsRunWith opened h doubt
      → LeavesNow (IsJournalOr opened.limits h doubt) (Some left)
      → told disk ≡ Some content → IsImage left.mask content.seen
      → Opens told faults fuse disk opened.schema now opening
      → Reopens opened.limits (histories_or h doubt) now opening

  -- What a stop leaves at any moment of a call goes on too: from the history found, from that with
  -- what was in doubt, or from one that the call goes through.
  abbrev pub CallsReopen : Type 0
  CallsReopen = (disk : D) (old new content : Content) (mask : List (Option ℕ)) (opened : Opened)
      (h : List Entry) (doubt : Option Entry) (stages : List (List Entry))
      (doubt_left : Option Entry) (now : ℕ) (opening : BookOpening D C)
      → IsRun opened h → IsRunWith opened h doubt → AllByRecursion (IsRun opened) stages
      → GoesThrough opened.limits h doubt stages doubt_left (Some old) (Some new)
      → IsMoment old new mask → told disk ≡ Some content → IsImage mask content.seen
      → Opens told faults fuse disk opened.schema now opening
      → Reopens opened.limits (histories_or h doubt ++ stages) now opening
