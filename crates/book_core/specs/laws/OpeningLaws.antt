-- What a stop leaves at any moment of an opening, also of an opening of what such a stop has left, and
-- what an opening behind all of them gives.
use Rattle.std.specs.Prelude.{◌≡◌, ◌⊎◌, ℕ, List, [], ◌∷◌, ◌++◌, Option, Some, None}
use Rattle.std.specs.List.{AllByRecursion}
use Rattle.base_kinds.specs.declared.entry.Entry.{Entry}
use Rattle.base_kinds.specs.declared.entry.Limits.{Limits}
use Rattle.base_kinds.specs.History.{world_of}
use Rattle.base_kinds.specs.Schema.{SchemaNode}
use Rattle.disk_model.specs.Calls.{Fuse}
use Rattle.disk_model.specs.Content.{Content}
use Rattle.disk_model.specs.Images.{IsImage}
use Rattle.disk_model.specs.Moments.{Leaves, LeavesNow}
use Rattle.journal_format.specs.Journal.{IsJournal}
use Rattle.commit_journal.specs.Images.{IsOneOf, IsJournalOr, IsJournalOfAny, histories_or}
use Rattle.book_port.specs.Opened.{Opened, IsRun, reopened}
use Rattle.book_core.specs.declared.opening.BookOpening.{BookOpening}
use Rattle.book_core.specs.declared.opening.BookOpening.TheVariants.{Ready, Damaged, Unfit, DiskFault, NoMemory}
use Rattle.book_core.specs.Moments.{GoesThrough}
use Rattle.book_core.specs.Openings.{Opens}
use Rattle.book_core.specs.Views.{BookView, history_in}
use Rattle.book_core.specs.laws.DoubtLaws.{IsRunWith}
use Rattle.book_core.specs.laws.ReopeningLaws.{CanReopen, IsMoment}

-- the history is one of these, as it is or behind the entry that ended an open trial in an opening
abbrev pub IsBehind : List (List Entry) → List Entry → Type 0
IsBehind histories h =
    (found : List Entry) × IsOneOf histories found
    × ((h ≡ found) ⊎ ((now : ℕ) × (h ≡ reopened found now)))

-- the octets are a journal of such a history
abbrev pub IsJournalBehind : Limits → List (List Entry) → List ℕ → Type 0
IsJournalBehind limits histories octets =
    (h : List Entry) × IsBehind histories h × IsJournal octets limits h

-- The book goes on from one of these histories, behind the entry that ends an open trial, whichever
-- of the openings wrote that. So no trial is open in it.
pub record GoesOnBehind {D : Type 0} (limits : Limits) (histories : List (List Entry))
    (book : BookView D) : Type 0 where
  pub found : List Entry
  pub is_one : IsOneOf histories found
  pub at : ℕ
  pub limits_are : book.opened.limits ≡ limits
  pub base_is : book.opened.base ≡ reopened found at
  pub history_is : history_in book ≡ reopened found at
  pub no_trial : (world_of (history_in book)).trial ≡ None
  pub no_doubt : book.doubt ≡ None

-- An opening that goes on so, unless the disk fails or memory is wanting.
abbrev pub ReopensBehind : {D C : Type 0} → Limits → List (List Entry) → BookOpening D C → Type 0
ReopensBehind limits histories (Ready book) = GoesOnBehind limits histories book
ReopensBehind limits histories (Damaged place left) = ⊥
ReopensBehind limits histories (Unfit left) = ⊥
ReopensBehind limits histories (DiskFault left) = Unit {0}
ReopensBehind limits histories (NoMemory left) = Unit {0}

-- the disk behind an opening
abbrev pub disk_behind : {D C : Type 0} → BookOpening D C → D
disk_behind (Ready book) = book.disk
disk_behind (Damaged place left) = left
disk_behind (Unfit left) = left
disk_behind (DiskFault left) = left
disk_behind (NoMemory left) = left

-- A disk that tells this content, and on which a stop now leaves no other images than this mask has.
pub record HasImage {D : Type 0} (told : D → Option Content) (mask : List (Option ℕ)) (disk : D)
    (content : Content) : Type 0 where
  pub told_is : told disk ≡ Some content
  pub seen : IsImage content.mask content.seen
  pub leaves : Leaves (IsImage mask) content.mask

module _ {D : Type 0} (C : Type 0) (told : D → Option Content) (faults : D → ℕ)
    (fuse : D → Fuse) where
  -- What a stop left at a moment of an opening of the one disk, the other one has.
  pub record StopsOpening (schema : List SchemaNode) (disk next : D) : Type 0 where
    pub now : ℕ
    pub opening : BookOpening D C
    pub opens : Opens told faults fuse disk schema now opening
    pub old : Content
    pub told_old : told disk ≡ Some old
    pub new : Content
    pub told_new : told (disk_behind opening) ≡ Some new
    pub mask : List (Option ℕ)
    pub moment : IsMoment old new mask
    pub content : Content
    pub has_image : HasImage told mask next content

  -- so for each of these disks in turn, up to the last one
  abbrev pub StopOpenings : List SchemaNode → D → List D → D → Type 0
  StopOpenings schema disk [] last = last ≡ disk
  StopOpenings schema disk (next ∷ later) last =
      StopsOpening schema disk next × StopOpenings schema next later last

  -- Of a disk that has a journal of one of these histories, also behind openings, a stop leaves such a
  -- journal at any moment of a further opening.
  abbrev pub OpeningsLeave : Type 0
  OpeningsLeave = (disk : D) (old new : Content) (mask : List (Option ℕ)) (schema : List SchemaNode)
      (limits : Limits) (histories : List (List Entry)) (now : ℕ) (opening : BookOpening D C)
      → told disk ≡ Some old → IsImage old.mask old.seen
      → Leaves (IsJournalBehind limits histories) old.mask
      → Opens told faults fuse disk schema now opening
      → told (disk_behind opening) ≡ Some new → IsMoment old new mask
      → Leaves (IsJournalBehind limits histories) mask

  -- However often a stop comes in an opening, and wherever in it, the opening behind all of them goes
  -- on from one of the histories that there were at first.
  abbrev pub OpeningsReopen : Type 0
  OpeningsReopen = (disk last : D) (content : Content) (later : List D) (schema : List SchemaNode)
      (limits : Limits) (histories : List (List Entry)) (now : ℕ) (opening : BookOpening D C)
      → told disk ≡ Some content → IsImage content.mask content.seen
      → Leaves (IsJournalOfAny limits histories) content.mask
      → AllByRecursion (CanReopen schema) histories
      → StopOpenings schema disk later last
      → Opens told faults fuse last schema now opening → ReopensBehind limits histories opening

  -- So behind a stop between two calls of a book: it goes on from the history, or from that with what
  -- was in doubt.
  abbrev pub BooksReopenAgain : Type 0
  BooksReopenAgain = (disk last : D) (left content : Content) (later : List D) (opened : Opened)
      (h : List Entry) (doubt : Option Entry) (now : ℕ) (opening : BookOpening D C)
      → IsRun opened h → IsRunWith opened h doubt
      → LeavesNow (IsJournalOr opened.limits h doubt) (Some left)
      → HasImage told left.mask disk content
      → StopOpenings opened.schema disk later last
      → Opens told faults fuse last opened.schema now opening
      → ReopensBehind opened.limits (histories_or h doubt) opening

  -- And behind one at any moment of a call: or from a history that the call goes through.
  abbrev pub CallsReopenAgain : Type 0
  CallsReopenAgain = (disk last : D) (old new content : Content) (mask : List (Option ℕ))
      (later : List D) (opened : Opened) (h : List Entry) (doubt : Option Entry)
      (stages : List (List Entry)) (doubt_left : Option Entry) (now : ℕ) (opening : BookOpening D C)
      → IsRun opened h → IsRunWith opened h doubt → AllByRecursion (IsRun opened) stages
      → GoesThrough opened.limits h doubt stages doubt_left (Some old) (Some new)
      → IsMoment old new mask → HasImage told mask disk content
      → StopOpenings opened.schema disk later last
      → Opens told faults fuse last opened.schema now opening
      → ReopensBehind opened.limits (histories_or h doubt ++ stages) opening
