-- A crash. Whatever it leaves of the disk is a journal of the history, or of the history with one commit in doubt after it. A run that
-- opens it goes on from there, without an open trial.
use Rattle.std.specs.Prelude.{◌≡◌, ℕ, List, Option, None}
use Rattle.base_kinds.specs.declared.entry.Entry.{Entry}
use Rattle.base_kinds.specs.declared.entry.Limits.{Limits}
use Rattle.base_kinds.specs.History.{world_of}
use Rattle.disk_model.specs.Images.{IsImage}
use Rattle.journal_format.specs.Journal.{IsJournal}
use Rattle.commit_journal.specs.Images.{IsOneOf, histories_or}
use Rattle.book_port.specs.Opened.{reopened}
use Rattle.program.specs.headline.Terms.{IsPrefix}

-- Opened at this reading of the clock, the target goes on from a history that has all of h first, and no trial is open.
pub record Reopens (h found : List Entry) (now : ℕ) : Type 0 where
  pub keeps : IsPrefix h (reopened found now)
  pub no_trial : (world_of (reopened found now)).trial ≡ None

-- The octets are the journal of h, or of h and the commit that is in doubt. (Octets are a journal of one history at most.)
pub record KeepsAll (limits : Limits) (h : List Entry) (doubt : Option Entry) (octets : List ℕ)
    : Type 0 where
  pub found : List Entry
  pub journal : IsJournal octets limits found
  pub is_one : IsOneOf (histories_or h doubt) found
  pub reopens : (now : ℕ) → Reopens h found now

-- So it is of each image that a crash may leave of a disk with this mask (disk_model, Images.antt).
abbrev pub SurvivesCrash : Limits → List Entry → Option Entry → List (Option ℕ) → Type 0
SurvivesCrash limits h doubt mask =
    (octets : List ℕ) → IsImage mask octets → KeepsAll limits h doubt octets
