-- What comes of a stop: the disk left octets that are a journal, the book is opened on them, and again where the disk stops in
-- that too.
use Rattle.std.specs.Prelude.{◌≡◌, ◌⊎◌, ℕ, suc, ◌+◌, nat_lt, List, [], ◌∷◌, true, false, length, Option, Some, None, if◌then◌else◌}
use Rattle.base_kinds.specs.declared.entry.Entry.{Entry}
use Rattle.base_kinds.specs.declared.entry.Limits.{Limits}
use Rattle.disk_model.specs.Arming.{Arming, arming_after_calls, restarted}
use Rattle.journal_format.specs.Journal.{IsJournal}
use Rattle.commit_journal.specs.Images.{IsOneOf}
use Rattle.commit_journal.specs.Openings.{opening_calls}
use Rattle.book_core.specs.Openings.{opening_stages, restart_calls}
use Rattle.book_port.specs.Opened.{reopened}
use Rattle.script_run.specs.Turns.{failed_call}

-- what a stop left: octets, and the history that they are the journal of
pub record Image : Type 0 where
  pub octets : List ℕ
  pub history : List Entry

-- they are the journal of one of these histories
pub record IsImageOf (limits : Limits) (histories : List (List Entry))
    (image : Image) : Type 0 where
  pub journal : IsJournal image.octets limits image.history
  pub is_one : IsOneOf histories image.history

-- how many calls of the disk an opening makes: those that read it, and those for the entry that ends an open trial
abbrev pub calls_to_read : Image → ℕ
calls_to_read image = opening_calls (length image.octets)

abbrev pub calls_to_open : Image → ℕ
calls_to_open image = calls_to_read image + restart_calls image.history

-- Which histories a stop in this call of an opening may leave: while the disk is read the one that is there, and then that
-- one, with the entry that ends an open trial or without.
abbrev pub histories_behind : ℕ → ℕ → Image → List (List Entry)
histories_behind call now image =
    if nat_lt call (calls_to_read image) then image.history ∷ []
    else opening_stages image.history now

-- the disk stops in a call of the opening, and leaves the next image
pub record StopsAgain (limits : Limits) (now : ℕ) (image : Image) (arming : Arming) (next : Image)
    : Type 0 where
  pub call : ℕ
  pub fails : failed_call (calls_to_open image) arming ≡ Some call
  pub stops : (arming_after_calls (suc call) arming).stopped ≡ true
  pub leaves : IsImageOf limits (histories_behind call now image) next

-- the book that was opened: its history, and when its disk is to fail
pub record Restarted : Type 0 where
  pub history : List Entry
  pub arming : Arming

-- each call passes, and the book goes on from the history, behind the entry that ends an open trial
pub record IsOpened (now : ℕ) (image : Image) (arming : Arming)
    (ending : Option Restarted) : Type 0 where
  pub passes : failed_call (calls_to_open image) arming ≡ None
  pub ending_is : ending ≡ Some (record {
    history = reopened image.history now;
    arming = arming_after_calls (calls_to_open image) arming;
  })

-- a call fails in which the disk doesn't stop, and the run is at its end
pub record FailsToOpen (image : Image) (arming : Arming) (ending : Option Restarted) : Type 0 where
  pub call : ℕ
  pub fails : failed_call (calls_to_open image) arming ≡ Some call
  pub no_stop : (arming_after_calls (suc call) arming).stopped ≡ false
  pub ending_is : ending ≡ None

-- The first image is opened at this reading, and the later ones where the disk stops in the opening before.
abbrev pub OpensAgain : Image → List Image → Limits → ℕ → Arming → Option Restarted → Type 0
OpensAgain image [] limits now arming ending =
    IsOpened now image arming ending ⊎ FailsToOpen image arming ending
OpensAgain image (next ∷ later) limits now arming ending =
    (stop : StopsAgain limits now image arming next)
    × OpensAgain next later limits now
    (restarted (arming_after_calls (suc stop.call) arming)) ending
