-- What a line prints, and the state behind it, where the disk has stopped in its turn too.
use Rattle.std.specs.Prelude.{◌≡◌, ℕ, List, [], ◌∷◌, ◌++◌, Bool, true, false, length, codes, Option, Some, None, option_map}
use Rattle.std.specs.Fmt.{decimal}
use Rattle.disk_model.specs.Arming.{restarted}
use Rattle.commit_journal.specs.Images.{histories_or}
use Rattle.script_text.specs.declared.line.Line.{Line}
use Rattle.script_run.specs.AnswerLines.{line_text}
use Rattle.script_run.specs.ScriptStates.{ScriptState, state_after}
use Rattle.script_run.specs.Stops.{Image, IsImageOf, OpensAgain, Restarted}

-- `reopened` with the number of entries, where the book was opened
abbrev pub reopened_line : Option Restarted → List ℕ
reopened_line None = []
reopened_line (Some book) = codes "reopened " ++ (decimal (length book.history) ++ 10 ∷ [])

-- `stopped` for the first image and for each later one, and then that
abbrev pub restart_text : List Image → Option Restarted → List ℕ
restart_text [] ending = codes "stopped\n" ++ reopened_line ending
restart_text (next ∷ later) ending = codes "stopped\n" ++ restart_text later ending

-- nothing is in doubt in the book that was opened, and the stop has ended every call
abbrev pub restarted_state : ScriptState → Restarted → ScriptState
restarted_state left book =
    record left { calls = []; history = book.history; doubt = None; arming = book.arming }

-- The disk stopped, and left the journal of the history, or of that with the attempt that was being made or in doubt. The
-- book is opened on it, with the clock as it is.
pub record Restarts (left : ScriptState) (text : List ℕ) (next : Option ScriptState) : Type 0 where
  pub first : Image
  pub later : List Image
  pub ending : Option Restarted
  pub leaves : IsImageOf left.limits (histories_or left.history left.doubt) first
  pub opens : OpensAgain first later left.limits left.reading (restarted left.arming) ending
  pub text_is : text ≡ restart_text later ending
  pub next_is : next ≡ option_map (restarted_state left) ending

-- the answer is printed, unless the disk has stopped
abbrev pub TakesBy : Bool → Line → ScriptState → List ℕ → Option ScriptState → Type 0
TakesBy false line state text next =
    (text ≡ line_text line state) × (next ≡ Some (state_after line state))
TakesBy true line state text next = Restarts (state_after line state) text next

-- a line prints this text, and leaves this state, or none where no book could be opened behind a stop
abbrev pub Takes : Line → ScriptState → List ℕ → Option ScriptState → Type 0
Takes line state text next = TakesBy (state_after line state).arming.stopped line state text next
