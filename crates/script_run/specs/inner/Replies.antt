-- What a line is answered, in the order in which it is found and printed.
use Rattle.std.specs.Prelude.{◌≡◌, ℕ, List, [], ◌++◌, Bool, true, false, Option, Some, None, option_map}
use Rattle.base_kinds.specs.Events.{Answer, OfSet, OfGet}
use Rattle.script_text.specs.declared.line.Line.{Line}
use Rattle.script_text.specs.declared.line.Line.TheVariants as lines
use Rattle.script_run.specs.AnswerLines.{call_lines, entry_stamp, line_answer, reply_line, view_lines}
use Rattle.script_run.specs.ScriptStates.{ScriptState, line_step}
use Rattle.script_run.specs.Subscribing.{CallStep}
use Rattle.script_run.specs.declared.subscribing.Opening.{Opening}
use Rattle.script_run.specs.Restarts.{Takes}
use Rattle.script_run.specs.declared.answer_lines.Reply.{Reply}
use Rattle.script_run.specs.declared.answer_lines.Reply.TheVariants as replies

abbrev pub reply_of : Answer → Reply
reply_of (OfSet answer) = replies.Set (entry_stamp answer)
reply_of (OfGet view) = replies.Get view

abbrev pub reply_lines : Option Reply → List ℕ
reply_lines None = []
reply_lines (Some (replies.Set reply)) = reply_line reply
reply_lines (Some (replies.Get view)) = view_lines view
reply_lines (Some (replies.Call reply)) = call_lines reply

-- what a line is answered in this state: at a line of subscriptions what the call answers
abbrev pub reply_by : Option CallStep → Line → ScriptState → Option Reply
reply_by None line state = option_map reply_of (line_answer line state)
reply_by (Some step) line state = Some (replies.Call step.reply)

abbrev pub reply_at : Line → ScriptState → Option Reply
reply_at line state = reply_by (line_step line state) line state

abbrev pub line_of_opening : Opening → Line
line_of_opening asked = lines.Open asked.author asked.name asked.mode asked.only

-- the state that is left, where the script goes on
abbrev pub state_if : Bool → ScriptState → Option ScriptState
state_if true state = Some state
state_if false state = None

-- a line is taken, and what it prints is added
pub record Acts (line : Line) (old new : ScriptState) (before after : List ℕ)
    (goes_on : Bool) : Type 0 where
  pub printed : List ℕ
  pub takes : Takes line old printed (state_if goes_on new)
  pub added : after ≡ before ++ printed
