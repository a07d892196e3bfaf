-- What a line does in whose turn the disk hasn't stopped.
use Rattle.std.proofs.Common.{◌≡◌, ℕ, List, ◌++◌, true, false, Option, Some, None, option_map, refl, sym, ap, ◌∙◌, subst}
use Rattle.base_kinds.specs.Events.{Answer, OfSet, OfGet}
use Rattle.script_text.specs.declared.line.Line.{Line}
use Rattle.script_run.specs.declared.answer_lines.Reply.{Reply}
use Rattle.script_run.specs.AnswerLines.{line_answer, line_text, lines_if_any, step_lines}
use Rattle.script_run.specs.Subscribing.{CallStep}
use Rattle.script_run.specs.Restarts.{TakesBy}
use Rattle.script_run.specs.ScriptStates.{ScriptState, line_step, state_after}
use Rattle.script_run.specs.inner.Replies.{Acts, reply_at, reply_by, reply_lines, reply_of}

lines_are : (answer : Option Answer) → reply_lines (option_map reply_of answer) ≡ lines_if_any answer
lines_are None = refl
lines_are (Some (OfSet reply)) = refl
lines_are (Some (OfGet view)) = refl

step_lines_are : (step : Option CallStep) (line : Line) (state : ScriptState) → reply_lines (reply_by step line state) ≡ step_lines step line state
step_lines_are None line state = lines_are (line_answer line state)
step_lines_are (Some step) line state = refl

pub answers : (line : Line) (old left : ScriptState) (reply : Option Reply) (before after : List ℕ) → left ≡ state_after line old → left.arming.stopped ≡ false → reply ≡ reply_at line old → after ≡ before ++ reply_lines reply → Acts line old left before after true
unfolding line_text
answers line old left reply before after is running replied grown = record {
  printed = line_text line old;
  takes = subst (λ b. TakesBy b line old (line_text line old) (Some left)) (sym running ∙ ap (λ (s : ScriptState). s.arming.stopped) is) (refl, ap Some is);
  added = grown ∙ ap (λ r. before ++ reply_lines r) replied ∙ ap (λ l. before ++ l) (step_lines_are (line_step line old) line old);
}
