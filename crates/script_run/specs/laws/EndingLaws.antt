-- What ends a trial in a script: a line that confirms or cancels it, and the event of the clock.
use Rattle.std.specs.Prelude.{◌≡◌, ◌⊎◌, List, ◌++◌, true, Option, Some, Ok, Err}
use Rattle.base_kinds.specs.declared.entry.Ask.{Ask}
use Rattle.base_kinds.specs.declared.entry.Entry.{Entry}
use Rattle.base_kinds.specs.declared.refusal.Refusal.TheVariants.{DiskFault}
use Rattle.base_kinds.specs.Events.{Set, Event, Answer, OfSet, OfGet}
use Rattle.base_kinds.specs.Step.{after_expiry}
use Rattle.book_core.specs.laws.ClosingLaws.{EndsOpenTrial}
use Rattle.script_text.specs.declared.line.Line.{Line}
use Rattle.script_run.specs.AnswerLines.{line_answer}
use Rattle.script_run.specs.ScriptStates.{ScriptState, line_event, state_after}
use Rattle.script_run.specs.Turns.{takes_turn}

-- A line that asks to end the open trial before its deadline is answered with its entry, or refused because a call of the disk
-- failed in it.
abbrev pub EndingsAreAnswered : Type 0
EndingsAreAnswered =
    (line : Line) (state : ScriptState) (event : Event) (ask : Ask) →
    line_event line state ≡ Some event → event.request ≡ Set (Ok ask) →
    EndsOpenTrial state.history state.reading ask →
    ((entry : Entry) × (line_answer line state ≡ Some (OfSet (Ok entry))))
    ⊎ (line_answer line state ≡ Some (OfSet (Err DiskFault)))

abbrev pub IsFaulted : Option Answer → Type 0
IsFaulted answer = (answer ≡ Some (OfSet (Err DiskFault))) ⊎ (answer ≡ Some (OfGet (Err DiskFault)))

-- and a line that takes a turn is refused so, or the event of the clock stands in front of whatever it adds
abbrev pub ExpiriesStand : Type 0
ExpiriesStand =
    (line : Line) (state : ScriptState) (event : Event) →
    line_event line state ≡ Some event → takes_turn event.request ≡ true →
    IsFaulted (line_answer line state)
    ⊎ ((later : List Entry)
    × ((state_after line state).history ≡ after_expiry state.history state.reading ++ later))
