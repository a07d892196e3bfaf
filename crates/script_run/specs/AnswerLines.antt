-- What a script prints at a line: the answer to the event that the line is, or what a Subscribe call answers. The texts are this
-- project's own.
use Rattle.std.specs.Prelude.{ℕ, List, [], ◌∷◌, ◌++◌, Result, Ok, Err, Option, Some, None, codes}
use Rattle.std.specs.List.{flat_map}
use Rattle.std.specs.Fmt.{decimal}
use Rattle.base_kinds.specs.declared.operation.Row.{Row}
use Rattle.base_kinds.specs.declared.entry.Entry.{Entry}
use Rattle.base_kinds.specs.declared.entry.View.{View}
use Rattle.base_kinds.specs.declared.path.Elem.{Elem}
use Rattle.base_kinds.specs.declared.refusal.Refusal.{Refusal}
use Rattle.base_kinds.specs.declared.request.Note.{Note}
use Rattle.base_kinds.specs.Texts.{path_text}
use Rattle.base_kinds.specs.Events.{Event, Answer, OfSet, OfGet}
use Rattle.base_kinds.specs.Refusals.{number_of, code_of}
use Rattle.log_text.specs.Logs.{row_text}
use Rattle.script_text.specs.declared.line.Line.{Line}
use Rattle.script_run.specs.ScriptStates.{ScriptState, rules_in, line_event, line_look, line_step, look_answer, book_behind}
use Rattle.script_run.specs.Subscribing.{CallStep}
use Rattle.script_run.specs.declared.subscribing.CallReply.{CallReply}
use Rattle.script_run.specs.declared.subscribing.CallReply.TheVariants as calls
use Rattle.script_run.specs.Turns.{turn_answer}

-- `refused` with the number and the gRPC code of the refusal
abbrev pub refusal_line : Refusal → List ℕ
refusal_line refusal =
    codes "refused "
    ++ (decimal (number_of refusal) ++ (32 ∷ (decimal (code_of refusal) ++ 10 ∷ [])))

-- `ok` and a stamp, or the refusal
abbrev pub reply_line : Result ℕ Refusal → List ℕ
reply_line (Ok stamp) = codes "ok " ++ (decimal stamp ++ 10 ∷ [])
reply_line (Err refusal) = refusal_line refusal

-- the stamp of the new entry, or the refusal
abbrev pub entry_stamp : Result Entry Refusal → Result ℕ Refusal
entry_stamp (Ok entry) = Ok entry.stamp
entry_stamp (Err refusal) = Err refusal

abbrev pub row_line : Row → List ℕ
row_line row = codes "row " ++ row_text row

abbrev pub state_line : ℕ → List ℕ
state_line stamp = codes "state " ++ (decimal stamp ++ 10 ∷ [])

-- `row` with a path and a value for each row, in order, and `state` with the stamp; or the refusal
abbrev pub view_lines : Result View Refusal → List ℕ
view_lines (Ok view) = flat_map row_line view.rows ++ state_line view.stamp
view_lines (Err refusal) = refusal_line refusal

abbrev pub answer_lines : Answer → List ℕ
answer_lines (OfSet reply) = reply_line (entry_stamp reply)
answer_lines (OfGet view) = view_lines view

-- ---- subscriptions

abbrev pub delete_line : List Elem → List ℕ
delete_line path = codes "delete " ++ (path_text path ++ 10 ∷ [])

abbrev pub update_line : Row → List ℕ
update_line row = codes "update " ++ row_text row

-- `note` with the stamp, `delete` with each path that is gone, and `update` with each row that is sent
abbrev pub note_lines : Note → List ℕ
note_lines note =
    codes "note " ++ (decimal note.stamp ++ 10 ∷ [])
    ++ (flat_map delete_line note.deletes ++ flat_map update_line note.updates)

-- none comes first where updates alone are asked for
abbrev pub first_lines : Option Note → List ℕ
first_lines None = []
first_lines (Some note) = note_lines note

abbrev pub turn_lines : Option Note → List ℕ
turn_lines None = codes "quiet\n"
turn_lines (Some note) = note_lines note

abbrev pub call_lines : CallReply → List ℕ
call_lines calls.Taken = codes "name taken\n"
call_lines calls.NoStream = codes "no stream\n"
call_lines calls.Opened = codes "opened\n"
call_lines calls.Ended = codes "ended\n"
call_lines (calls.Refused refusal) = refusal_line refusal
call_lines (calls.Began note) = first_lines note ++ codes "sync\n"
call_lines (calls.Once note) = first_lines note ++ codes "sync\nend\n"
call_lines (calls.Turned note) = turn_lines note

-- ---- lines

-- the answer to the event that a line is, where it is one
abbrev pub event_reply : Option Event → ScriptState → Option Answer
event_reply None state = None
event_reply (Some event) state =
    Some (turn_answer (rules_in state) state.history event (book_behind (Some event) state).failed)

-- A look of a subscription is answered with what it shows; what the line prints of that is another thing.
abbrev pub look_reply : Option (List (List Elem)) → Line → ScriptState → Option Answer
look_reply None line state = event_reply (line_event line state) state
look_reply (Some patterns) line state = Some (OfGet (look_answer line state))

abbrev pub line_answer : Line → ScriptState → Option Answer
line_answer line state = look_reply (line_look line state) line state

abbrev pub lines_if_any : Option Answer → List ℕ
lines_if_any None = []
lines_if_any (Some answer) = answer_lines answer

-- what is printed at a line in this state: at a line of subscriptions what the call answers, at another one what the event is
-- answered, and nothing where it is none
abbrev pub step_lines : Option CallStep → Line → ScriptState → List ℕ
step_lines None line state = lines_if_any (line_answer line state)
step_lines (Some step) line state = call_lines step.reply

unfoldable pub line_text : Line → ScriptState → List ℕ
line_text line state = step_lines (line_step line state) line state
