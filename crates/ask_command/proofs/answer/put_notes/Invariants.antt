use Rattle.std.proofs.Common.{◌≡◌, ◌++◌, take}
use Rattle.ask_command.specs.Printing.{notes_text}
use Rattle.ask_command.proofs.answer.put_notes.Given as goal

-- the Notifications so far are added
abbrev pub invariant-loop-note : goal.invariant-loop-note
invariant-loop-note l = l.out ≡ l.fn.out ++ notes_text (take l.note-index l.notes)
