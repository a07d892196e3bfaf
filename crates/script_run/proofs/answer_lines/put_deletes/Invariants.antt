use Rattle.std.proofs.Common.{◌≡◌, ◌++◌, take}
use Rattle.std.specs.List.{flat_map}
use Rattle.script_run.specs.AnswerLines.{delete_line}
use Rattle.script_run.proofs.answer_lines.put_deletes.Given as goal

-- the lines of the paths so far are added
abbrev pub invariant-loop-path : goal.invariant-loop-path
invariant-loop-path l = l.out ≡ l.fn.out ++ flat_map delete_line (take l.path-index l.paths)
