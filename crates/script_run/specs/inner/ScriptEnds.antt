-- What is printed behind the lines of a script.
use Rattle.std.specs.Prelude.{ℕ, List, [], ◌++◌, codes}
use Rattle.base_kinds.specs.declared.entry.Entry.{Entry}
use Rattle.log_text.specs.Logs.{log_text}
use Rattle.script_run.specs.declared.run.ScriptEnd.{ScriptEnd}
use Rattle.script_run.specs.declared.run.ScriptEnd.TheVariants.{Whole, Refused, DiskFault}

-- the log, where each line was taken
abbrev pub text_at_end : ScriptEnd → List Entry → List ℕ
text_at_end Whole h = codes "log\n" ++ log_text h
text_at_end Refused h = []
text_at_end DiskFault h = []
