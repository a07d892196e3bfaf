-- `script SCHEMA` reads a script from the input, and prints the answers to its lines and then the log of the history that
-- they made (Scripts.antt of script_run says which).
use Rattle.std.specs.Prelude.{◌≡◌, ℕ, List, ◌⊎◌, codes}
use Rattle.environment.specs.Input.{ReadsToLimit, FailedToLimit, StoppedToLimit}
use Rattle.base_kinds.specs.declared.entry.Limits.{Limits}
use Rattle.base_kinds.specs.Limits.{most_script_octets}
use Rattle.base_kinds.specs.Schema.{SchemaNode}
use Rattle.script_run.specs.declared.run.ScriptEnd.{ScriptEnd}
use Rattle.script_run.specs.declared.run.ScriptEnd.TheVariants as ends
use Rattle.script_run.specs.Scripts.{RunsScript}
use Rattle.program.specs.declared.ending.Ending.{Ending}
use Rattle.program.specs.declared.ending.Ending.TheVariants.{Done, DiskFault, InputFault, BadLine}
use Rattle.program.specs.Environment.{Environment}
use Rattle.program.specs.Printing.{SaysLast, OutOfMemory, PrintsText}
use Rattle.program.specs.SchemaFile.{UnderSchema}

-- how the run ends whose script ends so
abbrev pub script_ending : ScriptEnd → Ending
script_ending ends.Whole = Done
script_ending ends.Refused = BadLine
script_ending ends.DiskFault = DiskFault

-- the input was read to its end, or one octet past the limit of a script, since what follows changes nothing; and what is
-- printed are the answers to what was read
pub record Answers
    (schema : List SchemaNode) (limits : Limits) (before after : Environment) (ending : Ending)
    : Type 0 where
  pub script : List ℕ
  pub read : ReadsToLimit most_script_octets script before.input after.input
  pub text : List ℕ
  pub script_end : ScriptEnd
  pub runs : RunsScript schema limits script text script_end
  pub output : PrintsText text (script_ending script_end) before.output after.output ending

-- the input failed within the limit
pub record Unreadable (before after : Environment) (ending : Ending) : Type 0 where
  pub ends : ending ≡ InputFault
  pub read : FailedToLimit most_script_octets before.input after.input
  pub line : SaysLast (codes "input fault\n") before.output after.output

-- memory was wanting for the script or its answers
pub record Unanswered (before after : Environment) (ending : Ending) : Type 0 where
  pub read : StoppedToLimit most_script_octets before.input after.input
  pub output : OutOfMemory before.output after.output ending

abbrev pub RunsLines : Limits → Environment → Environment → Ending → List SchemaNode → Type 0
RunsLines limits before after ending schema =
    Answers schema limits before after ending ⊎ Unreadable before after ending
    ⊎ Unanswered before after ending

abbrev pub ScriptRun : List ℕ → Limits → Environment → Environment → Ending → Type 0
ScriptRun name limits before after ending =
    UnderSchema name before after ending (RunsLines limits before after ending)
