-- What a run of a script does whose every line is one of a script: words, schema and script are in their grammars.
use Rattle.std.specs.Prelude.{◌≡◌, ℕ, List, ◌⊎◌, false, Ok, Option}
use Rattle.environment.specs.Input.{ReadsToLimit}
use Rattle.base_kinds.specs.declared.entry.Limits.{Limits}
use Rattle.base_kinds.specs.Limits.{most_script_octets}
use Rattle.base_kinds.specs.Schema.{SchemaNode}
use Rattle.schema_text.specs.Schemas.{schema_of}
use Rattle.script_text.specs.declared.line.Line.{Line}
use Rattle.script_text.specs.Lines.{lines_of}
use Rattle.script_run.specs.ScriptOctets.{is_too_long}
use Rattle.script_run.specs.laws.ScriptLaws.{LetRun}
use Rattle.script_run.specs.laws.ScriptTexts.{AreScriptLines, whole_text}
use Rattle.session_core.specs.declared.how.How.{How}
use Rattle.program.specs.declared.ending.Ending.TheVariants.{Done, NoMemory}
use Rattle.program.specs.Ending.{exit_status}
use Rattle.program.specs.Environment.{Environment, SeenDisk, GaveText}
use Rattle.program.specs.Links.{SeenLinks}
use Rattle.program.specs.Commands.{IsScript}
use Rattle.program.specs.Run.{Run}
use Rattle.program.specs.laws.RunLaws.{NothingFailed, WroteAndEnded}

-- This script was read; and where it is within its limit and its lines are these, none of which lets the disk stop, their answers and the log were written, and
-- the run ended with 0.
pub record RanLines
    (schema : List SchemaNode) (limits : Limits) (before after : Environment) (status : ℕ)
    : Type 0 where
  pub script : List ℕ
  pub read : ReadsToLimit most_script_octets script before.input after.input
  pub wrote : (lines : List Line) →
      is_too_long script ≡ false → AreScriptLines (lines_of script) lines → LetRun lines →
      WroteAndEnded (whole_text schema limits lines) (exit_status Done)
      before.output after.output status

-- a script's run in which nothing fails does so where the file gave the text of a schema, unless memory is wanting
abbrev pub CompletesGoodScripts : Type 0
CompletesGoodScripts =
    (words : List (List ℕ)) (name : List ℕ) (limits : Limits) (before after : Environment)
    (returned : Option SeenDisk) (how : Option How) (links : SeenLinks) (status : ℕ) →
    IsScript words name limits → Run words before after returned how links status →
    NothingFailed before after returned →
    (status ≡ exit_status NoMemory)
    ⊎ ((text : List ℕ) × GaveText name text before.files after.files
    × ((schema : List SchemaNode) → schema_of text ≡ Ok schema →
    RanLines schema limits before after status))
