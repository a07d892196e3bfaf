-- What the run of a script keeps that ended with 0, whatever its lines let fail and stop.
use Rattle.std.specs.Prelude.{◌≡◌, ℕ, List, Ok, Option}
use Rattle.environment.specs.Input.{ReadsToLimit}
use Rattle.environment.specs.Output.{Wrote}
use Rattle.base_kinds.specs.declared.entry.Limits.{Limits}
use Rattle.base_kinds.specs.Limits.{most_script_octets}
use Rattle.base_kinds.specs.Schema.{SchemaNode}
use Rattle.schema_text.specs.Schemas.{schema_of}
use Rattle.script_run.specs.laws.WholeScripts.{KeepsAnswers}
use Rattle.session_core.specs.declared.how.How.{How}
use Rattle.program.specs.declared.ending.Ending.TheVariants.{Done}
use Rattle.program.specs.Ending.{exit_status}
use Rattle.program.specs.Environment.{Environment, SeenDisk, GaveText}
use Rattle.program.specs.Links.{SeenLinks}
use Rattle.program.specs.Commands.{IsScript}
use Rattle.program.specs.Run.{Run}

-- This script was read, and this text was written, all of it and nothing else. Of each answer in it what was answered holds of the
-- history whose log it ends with.
pub record RanWhole (schema : List SchemaNode) (limits : Limits)
    (before after : Environment) : Type 0 where
  pub script : List ℕ
  pub read : ReadsToLimit most_script_octets script before.input after.input
  pub text : List ℕ
  pub written : Wrote text before.output after.output
  pub keeps : KeepsAnswers schema limits script text

-- a script's run that ended with 0 was such a one, under the schema whose text the file gave
abbrev pub KeepsScripts : Type 0
KeepsScripts =
    (words : List (List ℕ)) (name : List ℕ) (limits : Limits) (before after : Environment)
    (returned : Option SeenDisk) (how : Option How) (links : SeenLinks) (status : ℕ) →
    IsScript words name limits → Run words before after returned how links status →
    status ≡ exit_status Done →
    (text : List ℕ) × GaveText name text before.files after.files
    × (schema : List SchemaNode) × (schema_of text ≡ Ok schema)
    × RanWhole schema limits before after
