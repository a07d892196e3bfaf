-- THE PAGE. What a run of `serve`, `session` or `script` is for whoever uses it: all its answers are those of one history of commits,
-- which the journal keeps, where the disk tells what it holds. It is a clause of `run`, and follows of the other one, Run.antt, which says how. The words are in
-- Terms.antt; OneHistory.antt, Connections.antt, Sessions.antt, Marks.antt and Crashes.antt say it of `serve` and `session`, and
-- OneScript.antt of `script`.
use Rattle.std.specs.Prelude.{◌≡◌, ◌⊎◌, ℕ, List, [], ◌∷◌, ◌++◌, Option, Some, None, Ok}
use Rattle.base_kinds.specs.declared.entry.Entry.{Entry}
use Rattle.base_kinds.specs.declared.entry.Limits.{Limits}
use Rattle.base_kinds.specs.Limits.{most_script_octets}
use Rattle.base_kinds.specs.Schema.{SchemaNode}
use Rattle.environment.specs.Input.{ReadsToLimit}
use Rattle.environment.specs.Output.{Wrote}
use Rattle.book_port.specs.Opened.{Opened, reopened}
use Rattle.book_core.specs.Openings.{HasJournal}
use Rattle.schema_text.specs.Schemas.{schema_of}
use Rattle.session_core.specs.declared.how.How.{How}
use Rattle.program.specs.declared.ending.Ending.TheVariants.{Done}
use Rattle.program.specs.Commands.{IsScript, IsServe, IsSession}
use Rattle.program.specs.Ending.{exit_status}
use Rattle.program.specs.Environment.{Environment, GaveDisk, GaveText, SeenDisk, SeenFiles, files_after_disk}
use Rattle.program.specs.Links.{SeenLinks}
use Rattle.program.specs.SchemaGiven.{GaveSchema}
use Rattle.program.specs.headline.OneHistory.{OneHistory, OneConnection}
use Rattle.program.specs.headline.OneScript.{OneScript}

-- The schema was read from the file of its name, and the journal's history from the disk of its name, where the disk tells what it
-- holds. The clock was read once; a trial that was open has ended. The disk is handed back.
pub record Opens (schema_name journal_name : List ℕ) (before after : Environment)
    (returned : Option SeenDisk) : Type 0 where
  pub schema : List SchemaNode
  pub between : SeenFiles
  pub gave_schema : GaveSchema schema_name schema before.files between
  pub initial : SeenDisk
  pub gave_disk : GaveDisk files_after_disk journal_name initial between after.files
  pub final : SeenDisk
  pub returned_is : returned ≡ Some final
  pub limits : Limits
  pub found : List Entry
  pub has_journal : HasJournal initial.told limits found
  pub now : ℕ

-- what is served goes on from there: the schema, the limits, the history, and how often the disk had failed
abbrev pub opened_by : {schema_name journal_name : List ℕ} {before after : Environment}
    {returned : Option SeenDisk} → Opens schema_name journal_name before after returned → Opened
opened_by opens = record {
  schema = opens.schema;
  limits = opens.limits;
  base = reopened opens.found opens.now;
  faults = opens.initial.faults;
}

-- `serve`
pub record ServeKeeps (schema_name journal_name : List ℕ) (before after : Environment)
    (returned : Option SeenDisk) (links : SeenLinks) : Type 0 where
  pub opens : Opens schema_name journal_name before after returned
  pub clock : after.clock ≡ before.clock ++ opens.now ∷ []
  pub one : OneHistory (opened_by opens) before.door after.door links opens.final.told

-- `session`
pub record SessionKeeps (schema_name journal_name : List ℕ) (before after : Environment)
    (returned : Option SeenDisk) (how : Option How) : Type 0 where
  pub opens : Opens schema_name journal_name before after returned
  pub connection : How
  pub how_is : how ≡ Some connection
  pub one : OneConnection (opened_by opens) connection before.input before.output
      (before.clock ++ opens.now ∷ []) after.input after.output after.clock opens.final.told

-- `script`
pub record ScriptKeeps (schema_name : List ℕ) (limits : Limits) (before after : Environment)
    : Type 0 where
  pub schema_text : List ℕ
  pub gave : GaveText schema_name schema_text before.files after.files
  pub schema : List SchemaNode
  pub schema_is : schema_of schema_text ≡ Ok schema
  pub script : List ℕ
  pub read : ReadsToLimit most_script_octets script before.input after.input
  pub text : List ℕ
  pub written : Wrote text before.output after.output
  pub one : OneScript schema limits script text

-- `serve` accepted no connection: it took none from its door
pub record AcceptsNone (before after : Environment) (links : SeenLinks) : Type 0 where
  pub links_are : links ≡ []
  pub door : after.door ≡ before.door

-- `session` served no connection: it read nothing of its input, and wrote nothing
pub record HearsNothing (before after : Environment) (how : Option How) : Type 0 where
  pub how_is : how ≡ None
  pub input : after.input ≡ before.input
  pub output : after.output ≡ before.output

-- By the words that the program was given: `serve` accepted no connection, or kept the promise for all; `session` served none, or kept
-- it; a `script` that ended with 0 kept it.
pub record Headline
    (words : List (List ℕ)) (before after : Environment) (returned : Option SeenDisk)
    (how : Option How) (links : SeenLinks) (status : ℕ) : Type 0 where
  pub serve : (schema journal address : List ℕ) (sessions : ℕ) →
      IsServe words schema journal address sessions →
      AcceptsNone before after links ⊎ ServeKeeps schema journal before after returned links
  pub session : (schema journal : List ℕ) → IsSession words schema journal →
      HearsNothing before after how ⊎ SessionKeeps schema journal before after returned how
  pub script : (schema : List ℕ) (limits : Limits) → IsScript words schema limits →
      status ≡ exit_status Done → ScriptKeeps schema limits before after
