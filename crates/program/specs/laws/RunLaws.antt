-- What follows of runs in which nothing fails: each ends as its command says, unless memory is wanting.
use Rattle.std.specs.Prelude.{◌≡◌, ℕ, List, ◌≢◌, [], ◌⊎◌, codes, Option, Some, IfSome, Result, Ok, Err}
use Rattle.environment.specs.Input.{ReadsToLimit}
use Rattle.environment.specs.Output.{Output, Wrote}
use Rattle.base_kinds.specs.declared.entry.Entry.{Entry}
use Rattle.base_kinds.specs.declared.entry.Limits.{Limits}
use Rattle.base_kinds.specs.Limits.{most_script_octets}
use Rattle.base_kinds.specs.Schema.{SchemaNode}
use Rattle.schema_text.specs.declared.cause.SchemaFault.{SchemaFault}
use Rattle.schema_text.specs.Schemas.{schema_of}
use Rattle.disk_model.specs.Content.{WhereTold, Tells}
use Rattle.journal_format.specs.Journal.{IsJournal, IsDamaged}
use Rattle.commit_journal.specs.Writes.{Creates}
use Rattle.log_text.specs.Logs.{log_text}
use Rattle.script_run.specs.declared.run.ScriptEnd.{ScriptEnd}
use Rattle.script_run.specs.Scripts.{RunsScript}
use Rattle.script_run.specs.laws.ScriptLaws.{HaveNoStops}
use Rattle.session_core.specs.declared.how.How.{How}
use Rattle.program.specs.declared.ending.Ending.TheVariants.{Done, NoMemory, NoSchema}
use Rattle.program.specs.declared.ending.Ending.TheVariants.{JournalNotEmpty, JournalDamaged}
use Rattle.program.specs.Ending.{exit_status}
use Rattle.program.specs.Environment.{Environment, SeenDisk, GaveText, GaveDisk, files_after_disk, files_after_new_disk}
use Rattle.program.specs.Links.{SeenLinks}
use Rattle.program.specs.CheckRun.{count_line}
use Rattle.program.specs.LogRun.{OnlySynced, damage_line}
use Rattle.program.specs.Commands.{IsCheck, IsScript, IsInit, IsLog}
use Rattle.program.specs.Run.{Run}
use Rattle.program.specs.SchemaFile.{fault_line}
use Rattle.program.specs.ScriptRun.{script_ending}

-- no object failed in the run, the disk that is handed back among them
pub record NothingFailed (before after : Environment) (returned : Option SeenDisk) : Type 0 where
  pub files : after.files.faults ≡ before.files.faults
  pub disks : after.files.disk_faults ≡ before.files.disk_faults
  pub disk : IfSome returned (λ disk. disk.faults ≡ 0)
  pub input : after.input.faults ≡ before.input.faults
  pub output : after.output.faults ≡ before.output.faults

-- the text was written, all of it and nothing else, and this is the status
abbrev pub WroteAndEnded : List ℕ → ℕ → Output → Output → ℕ → Type 0
WroteAndEnded text good old new status = Wrote text old new × (status ≡ good)

-- what a check writes by a text read as a schema
abbrev pub CheckedAs : Result (List SchemaNode) SchemaFault → Output → Output → ℕ → Type 0
CheckedAs (Ok schema) old new status =
    WroteAndEnded (count_line schema) (exit_status Done) old new status
CheckedAs (Err fault) old new status =
    WroteAndEnded (fault_line fault) (exit_status NoSchema) old new status

-- a check in which nothing fails writes the line of the file's text, unless memory is wanting
abbrev pub CompletesChecks : Type 0
CompletesChecks =
    (words : List (List ℕ)) (name : List ℕ) (before after : Environment)
    (returned : Option SeenDisk) (how : Option How) (links : SeenLinks) (status : ℕ) →
    IsCheck words name → Run words before after returned how links status →
    NothingFailed before after returned →
    (status ≡ exit_status NoMemory)
    ⊎ ((text : List ℕ) × GaveText name text before.files after.files
    × CheckedAs (schema_of text) before.output after.output status)

-- the answers to this script were written, all of them and nothing else, and the run ended so
pub record WroteAnswers
    (schema : List SchemaNode) (limits : Limits) (script : List ℕ) (old new : Output)
    (status : ℕ) : Type 0 where
  pub answers : List ℕ
  pub script_end : ScriptEnd
  pub runs : RunsScript schema limits script answers script_end
  pub written : WroteAndEnded answers (exit_status (script_ending script_end)) old new status

-- what a script's run does by a text read as a schema
abbrev pub RanAs : Result (List SchemaNode) SchemaFault → Limits → Environment → Environment → ℕ →
    Type 0
RanAs (Ok schema) limits before after status =
    (script : List ℕ) × ReadsToLimit most_script_octets script before.input after.input
    × WroteAnswers schema limits script before.output after.output status
RanAs (Err fault) limits before after status =
    WroteAndEnded (fault_line fault) (exit_status NoSchema) before.output after.output status

-- a script's run in which nothing fails reads the input and writes its answers, unless memory is wanting
abbrev pub CompletesScripts : Type 0
CompletesScripts =
    (words : List (List ℕ)) (name : List ℕ) (limits : Limits) (before after : Environment)
    (returned : Option SeenDisk) (how : Option How) (links : SeenLinks) (status : ℕ) →
    IsScript words name limits → Run words before after returned how links status →
    NothingFailed before after returned →
    (status ≡ exit_status NoMemory)
    ⊎ ((text : List ℕ) × GaveText name text before.files after.files
    × RanAs (schema_of text) limits before after status)

-- the journal was made on an empty disk, or the disk holds octets and was left as it was; and the one or the other was said
abbrev pub PreparedAs : Limits → SeenDisk → SeenDisk → Output → Output → ℕ → Type 0
PreparedAs limits initial final old new status =
    (WhereTold initial.told final.told (Creates limits)
    × WroteAndEnded (codes "journal ready\n") (exit_status Done) old new status)
    ⊎ (Tells initial.told (λ content. content.seen ≢ []) × (final ≡ initial)
    × WroteAndEnded (codes "journal not empty\n") (exit_status JournalNotEmpty) old new status)

-- `init` in which nothing fails does so, unless memory is wanting
abbrev pub CompletesInits : Type 0
CompletesInits =
    (words : List (List ℕ)) (name : List ℕ) (limits : Limits) (before after : Environment)
    (returned : Option SeenDisk) (how : Option How) (links : SeenLinks) (status : ℕ) →
    IsInit words name limits → Run words before after returned how links status →
    NothingFailed before after returned →
    (status ≡ exit_status NoMemory)
    ⊎ ((initial : SeenDisk) × (final : SeenDisk)
    × GaveDisk files_after_new_disk name initial before.files after.files
    × (returned ≡ Some final)
    × PreparedAs limits initial final before.output after.output status)

-- the octets of the disk are a journal, and its log was written; or they are none, and the first place of damage was
abbrev pub ListedAs : SeenDisk → Output → Output → ℕ → Type 0
ListedAs initial old new status =
    ((limits : Limits) × (history : List Entry)
    × Tells initial.told (λ content. IsJournal content.seen limits history)
    × WroteAndEnded (log_text history) (exit_status Done) old new status)
    ⊎ ((place : ℕ) × Tells initial.told (λ content. IsDamaged content.seen place)
    × WroteAndEnded (damage_line place) (exit_status JournalDamaged) old new status)

-- `log` in which nothing fails does so, and syncs the disk and does nothing else to it, unless memory is wanting
abbrev pub CompletesLogs : Type 0
CompletesLogs =
    (words : List (List ℕ)) (name : List ℕ) (before after : Environment)
    (returned : Option SeenDisk) (how : Option How) (links : SeenLinks) (status : ℕ) →
    IsLog words name → Run words before after returned how links status →
    NothingFailed before after returned →
    (status ≡ exit_status NoMemory)
    ⊎ ((initial : SeenDisk) × (final : SeenDisk)
    × GaveDisk files_after_disk name initial before.files after.files
    × (returned ≡ Some final) × OnlySynced initial final
    × ListedAs initial before.output after.output status)

-- of an input that tells what is left the whole is answered: what is not read changes nothing
abbrev pub AnswersWhole : Type 0
AnswersWhole =
    (schema : List SchemaNode) (limits : Limits) (script all : List ℕ)
    (before after : Environment) (status : ℕ) →
    ReadsToLimit most_script_octets script before.input after.input → before.input.left ≡ Some all →
    WroteAnswers schema limits script before.output after.output status →
    WroteAnswers schema limits all before.output after.output status

-- two runs under one schema and limits that answer one script, of which no line lets the disk stop, write the same, and end
-- with one status
abbrev pub WritesTheSame : Type 0
WritesTheSame =
    (schema : List SchemaNode) (limits : Limits) (script : List ℕ) (a b c d : Output)
    (status other : ℕ) → HaveNoStops script →
    (first : WroteAnswers schema limits script a b status) →
    (second : WroteAnswers schema limits script c d other) →
    (first.answers ≡ second.answers) × (status ≡ other)
