-- A run in its stages.
use Rattle.std.proofs.Common.{◌≡◌, ℕ, List, Result, Ok, Err, inl, inr, sym, subst}
use Rattle.base_kinds.specs.Limits.{most_script_octets}
use Rattle.base_kinds.specs.Schema.{SchemaNode}
use Rattle.base_kinds.specs.declared.entry.Limits.{Limits}
use Rattle.schema_text.specs.declared.cause.SchemaFault.{SchemaFault}
use Rattle.schema_text.specs.Schemas.{schema_of}
use Rattle.environment.specs.Input.{ReadsToLimit}
use Rattle.environment.specs.Output.{Output}
use Rattle.base_kinds.specs.declared.entry.Entry.{Entry}
use Rattle.disk_model.specs.Content.{Tells}
use Rattle.disk_model.specs.Moments.{LeavesNow}
use Rattle.journal_format.specs.Journal.{IsJournal}
use Rattle.log_text.specs.Logs.{log_text}
use Rattle.script_run.specs.declared.run.ScriptEnd.{ScriptEnd}
use Rattle.script_run.specs.Scripts.{RunsScript}
use Rattle.program.specs.declared.ending.Ending.{Ending}
use Rattle.program.specs.declared.ending.Ending.TheVariants.{Done, NoSchema}
use Rattle.program.specs.ScriptRun.{script_ending, RunsLines, ScriptRun}
use Rattle.program.specs.Printing.{PrintsText, MakesText}
use Rattle.program.specs.Environment.{Environment, SeenFiles, SeenDisk, GaveText}
use Rattle.program.specs.LogRun.{ListsDisk, OnlySynced}
use Rattle.program.specs.SchemaFile.{fault_line, UnderText, UnderSchema}
use Rattle.program.specs.inner.OpenedSchema.{Opened}

never_under : (read : Result (List SchemaNode) SchemaFault) (before after : Environment) (ending : Ending) (Then : List SchemaNode → Type 0) → UnderText read before after ending (λ _. ⊥) → UnderText read before after ending Then
never_under (Ok schema) before after ending Then never = absurd never
never_under (Err fault) before after ending Then bad = bad

-- a run that stops before there is a schema is one of any command
pub stopped : (name : List ℕ) (before after : Environment) (ending : Ending) (Then : List SchemaNode → Type 0) → UnderSchema name before after ending (λ _. ⊥) → UnderSchema name before after ending Then
stopped name before after ending Then (inl from) = inl (record { text = from.text; gave = from.gave; under = never_under (schema_of from.text) before after ending Then from.under })
stopped name before after ending Then (inr other) = inr other

-- once the schema was read, the run goes on by it
pub goes_on : (name : List ℕ) (schema : List SchemaNode) (before mid after : Environment) (ending : Ending) (Then : List SchemaNode → Type 0) → Opened name schema before mid → after.files ≡ mid.files → Then schema → UnderSchema name before after ending Then
goes_on name schema before mid after ending Then opened files then_schema = inl (record {
  text = opened.text;
  gave = subst (λ (texts : SeenFiles). GaveText name opened.text before.files texts) (sym files) opened.gave;
  under = subst (λ read. UnderText read before after ending Then) (sym opened.is) then_schema;
})

-- of a text that is no schema the first fault was printed
pub bad_text : (name text : List ℕ) (fault : SchemaFault) (before after : Environment) (ending : Ending) → schema_of text ≡ Err fault → GaveText name text before.files after.files → after.input ≡ before.input → MakesText (fault_line fault) NoSchema before.output after.output ending → UnderSchema name before after ending (λ _. ⊥)
bad_text name text fault before after ending is gave input prints =
    let bad : UnderText (Err fault) before after ending (λ _. ⊥) = record { input = input; output = prints } in
    inl (record { text = text; gave = gave; under = subst (λ read. UnderText read before after ending (λ _. ⊥)) (sym is) bad })

-- what was done after the schema was opened was done from the start
from_start : (limits : Limits) (before mid after : Environment) (ending : Ending) (schema : List SchemaNode) → mid ≡ record before { files = mid.files } → RunsLines limits mid after ending schema → RunsLines limits before after ending schema
from_start limits before mid after ending schema rest lines = files_apart limits before mid.files after ending schema (subst (λ (o : Environment). RunsLines limits o after ending schema) rest lines)
  where
    files_apart : (limits : Limits) (before : Environment) (files : SeenFiles) (after : Environment) (ending : Ending) (schema : List SchemaNode) → RunsLines limits (record before { files = files }) after ending schema → RunsLines limits before after ending schema
    files_apart limits before files after ending schema (inl answers) = inl (record { script = answers.script; read = answers.read; text = answers.text; script_end = answers.script_end; runs = answers.runs; output = answers.output })
    files_apart limits before files after ending schema (inr (inl bad)) = inr (inl (record { ends = bad.ends; read = bad.read; line = bad.line }))
    files_apart limits before files after ending schema (inr (inr out)) = inr (inr (record { read = out.read; output = out.output }))

pub script_goes_on : (name : List ℕ) (limits : Limits) (schema : List SchemaNode) (before mid after : Environment) (ending : Ending) → Opened name schema before mid → after.files ≡ mid.files → RunsLines limits mid after ending schema → ScriptRun name limits before after ending
script_goes_on name limits schema before mid after ending opened files lines = goes_on name schema before mid after ending (RunsLines limits before after ending) opened files (from_start limits before mid after ending schema opened.rest lines)

-- what was read was answered
pub answered : (limits : Limits) (before after : Environment) (ending : Ending) (schema : List SchemaNode) (script text : List ℕ) (script_end : ScriptEnd) → ReadsToLimit most_script_octets script before.input after.input → RunsScript schema limits script text script_end → PrintsText text (script_ending script_end) before.output after.output ending → RunsLines limits before after ending schema
answered limits before after ending schema script text script_end read runs output = inl (record {
  script = script;
  read = read;
  text = text;
  script_end = script_end;
  runs = runs;
  output = output;
})

-- what a journal holds was printed, unless memory was wanting for the text
pub history_printed : (limits : Limits) (history : List Entry) (initial final : SeenDisk) (old new : Output) (ending : Ending) → Tells initial.told (λ content. IsJournal content.seen limits history) → LeavesNow (λ octets. IsJournal octets limits history) final.told → OnlySynced initial final → MakesText (log_text history) Done old new ending → ListsDisk initial final old new ending
history_printed limits history initial final old new ending journal images synced (inl printed) = inl (synced, inl (record { limits = limits; history = history; journal = journal; images = images; output = printed }))
history_printed limits history initial final old new ending journal images synced (inr out) = inl (synced, inr (inr out))
