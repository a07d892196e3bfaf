-- Runs in which nothing fails.
use Rattle.std.proofs.Common.{◌≡◌, ℕ, ◌+◌, List, [], ◌++◌, length, ◌⊎◌, Option, Some, None, IfSome, codes, Result, Ok, Err, inl, inr, sym, ap, ◌∙◌, subst, arith}
use Rattle.std.specs.Io.KnownBytes.{Consumes, IsAtEnd}
use Rattle.environment.specs.Input.{Input, IsEnded}
use Rattle.environment.specs.Output.{Output}
use Rattle.base_kinds.specs.declared.entry.Limits.{Limits}
use Rattle.base_kinds.specs.Limits.{most_script_octets}
use Rattle.base_kinds.specs.Schema.{SchemaNode}
use Rattle.schema_text.specs.declared.cause.SchemaFault.{SchemaFault}
use Rattle.schema_text.specs.Schemas.{schema_of}
use Rattle.script_run.specs.Scripts.{RunsScript}
use Rattle.script_run.proofs.ScriptLaws.{prints_one_text}
use Rattle.script_run.proofs.Runs.{of_whole}
use Rattle.program.specs.declared.ending.Ending.{Ending}
use Rattle.program.specs.declared.ending.Ending.TheVariants.{Done, NoMemory, NoSchema, JournalNotEmpty, JournalDamaged}
use Rattle.program.specs.Ending.{exit_status}
use Rattle.program.specs.Environment.{Environment, SeenDisk, SeenFiles, GaveText, GaveDisk, files_after_disk, files_after_new_disk}
use Rattle.program.specs.Printing.{PrintsText, MakesText}
use Rattle.program.specs.CheckRun.{Counts, count_line}
use Rattle.program.specs.Commands.{Check, Script, Init, Log}
use Rattle.program.specs.SchemaFile.{fault_line, UnderText, UnderSchema}
use Rattle.environment.specs.Faults.{Rose}
use Rattle.log_text.specs.Logs.{log_text}
use Rattle.program.specs.InitRun.{InitRun, PreparesDisk}
use Rattle.program.specs.LogRun.{LogRun, ListsDisk, OnlySynced, damage_line}
use Rattle.program.specs.ScriptRun.{script_ending, RunsLines}
use Rattle.program.specs.laws.RunLaws.{NothingFailed, WroteAndEnded, CheckedAs, CompletesChecks, RanAs, CompletesScripts, AnswersWhole, WritesTheSame, PreparedAs, CompletesInits, ListedAs, CompletesLogs}

pub one_more_is_more : (n m : ℕ) → m ≡ n → m ≡ n + 1 → ⊥
one_more_is_more n m same more = omega (arith, same, more)

-- a text was printed whole where the output didn't fail
pub printed_whole : (text : List ℕ) (good ending : Ending) (old new : Output) (status : ℕ) → new.faults ≡ old.faults → status ≡ exit_status ending → PrintsText text good old new ending → WroteAndEnded text (exit_status good) old new status
printed_whole text good ending old new status quiet is (inl written) = (written.whole, is ∙ ap (λ (e : Ending). exit_status e) written.ends)
printed_whole text good ending old new status quiet is (inr broken) = absurd (one_more_is_more old.faults new.faults quiet (ap (λ (o : Output). o.faults) broken.prefix.2))

made_whole : (text : List ℕ) (good ending : Ending) (old new : Output) (status : ℕ) → new.faults ≡ old.faults → status ≡ exit_status ending → MakesText text good old new ending → (status ≡ exit_status NoMemory) ⊎ WroteAndEnded text (exit_status good) old new status
made_whole text good ending old new status quiet is (inl printed) = inr (printed_whole text good ending old new status quiet is printed)
made_whole text good ending old new status quiet is (inr out) = inl (is ∙ ap (λ (e : Ending). exit_status e) out.ends)

-- what was done under the text of a schema: `Then` is what the command does by it, `By` what it comes to
under_text : (read : Result (List SchemaNode) SchemaFault) (before after : Environment) (ending : Ending) (status : ℕ) (Then : List SchemaNode → Type 0) (By : Result (List SchemaNode) SchemaFault → Type 0) → ((schema : List SchemaNode) → Then schema → (status ≡ exit_status NoMemory) ⊎ By (Ok schema)) → ((fault : SchemaFault) → WroteAndEnded (fault_line fault) (exit_status NoSchema) before.output after.output status → By (Err fault)) → after.output.faults ≡ before.output.faults → status ≡ exit_status ending → UnderText read before after ending Then → (status ≡ exit_status NoMemory) ⊎ By read
under_text (Ok schema) before after ending status Then By by_schema by_fault quiet is done = by_schema schema done
under_text (Err fault) before after ending status Then By by_schema by_fault quiet is bad = elim (made_whole (fault_line fault) NoSchema ending before.output after.output status quiet is bad.output) [ inl out ↦ inl out | inr whole ↦ inr (by_fault fault whole) ]

under_schema : (name : List ℕ) (before after : Environment) (returned : Option SeenDisk) (ending : Ending) (status : ℕ) (Then : List SchemaNode → Type 0) (By : Result (List SchemaNode) SchemaFault → Type 0) → ((schema : List SchemaNode) → Then schema → (status ≡ exit_status NoMemory) ⊎ By (Ok schema)) → ((fault : SchemaFault) → WroteAndEnded (fault_line fault) (exit_status NoSchema) before.output after.output status → By (Err fault)) → NothingFailed before after returned → status ≡ exit_status ending → UnderSchema name before after ending Then → (status ≡ exit_status NoMemory) ⊎ ((text : List ℕ) × GaveText name text before.files after.files × By (schema_of text))
under_schema name before after returned ending status Then By by_schema by_fault quiet is (inl from) = elim (under_text (schema_of from.text) before after ending status Then By by_schema by_fault quiet.output is from.under) [ inl out ↦ inl out | inr done ↦ inr (from.text, from.gave, done) ]
under_schema name before after returned ending status Then By by_schema by_fault quiet is (inr (inl fails)) = absurd (one_more_is_more before.files.faults after.files.faults quiet.files (ap (λ f. f.faults) fails.files))
under_schema name before after returned ending status Then By by_schema by_fault quiet is (inr (inr out)) = inl (is ∙ ap (λ (e : Ending). exit_status e) out.output.ends)

pub checks_complete : CompletesChecks
checks_complete words name before after returned how links status is run quiet = under_schema name before after returned run.ending status (Counts before after run.ending) (λ read. CheckedAs read before.output after.output status) (λ schema counts. made_whole (count_line schema) Done run.ending before.output after.output status quiet.output run.status_is counts.output) (λ fault whole. whole) quiet run.status_is (run.done (Check name) is).0

lines_complete : (limits : Limits) (before after : Environment) (returned : Option SeenDisk) (ending : Ending) (status : ℕ) → NothingFailed before after returned → status ≡ exit_status ending → (schema : List SchemaNode) → RunsLines limits before after ending schema → (status ≡ exit_status NoMemory) ⊎ RanAs (Ok schema) limits before after status
lines_complete limits before after returned ending status quiet is schema (inl answers) = inr (
  answers.script,
  answers.read,
  record {
    answers = answers.text;
    script_end = answers.script_end;
    runs = answers.runs;
    written = printed_whole answers.text (script_ending answers.script_end) ending before.output after.output status quiet.output is answers.output;
  },
)
lines_complete limits before after returned ending status quiet is schema (inr (inl bad)) =
    let last = bad.read.2.0 in
    let more : after.input.faults ≡ last.faults + 1 = ap (λ (i : Input). i.faults) bad.read.2.2 in
    let same : last.faults ≡ before.input.faults = bad.read.2.1.quiet in
    absurd (omega (arith, more, same, quiet.input))
lines_complete limits before after returned ending status quiet is schema (inr (inr out)) = inl (is ∙ ap (λ (e : Ending). exit_status e) out.output.ends)

pub scripts_complete : CompletesScripts
scripts_complete words name limits before after returned how links status is run quiet = under_schema name before after returned run.ending status (RunsLines limits before after run.ending) (λ read. RanAs read limits before after status) (lines_complete limits before after returned run.ending status quiet run.status_is) (λ fault whole. whole) quiet run.status_is (run.done (Script name limits) is).0

-- a disk that is handed back without a fault didn't fail
quiet_disk : (returned : Option SeenDisk) (disk : SeenDisk) → returned ≡ Some disk → IfSome returned (λ d. d.faults ≡ 0) → disk.faults ≡ 0
quiet_disk None disk is quiet = absurd (let none : None ≡ Some disk = is in cc)
quiet_disk (Some other) disk is quiet = let same : other ≡ disk = cc in subst (λ (d : SeenDisk). d.faults ≡ 0) same quiet

never_fails : (initial final : SeenDisk) (returned : Option SeenDisk) → returned ≡ Some final → IfSome returned (λ d. d.faults ≡ 0) → Rose initial.faults final.faults → ⊥
never_fails initial final returned is quiet rose = let none = quiet_disk returned final is quiet in omega (arith, none, rose)

prepared : (limits : Limits) (initial final : SeenDisk) (returned : Option SeenDisk) (old new : Output) (ending : Ending) (status : ℕ) → new.faults ≡ old.faults → returned ≡ Some final → IfSome returned (λ d. d.faults ≡ 0) → status ≡ exit_status ending → PreparesDisk limits initial final old new ending → (status ≡ exit_status NoMemory) ⊎ PreparedAs limits initial final old new status
prepared limits initial final returned old new ending status quiet returned_is good is (inl made) = inr (inl (made.created, printed_whole (codes "journal ready\n") Done ending old new status quiet is made.output))
prepared limits initial final returned old new ending status quiet returned_is good is (inr (inl (same, inl full))) = inr (inr (full.octets, same, printed_whole (codes "journal not empty\n") JournalNotEmpty ending old new status quiet is full.output))
prepared limits initial final returned old new ending status quiet returned_is good is (inr (inl (same, inr out))) = inl (is ∙ ap (λ (e : Ending). exit_status e) out.ends)
prepared limits initial final returned old new ending status quiet returned_is good is (inr (inr failed)) = absurd (never_fails initial final returned returned_is good failed.fails.fault)

init_complete : (name : List ℕ) (limits : Limits) (before after : Environment) (returned : Option SeenDisk) (ending : Ending) (status : ℕ) → NothingFailed before after returned → status ≡ exit_status ending → InitRun name limits before after returned ending → (status ≡ exit_status NoMemory) ⊎ ((initial : SeenDisk) × (final : SeenDisk) × GaveDisk files_after_new_disk name initial before.files after.files × (returned ≡ Some final) × PreparedAs limits initial final before.output after.output status)
init_complete name limits before after returned ending status quiet is (inl with) =
    elim (prepared limits with.initial with.final returned before.output after.output ending status quiet.output with.returned_is quiet.disk is with.work) [
      | inl out ↦ inl out
      | inr done ↦ inr (with.initial, with.final, with.gave, with.returned_is, done)
    ]
init_complete name limits before after returned ending status quiet is (inr none) = absurd (one_more_is_more before.files.disk_faults after.files.disk_faults quiet.disks (ap (λ (f : SeenFiles). f.disk_faults) none.files))

pub inits_complete : CompletesInits
inits_complete words name limits before after returned how links status is run quiet = init_complete name limits before after returned run.ending status quiet run.status_is (run.done (Init name limits) is)

listed : (initial final : SeenDisk) (returned : Option SeenDisk) (old new : Output) (ending : Ending) (status : ℕ) → new.faults ≡ old.faults → returned ≡ Some final → IfSome returned (λ d. d.faults ≡ 0) → status ≡ exit_status ending → ListsDisk initial final old new ending → (status ≡ exit_status NoMemory) ⊎ (OnlySynced initial final × ListedAs initial old new status)
listed initial final returned old new ending status quiet returned_is good is (inl (synced, inl history)) = inr (synced, inl (history.limits, history.history, history.journal, printed_whole (log_text history.history) Done ending old new status quiet is history.output))
listed initial final returned old new ending status quiet returned_is good is (inl (synced, inr (inl damage))) = inr (synced, inr (damage.place, damage.damaged, printed_whole (damage_line damage.place) JournalDamaged ending old new status quiet is damage.output))
listed initial final returned old new ending status quiet returned_is good is (inl (synced, inr (inr out))) = inl (is ∙ ap (λ (e : Ending). exit_status e) out.ends)
listed initial final returned old new ending status quiet returned_is good is (inr failed) = absurd (never_fails initial final returned returned_is good failed.fails.fault)

log_complete : (name : List ℕ) (before after : Environment) (returned : Option SeenDisk) (ending : Ending) (status : ℕ) → NothingFailed before after returned → status ≡ exit_status ending → LogRun name before after returned ending → (status ≡ exit_status NoMemory) ⊎ ((initial : SeenDisk) × (final : SeenDisk) × GaveDisk files_after_disk name initial before.files after.files × (returned ≡ Some final) × OnlySynced initial final × ListedAs initial before.output after.output status)
log_complete name before after returned ending status quiet is (inl with) =
    elim (listed with.initial with.final returned before.output after.output ending status quiet.output with.returned_is quiet.disk is with.work) [
      | inl out ↦ inl out
      | inr done ↦ inr (with.initial, with.final, with.gave, with.returned_is, done.0, done.1)
    ]
log_complete name before after returned ending status quiet is (inr none) = absurd (one_more_is_more before.files.disk_faults after.files.disk_faults quiet.disks (ap (λ (f : SeenFiles). f.disk_faults) none.files))

pub logs_complete : CompletesLogs
logs_complete words name before after returned how links status is run quiet = log_complete name before after returned run.ending status quiet run.status_is (run.done (Log name) is)

-- what is left behind what was read is nothing, or follows the limit
what_follows : (script all : List ℕ) (old new : Option (List ℕ)) → Consumes old new script → old ≡ Some all → IsAtEnd new ⊎ (length script ≡ most_script_octets + 1) → (more : List ℕ) × (all ≡ script ++ more) × ((more ≡ []) ⊎ (length script ≡ most_script_octets + 1))
what_follows script all None new took is ended = absurd (let same : None ≡ Some all = is in cc)
what_follows script all (Some octets) None took is ended = absurd took
what_follows script all (Some octets) (Some more) took is ended = (more, (let same : octets ≡ all = cc in sym same ∙ took), ended)

ended_left : (input : Input) (script : List ℕ) → IsEnded input ⊎ (length script ≡ most_script_octets + 1) → IsAtEnd input.left ⊎ (length script ≡ most_script_octets + 1)
ended_left input script (inl ended) = inl ended.left
ended_left input script (inr long) = inr long

pub whole_answered : AnswersWhole
whole_answered schema limits script all before after status read is wrote =
    let follows = what_follows script all before.input.left after.input.left read.read.left is (ended_left after.input script read.whole) in
    record {
      answers = wrote.answers;
      script_end = wrote.script_end;
      runs = subst (λ octets. RunsScript schema limits octets wrote.answers wrote.script_end) (sym follows.1) (of_whole schema limits script follows.0 wrote.answers wrote.script_end follows.2 wrote.runs);
      written = wrote.written;
    }

pub same_written : WritesTheSame
same_written schema limits script a b c d status other none first second =
    let same = prints_one_text schema limits script first.answers second.answers first.script_end second.script_end none first.runs second.runs in
    (same.0, first.written.1 ∙ ap (λ e. exit_status (script_ending e)) same.1 ∙ sym second.written.1)
