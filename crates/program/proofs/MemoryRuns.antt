-- Runs over objects in memory.
use Rattle.std.proofs.Common.{◌≡◌, ℕ, zero, suc, List, [], ◌++◌, ◌≢◌, Option, Some, None, IfSome, Contains, Result, Ok, Err, inl, inr, refl, sym, ap, ◌∙◌, subst, codes, append_assoc, arith}
use Rattle.std.specs.Io.KnownBytes.{Consumes}
use Rattle.environment.specs.Input.{Input, Read, input_with_fault}
use Rattle.environment.specs.Output.{Output, Wrote, unwritten_output}
use Rattle.base_kinds.specs.declared.entry.Limits.{Limits}
use Rattle.base_kinds.specs.Schema.{SchemaNode}
use Rattle.disk_model.specs.Content.{Content, WhereTold, Tells}
use Rattle.journal_format.specs.Journal.{IsJournal, IsDamaged}
use Rattle.journal_format.proofs.Runs.{one_history, one_damage, not_both}
use Rattle.commit_journal.specs.Writes.{Creates}
use Rattle.log_text.specs.Logs.{log_text}
use Rattle.schema_text.specs.declared.cause.SchemaFault.{SchemaFault}
use Rattle.schema_text.specs.Schemas.{schema_of}
use Rattle.session_core.specs.declared.how.How.{How}
use Rattle.session_core.specs.declared.how.How.TheVariants as hows
use Rattle.session_core.specs.Reading.{IsGiven}
use Rattle.program.specs.declared.ending.Ending.{Ending}
use Rattle.program.specs.declared.ending.Ending.TheVariants.{Done, NoSchema, JournalNotEmpty, JournalDamaged}
use Rattle.program.specs.declared.files_record.NamedText.{NamedText}
use Rattle.program.specs.Ending.{exit_status}
use Rattle.program.specs.Environment.{Environment, SeenDisk, GaveText, DiskAsk, GaveDisk, IsDiskOf, texts_of, files_after_disk, files_after_new_disk}
use Rattle.program.specs.Links.{SeenLinks}
use Rattle.program.specs.CheckRun.{Counts, count_line}
use Rattle.program.specs.Commands.{Command, Check, Script, Init, Log, Session, Serve, Load, Help, Version, Gives, IsNoLoad, IsNoServe, IsNoSession}
use Rattle.program.specs.InitRun.{PreparesDisk}
use Rattle.program.specs.JournalFile.{DiskWork, OverDisk}
use Rattle.program.specs.LogRun.{ListsDisk, damage_line}
use Rattle.program.specs.HelpRun.{help_text, version_text}
use Rattle.program.specs.Run.{Run, Does}
use Rattle.program.specs.SchemaFile.{fault_line, UnderText, UnderSchema}
use Rattle.program.specs.ScriptRun.{RunsLines}
use Rattle.program.specs.ServeCommand.{ServeCommand}
use Rattle.program.specs.SessionCommand.{Streams, OnDisk, SessionCommand, streams_of}
use Rattle.program.specs.laws.RunLaws.{WroteAndEnded, CheckedAs, RanAs, PreparedAs, ListedAs}
use Rattle.program.specs.laws.MemoryRuns.{Memory, IsFreshMemory, IsInputOf, LosesNoOctet, WentWell, WroteAlike, RunsAlike}
use Rattle.script_run.specs.laws.ScriptLaws.{HaveNoStops}
use Rattle.program.proofs.RunLaws.{checks_complete, scripts_complete, inits_complete, logs_complete, whole_answered, same_written}
use Rattle.program.proofs.WordLaws.{help_completes, version_completes, refusals_complete}

-- ---- no octet is lost

consumed : (rest piece : List ℕ) (old new : Option (List ℕ)) → old ≡ Some rest → Consumes old new piece → (more : List ℕ) × (new ≡ Some more) × (rest ≡ piece ++ more)
consumed rest piece None new is took = absurd (let none : None ≡ Some rest = is in cc)
consumed rest piece (Some octets) None is took = absurd took
consumed rest piece (Some octets) (Some more) is took = (more, refl, (let same : octets ≡ rest = cc in sym same ∙ took))

read_loses_none : (octets piece : List ℕ) (old new : Input) → Read piece old new → IsInputOf octets old → IsInputOf octets new
read_loses_none octets piece old new read of =
    let took = consumed of.rest piece old.left new.left of.left read.left in
    record {
      rest = took.0;
      left = took.1;
      whole = ap (λ given. given ++ took.0) read.given ∙ append_assoc old.given piece took.0 ∙ ap (λ rest. old.given ++ rest) (sym took.2) ∙ of.whole;
    }

fault_loses_none : (octets : List ℕ) (old : Input) → IsInputOf octets old → IsInputOf octets (input_with_fault old)
fault_loses_none octets old of = record { rest = of.rest; left = of.left; whole = of.whole }

untouched : (octets : List ℕ) (old new : Input) → new ≡ old → IsInputOf octets old → IsInputOf octets new
untouched octets old new same of = subst (λ (i : Input). IsInputOf octets i) (sym same) of

lines_lose_none : (octets : List ℕ) (limits : Limits) (before after : Environment) (ending : Ending) (schema : List SchemaNode) → IsInputOf octets before.input → RunsLines limits before after ending schema → IsInputOf octets after.input
lines_lose_none octets limits before after ending schema of (inl answers) = read_loses_none octets answers.script before.input after.input answers.read.read of
lines_lose_none octets limits before after ending schema of (inr (inl bad)) =
    let last = bad.read.2.0 in
    let read = read_loses_none octets bad.read.0 before.input last bad.read.2.1 of in
    untouched octets (input_with_fault last) after.input bad.read.2.2 (fault_loses_none octets last read)
lines_lose_none octets limits before after ending schema of (inr (inr out)) = read_loses_none octets out.read.0 before.input after.input out.read.2 of

text_loses_none : (octets : List ℕ) (read : Result (List SchemaNode) SchemaFault) (before after : Environment) (ending : Ending) (Then : List SchemaNode → Type 0) → ((schema : List SchemaNode) → Then schema → IsInputOf octets after.input) → IsInputOf octets before.input → UnderText read before after ending Then → IsInputOf octets after.input
text_loses_none octets (Ok schema) before after ending Then by of done = by schema done
text_loses_none octets (Err fault) before after ending Then by of bad = untouched octets before.input after.input bad.input of

under_loses_none : (octets name : List ℕ) (before after : Environment) (ending : Ending) (Then : List SchemaNode → Type 0) → ((schema : List SchemaNode) → Then schema → IsInputOf octets after.input) → IsInputOf octets before.input → UnderSchema name before after ending Then → IsInputOf octets after.input
under_loses_none octets name before after ending Then by of (inl from) = text_loses_none octets (schema_of from.text) before after ending Then by of from.under
under_loses_none octets name before after ending Then by of (inr (inl fails)) = untouched octets before.input after.input fails.input of
under_loses_none octets name before after ending Then by of (inr (inr out)) = untouched octets before.input after.input out.input of

disk_loses_none : (octets : List ℕ) (ask : DiskAsk) (name : List ℕ) (before after : Environment) (returned : Option SeenDisk) (ending : Ending) (Work : DiskWork) → IsInputOf octets before.input → OverDisk ask name before after returned ending Work → IsInputOf octets after.input
disk_loses_none octets ask name before after returned ending Work of (inl with) = untouched octets before.input after.input with.input of
disk_loses_none octets ask name before after returned ending Work of (inr none) = untouched octets before.input after.input none.input of

given_loses_none : (octets piece : List ℕ) (how : How) (old new : Input) → IsInputOf octets old → IsGiven how piece old new → IsInputOf octets new
given_loses_none octets piece hows.Closed old new of given = read_loses_none octets piece old new given.all of
given_loses_none octets piece hows.Cut old new of given = read_loses_none octets piece old new given.all of
given_loses_none octets piece hows.ReadFault old new of given =
    let last = given.failed.0 in
    let read = read_loses_none octets piece old last given.failed.1 of in
    untouched octets (input_with_fault last) new given.failed.2 (fault_loses_none octets last read)
given_loses_none octets piece (hows.Protocol code) old new of given = read_loses_none octets piece old new given of
given_loses_none octets piece hows.WriteFault old new of given = read_loses_none octets piece old new given of
given_loses_none octets piece hows.Spent old new of given = read_loses_none octets piece old new given of
given_loses_none octets piece hows.NoMemory old new of given = read_loses_none octets piece old new given of

served_loses_none : (octets : List ℕ) (schema : List SchemaNode) (initial final : SeenDisk) (old new : Streams) (how : Option How) (ending : Ending) → IsInputOf octets old.input → OnDisk schema initial final old new how ending → IsInputOf octets new.input
served_loses_none octets schema initial final old new how ending of on =
    elim on.serves [
      | inl one ↦ given_loses_none octets one.run.octets one.connection old.input new.input of one.run.given
      | inr none ↦ untouched octets old.input new.input (ap (λ (s : Streams). s.input) none.streams) of
    ]

session_loses_none : (octets schema journal : List ℕ) (before after : Environment) (returned : Option SeenDisk) (how : Option How) (ending : Ending) → IsInputOf octets before.input → SessionCommand schema journal before after returned how ending → IsInputOf octets after.input
session_loses_none octets schema journal before after returned how ending of (inl on) = served_loses_none octets on.schema on.initial on.final (streams_of before) (streams_of after) how ending of on.goes_on
session_loses_none octets schema journal before after returned how ending of (inr (inl stops)) = untouched octets before.input after.input (ap (λ (s : Streams). s.input) stops.nothing.streams) of
session_loses_none octets schema journal before after returned how ending of (inr (inr stops)) = untouched octets before.input after.input (ap (λ (s : Streams). s.input) stops.nothing.streams) of

serve_loses_none : (octets schema journal : List ℕ) (sessions : ℕ) (before after : Environment) (returned : Option SeenDisk) (links : SeenLinks) (ending : Ending) → IsInputOf octets before.input → ServeCommand schema journal sessions before after returned links ending → IsInputOf octets after.input
serve_loses_none octets schema journal sessions before after returned links ending of (inl on) = untouched octets before.input after.input on.goes_on.input of
serve_loses_none octets schema journal sessions before after returned links ending of (inr (inl stops)) = untouched octets before.input after.input (ap (λ (e : Environment). e.input) stops.nothing.rest) of
serve_loses_none octets schema journal sessions before after returned links ending of (inr (inr stops)) = untouched octets before.input after.input (ap (λ (e : Environment). e.input) stops.nothing.rest) of

command_loses_none : (octets : List ℕ) (command : Command) (before after : Environment) (returned : Option SeenDisk) (how : Option How) (links : SeenLinks) (ending : Ending) → IsInputOf octets before.input → Does command before after returned how links ending → IsInputOf octets after.input
command_loses_none octets (Check name) before after returned how links ending of does = under_loses_none octets name before after ending (Counts before after ending) (λ schema counts. untouched octets before.input after.input counts.input of) of does.0
command_loses_none octets (Script name limits) before after returned how links ending of does = under_loses_none octets name before after ending (RunsLines limits before after ending) (λ schema lines. lines_lose_none octets limits before after ending schema of lines) of does.0
command_loses_none octets (Init name limits) before after returned how links ending of does = disk_loses_none octets files_after_new_disk name before after returned ending (PreparesDisk limits) of does
command_loses_none octets (Log name) before after returned how links ending of does = disk_loses_none octets files_after_disk name before after returned ending ListsDisk of does
command_loses_none octets (Session schema journal) before after returned how links ending of does = session_loses_none octets schema journal before after returned how ending of does
command_loses_none octets (Serve schema journal address sessions) before after returned how links ending of does = serve_loses_none octets schema journal sessions before after returned links ending of does
command_loses_none octets (Load seed count) before after returned how links ending of does = untouched octets before.input after.input does.0.input of
command_loses_none octets Help before after returned how links ending of does = untouched octets before.input after.input does.0.input of
command_loses_none octets Version before after returned how links ending of does = untouched octets before.input after.input does.0.input of

pub loses_no_octet : LosesNoOctet
loses_no_octet words octets before after returned how links status (inl given) run of = command_loses_none octets given.0 before after returned how links run.ending of (run.done given.0 given.1)
loses_no_octet words octets before after returned how links status (inr none) run of = untouched octets before.input after.input (run.refused none).input of

-- ---- equal objects

-- what both runs wrote
abbrev WroteBoth : List ℕ → Output → Output → Output → Output → ℕ → ℕ → Type 0
WroteBoth text p q r s status status' = Wrote text p q × Wrote text r s × (status ≡ status')

both_ended : (text : List ℕ) (good : ℕ) (p q r s : Output) (status status' : ℕ) → WroteAndEnded text good p q status → WroteAndEnded text good r s status' → (written : List ℕ) × WroteBoth written p q r s status status'
both_ended text good p q r s status status' one other = (text, (one.0, other.0, one.1 ∙ sym other.1))

checked_alike : (read : Result (List SchemaNode) SchemaFault) (p q r s : Output) (status status' : ℕ) → CheckedAs read p q status → CheckedAs read r s status' → (written : List ℕ) × WroteBoth written p q r s status status'
checked_alike (Ok schema) p q r s status status' one other = both_ended (count_line schema) (exit_status Done) p q r s status status' one other
checked_alike (Err fault) p q r s status status' one other = both_ended (fault_line fault) (exit_status NoSchema) p q r s status status' one other

ran_alike : (read : Result (List SchemaNode) SchemaFault) (limits : Limits) (octets : List ℕ) (a b c d : Environment) (status status' : ℕ) → HaveNoStops octets → a.input.left ≡ Some octets → c.input.left ≡ Some octets → RanAs read limits a b status → RanAs read limits c d status' → (written : List ℕ) × WroteBoth written a.output b.output c.output d.output status status'
ran_alike (Ok schema) limits octets a b c d status status' none one_left other_left one other =
    let first = whole_answered schema limits one.0 octets a b status one.1 one_left one.2 in
    let second = whole_answered schema limits other.0 octets c d status' other.1 other_left other.2 in
    let same = same_written schema limits octets a.output b.output c.output d.output status status' none first second in
    (first.answers, (first.written.0, subst (λ text. Wrote text c.output d.output) (sym same.0) second.written.0, same.1))
ran_alike (Err fault) limits octets a b c d status status' none one_left other_left one other = both_ended (fault_line fault) (exit_status NoSchema) a.output b.output c.output d.output status status' one other

-- the text that files of one text gave is that one
one_text : (name : List ℕ) (text : Option (List ℕ)) (asked given : List ℕ) → Contains (texts_of name text) (record { name = asked; text = given }) → text ≡ Some given
one_text name None asked given (place, bound, is) = absurd (omega (arith, bound))
one_text name (Some text) asked given (zero, bound, is) =
    let one : NamedText = record { name = name; text = text } in
    let other : NamedText = record { name = asked; text = given } in
    let same : one ≡ other = cc in
    ap (λ (t : NamedText). Some t.text) same
one_text name (Some text) asked given (suc place, bound, is) = absurd (omega (arith, bound))

text_of_held : (name : List ℕ) (text : Option (List ℕ)) (asked given : List ℕ) (held : Option (List NamedText)) → held ≡ Some (texts_of name text) → IfSome held (λ texts. Contains texts (record { name = asked; text = given })) → text ≡ Some given
text_of_held name text asked given None is has = absurd (let none : None ≡ Some (texts_of name text) = is in cc)
text_of_held name text asked given (Some texts) is has =
    let same : texts ≡ texts_of name text = cc in
    one_text name text asked given (subst (λ ts. Contains ts (record { name = asked; text = given })) same has)

same_text : (memory : Memory) (asked one other : List ℕ) (a b c d : Environment) → IsFreshMemory memory a → IsFreshMemory memory c → GaveText asked one a.files b.files → GaveText asked other c.files d.files → other ≡ one
same_text memory asked one other a b c d first second gave also =
    let p : memory.text ≡ Some one = text_of_held memory.name memory.text asked one a.files.held (ap (λ f. f.held) first.files) gave.held in
    let q : memory.text ≡ Some other = text_of_held memory.name memory.text asked other c.files.held (ap (λ f. f.held) second.files) also.held in
    let same : Some other ≡ Some one = sym q ∙ p in
    cc

-- what the disk holds that files of one disk gave
record HoldsAll (octets : Option (List ℕ)) (told : Option Content) : Type 0 where
  pub content : Content
  pub tells : told ≡ Some content
  pub all : octets ≡ Some content.seen

disk_of_held : (name : List ℕ) (octets : Option (List ℕ)) (asked : List ℕ) (told : Option Content) (held : Option (List NamedText)) → held ≡ Some (texts_of name octets) → IfSome held (λ disks. IsDiskOf asked told disks) → HoldsAll octets told
disk_of_held name octets asked told None is has = absurd (let none : None ≡ Some (texts_of name octets) = is in cc)
disk_of_held name octets asked told (Some disks) is has =
    let same : disks ≡ texts_of name octets = cc in
    record {
      content = has.content;
      tells = has.tells;
      all = one_text name octets asked has.content.seen (subst (λ ds. Contains ds (record { name = asked; text = has.content.seen })) same has.held);
    }

same_octets : (octets : Option (List ℕ)) (one other : Option Content) (first : HoldsAll octets one) (second : HoldsAll octets other) → first.content.seen ≡ second.content.seen
same_octets octets one other first second =
    let same : Some first.content.seen ≡ Some second.content.seen = sym first.all ∙ second.all in
    cc

-- a fact of what is told, of the content
told_fact : (told : Option Content) (content : Content) (fact : Content → Type 0) → told ≡ Some content → Tells told fact → fact content
told_fact told content fact is holds = subst (λ t. Tells t fact) is holds

was_empty : (limits : Limits) (told new : Option Content) (content : Content) → told ≡ Some content → WhereTold told new (Creates limits) → content.seen ≡ []
was_empty limits told None content is created = absurd (subst (λ t. WhereTold t None (Creates limits)) is created)
was_empty limits told (Some new) content is created = (subst (λ t. WhereTold t (Some new) (Creates limits)) is created).was_empty

prepared_alike : (limits : Limits) (octets : Option (List ℕ)) (initial final initial' final' : SeenDisk) (p q r s : Output) (status status' : ℕ) → HoldsAll octets initial.told → HoldsAll octets initial'.told → PreparedAs limits initial final p q status → PreparedAs limits initial' final' r s status' → (written : List ℕ) × WroteBoth written p q r s status status'
prepared_alike limits octets initial final initial' final' p q r s status status' holds also (inl one) (inl other) = both_ended (codes "journal ready\n") (exit_status Done) p q r s status status' one.1 other.1
prepared_alike limits octets initial final initial' final' p q r s status status' holds also (inl one) (inr other) =
    absurd (told_fact initial'.told also.content (λ c. c.seen ≢ []) also.tells other.0 (sym (same_octets octets initial.told initial'.told holds also) ∙ was_empty limits initial.told final.told holds.content holds.tells one.0))
prepared_alike limits octets initial final initial' final' p q r s status status' holds also (inr one) (inl other) =
    absurd (told_fact initial.told holds.content (λ c. c.seen ≢ []) holds.tells one.0 (same_octets octets initial.told initial'.told holds also ∙ was_empty limits initial'.told final'.told also.content also.tells other.0))
prepared_alike limits octets initial final initial' final' p q r s status status' holds also (inr one) (inr other) = both_ended (codes "journal not empty\n") (exit_status JournalNotEmpty) p q r s status status' one.2 other.2

listed_alike : (octets : Option (List ℕ)) (initial initial' : SeenDisk) (p q r s : Output) (status status' : ℕ) → HoldsAll octets initial.told → HoldsAll octets initial'.told → ListedAs initial p q status → ListedAs initial' r s status' → (written : List ℕ) × WroteBoth written p q r s status status'
listed_alike octets initial initial' p q r s status status' holds also (inl one) (inl other) =
    let same = same_octets octets initial.told initial'.told holds also in
    let first = told_fact initial.told holds.content (λ c. IsJournal c.seen one.0 one.1) holds.tells one.2 in
    let second = told_fact initial'.told also.content (λ c. IsJournal c.seen other.0 other.1) also.tells other.2 in
    let one_is = one_history holds.content.seen one.0 other.0 one.1 other.1 first (subst (λ o. IsJournal o other.0 other.1) (sym same) second) in
    both_ended (log_text one.1) (exit_status Done) p q r s status status' one.3 (subst (λ h. WroteAndEnded (log_text h) (exit_status Done) r s status') (sym one_is.1) other.3)
listed_alike octets initial initial' p q r s status status' holds also (inl one) (inr other) =
    let same = same_octets octets initial.told initial'.told holds also in
    let first = told_fact initial.told holds.content (λ c. IsJournal c.seen one.0 one.1) holds.tells one.2 in
    let second = told_fact initial'.told also.content (λ c. IsDamaged c.seen other.0) also.tells other.1 in
    absurd (not_both holds.content.seen one.0 one.1 other.0 first (subst (λ o. IsDamaged o other.0) (sym same) second))
listed_alike octets initial initial' p q r s status status' holds also (inr one) (inl other) =
    let same = same_octets octets initial.told initial'.told holds also in
    let first = told_fact initial.told holds.content (λ c. IsDamaged c.seen one.0) holds.tells one.1 in
    let second = told_fact initial'.told also.content (λ c. IsJournal c.seen other.0 other.1) also.tells other.2 in
    absurd (not_both also.content.seen other.0 other.1 one.0 second (subst (λ o. IsDamaged o one.0) same first))
listed_alike octets initial initial' p q r s status status' holds also (inr one) (inr other) =
    let same = same_octets octets initial.told initial'.told holds also in
    let first = told_fact initial.told holds.content (λ c. IsDamaged c.seen one.0) holds.tells one.1 in
    let second = told_fact initial'.told also.content (λ c. IsDamaged c.seen other.0) also.tells other.1 in
    let one_is = one_damage holds.content.seen one.0 other.0 first (subst (λ o. IsDamaged o other.0) (sym same) second) in
    both_ended (damage_line one.0) (exit_status JournalDamaged) p q r s status status' one.2 (subst (λ n. WroteAndEnded (damage_line n) (exit_status JournalDamaged) r s status') (sym one_is) other.2)

held_disk : (memory : Memory) (ask : DiskAsk) (asked : List ℕ) (initial : SeenDisk) (a b : Environment) → IsFreshMemory memory a → GaveDisk ask asked initial a.files b.files → HoldsAll memory.disk initial.told
held_disk memory ask asked initial a b fresh gave = disk_of_held memory.disk_name memory.disk asked initial.told a.files.disks_held (ap (λ f. f.disks_held) fresh.files) gave.held

command_alike : (memory : Memory) (words : List (List ℕ)) (command : Command) (a b c d : Environment) (returned returned' : Option SeenDisk) (how how' : Option How) (links links' : SeenLinks) (status status' : ℕ) → IsNoSession words → IsNoServe words → IsNoLoad words → Gives words command → HaveNoStops memory.octets → IsFreshMemory memory a → IsFreshMemory memory c → Run words a b returned how links status → Run words c d returned' how' links' status' → WentWell a b returned status → WentWell c d returned' status' → (written : List ℕ) × WroteBoth written a.output b.output c.output d.output status status'
command_alike memory words (Check schema) a b c d returned returned' how how' links links' status status' apart unserved unloaded is none first second run also well fine =
    elim (checks_complete words schema a b returned how links status is run well.quiet) [
      | inl starved ↦ absurd (well.memory starved)
      | inr one ↦ elim (checks_complete words schema c d returned' how' links' status' is also fine.quiet) [
        | inl starved ↦ absurd (fine.memory starved)
        | inr other ↦
            let same = same_text memory schema one.0 other.0 a b c d first second one.1 other.1 in
            checked_alike (schema_of one.0) a.output b.output c.output d.output status status' one.2 (subst (λ t. CheckedAs (schema_of t) c.output d.output status') same other.2)
      ]
    ]
command_alike memory words (Script schema limits) a b c d returned returned' how how' links links' status status' apart unserved unloaded is none first second run also well fine =
    elim (scripts_complete words schema limits a b returned how links status is run well.quiet) [
      | inl starved ↦ absurd (well.memory starved)
      | inr one ↦ elim (scripts_complete words schema limits c d returned' how' links' status' is also fine.quiet) [
        | inl starved ↦ absurd (fine.memory starved)
        | inr other ↦
            let same = same_text memory schema one.0 other.0 a b c d first second one.1 other.1 in
            ran_alike (schema_of one.0) limits memory.octets a b c d status status' none (ap (λ (i : Input). i.left) first.input) (ap (λ (i : Input). i.left) second.input) one.2 (subst (λ t. RanAs (schema_of t) limits c d status') same other.2)
      ]
    ]
command_alike memory words (Init journal limits) a b c d returned returned' how how' links links' status status' apart unserved unloaded is none first second run also well fine =
    elim (inits_complete words journal limits a b returned how links status is run well.quiet) [
      | inl starved ↦ absurd (well.memory starved)
      | inr one ↦ elim (inits_complete words journal limits c d returned' how' links' status' is also fine.quiet) [
        | inl starved ↦ absurd (fine.memory starved)
        | inr other ↦ prepared_alike limits memory.disk one.0 one.1 other.0 other.1 a.output b.output c.output d.output status status' (held_disk memory files_after_new_disk journal one.0 a b first one.2) (held_disk memory files_after_new_disk journal other.0 c d second other.2) one.4 other.4
      ]
    ]
command_alike memory words (Log journal) a b c d returned returned' how how' links links' status status' apart unserved unloaded is none first second run also well fine =
    elim (logs_complete words journal a b returned how links status is run well.quiet) [
      | inl starved ↦ absurd (well.memory starved)
      | inr one ↦ elim (logs_complete words journal c d returned' how' links' status' is also fine.quiet) [
        | inl starved ↦ absurd (fine.memory starved)
        | inr other ↦ listed_alike memory.disk one.0 other.0 a.output b.output c.output d.output status status' (held_disk memory files_after_disk journal one.0 a b first one.2) (held_disk memory files_after_disk journal other.0 c d second other.2) one.5 other.5
      ]
    ]
command_alike memory words (Session schema journal) a b c d returned returned' how how' links links' status status' apart unserved unloaded is none first second run also well fine = absurd (apart schema journal is)
command_alike memory words (Serve schema journal address sessions) a b c d returned returned' how how' links links' status status' apart unserved unloaded is none first second run also well fine = absurd (unserved schema journal address sessions is)
command_alike memory words (Load seed count) a b c d returned returned' how how' links links' status status' apart unserved unloaded is none first second run also well fine = absurd (unloaded seed count is)
command_alike memory words Help a b c d returned returned' how how' links links' status status' apart unserved unloaded is none first second run also well fine = both_ended help_text (exit_status Done) a.output b.output c.output d.output status status' (help_completes words a b returned how links status is run well.quiet) (help_completes words c d returned' how' links' status' is also fine.quiet)
command_alike memory words Version a b c d returned returned' how how' links links' status status' apart unserved unloaded is none first second run also well fine = both_ended version_text (exit_status Done) a.output b.output c.output d.output status status' (version_completes words a b returned how links status is run well.quiet) (version_completes words c d returned' how' links' status' is also fine.quiet)

from_fresh : (text : List ℕ) (p q r s : Output) (status status' : ℕ) → p ≡ unwritten_output → r ≡ unwritten_output → WroteBoth text p q r s status status' → WroteAlike q s status status'
from_fresh text p q r s status status' first second wrote = record {
  text = text;
  first = subst (λ (o : Output). Wrote text o q) first wrote.0;
  second = subst (λ (o : Output). Wrote text o s) second wrote.1;
  statuses = wrote.2;
}

pub runs_alike : RunsAlike
runs_alike words memory a b c d returned returned' how how' links links' status status' (inl given) apart unserved unloaded none first second run also well fine =
    let both = command_alike memory words given.0 a b c d returned returned' how how' links links' status status' apart unserved unloaded given.1 none first second run also well fine in
    from_fresh both.0 a.output b.output c.output d.output status status' first.output second.output both.1
runs_alike words memory a b c d returned returned' how how' links links' status status' (inr no_command) apart unserved unloaded quiet first second run also well fine =
    let both = both_ended (codes "bad words\n") _ a.output b.output c.output d.output status status' (refusals_complete words a b returned how links status no_command run well.quiet) (refusals_complete words c d returned' how' links' status' no_command also fine.quiet) in
    from_fresh both.0 a.output b.output c.output d.output status status' first.output second.output both.1
