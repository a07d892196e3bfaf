-- Runs of scripts that ended with 0.
use Rattle.std.proofs.Common.{◌≡◌, ℕ, List, Option, Result, Ok, Err, inl, inr, refl, sym, ◌∙◌, subst, arith}
use Rattle.base_kinds.specs.declared.entry.Limits.{Limits}
use Rattle.base_kinds.specs.Schema.{SchemaNode}
use Rattle.schema_text.specs.declared.cause.SchemaFault.{SchemaFault}
use Rattle.schema_text.specs.Schemas.{schema_of}
use Rattle.script_run.specs.declared.run.ScriptEnd.{ScriptEnd}
use Rattle.script_run.specs.declared.run.ScriptEnd.TheVariants as ends
use Rattle.script_run.specs.Scripts.{RunsScript}
use Rattle.script_run.proofs.WholeScripts.{whole_scripts_keep}
use Rattle.program.specs.declared.ending.Ending.{Ending}
use Rattle.program.specs.declared.ending.Ending.TheVariants as endings
use Rattle.program.specs.Commands.{Script}
use Rattle.program.specs.Ending.{exit_status}
use Rattle.program.specs.Environment.{Environment, GaveText}
use Rattle.program.specs.SchemaFile.{UnderSchema, UnderText}
use Rattle.program.specs.ScriptRun.{RunsLines, script_ending}
use Rattle.program.specs.laws.KeptAnswers.{KeepsScripts, RanWhole}

done_is : (ending : Ending) → exit_status ending ≡ 0 → ending ≡ endings.Done
done_is endings.Done is = refl
done_is endings.NoMemory is = absurd (omega (arith, is))
done_is endings.BadWords is = absurd (omega (arith, is))
done_is endings.NoSchema is = absurd (omega (arith, is))
done_is endings.SchemaUnfit is = absurd (omega (arith, is))
done_is endings.JournalNotEmpty is = absurd (omega (arith, is))
done_is endings.JournalDamaged is = absurd (omega (arith, is))
done_is endings.DiskFault is = absurd (omega (arith, is))
done_is endings.InputFault is = absurd (omega (arith, is))
done_is endings.OutputFault is = absurd (omega (arith, is))
done_is endings.DoorFault is = absurd (omega (arith, is))
done_is endings.BadLine is = absurd (omega (arith, is))
done_is endings.ConnectionBroken is = absurd (omega (arith, is))

no_memory : (ending : Ending) → ending ≡ endings.Done → ending ≡ endings.NoMemory → ⊥
no_memory ending is other = let both : endings.Done ≡ endings.NoMemory = sym is ∙ other in cc both

no_input_fault : (ending : Ending) → ending ≡ endings.Done → ending ≡ endings.InputFault → ⊥
no_input_fault ending is other = let both : endings.Done ≡ endings.InputFault = sym is ∙ other in cc both

no_output_fault : (ending : Ending) → ending ≡ endings.Done → ending ≡ endings.OutputFault → ⊥
no_output_fault ending is other = let both : endings.Done ≡ endings.OutputFault = sym is ∙ other in cc both

schema_read : (ending : Ending) → ending ≡ endings.Done → ending ≡ endings.NoSchema → ⊥
schema_read ending is other = let both : endings.Done ≡ endings.NoSchema = sym is ∙ other in cc both

whole_is : (end : ScriptEnd) → endings.Done ≡ script_ending end → end ≡ ends.Whole
whole_is ends.Whole is = refl
whole_is ends.Refused is = absurd (cc is)
whole_is ends.DiskFault is = absurd (cc is)

lines_kept : (limits : Limits) (before after : Environment) (ending : Ending) → ending ≡ endings.Done → (schema : List SchemaNode) → RunsLines limits before after ending schema → RanWhole schema limits before after
lines_kept limits before after ending is schema (inl answers) = elim (answers.output) [
  | inl printed ↦
      let whole : answers.script_end ≡ ends.Whole = whole_is answers.script_end (sym is ∙ printed.ends) in
      record {
        script = answers.script;
        read = answers.read;
        text = answers.text;
        written = printed.whole;
        keeps = whole_scripts_keep schema limits answers.script answers.text (subst (λ end. RunsScript schema limits answers.script answers.text end) whole answers.runs);
      }
  | inr broken ↦ absurd (no_output_fault ending is broken.ends)
]
lines_kept limits before after ending is schema (inr (inl bad)) = absurd (no_input_fault ending is bad.ends)
lines_kept limits before after ending is schema (inr (inr out)) = absurd (no_memory ending is out.output.ends)

abbrev KeptUnder : Limits → Environment → Environment → Result (List SchemaNode) SchemaFault → Type 0
KeptUnder limits before after read = (schema : List SchemaNode) × (read ≡ Ok schema) × RanWhole schema limits before after

text_kept : (limits : Limits) (before after : Environment) (ending : Ending) → ending ≡ endings.Done → (read : Result (List SchemaNode) SchemaFault) → UnderText read before after ending (RunsLines limits before after ending) → KeptUnder limits before after read
text_kept limits before after ending is (Ok schema) under = (schema, refl, lines_kept limits before after ending is schema under)
text_kept limits before after ending is (Err fault) bad = elim (bad.output) [
  | inl printed ↦ elim printed [
    | inl whole ↦ absurd (schema_read ending is whole.ends)
    | inr broken ↦ absurd (no_output_fault ending is broken.ends)
  ]
  | inr out ↦ absurd (no_memory ending is out.ends)
]

script_kept : (name : List ℕ) (limits : Limits) (before after : Environment) (ending : Ending) → ending ≡ endings.Done → UnderSchema name before after ending (RunsLines limits before after ending) → (text : List ℕ) × GaveText name text before.files after.files × KeptUnder limits before after (schema_of text)
script_kept name limits before after ending is (inl from) = (from.text, from.gave, text_kept limits before after ending is (schema_of from.text) from.under)
script_kept name limits before after ending is (inr (inl fails)) = absurd (no_input_fault ending is fails.ends)
script_kept name limits before after ending is (inr (inr out)) = absurd (no_memory ending is out.output.ends)

pub scripts_are_kept : KeepsScripts
scripts_are_kept words name limits before after returned how links status is run good =
    let kept = script_kept name limits before after run.ending (done_is run.ending (sym run.status_is ∙ good)) (run.done (Script name limits) is).0 in
    (kept.0, kept.1, kept.2.0, kept.2.1, kept.2.2)
