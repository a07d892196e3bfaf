-- Runs of scripts of which every line is one of a script.
use Rattle.std.proofs.Common.{ℕ, List, Ok, inl, inr, ap, ◌∙◌, subst}
use Rattle.environment.specs.Output.{Wrote}
use Rattle.base_kinds.specs.declared.entry.Limits.{Limits}
use Rattle.base_kinds.specs.Schema.{SchemaNode}
use Rattle.script_run.proofs.ScriptTexts.{prints_answers}
use Rattle.program.specs.Ending.{exit_status}
use Rattle.program.specs.Environment.{Environment}
use Rattle.program.specs.ScriptRun.{script_ending}
use Rattle.program.specs.laws.RunLaws.{RanAs}
use Rattle.program.specs.laws.GoodScripts.{RanLines, CompletesGoodScripts}
use Rattle.program.proofs.RunLaws.{scripts_complete}

ran_lines : (schema : List SchemaNode) (limits : Limits) (before after : Environment) (status : ℕ) → RanAs (Ok schema) limits before after status → RanLines schema limits before after status
ran_lines schema limits before after status ran = record {
  script = ran.0;
  read = ran.1;
  wrote = λ lines short are lets.
      let runs = ran.2 in
      let prints = prints_answers schema limits ran.0 lines runs.answers runs.script_end short are lets runs.runs in (
        subst (λ text. Wrote text before.output after.output) prints.0 runs.written.0,
        runs.written.1 ∙ ap (λ e. exit_status (script_ending e)) prints.1,
      );
}

pub good_scripts_complete : CompletesGoodScripts
good_scripts_complete words name limits before after returned how links status is run quiet =
    elim (scripts_complete words name limits before after returned how links status is run quiet) [
      | inl starved ↦ inl starved
      | inr ran ↦ inr (ran.0, ran.1, λ schema read. ran_lines schema limits before after status (subst (λ r. RanAs r limits before after status) read ran.2))
    ]
