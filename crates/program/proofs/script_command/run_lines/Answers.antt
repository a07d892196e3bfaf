use Rattle.std.proofs.Common.{subst}
use Rattle.script_run.specs.Scripts.{RunsScript}
use Rattle.program.specs.declared.ending.Ending.{Ending}
use Rattle.program.specs.Printing.{PrintsText}
use Rattle.program.specs.ScriptRun.{script_ending}
use Rattle.program.proofs.Stages.{answered}
use Rattle.program.proofs.script_command.run_lines.Goals as goal

pub returns-clause-lines : goal.returns-clause-lines
returns-clause-lines g c =
    let seen = g.K.Output.Sink.seen in
    let old = seen c.host.inside.output in
    let new = seen c.print.new.output in
    let schema = c.args.schema in
    let text = c.in-Ok-run_script.transcript.text in
    let script_end = c.in-Ok-run_script.transcript.ending in
    let runs = subst (λ octets. RunsScript schema c.args.limits octets text script_end) c.items.ensures c.in-Ok-run_script.ensures in
    let by_ending = subst (λ (good : Ending). PrintsText c.items-2.result.now good old new c.print.result) c.script_ending-good.ensures c.print.ensures in
    let output = subst (λ t. PrintsText t (script_ending script_end) old new c.print.result) c.items-2.ensures by_ending in
    rw (← c.host.view_is) (answered c.args.limits _ _ c.print.result schema c.in-Ok.octets text script_end c.in-Ok.ensures.ok runs output)
