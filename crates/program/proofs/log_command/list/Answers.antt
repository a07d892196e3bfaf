use Rattle.std.proofs.Common.{sym, subst}
use Rattle.log_text.specs.Logs.{log_text}
use Rattle.program.specs.declared.ending.Ending.TheVariants.{Done}
use Rattle.program.specs.Environment.{seen_disk}
use Rattle.program.specs.LogRun.{ListsDisk}
use Rattle.program.specs.Printing.{MakesText}
use Rattle.program.proofs.Stages.{history_printed}
use Rattle.program.proofs.log_command.list.Goals as goal

pub returns-in-Ready : goal.returns-in-Ready
returns-in-Ready g c =
    let told = g.D.Disk.told in
    let faults = g.D.Disk.faults in
    let old = g.W.Sink.seen c.args.output.now in
    let new = g.W.Sink.seen c.print_history-ending.new.output in
    let ending = c.print_history-ending.result in
    let ready = c.in-Ready.ensures.opens in
    let output = subst (λ h. MakesText (log_text h) Done old new ending) c.items.ensures c.print_history-ending.ensures in
    let initial = seen_disk told faults c.args.disk in
    subst (λ disk. ListsDisk initial (seen_disk told faults disk) old new ending) (sym c.give.ensures) (history_printed c.in-Ready.ledger.limits c.in-Ready.entries initial (seen_disk told faults c.in-Ready.ledger.disk) old new ending ready.journal ready.images (record { content = ready.was_synced; quiet = ready.quiet }) output)
