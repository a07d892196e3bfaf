use Rattle.std.proofs.Common.{◌∙◌, subst, inl}
use Rattle.program.specs.declared.ending.Ending.TheVariants.{JournalDamaged}
use Rattle.program.specs.Printing.{MakesText}
use Rattle.program.proofs.log_command.print_damage.Goals as goal

pub returns-in-Ok : goal.returns-in-Ok
returns-in-Ok g c =
    let line = c.items.ensures ∙ c.in-Ok.ensures in
    subst (λ t. MakesText t JournalDamaged (g.W.Sink.seen c.args.output.now) (g.W.Sink.seen c.print.new.output) c.print.result) line (inl c.print.ensures)
