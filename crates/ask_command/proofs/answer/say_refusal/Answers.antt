use Rattle.std.proofs.Common.{◌∙◌, subst, inl}
use Rattle.ask_command.specs.declared.ending.Ending.TheVariants.{Refused}
use Rattle.ask_command.specs.Printing.{MakesText, saying}
use Rattle.ask_command.proofs.answer.say_refusal.Goals as goal

pub returns-in-Ok : goal.returns-in-Ok
returns-in-Ok g c =
    let line = c.items.ensures ∙ c.in-Ok.ensures in
    subst (λ t. MakesText (saying t Refused) (g.S.Sink.seen c.args.output.now) (g.S.Sink.seen c.print.new.output) c.print.result) line (inl c.print.ensures)
