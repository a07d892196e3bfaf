use Rattle.std.proofs.Common.{◌∙◌, subst, refl, inl}
use Rattle.program.specs.Printing.{SaysLast}
use Rattle.program.proofs.serve_command.say_damage.Goals as goal

pub returns-in-Ok : goal.returns-in-Ok
returns-in-Ok g c =
    let line = c.items.ensures ∙ c.in-Ok.ensures in
    inl (refl, subst (λ t. SaysLast t (g.W.Sink.seen c.args.output.now) (g.W.Sink.seen c.say_last.new.output)) line c.say_last.ensures)
