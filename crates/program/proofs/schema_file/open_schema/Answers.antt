use Rattle.std.proofs.Common.{rules, ◌∙◌, subst, refl, inl}
use Rattle.program.specs.declared.ending.Ending.TheVariants.{NoSchema}
use Rattle.program.specs.Printing.{MakesText}
use Rattle.program.specs.SchemaGiven.{GaveNoSchema}
use Rattle.program.proofs.Stages.{bad_text}
use Rattle.program.proofs.schema_file.open_schema.Goals as goal

pub returns-in-Ok-fault_line-clause-stopped : goal.returns-in-Ok-fault_line-clause-stopped
returns-in-Ok-fault_line-clause-stopped g c =
    let seen = g.K.Files.Files.seen in
    let gave : GaveNoSchema c.args.name.now c.in-Err-NoSchema.fault (seen c.host.inside.files) (seen c.schema_in_file.new.files) = search rules in
    let line = c.items.ensures ∙ c.in-Ok-fault_line.ensures in
    let output = subst (λ t. MakesText t NoSchema (g.K.Output.Sink.seen c.host.inside.output) (g.K.Output.Sink.seen c.print.new.output) c.print.result) line (inl c.print.ensures) in
    rw (← c.host.view_is) (bad_text _ gave.text c.in-Err-NoSchema.fault _ _ _ gave.is gave.gave refl output)
