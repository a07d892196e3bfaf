use Rattle.std.proofs.Common.{Some, None, sym, ◌∙◌}
use Rattle.schema_text.proofs.Faults.{no_line, here}
use Rattle.schema_text.proofs.references.first_fault.Goals as goal

pub returns-in_default : goal.returns-in_default
returns-in_default c = sym (c.loop-number.invariant ∙ no_line c.args.schema.now c.args.schema.now c.args.lines.now c.loop-number.number c.in_default.ensures.lookup.3)

pub returns-in-Some-node_fault : goal.returns-in-Some-node_fault
returns-in-Some-node_fault c =
    let found = c.in-Some.ensures.lookup in
    sym (c.loop-number.invariant ∙ here c.args.schema.now c.args.schema.now c.args.lines.now c.loop-number.number c.in-Some.line.now (Some c.in-Some-node_fault.cause) c.in-Some-node_fault.ensures found.3.0 found.1)

pub loop-number-preserved : goal.loop-number-preserved
loop-number-preserved c =
    let found = c.in-Some.ensures.lookup in
    c.loop-number.invariant ∙ here c.args.schema.now c.args.schema.now c.args.lines.now c.loop-number.number c.in-Some.line.now None c.in_default-node_fault.ensures found.3.0 found.1
