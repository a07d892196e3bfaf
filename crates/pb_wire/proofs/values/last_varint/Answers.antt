use Rattle.std.proofs.Common.{sym, ◌∙◌}
use Rattle.pb_wire.proofs.ValueLemmas.{no_field, last_scalar-none, last_scalar-some}
use Rattle.pb_wire.proofs.values.last_varint.Goals as goal
use Rattle.pb_wire.proofs.values.last_varint.Goals.{in-Some, in_default}

pub loop-field-preserved : goal.loop-field-preserved
loop-field-preserved c =
    elim c.match-varint_of.branch [
      | in-Some w ↦ w.last-is ∙ sym (last_scalar-some c.args.number c.args.fields.now c.loop-field.field-index no_field w.in-Some.value c.loop-field-test.true (sym w.in-Some.ensures))
      | in_default w ↦ w.last-is ∙ c.loop-field.invariant ∙ sym (last_scalar-none c.args.number c.args.fields.now c.loop-field.field-index no_field c.loop-field-test.true (sym w.in_default.ensures))
    ]
