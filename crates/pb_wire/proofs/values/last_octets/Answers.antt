use Rattle.std.proofs.Common.{sym, ap, ◌∙◌}
use Rattle.std.specs.Prelude.{option_map}
use Rattle.pb_wire.proofs.ValueLemmas.{no_field, last_octets-none, last_octets-some}
use Rattle.pb_wire.proofs.values.last_octets.Goals as goal
use Rattle.pb_wire.proofs.values.last_octets.Goals.{in-Some, in_default}

pub loop-field-preserved : goal.loop-field-preserved
loop-field-preserved c =
    elim c.match-octets_of.branch [
      | in-Some w ↦ ap (option_map (λ x. x.now)) w.last-is ∙ sym (last_octets-some c.args.octets.now c.args.number c.args.fields.now c.loop-field.field-index no_field w.in-Some.piece.now c.loop-field-test.true (sym w.in-Some.ensures))
      | in_default w ↦ ap (option_map (λ x. x.now)) w.last-is ∙ c.loop-field.invariant ∙ sym (last_octets-none c.args.octets.now c.args.number c.args.fields.now c.loop-field.field-index no_field c.loop-field-test.true (sym w.in_default.ensures))
    ]
