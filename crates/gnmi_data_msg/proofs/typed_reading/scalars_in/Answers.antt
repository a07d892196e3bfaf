use Rattle.std.proofs.Common.{sym, ap, ◌∙◌}
use Rattle.std.specs.Option.{option_map}
use Rattle.std.proofs.lemmas.Result.{err_from_is_err_and}
use Rattle.pb_wire.proofs.ValueLemmas.{no_field, occurrences-none}
use Rattle.gnmi_data_msg.specs.Numbers.{array_element}
use Rattle.gnmi_data_msg.specs.Parts.{each}
use Rattle.gnmi_data_msg.specs.TypedValues.{element_of, scalars_of}
use Rattle.gnmi_data_msg.proofs.Pieces.{elements-more, messages-bad, elements_fail}
use Rattle.gnmi_data_msg.proofs.typed_reading.scalars_in.Goals as goal
use Rattle.gnmi_data_msg.proofs.typed_reading.scalars_in.Goals.{in-Some+in_ok-element+in_ok-scalars, in_default}

pub returns-in_err-element : goal.returns-in_err-element
returns-in_err-element c =
    let p = err_from_is_err_and c.from_residual.result c.from_residual.ensures.1 in
    rw (p.1, p.2) (elements_fail scalars_of c.in_err-element.field-0.0 _ _ (messages-bad element_of c.args.octets.now array_element c.args.fields.now c.loop-field.field-index no_field c.in-Some.piece.now c.loop-field-test.true (sym c.in-Some.ensures)) c.in_err-element.ensures)

pub loop-field-preserved : goal.loop-field-preserved
loop-field-preserved c =
    elim c.match-octets_of.branch [
      | in-Some+in_ok-element+in_ok-scalars w ↦
          rw (w.scalars-is, w.in_ok-scalars.ensures) (elements-more element_of c.args.octets.now array_element c.args.fields.now c.loop-field.field-index no_field w.in-Some.piece.now c.loop-field.scalars _ c.loop-field-test.true (sym w.in-Some.ensures) c.loop-field.invariant w.in_ok-element.ensures)
      | in_default w ↦
          rw w.scalars-is (ap (λ pieces. option_map scalars_of (each element_of pieces)) (occurrences-none c.args.octets.now array_element c.args.fields.now c.loop-field.field-index no_field c.loop-field-test.true (sym w.in_default.ensures)) ∙ c.loop-field.invariant)
    ]
