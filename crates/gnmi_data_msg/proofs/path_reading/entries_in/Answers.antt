use Rattle.std.proofs.Common.{sym, ap, ◌∙◌}
use Rattle.std.specs.Option.{option_map}
use Rattle.std.proofs.lemmas.Result.{err_from_is_err_and}
use Rattle.pb_wire.proofs.ValueLemmas.{no_field, occurrences-none}
use Rattle.gnmi_data_msg.specs.Numbers.{elem_key}
use Rattle.gnmi_data_msg.specs.Parts.{each}
use Rattle.gnmi_data_msg.specs.Paths.{entry_of, keys_of}
use Rattle.gnmi_data_msg.proofs.Pieces.{entries-more, messages-bad, fails_badly}
use Rattle.gnmi_data_msg.proofs.path_reading.entries_in.Goals as goal
use Rattle.gnmi_data_msg.proofs.path_reading.entries_in.Goals.{in-Some+in_ok-entry+in_ok-put_entry, in_default}

pub returns-in_err-entry-clause-bad : goal.returns-in_err-entry-clause-bad
returns-in_err-entry-clause-bad c =
    let p = err_from_is_err_and c.from_residual.result c.from_residual.ensures.1 in
    rw (p.1, p.2) (fails_badly c.in_err-entry.field-0.0 _ _ (messages-bad entry_of c.args.octets.now elem_key c.args.fields.now c.loop-field.field-index no_field c.in-Some.piece.now c.loop-field-test.true (sym c.in-Some.ensures)) c.in_err-entry.ensures)

pub loop-field-preserved : goal.loop-field-preserved
loop-field-preserved c =
    elim c.match-octets_of.branch [
      | in-Some+in_ok-entry+in_ok-put_entry w ↦
          rw (w.map-is, w.in_ok-put_entry.ensures) (entries-more entry_of c.args.octets.now elem_key c.args.fields.now c.loop-field.field-index no_field w.in-Some.piece.now c.loop-field.map.entries _ c.loop-field-test.true (sym w.in-Some.ensures) c.loop-field.invariant w.in_ok-entry.ensures)
      | in_default w ↦
          rw w.map-is (ap (λ pieces. option_map keys_of (each entry_of pieces)) (occurrences-none c.args.octets.now elem_key c.args.fields.now c.loop-field.field-index no_field c.loop-field-test.true (sym w.in_default.ensures)) ∙ c.loop-field.invariant)
    ]
