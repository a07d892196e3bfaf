use Rattle.std.proofs.Common.{sym, ap, ◌∙◌}
use Rattle.std.specs.List.{list_all}
use Rattle.std.specs.Str.{is_utf8}
use Rattle.pb_wire.proofs.ValueLemmas.{no_field, occurrences-none}
use Rattle.gnmi_data_msg.proofs.Pieces.{texts-more, texts-bad}
use Rattle.gnmi_data_msg.proofs.parts.are_texts.Goals as goal
use Rattle.gnmi_data_msg.proofs.parts.are_texts.Goals.{in-Some+else-is_no_text, in_default}

pub returns-then-is_no_text : goal.returns-then-is_no_text
returns-then-is_no_text c =
    sym (texts-bad c.args.octets.now c.args.number c.args.fields.now c.loop-field.field-index no_field c.in-Some.piece.now c.loop-field-test.true (sym c.in-Some.ensures) (sym c.is_no_text.ensures ∙ c.if-is_no_text.true))

pub loop-field-preserved : goal.loop-field-preserved
loop-field-preserved c =
    elim c.match-octets_of.branch [
      | in-Some+else-is_no_text w ↦ texts-more c.args.octets.now c.args.number c.args.fields.now c.loop-field.field-index no_field w.in-Some.piece.now c.loop-field-test.true (sym w.in-Some.ensures) c.loop-field.invariant (sym w.is_no_text.ensures ∙ w.if-is_no_text.false)
      | in_default w ↦ ap (list_all is_utf8) (occurrences-none c.args.octets.now c.args.number c.args.fields.now c.loop-field.field-index no_field c.loop-field-test.true (sym w.in_default.ensures)) ∙ c.loop-field.invariant
    ]
