use Rattle.std.proofs.Common.{sym, ap, ◌∙◌}
use Rattle.std.proofs.lemmas.Result.{err_from_is_err_and}
use Rattle.pb_wire.proofs.ValueLemmas.{no_field, occurrences-none}
use Rattle.gnmi_data_msg.specs.Parts.{each}
use Rattle.gnmi_data_msg.proofs.Pieces.{messages-more, messages-bad, fails}
use Rattle.gnmi_data_msg.proofs.parts.messages_in.Goals as goal
use Rattle.gnmi_data_msg.proofs.parts.messages_in.Goals.{in-Some+in_ok-read+in_ok-push, in_default}

pub returns-in_err-read : goal.returns-in_err-read
returns-in_err-read g c =
    let p = err_from_is_err_and c.from_residual.result c.from_residual.ensures.1 in
    rw (p.1, p.2) (fails c.in_err-read.field-0.0 _ _ (messages-bad g.T.Message.meaning c.args.octets.now c.args.number c.args.fields.now c.loop-field.field-index no_field c.in-Some.piece.now c.loop-field-test.true (sym c.in-Some.ensures)) c.in_err-read.ensures)

pub loop-field-preserved : goal.loop-field-preserved
loop-field-preserved g c =
    elim c.match-octets_of.branch [
      | in-Some+in_ok-read+in_ok-push w ↦
          rw (w.messages-is, w.in_ok-push.ensures.ok) (messages-more g.T.Message.meaning c.args.octets.now c.args.number c.args.fields.now c.loop-field.field-index no_field w.in-Some.piece.now c.loop-field.messages _ c.loop-field-test.true (sym w.in-Some.ensures) c.loop-field.invariant w.in_ok-read.ensures)
      | in_default w ↦
          rw w.messages-is (ap (each g.T.Message.meaning) (occurrences-none c.args.octets.now c.args.number c.args.fields.now c.loop-field.field-index no_field c.loop-field-test.true (sym w.in_default.ensures)) ∙ c.loop-field.invariant)
    ]
