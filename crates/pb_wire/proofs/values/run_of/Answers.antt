use Rattle.std.proofs.Common.{refl, sym, ◌∙◌}
use Rattle.pb_wire.proofs.ValueLemmas.{no_field}
use Rattle.pb_wire.proofs.RunLemmas.{Run-skip, Run-member, Run-as}
use Rattle.pb_wire.proofs.values.run_of.Goals as goal
use Rattle.pb_wire.proofs.values.run_of.Goals.{then-is_member, else-is_member}

pub loop-at-preserved : goal.loop-at-preserved
loop-at-preserved c =
    elim c.if-is_member.branch [
      | then-is_member w ↦ Run-as c.args.members.now c.args.fields.now _ _ _ _ _ w.run-is w.last-is
          (Run-member c.args.members.now c.args.fields.now c.loop-at.at c.loop-at.run w.begin_of-run.result c.loop-at.last no_field c.loop-at-test.true (sym c.is_member.ensures ∙ w.if-is_member.true)
          w.begin_of-run.ensures.same w.begin_of-run.ensures.other c.loop-at.invariant)
      | else-is_member w ↦ Run-as c.args.members.now c.args.fields.now _ _ _ _ _ w.run-is w.last-is
          (Run-skip c.args.members.now c.args.fields.now c.loop-at.at c.loop-at.run c.loop-at.last no_field c.loop-at-test.true (sym c.is_member.ensures ∙ w.if-is_member.false) c.loop-at.invariant)
    ]
