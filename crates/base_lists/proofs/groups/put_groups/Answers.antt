use Rattle.std.proofs.Common.{arith}
use Rattle.base_lists.specs.Fronts.{AppendsFront}
use Rattle.base_lists.specs.SevenBits.{groups_of}
use Rattle.base_lists.proofs.Fronts.{OnErr-any}
use Rattle.base_lists.proofs.SevenBits.{ToWrite-none, ToWrite-more, ToWrite-front, room-64}
use Rattle.base_lists.proofs.groups.put_groups.Goals as goal

pub loop-left-init : goal.loop-left-init
loop-left-init c = ToWrite-none c.args.out.now 9 c.args.number (room-64 c.args.number (omega arith))

pub loop-left-preserved : goal.loop-left-preserved
loop-left-preserved c = rw c.in_ok-push.ensures.ok (ToWrite-more c.args.out.now c.loop-left.out 9 c.args.number c.loop-left.left c.loop-left.invariant c.loop-left-test.true)

pub returns-in_err-push-clause-err : goal.returns-in_err-push-clause-err
returns-in_err-push-clause-err c =
    let front : AppendsFront c.args.out.now c.push.new.self (groups_of 9 c.args.number) = rw c.in_err-push.ensures.err (ToWrite-front c.args.out.now c.loop-left.out 9 c.args.number c.loop-left.left c.loop-left.invariant) in
    OnErr-any _ front
