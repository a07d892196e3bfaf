use Rattle.std.proofs.Common.{◌≡◌, ap}
use Rattle.disk_model.specs.Arming.{unarmed}
use Rattle.memory_disks.specs.Fuses.{FuseView}
use Rattle.script_run.proofs.NewBooks.{made_journal, still_unarmed, new_book, never_damaged, never_unfit}
use Rattle.script_run.proofs.book.new_book.Goals as goal

pub returns-in-Ready : goal.returns-in-Ready
returns-in-Ready c =
    let made : c.make-disk.result.arming ≡ unarmed = ap (λ (d : FuseView). d.arming) c.make-disk.ensures in
    let still = still_unarmed 3 c.make-disk.result c.create.new.disk made c.in-Ok.ensures.three_calls in
    new_book c.args.schema c.args.limits c.create.new.disk (made_journal c.args.limits c.make-disk.result.content c.create.new.disk.content c.in-Ok.ensures.created c.in-Ok.ensures.images) c.in-Ready.book still c.in-Ready.ensures

pub unreachable-requires : goal.unreachable-requires
unreachable-requires c =
    never_damaged c.args.schema c.args.limits c.create.new.disk (made_journal c.args.limits c.make-disk.result.content c.create.new.disk.content c.in-Ok.ensures.created c.in-Ok.ensures.images) c.in-Damaged.field-0 c.in-Damaged.field-1 c.in-Damaged.ensures

pub unreachable-requires-in-Unfit : goal.unreachable-requires-in-Unfit
unreachable-requires-in-Unfit c =
    never_unfit c.args.schema c.args.limits c.create.new.disk (made_journal c.args.limits c.make-disk.result.content c.create.new.disk.content c.in-Ok.ensures.created c.in-Ok.ensures.images) c.in-Unfit.field-0 c.in-Unfit.ensures
