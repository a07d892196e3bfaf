use Rattle.std.proofs.Common.{inr}
use Rattle.program.proofs.Loads.{counts_disk, reads_damage, reads_faulty, reads_unfit}
use Rattle.program.proofs.load_command.line_of_disk.Goals as goal

pub returns-in-Ok-clause-ok : goal.returns-in-Ok-clause-ok
returns-in-Ok-clause-ok c = counts_disk c.args.schema c.args.disk c.args.count c.in-Ready.book c.in-Ok.line c.in-Ready.ensures c.in-Ok.ensures

pub returns-in-Damaged-clause-err : goal.returns-in-Damaged-clause-err
returns-in-Damaged-clause-err c = inr (reads_damage c.args.schema c.args.disk c.in-Damaged.field-0 c.in-Damaged.disk c.in-Damaged.ensures)

pub returns-in-Unfit-clause-err : goal.returns-in-Unfit-clause-err
returns-in-Unfit-clause-err c = inr (reads_unfit c.args.schema c.args.disk c.in-Unfit.disk c.in-Unfit.ensures)

pub returns-in-DiskFault-clause-err : goal.returns-in-DiskFault-clause-err
returns-in-DiskFault-clause-err c = inr (reads_faulty c.args.schema c.args.disk c.in-DiskFault.disk c.in-DiskFault.ensures)
