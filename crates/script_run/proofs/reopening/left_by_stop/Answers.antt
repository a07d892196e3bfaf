use Rattle.script_run.proofs.Restarting.{first_of}
use Rattle.script_run.proofs.reopening.left_by_stop.Goals as goal

pub returns-clause-disk : goal.returns-clause-disk
returns-clause-disk c = first_of c.books_reopen.ensures.runs c.args.book.now c.replace.result c.end-disk.result.disk c.again.result c.replace.ensures.value c.end-disk.ensures.run c.requires c.end-disk.ensures.disk c.end-disk.ensures.images c.again.ensures.octets c.again.ensures.image
