use Rattle.std.proofs.Common.{[], Some, sym, subst}
use Rattle.base_kinds.specs.Limits.{default_limits}
use Rattle.memory_disks.specs.Views.{DiskView}
use Rattle.book_core.specs.Openings.{HasJournal}
use Rattle.program.specs.LoadRun.{IsMemory}
use Rattle.program.specs.inner.Loads.{seen_memory}
use Rattle.base_kinds.specs.declared.entry.Limits.{Limits}
use Rattle.journal_format.specs.Journal.{IsJournal}
use Rattle.script_run.proofs.NewBooks.{made_journal}
use Rattle.program.proofs.Loads.{empty_journal}
use Rattle.program.proofs.load_command.new_journal.Goals as goal

pub returns-in-Ok-clause-journal : goal.returns-in-Ok-clause-journal
returns-in-Ok-clause-journal c =
    let made = made_journal c.default_limits.result c.make-disk.result.content c.create.new.disk.content c.in-Ok.ensures.created c.in-Ok.ensures.images in
    subst (λ (d : DiskView). HasJournal (Some d.content) default_limits []) (sym c.looked_at.ensures.same) (empty_journal c.create.new.disk (subst (λ (l : Limits). IsJournal c.create.new.disk.content.seen l []) c.default_limits.ensures made))

pub returns-in-Ok-clause-memory : goal.returns-in-Ok-clause-memory
returns-in-Ok-clause-memory c = subst (λ (d : DiskView). IsMemory (seen_memory d)) (sym c.looked_at.ensures.same) c.looked_at.ensures.memory
