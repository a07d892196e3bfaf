use Rattle.std.proofs.Common.{ℕ, List}
use Rattle.commit_journal.proofs.OpeningCalls.{opened_by, failed_by, starved_by}
use Rattle.commit_journal.proofs.opening.sync_and_open.Goals as goal

pub returns-in-Ok-read_whole-clause-calls : goal.returns-in-Ok-read_whole-clause-calls
returns-in-Ok-read_whole-clause-calls g c = opened_by (g.D.Disk.fuse) (g.D.Disk.told) _ c.sync.new.self _ c.in-Ok.ensures.call c.in-Ok.ensures.seen _ _ c.open-opening.ensures.opens c.in-Ok-read_whole.ensures.calls

pub returns-in-Err-Failed-clause-calls : goal.returns-in-Err-Failed-clause-calls
returns-in-Err-Failed-clause-calls g c = failed_by (g.D.Disk.fuse) (g.D.Disk.told) _ c.sync.new.self c.read_whole.new.disk c.in-Ok.ensures.call c.in-Ok.ensures.seen (List ℕ) _ c.in-Err-Failed.field-0-is c.in-Err-Failed.ensures.calls

pub returns-in-Err-NoMemory-clause-calls : goal.returns-in-Err-NoMemory-clause-calls
returns-in-Err-NoMemory-clause-calls g c = starved_by (g.D.Disk.fuse) (g.D.Disk.told) _ c.sync.new.self c.read_whole.new.disk c.in-Ok.ensures.call c.in-Ok.ensures.seen (List ℕ) _ c.in-Err-NoMemory.field-0-is c.in-Err-NoMemory.ensures.calls
