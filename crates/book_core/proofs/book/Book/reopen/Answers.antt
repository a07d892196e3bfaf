use Rattle.book_core.proofs.Opened.{fault_of_ledger, want_of_ledger}
use Rattle.book_core.proofs.book.Book.reopen.Goals as goal

pub returns-in-Damaged : goal.returns-in-Damaged
returns-in-Damaged g c = record { damaged = c.in-Damaged.ensures.opens; calls = c.in-Damaged.ensures.calls }

pub returns-in-DiskFault : goal.returns-in-DiskFault
returns-in-DiskFault g c = fault_of_ledger g.D.Disk.told g.D.Disk.faults g.D.Disk.fuse _ _ _ _ c.in-DiskFault.ensures.opens c.in-DiskFault.ensures.calls

pub returns-in-NoMemory : goal.returns-in-NoMemory
returns-in-NoMemory g c = want_of_ledger g.D.Disk.told g.D.Disk.faults g.D.Disk.fuse _ _ _ _ c.in-NoMemory.ensures.opens c.in-NoMemory.ensures.calls
