use Rattle.program.proofs.MemoryRuns.{loses_no_octet, runs_alike}
use Rattle.program.proofs.RunLaws.{whole_answered, same_written}
use Rattle.program.proofs.laws.runs_in_memory_are_determined.Goals as goal

pub returns-clause-whole : goal.returns-clause-whole
returns-clause-whole c = whole_answered

pub returns-clause-same : goal.returns-clause-same
returns-clause-same c = same_written

pub returns-clause-none_lost : goal.returns-clause-none_lost
returns-clause-none_lost c = loses_no_octet

pub returns-clause-alike : goal.returns-clause-alike
returns-clause-alike c = runs_alike
