use Rattle.std.proofs.Common.{refl}
use Rattle.journal_record.specs.worked.Records.{hostname_is}
use Rattle.journal_record.proofs.laws.worked_record.Goals as goal

pub returns-clause-octets : goal.returns-clause-octets
returns-clause-octets c = hostname_is

pub returns-clause-len : goal.returns-clause-len
returns-clause-len c = refl
