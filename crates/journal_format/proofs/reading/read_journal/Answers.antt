use Rattle.journal_format.proofs.Runs.{gives_journal, gives_damage, says}
use Rattle.journal_format.proofs.reading.read_journal.Goals as goal

pub returns-clause-every_journal : goal.returns-clause-every_journal
returns-clause-every_journal c = λ limits h is. gives_journal c.args.octets.now c.read.result limits h (says c.args.octets.now c.read.result c.read.ensures.found c.read.ensures.damaged) is

pub returns-clause-every_damage : goal.returns-clause-every_damage
returns-clause-every_damage c = λ place is. gives_damage c.args.octets.now c.read.result place (says c.args.octets.now c.read.result c.read.ensures.found c.read.ensures.damaged) is
