use Rattle.std.proofs.lemmas.List.{append-nil}
use Rattle.journal_format.specs.Journal.{header}
use Rattle.journal_format.proofs.laws.empty_journal.Goals as goal

pub returns-clause-octets : goal.returns-clause-octets
returns-clause-octets c = λ limits. append-nil (header limits)

pub returns-clause-legal : goal.returns-clause-legal
returns-clause-legal c = λ limits range. record { in_range = range; in_turn = tt }
