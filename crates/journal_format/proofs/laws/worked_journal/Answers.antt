use Rattle.journal_format.specs.worked.Journals.{first_gate, second_gate, whole_front}
use Rattle.journal_format.proofs.laws.worked_journal.Goals as goal

pub returns-clause-octets : goal.returns-clause-octets
returns-clause-octets c = whole_front

pub returns-clause-first_gate : goal.returns-clause-first_gate
returns-clause-first_gate c = first_gate

pub returns-clause-second_gate : goal.returns-clause-second_gate
returns-clause-second_gate c = second_gate
