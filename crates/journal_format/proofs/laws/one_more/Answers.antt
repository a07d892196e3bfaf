use Rattle.journal_format.proofs.Histories.{front_more, legal_more, legal_less}
use Rattle.journal_format.proofs.Loop.{kept_one_more}
use Rattle.journal_format.proofs.Next.{next_has_record}
use Rattle.journal_format.proofs.laws.one_more.Goals as goal

pub returns-clause-octets : goal.returns-clause-octets
returns-clause-octets c = front_more

pub returns-clause-legal : goal.returns-clause-legal
returns-clause-legal c = legal_more

pub returns-clause-legal_before : goal.returns-clause-legal_before
returns-clause-legal_before c = legal_less

pub returns-clause-kept : goal.returns-clause-kept
returns-clause-kept c = kept_one_more

pub returns-clause-has_record : goal.returns-clause-has_record
returns-clause-has_record c = next_has_record
