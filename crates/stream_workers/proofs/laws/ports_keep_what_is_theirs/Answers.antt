use Rattle.stream_workers.proofs.Ports.{meeting_keeps, twin_keeps, visit_meeting_keeps, visit_twin_keeps}
use Rattle.stream_workers.proofs.laws.ports_keep_what_is_theirs.Goals as goal

pub returns-clause-book_twin : goal.returns-clause-book_twin
returns-clause-book_twin c = twin_keeps

pub returns-clause-book_meeting : goal.returns-clause-book_meeting
returns-clause-book_meeting c = meeting_keeps

pub returns-clause-wire_twin : goal.returns-clause-wire_twin
returns-clause-wire_twin c = visit_twin_keeps

pub returns-clause-wire_meeting : goal.returns-clause-wire_meeting
returns-clause-wire_meeting c = visit_meeting_keeps
