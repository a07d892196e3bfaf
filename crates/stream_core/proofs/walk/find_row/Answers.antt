use Rattle.stream_core.proofs.Walking.{row_found, row_of_none}
use Rattle.stream_core.proofs.walk.find_row.Goals as goal

pub returns-then-number-found-clause-found : goal.returns-then-number-found-clause-found
returns-then-number-found-clause-found c = row_found c.args.group c.in-Some.group c.args.differs c.args.found.now c.found_row.result _ c.in-Some.is c.found_row.ensures c.if-number-found.true

pub returns-else-number-found-clause-found : goal.returns-else-number-found-clause-found
returns-else-number-found-clause-found c = row_of_none c.args.group c.in-Some.group c.args.differs c.args.found.now c.in-Some.is c.if-number-found.false
