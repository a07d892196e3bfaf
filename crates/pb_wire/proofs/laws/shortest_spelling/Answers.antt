use Rattle.pb_wire.proofs.WritingLemmas.{IsVarint-shortest, length-shortest-le}
use Rattle.pb_wire.proofs.laws.shortest_spelling.Goals as goal

pub returns-clause-spells : goal.returns-clause-spells
returns-clause-spells c = IsVarint-shortest

pub returns-clause-fewest : goal.returns-clause-fewest
returns-clause-fewest c = length-shortest-le
