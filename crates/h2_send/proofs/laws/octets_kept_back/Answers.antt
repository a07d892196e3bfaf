use Rattle.h2_send.proofs.Holding.{held_within, sum_within}
use Rattle.h2_send.proofs.laws.octets_kept_back.Goals as goal

pub returns-clause-streams : goal.returns-clause-streams
returns-clause-streams c inputs are = held_within inputs are

pub returns-clause-all : goal.returns-clause-all
returns-clause-all c streams all = sum_within streams all
