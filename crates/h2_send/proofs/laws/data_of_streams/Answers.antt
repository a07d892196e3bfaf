use Rattle.h2_send.proofs.Octets.{all_said, none_waits, front_said}
use Rattle.h2_send.proofs.laws.data_of_streams.Goals as goal

pub returns-clause-all : goal.returns-clause-all
returns-clause-all c stream inputs are none = all_said stream inputs are none

pub returns-clause-none_waits : goal.returns-clause-none_waits
returns-clause-none_waits c stream streams differs = none_waits stream streams differs

pub returns-clause-front : goal.returns-clause-front
returns-clause-front c stream inputs are once = front_said stream inputs are once
