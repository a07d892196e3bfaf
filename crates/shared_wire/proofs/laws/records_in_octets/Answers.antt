use Rattle.std.proofs.Common.{refl}
use Rattle.shared_wire.proofs.Octets.{all_room, same_entry}
use Rattle.shared_wire.proofs.laws.records_in_octets.Goals as goal

pub returns-clause-size : goal.returns-clause-size
returns-clause-size c = λ e. refl

pub returns-clause-whole : goal.returns-clause-whole
returns-clause-whole c = same_entry

pub returns-clause-room : goal.returns-clause-room
returns-clause-room c = all_room
