use Rattle.pb_wire.proofs.MapLemmas.{last_entry}
use Rattle.pb_wire.proofs.laws.last_entry_of_a_key.Goals as goal

pub returns : goal.returns
returns g c = last_entry
