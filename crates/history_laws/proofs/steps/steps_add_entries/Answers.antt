use Rattle.history_laws.proofs.Judged.{accepted_adds_one, refused_adds_none}
use Rattle.history_laws.proofs.steps.steps_add_entries.Goals as goal

pub returns : goal.returns
returns c = record { accepted = accepted_adds_one; refused = refused_adds_none }
