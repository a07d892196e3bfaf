use Rattle.schema_text.proofs.Formed.{well_formed}
use Rattle.schema_text.proofs.laws.read_schemas_are_well_formed.Goals as goal

pub returns : goal.returns
returns c = well_formed
