use Rattle.std.proofs.Common.{◌≡◌, Ok, rules}
use Rattle.schema_text.specs.Schemas.{schema_of}
use Rattle.schema_text.proofs.Formed.{well_formed}
use Rattle.schema_text.proofs.schemas.read_schema.Goals as goal

pub returns-in-None-clause-well_formed : goal.returns-in-None-clause-well_formed
returns-in-None-clause-well_formed c =
    let is : schema_of c.args.text.now ≡ Ok c.schema.inside.schema = search rules in
    well_formed c.args.text.now c.schema.inside.schema is
