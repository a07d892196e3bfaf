-- served_on
use Rattle.program.specs.inner.Loads.{seen_memory}
use Rattle.program.proofs.Loads.{serves}
use Rattle.program.proofs.load_command.served_on.Goals as goal

pub returns-in-Ok-clause-serves : goal.returns-in-Ok-clause-serves
returns-in-Ok-clause-serves c = serves c.args.seed c.args.count c.args.schema c.in-Ok.octets (seen_memory c.args.disk) (seen_memory c.served_octets.result.disk) c.served_octets.result.ending c.in-Ok.ensures c.requires.schema c.requires.memory c.requires.journal c.served_octets.ensures.serves
