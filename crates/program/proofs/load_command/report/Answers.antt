use Rattle.program.proofs.Loads.{reports, reports_none}
use Rattle.program.proofs.load_command.report.Goals as goal

pub returns-in-Done-clause-ok : goal.returns-in-Done-clause-ok
returns-in-Done-clause-ok c = reports c.args.seed c.args.count c.in_ok-schema.schema c.in-Ok-served.end.disk c.in-Ok-served.end.ending c.in-Done.is c.in-Ok-served.ensures.serves c.in-Ok-served.ensures.memory c.line_of_disk.result c.line_of_disk.ensures.ok

pub returns-in-Done-clause-err : goal.returns-in-Done-clause-err
returns-in-Done-clause-err c = reports_none c.args.seed c.args.count c.in_ok-schema.schema c.in-Ok-served.end.disk c.in-Ok-served.end.ending c.in-Done.is c.in-Ok-served.ensures.serves c.in-Ok-served.ensures.memory c.in-Ok.copy c.line_of_disk.result c.in-Ok.ensures c.line_of_disk.ensures.err
