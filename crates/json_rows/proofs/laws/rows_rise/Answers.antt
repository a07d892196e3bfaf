use Rattle.json_rows.proofs.Meanings.{rows_rise, order_is_free}
use Rattle.json_rows.proofs.laws.rows_rise.Goals as goal

pub returns-clause-rise : goal.returns-clause-rise
returns-clause-rise c = rows_rise

pub returns-clause-free : goal.returns-clause-free
returns-clause-free c = order_is_free
