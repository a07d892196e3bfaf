use Rattle.json_rows.proofs.Fitting.{rows_are_fit}
use Rattle.json_rows.proofs.laws.rows_are_fit.Goals as goal

pub returns : goal.returns
returns c = rows_are_fit
