use Rattle.script_text.proofs.Faults.{passed}
use Rattle.script_text.proofs.WordByWord.{none_at}
use Rattle.script_text.proofs.grammar.read_change.Goals as goal

pub returns-in_err-path-clause-no_line : goal.returns-in_err-path-clause-no_line
returns-in_err-path-clause-no_line c fault = none_at (c.in_err-path.ensures.no_line (passed c.from_residual.ensures.1 fault))
