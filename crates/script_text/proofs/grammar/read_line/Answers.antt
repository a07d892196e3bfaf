use Rattle.script_text.proofs.Faults.{passed}
use Rattle.script_text.proofs.OneMeanings.{keyword_kind}
use Rattle.script_text.proofs.WordByWord.{none_at, none_behind}
use Rattle.script_text.proofs.grammar.read_line.Goals as goal

pub returns-in_err-keyword-clause-no_line : goal.returns-in_err-keyword-clause-no_line
returns-in_err-keyword-clause-no_line c fault line is = none_at (c.in_err-keyword.ensures.no_line (passed c.from_residual.ensures.1 fault)) line is.said

pub returns-clause-no_line : goal.returns-clause-no_line
returns-clause-no_line c fault line is = none_behind keyword_kind c.in_ok-keyword.ensures.ok (c.read_said.ensures.no_line fault) line is.said
