use Rattle.script_text.proofs.Faults.{passed}
use Rattle.script_text.proofs.OneMeanings.{number_kind}
use Rattle.script_text.proofs.WordByWord.{none_at, none_last, none_behind}
use Rattle.script_text.proofs.grammar.read_stop.Goals as goal

pub returns-in_err-calls-clause-no_line : goal.returns-in_err-calls-clause-no_line
returns-in_err-calls-clause-no_line c fault = none_at (c.in_err-calls.ensures.no_line (passed c.from_residual.ensures.1 fault))

pub returns-in_err-fill-clause-no_line : goal.returns-in_err-fill-clause-no_line
returns-in_err-fill-clause-no_line c fault =
    none_behind number_kind c.in_ok-calls.ensures.ok
    (none_last (c.in_err-fill.ensures.no_line (passed c.from_residual-in_err-fill.ensures.1 fault)))
