use Rattle.script_text.proofs.Faults.{passed}
use Rattle.script_text.proofs.OneMeanings.{number_kind}
use Rattle.script_text.proofs.WordByWord.{none_at, none_last, none_behind}
use Rattle.script_text.proofs.grammar.read_sampled.Goals as goal

pub returns-in_err-interval-clause-no_line : goal.returns-in_err-interval-clause-no_line
returns-in_err-interval-clause-no_line c fault = none_at (c.in_err-interval.ensures.no_line (passed c.from_residual.ensures.1 fault))

pub returns-in_err-heartbeat-clause-no_line : goal.returns-in_err-heartbeat-clause-no_line
returns-in_err-heartbeat-clause-no_line c fault =
    none_behind number_kind c.in_ok-interval.ensures.ok
    (none_at (c.in_err-heartbeat.ensures.no_line (passed c.from_residual-in_err-heartbeat.ensures.1 fault)))

pub returns-in_err-suppress-clause-no_line : goal.returns-in_err-suppress-clause-no_line
returns-in_err-suppress-clause-no_line c fault =
    none_behind number_kind c.in_ok-interval.ensures.ok
    (none_behind number_kind c.in_ok-heartbeat.ensures.ok
    (none_last (c.in_err-suppress.ensures.no_line (passed c.from_residual-in_err-suppress.ensures.1 fault))))
