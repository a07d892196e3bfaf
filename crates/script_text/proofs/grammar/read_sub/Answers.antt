use Rattle.script_text.proofs.Faults.{passed}
use Rattle.script_text.proofs.OneMeanings.{sub_mode_kind}
use Rattle.script_text.proofs.Spaceless.{path_kind}
use Rattle.script_text.proofs.WordByWord.{none_at, none_behind}
use Rattle.script_text.proofs.grammar.read_sub.Goals as goal

pub returns-in_err-path-clause-no_line : goal.returns-in_err-path-clause-no_line
returns-in_err-path-clause-no_line c fault = none_at (c.in_err-path.ensures.no_line (passed c.from_residual.ensures.1 fault))

pub returns-in_err-mode-clause-no_line : goal.returns-in_err-mode-clause-no_line
returns-in_err-mode-clause-no_line c fault =
    none_behind path_kind c.in_ok-path.ensures.ok
    (none_at (c.in_err-mode.ensures.no_line (passed c.from_residual-in_err-mode.ensures.1 fault)))

pub returns-in-Change-clause-no_line : goal.returns-in-Change-clause-no_line
returns-in-Change-clause-no_line c fault =
    none_behind path_kind c.in_ok-path.ensures.ok
    (none_behind sub_mode_kind c.in_ok-mode.ensures.ok
    (rw c.in-Change.is (c.read_on_change.ensures.no_line fault)))

pub returns-in-Sample-clause-no_line : goal.returns-in-Sample-clause-no_line
returns-in-Sample-clause-no_line c fault =
    none_behind path_kind c.in_ok-path.ensures.ok
    (none_behind sub_mode_kind c.in_ok-mode.ensures.ok
    (rw c.in-Sample.is (c.read_sampled.ensures.no_line fault)))
