use Rattle.script_text.proofs.Faults.{passed}
use Rattle.script_text.proofs.OneMeanings.{author_kind, list_mode_kind, name_kind}
use Rattle.script_text.proofs.WordByWord.{none_at, none_last, none_behind}
use Rattle.script_text.proofs.grammar.read_open.Goals as goal

pub returns-in_err-author-clause-no_line : goal.returns-in_err-author-clause-no_line
returns-in_err-author-clause-no_line c fault = none_at (c.in_err-author.ensures.no_line (passed c.from_residual.ensures.1 fault))

pub returns-in_err-name-clause-no_line : goal.returns-in_err-name-clause-no_line
returns-in_err-name-clause-no_line c fault =
    none_behind author_kind c.in_ok-author.ensures.ok
    (none_at (c.in_err-name.ensures.no_line (passed c.from_residual-in_err-name.ensures.1 fault)))

pub returns-in_err-mode-clause-no_line : goal.returns-in_err-mode-clause-no_line
returns-in_err-mode-clause-no_line c fault =
    none_behind author_kind c.in_ok-author.ensures.ok
    (none_behind name_kind c.in_ok-name.ensures.ok
    (none_at (c.in_err-mode.ensures.no_line (passed c.from_residual-in_err-mode.ensures.1 fault))))

pub returns-in_err-only-clause-no_line : goal.returns-in_err-only-clause-no_line
returns-in_err-only-clause-no_line c fault =
    none_behind author_kind c.in_ok-author.ensures.ok
    (none_behind name_kind c.in_ok-name.ensures.ok
    (none_behind list_mode_kind c.in_ok-mode.ensures.ok
    (none_last (c.in_err-only.ensures.no_line (passed c.from_residual-in_err-only.ensures.1 fault)))))
