use Rattle.script_text.proofs.Faults.{passed}
use Rattle.script_text.proofs.OneMeanings.{author_kind}
use Rattle.script_text.proofs.WordByWord.{none_at, none_last, none_behind}
use Rattle.script_text.proofs.grammar.read_named.Goals as goal

pub returns-in_err-author-clause-no_line : goal.returns-in_err-author-clause-no_line
returns-in_err-author-clause-no_line c fault make = none_at (c.in_err-author.ensures.no_line (passed c.from_residual.ensures.1 fault))

pub returns-in_err-id-clause-no_line : goal.returns-in_err-id-clause-no_line
returns-in_err-id-clause-no_line c fault make =
    none_behind author_kind c.in_ok-author.ensures.ok
    (none_last (c.in_err-id.ensures.no_line (passed c.from_residual-in_err-id.ensures.1 fault)))
