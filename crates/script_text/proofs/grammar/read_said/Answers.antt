use Rattle.std.proofs.Common.{refl}
use Rattle.script_text.specs.declared.line.Line.TheVariants as lines
use Rattle.script_text.proofs.Faults.{passed}
use Rattle.script_text.proofs.WordByWord.{none_last}
use Rattle.script_text.proofs.grammar.read_said.Goals as goal

pub returns-in_err-read-in-At-clause-no_line : goal.returns-in_err-read-in-At-clause-no_line
returns-in_err-read-in-At-clause-no_line c = rw c.in-At.is (λ fault. none_last (c.in_err-read-in-At.ensures.no_line (passed c.from_residual.ensures.1 fault)))

pub returns-in_ok-read-in-At-clause-ok : goal.returns-in_ok-read-in-At-clause-ok
returns-in_ok-read-in-At-clause-ok c = rw c.in-At.is (record { value = _; is = c.in_ok-read-in-At.ensures.ok; made = refl })

pub returns-in-Delete-clause-ok : goal.returns-in-Delete-clause-ok
returns-in-Delete-clause-ok c = rw c.in-Delete.is c.read_delete.ensures.ok

pub returns-in-Delete-clause-no_line : goal.returns-in-Delete-clause-no_line
returns-in-Delete-clause-no_line c = rw c.in-Delete.is c.read_delete.ensures.no_line

pub returns-in-Replace-clause-ok : goal.returns-in-Replace-clause-ok
returns-in-Replace-clause-ok c = rw c.in-Replace.is c.read_change.ensures.ok

pub returns-in-Replace-clause-no_line : goal.returns-in-Replace-clause-no_line
returns-in-Replace-clause-no_line c = rw c.in-Replace.is c.read_change.ensures.no_line

pub returns-in-Update-clause-ok : goal.returns-in-Update-clause-ok
returns-in-Update-clause-ok c = rw c.in-Update.is c.read_change-in-Update.ensures.ok

pub returns-in-Update-clause-no_line : goal.returns-in-Update-clause-no_line
returns-in-Update-clause-no_line c = rw c.in-Update.is c.read_change-in-Update.ensures.no_line

pub returns-in_err-read-in-Set-clause-no_line : goal.returns-in_err-read-in-Set-clause-no_line
returns-in_err-read-in-Set-clause-no_line c = rw c.in-Set.is (λ fault. none_last (c.in_err-read-in-Set.ensures.no_line (passed c.from_residual-in_err-read-in-Set.ensures.1 fault)))

pub returns-in_ok-read-in-Set-clause-ok : goal.returns-in_ok-read-in-Set-clause-ok
returns-in_ok-read-in-Set-clause-ok c = rw c.in-Set.is (record { value = _; is = c.in_ok-read-in-Set.ensures.ok; made = refl })

pub returns-in_err-author-in-Trial-clause-no_line : goal.returns-in_err-author-in-Trial-clause-no_line
returns-in_err-author-in-Trial-clause-no_line c = rw c.in-Trial.is (λ fault. c.in_err-author-in-Trial.ensures.no_line (passed c.from_residual-in_err-author-in-Trial.ensures.1 fault) (λ author id span. lines.Trial author id span))

pub returns-in_ok-author-in-Trial-clause-ok : goal.returns-in_ok-author-in-Trial-clause-ok
returns-in_ok-author-in-Trial-clause-ok c = rw c.in-Trial.is (c.in_ok-author-in-Trial.ensures.ok (λ author id span. lines.Trial author id span))

pub returns-in_err-author-in-Confirm-clause-no_line : goal.returns-in_err-author-in-Confirm-clause-no_line
returns-in_err-author-in-Confirm-clause-no_line c = rw c.in-Confirm.is (λ fault. c.in_err-author-in-Confirm.ensures.no_line (passed c.from_residual-in_err-author-in-Confirm.ensures.1 fault) (λ author id. lines.Confirm author id))

pub returns-in_ok-author-in-Confirm-clause-ok : goal.returns-in_ok-author-in-Confirm-clause-ok
returns-in_ok-author-in-Confirm-clause-ok c = rw c.in-Confirm.is (c.in_ok-author-in-Confirm.ensures.ok (λ author id. lines.Confirm author id))

pub returns-in_err-author-in-Cancel-clause-no_line : goal.returns-in_err-author-in-Cancel-clause-no_line
returns-in_err-author-in-Cancel-clause-no_line c = rw c.in-Cancel.is (λ fault. c.in_err-author-in-Cancel.ensures.no_line (passed c.from_residual-in_err-author-in-Cancel.ensures.1 fault) (λ author id. lines.Cancel author id))

pub returns-in_ok-author-in-Cancel-clause-ok : goal.returns-in_ok-author-in-Cancel-clause-ok
returns-in_ok-author-in-Cancel-clause-ok c = rw c.in-Cancel.is (c.in_ok-author-in-Cancel.ensures.ok (λ author id. lines.Cancel author id))

pub returns-in_err-author-in-Extend-clause-no_line : goal.returns-in_err-author-in-Extend-clause-no_line
returns-in_err-author-in-Extend-clause-no_line c = rw c.in-Extend.is (λ fault. c.in_err-author-in-Extend.ensures.no_line (passed c.from_residual-in_err-author-in-Extend.ensures.1 fault) (λ author id span. lines.Extend author id span))

pub returns-in_ok-author-in-Extend-clause-ok : goal.returns-in_ok-author-in-Extend-clause-ok
returns-in_ok-author-in-Extend-clause-ok c = rw c.in-Extend.is (c.in_ok-author-in-Extend.ensures.ok (λ author id span. lines.Extend author id span))

pub returns-in-Get-clause-ok : goal.returns-in-Get-clause-ok
returns-in-Get-clause-ok c = rw c.in-Get.is c.read_get.ensures.ok

pub returns-in-Get-clause-no_line : goal.returns-in-Get-clause-no_line
returns-in-Get-clause-no_line c = rw c.in-Get.is c.read_get.ensures.no_line

pub returns-in-Sub-clause-ok : goal.returns-in-Sub-clause-ok
returns-in-Sub-clause-ok c = rw c.in-Sub.is c.read_sub.ensures.ok

pub returns-in-Sub-clause-no_line : goal.returns-in-Sub-clause-no_line
returns-in-Sub-clause-no_line c = rw c.in-Sub.is c.read_sub.ensures.no_line

pub returns-in-Open-clause-ok : goal.returns-in-Open-clause-ok
returns-in-Open-clause-ok c = rw c.in-Open.is c.read_open.ensures.ok

pub returns-in-Open-clause-no_line : goal.returns-in-Open-clause-no_line
returns-in-Open-clause-no_line c = rw c.in-Open.is c.read_open.ensures.no_line

pub returns-in_err-read-in-Turn-clause-no_line : goal.returns-in_err-read-in-Turn-clause-no_line
returns-in_err-read-in-Turn-clause-no_line c = rw c.in-Turn.is (λ fault. none_last (c.in_err-read-in-Turn.ensures.no_line (passed c.from_residual-in_err-read-in-Turn.ensures.1 fault)))

pub returns-in_ok-read-in-Turn-clause-ok : goal.returns-in_ok-read-in-Turn-clause-ok
returns-in_ok-read-in-Turn-clause-ok c = rw c.in-Turn.is (record { value = _; is = c.in_ok-read-in-Turn.ensures.ok; made = refl })

pub returns-in_err-read-in-Poll-clause-no_line : goal.returns-in_err-read-in-Poll-clause-no_line
returns-in_err-read-in-Poll-clause-no_line c = rw c.in-Poll.is (λ fault. none_last (c.in_err-read-in-Poll.ensures.no_line (passed c.from_residual-in_err-read-in-Poll.ensures.1 fault)))

pub returns-in_ok-read-in-Poll-clause-ok : goal.returns-in_ok-read-in-Poll-clause-ok
returns-in_ok-read-in-Poll-clause-ok c = rw c.in-Poll.is (record { value = _; is = c.in_ok-read-in-Poll.ensures.ok; made = refl })

pub returns-in_err-read-in-End-clause-no_line : goal.returns-in_err-read-in-End-clause-no_line
returns-in_err-read-in-End-clause-no_line c = rw c.in-End.is (λ fault. none_last (c.in_err-read-in-End.ensures.no_line (passed c.from_residual-in_err-read-in-End.ensures.1 fault)))

pub returns-in_ok-read-in-End-clause-ok : goal.returns-in_ok-read-in-End-clause-ok
returns-in_ok-read-in-End-clause-ok c = rw c.in-End.is (record { value = _; is = c.in_ok-read-in-End.ensures.ok; made = refl })

pub returns-in-Stop-clause-ok : goal.returns-in-Stop-clause-ok
returns-in-Stop-clause-ok c = rw c.in-Stop.is c.read_stop.ensures.ok

pub returns-in-Stop-clause-no_line : goal.returns-in-Stop-clause-no_line
returns-in-Stop-clause-no_line c = rw c.in-Stop.is c.read_stop.ensures.no_line

pub returns-in_err-read-in-Fail-clause-no_line : goal.returns-in_err-read-in-Fail-clause-no_line
returns-in_err-read-in-Fail-clause-no_line c = rw c.in-Fail.is (λ fault. none_last (c.in_err-read-in-Fail.ensures.no_line (passed c.from_residual-in_err-read-in-Fail.ensures.1 fault)))

pub returns-in_ok-read-in-Fail-clause-ok : goal.returns-in_ok-read-in-Fail-clause-ok
returns-in_ok-read-in-Fail-clause-ok c = rw c.in-Fail.is (record { value = _; is = c.in_ok-read-in-Fail.ensures.ok; made = refl })
