use Rattle.ask_command.proofs.Faults.{passed}
use Rattle.ask_command.proofs.Obeying.{no_trial}
use Rattle.ask_command.proofs.request.request_of.Goals as goal

pub returns-in_err-updates-in-Set-clause-bad : goal.returns-in_err-updates-in-Set-clause-bad
returns-in_err-updates-in-Set-clause-bad c =
    rw c.in-Set.is (λ fault request is. c.in_err-updates-in-Set.ensures.bad (passed c.from_residual-in_err-updates-in-Set.ensures.1 fault) is.0 is.1)

pub returns-in_default-clause-bad : goal.returns-in_default-clause-bad
returns-in_default-clause-bad c = rw c.in-Trial.is (λ fault request is. c.in_default.ensures.none is.0 is.1)

pub returns-in_err-updates-in-Trial-clause-bad : goal.returns-in_err-updates-in-Trial-clause-bad
returns-in_err-updates-in-Trial-clause-bad c =
    rw c.in-Trial.is (λ fault. no_trial _ _ _ _ (c.in_err-updates-in-Trial.ensures.bad (passed c.from_residual-in_err-updates-in-Trial.ensures.1 fault)))
