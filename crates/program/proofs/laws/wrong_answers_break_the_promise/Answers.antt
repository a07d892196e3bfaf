use Rattle.program.proofs.headline.Refusing.{acknowledged_twice, before_the_own_set, goes_back, lost_in_a_crash, of_another_history, of_no_state, refused_and_done}
use Rattle.program.proofs.laws.wrong_answers_break_the_promise.Goals as goal

pub returns-clause-another : goal.returns-clause-another
returns-clause-another c = of_another_history

pub returns-clause-early : goal.returns-clause-early
returns-clause-early c = before_the_own_set

pub returns-clause-twice : goal.returns-clause-twice
returns-clause-twice c = acknowledged_twice

pub returns-clause-refused : goal.returns-clause-refused
returns-clause-refused c = refused_and_done

pub returns-clause-no_state : goal.returns-clause-no_state
returns-clause-no_state c = of_no_state

pub returns-clause-back : goal.returns-clause-back
returns-clause-back c = goes_back

pub returns-clause-lost : goal.returns-clause-lost
returns-clause-lost c = lost_in_a_crash
