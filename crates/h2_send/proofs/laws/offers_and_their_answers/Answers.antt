use Rattle.std.proofs.Common.{refl, sym, ap, ◌∙◌, arith}
use Rattle.h2_send.specs.Port.{ready_in}
use Rattle.h2_send.specs.declared.condition.Condition.TheVariants as condition
use Rattle.h2_send.proofs.Offered.{gone_then, busy_then, fault_then, starved_then, ended_then, taken_free, all_gone}
use Rattle.h2_send.proofs.laws.offers_and_their_answers.Goals as goal

pub returns-clause-gone : goal.returns-clause-gone
returns-clause-gone c is_alone stream said old new o = gone_then stream said o.found new (ready_in stream o.found) refl o.tries

pub returns-clause-busy : goal.returns-clause-busy
returns-clause-busy c is_alone stream said old new o = busy_then stream said o.found new (ready_in stream o.found) refl o.tries

pub returns-clause-ended : goal.returns-clause-ended
returns-clause-ended c is_alone stream said old new o last = ended_then stream said o.found new (ready_in stream o.found) o.tries last

pub returns-clause-free : goal.returns-clause-free
returns-clause-free c is_alone stream said old new o alone = ap (λ p. ready_in stream p) (sym (o.alone alone)) ∙ taken_free stream said o.found new (ready_in stream o.found) o.tries

pub returns-clause-write_fault : goal.returns-clause-write_fault
returns-clause-write_fault c is_alone stream said old new o = let f = o.goes_on.faults in let h = (fault_then stream said o.found new (ready_in stream o.found) o.tries).1 in omega (arith, f, h)

pub returns-clause-closed : goal.returns-clause-closed
returns-clause-closed c is_alone stream said old new o other = all_gone condition.WriteFault new other tt (fault_then stream said o.found new (ready_in stream o.found) o.tries).0

pub returns-clause-starved : goal.returns-clause-starved
returns-clause-starved c is_alone stream said old new o other = all_gone condition.NoMemory new other tt (starved_then stream said o.found new (ready_in stream o.found) o.tries)
