use Rattle.std.proofs.Common.{◌≡◌, [], ap, refl, Err}
use Rattle.std.proofs.lemmas.Result.{err_from_is_err_and}
use Rattle.h2_events.specs.declared.event.RecvFault.{RecvFault}
use Rattle.h2_recv.proofs.RunLemmas.{whole_step, whole_fails, same_fault}
use Rattle.h2_recv.proofs.reader.Reader.step.Goals as goal

pub returns-in_err-event-clause-fault : goal.returns-in_err-event-clause-fault
returns-in_err-event-clause-fault c = λ code e.
    let none : c.args.self.now.rest ≡ [] = c.if-is_empty.ensures.0 refl in
    let p = err_from_is_err_and c.from_residual.result c.from_residual.ensures.1 in
    whole_fails c.args.self.now.peer c.args.self.now.rest c.args.octets.now c.in-Frame.head c.in-Frame.used c.args.out.now code none c.in-Frame.ensures.says
    (c.in_err-event.ensures.fault code (ap (λ (w : RecvFault). Err w) (same_fault c.from_residual.result p.0 _ _ p.1 p.2 e)))

pub returns-in-Frame-clause-goes : goal.returns-in-Frame-clause-goes
returns-in-Frame-clause-goes c =
    let none : c.args.self.now.rest ≡ [] = c.if-is_empty.ensures.0 refl in
    whole_step c.args.self.now.peer _ c.args.self.now.rest c.args.octets.now c.in-Frame.head c.in-Frame.used c.args.out.now c.give.new.out c.in_ok-event.event none c.in-Frame.ensures.says
    c.in_ok-event.ensures.goes_on c.in_ok-give.ensures.ok
