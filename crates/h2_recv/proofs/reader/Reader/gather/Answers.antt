use Rattle.std.proofs.lemmas.Result.{err_from_is_err_and}
use Rattle.h2_recv.proofs.RunLemmas.{stepped, failed_step, part_then, same_fault}
use Rattle.h2_recv.proofs.reader.Reader.gather.Goals as goal

pub returns-in_err-event-clause-fault : goal.returns-in_err-event-clause-fault
returns-in_err-event-clause-fault c = λ code e.
    let p = err_from_is_err_and c.from_residual-in_err-event.result c.from_residual-in_err-event.ensures.1 in
    failed_step c.args.self.now c.take.new.self c.look.new.self c.args.octets.now c.in_ok-taken.taken c.args.out.now code c.in_err-event.field-0.0 c.in_ok-taken.ensures.new
    (same_fault c.from_residual-in_err-event.result p.0 _ _ p.1 p.2 e) c.in_err-event.ensures.looks

pub returns-clause-part : goal.returns-clause-part
returns-clause-part c = part_then c.take.new.self c.look.new.self c.in_ok-event.event c.in_ok-event.ensures.looks

pub returns-clause-goes : goal.returns-clause-goes
returns-clause-goes c =
    stepped c.args.self.now c.take.new.self c.look.new.self c.args.octets.now c.in_ok-taken.taken c.args.out.now c.give.new.out c.in_ok-event.event c.in_ok-taken.ensures.new
    c.in_ok-event.ensures.looks c.in_ok-give.ensures.ok
