use Rattle.std.proofs.Common.{ap, inr, Err, refl}
use Rattle.std.proofs.lemmas.Result.{err_from_is_err_and}
use Rattle.h2_events.specs.declared.event.RecvFault.{RecvFault}
use Rattle.h2_recv.proofs.FrameLemmas.{is_frame, failed}
use Rattle.h2_recv.proofs.reader.Reader.look.Goals as goal

pub returns-in_err-event-in-Frame-clause-looks : goal.returns-in_err-event-in-Frame-clause-looks
returns-in_err-event-in-Frame-clause-looks c =
    let p = err_from_is_err_and c.from_residual.result c.from_residual.ensures.1 in
    rw (p.1, p.2)
    (failed c.args.self.now _ c.items.result.now c.items-in-Frame.result.now c.in-Frame.head c.in-Frame.used c.in_err-event-in-Frame.field-0.0 c.items.ensures c.items-in-Frame.ensures c.requires c.in-Frame.ensures.says
    (λ code e. c.in_err-event-in-Frame.ensures.fault code (ap (λ (w : RecvFault). Err w) e)))

pub returns-in_ok-event-in-Frame-clause-looks : goal.returns-in_ok-event-in-Frame-clause-looks
returns-in_ok-event-in-Frame-clause-looks c =
    inr (
      is_frame c.args.self.now.peer c.args.self.now.rest c.items.result.now c.items-in-Frame.result.now c.in-Frame.head c.in-Frame.used _ c.items.ensures c.items-in-Frame.ensures c.requires c.in-Frame.ensures.says c.in_ok-event-in-Frame.ensures.goes_on,
      rw c.clear.ensures refl,
    )
