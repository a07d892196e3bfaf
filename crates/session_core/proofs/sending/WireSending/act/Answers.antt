use Rattle.std.proofs.Common.{◌≡◌, ap, ◌∙◌, Ok, Err}
use Rattle.h2_send.specs.declared.fault.WireFaultOut.TheVariants as faults
use Rattle.session_core.proofs.OwnWires.{acts_so, overflows_badly, overflows_so}
use Rattle.session_core.proofs.sending.WireSending.act.Goals as goal

pub returns-in-Ok-clause-acts : goal.returns-in-Ok-clause-acts
returns-in-Ok-clause-acts g c = acts_so g.S.Sink.seen c.args.event.now c.args.self.now c.act.new.self c.readiness.ensures.line c.act.result c.act.ensures.acts c.act.ensures.overflow c.act.ensures.closed (Ok tt) c.in-Ok.is (λ e. cc)

pub returns-in-Ok-finish-clause-acts : goal.returns-in-Ok-finish-clause-acts
returns-in-Ok-finish-clause-acts g c =
    let is = c.in-Err-Overflow.field-0-is in
    let same : c.in-Err-Overflow.field-0 ≡ faults.Overflow = cc in
    overflows_so g.S.Sink.seen c.args.event.now c.args.self.now c.act.new.self c.readiness.ensures.line c.act.result c.act.ensures.acts c.act.ensures.overflow c.act.ensures.closed c.finish.new.self c.finish.result (c.in-Err-Overflow.is ∙ ap Err same) c.finish.ensures.finishes c.in-Ok-finish.is

pub returns-in-Err-clause-acts : goal.returns-in-Err-clause-acts
returns-in-Err-clause-acts g c =
    let is = c.in-Err-Overflow.field-0-is in
    let same : c.in-Err-Overflow.field-0 ≡ faults.Overflow = cc in
    overflows_badly g.S.Sink.seen c.args.event.now c.args.self.now c.act.new.self c.readiness.ensures.line c.act.result c.act.ensures.acts c.act.ensures.overflow c.act.ensures.closed c.finish.new.self c.finish.result (c.in-Err-Overflow.is ∙ ap Err same) c.finish.ensures.finishes c.in-Err.fault c.in-Err.is

pub returns-in-Err-WriteFault-clause-acts : goal.returns-in-Err-WriteFault-clause-acts
returns-in-Err-WriteFault-clause-acts g c =
    let is = c.in-Err-WriteFault.field-0-is in
    let same : c.in-Err-WriteFault.field-0 ≡ faults.WriteFault = cc in
    acts_so g.S.Sink.seen c.args.event.now c.args.self.now c.act.new.self c.readiness.ensures.line c.act.result c.act.ensures.acts c.act.ensures.overflow c.act.ensures.closed (Err faults.WriteFault) (c.in-Err-WriteFault.is ∙ ap Err same) (λ e. cc)

pub returns-in-Err-NoMemory-clause-acts : goal.returns-in-Err-NoMemory-clause-acts
returns-in-Err-NoMemory-clause-acts g c =
    let is = c.in-Err-NoMemory.field-0-is in
    let same : c.in-Err-NoMemory.field-0 ≡ faults.NoMemory = cc in
    acts_so g.S.Sink.seen c.args.event.now c.args.self.now c.act.new.self c.readiness.ensures.line c.act.result c.act.ensures.acts c.act.ensures.overflow c.act.ensures.closed (Err faults.NoMemory) (c.in-Err-NoMemory.is ∙ ap Err same) (λ e. cc)
