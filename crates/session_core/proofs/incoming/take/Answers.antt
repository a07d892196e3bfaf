use Rattle.std.proofs.Common.{◌⊎◌, ◌≤◌, ℕ, [], length, Err, sym, subst}
use Rattle.h2_events.specs.declared.event.RecvFault.{RecvFault}
use Rattle.h2_recv.specs.Receiving.{Fed, Faults, Astray}
use Rattle.session_core.proofs.Reading.{taken_in, faulted}
use Rattle.session_core.proofs.incoming.take.Goals as goal

pub returns-in-Ok : goal.returns-in-Ok
returns-in-Ok c = λ old at.
    let few = subst (λ (n : ℕ). length c.args.piece.now ≤ n) (sym c.wanted-wanted.ensures.is) c.requires in
    taken_in c.args.recv.now old c.args.piece.now c.empty-events.result c.feed.new.out c.next_of.result c.feed.new.self at c.empty-events.ensures c.in-Ok.ensures.fed
    (λ moments now reads. c.wanted-wanted.ensures.one old c.args.piece.now now.rest moments now.begun now.peer at few reads.reaches) c.next_of.ensures

pub returns-in-Err-Protocol : goal.returns-in-Err-Protocol
returns-in-Err-Protocol c = λ old at.
    let few = subst (λ (n : ℕ). length c.args.piece.now ≤ n) (sym c.wanted-wanted.ensures.is) c.requires in
    let fed = subst (λ (f : RecvFault). Fed c.args.recv.now c.args.piece.now c.empty-events.result (Err f) c.feed.new.self c.feed.new.out) c.in-Err-Protocol.field-0-is c.in-Err-Protocol.ensures.fed in
    subst (λ (n : ℕ). Faults old c.args.piece.now [] n ⊎ Astray old c.args.piece.now [] n) (sym c.in-Err-Protocol.code-is)
    (faulted c.args.recv.now old c.args.piece.now c.empty-events.result c.feed.new.out c.in-Err-Protocol.code c.feed.new.self at fed
    (λ moments faults. c.wanted-wanted.ensures.fault old c.args.piece.now moments c.in-Err-Protocol.code at few faults))
