use Rattle.std.proofs.Common.{arith}
use Rattle.std.proofs.lemmas.List.{nil_from_length}
use Rattle.journal_format.proofs.Loop.{goes_on, closes, ends_at, no_gate}
use Rattle.journal_format.proofs.reading.entries_in.Goals as goal

pub returns-then-gate-clause-found : goal.returns-then-gate-clause-found
returns-then-gate-clause-found c =
    closes c.args.limits c.args.octets.now c.loop-gate.so_far c.loop-gate.entries c.loop-gate.rest.now c.in-Some.gate.now c.in-Some.behind.now c.gate-gate.result c.requires c.loop-gate.invariant c.in-Some.ensures.cases.0 (omega arith) c.gate-gate.ensures

pub returns-in-Err-clause-damaged : goal.returns-in-Err-clause-damaged
returns-in-Err-clause-damaged c =
    ends_at c.args.limits c.args.octets.now c.loop-gate.so_far c.loop-gate.entries c.loop-gate.rest.now c.in-Some.gate.now c.in-Some.behind.now c.gate.result c.in-Err.fault c.fault_at.result c.requires c.loop-gate.invariant c.in-Some.ensures.cases.0 (omega arith) (λ e. c.in-Err.ensures.none (cc)) c.gate.ensures c.fault_at.ensures

pub loop-gate-preserved : goal.loop-gate-preserved
loop-gate-preserved c =
    goes_on c.args.limits c.args.octets.now c.loop-gate.so_far c.loop-gate.entries c.in-Some.gate.now c.in-Some.behind.now c.loop-gate.rest.now c.in-Ok.entry c.in-Ok.next c.in-Ok.after.now c.push.new.self c.loop-gate.invariant c.in-Some.ensures.cases.0 (omega arith) c.in-Ok.ensures.found c.in-Ok-push.ensures.ok

pub returns-clause-damaged : goal.returns-clause-damaged
returns-clause-damaged c = no_gate c.args.limits c.args.octets.now c.loop-gate.so_far c.loop-gate.entries c.loop-gate.rest.now c.gate-2.result c.requires c.loop-gate.invariant (nil_from_length c.loop-gate.rest.now c.in_default.ensures.cases) c.gate-2.ensures
