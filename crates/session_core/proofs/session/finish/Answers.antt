use Rattle.std.proofs.Common.{ℕ, Result, subst, sym}
use Rattle.std.specs.Prelude.{MatchResult}
use Rattle.h2_send.specs.declared.fault.WireFaultOut.{WireFaultOut}
use Rattle.session_core.specs.declared.how.How.{How}
use Rattle.session_core.specs.inner.Ends.{how_of}
use Rattle.session_core.specs.inner.Feeders.{feeder_state}
use Rattle.session_core.specs.inner.Places.{HasFinished}
use Rattle.session_core.specs.inner.Sending.{Closes, DoesWhereOpen, TellsDone}
use Rattle.session_core.proofs.Ends.{ends_so, finished_kept}
use Rattle.session_core.proofs.session.finish.Goals as goal

pub returns-in-Ok-clause-ends : goal.returns-in-Ok-clause-ends
returns-in-Ok-clause-ends g c = λ fed schema before source started port readings theirs stopped.
    subst (λ (r : Result (Unit {0}) WireFaultOut). MatchResult r (λ ok. HasFinished c.args.how fed schema before source (g.W.Sending.progress c.close.new.self) (feeder_state (g.W.Sending.history c.close.new.self) started) port readings) (λ fault. HasFinished (how_of fault) fed schema before source (g.W.Sending.progress c.close.new.self) (feeder_state (g.W.Sending.history c.close.new.self) started) port readings)) c.in-Ok.is
    (ends_so fed schema before source (feeder_state (g.W.Sending.history c.close.new.self) started) port readings (g.W.Sending.progress c.args.wire.now) (g.W.Sending.history c.args.wire.now) (g.W.Sending.history c.close.new.self) (g.W.Sending.progress c.close.new.self) c.close.result theirs c.args.how
    (finished_kept c.args.how fed schema before source (g.W.Sending.progress c.args.wire.now) (g.W.Sending.history c.args.wire.now) (g.W.Sending.history c.close.new.self) started port readings c.close.ensures.grown c.close.ensures.silent stopped)
    (subst (λ (code : ℕ). DoesWhereOpen (g.W.Sending.history c.args.wire.now).others (g.W.Sending.history c.close.new.self).others (g.W.Sending.progress c.args.wire.now) (g.W.Sending.progress c.close.new.self) (Closes code c.close.result) (TellsDone c.close.result)) c.code_of.ensures c.close.ensures.closes))

pub returns-in-Err-clause-ends : goal.returns-in-Err-clause-ends
returns-in-Err-clause-ends g c = λ fed schema before source started port readings theirs stopped.
    subst (λ (how : How). HasFinished how fed schema before source (g.W.Sending.progress c.close.new.self) (feeder_state (g.W.Sending.history c.close.new.self) started) port readings) (sym c.how_of.ensures.is)
    (subst (λ (r : Result (Unit {0}) WireFaultOut). MatchResult r (λ ok. HasFinished c.args.how fed schema before source (g.W.Sending.progress c.close.new.self) (feeder_state (g.W.Sending.history c.close.new.self) started) port readings) (λ fault. HasFinished (how_of fault) fed schema before source (g.W.Sending.progress c.close.new.self) (feeder_state (g.W.Sending.history c.close.new.self) started) port readings)) c.in-Err.is
    (ends_so fed schema before source (feeder_state (g.W.Sending.history c.close.new.self) started) port readings (g.W.Sending.progress c.args.wire.now) (g.W.Sending.history c.args.wire.now) (g.W.Sending.history c.close.new.self) (g.W.Sending.progress c.close.new.self) c.close.result theirs c.args.how
    (finished_kept c.args.how fed schema before source (g.W.Sending.progress c.args.wire.now) (g.W.Sending.history c.args.wire.now) (g.W.Sending.history c.close.new.self) started port readings c.close.ensures.grown c.close.ensures.silent stopped)
    (subst (λ (code : ℕ). DoesWhereOpen (g.W.Sending.history c.args.wire.now).others (g.W.Sending.history c.close.new.self).others (g.W.Sending.progress c.args.wire.now) (g.W.Sending.progress c.close.new.self) (Closes code c.close.result) (TellsDone c.close.result)) c.code_of.ensures c.close.ensures.closes)))
