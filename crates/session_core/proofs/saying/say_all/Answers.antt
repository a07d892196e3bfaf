use Rattle.std.proofs.Common.{◌≡◌, ◌++◌, [], sym, refl, ap, inl, ◌∙◌, subst, Ok}
use Rattle.h2_events.specs.declared.port.Ready.TheVariants.{Gone, Busy, Free}
use Rattle.session_core.specs.declared.how.How.{How}
use Rattle.session_core.specs.inner.Feeders.{feeder_state}
use Rattle.session_core.specs.inner.Places.{HasEnded}
use Rattle.session_core.proofs.Found.{earlier, grown_more}
use Rattle.session_core.proofs.Looking.{ready_looked, stands_ends, stands_looked, writing_looked}
use Rattle.session_core.proofs.Speaking.{word_ends, word_goes, writing_says}
use Rattle.session_core.proofs.Words.{behind_kept, starved, word_gone, word_kept}
use Rattle.session_core.proofs.saying.say_all.Goals as goal

pub loop-w-preserved-in-Ok-Gone : goal.loop-w-preserved-in-Ok-Gone
loop-w-preserved-in-Ok-Gone g c =
    let is = c.in-Ok-Gone.field-0-is in
    let same : c.in-Ok-Gone.field-0 ≡ Gone = cc in
    let looked = c.in-Ok-Gone.is ∙ ap Ok same in
    record {
      says = λ fed start output octets started heard owed at theirs first stands.
          let l = stands_looked fed (g.W.Sending.history c.loop-w.wire) (g.W.Sending.history c.readiness.new.self) (g.W.Sending.progress c.loop-w.wire) (g.W.Sending.progress c.readiness.new.self) c.in-Some.w.stream c.readiness.result c.readiness.ensures.reads theirs start output octets started c.readiness.ensures.grown c.readiness.ensures.silent c.loop-w.recv heard (c.loop-w.still ++ c.loop-w.w-iterator.rest.items) owed at [] Gone looked (c.loop-w.invariant.says fed start output octets started heard owed at (earlier fed (g.W.Sending.history c.loop-w.wire) (g.W.Sending.history c.readiness.new.self) c.readiness.ensures.grown theirs) first stands) tt in
          word_gone fed start output octets (feeder_state (g.W.Sending.history c.readiness.new.self) started) c.loop-w.recv (g.W.Sending.progress c.readiness.new.self) heard c.loop-w.still c.loop-w.w-iterator.rest.items c.next.new.self.rest.items c.in-Some.w owed at c.in-Some.ensures.steps.0 l.2 l.0;
      goes = λ fed output others theirs writing are.
          let before = (c.loop-w.invariant.goes fed output others (earlier fed (g.W.Sending.history c.loop-w.wire) (g.W.Sending.history c.readiness.new.self) c.readiness.ensures.grown theirs) writing are) in
          writing_looked fed (g.W.Sending.history c.loop-w.wire) (g.W.Sending.history c.readiness.new.self) (g.W.Sending.progress c.loop-w.wire) (g.W.Sending.progress c.readiness.new.self) c.in-Some.w.stream c.readiness.result c.readiness.ensures.reads theirs output others Gone looked before.0 before.1;
      behind = λ fed output theirs writing first.
          let before = (c.loop-w.invariant.goes fed output [] (earlier fed (g.W.Sending.history c.loop-w.wire) (g.W.Sending.history c.readiness.new.self) c.readiness.ensures.grown theirs) writing tt) in
          (writing_looked fed (g.W.Sending.history c.loop-w.wire) (g.W.Sending.history c.readiness.new.self) (g.W.Sending.progress c.loop-w.wire) (g.W.Sending.progress c.readiness.new.self) c.in-Some.w.stream c.readiness.result c.readiness.ensures.reads theirs output c.loop-w.still Gone looked before.0 (c.loop-w.invariant.behind fed output (earlier fed (g.W.Sending.history c.loop-w.wire) (g.W.Sending.history c.readiness.new.self) c.readiness.ensures.grown theirs) writing first)).1;
      grown = grown_more (g.W.Sending.history c.args.wire.now) (g.W.Sending.history c.loop-w.wire) (g.W.Sending.history c.readiness.new.self) c.loop-w.invariant.grown c.readiness.ensures.grown;
    }

pub loop-w-preserved-in-Ok-Gone-2 : goal.loop-w-preserved-in-Ok-Gone-2
loop-w-preserved-in-Ok-Gone-2 g c =
    let is = c.in-Ok-Gone.field-0-is in
    let same : c.in-Ok-Gone.field-0 ≡ Gone = cc in
    let looked = c.in-Ok-Gone.is ∙ ap Ok same in
    record {
      says = λ fed start output octets started heard owed at theirs first stands.
          let l = stands_looked fed (g.W.Sending.history c.loop-w.wire) (g.W.Sending.history c.readiness.new.self) (g.W.Sending.progress c.loop-w.wire) (g.W.Sending.progress c.readiness.new.self) c.in-Some.w.stream c.readiness.result c.readiness.ensures.reads theirs start output octets started c.readiness.ensures.grown c.readiness.ensures.silent c.loop-w.recv heard (c.loop-w.still ++ c.loop-w.w-iterator.rest.items) owed at [] Gone looked (c.loop-w.invariant.says fed start output octets started heard owed at (earlier fed (g.W.Sending.history c.loop-w.wire) (g.W.Sending.history c.readiness.new.self) c.readiness.ensures.grown theirs) first stands) tt in
          word_gone fed start output octets (feeder_state (g.W.Sending.history c.readiness.new.self) started) c.loop-w.recv (g.W.Sending.progress c.readiness.new.self) heard c.loop-w.still c.loop-w.w-iterator.rest.items c.next.new.self.rest.items c.in-Some.w owed at c.in-Some.ensures.steps.0 l.2 l.0;
      goes = λ fed output others theirs writing are.
          let before = (c.loop-w.invariant.goes fed output others (earlier fed (g.W.Sending.history c.loop-w.wire) (g.W.Sending.history c.readiness.new.self) c.readiness.ensures.grown theirs) writing are) in
          writing_looked fed (g.W.Sending.history c.loop-w.wire) (g.W.Sending.history c.readiness.new.self) (g.W.Sending.progress c.loop-w.wire) (g.W.Sending.progress c.readiness.new.self) c.in-Some.w.stream c.readiness.result c.readiness.ensures.reads theirs output others Gone looked before.0 before.1;
      behind = λ fed output theirs writing first.
          let before = (c.loop-w.invariant.goes fed output [] (earlier fed (g.W.Sending.history c.loop-w.wire) (g.W.Sending.history c.readiness.new.self) c.readiness.ensures.grown theirs) writing tt) in
          (writing_looked fed (g.W.Sending.history c.loop-w.wire) (g.W.Sending.history c.readiness.new.self) (g.W.Sending.progress c.loop-w.wire) (g.W.Sending.progress c.readiness.new.self) c.in-Some.w.stream c.readiness.result c.readiness.ensures.reads theirs output c.loop-w.still Gone looked before.0 (c.loop-w.invariant.behind fed output (earlier fed (g.W.Sending.history c.loop-w.wire) (g.W.Sending.history c.readiness.new.self) c.readiness.ensures.grown theirs) writing first)).1;
      grown = grown_more (g.W.Sending.history c.args.wire.now) (g.W.Sending.history c.loop-w.wire) (g.W.Sending.history c.readiness.new.self) c.loop-w.invariant.grown c.readiness.ensures.grown;
    }

pub loop-w-preserved-in-Ok : goal.loop-w-preserved-in-Ok
loop-w-preserved-in-Ok g c =
    let is = c.in-Ok-Busy.field-0-is in
    let same : c.in-Ok-Busy.field-0 ≡ Busy = cc in
    let looked = c.in-Ok-Busy.is ∙ ap Ok same in
    record {
      says = λ fed start output octets started heard owed at theirs first stands.
          let l = stands_looked fed (g.W.Sending.history c.loop-w.wire) (g.W.Sending.history c.readiness.new.self) (g.W.Sending.progress c.loop-w.wire) (g.W.Sending.progress c.readiness.new.self) c.in-Some.w.stream c.readiness.result c.readiness.ensures.reads theirs start output octets started c.readiness.ensures.grown c.readiness.ensures.silent c.loop-w.recv heard (c.loop-w.still ++ c.loop-w.w-iterator.rest.items) owed at [] Busy looked (c.loop-w.invariant.says fed start output octets started heard owed at (earlier fed (g.W.Sending.history c.loop-w.wire) (g.W.Sending.history c.readiness.new.self) c.readiness.ensures.grown theirs) first stands) tt in
          word_kept fed start output octets (feeder_state (g.W.Sending.history c.readiness.new.self) started) c.loop-w.recv (g.W.Sending.progress c.readiness.new.self) heard c.loop-w.still c.push.new.self c.loop-w.w-iterator.rest.items c.next.new.self.rest.items c.in-Some.w owed at c.in-Some.ensures.steps.0 c.in-Ok.ensures.ok l.0;
      goes = λ fed output others theirs writing are.
          let before = (c.loop-w.invariant.goes fed output others (earlier fed (g.W.Sending.history c.loop-w.wire) (g.W.Sending.history c.readiness.new.self) c.readiness.ensures.grown theirs) writing are) in
          writing_looked fed (g.W.Sending.history c.loop-w.wire) (g.W.Sending.history c.readiness.new.self) (g.W.Sending.progress c.loop-w.wire) (g.W.Sending.progress c.readiness.new.self) c.in-Some.w.stream c.readiness.result c.readiness.ensures.reads theirs output others Busy looked before.0 before.1;
      behind = λ fed output theirs writing first.
          let before = (c.loop-w.invariant.goes fed output [] (earlier fed (g.W.Sending.history c.loop-w.wire) (g.W.Sending.history c.readiness.new.self) c.readiness.ensures.grown theirs) writing tt) in
          let l = writing_looked fed (g.W.Sending.history c.loop-w.wire) (g.W.Sending.history c.readiness.new.self) (g.W.Sending.progress c.loop-w.wire) (g.W.Sending.progress c.readiness.new.self) c.in-Some.w.stream c.readiness.result c.readiness.ensures.reads theirs output c.loop-w.still Busy looked before.0 (c.loop-w.invariant.behind fed output (earlier fed (g.W.Sending.history c.loop-w.wire) (g.W.Sending.history c.readiness.new.self) c.readiness.ensures.grown theirs) writing first) in
          behind_kept (g.W.Sending.progress c.readiness.new.self) c.loop-w.still c.push.new.self c.in-Some.w c.in-Ok.ensures.ok (ready_looked fed (g.W.Sending.history c.loop-w.wire) (g.W.Sending.history c.readiness.new.self) (g.W.Sending.progress c.loop-w.wire) (g.W.Sending.progress c.readiness.new.self) c.in-Some.w.stream c.readiness.result c.readiness.ensures.reads theirs output [] Busy looked before.0 tt) l.1;
      grown = grown_more (g.W.Sending.history c.args.wire.now) (g.W.Sending.history c.loop-w.wire) (g.W.Sending.history c.readiness.new.self) c.loop-w.invariant.grown c.readiness.ensures.grown;
    }

pub loop-w-preserved : goal.loop-w-preserved
loop-w-preserved g c =
    let is = c.in-Ok-Free.field-0-is in
    let same : c.in-Ok-Free.field-0 ≡ Free = cc in
    let looked = c.in-Ok-Free.is ∙ ap Ok same in
    record {
      says = λ fed start output octets started heard owed at theirs first stands.
          let then = earlier fed (g.W.Sending.history c.readiness.new.self) (g.W.Sending.history c.say.new.wire) c.say.ensures.grown theirs in
          let before = c.loop-w.invariant.goes fed output [] (earlier fed (g.W.Sending.history c.loop-w.wire) (g.W.Sending.history c.readiness.new.self) c.readiness.ensures.grown then) stands.writing tt in
          let l = stands_looked fed (g.W.Sending.history c.loop-w.wire) (g.W.Sending.history c.readiness.new.self) (g.W.Sending.progress c.loop-w.wire) (g.W.Sending.progress c.readiness.new.self) c.in-Some.w.stream c.readiness.result c.readiness.ensures.reads then start output octets started c.readiness.ensures.grown c.readiness.ensures.silent c.loop-w.recv heard (c.loop-w.still ++ c.loop-w.w-iterator.rest.items) owed at c.loop-w.still Free looked (c.loop-w.invariant.says fed start output octets started heard owed at (earlier fed (g.W.Sending.history c.loop-w.wire) (g.W.Sending.history c.readiness.new.self) c.readiness.ensures.grown then) first stands) (c.loop-w.invariant.behind fed output (earlier fed (g.W.Sending.history c.loop-w.wire) (g.W.Sending.history c.readiness.new.self) c.readiness.ensures.grown then) stands.writing first) in
          word_goes fed (g.W.Sending.history c.readiness.new.self) (g.W.Sending.history c.say.new.wire) (g.W.Sending.progress c.readiness.new.self) (g.W.Sending.progress c.say.new.wire) c.in-Some.w c.say.result c.say.ensures.speaks theirs start output octets started c.say.ensures.grown c.say.ensures.silent c.loop-w.recv heard c.loop-w.still c.loop-w.w-iterator.rest.items c.next.new.self.rest.items owed at c.in-Some.ensures.steps.0 l.1 l.0 c.say.new.recv c.in-Ok-say.is c.in-Ok-say.ensures.told;
      goes = λ fed output others theirs writing are.
          let then = earlier fed (g.W.Sending.history c.readiness.new.self) (g.W.Sending.history c.say.new.wire) c.say.ensures.grown theirs in
          let before = (c.loop-w.invariant.goes fed output others (earlier fed (g.W.Sending.history c.loop-w.wire) (g.W.Sending.history c.readiness.new.self) c.readiness.ensures.grown then) writing are) in
          let l = writing_looked fed (g.W.Sending.history c.loop-w.wire) (g.W.Sending.history c.readiness.new.self) (g.W.Sending.progress c.loop-w.wire) (g.W.Sending.progress c.readiness.new.self) c.in-Some.w.stream c.readiness.result c.readiness.ensures.reads then output others Free looked before.0 before.1 in
          writing_says fed (g.W.Sending.history c.readiness.new.self) (g.W.Sending.history c.say.new.wire) (g.W.Sending.progress c.readiness.new.self) (g.W.Sending.progress c.say.new.wire) c.in-Some.w c.say.result c.say.ensures.speaks theirs output others c.in-Ok-say.is l.0 l.1;
      behind = λ fed output theirs writing first.
          let then = earlier fed (g.W.Sending.history c.readiness.new.self) (g.W.Sending.history c.say.new.wire) c.say.ensures.grown theirs in
          let before = (c.loop-w.invariant.goes fed output [] (earlier fed (g.W.Sending.history c.loop-w.wire) (g.W.Sending.history c.readiness.new.self) c.readiness.ensures.grown then) writing tt) in
          let l = writing_looked fed (g.W.Sending.history c.loop-w.wire) (g.W.Sending.history c.readiness.new.self) (g.W.Sending.progress c.loop-w.wire) (g.W.Sending.progress c.readiness.new.self) c.in-Some.w.stream c.readiness.result c.readiness.ensures.reads then output c.loop-w.still Free looked before.0 (c.loop-w.invariant.behind fed output (earlier fed (g.W.Sending.history c.loop-w.wire) (g.W.Sending.history c.readiness.new.self) c.readiness.ensures.grown then) writing first) in
          (writing_says fed (g.W.Sending.history c.readiness.new.self) (g.W.Sending.history c.say.new.wire) (g.W.Sending.progress c.readiness.new.self) (g.W.Sending.progress c.say.new.wire) c.in-Some.w c.say.result c.say.ensures.speaks theirs output c.loop-w.still c.in-Ok-say.is l.0 l.1).1;
      grown = grown_more (g.W.Sending.history c.args.wire.now) (g.W.Sending.history c.loop-w.wire) (g.W.Sending.history c.say.new.wire) c.loop-w.invariant.grown (grown_more (g.W.Sending.history c.loop-w.wire) (g.W.Sending.history c.readiness.new.self) (g.W.Sending.history c.say.new.wire) c.readiness.ensures.grown c.say.ensures.grown);
    }

pub returns-in-Err-clause-says : goal.returns-in-Err-clause-says
returns-in-Err-clause-says g c = λ fed start output octets started heard owed at theirs first stands.
    subst (λ (how : How). HasEnded how fed start octets output (g.W.Sending.progress c.readiness.new.self) (feeder_state (g.W.Sending.history c.readiness.new.self) started) at.port at.readings) (sym c.how_of.ensures.is)
    (stands_ends fed (g.W.Sending.history c.loop-w.wire) (g.W.Sending.history c.readiness.new.self) (g.W.Sending.progress c.loop-w.wire) (g.W.Sending.progress c.readiness.new.self) c.in-Some.w.stream c.readiness.result c.readiness.ensures.reads theirs start output octets started c.readiness.ensures.grown c.readiness.ensures.silent c.loop-w.recv heard (c.loop-w.still ++ c.loop-w.w-iterator.rest.items) owed at c.in-Err.fault c.in-Err.is (c.loop-w.invariant.says fed start output octets started heard owed at (earlier fed (g.W.Sending.history c.loop-w.wire) (g.W.Sending.history c.readiness.new.self) c.readiness.ensures.grown theirs) first stands))

pub returns-in-Err-push-clause-says : goal.returns-in-Err-push-clause-says
returns-in-Err-push-clause-says g c = λ fed start output octets started heard owed at theirs first stands.
    let is = c.in-Ok-Busy.field-0-is in
    let same : c.in-Ok-Busy.field-0 ≡ Busy = cc in
    let l = stands_looked fed (g.W.Sending.history c.loop-w.wire) (g.W.Sending.history c.readiness.new.self) (g.W.Sending.progress c.loop-w.wire) (g.W.Sending.progress c.readiness.new.self) c.in-Some.w.stream c.readiness.result c.readiness.ensures.reads theirs start output octets started c.readiness.ensures.grown c.readiness.ensures.silent c.loop-w.recv heard (c.loop-w.still ++ c.loop-w.w-iterator.rest.items) owed at [] Busy (c.in-Ok-Busy.is ∙ ap Ok same) (c.loop-w.invariant.says fed start output octets started heard owed at (earlier fed (g.W.Sending.history c.loop-w.wire) (g.W.Sending.history c.readiness.new.self) c.readiness.ensures.grown theirs) first stands) tt in
    starved fed start output octets (feeder_state (g.W.Sending.history c.readiness.new.self) started) c.loop-w.recv (g.W.Sending.progress c.readiness.new.self) (g.W.Sending.progress c.readiness.new.self) heard (c.loop-w.still ++ c.loop-w.w-iterator.rest.items) owed at (inl refl) l.0

pub returns-in-Err-say-clause-says : goal.returns-in-Err-say-clause-says
returns-in-Err-say-clause-says g c = λ fed start output octets started heard owed at theirs first stands.
    let is = c.in-Ok-Free.field-0-is in
    let same : c.in-Ok-Free.field-0 ≡ Free = cc in
    let looked = c.in-Ok-Free.is ∙ ap Ok same in
    let then = earlier fed (g.W.Sending.history c.readiness.new.self) (g.W.Sending.history c.say.new.wire) c.say.ensures.grown theirs in
    let l = stands_looked fed (g.W.Sending.history c.loop-w.wire) (g.W.Sending.history c.readiness.new.self) (g.W.Sending.progress c.loop-w.wire) (g.W.Sending.progress c.readiness.new.self) c.in-Some.w.stream c.readiness.result c.readiness.ensures.reads then start output octets started c.readiness.ensures.grown c.readiness.ensures.silent c.loop-w.recv heard (c.loop-w.still ++ c.loop-w.w-iterator.rest.items) owed at c.loop-w.still Free looked (c.loop-w.invariant.says fed start output octets started heard owed at (earlier fed (g.W.Sending.history c.loop-w.wire) (g.W.Sending.history c.readiness.new.self) c.readiness.ensures.grown then) first stands) (c.loop-w.invariant.behind fed output (earlier fed (g.W.Sending.history c.loop-w.wire) (g.W.Sending.history c.readiness.new.self) c.readiness.ensures.grown then) stands.writing first) in
    subst (λ (how : How). HasEnded how fed start octets output (g.W.Sending.progress c.say.new.wire) (feeder_state (g.W.Sending.history c.say.new.wire) started) at.port at.readings) (sym c.how_of-in-Err-say.ensures.is)
    (word_ends fed (g.W.Sending.history c.readiness.new.self) (g.W.Sending.history c.say.new.wire) (g.W.Sending.progress c.readiness.new.self) (g.W.Sending.progress c.say.new.wire) c.in-Some.w c.say.result c.say.ensures.speaks theirs start output octets started c.say.ensures.grown c.say.ensures.silent c.loop-w.recv heard c.loop-w.still c.loop-w.w-iterator.rest.items c.next.new.self.rest.items owed at c.in-Some.ensures.steps.0 l.1 l.0 c.in-Err-say.fault c.in-Err-say.is)

pub returns-clause-keeps : goal.returns-clause-keeps
returns-clause-keeps g c = λ fed output others theirs writing are. (c.loop-w.invariant.goes fed output others theirs writing are).1
