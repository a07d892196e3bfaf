use Rattle.base_kinds.specs.Rules.{rules_of}
use Rattle.history_laws.proofs.Given.{accepted_is_given}
use Rattle.commit_core.proofs.history_core.Core.judge.Goals as goal

pub stage-requires-clause-given : goal.stage-requires-clause-given
stage-requires-clause-given g c =
    let core = c.self.inside in
    let quiet = rw (← c.self.view_is) at c.requires.not_due in
    let is = rw (← c.self.view_is) at c.in-Ok.ensures.judged in
    rw (← c.self.view_is) (accepted_is_given (rules_of core.schema core.limits) core.log.items c.args.now c.args.author c.args.ask c.in-Ok.judged.entry c.self.invariant.replayable.ahead c.requires.author c.requires.fit quiet is)

pub returns-in-Ok-stage-clause-given : goal.returns-in-Ok-stage-clause-given
returns-in-Ok-stage-clause-given g c =
    let core = c.self.inside in
    let quiet = rw (← c.self.view_is) at c.requires.not_due in
    let is = rw (← c.self.view_is) at c.in-Ok.ensures.judged in
    rw (c.in-Ok-stage.ensures.entry, ← c.self.view_is) (accepted_is_given (rules_of core.schema core.limits) core.log.items c.args.now c.args.author c.args.ask c.in-Ok.judged.entry c.self.invariant.replayable.ahead c.requires.author c.requires.fit quiet is)
