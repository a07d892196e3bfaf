use Rattle.std.proofs.Common.{◌+◌, ap, ◌∙◌}
use Rattle.memory_disks.proofs.Stopping.{failed_cause}
use Rattle.memory_disks.proofs.fuse.FuseDisk.pass.Goals as goal

pub returns-in-Fails-clause-cause : goal.returns-in-Fails-clause-cause
returns-in-Fails-clause-cause c = failed_cause _ _ _ (ap (λ v. v.faults) c.fail.ensures ∙ ap (λ v. v.faults + 1) c.outcome.ensures.called)

pub returns-in-Stops-clause-cause : goal.returns-in-Stops-clause-cause
returns-in-Stops-clause-cause c = failed_cause _ _ _ (ap (λ v. v.faults) c.stop.ensures ∙ ap (λ v. v.faults + 1) c.outcome.ensures.called)
