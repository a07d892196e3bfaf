use Rattle.commit_core.proofs.Histories.{sound_from}
use Rattle.commit_core.proofs.history_core.Core.entries.Goals as goal

pub returns-clause-sound : goal.returns-clause-sound
returns-clause-sound g c =
    let core = c.self.inside in
    rw (← c.self.view_is, c.items.ensures) (sound_from core.schema core.limits core.base.value.items core.log.items c.self.invariant.legal)
