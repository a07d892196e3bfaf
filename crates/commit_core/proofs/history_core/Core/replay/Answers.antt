use Rattle.std.proofs.Common.{ap, ◌∙◌, rules}
use Rattle.base_kinds.specs.History.{world_of}
use Rattle.commit_core.specs.inner.StandsFor.{world_in}
use Rattle.commit_core.proofs.Histories.{stands_replayed, replayed_world}
use Rattle.commit_core.proofs.history_core.Core.replay.Goals as goal

pub invariant_of-self : goal.invariant_of-self
invariant_of-self g c =
    let rows = g.T.TreeLike.rows in
    let core = c.self.inside in
    let log = c.replay_log.new.log in
    let world = world_in rows c.replay_log.new.tree c.replay_log.new.trial in
    let items = c.in-Ok-replay_log.ensures.items ∙ c.of-log.ensures in
    let fresh = rw (← c.self.view_is) at c.requires.fresh in
    let replayed = replayed_world core.log.items (world_in rows core.tree core.trial) (rows c.in-Ok.tree) c.args.entries world fresh c.self.invariant.world_is c.in-Ok.ensures (search rules) in
    rw (c.replace.ensures.after, c.replace-in-Ok-replay_log.ensures.after, c.replace-in-Ok-replay_log-2.ensures.after, c.replace-in-Ok-replay_log-3.ensures.after, c.of.ensures)
    (stands_replayed core.schema core.limits log c.last_stamp-self-inside.result c.journal_octets-self-inside.result world (rw items c.requires.replayable) (ap world_of items ∙ replayed) (search rules) (search rules) c.in-Ok-replay_log.ensures.room)
