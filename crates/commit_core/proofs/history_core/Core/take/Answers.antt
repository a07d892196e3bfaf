use Rattle.std.proofs.Common.{rules}
use Rattle.commit_core.specs.inner.StandsFor.{preparation_of, world_in}
use Rattle.commit_core.proofs.Histories.{takable, stands_taken}
use Rattle.commit_core.proofs.history_core.Core.take.Goals as goal

pub invariant_of-self : goal.invariant_of-self
invariant_of-self g c =
    let rows = g.T.TreeLike.rows in
    let core = c.self.inside in
    let world = world_in rows core.tree core.trial in
    let prepared = preparation_of rows core.prepared in
    let next = rw (← c.self.view_is) at c.requires in
    let can = takable core.schema core.limits core.base.value.items core.log core.stamp core.octets world prepared _ c.self.invariant c.args.entry next in
    rw c.replace-prepared.ensures.after (stands_taken core.schema core.limits core.base.value.items core.log core.stamp core.octets world prepared _ c.self.invariant c.args.entry c.put_entry.new.log c.put_entry.new.base.value.items c.saturating_add-self-inside.result (world_in rows c.advance.new.tree c.advance.new.trial) can c.put_entry.ensures.items c.put_entry.ensures.room c.put_entry.ensures.base c.advance.ensures (search rules))
