use Rattle.std.proofs.Common.{arith, ap, ◌∙◌}
use Rattle.hpack_block.specs.Tables.{Table}
use Rattle.hpack_block.proofs.TableLemmas.{size_kept}
use Rattle.hpack_block.proofs.dynamic_table.DynamicTable.resize.Goals as goal

pub overflow_sub-self : goal.overflow_sub-self
overflow_sub-self c =
    let k = size_kept c.args.maximum c.self.inside.entries.items c.args.self.now.entries (ap (λ (t : Table). t.entries) (c.self.view_is ∙ c.evict.ensures)) in
    let i = c.self.invariant.0 in
    omega (arith, k, i)

pub invariant_of-self : goal.invariant_of-self
invariant_of-self c =
    let k = size_kept c.args.maximum c.self.inside.entries.items c.args.self.now.entries (ap (λ (t : Table). t.entries) (c.self.view_is ∙ c.evict.ensures)) in
    let i = c.self.invariant.0 in
    (omega (arith, k, i), c.requires)
