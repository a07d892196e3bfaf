use Rattle.std.proofs.Common.{◌≡◌, arith, ap, sym, ◌∙◌, length}
use Rattle.hpack_block.specs.StaticTable.{pair}
use Rattle.hpack_block.specs.Tables.{Table}
use Rattle.hpack_block.proofs.TableLemmas.{size_kept, size_more, room_is}
use Rattle.hpack_block.proofs.dynamic_table.DynamicTable.add.Goals as goal

pub overflow_sub-self : goal.overflow_sub-self
overflow_sub-self c =
    let b = room_is c.self.inside.maximum (pair c.items.result.now c.items-2.result.now) c.in-Some.room c.in-Some.ensures in
    let view = c.self-2.view_is ∙ c.evict.ensures in
    let m : c.self-2.inside.maximum ≡ c.self.inside.maximum = ap (λ (t : Table). t.maximum) view ∙ sym (ap (λ (t : Table). t.maximum) c.self.view_is) in
    let k = size_kept c.in-Some.room c.self-2.inside.entries.items c.args.self.now.entries (ap (λ (t : Table). t.entries) view) in
    let i = c.self-2.invariant.0 in
    omega (arith, b, m, k, i)

pub invariant_of-self-2 : goal.invariant_of-self-2
invariant_of-self-2 c =
    let b = room_is c.self.inside.maximum (pair c.items.result.now c.items-2.result.now) c.in-Some.room c.in-Some.ensures in
    let n = ap length c.items.ensures in
    let v = ap length c.items-2.ensures in
    let view = c.self-2.view_is ∙ c.evict.ensures in
    let m : c.self-2.inside.maximum ≡ c.self.inside.maximum = ap (λ (t : Table). t.maximum) view ∙ sym (ap (λ (t : Table). t.maximum) c.self.view_is) in
    let k = size_kept c.in-Some.room c.self-2.inside.entries.items c.args.self.now.entries (ap (λ (t : Table). t.entries) view) in
    let i = c.self-2.invariant.0 in
    let w = size_more (pair c.args.header.name c.args.header.value) c.self-2.inside.entries.items c.push_front.new.self.items c.in_ok-push_front.ensures.items in
    (omega (arith, b, n, v, m, k, i, w), c.self-2.invariant.1)
