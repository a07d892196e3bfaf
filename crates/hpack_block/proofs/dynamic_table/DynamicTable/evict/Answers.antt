use Rattle.std.proofs.Common.{arith, ◌∙◌, ◌≡◌, ◌+◌}
use Rattle.hpack_block.specs.Tables.{size_of}
use Rattle.hpack_block.proofs.TableLemmas.{evicted_one, evicted_all}
use Rattle.hpack_block.proofs.dynamic_table.DynamicTable.evict.Goals as goal

pub loop-self-preserved : goal.loop-self-preserved
loop-self-preserved c =
    let i = c.loop-self.invariant in
    let size : c.len.result + c.len-in-loop-self.result + 32 ≡ size_of c.in-Some.oldest = omega (arith, c.len.ensures, c.len-in-loop-self.ensures) in
    let e = evicted_one c.args.most c.loop-self.self-inside.entries.items c.pop_back.new.self.items c.in-Some.oldest c.loop-self.self-inside.room c.loop-self.self-inside.maximum
    c.in-Some.ensures.items i.size c.loop-self-test.true in
    record { same = e.same ∙ i.same; size = omega (arith, e.size, size); maximum = i.maximum; bounded = i.bounded }

pub returns : goal.returns
returns c =
    let i = c.loop-self.invariant in
    evicted_all c.args.most c.loop-self.self-inside.entries.items c.args.self.now.entries c.loop-self.self-inside.room c.loop-self.self-inside.maximum c.args.self.now.maximum
    i.same i.size c.loop-self-test.false i.maximum
