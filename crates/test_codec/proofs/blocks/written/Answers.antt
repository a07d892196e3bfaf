use Rattle.std.proofs.Common.{arith, ap, length}
use Rattle.hpack_block.proofs.WrittenLemmas.{IsShort-one}
use Rattle.test_codec.proofs.blocks.written.Goals as goal

pub encode_block-requires : goal.encode_block-requires
encode_block-requires c =
    let n = ap length c.in_ok-name.ensures in
    let v = ap length c.in_ok-value.ensures in
    IsShort-one c.push.new.self c.empty-headers.result (record { name = c.in_ok-name.name; value = c.in_ok-value.value }) c.empty-headers.ensures c.in_ok-push.ensures.ok
    (record { name = omega (arith, n, c.requires.name); value = omega (arith, v, c.requires.value) })
