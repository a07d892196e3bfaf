use Rattle.std.proofs.Common.{◌++◌, ◌≤◌, ◌<◌, ap, length, ◌∙◌, arith}
use Rattle.hpack_huff.specs.Bits.{bits_of}
use Rattle.hpack_huff.proofs.BitsLemmas.{length-bits_of}
use Rattle.hpack_huff.proofs.PendingLemmas.{pushed_fits, pushed_bits}
use Rattle.hpack_huff.proofs.pending.Pending.push.Goals as goal

pub invariant_of-self : goal.invariant_of-self
invariant_of-self c =
    let p = c.self.inside in
    let inv = c.self.invariant in
    let long = length-bits_of p.count p.value in
    let few : p.count ≤ 32 = omega (arith, ap length c.self.view_is) in
    let octet : c.from.result < 256 = omega (arith, c.from.ensures) in
    (omega arith, pushed_fits p.value p.count c.from.result inv.1 few octet)

pub returns : goal.returns
returns c =
    let p = c.self.inside in
    let inv = c.self.invariant in
    let long = length-bits_of p.count p.value in
    let few : p.count ≤ 32 = omega (arith, ap length c.self.view_is) in
    let octet : c.from.result < 256 = omega (arith, c.from.ensures) in
    pushed_bits p.value p.count c.from.result inv.1 few octet
    ∙ ap (λ bs. bs ++ bits_of 8 c.from.result) c.self.view_is
    ∙ ap (λ o. c.args.self.now ++ bits_of 8 o) c.from.ensures
