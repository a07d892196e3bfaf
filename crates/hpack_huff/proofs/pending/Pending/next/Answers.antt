use Rattle.std.proofs.Common.{◌≡◌, ◌<◌, ◌-◌, sym, subst, refl, ◌∙◌, arith}
use Rattle.hpack_huff.specs.inner.Window.{IsFirst}
use Rattle.hpack_huff.specs.inner.Taken.{IsUnfinished}
use Rattle.hpack_huff.proofs.PendingLemmas.{window_is, window_fits, unfinished, masked_fits, taken_bits}
use Rattle.hpack_huff.proofs.pending.Pending.next.Goals as goal
use Rattle.hpack_huff.proofs.pending.Pending.next.Goals.{then-found-eq-END_MARK, else-found-eq-END_MARK}

pub find-found-requires : goal.find-found-requires
find-found-requires c =
    let p = c.self.inside in
    let inv = c.self.invariant in
    rw (window_is p.value p.count inv.1 inv.0) (window_fits p.value p.count inv.1 inv.0)

pub returns-then-found-self : goal.returns-then-found-self
returns-then-found-self c =
    let p = c.self.inside in
    let inv = c.self.invariant in
    let first = subst (λ w. IsFirst w c.find-found.result.symbol c.find-found.result.length) (window_is p.value p.count inv.1 inv.0) c.find-found.ensures in
    (refl, subst IsUnfinished c.self.view_is (unfinished p.value p.count c.find-found.result.symbol c.find-found.result.length inv.0 first (omega arith)))

pub invariant_of-self : goal.invariant_of-self
invariant_of-self c =
    let p = c.self.inside in
    let inv = c.self.invariant in
    (omega arith, masked_fits p.value (p.count - c.find-found.result.length) (omega arith))

pub returns : goal.returns
returns c =
    let p = c.self.inside in
    let inv = c.self.invariant in
    let found = c.find-found.result in
    let first = subst (λ w. IsFirst w found.symbol found.length) (window_is p.value p.count inv.1 inv.0) c.find-found.ensures in
    let known = first.is_symbol in
    let taken = sym c.self.view_is ∙ taken_bits p.value p.count found.symbol found.length inv.0 first (omega arith) in
    elim c.if-found-eq-END_MARK.branch [
      | then-found-eq-END_MARK w ↦
          let is_mark : found.symbol ≡ 256 = omega arith in
          rw w.result-is (rw is_mark at taken)
      | else-found-eq-END_MARK w ↦
          let is_octet : found.symbol < 256 = omega arith in
          rw w.result-is (is_octet, taken)
    ]
