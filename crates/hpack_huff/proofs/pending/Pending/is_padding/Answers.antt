use Rattle.std.proofs.Common.{sym, subst, arith, eq-eqb}
use Rattle.std.proofs.lemmas.Bool.{eqb-true, leb-true, le-leb}
use Rattle.hpack_huff.specs.Huffman.{IsPadding}
use Rattle.hpack_huff.proofs.PendingLemmas.{padding_from_ones, ones_from_padding, few_from_padding}
use Rattle.hpack_huff.proofs.pending.Pending.is_padding.Goals as goal

pub returns-then-self-le-PADDING : goal.returns-then-self-le-PADDING
returns-then-self-le-PADDING c =
    let p = c.self.inside in
    let inv = c.self.invariant in (
      λ h. subst IsPadding c.self.view_is (padding_from_ones p.value p.count (omega arith) (eqb-true _ _ h)),
      λ h. eq-eqb _ _ (ones_from_padding p.value p.count inv.1 (omega arith) (subst IsPadding (sym c.self.view_is) h)),
    )

pub returns-else-self-le-PADDING : goal.returns-else-self-le-PADDING
returns-else-self-le-PADDING c =
    let p = c.self.inside in (
      λ h. absurd (omega (arith, leb-true p.count 7 h)),
      λ h. le-leb p.count 7 (few_from_padding p.value p.count (subst IsPadding (sym c.self.view_is) h)),
    )
