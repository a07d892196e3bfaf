use Rattle.std.proofs.Common.{Err, ap, arith, inl, inr}
use Rattle.hpack_block.proofs.string.text_of.Goals as goal

pub returns-in-Err-BadCode-clause-bad : goal.returns-in-Err-BadCode-clause-bad
returns-in-Err-BadCode-clause-bad c =
    λ _ text is. elim is [ inl p ↦ absurd (omega (arith, p.0)) | inr q ↦ c.in-Err-BadCode.ensures.bad (ap Err c.in-Err-BadCode.field-0-is) text q.1 ]
