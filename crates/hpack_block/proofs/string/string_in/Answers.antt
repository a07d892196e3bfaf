use Rattle.std.proofs.Common.{refl, subst, sym, ℕ}
use Rattle.std.proofs.lemmas.Result.{err_from_is_err_and}
use Rattle.hpack_block.specs.declared.header.Ended.TheVariants.{Bad}
use Rattle.hpack_block.specs.Strings.{IsCoded}
use Rattle.hpack_block.proofs.FieldLemmas.{err_as, string_of_content}
use Rattle.hpack_block.proofs.string.string_in.Goals as goal

pub returns-in_default-clause-bad : goal.returns-in_default-clause-bad
returns-in_default-clause-bad c = λ _ text rest is. c.in_default.ensures.none refl is.content rest is.is_content

pub returns-in_err-text-clause-bad : goal.returns-in_err-text-clause-bad
returns-in_err-text-clause-bad c =
    let p = err_from_is_err_and c.from_residual.result c.from_residual.ensures.1 in
    rw (p.1, p.2) (λ bad text rest is.
    c.in_err-text.ensures.bad (err_as c.in_err-text.field-0.0 Bad bad) text
    (subst (λ (first : ℕ). IsCoded first c.in-Some.content.now text) (sym c.first_octet.ensures)
    (string_of_content c.args.octets.now c.in-Some.content.now text c.in-Some.rest.now rest c.in-Some.ensures.some is)))
