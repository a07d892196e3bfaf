use Rattle.std.proofs.Common.{FitsSigned, w64, rules, ◌-◌, ◌^◌, ◌≤◌, length, refl, sym, subst, ◌∙◌, arith}
use Rattle.std.proofs.lemmas.Bool.{eqb-true}
use Rattle.std.proofs.lemmas.Int.{to_z-of_z}
use Rattle.value_core.proofs.Parts.{uncut, means, meaningless, no_whole, no_behind, no_zeros, no_sign, whole_number, read_so, decimal_from, some_from}
use Rattle.value_core.proofs.Outcomes.{none_from}
use Rattle.value_core.proofs.Powers.{zeros_value}
use Rattle.value_core.proofs.decimals.decimal_in.Goals as goal
use Rattle.value_core.proofs.decimals.decimal_in.Goals.{then-is_empty-via-then-is_empty, then-is_empty-via-else-is_empty+then-parts-places}

pub returns-in_err-parts-clause-none : goal.returns-in_err-parts-clause-none
returns-in_err-parts-clause-none c = none_from _ _ (uncut c.args.places c.args.octets.now c.in_err-parts.ensures.none)

pub returns-then-is_empty-clause-none : goal.returns-then-is_empty-clause-none
returns-then-is_empty-clause-none c digits d =
    let parts = c.in_ok-parts.parts in
    let m = means c.args.places c.args.octets.now parts.negative parts.whole.now parts.behind.now digits c.in_ok-parts.ensures.some d in
    elim c.then-is_empty.branch [
      | then-is_empty-via-then-is_empty w ↦ let none = eqb-true (length parts.whole.now) 0 (sym c.is_empty.ensures ∙ w.if-is_empty.true) in omega (arith, none, m.some)
      | then-is_empty-via-else-is_empty+then-parts-places w ↦ omega (arith, m.few)
    ]

pub returns-in_err-whole-clause-none : goal.returns-in_err-whole-clause-none
returns-in_err-whole-clause-none c =
    let parts = c.in_ok-parts.parts in
    none_from _ _ (meaningless c.args.places c.args.octets.now parts.negative parts.whole.now parts.behind.now c.in_ok-parts.ensures.some
    (no_whole c.args.places parts.negative parts.whole.now parts.behind.now c.in_err-whole.ensures.none))

pub returns-in_err-behind-clause-none : goal.returns-in_err-behind-clause-none
returns-in_err-behind-clause-none c =
    let parts = c.in_ok-parts.parts in
    none_from _ _ (meaningless c.args.places c.args.octets.now parts.negative parts.whole.now parts.behind.now c.in_ok-parts.ensures.some
    (no_behind c.args.places parts.negative parts.whole.now parts.behind.now c.in_ok-whole.whole c.in_ok-whole.ensures.some c.in_err-behind.ensures.none))

pub returns-in_err-number-clause-none : goal.returns-in_err-number-clause-none
returns-in_err-number-clause-none c =
    let parts = c.in_ok-parts.parts in
    none_from _ _ (meaningless c.args.places c.args.octets.now parts.negative parts.whole.now parts.behind.now c.in_ok-parts.ensures.some
    (no_zeros c.args.places (c.args.places - length parts.behind.now) parts.negative parts.whole.now parts.behind.now c.in_ok-whole.whole c.in_ok-behind.behind refl c.in_ok-whole.ensures.some c.in_ok-behind.ensures.some (subst (λ v. 2 ^ 64 ≤ v) (sym (zeros_value c.in_ok-behind.behind (c.args.places - length parts.behind.now))) c.in_err-number.ensures.none)))

pub returns-in_err-digits-clause-none : goal.returns-in_err-digits-clause-none
returns-in_err-digits-clause-none c =
    let parts = c.in_ok-parts.parts in
    let number = whole_number c.args.places (c.args.places - length parts.behind.now) parts.whole.now parts.behind.now c.in_ok-whole.whole c.in_ok-behind.behind c.in_ok-number.number refl c.in_ok-whole.ensures.some c.in_ok-behind.ensures.some (c.in_ok-number.ensures.some ∙ sym (zeros_value c.in_ok-behind.behind (c.args.places - length parts.behind.now))) in
    none_from _ _ (meaningless c.args.places c.args.octets.now parts.negative parts.whole.now parts.behind.now c.in_ok-parts.ensures.some
    (no_sign c.args.places parts.negative parts.whole.now parts.behind.now c.in_ok-number.number number c.in_err-digits.ensures.none))

pub returns-clause-some : goal.returns-clause-some
returns-clause-some c =
    let parts = c.in_ok-parts.parts in
    let number = whole_number c.args.places (c.args.places - length parts.behind.now) parts.whole.now parts.behind.now c.in_ok-whole.whole c.in_ok-behind.behind c.in_ok-number.number refl c.in_ok-whole.ensures.some c.in_ok-behind.ensures.some (c.in_ok-number.ensures.some ∙ sym (zeros_value c.in_ok-behind.behind (c.args.places - length parts.behind.now))) in
    let fits : FitsSigned w64 c.in_ok-digits.digits = search rules in
    simp to_z-of_z (decimal_from c.args.places c.args.octets.now parts.negative parts.whole.now parts.behind.now c.in_ok-digits.digits c.in_ok-parts.ensures.some
    (read_so c.args.places parts.negative parts.whole.now parts.behind.now c.in_ok-number.number c.in_ok-digits.digits
    (some_from parts.whole.now (sym c.is_empty.ensures ∙ c.if-is_empty.false)) (omega arith) c.in_ok-whole.ensures.digits c.in_ok-behind.ensures.digits number c.in_ok-digits.ensures.some c.in_ok-digits.ensures.held))
