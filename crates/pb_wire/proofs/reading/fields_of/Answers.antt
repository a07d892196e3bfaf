use Rattle.std.proofs.Common.{◌≡◌, ℕ, true, false, eqb, List, [], ◌∷◌, length, sym, subst, refl, arith}
use Rattle.std.proofs.lemmas.Bool.{eqb-true}
use Rattle.pb_wire.specs.declared.field.Field.{Field}
use Rattle.pb_wire.proofs.MessageLemmas.{SoFar, SoFar-none, SoFar-more, SoFar-found, SoFar-only, SoFar-bad, IsMessage-within}
use Rattle.pb_wire.proofs.reading.fields_of.Goals as goal

is_empty : (octets : List ℕ) → true ≡ eqb (length octets) 0 → octets ≡ []
is_empty [] e = refl
is_empty (b ∷ octets) e = absurd (omega (arith, eqb-true (length (b ∷ octets)) 0 (sym e)))

is_some : (octets : List ℕ) → false ≡ eqb (length octets) 0 → octets ≡ [] → ⊥
is_some [] e same = cc
is_some (b ∷ octets) e same = cc

pub loop-rest-init : goal.loop-rest-init
loop-rest-init c = subst (λ (fs : List Field). SoFar c.args.octets.now fs c.args.octets.now) (sym c.empty-fields.ensures) (SoFar-none c.args.octets.now)

pub returns-in_default-clause-bad : goal.returns-in_default-clause-bad
returns-in_default-clause-bad c =
    λ _. SoFar-bad c.args.octets.now c.loop-rest.fields c.loop-rest.rest.now c.loop-rest.invariant (is_some c.loop-rest.rest.now c.loop-rest-test.ensures) (sym c.in_default.ensures.value)

pub loop-rest-preserved : goal.loop-rest-preserved
loop-rest-preserved c =
    subst (λ (fs : List Field). SoFar c.args.octets.now fs c.in-Some.after.now) (sym c.in_ok-push.ensures.ok)
    (SoFar-more c.args.octets.now c.loop-rest.fields c.loop-rest.rest.now c.in-Some.field c.in-Some.after.now c.loop-rest.invariant (sym c.in-Some.ensures.value))

pub returns-clause-found : goal.returns-clause-found
returns-clause-found c = SoFar-found c.args.octets.now c.loop-rest.fields c.loop-rest.rest.now c.loop-rest.invariant (is_empty c.loop-rest.rest.now c.loop-rest-test.ensures)

pub returns-clause-only : goal.returns-clause-only
returns-clause-only c = SoFar-only c.args.octets.now c.loop-rest.fields c.loop-rest.rest.now c.loop-rest.invariant (is_empty c.loop-rest.rest.now c.loop-rest-test.ensures)

pub returns-clause-within : goal.returns-clause-within
returns-clause-within c = IsMessage-within c.args.octets.now c.loop-rest.fields (returns-clause-found c)
