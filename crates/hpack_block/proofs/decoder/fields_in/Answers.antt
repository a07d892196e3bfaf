use Rattle.std.proofs.Common.{◌≡◌, ℕ, true, false, eqb, List, [], ◌∷◌, length, sym, refl, arith}
use Rattle.std.proofs.lemmas.Bool.{eqb-true}
use Rattle.hpack_block.specs.declared.header.Ended.TheVariants.{Bad}
use Rattle.hpack_block.proofs.FieldLemmas.{err_as}
use Rattle.hpack_block.proofs.BlockLemmas.{Gathering-more, Gathering-end, Gathering-bad}
use Rattle.hpack_block.proofs.decoder.fields_in.Goals as goal

is_empty : (octets : List ℕ) → true ≡ eqb (length octets) 0 → octets ≡ []
is_empty [] e = refl
is_empty (b ∷ octets) e = absurd (omega (arith, eqb-true (length (b ∷ octets)) 0 (sym e)))

is_some : (octets : List ℕ) → false ≡ eqb (length octets) 0 → octets ≡ [] → ⊥
is_some [] e same = cc
is_some (b ∷ octets) e same = cc

pub returns-in-Err-clause-bad : goal.returns-in-Err-clause-bad
returns-in-Err-clause-bad c =
    λ bad.
    Gathering-bad c.args.table.now c.args.octets.now c.loop-rest.table c.loop-rest.rest.now c.loop-rest.list c.loop-rest.invariant
    (is_some c.loop-rest.rest.now c.loop-rest-test.ensures) (c.in-Err.ensures.bad (err_as c.in-Err.ended Bad bad))

pub loop-rest-preserved : goal.loop-rest-preserved
loop-rest-preserved c =
    Gathering-more c.args.table.now c.args.octets.now c.loop-rest.table c.loop-rest.rest.now c.field_in.new.table c.in-Ok.after.now c.loop-rest.list c.field_in.new.list
    c.loop-rest.invariant c.in-Ok.ensures.ok

pub returns-clause-ok : goal.returns-clause-ok
returns-clause-ok c =
    Gathering-end c.args.table.now c.args.octets.now c.loop-rest.table c.loop-rest.rest.now c.loop-rest.list c.loop-rest.invariant
    (is_empty c.loop-rest.rest.now c.loop-rest-test.ensures)
