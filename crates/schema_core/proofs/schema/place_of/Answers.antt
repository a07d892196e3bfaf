use Rattle.std.proofs.Common.{◌≡◌, sym, subst, arith, List, ℕ}
use Rattle.std.specs.declared.cmp.Ordering.TheVariants.{Less, Greater}
use Rattle.schema_core.specs.inner.Index.{names_cmp}
use Rattle.schema_core.specs.inner.Wanted.{wanted_names}
use Rattle.schema_core.proofs.IndexLemmas.{before_middle, behind_middle}
use Rattle.schema_core.proofs.schema.place_of.Goals as goal

pub loop-low-preserved-in-Less : goal.loop-low-preserved-in-Less
loop-low-preserved-in-Less c =
    let P : List (List ℕ) → Type 0 = λ names. names_cmp (wanted_names c.args.wanted) names ≡ Less in
    let is = subst P c.names_in.ensures (sym c.in-Less.ensures) in
    let room = c.loop-low-test.true in
    before_middle _ _ _ _ c.loop-low.high _ c.requires c.loop-low.invariant (omega arith) (omega (arith, room)) is

pub loop-low-preserved : goal.loop-low-preserved
loop-low-preserved c =
    let P : List (List ℕ) → Type 0 = λ names. names_cmp (wanted_names c.args.wanted) names ≡ Greater in
    let is = subst P c.names_in.ensures (sym c.in-Greater.ensures) in
    let room = c.loop-low-test.true in
    behind_middle _ _ _ c.loop-low.low _ _ c.requires c.loop-low.invariant (omega arith) (omega (arith, room)) is
