-- The search for the place of a row.
use Rattle.std.proofs.Common.{◌≡◌, ℕ, ◌+◌, ◌<◌, ◌≤◌, List, length, get_or, ap, ◌∙◌, arith, inl, inr}
use Rattle.std.specs.declared.cmp.Ordering.{Ordering}
use Rattle.std.specs.declared.cmp.Ordering.TheVariants.{Less, Greater}
use Rattle.std.proofs.lemmas.Bool.{cases_lt}
use Rattle.std.proofs.lemmas.List.{get_or_default}
use Rattle.std.proofs.lemmas.Map.Keys.{Less-from_sorted}
use Rattle.base_kinds.specs.declared.operation.Row.{Row}
use Rattle.base_kinds.specs.Paths.{path_cmp}
use Rattle.base_kinds.specs.Rising.{row_cmp, IsRising}
use Rattle.history_laws.proofs.PathOrder.{path_total}
use Rattle.plain_tree.specs.inner.Places.{IsGap}

pub whole : (row : Row) (rows : List Row) → IsGap row rows 0 (length rows)
whole row rows = record { ordered = omega arith; inside = omega arith; below = λ place short. absurd (omega arith); above = λ short. absurd (omega arith) }

-- the row in the middle, whatever a read past the end would give
in_middle : (row here : Row) (rows : List Row) (middle : ℕ) (order : Ordering) → middle < length rows → path_cmp (get_or rows middle here).path row.path ≡ order → path_cmp (get_or rows middle row).path row.path ≡ order
in_middle row here rows middle order within is = ap (λ (r : Row). path_cmp r.path row.path) (get_or_default rows middle row here within) ∙ is

pub before_middle : (row here : Row) (rows : List Row) (low high middle : ℕ) → IsGap row rows low high → low ≤ middle → middle < high → path_cmp (get_or rows middle here).path row.path ≡ Greater → IsGap row rows low middle
before_middle row here rows low high middle gap from short is =
    let inside = gap.inside in
    record { ordered = from; inside = omega (arith, inside); below = gap.below; above = λ within. in_middle row here rows middle Greater within is }

pub behind_middle : (row here : Row) (rows : List Row) (low high middle : ℕ) → IsRising rows → IsGap row rows low high → low ≤ middle → middle < high → path_cmp (get_or rows middle here).path row.path ≡ Less → IsGap row rows (middle + 1) high
behind_middle row here rows low high middle rising gap from short less_here =
    let inside = gap.inside in
    let is = in_middle row here rows middle Less (omega (arith, short, inside)) less_here in
    record {
      ordered = omega (arith, short);
      inside = inside;
      below = λ place less.
          elim (cases_lt place middle) [
            | inl before ↦ path_total.trans (get_or rows place row).path (get_or rows middle row).path row.path (Less-from_sorted row_cmp rows place middle row rising before (omega (arith, short, inside))) is
            | inr here ↦ let e : place ≡ middle = omega (arith, here, less) in ap (λ k. path_cmp (get_or rows k row).path row.path) e ∙ is
          ];
      above = gap.above;
    }
