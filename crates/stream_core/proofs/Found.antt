-- The search for a path among rows.
use Rattle.std.proofs.Common.{◌≡◌, ℕ, zero, suc, ◌+◌, ◌<◌, ◌≤◌, List, [], ◌∷◌, length, get_or, refl, sym, ap, ◌∙◌, arith, inl, inr, Some, None, if◌then◌else◌}
use Rattle.std.specs.List.Sorted.{IsStrictlySortedBy}
use Rattle.std.specs.Ordering.{is_eq}
use Rattle.std.specs.declared.cmp.Ordering.{Ordering}
use Rattle.std.specs.declared.cmp.Ordering.TheVariants.{Less, Equal, Greater}
use Rattle.std.proofs.lemmas.Bool.{cases_lt}
use Rattle.std.proofs.lemmas.List.{get_or_default}
use Rattle.std.proofs.lemmas.Map.Keys.{Less-from_sorted}
use Rattle.base_kinds.specs.declared.path.Elem.{Elem}
use Rattle.base_kinds.specs.declared.operation.Row.{Row}
use Rattle.base_kinds.specs.Paths.{path_cmp}
use Rattle.base_kinds.specs.Rising.{row_cmp, IsRising, value_at}
use Rattle.history_laws.proofs.PathOrder.{path_total, exact_paths}
use Rattle.history_laws.proofs.Setting.{above_more, turned}
use Rattle.history_laws.proofs.Values.{none_above}
use Rattle.stream_core.specs.inner.Gaps.{IsBetween}

pub whole : (path : List Elem) (rows : List Row) → IsBetween path rows 0 (length rows)
whole path rows = record { ordered = omega arith; inside = omega arith; below = λ row place short. absurd (omega arith); above = λ row short. absurd (omega arith) }

other_here : (row here : Row) (path : List Elem) (rows : List Row) (middle : ℕ) (order : Ordering) → middle < length rows → path_cmp (get_or rows middle here).path path ≡ order → path_cmp (get_or rows middle row).path path ≡ order
other_here row here path rows middle order within is = ap (λ (r : Row). path_cmp r.path path) (get_or_default rows middle row here within) ∙ is

pub before_middle : (path : List Elem) (here : Row) (rows : List Row) (low high middle : ℕ) → IsBetween path rows low high → low ≤ middle → middle < high → path_cmp (get_or rows middle here).path path ≡ Greater → IsBetween path rows low middle
before_middle path here rows low high middle gap from short is =
    let inside = gap.inside in
    record { ordered = from; inside = omega (arith, inside); below = gap.below; above = λ row within. other_here row here path rows middle Greater within is }

pub behind_middle : (path : List Elem) (here : Row) (rows : List Row) (low high middle : ℕ) → IsRising rows → IsBetween path rows low high → low ≤ middle → middle < high → path_cmp (get_or rows middle here).path path ≡ Less → IsBetween path rows (middle + 1) high
behind_middle path here rows low high middle rising gap from short less_here =
    let inside = gap.inside in
    record {
      ordered = omega (arith, short);
      inside = inside;
      below = λ row place less.
          let is = other_here row here path rows middle Less (omega (arith, short, inside)) less_here in
          elim (cases_lt place middle) [
            | inl before ↦ path_total.trans (get_or rows place row).path (get_or rows middle row).path path (Less-from_sorted row_cmp rows place middle row rising before (omega (arith, short, inside))) is
            | inr here ↦ let e : place ≡ middle = omega (arith, here, less) in ap (λ k. path_cmp (get_or rows k row).path path) e ∙ is
          ];
      above = gap.above;
    }

-- what is found
pub found_there : (path : List Elem) (here : Row) (rows : List Row) (place : ℕ) → IsRising rows → place < length rows → path_cmp (get_or rows place here).path path ≡ Equal → Some (get_or rows place here).value ≡ value_at path rows
unfolding IsStrictlySortedBy
found_there path here [] place rising within is = absurd (omega arith)
found_there path here (row ∷ rows) zero rising within is = sym (ap (λ o. if is_eq o then Some row.value else value_at path rows) is)
found_there path here (row ∷ rows) (suc place) rising within is =
    let behind : Some (get_or rows place here).value ≡ value_at path rows = found_there path here rows place rising.1 (omega arith) is in
    let same : (get_or rows place here).path ≡ path = exact_paths (get_or rows place here).path path is in
    let below : path_cmp row.path path ≡ Less = ap (path_cmp row.path) (sym same) ∙ Less-from_sorted row_cmp (row ∷ rows) 0 (suc place) here rising (omega arith) within in
    behind ∙ sym (ap (λ o. if is_eq o then Some row.value else value_at path rows) below)

-- and what isn't there
nothing_there : (path : List Elem) (rows : List Row) (place : ℕ) → IsRising rows → ((row : Row) (k : ℕ) → k < place → path_cmp (get_or rows k row).path path ≡ Less) → ((row : Row) → place < length rows → path_cmp (get_or rows place row).path path ≡ Greater) → None ≡ value_at path rows
unfolding IsStrictlySortedBy
nothing_there path [] place rising below above = refl
nothing_there path (row ∷ rows) zero rising below above =
    let over : path_cmp path row.path ≡ Less = turned row.path path (above row (omega arith)) in
    sym (none_above path (row ∷ rows) (over, above_more path row.path rows over rising.0))
nothing_there path (row ∷ rows) (suc place) rising below above =
    let under : path_cmp row.path path ≡ Less = below row 0 (omega arith) in
    nothing_there path rows place rising.1 (λ r k short. below r (suc k) (omega arith)) (λ r within. above r (omega arith))
    ∙ sym (ap (λ o. if is_eq o then Some row.value else value_at path rows) under)

pub nothing_between : (path : List Elem) (rows : List Row) (place : ℕ) → IsRising rows → IsBetween path rows place place → None ≡ value_at path rows
nothing_between path rows place rising gap = nothing_there path rows place rising gap.below gap.above
