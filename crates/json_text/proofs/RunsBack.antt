-- Runs of rows: none is left out, the rows of each share their key, and rows in order give runs in order.
use Rattle.std.proofs.Common.{◌≡◌, List, [], ◌∷◌, ◌++◌, Bool, true, false, cond, Ordering, Less, refl, sym, ap, subst, ◌∙◌}
use Rattle.std.specs.List.{AllByRecursion}
use Rattle.std.specs.Cmp.{IsTotalOrder}
use Rattle.std.specs.List.Sorted.{IsStrictlySortedBy}
use Rattle.base_kinds.specs.declared.operation.Row.{Row}
use Rattle.base_kinds.specs.Rising.{row_cmp, IsRising}
use Rattle.json_text.specs.Runs.{with_front, runs}

abbrev pub whole : List (List Row) → List Row
whole [] = []
whole (run ∷ others) = run ++ whole others

whole_front : (same : Row → Row → Bool) (row : Row) (gs : List (List Row)) → whole (with_front same row gs) ≡ row ∷ whole gs
whole_front same row [] = refl
whole_front same row ([] ∷ gs) = refl
whole_front same row ((next ∷ run) ∷ gs) =
    elim (same row next) as (λ t. whole (cond t ((row ∷ next ∷ run) ∷ gs) ((row ∷ []) ∷ (next ∷ run) ∷ gs)) ≡ row ∷ ((next ∷ run) ++ whole gs)) [ true ↦ refl | false ↦ refl ]

pub whole_runs : (same : Row → Row → Bool) (rows : List Row) → whole (runs same rows) ≡ rows
whole_runs same [] = refl
whole_runs same (row ∷ rows) = whole_front same row (runs same rows) ∙ ap (λ rs. row ∷ rs) (whole_runs same rows)

-- what holds of each row holds of each row of each run
abbrev pub AllInRuns : (Row → Type 0) → List (List Row) → Type 0
AllInRuns P gs = AllByRecursion (AllByRecursion P) gs

front_all : (P : Row → Type 0) (same : Row → Row → Bool) (row : Row) (gs : List (List Row)) → P row → AllInRuns P gs → AllInRuns P (with_front same row gs)
front_all P same row [] p all = ((p, tt), tt)
front_all P same row ([] ∷ gs) p all = ((p, tt), all.1)
front_all P same row ((next ∷ run) ∷ gs) p all =
    elim (same row next) as (λ t. AllInRuns P (cond t ((row ∷ next ∷ run) ∷ gs) ((row ∷ []) ∷ (next ∷ run) ∷ gs))) [ true ↦ ((p, all.0), all.1) | false ↦ ((p, tt), all) ]

pub all_in_runs : (P : Row → Type 0) (same : Row → Row → Bool) (rows : List Row) → AllByRecursion P rows → AllInRuns P (runs same rows)
all_in_runs P same [] all = tt
all_in_runs P same (row ∷ rows) all = front_all P same row (runs same rows) all.0 (all_in_runs P same rows all.1)

-- ---- the key that the rows of a run share

module _ {K : Type 0} (key : Row → K) where
  -- some row is there, and each other one has its key
  abbrev pub IsRun : List Row → Type 0
  IsRun [] = ⊥
  IsRun (row ∷ rows) = AllByRecursion (λ other. key other ≡ key row) rows

  abbrev pub KeysAgree : (Row → Row → Bool) → List Row → Type 0
  KeysAgree same [] = Unit {0}
  KeysAgree same (row ∷ rows) = AllByRecursion (λ other. same row other ≡ true → key row ≡ key other) rows × KeysAgree same rows

  longer : (row next : Row) (run : List Row) → key row ≡ key next → AllByRecursion (λ other. key other ≡ key next) run → AllByRecursion (λ other. key other ≡ key row) run
  longer row next [] e all = tt
  longer row next (other ∷ run) e all = (all.0 ∙ sym e, longer row next run e all.1)

  front_at : (same : Row → Row → Bool) (row next : Row) (run : List Row) (gs : List (List Row)) (is : Bool) → same row next ≡ is → (same row next ≡ true → key row ≡ key next) → AllByRecursion IsRun ((next ∷ run) ∷ gs)
      → AllByRecursion IsRun (cond is ((row ∷ next ∷ run) ∷ gs) ((row ∷ []) ∷ (next ∷ run) ∷ gs))
  front_at same row next run gs true e agree all = let k = agree e in ((sym k, longer row next run k all.0), all.1)
  front_at same row next run gs false e agree all = (tt, all)

  front_runs : (same : Row → Row → Bool) (row : Row) (gs : List (List Row)) → AllInRuns (λ other. same row other ≡ true → key row ≡ key other) gs → AllByRecursion IsRun gs → AllByRecursion IsRun (with_front same row gs)
  front_runs same row [] agree all = (tt, tt)
  front_runs same row ([] ∷ gs) agree all = absurd all.0
  front_runs same row ((next ∷ run) ∷ gs) agree all = front_at same row next run gs (same row next) refl agree.0.0 all

  pub are_runs : (same : Row → Row → Bool) (rows : List Row) → KeysAgree same rows → AllByRecursion IsRun (runs same rows)
  are_runs same [] agree = tt
  are_runs same (row ∷ rows) agree = front_runs same row (runs same rows) (all_in_runs _ same rows agree.0) (are_runs same rows agree.1)

  -- ---- rows in order

  module _ (cmp : K → K → Ordering) (total : IsTotalOrder cmp) where
    -- the key of the first row is below that of the other run's first row
    abbrev pub Below : K → List Row → Type 0
    Below k [] = ⊥
    Below k (row ∷ rows) = cmp k (key row) ≡ Less

    abbrev pub RunsRise : List (List Row) → Type 0
    RunsRise [] = Unit {0}
    RunsRise ([] ∷ gs) = ⊥
    RunsRise ((row ∷ run) ∷ gs) = AllByRecursion (Below (key row)) gs × RunsRise gs

    -- rows that differ have keys in order
    abbrev pub Rise : (Row → Row → Bool) → List Row → Type 0
    Rise same [] = Unit {0}
    Rise same (row ∷ rows) = AllByRecursion (λ other. same row other ≡ false → cmp (key row) (key other) ≡ Less) rows × Rise same rows

    below_more : (k l : K) (gs : List (List Row)) → cmp k l ≡ Less → AllByRecursion (Below l) gs → AllByRecursion (Below k) gs
    below_more k l [] less all = tt
    below_more k l ([] ∷ gs) less all = absurd all.0
    below_more k l ((row ∷ run) ∷ gs) less all = (total.trans k l (key row) less all.0, below_more k l gs less all.1)

    rise_at : (same : Row → Row → Bool) (row next : Row) (run : List Row) (gs : List (List Row)) (is : Bool) → same row next ≡ is → (same row next ≡ true → key row ≡ key next) → (same row next ≡ false → cmp (key row) (key next) ≡ Less) → RunsRise ((next ∷ run) ∷ gs)
        → RunsRise (cond is ((row ∷ next ∷ run) ∷ gs) ((row ∷ []) ∷ (next ∷ run) ∷ gs))
    rise_at same row next run gs true e agree less rise = (subst (λ (k : K). AllByRecursion (Below k) gs) (sym (agree e)) rise.0, rise.1)
    rise_at same row next run gs false e agree less rise = let l = less e in ((l, below_more (key row) (key next) gs l rise.0), rise)

    rise_front : (same : Row → Row → Bool) (row : Row) (gs : List (List Row)) → AllInRuns (λ other. same row other ≡ true → key row ≡ key other) gs → AllInRuns (λ other. same row other ≡ false → cmp (key row) (key other) ≡ Less) gs → AllByRecursion IsRun gs → RunsRise gs → RunsRise (with_front same row gs)
    rise_front same row [] agree less all rise = (tt, tt)
    rise_front same row ([] ∷ gs) agree less all rise = absurd all.0
    rise_front same row ((next ∷ run) ∷ gs) agree less all rise = rise_at same row next run gs (same row next) refl agree.0.0 less.0.0 rise

    pub runs_rise : (same : Row → Row → Bool) (rows : List Row) → KeysAgree same rows → Rise same rows → RunsRise (runs same rows)
    runs_rise same [] agree rise = tt
    runs_rise same (row ∷ rows) agree rise =
        rise_front same row (runs same rows) (all_in_runs _ same rows agree.0) (all_in_runs _ same rows rise.0) (are_runs same rows agree.1) (runs_rise same rows agree.1 rise.1)

-- ---- the rows of a run rise too

front_rising : (same : Row → Row → Bool) (row : Row) (gs : List (List Row)) → AllInRuns (λ other. row_cmp row other ≡ Less) gs → AllByRecursion IsRising gs → AllByRecursion IsRising (with_front same row gs)
unfolding IsStrictlySortedBy
front_rising same row [] above all = ((tt, tt), tt)
front_rising same row ([] ∷ gs) above all = ((tt, tt), all.1)
front_rising same row ((next ∷ run) ∷ gs) above all =
    elim (same row next) as (λ t. AllByRecursion IsRising (cond t ((row ∷ next ∷ run) ∷ gs) ((row ∷ []) ∷ (next ∷ run) ∷ gs))) [ true ↦ ((above.0, all.0), all.1) | false ↦ ((tt, tt), all) ]

pub all_rising : (same : Row → Row → Bool) (rows : List Row) → IsRising rows → AllByRecursion IsRising (runs same rows)
unfolding IsStrictlySortedBy
all_rising same [] rise = tt
all_rising same (row ∷ rows) rise = front_rising same row (runs same rows) (all_in_runs _ same rows rise.0) (all_rising same rows rise.1)
