-- The first run of rows, and those behind it.
use Rattle.std.proofs.Common.{◌≡◌, ℕ, suc, ◌+◌, ◌<◌, ◌≤◌, List, [], ◌∷◌, Bool, true, false, cond, length, take, drop, get_or, refl, ap, sym, ◌∙◌, arith}
use Rattle.base_kinds.specs.declared.operation.Row.{Row}
use Rattle.json_text.specs.Runs.{with_front, runs}
use Rattle.json_text.specs.inner.Splits.{run_length}

front_at : (same : Row → Row → Bool) (row next : Row) (rows : List Row) (is : Bool) → same row next ≡ is
    → runs same (next ∷ rows) ≡ (next ∷ take (run_length same next rows) rows) ∷ runs same (drop (run_length same next rows) rows)
    → with_front same row (runs same (next ∷ rows)) ≡ (row ∷ take (cond is (suc (run_length same next rows)) 0) (next ∷ rows)) ∷ runs same (drop (cond is (suc (run_length same next rows)) 0) (next ∷ rows))
front_at same row next rows true e later = rw later (rw e refl)
front_at same row next rows false e later = ap (with_front same row) later ∙ rw e (ap (λ others. (row ∷ []) ∷ others) (sym later))

runs_step : (same : Row → Row → Bool) (row : Row) (rows : List Row) → runs same (row ∷ rows) ≡ (row ∷ take (run_length same row rows) rows) ∷ runs same (drop (run_length same row rows) rows)
runs_step same row [] = refl
runs_step same row (next ∷ rows) = front_at same row next rows (same row next) refl (runs_step same next rows)

pub run_length_le : (same : Row → Row → Bool) (row : Row) (rows : List Row) → run_length same row rows ≤ length rows
run_length_le same row [] = omega arith
run_length_le same row (next ∷ rows) =
    let later = run_length_le same next rows in
    elim (same row next) as (λ is. cond is (suc (run_length same next rows)) 0 ≤ length (next ∷ rows)) [ true ↦ omega (arith, later) | false ↦ omega arith ]

pub first_run : (same : Row → Row → Bool) (rows : List Row) (other : Row) (count : ℕ) → 0 < length rows → count ≡ run_length same (get_or rows 0 other) (drop 1 rows) → runs same rows ≡ take (count + 1) rows ∷ runs same (drop (count + 1) rows)
first_run same [] other count some is = absurd (omega arith)
first_run same (row ∷ rows) other count some is =
    let one : count + 1 ≡ suc count = omega arith in
    rw (one, is) (runs_step same row rows)
