-- Setting a row at the place where it belongs.
use Rattle.std.proofs.Common.{◌≡◌, ℕ, zero, suc, ◌+◌, ◌<◌, ◌≤◌, List, [], ◌∷◌, ◌++◌, length, take, drop, get_or, set, refl, sym, ap, ◌∙◌, arith, add-one, inl, inr}
use Rattle.std.specs.List.{insert}
use Rattle.std.specs.List.Sorted.{IsStrictlySortedBy}
use Rattle.std.specs.declared.cmp.Ordering.{Ordering}
use Rattle.std.specs.declared.cmp.Ordering.TheVariants.{Less, Equal, Greater}
use Rattle.std.proofs.lemmas.Bool.{cases_lt}
use Rattle.std.proofs.lemmas.List.{set_split, drop_more, drop_all}
use Rattle.std.proofs.lemmas.Map.Keys.{Less-from_sorted}
use Rattle.base_kinds.specs.declared.operation.Row.{Row}
use Rattle.base_kinds.specs.Paths.{path_cmp}
use Rattle.base_kinds.specs.Tree.{set_row, placed}
use Rattle.base_kinds.specs.Rising.{row_cmp, IsRising}
use Rattle.history_laws.proofs.PathOrder.{exact_paths}
use Rattle.history_laws.proofs.Setting.{rising_set}
use Rattle.plain_tree.specs.inner.Places.{IsGap}

-- setting a row in a list of which the first is this one
by_order : (row first : Row) (others : List Row) (order : Ordering) → path_cmp first.path row.path ≡ order → set_row row (first ∷ others) ≡ placed order row first others (set_row row others)
by_order row first others order is = ap (λ o. placed o row first others (set_row row others)) is

-- the rows below it stay in front
front_stays : (row : Row) (rows : List Row) (i : ℕ) → i ≤ length rows → ((k : ℕ) → k < i → path_cmp (get_or rows k row).path row.path ≡ Less) → set_row row rows ≡ take i rows ++ set_row row (drop i rows)
front_stays row rows zero within below = refl
front_stays row [] (suc i) within below = absurd (omega arith)
front_stays row (first ∷ others) (suc i) within below =
    let less : path_cmp first.path row.path ≡ Less = below 0 (omega arith) in
    let behind = front_stays row others i (omega arith) (λ k short. below (suc k) (omega arith)) in
    by_order row first others Less less ∙ ap (λ rest. first ∷ rest) behind

-- what is left from place i on begins with the row there
from_place : (rows : List Row) (i : ℕ) (row : Row) → i < length rows → drop i rows ≡ get_or rows i row ∷ drop (i + 1) rows
from_place rows i row within = drop_more rows i row within

pub set_there : (row : Row) (rows : List Row) (i : ℕ) → IsRising rows → i < length rows → path_cmp (get_or rows i row).path row.path ≡ Equal → set rows i row ≡ set_row row rows
set_there row rows i rising within equal =
    let here = get_or rows i row in
    let same = exact_paths here.path row.path equal in
    let front = front_stays row rows i (omega arith) (λ k short. ap (λ path. path_cmp (get_or rows k row).path path) (sym same) ∙ Less-from_sorted row_cmp rows k i row rising short within) in
    let placing : set_row row (drop i rows) ≡ row ∷ drop (i + 1) rows = ap (set_row row) (from_place rows i row within) ∙ by_order row here (drop (i + 1) rows) Equal equal in
    let split : set rows i row ≡ take i rows ++ row ∷ drop (i + 1) rows = rw add-one (set_split rows i row within) in
    split ∙ ap (λ rest. take i rows ++ rest) (sym placing) ∙ sym front

-- in front of what is left, where that is above it or nothing
in_front : (row : Row) (rows : List Row) (i : ℕ) → (i < length rows → path_cmp (get_or rows i row).path row.path ≡ Greater) → set_row row (drop i rows) ≡ row ∷ drop i rows
in_front row rows i above =
    elim (cases_lt i (length rows)) [
      | inl within ↦
          let whole = from_place rows i row within in
          ap (set_row row) whole ∙ by_order row (get_or rows i row) (drop (i + 1) rows) Greater (above within) ∙ ap (λ rest. row ∷ rest) (sym whole)
      | inr past ↦ let nothing : drop i rows ≡ [] = drop_all i rows past in ap (set_row row) nothing ∙ ap (λ rest. row ∷ rest) (sym nothing)
    ]

pub set_in_gap : (row : Row) (rows : List Row) (i : ℕ) → IsGap row rows i i → insert rows i row ≡ set_row row rows
set_in_gap row rows i gap = ap (λ rest. take i rows ++ rest) (sym (in_front row rows i gap.above)) ∙ sym (front_stays row rows i gap.inside gap.below)

-- and the rows still rise
pub rising_there : (row : Row) (rows : List Row) (i : ℕ) → IsRising rows → i < length rows → path_cmp (get_or rows i row).path row.path ≡ Equal → IsRising (set rows i row)
rising_there row rows i rising within equal = rw (set_there row rows i rising within equal) (rising_set row rows rising)

pub rising_in_gap : (row : Row) (rows : List Row) (i : ℕ) → IsRising rows → IsGap row rows i i → IsRising (insert rows i row)
rising_in_gap row rows i rising gap = rw (set_in_gap row rows i gap) (rising_set row rows rising)

pub rising_nothing : (rows : List Row) → rows ≡ [] → IsRising rows
unfolding IsStrictlySortedBy
rising_nothing [] is = tt
rising_nothing (row ∷ rows) is = absurd (cc is)
