-- Setting a row, and keeping some of the rows, leaves the rows rising.
use Rattle.std.proofs.Common.{◌≡◌, ◌↔◌, List, [], ◌∷◌, refl, sym, ap, ◌∙◌, subst, true, true≢false, IsTrue, not}
use Rattle.std.proofs.lemmas.Bool.{and_parts, and_from}
use Rattle.std.specs.List.{AllByRecursion}
use Rattle.std.specs.List.Sorted.{IsStrictlySortedBy}
use Rattle.std.specs.Ordering.{is_lt, ordering_reverse}
use Rattle.std.specs.declared.cmp.Ordering.{Ordering}
use Rattle.std.specs.declared.cmp.Ordering.TheVariants.{Less, Equal, Greater}
use Rattle.std.proofs.lemmas.List.Kept.{IsStrictlySortedBy-filter}
use Rattle.base_kinds.specs.declared.path.Elem.{Elem}
use Rattle.base_kinds.specs.declared.operation.Row.{Row}
use Rattle.base_kinds.specs.Paths.{path_cmp}
use Rattle.base_kinds.specs.Tree.{set_row, set_rows, placed, uncovered}
use Rattle.base_kinds.specs.Match.{covers}
use Rattle.base_lists.specs.Rising.{rises}
use Rattle.base_kinds.specs.Rising.{row_cmp, IsRising}
use Rattle.history_laws.proofs.PathOrder.{path_total, exact_paths}

-- all rows are above the path
abbrev pub AllAbove : List Elem → List Row → Type 0
AllAbove path = AllByRecursion (λ (row : Row). path_cmp path row.path ≡ Less)

pub above_more : (p q : List Elem) (rows : List Row) → path_cmp p q ≡ Less → AllAbove q rows → AllAbove p rows
above_more p q [] below above = tt
above_more p q (row ∷ rows) below above = (path_total.trans p q row.path below above.0, above_more p q rows below above.1)

above_placed : (p : List Elem) (order : Ordering) (row first : Row) (others set : List Row) → path_cmp p row.path ≡ Less → path_cmp p first.path ≡ Less → AllAbove p others → AllAbove p set → AllAbove p (placed order row first others set)
above_placed p Less row first others set below front above after_set = (front, after_set)
above_placed p Equal row first others set below front above after_set = (below, above)
above_placed p Greater row first others set below front above after_set = (below, (front, above))

above_set : (p : List Elem) (row : Row) (rows : List Row) → path_cmp p row.path ≡ Less → AllAbove p rows → AllAbove p (set_row row rows)
above_set p row [] below above = (below, tt)
above_set p row (first ∷ others) below above = above_placed p (path_cmp first.path row.path) row first others (set_row row others) below above.0 above.1 (above_set p row others below above.1)

pub turned : (a b : List Elem) → path_cmp a b ≡ Greater → path_cmp b a ≡ Less
turned a b greater = path_total.antisymm b a ∙ ap ordering_reverse greater

pub rising_set : (row : Row) (tree : List Row) → IsRising tree → IsRising (set_row row tree)
unfolding IsStrictlySortedBy
rising_set row [] rising = (tt, tt)
rising_set row (first ∷ others) rising = by_order (path_cmp first.path row.path) refl (rising_set row others rising.1)
  where
    by_order : (order : Ordering) → path_cmp first.path row.path ≡ order → IsRising (set_row row others) → IsRising (placed order row first others (set_row row others))
    by_order Less is set = (above_set first.path row others is rising.0, set)
    by_order Equal is set = (subst (λ p. AllAbove p others) (exact_paths first.path row.path is) rising.0, rising.1)
    by_order Greater is set =
        let below = turned first.path row.path is in
        ((below, above_more row.path first.path others below rising.0), rising)

pub rising_sets : (rows tree : List Row) → IsRising tree → IsRising (set_rows rows tree)
rising_sets [] tree rising = rising
rising_sets (row ∷ rows) tree rising = rising_sets rows (set_row row tree) (rising_set row tree rising)

pub rising_uncovered : (pattern : List Elem) (tree : List Row) → IsRising tree → IsRising (uncovered pattern tree)
rising_uncovered pattern tree rising = IsStrictlySortedBy-filter row_cmp (λ row. not (covers pattern row.path)) tree rising

-- ---- the test of neighbours

less_from_test : (order : Ordering) → is_lt order ≡ true → order ≡ Less
less_from_test Less is = refl
less_from_test Equal is = absurd (true≢false (sym is))
less_from_test Greater is = absurd (true≢false (sym is))

rising_from_test : (rows : List Row) → rises row_cmp rows ≡ true → IsRising rows
unfolding IsStrictlySortedBy
rising_from_test [] is = tt
rising_from_test (row ∷ []) is = (tt, tt)
rising_from_test (row ∷ other ∷ others) is =
    let both = and_parts (is_lt (row_cmp row other)) (rises row_cmp (other ∷ others)) is in
    let below : path_cmp row.path other.path ≡ Less = less_from_test (row_cmp row other) both.0 in
    let behind : IsRising (other ∷ others) = rising_from_test (other ∷ others) both.1 in
    ((below, above_more row.path other.path others below behind.0), behind)

test_from_rising : (rows : List Row) → IsRising rows → rises row_cmp rows ≡ true
unfolding IsStrictlySortedBy
test_from_rising [] rising = refl
test_from_rising (row ∷ []) rising = refl
test_from_rising (row ∷ other ∷ others) rising = and_from (is_lt (row_cmp row other)) (rises row_cmp (other ∷ others)) (ap is_lt rising.0.0) (test_from_rising (other ∷ others) rising.1)

pub test_says_rising : (rows : List Row) → IsTrue (rises row_cmp rows) ↔ IsRising rows
test_says_rising rows = (rising_from_test rows, test_from_rising rows)
