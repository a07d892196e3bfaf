-- Rows that rise are the tree that the same rows make in any order.
use Rattle.std.proofs.Common.{◌≡◌, List, [], ◌∷◌, Bool, true, false, true≢false, cond, refl, sym, ap, ◌∙◌, subst, arith, ◌+◌, get_or, Option, Some, None, ◌⊎◌, inl, inr, ⊎_elim, IsTrue}
use Rattle.std.specs.List.{All, AllByRecursion, IsDistinct}
use Rattle.std.specs.List.Sorted.{IsStrictlySortedBy, IsPermutation, IsSortedByKey}
use Rattle.std.specs.Ordering.{is_eq, is_lt}
use Rattle.std.specs.declared.cmp.Ordering.TheVariants.{Less, Equal, Greater}
use Rattle.std.specs.declared.cmp.Ordering.{Ordering}
use Rattle.std.specs.Cmp.{IsTotalOrder}
use Rattle.std.proofs.lemmas.Cmp.{on_total}
use Rattle.std.proofs.lemmas.Bool.Decides.{same_from_decides}
use Rattle.std.proofs.lemmas.Bool.{cond-true, cond-false}
use Rattle.std.proofs.lemmas.List.Elements.{All-cons, All-tail, All-nil}
use Rattle.std.proofs.lemmas.List.Sorted.{All-permutation, IsPermutation-sym, IsPermutation-refl}
use Rattle.std.proofs.lemmas.Map.Keys.{sorted_head, sorted_tail, sorted_from_all_adjacent, apart_from_distinct, IsDistinct-IsPermutation}
use Rattle.base_kinds.specs.declared.path.Elem.{Elem}
use Rattle.base_kinds.specs.declared.operation.Row.{Row}
use Rattle.base_kinds.specs.declared.value.Value.{Value}
use Rattle.base_kinds.specs.Paths.{path_cmp, same_path}
use Rattle.base_kinds.specs.Tree.{set_rows}
use Rattle.base_lists.specs.Rising.{rises}
use Rattle.base_kinds.specs.Rising.{IsRising, value_at, last_value, row_cmp}
use Rattle.history_laws.proofs.Values.{paths_equal, own_path, value_at_sets, values_decide}
use Rattle.history_laws.proofs.Setting.{rising_sets, test_says_rising, turned}
use Rattle.history_laws.proofs.PathOrder.{path_total}

-- a row with the path has this value there
abbrev Gives : List Elem → Option Value → Row → Type 0
Gives path there row = same_path row.path path ≡ true → there ≡ Some row.value

abbrev Misses : List Elem → Row → Type 0
Misses path row = same_path row.path path ≡ false

to_each : (P : Row → Type 0) (rows : List Row) → All P rows → AllByRecursion P rows
to_each P [] all = tt
to_each P (row ∷ rows) all = (all 0 row (omega arith), to_each P rows (All-tail P row rows all))

from_each : (P : Row → Type 0) (rows : List Row) → AllByRecursion P rows → All P rows
from_each P [] each = All-nil P
from_each P (row ∷ rows) each = All-cons P row rows each.0 (from_each P rows each.1)

not_both : (x y path : List Elem) → path_cmp x y ≡ Less → same_path x path ≡ true → same_path y path ≡ true → ⊥
not_both x y path less a b =
    let same : x ≡ y = paths_equal x path a ∙ sym (paths_equal y path b) in
    let less_self : path_cmp y y ≡ Less = subst (λ z. path_cmp z y ≡ Less) same less in
    true≢false (sym (own_path y) ∙ ap is_eq less_self)

-- a row before those that it is below doesn't change what they give
hidden : (x y path : List Elem) (first : Value) (there : Option Value) (value : Option Value) (test : Bool) → same_path x path ≡ test → path_cmp x y ≡ Less → same_path y path ≡ true → there ≡ value → cond test (Some first) there ≡ value
hidden x y path first there value true is less own same = absurd (not_both x y path less is own)
hidden x y path first there value false is less own same = same

shifted : (path : List Elem) (first : Row) (there : Option Value) (rows : List Row) → AllByRecursion (λ row. row_cmp first row ≡ Less) rows → AllByRecursion (Gives path there) rows → AllByRecursion (Gives path (cond (same_path first.path path) (Some first.value) there)) rows
shifted path first there [] above each = tt
shifted path first there (row ∷ rows) above each = (λ own. hidden first.path row.path path first.value there (Some row.value) (same_path first.path path) refl above.0 own (each.0 own), shifted path first there rows above.1 each.1)

-- each row of a tree has the value at its path
each_gives : (path : List Elem) (rows : List Row) → IsRising rows → AllByRecursion (Gives path (value_at path rows)) rows
each_gives path [] rising = tt
each_gives path (row ∷ rows) rising = (λ own. cond-true (same_path row.path path) (Some row.value) (value_at path rows) own, shifted path row (value_at path rows) rows (sorted_head row_cmp row rows rising) (each_gives path rows (sorted_tail row_cmp row rows rising)))

-- no row has the path
none_there : (path : List Elem) (rows : List Row) → AllByRecursion (Misses path) rows → value_at path rows ≡ None
none_there path [] each = refl
none_there path (row ∷ rows) each = cond-false (same_path row.path path) (Some row.value) (value_at path rows) each.0 ∙ none_there path rows each.1

Last : List Elem → Option Value → List Row → Option Value → Type 0
Last path there rows old = (last_value path rows old ≡ there) ⊎ ((last_value path rows old ≡ old) × AllByRecursion (Misses path) rows)

last_more : (path : List Elem) (there : Option Value) (row : Row) (rows : List Row) (old : Option Value) (test : Bool) → same_path row.path path ≡ test → (test ≡ true → there ≡ Some row.value) → Last path there rows (cond test (Some row.value) old) → (last_value path rows (cond test (Some row.value) old) ≡ there) ⊎ ((last_value path rows (cond test (Some row.value) old) ≡ old) × AllByRecursion (Misses path) (row ∷ rows))
unfolding Last
last_more path there row rows old true is gives rest = ⊎_elim (λ found. inl found) (λ missed. inl (missed.0 ∙ sym (gives refl))) rest
last_more path there row rows old false is gives rest = ⊎_elim (λ found. inl found) (λ missed. inr (missed.0, (is, missed.1))) rest

-- the last row with the path gives the value there, or no row has it
last_gives : (path : List Elem) (there : Option Value) (rows : List Row) (old : Option Value) → AllByRecursion (Gives path there) rows → Last path there rows old
unfolding Last
last_gives path there [] old each = inr (refl, tt)
last_gives path there (row ∷ rows) old each = last_more path there row rows old (same_path row.path path) refl each.0 (last_gives path there rows (cond (same_path row.path path) (Some row.value) old) each.1)

same_values : (path : List Elem) (rows_of_walk rows : List Row) → IsPermutation rows_of_walk rows → IsRising rows → last_value path rows_of_walk None ≡ value_at path rows
unfolding Last
same_values path rows_of_walk rows moved rising =
    let there = value_at path rows in
    let back = IsPermutation-sym rows_of_walk rows moved in
    let each = to_each (Gives path there) rows_of_walk (All-permutation (Gives path there) rows rows_of_walk back (from_each (Gives path there) rows (each_gives path rows rising))) in
    ⊎_elim
    (λ found. found)
    (λ missed. missed.0 ∙ sym (none_there path rows (to_each (Misses path) rows (All-permutation (Misses path) rows_of_walk rows moved (from_each (Misses path) rows_of_walk missed.1)))))
    (last_gives path there rows_of_walk None each)

pub no_rows : IsRising []
unfolding IsStrictlySortedBy
no_rows = tt

-- rows that rise are the tree that the same rows make in any order
pub tree_of_rows : (rows_of_walk rows : List Row) → IsPermutation rows_of_walk rows → IsRising rows → set_rows rows_of_walk [] ≡ rows
tree_of_rows rows_of_walk rows moved rising =
    values_decide (set_rows rows_of_walk []) rows (rising_sets rows_of_walk [] no_rows) rising (λ path. value_at_sets path rows_of_walk [] ∙ same_values path rows_of_walk rows moved rising)

pub tree_of_tested : (rows_of_walk rows : List Row) → IsPermutation rows_of_walk rows → IsTrue (rises row_cmp rows) → set_rows rows_of_walk [] ≡ rows
tree_of_tested rows_of_walk rows moved tested = tree_of_rows rows_of_walk rows moved ((test_says_rising rows).0 tested)

pub tree_of_itself : (rows : List Row) → IsTrue (rises row_cmp rows) → set_rows rows [] ≡ rows
tree_of_itself rows tested = tree_of_tested rows rows (IsPermutation-refl rows) tested

abbrev pub same_path_rows : Row → Row → Bool
same_path_rows a b = same_path a.path b.path

path_turns : (a b : List Elem) → same_path a b ≡ same_path b a
path_turns a b = same_from_decides (same_path a b) (same_path b a) (paths_equal a b, λ same. own_at a b same) (λ is. sym (paths_equal b a is), λ same. own_at b a (sym same))
  where
    own_at : (a b : List Elem) → a ≡ b → same_path a b ≡ true
    own_at a b same = subst (λ z. same_path a z ≡ true) same (own_path a)

less_from : (x y : List Elem) (order : Ordering) → path_cmp x y ≡ order → same_path x y ≡ false → is_lt (path_cmp y x) ≡ false → path_cmp x y ≡ Less
less_from x y Less is apart up = is
less_from x y Equal is apart up = absurd (true≢false (sym (ap is_eq is) ∙ apart))
less_from x y Greater is apart up = absurd (true≢false (sym (ap is_lt (turned x y is)) ∙ up))

row_total : IsTotalOrder row_cmp
row_total = on_total (λ (row : Row). row.path) path_total

rises_from : (rows : List Row) → IsDistinct same_path_rows rows → IsSortedByKey (λ (row : Row). row.path) path_cmp rows → IsRising rows
rises_from [] distinct sorted = no_rows
rises_from (row ∷ rows) distinct sorted =
    let all = row ∷ rows in
    sorted_from_all_adjacent row_total all row (λ k within. less_from (get_or all k row).path (get_or all (k + 1) row).path (path_cmp (get_or all k row).path (get_or all (k + 1) row).path) refl (apart_from_distinct same_path_rows all k (k + 1) row distinct (omega arith) within) (sorted k row (omega arith) within))

-- rows with paths of their own rise once they are sorted
pub sorted_rise : (rows_of_walk rows : List Row) → IsDistinct same_path_rows rows_of_walk → IsPermutation rows_of_walk rows → IsSortedByKey (λ (row : Row). row.path) path_cmp rows → IsTrue (rises row_cmp rows)
sorted_rise rows_of_walk rows distinct moved sorted =
    (test_says_rising rows).1 (rises_from rows (IsDistinct-IsPermutation same_path_rows (λ a b. path_turns a.path b.path) rows_of_walk rows moved distinct) sorted)

pub tree_of_sorted : (rows_of_walk rows : List Row) → IsDistinct same_path_rows rows_of_walk → IsPermutation rows_of_walk rows → IsSortedByKey (λ (row : Row). row.path) path_cmp rows → rows ≡ set_rows rows_of_walk []
tree_of_sorted rows_of_walk rows distinct moved sorted = sym (tree_of_tested rows_of_walk rows moved (sorted_rise rows_of_walk rows distinct moved sorted))
