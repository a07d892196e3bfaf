-- The row of a leaf below an instance: its path compared in place, and its place among rising rows.
use Rattle.std.proofs.Common.{◌≡◌, ◌+◌, ◌<◌, ℕ, suc, List, [], ◌∷◌, length, get_or, refl, sym, ap, ◌∙◌, arith, Bool, true, false, true≢false, ◌&&◌, ◌||◌, Bor, Option, Some, None, is_some, unwrap_or, if◌then◌else◌, Err, inl, inr}
use Rattle.std.specs.declared.cmp.Ordering.{Ordering}
use Rattle.std.specs.declared.cmp.Ordering.TheVariants.{Less, Equal, Greater}
use Rattle.std.specs.List.{find, list_any, AllByRecursion}
use Rattle.std.specs.Option.{option_copied}
use Rattle.std.specs.Str.{bytes_eq}
use Rattle.std.specs.List.Sorted.{IsSortedBy, IsNonDecreasingBy, IsBinarySearchResult, IsPartitionPoint}
use Rattle.std.specs.Ordering.{nat_cmp, ordering_then, ordering_index, ordering_reverse, is_eq, is_lt}
use Rattle.std.specs.Cmp.Lexicographic.{slice_cmp}
use Rattle.std.proofs.lemmas.Bool.{cases_lt}
use Rattle.std.proofs.lemmas.Bool.Decides.{nat_tests}
use Rattle.std.proofs.lemmas.Cmp.{alike_right}
use Rattle.std.proofs.lemmas.List.Recursion.{found_at, found_nowhere}
use Rattle.std.proofs.lemmas.List.Sorted.{searchable_from_sorted}
use Rattle.std.proofs.lemmas.Map.Keys.{Less-from_sorted, sorted_head, sorted_tail}
use Rattle.base_kinds.specs.declared.path.Elem.{Elem}
use Rattle.base_kinds.specs.declared.operation.Row.{Row}
use Rattle.base_kinds.specs.Paths.{elem_cmp, path_cmp, same_path}
use Rattle.base_kinds.specs.Keys.{key_text}
use Rattle.base_kinds.specs.Valid.{has_key_leaf, has_row}
use Rattle.base_kinds.specs.Ancestors.{child}
use Rattle.base_kinds.specs.Rising.{row_cmp, IsRising}
use Rattle.history_laws.proofs.PathOrder.{path_total}

-- ---- in place

some_above_none : (n : ℕ) → Greater ≡ nat_cmp (suc n) 0
some_above_none n = grind (arith, nat_tests)

-- a list comes behind that without items where it has some
pub above_none : {K : Type 0} (cmp : K → K → Ordering) (items : List K) → slice_cmp cmp items [] ≡ nat_cmp (length items) 0
above_none cmp [] = refl
above_none cmp (item ∷ items) = some_above_none (length items)

-- below the root, the first element is compared with the leaf's, and nothing stands behind that
pub leaf_of_root : (path others instance : List Elem) (elem : Elem) (name : List ℕ) → path ≡ elem ∷ others → length instance ≡ 0 → ordering_then (elem_cmp elem (record { name = name; keys = [] })) (nat_cmp (length others) 0) ≡ path_cmp path (child instance name)
leaf_of_root path others [] elem name is root =
    ap (ordering_then (elem_cmp elem (record { name = name; keys = [] }))) (sym (above_none elem_cmp others)) ∙ ap (λ p. path_cmp p (child [] name)) (sym is)
leaf_of_root path others (first ∷ rest) elem name is root = absurd (omega arith)

-- ---- among rising rows

module _ (rows : List Row) (target : List Elem) (rising : IsRising rows) where
  has_target : Row → Bool
  has_target row = same_path row.path target

  rows_sorted : IsSortedBy (λ a b. is_lt (path_cmp a.path b.path)) rows
  rows_sorted k d from less =
      let up : path_cmp (get_or rows k d).path (get_or rows (k + 1) d).path ≡ Less = Less-from_sorted row_cmp rows k (k + 1) d rising (omega arith) less in
      ap is_lt (path_total.antisymm (get_or rows (k + 1) d).path (get_or rows k d).path ∙ ap ordering_reverse up)

  comparisons_rise : IsNonDecreasingBy (λ row. ordering_index (path_cmp row.path target)) rows
  comparisons_rise = searchable_from_sorted path_total (λ (row : Row). row.path) rows target rows_sorted

  -- where the search ends at a row, that is the only one
  pub found_there : (place : ℕ) (row : Row) → place < length rows → row ≡ get_or rows place row → path_cmp (get_or rows place row).path target ≡ Equal → Some row ≡ find (λ row. same_path row.path target) rows
  found_there place row less is equal = sym (found_at (find (λ (row : Row). same_path row.path target)) (λ (row : Row). same_path row.path target) Some None refl (λ x xs. refl) rows place row less before (ap is_eq equal) ∙ ap Some (sym is))
    where
      before : (k : ℕ) → k < place → same_path (get_or rows k row).path target ≡ false
      before k short =
          let up : path_cmp (get_or rows k row).path (get_or rows place row).path ≡ Less = Less-from_sorted row_cmp rows k place row rising short less in
          ap is_eq (sym (alike_right path_total (get_or rows place row).path target (get_or rows k row).path equal) ∙ up)

  apart : (d : Row) (gap : ℕ) → IsPartitionPoint (λ (row : Row). path_cmp row.path target ≡ Less) (λ (row : Row). path_cmp row.path target ≡ Greater) rows gap → (k : ℕ) → k < length rows → same_path (get_or rows k d).path target ≡ false
  apart d gap parted k less =
      elim (cases_lt k gap) [
        | inl below ↦ ap is_eq (parted.0 k d (omega arith) below)
        | inr above ↦ ap is_eq (parted.1 k d above less)
      ]

-- where it ends at a gap, there is none
pub found_nowhere_else : (rows : List Row) (target : List Elem) (rising : IsRising rows) (gap : ℕ) → IsBinarySearchResult (λ row. path_cmp row.path target) rows (Err gap) → None ≡ find (λ row. same_path row.path target) rows
found_nowhere_else [] target rising gap parted = refl
found_nowhere_else (row ∷ rows) target rising gap parted =
    let all = row ∷ rows in
    sym (found_nowhere (find (λ (row : Row). same_path row.path target)) (λ (row : Row). same_path row.path target) Some None refl (λ x xs. refl) all row (apart all target rising row gap (parted (comparisons_rise all target rising))))

-- ---- tests of the row that has a path

-- rows behind one that has the path don't have it
none_behind : (test : Row → Bool) (first : Row) (target : List Elem) (rows : List Row) → path_cmp first.path target ≡ Equal → AllByRecursion (λ row. row_cmp first row ≡ Less) rows → list_any (λ row. same_path row.path target && test row) rows ≡ false
none_behind test first target [] equal behind = refl
none_behind test first target (row ∷ rows) equal behind =
    let back : path_cmp row.path first.path ≡ Greater = path_total.antisymm row.path first.path ∙ ap ordering_reverse behind.0 in
    let other : same_path row.path target ≡ false = ap is_eq (sym (alike_right path_total first.path target row.path equal) ∙ back) in
    ap (λ b. (b && test row) || list_any (λ r. same_path r.path target && test r) rows) other ∙ none_behind test first target rows equal behind.1

equal_from_test : (order : Ordering) → is_eq order ≡ true → order ≡ Equal
equal_from_test Less is = absurd (true≢false (sym is))
equal_from_test Equal is = refl
equal_from_test Greater is = absurd (true≢false (sym is))

or_false : (b : Bool) → (b || false) ≡ b
or_false true = refl
or_false false = refl

-- some row has the path and passes where the one row with the path does
only_there : (test : Row → Bool) (rows : List Row) (target : List Elem) (row : Row) → IsRising rows → Some row ≡ find (λ row. same_path row.path target) rows → list_any (λ row. same_path row.path target && test row) rows ≡ test row
only_there test [] target row rising found = absurd (true≢false (ap is_some found))
only_there test (first ∷ rows) target row rising found = by (same_path first.path target) refl (only_there test rows target row (sorted_tail row_cmp first rows rising))
  where
    by : (here : Bool) → same_path first.path target ≡ here → (Some row ≡ find (λ row. same_path row.path target) rows → list_any (λ row. same_path row.path target && test row) rows ≡ test row) → list_any (λ row. same_path row.path target && test row) (first ∷ rows) ≡ test row
    by true is behind =
        let same : row ≡ first = ap (λ o. unwrap_or o first) (found ∙ ap (λ b. if b then Some first else find (λ (row : Row). same_path row.path target) rows) is) in
        let none : list_any (λ row. same_path row.path target && test row) rows ≡ false = none_behind test first target rows (equal_from_test (path_cmp first.path target) is) (sorted_head row_cmp first rows rising) in
        ap (λ b. (b && test first) || list_any (λ row. same_path row.path target && test row) rows) is ∙ ap (λ b. test first || b) none ∙ or_false (test first) ∙ ap test (sym same)
    by false is behind =
        ap (λ b. (b && test first) || list_any (λ row. same_path row.path target && test row) rows) is
        ∙ behind (found ∙ ap (λ b. if b then Some first else find (λ (row : Row). same_path row.path target) rows) is)

-- and none where no row has the path
nowhere : (test : Row → Bool) (rows : List Row) (target : List Elem) → None ≡ find (λ row. same_path row.path target) rows → list_any (λ row. same_path row.path target && test row) rows ≡ false
nowhere test [] target none = refl
nowhere test (first ∷ rows) target none = by (same_path first.path target) refl (nowhere test rows target)
  where
    by : (here : Bool) → same_path first.path target ≡ here → (None ≡ find (λ row. same_path row.path target) rows → list_any (λ row. same_path row.path target && test row) rows ≡ false) → list_any (λ row. same_path row.path target && test row) (first ∷ rows) ≡ false
    by true is behind = absurd (true≢false (sym (ap is_some (none ∙ ap (λ b. if b then Some first else find (λ (row : Row). same_path row.path target) rows) is))))
    by false is behind =
        ap (λ b. (b && test first) || list_any (λ row. same_path row.path target && test row) rows) is
        ∙ behind (none ∙ ap (λ b. if b then Some first else find (λ (row : Row). same_path row.path target) rows) is)

-- a key has its leaf where the row with the leaf's path has the key's text
pub key_leaf_there : (rows : List Row) (instance : List Elem) (key : List ℕ × List ℕ) (name : List ℕ) (row : Row) → IsRising rows → name ≡ key.0 → Some row ≡ find (λ row. same_path row.path (child instance name)) rows → has_key_leaf rows instance key ≡ bytes_eq (key_text row.value) key.1
key_leaf_there rows instance key name row rising named found =
    only_there (λ (row : Row). bytes_eq (key_text row.value) key.1) rows (child instance key.0) row rising (found ∙ ap (λ n. find (λ (row : Row). same_path row.path (child instance n)) rows) named)

pub key_leaf_nowhere : (rows : List Row) (instance : List Elem) (key : List ℕ × List ℕ) (name : List ℕ) → name ≡ key.0 → None ≡ find (λ row. same_path row.path (child instance name)) rows → false ≡ has_key_leaf rows instance key
key_leaf_nowhere rows instance key name named none =
    sym (nowhere (λ (row : Row). bytes_eq (key_text row.value) key.1) rows (child instance key.0) (none ∙ ap (λ n. find (λ (row : Row). same_path row.path (child instance n)) rows) named))

-- some row has the path where one is found
pub has_found : (rows : List Row) (path : List Elem) → is_some (find (λ row. same_path row.path path) rows) ≡ has_row rows path
has_found [] path = refl
has_found (row ∷ rows) path = by (same_path row.path path) (has_found rows path)
  where
    by : (here : Bool) → is_some (find (λ row. same_path row.path path) rows) ≡ has_row rows path → is_some (if here then Some row else find (λ (row : Row). same_path row.path path) rows) ≡ (here || has_row rows path)
    by true behind = refl
    by false behind = behind

pub copied_some : (o : Option (Bor Row)) → is_some o ≡ is_some (option_copied o)
copied_some None = refl
copied_some (Some row) = refl
