-- The value at a path after a row is set, or rows are taken out.
use Rattle.std.proofs.Common.{◌≡◌, List, [], ◌∷◌, refl, sym, ap, ◌∙◌, subst, Bool, true, false, true≢false, Option, Some, None, filter, not, is_some, if◌then◌else◌}
use Rattle.std.specs.List.Sorted.{IsStrictlySortedBy}
use Rattle.std.specs.Ordering.{is_eq, ordering_reverse}
use Rattle.std.specs.declared.cmp.Ordering.{Ordering}
use Rattle.std.specs.declared.cmp.Ordering.TheVariants.{Less, Equal, Greater}
use Rattle.std.proofs.lemmas.Cmp.{tied_itself, alike_right}
use Rattle.base_kinds.specs.declared.path.Elem.{Elem}
use Rattle.base_kinds.specs.declared.value.Value.{Value}
use Rattle.base_kinds.specs.declared.operation.Row.{Row}
use Rattle.base_kinds.specs.Paths.{path_cmp, same_path}
use Rattle.base_kinds.specs.declared.operation.Op.{Op}
use Rattle.base_kinds.specs.declared.operation.Act.{Act}
use Rattle.base_kinds.specs.declared.operation.Act.TheVariants.{Delete, Replace, Update}
use Rattle.base_kinds.specs.Tree.{set_row, set_rows, placed, uncovered, act_effect, op_effect, in_turn, with_act, effect}
use Rattle.base_kinds.specs.Match.{covers}
use Rattle.base_kinds.specs.Rising.{IsRising, value_at, last_value, value_after, values_after}
use Rattle.history_laws.proofs.PathOrder.{path_total, exact_paths}
use Rattle.history_laws.proofs.Setting.{AllAbove, above_more, turned}

equal_from_test : (order : Ordering) → is_eq order ≡ true → order ≡ Equal
equal_from_test Less is = absurd (true≢false (sym is))
equal_from_test Equal is = refl
equal_from_test Greater is = absurd (true≢false (sym is))

-- what the test calls equal is
pub paths_equal : (a b : List Elem) → same_path a b ≡ true → a ≡ b
paths_equal a b is = exact_paths a b (equal_from_test (path_cmp a b) is)

-- a path is itself
pub own_path : (path : List Elem) → same_path path path ≡ true
own_path path = ap is_eq (tied_itself path_total path)

pub other_path : (a b : List Elem) → (a ≡ b → ⊥) → same_path a b ≡ false
other_path a b different = by_test (same_path a b) refl
  where
    by_test : (test : Bool) → same_path a b ≡ test → test ≡ false
    by_test true is = absurd (different (paths_equal a b is))
    by_test false is = refl

-- one path isn't that of two rows of which one is below the other
not_both : (x y path : List Elem) → path_cmp x y ≡ Less → same_path x path ≡ true → same_path y path ≡ true → ⊥
not_both x y path less a b =
    let same : path_cmp x y ≡ path_cmp x path = alike_right path_total y path x (equal_from_test (path_cmp y path) b) in
    true≢false (sym (ap is_eq (sym less ∙ same) ∙ a))

swapped : (f r : Bool) (a b c : Option Value) → (f ≡ true → r ≡ true → ⊥) → (if f then a else (if r then b else c)) ≡ (if r then b else (if f then a else c))
swapped true true a b c never = absurd (never refl refl)
swapped true false a b c never = refl
swapped false true a b c never = refl
swapped false false a b c never = refl

hidden : (f r : Bool) (a b c : Option Value) → f ≡ r → (if r then b else c) ≡ (if r then b else (if f then a else c))
hidden true true a b c same = refl
hidden true false a b c same = absurd (true≢false same)
hidden false true a b c same = absurd (true≢false (sym same))
hidden false false a b c same = refl

value_at_placed : (path : List Elem) (row first : Row) (others set : List Row) (order : Ordering) → path_cmp first.path row.path ≡ order → value_at path set ≡ (if same_path row.path path then Some row.value else value_at path others) → value_at path (placed order row first others set) ≡ (if same_path row.path path then Some row.value else value_at path (first ∷ others))
value_at_placed path row first others set Less is rest =
    ap (λ v. if same_path first.path path then Some first.value else v) rest ∙ swapped (same_path first.path path) (same_path row.path path) (Some first.value) (Some row.value) (value_at path others) (not_both first.path row.path path is)
value_at_placed path row first others set Equal is rest = hidden (same_path first.path path) (same_path row.path path) (Some first.value) (Some row.value) (value_at path others) (ap is_eq (path_total.congr first.path row.path path is))
value_at_placed path row first others set Greater is rest = refl

-- the new row's value at its path, and at every other path what was there
pub value_at_set : (path : List Elem) (row : Row) (tree : List Row) → value_at path (set_row row tree) ≡ (if same_path row.path path then Some row.value else value_at path tree)
value_at_set path row [] = refl
value_at_set path row (first ∷ others) = value_at_placed path row first others (set_row row others) (path_cmp first.path row.path) refl (value_at_set path row others)

pub sets_value : (row : Row) (tree : List Row) → value_at row.path (set_row row tree) ≡ Some row.value
sets_value row tree = value_at_set row.path row tree ∙ ap (λ test. if test then Some row.value else value_at row.path tree) (own_path row.path)

pub keeps_other_values : (path : List Elem) (row : Row) (tree : List Row) → (row.path ≡ path → ⊥) → value_at path (set_row row tree) ≡ value_at path tree
keeps_other_values path row tree different = value_at_set path row tree ∙ ap (λ test. if test then Some row.value else value_at path tree) (other_path row.path path different)

pub value_at_sets : (path : List Elem) (rows tree : List Row) → value_at path (set_rows rows tree) ≡ last_value path rows (value_at path tree)
value_at_sets path [] tree = refl
value_at_sets path (row ∷ rows) tree = value_at_sets path rows (set_row row tree) ∙ ap (last_value path rows) (value_at_set path row tree)

-- the step of a filter by path, by whether the row has the path, and whether the path stays
filter_one : (here stays kept : Bool) (row : Row) (rest rows : List Row) (path : List Elem) → (here ≡ true → kept ≡ stays) → same_path row.path path ≡ here → value_at path rest ≡ (if stays then value_at path rows else None) → value_at path (if kept then row ∷ rest else rest) ≡ (if stays then (if here then Some row.value else value_at path rows) else None)
filter_one true true kept row rest rows path same is further = rw (same refl, is) refl
filter_one true false kept row rest rows path same is further = rw (same refl) further
filter_one false true true row rest rows path same is further = rw (is, further) refl
filter_one false true false row rest rows path same is further = further
filter_one false false true row rest rows path same is further = rw (is, further) refl
filter_one false false false row rest rows path same is further = further

pub value_at_filter : (keep : List Elem → Bool) (path : List Elem) (rows : List Row) → value_at path (filter (λ (row : Row). keep row.path) rows) ≡ (if keep path then value_at path rows else None)
value_at_filter keep path [] = by_test (keep path)
  where
    by_test : (stays : Bool) → value_at path [] ≡ (if stays then value_at path [] else None)
    by_test true = refl
    by_test false = refl
value_at_filter keep path (row ∷ rows) =
    filter_one (same_path row.path path) (keep path) (keep row.path) row (filter (λ (r : Row). keep r.path) rows) rows path (λ is. ap keep (paths_equal row.path path is)) refl (value_at_filter keep path rows)

negated : (test : Bool) (a b : Option Value) → (if not test then a else b) ≡ (if test then b else a)
negated true a b = refl
negated false a b = refl

pub deletes_values : (pattern path : List Elem) (tree : List Row) → value_at path (uncovered pattern tree) ≡ (if covers pattern path then None else value_at path tree)
deletes_values pattern path tree = value_at_filter (λ p. not (covers pattern p)) path tree ∙ negated (covers pattern path) (value_at path tree) None

-- ---- operations

value_at_act : (act : Act) (op : Op) (path : List Elem) (tree : List Row) → value_at path (act_effect act op tree) ≡ value_after act op path (value_at path tree)
value_at_act Delete op path tree = deletes_values op.path path tree
value_at_act Replace op path tree = value_at_sets path op.rows (uncovered op.path tree) ∙ ap (last_value path op.rows) (deletes_values op.path path tree)
value_at_act Update op path tree = value_at_sets path op.rows tree

pub value_at_op : (path : List Elem) (op : Op) (tree : List Row) → value_at path (op_effect op tree) ≡ value_after op.act op path (value_at path tree)
value_at_op path op tree = value_at_act op.act op path tree

value_in_turn : (path : List Elem) (ops : List Op) (tree : List Row) → value_at path (in_turn ops tree) ≡ values_after ops path (value_at path tree)
value_in_turn path [] tree = refl
value_in_turn path (op ∷ ops) tree = value_in_turn path ops (op_effect op tree) ∙ ap (values_after ops path) (value_at_op path op tree)

pub value_at_effect : (path : List Elem) (ops : List Op) (tree : List Row) → value_at path (effect ops tree) ≡ values_after (with_act Update ops) path (values_after (with_act Replace ops) path (values_after (with_act Delete ops) path (value_at path tree)))
value_at_effect path ops tree =
    let deleted : List Row = in_turn (with_act Delete ops) tree in
    let replaced : List Row = in_turn (with_act Replace ops) deleted in
    value_in_turn path (with_act Update ops) replaced ∙ ap (values_after (with_act Update ops) path) (value_in_turn path (with_act Replace ops) deleted ∙ ap (values_after (with_act Replace ops) path) (value_in_turn path (with_act Delete ops) tree))

-- ---- trees with the same values are the same

-- nothing stands at a path that is below all rows
pub none_above : (path : List Elem) (rows : List Row) → AllAbove path rows → value_at path rows ≡ None
none_above path [] above = refl
none_above path (row ∷ rows) above = ap (λ test. if test then Some row.value else value_at path rows) (ap is_eq (path_total.antisymm row.path path) ∙ ap (λ order. is_eq (ordering_reverse order)) above.0) ∙ none_above path rows above.1

absent : (value : Value) → None ≡ Some value → ⊥
absent value is = true≢false (sym (ap is_some is))

value_at_first : (row : Row) (rows : List Row) → value_at row.path (row ∷ rows) ≡ Some row.value
value_at_first row rows = ap (λ test. if test then Some row.value else value_at row.path rows) (own_path row.path)

same_behind : (row : Row) (xs ys : List Row) (path : List Elem) (test : Bool) → same_path row.path path ≡ test → AllAbove row.path xs → AllAbove row.path ys → (if test then Some row.value else value_at path xs) ≡ (if test then Some row.value else value_at path ys) → value_at path xs ≡ value_at path ys
same_behind row xs ys path true is above_xs above_ys same =
    let here : row.path ≡ path = paths_equal row.path path is in
    ap (λ p. value_at p xs) (sym here) ∙ none_above row.path xs above_xs ∙ sym (none_above row.path ys above_ys) ∙ ap (λ p. value_at p ys) here
same_behind row xs ys path false is above_xs above_ys same = same

same_first : (x y : Row) (xs ys : List Row) (order : Ordering) → path_cmp x.path y.path ≡ order → AllAbove x.path xs → AllAbove y.path ys → ((path : List Elem) → value_at path (x ∷ xs) ≡ value_at path (y ∷ ys)) → x ≡ y
same_first x y xs ys Less is above_xs above_ys same = absurd (absent x.value (sym (none_above x.path (y ∷ ys) (is, above_more x.path y.path ys is above_ys)) ∙ sym (same x.path) ∙ value_at_first x xs))
same_first x y xs ys Equal is above_xs above_ys same =
    let path : x.path ≡ y.path = exact_paths x.path y.path is in
    let some : Some x.value ≡ Some y.value = sym (value_at_first x xs) ∙ same x.path ∙ ap (λ p. value_at p (y ∷ ys)) path ∙ value_at_first y ys in
    let value : x.value ≡ y.value = cc some in
    λ i. record { path = path i; value = value i }
same_first x y xs ys Greater is above_xs above_ys same =
    let below = turned x.path y.path is in
    absurd (absent y.value (sym (none_above y.path (x ∷ xs) (below, above_more y.path x.path xs below above_xs)) ∙ same y.path ∙ value_at_first y ys))

pub values_decide : (xs ys : List Row) → IsRising xs → IsRising ys → ((path : List Elem) → value_at path xs ≡ value_at path ys) → xs ≡ ys
unfolding IsStrictlySortedBy
values_decide [] [] rising_xs rising_ys same = refl
values_decide [] (y ∷ ys) rising_xs rising_ys same = absurd (absent y.value (same y.path ∙ value_at_first y ys))
values_decide (x ∷ xs) [] rising_xs rising_ys same = absurd (absent x.value (sym (same x.path) ∙ value_at_first x xs))
values_decide (x ∷ xs) (y ∷ ys) rising_xs rising_ys same =
    let first : x ≡ y = same_first x y xs ys (path_cmp x.path y.path) refl rising_xs.0 rising_ys.0 same in
    let above : AllAbove x.path ys = subst (λ (row : Row). AllAbove row.path ys) (sym first) rising_ys.0 in
    let alike : (path : List Elem) → value_at path (x ∷ xs) ≡ value_at path (x ∷ ys) = λ path. same path ∙ ap (λ row. value_at path (row ∷ ys)) (sym first) in
    let others : xs ≡ ys = values_decide xs ys rising_xs.1 rising_ys.1 (λ path. same_behind x xs ys path (same_path x.path path) refl rising_xs.0 above (alike path)) in
    λ i. first i ∷ others i
