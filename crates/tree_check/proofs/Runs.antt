-- Entries that come up in order, counted parent by parent.
use Rattle.std.proofs.Common.{◌≡◌, ℕ, suc, ◌+◌, ◌<◌, ◌≤◌, List, [], ◌∷◌, ◌++◌, Bool, true, false, cond, ◌&&◌, ◌||◌, nat_le, ◌==◌, length, filter, drop, Some, refl, ap, sym, ◌∙◌, subst, arith, true≢false}
use Rattle.std.specs.List.{list_any, list_all}
use Rattle.std.specs.Ordering.{is_gt, is_eq, ordering_reverse}
use Rattle.std.specs.declared.cmp.Ordering.{Ordering}
use Rattle.std.specs.declared.cmp.Ordering.TheVariants.{Less, Equal, Greater}
use Rattle.std.proofs.lemmas.Bool.{leb-true, le-leb, lt-leb, ne_eqb}
use Rattle.std.proofs.lemmas.List.{drop_all}
use Rattle.std.specs.Prelude.{option_to_list}
use Rattle.std.proofs.lemmas.Bool.Decides.{nat_tests}
use Rattle.std.proofs.lemmas.Cmp.{tied_itself}
use Rattle.base_kinds.specs.declared.path.Elem.{Elem}
use Rattle.base_kinds.specs.declared.operation.Row.{Row}
use Rattle.base_kinds.specs.Paths.{path_cmp, same_path}
use Rattle.base_kinds.specs.Valid.{each_once, entries_of, few_beside}
use Rattle.base_kinds.specs.Ancestors.{parent_of}
use Rattle.base_kinds.specs.Rising.{IsRising}
use Rattle.history_laws.proofs.PathOrder.{path_total, exact_paths}
use Rattle.tree_check.specs.inner.ListEntries.{entry_of, count_after, few_behind, entries_along}
use Rattle.tree_check.proofs.Fronts.{Leads, AreInOrder, in_order, come_up}

-- ---- paths that are the same, or apart

same_is : (a b : List Elem) → same_path a b ≡ true → a ≡ b
same_is a b is = exact_paths a b (equal (path_cmp a b) is)
  where
    equal : (order : Ordering) → is_eq order ≡ true → order ≡ Equal
    equal Less is = absurd (true≢false (sym is))
    equal Equal is = refl
    equal Greater is = absurd (true≢false (sym is))

same_itself : (a : List Elem) → same_path a a ≡ true
same_itself a = ap is_eq (tied_itself path_total a)

-- a path that comes before one is apart from all that come no earlier than that
apart : (a b c : List Elem) → same_path a b ≡ false → is_gt (path_cmp a b) ≡ false → is_gt (path_cmp b c) ≡ false → same_path a c ≡ false
apart a b c other le later = by_order (path_cmp a c) refl
  where
    clash : (first second : Ordering) → is_eq first ≡ false → is_gt first ≡ false → is_gt second ≡ false → first ≡ ordering_reverse second → ⊥
    clash Less Less other le later is = true≢false (ap (λ o. is_eq_less o) is)
      where
        is_eq_less : Ordering → Bool
        is_eq_less Less = true
        is_eq_less _ = false
    clash Less Equal other le later is = true≢false (sym (ap is_eq is))
    clash Less Greater other le later is = true≢false later
    clash Equal second other le later is = true≢false other
    clash Greater second other le later is = true≢false le

    by_order : (order : Ordering) → path_cmp a c ≡ order → is_eq order ≡ false
    by_order Less is = refl
    by_order Equal is = absurd (clash (path_cmp a b) (path_cmp b c) other le later (path_total.congr a c b is ∙ path_total.antisymm c b))
    by_order Greater is = refl

apart_back : (a b : List Elem) → same_path a b ≡ false → same_path b a ≡ false
apart_back a b other = turned (path_cmp a b) (path_cmp b a) (path_total.antisymm b a) other
  where
    turned : (first second : Ordering) → second ≡ ordering_reverse first → is_eq first ≡ false → is_eq second ≡ false
    turned Less second is other = ap is_eq is
    turned Equal second is other = absurd (true≢false other)
    turned Greater second is other = ap is_eq is

-- ---- each entry once

-- the paths without those that are the one before them
abbrev pub after : List Elem → List (List Elem) → List (List Elem)
after last [] = []
after last (path ∷ paths) = cond (same_path last path) (after path paths) (path ∷ after path paths)

-- a path that is apart from the first of others in order is apart from all of them
none_same : (a b : List Elem) (paths : List (List Elem)) → same_path a b ≡ false → is_gt (path_cmp a b) ≡ false → Leads b paths → list_any (same_path a) paths ≡ false
none_same a b [] other le order = refl
none_same a b (c ∷ paths) other le order =
    let here = apart a b c other le order.0 in
    let rest = none_same a b paths other le order.1.1 in
    rw (here, rest) refl

pub once : (path : List Elem) (paths : List (List Elem)) → AreInOrder (path ∷ paths) → each_once (path ∷ paths) ≡ path ∷ after path paths
once path [] order = refl
once path (other ∷ paths) order = by_test (same_path path other) refl (once other paths order.1)
  where
    by_test : (test : Bool) → same_path path other ≡ test → each_once (other ∷ paths) ≡ other ∷ after other paths → cond (test || list_any (same_path path) paths) (each_once (other ∷ paths)) (path ∷ each_once (other ∷ paths)) ≡ path ∷ cond test (after other paths) (other ∷ after other paths)
    by_test true is rest = rest ∙ ap (λ first. first ∷ after other paths) (sym (same_is path other is))
    by_test false is rest =
        let none = none_same path other paths is order.0.0 order.1.0 in
        rw none (ap (λ more. path ∷ more) rest)

-- ---- how many of the paths stand in an instance

abbrev pub beside : List Elem → List (List Elem) → ℕ
beside parent paths = length (filter (λ other. same_path (parent_of other) parent) paths)

beside_own : (path : List Elem) (paths : List (List Elem)) → beside (parent_of path) (path ∷ paths) ≡ suc (beside (parent_of path) paths)
beside_own path paths = let own = same_itself (parent_of path) in rw own refl

all_same : (f g : List Elem → Bool) (paths : List (List Elem)) → ((path : List Elem) → f path ≡ g path) → list_all f paths ≡ list_all g paths
all_same f g [] same = refl
all_same f g (path ∷ paths) same = let here = same path in let rest = all_same f g paths same in rw (here, rest) refl

-- where there is room for one more beside the first, each of the others has as many beside it as before, or room for one more
one_more : (most : ℕ) (first path : List Elem) (paths : List (List Elem)) → nat_le (suc (beside (parent_of first) paths)) most ≡ true → nat_le (beside (parent_of path) (first ∷ paths)) most ≡ nat_le (beside (parent_of path) paths) most
one_more most first path paths room = by_test (same_path (parent_of first) (parent_of path)) refl
  where
    by_test : (test : Bool) → same_path (parent_of first) (parent_of path) ≡ test → nat_le (length (cond test (first ∷ filter (λ other. same_path (parent_of other) (parent_of path)) paths) (filter (λ other. same_path (parent_of other) (parent_of path)) paths))) most ≡ nat_le (beside (parent_of path) paths) most
    by_test true is =
        let parent = same_is (parent_of first) (parent_of path) is in
        let more : nat_le (suc (beside (parent_of path) paths)) most ≡ true = subst (λ p. nat_le (suc (beside p paths)) most ≡ true) parent room in
        more ∙ sym (le-leb (beside (parent_of path) paths) most (omega (arith, leb-true (suc (beside (parent_of path) paths)) most more)))
    by_test false is = refl

few_more : (most : ℕ) (path : List Elem) (paths : List (List Elem)) → few_beside most (path ∷ paths) ≡ (nat_le (suc (beside (parent_of path) paths)) most && few_beside most paths)
few_more most path paths =
    ap (λ n. nat_le n most && list_all (λ other. nat_le (beside (parent_of other) (path ∷ paths)) most) paths) (beside_own path paths)
    ∙ by_test (nat_le (suc (beside (parent_of path) paths)) most) refl
  where
    by_test : (test : Bool) → nat_le (suc (beside (parent_of path) paths)) most ≡ test → (test && list_all (λ other. nat_le (beside (parent_of other) (path ∷ paths)) most) paths) ≡ (test && few_beside most paths)
    by_test true is = all_same (λ other. nat_le (beside (parent_of other) (path ∷ paths)) most) (λ other. nat_le (beside (parent_of other) paths) most) paths (λ other. one_more most path other paths is)
    by_test false is = refl

-- what comes no earlier than a path of another parent has that other parent nowhere
none_beside : (last path before : List Elem) (paths : List (List Elem)) → same_path (parent_of last) (parent_of path) ≡ false → is_gt (path_cmp (parent_of last) (parent_of path)) ≡ false → Leads path paths → beside (parent_of last) (after before paths) ≡ 0
none_beside last path before [] other le order = refl
none_beside last path before (next ∷ paths) other le order = by_test (same_path before next) (none_beside last path next paths other le order.1.1)
  where
    by_test : (test : Bool) → beside (parent_of last) (after next paths) ≡ 0 → beside (parent_of last) (cond test (after next paths) (next ∷ after next paths)) ≡ 0
    by_test true rest = rest
    by_test false rest =
        let here = apart_back (parent_of last) (parent_of next) (apart (parent_of last) (parent_of path) (parent_of next) other le order.1.0) in
        rw here rest

-- ---- counting along the paths

twice : (a b : Bool) → (a && (a && b)) ≡ (a && b)
twice true b = refl
twice false b = refl

same_parent : (count most beside : ℕ) (rest : Bool) → (nat_le count most && (nat_le (count + 1 + beside) most && rest)) ≡ (nat_le (count + suc beside) most && (nat_le (suc beside) most && rest))
same_parent count most beside rest = grind (arith, nat_tests)

other_parent : (count most beside : ℕ) (rest : Bool) → (nat_le count most && (nat_le (1 + beside) most && rest)) ≡ (nat_le (count + 0) most && (nat_le (suc beside) most && rest))
other_parent count most beside rest = grind (arith, nat_tests)

at_end : (count most : ℕ) → (nat_le count most && true) ≡ (nat_le (count + 0) most && true)
at_end count most = grind (arith, nat_tests)

counts : (last path : List Elem) (count : ℕ) → 1 ≤ count → count_after last count path ≡ cond (same_path last path) count (cond (same_path (parent_of last) (parent_of path)) (count + 1) 1)
counts last path count some = let none : (count == 0) ≡ false = ne_eqb count 0 (λ is. omega arith) in rw none refl

counted : (most : ℕ) (last : List Elem) (count : ℕ) (paths : List (List Elem)) → 1 ≤ count → AreInOrder (last ∷ paths) → (nat_le count most && few_behind most last count paths) ≡ (nat_le (count + beside (parent_of last) (after last paths)) most && few_beside most (after last paths))
counted most last count [] some order = at_end count most
counted most last count (path ∷ paths) some order =
    ap (λ n. nat_le count most && (nat_le n most && few_behind most path n paths)) (counts last path count some)
    ∙ by_test (same_path last path) refl (λ n more. counted most path n paths more order.1)
  where
    by_parent : (test : Bool) → same_path (parent_of last) (parent_of path) ≡ test → ((n : ℕ) → 1 ≤ n → (nat_le n most && few_behind most path n paths) ≡ (nat_le (n + beside (parent_of path) (after path paths)) most && few_beside most (after path paths))) → (nat_le count most && (nat_le (cond test (count + 1) 1) most && few_behind most path (cond test (count + 1) 1) paths)) ≡ (nat_le (count + beside (parent_of last) (path ∷ after path paths)) most && few_beside most (path ∷ after path paths))
    by_parent true is rest =
        let own : beside (parent_of last) (path ∷ after path paths) ≡ suc (beside (parent_of path) (after path paths)) = ap (λ p. beside p (path ∷ after path paths)) (same_is (parent_of last) (parent_of path) is) ∙ beside_own path (after path paths) in
        ap (λ b. nat_le count most && b) (rest (count + 1) (omega arith))
        ∙ same_parent count most (beside (parent_of path) (after path paths)) (few_beside most (after path paths))
        ∙ ap (λ b. nat_le (count + suc (beside (parent_of path) (after path paths))) most && b) (sym (few_more most path (after path paths)))
        ∙ ap (λ n. nat_le (count + n) most && few_beside most (path ∷ after path paths)) (sym own)
    by_parent false is rest =
        let none : beside (parent_of last) (path ∷ after path paths) ≡ 0 = (let here = apart_back (parent_of last) (parent_of path) is in rw here (none_beside last path path paths is order.0.1.0 order.1.0)) in
        ap (λ b. nat_le count most && b) (rest 1 (omega arith))
        ∙ other_parent count most (beside (parent_of path) (after path paths)) (few_beside most (after path paths))
        ∙ ap (λ b. nat_le (count + 0) most && b) (sym (few_more most path (after path paths)))
        ∙ ap (λ n. nat_le (count + n) most && few_beside most (path ∷ after path paths)) (sym none)

    by_test : (test : Bool) → same_path last path ≡ test → ((n : ℕ) → 1 ≤ n → (nat_le n most && few_behind most path n paths) ≡ (nat_le (n + beside (parent_of path) (after path paths)) most && few_beside most (after path paths))) → (nat_le count most && (nat_le (cond test count (cond (same_path (parent_of last) (parent_of path)) (count + 1) 1)) most && few_behind most path (cond test count (cond (same_path (parent_of last) (parent_of path)) (count + 1) 1)) paths)) ≡ (nat_le (count + beside (parent_of last) (cond test (after path paths) (path ∷ after path paths))) most && few_beside most (cond test (after path paths) (path ∷ after path paths)))
    by_test true is rest =
        twice (nat_le count most) (few_behind most path count paths) ∙ rest count some
        ∙ ap (λ p. nat_le (count + beside (parent_of p) (after path paths)) most && few_beside most (after path paths)) (sym (same_is last path is))
    by_test false is rest = by_parent (same_path (parent_of last) (parent_of path)) refl rest

from_first : (most : ℕ) (paths : List (List Elem)) → AreInOrder paths → few_beside most (each_once paths) ≡ few_behind most [] 0 paths
from_first most [] order = refl
from_first most (path ∷ paths) order =
    ap (few_beside most) (once path paths order)
    ∙ few_more most path (after path paths)
    ∙ ap (λ n. nat_le n most && few_beside most (after path paths)) (one_and (beside (parent_of path) (after path paths)))
    ∙ sym (counted most path 1 paths (omega arith) order)
  where
    one_and : (n : ℕ) → suc n ≡ 1 + n
    one_and n = omega arith

-- counting along the rows decides how many entries the list has in each instance of its parent
pub counted_along : (most : ℕ) (names : List (List ℕ)) (rows : List Row) → IsRising rows → few_beside most (entries_of rows names) ≡ few_behind most [] 0 (entries_along names rows)
counted_along most names rows rising =
    ap (λ paths. few_beside most (each_once paths)) (come_up names rows)
    ∙ from_first most (entries_along names rows) (in_order names rows rising)

-- at an entry that is one too many
pub too_many : (most : ℕ) (names : List (List ℕ)) (rows : List Row) (last : List Elem) (count i : ℕ) (row : Row) (entry : List Elem) → IsRising rows → few_behind most last count (entries_along names (drop i rows)) ≡ few_behind most [] 0 (entries_along names rows) → drop i rows ≡ row ∷ drop (i + 1) rows → entry_of names row.path ≡ Some entry → most < count_after last count entry → false ≡ few_beside most (entries_of rows names)
too_many most names rows last count i row entry rising so_far here is more =
    let test : nat_le (count_after last count entry) most ≡ false = lt-leb (count_after last count entry) most more in
    ap (λ b. b && few_behind most entry (count_after last count entry) (entries_along names (drop (i + 1) rows))) (sym test)
    ∙ ap (λ o. few_behind most last count (option_to_list o ++ entries_along names (drop (i + 1) rows))) (sym is)
    ∙ ap (λ rest. few_behind most last count (entries_along names rest)) (sym here)
    ∙ so_far
    ∙ sym (counted_along most names rows rising)

-- behind the last row
pub few_enough : (most : ℕ) (names : List (List ℕ)) (rows : List Row) (last : List Elem) (count i : ℕ) → IsRising rows → few_behind most last count (entries_along names (drop i rows)) ≡ few_behind most [] 0 (entries_along names rows) → length rows ≤ i → true ≡ few_beside most (entries_of rows names)
few_enough most names rows last count i rising so_far end =
    ap (λ rest. few_behind most last count (entries_along names rest)) (sym (drop_all i rows end)) ∙ so_far ∙ sym (counted_along most names rows rising)
