-- The entries that come up along rows are those among the instances that the rows stand below, and they are in order.
use Rattle.std.proofs.Common.{◌≡◌, ℕ, zero, suc, ◌+◌, ◌<◌, ◌≤◌, List, [], ◌∷◌, ◌++◌, Bool, true, false, cond, ◌&&◌, nat_lt, Some, None, length, take, filter, refl, ap, sym, ◌∙◌, subst, arith, true≢false, append_assoc, length-append, ⊎_elim}
use Rattle.std.specs.Prelude.{option_to_list}
use Rattle.std.specs.List.{flat_map, AllByRecursion}
use Rattle.std.specs.List.Sorted.{IsStrictlySortedBy}
use Rattle.std.specs.Ordering.{is_gt, ordering_then}
use Rattle.std.specs.declared.cmp.Ordering.{Ordering}
use Rattle.std.specs.declared.cmp.Ordering.TheVariants.{Less, Equal, Greater}
use Rattle.std.proofs.lemmas.Bool.{ltb-true, lt-ltb, le-ltb, cases_lt, and_parts}
use Rattle.std.proofs.lemmas.List.{append-nil}
use Rattle.std.proofs.lemmas.List.Elements.{filter-append}
use Rattle.std.proofs.Math.Seq.{take-append_seam}
use Rattle.base_kinds.specs.declared.path.Elem.{Elem}
use Rattle.base_kinds.specs.declared.operation.Row.{Row}
use Rattle.base_kinds.specs.Paths.{path_cmp, elem_cmp}
use Rattle.base_kinds.specs.Schema.{names_of, same_names}
use Rattle.base_kinds.specs.Ancestors.{ancestors, ancestors_from, parent_of}
use Rattle.base_kinds.specs.Rising.{IsRising}
use Rattle.tree_check.specs.inner.ListEntries.{is_below, entry_of, entries_along}

-- ---- which instances a row stands below

other_length : (path : List Elem) (names : List (List ℕ)) → (length path ≡ length names → ⊥) → same_names (names_of path) names ≡ false
other_length [] [] other = absurd (other refl)
other_length [] (name ∷ names) other = refl
other_length (elem ∷ path) [] other = refl
other_length (elem ∷ path) (name ∷ names) other = let e = other_length path names (λ same. other (omega (arith, same))) in grind (arith, e)

abbrev has_names : List (List ℕ) → List Elem → Bool
has_names names instance = same_names (names_of instance) names

one_longer : (front : List Elem) (elem : Elem) → length (front ++ elem ∷ []) ≡ length front + 1
one_longer front elem = length-append front (elem ∷ [])

none_longer : (names : List (List ℕ)) (front elems : List Elem) → length names < length front → filter (has_names names) (ancestors_from front elems) ≡ []
none_longer names front [] longer = refl
none_longer names front (elem ∷ elems) longer =
    let here : same_names (names_of front) names ≡ false = other_length front names (λ same. omega (arith, same)) in
    let one = one_longer front elem in
    let e = none_longer names (front ++ elem ∷ []) elems (omega (arith, one)) in
    rw here e

take_front : (front elems : List Elem) (n : ℕ) → n ≡ length front → take n (front ++ elems) ≡ front
take_front front elems n is = ap (λ k. take k (front ++ elems)) is ∙ take-append_seam front elems

-- a path that is no longer than the names stands below no entry
not_below : (names : List (List ℕ)) (path : List Elem) → length path ≤ length names → entry_of names path ≡ None
not_below names path short =
    let test : nat_lt (length names) (length path) ≡ false = le-ltb (length names) (length path) short in
    rw test refl

-- a longer one does where its front has them
below_front : (names : List (List ℕ)) (front : List Elem) (elem : Elem) (elems : List Elem) → length names ≡ length front → option_to_list (entry_of names (front ++ elem ∷ elems)) ≡ cond (has_names names front) (front ∷ []) []
below_front names front elem elems same =
    let whole = length-append front (elem ∷ elems) in
    let test : nat_lt (length names) (length (front ++ elem ∷ elems)) ≡ true = lt-ltb (length names) (length (front ++ elem ∷ elems)) (omega (arith, whole)) in
    let there : take (length names) (front ++ elem ∷ elems) ≡ front = take_front front (elem ∷ elems) (length names) same in
    ap (λ b. option_to_list (cond (b && has_names names (take (length names) (front ++ elem ∷ elems))) (Some (take (length names) (front ++ elem ∷ elems))) None)) test
    ∙ ap (λ t. option_to_list (cond (has_names names t) (Some t) None)) there
    ∙ listed (has_names names front)
  where
    listed : (b : Bool) → option_to_list (cond b (Some front) None) ≡ cond b (front ∷ []) []
    listed true = refl
    listed false = refl

of_front : (names : List (List ℕ)) (front elems : List Elem) → length front ≤ length names → filter (has_names names) (ancestors_from front elems) ≡ option_to_list (entry_of names (front ++ elems))
of_front names front [] short = sym (ap option_to_list (not_below names (front ++ []) (subst (λ path. length path ≤ length names) (sym (append-nil front)) short)))
of_front names front (elem ∷ elems) short =
    let one = one_longer front elem in
    ⊎_elim
    (λ less. let here : has_names names front ≡ false = other_length front names (λ same. omega (arith, same)) in
    let rest = of_front names (front ++ elem ∷ []) elems (omega (arith, one)) in
    let whole = append_assoc front (elem ∷ []) elems in
    rw here (rest ∙ ap (λ path. option_to_list (entry_of names path)) whole))
    (λ least. let rest = none_longer names (front ++ elem ∷ []) elems (omega (arith, one)) in
    let there = below_front names front elem elems (omega arith) in
    ap (λ others. cond (has_names names front) (front ∷ others) others) rest ∙ sym there)
    (cases_lt (length front) (length names))

-- the instances with these names that rows stand below are the entries that come up along them
pub come_up : (names : List (List ℕ)) (rows : List Row) → filter (has_names names) (flat_map (λ row. ancestors row.path) rows) ≡ entries_along names rows
come_up names [] = refl
come_up names (row ∷ rows) =
    filter-append (has_names names) (ancestors row.path) (flat_map (λ row. ancestors row.path) rows)
    ∙ ap (λ entries. entries ++ filter (has_names names) (flat_map (λ row. ancestors row.path) rows)) (of_front names [] row.path (omega arith))
    ∙ ap (λ entries. option_to_list (entry_of names row.path) ++ entries) (come_up names rows)

-- ---- the order of the entries

then_not_above : (first second third : Ordering) → (is_gt second ≡ false → is_gt third ≡ false) → is_gt (ordering_then first second) ≡ false → is_gt (ordering_then first third) ≡ false
then_not_above Less second third rest le = refl
then_not_above Equal second third rest le = rest le
then_not_above Greater second third rest le = le

-- fronts of the same length are in the order of the paths
front_order : (a b : List Elem) (n : ℕ) → is_gt (path_cmp a b) ≡ false → is_gt (path_cmp (take n a) (take n b)) ≡ false
front_order a b zero le = refl
front_order [] [] (suc n) le = refl
front_order [] (y ∷ ys) (suc n) le = refl
front_order (x ∷ xs) [] (suc n) le = absurd (true≢false le)
front_order (x ∷ xs) (y ∷ ys) (suc n) le = then_not_above (elem_cmp x y) (path_cmp xs ys) (path_cmp (take n xs) (take n ys)) (front_order xs ys n) le

above_take : (path : List Elem) (n : ℕ) → n < length path → parent_of (take (suc n) path) ≡ take n path
above_take [] n less = absurd (omega arith)
above_take (a ∷ path) zero less = refl
above_take (a ∷ []) (suc n) less = absurd (omega arith)
above_take (a ∷ b ∷ path) (suc n) less = ap (λ rest. a ∷ rest) (above_take (b ∷ path) n (omega arith))

-- the path comes no later than each of these, and what is above it no later than what is above them
abbrev pub Leads : List Elem → List (List Elem) → Type 0
Leads path [] = Unit {0}
Leads path (other ∷ others) = (is_gt (path_cmp path other) ≡ false) × ((is_gt (path_cmp (parent_of path) (parent_of other)) ≡ false) × Leads path others)

abbrev pub AreInOrder : List (List Elem) → Type 0
AreInOrder [] = Unit {0}
AreInOrder (path ∷ paths) = Leads path paths × AreInOrder paths

parents_order : (a b : List Elem) (n : ℕ) → n ≤ length a → n ≤ length b → is_gt (path_cmp a b) ≡ false → is_gt (path_cmp (parent_of (take n a)) (parent_of (take n b))) ≡ false
parents_order a b zero in_a in_b le = refl
parents_order a b (suc n) in_a in_b le = rw (above_take a n (omega arith), above_take b n (omega arith)) (front_order a b n le)

leads : (names : List (List ℕ)) (path : List Elem) (rows : List Row) → length names ≤ length path → AllByRecursion (λ (row : Row). path_cmp path row.path ≡ Less) rows → Leads (take (length names) path) (entries_along names rows)
leads names path [] long rising = tt
leads names path (row ∷ rows) long rising = by_test (is_below names row.path) refl (leads names path rows long rising.1)
  where
    by_test : (test : Bool) → is_below names row.path ≡ test → Leads (take (length names) path) (entries_along names rows) → Leads (take (length names) path) (option_to_list (cond test (Some (take (length names) row.path)) None) ++ entries_along names rows)
    by_test true is rest =
        let le : is_gt (path_cmp path row.path) ≡ false = ap is_gt rising.0 in
        let less = ltb-true (length names) (length row.path) (and_parts _ _ is).0 in
        (front_order path row.path (length names) le, (parents_order path row.path (length names) long (omega (arith, less)) le, rest))
    by_test false is rest = rest

-- along rows that rise the entries come up in order
pub in_order : (names : List (List ℕ)) (rows : List Row) → IsRising rows → AreInOrder (entries_along names rows)
unfolding IsStrictlySortedBy
in_order names [] rising = tt
in_order names (row ∷ rows) rising = by_test (is_below names row.path) refl (in_order names rows rising.1)
  where
    by_test : (test : Bool) → is_below names row.path ≡ test → AreInOrder (entries_along names rows) → AreInOrder (option_to_list (cond test (Some (take (length names) row.path)) None) ++ entries_along names rows)
    by_test true is rest =
        let less = ltb-true (length names) (length row.path) (and_parts _ _ is).0 in
        (leads names row.path rows (omega (arith, less)) rising.0, rest)
    by_test false is rest = rest

-- ---- what is above a path

pub above_last : (path front : List Elem) (elem : Elem) → path ≡ front ++ elem ∷ [] → parent_of path ≡ front
above_last path front elem is = rw is (last front elem)
  where
    last : (front : List Elem) (elem : Elem) → parent_of (front ++ elem ∷ []) ≡ front
    last [] elem = refl
    last (a ∷ []) elem = refl
    last (a ∷ b ∷ front) elem = ap (λ rest. a ∷ rest) (last (b ∷ front) elem)

pub above_none : (path : List Elem) → path ≡ [] → parent_of path ≡ []
above_none path is = rw is refl
