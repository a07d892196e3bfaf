-- What the sorted values of a tree say of each reference.
use Rattle.std.proofs.Common.{◌≡◌, ℕ, ◌<◌, List, [], ◌∷◌, ◌++◌, length, refl, sym, ap, ◌∙◌, arith, Bool, true, false, true≢false, ◌&&◌, ◌||◌, Option, Some, None, is_some, unwrap_or, if◌then◌else◌, Result, Ok, Err, is_ok, inl, inr}
use Rattle.std.specs.Prelude.{slice_get, EachIndex}
use Rattle.std.specs.declared.cmp.Ordering.{Ordering}
use Rattle.std.specs.List.{list_any, list_all}
use Rattle.std.specs.List.Sorted.{IsSorted, IsPermutation, IsSearchInRange, IsBinarySearchResult}
use Rattle.std.specs.Ordering.{nat_cmp, is_eq}
use Rattle.std.specs.Cmp.{IsTotalOrder, tied_then}
use Rattle.std.proofs.Math.Bool.{or-false}
use Rattle.std.proofs.lemmas.Bool.{cases_lt}
use Rattle.std.proofs.lemmas.Bool.Decides.{nat_tests}
use Rattle.std.proofs.lemmas.Cmp.{nat_cmp_total, then_total, on_total, tied_itself}
use Rattle.std.proofs.lemmas.List.Elements.{All-nil, All-cons, All-head, All-tail, All-append}
use Rattle.std.proofs.lemmas.List.Folds.{list_any_at, list_any-append}
use Rattle.std.proofs.lemmas.List.Recursion.{or_from_places}
use Rattle.std.proofs.lemmas.List.Sorted.{searchable_from_sorted, list_any-IsPermutation, All-permutation}
use Rattle.base_kinds.specs.declared.value.Value.{Value}
use Rattle.base_kinds.specs.declared.value.Value as v
use Rattle.base_kinds.specs.declared.operation.Row.{Row}
use Rattle.base_kinds.specs.Schema.{SchemaNode, names_of, same_names, node_of, node_at}
use Rattle.base_kinds.specs.Values.{is_list, same_scalar}
use Rattle.base_kinds.specs.Valid.{if_some, unless_none, refers, row_resolves, leafrefs_resolve}
use Rattle.schema_core.specs.Nodes.{names_at}
use Rattle.schema_core.proofs.NodeLemmas.{same_decides, got, no_some}
use Rattle.value_core.specs.declared.scalar.Scalar.{Scalar}
use Rattle.value_core.specs.declared.scalar.Scalar.TheVariants as scalars
use Rattle.value_core.specs.Scalars.{value_of}
use Rattle.tree_check.specs.inner.LeafrefTargets.{has_target, row_has_target, target_cmp, AreNumbered, AreTargets}
use Rattle.value_core.proofs.ScalarOrder.{scalars_total, tied_scalars}

targets_total : IsTotalOrder target_cmp
targets_total = then_total (on_total (λ (one : ℕ × Scalar). one.0) nat_cmp_total) (on_total (λ (one : ℕ × Scalar). one.1) scalars_total)

-- a binary search in order finds what is there
searched : {K : Type 0} {R : K → K → Ordering} (total : IsTotalOrder R) (xs : List K) (x : K) (r : Result ℕ ℕ) → IsSorted R xs → IsSearchInRange r (length xs) → IsBinarySearchResult (λ y. R y x) xs r → is_ok r ≡ list_any (λ y. is_eq (R y x)) xs
searched {K} {R} total xs x (Ok place) sorted inside found = sym (list_any_at (λ y. is_eq (R y x)) xs place x inside (ap is_eq (found x)))
searched {K} {R} total xs x (Err gap) sorted inside parted =
    let parts = parted (searchable_from_sorted total (λ (y : K). y) xs x sorted) in
    sym (or_from_places (list_any (λ y. is_eq (R y x))) (λ y. is_eq (R y x)) refl (λ y ys. refl) xs x (λ k less.
    elim (cases_lt k gap) [
      | inl below ↦ ap is_eq (parts.0 k x (omega arith) below)
      | inr above ↦ ap is_eq (parts.1 k x above less)
    ]))

-- tests that agree on what is within a schema
module _ (schema : List SchemaNode) where
  is_within : ℕ × Scalar → Type 0
  is_within one = one.0 < length schema

  any_same : (f g : ℕ × Scalar → Bool) (targets : List (ℕ × Scalar)) → AreNumbered schema targets → ((one : ℕ × Scalar) → one.0 < length schema → f one ≡ g one) → list_any f targets ≡ list_any g targets
  any_same f g [] within same = refl
  any_same f g (one ∷ targets) within same =
      let here : f one ≡ g one = same one (All-head (λ (x : ℕ × Scalar). x.0 < length schema) one targets within) in
      let behind : list_any f targets ≡ list_any g targets = any_same f g targets (All-tail (λ (x : ℕ × Scalar). x.0 < length schema) one targets within) same in
      λ i. here i || behind i

  none_passes : (f : ℕ × Scalar → Bool) (targets : List (ℕ × Scalar)) → AreNumbered schema targets → ((one : ℕ × Scalar) → one.0 < length schema → f one ≡ false) → list_any f targets ≡ false
  none_passes f targets within fails = any_same f (λ one. false) targets within fails ∙ never targets
    where
      never : (targets : List (ℕ × Scalar)) → list_any (λ (one : ℕ × Scalar). false) targets ≡ false
      never [] = refl
      never (one ∷ targets) = never targets

equal_numbers : (i n : ℕ) → is_eq (nat_cmp i n) ≡ true → i ≡ n
equal_numbers i n is = grind (arith, nat_tests)

-- numbers of nodes are equal exactly where the names are
same_number : (schema : List SchemaNode) (names : List (List ℕ)) (i n : ℕ) → ((i j : ℕ) → i < length schema → j < length schema → names_at schema i ≡ names_at schema j → i ≡ j) → i < length schema → n < length schema → names_at schema n ≡ names → is_eq (nat_cmp i n) ≡ same_names (names_at schema i) names
same_number schema names i n distinct first second named = by (is_eq (nat_cmp i n)) refl (same_names (names_at schema i) names) refl
  where
    by : (equal : Bool) → is_eq (nat_cmp i n) ≡ equal → (same : Bool) → same_names (names_at schema i) names ≡ same → equal ≡ same
    by true equal true same = refl
    by false equal false same = refl
    by true equal false same = absurd (true≢false (sym ((same_decides (names_at schema i) names).1 (ap (names_at schema) (equal_numbers i n equal) ∙ named)) ∙ same))
    by false equal true same =
        let at : i ≡ n = distinct i n first second ((same_decides (names_at schema i) names).0 same ∙ sym named) in
        absurd (true≢false (sym (ap is_eq (ap (λ k. nat_cmp k n) at ∙ tied_itself nat_cmp_total n)) ∙ equal))

-- the value that a scalar was made from
made_from : (value made : Value) → Some made ≡ (if is_list value then None else Some value) → made ≡ value
made_from value made is = by (is_list value) is
  where
    by : (listed : Bool) → Some made ≡ (if listed then None else Some value) → made ≡ value
    by true is = absurd (true≢false (ap is_some is))
    by false is = ap (λ o. unwrap_or o made) is

made_of_none : (value : Value) → None ≡ (if is_list value then None else Some value) → is_list value ≡ true
made_of_none value is = by (is_list value) is
  where
    by : (listed : Bool) → None ≡ (if listed then None else Some value) → listed ≡ true
    by true is = refl
    by false is = absurd (true≢false (sym (ap is_some is)))

-- where the search for a value at a node's number ends well, the value stands at the node
pub looked_up : (schema : List SchemaNode) (targets : List (ℕ × Scalar)) (value : Value) (names : List (List ℕ)) (number : ℕ) (scalar : Scalar) (r : Result ℕ ℕ) → IsSorted target_cmp targets → AreNumbered schema targets → ((i j : ℕ) → i < length schema → j < length schema → names_at schema i ≡ names_at schema j → i ≡ j) → number < length schema → names_at schema number ≡ names → Some (value_of scalar) ≡ (if is_list value then None else Some value) → IsSearchInRange r (length targets) → IsBinarySearchResult (λ one. target_cmp one (number, scalar)) targets r → is_ok r ≡ has_target schema targets value names
looked_up schema targets value names number scalar r sorted within distinct inside named made bound position =
    searched targets_total targets (number, scalar) r sorted bound position
    ∙ any_same schema (λ one. is_eq (target_cmp one (number, scalar))) (λ one. same_names (names_at schema one.0) names && same_scalar (value_of one.1) value) targets within each
  where
    each : (one : ℕ × Scalar) → one.0 < length schema → is_eq (target_cmp one (number, scalar)) ≡ (same_names (names_at schema one.0) names && same_scalar (value_of one.1) value)
    each one less =
        let node = same_number schema names one.0 number distinct less inside named in
        let same = tied_scalars one.1 scalar ∙ ap (same_scalar (value_of one.1)) (made_from value (value_of scalar) made) in
        sym (tied_then (nat_cmp one.0 number) _) ∙ (λ i. node i && same i)

-- at names of no node stands no value
pub no_node : (schema : List SchemaNode) (targets : List (ℕ × Scalar)) (value : Value) (names : List (List ℕ)) → EachIndex schema (λ number. node_of schema (names_at schema number) ≡ slice_get schema number) → AreNumbered schema targets → node_of schema names ≡ None → false ≡ has_target schema targets value names
no_node schema targets value names own within none = sym (none_passes schema (λ one. same_names (names_at schema one.0) names && same_scalar (value_of one.1) value) targets within each)
  where
    other : (number : ℕ) → number < length schema → (same : Bool) → same_names (names_at schema number) names ≡ same → same ≡ false
    other number less true same =
        let there = got schema number less in
        no_some there.0 (sym there.1 ∙ sym (own number less) ∙ ap (node_of schema) ((same_decides (names_at schema number) names).0 same) ∙ none)
    other number less false same = refl

    each : (one : ℕ × Scalar) → one.0 < length schema → (same_names (names_at schema one.0) names && same_scalar (value_of one.1) value) ≡ false
    each one less =
        let apart : same_names (names_at schema one.0) names ≡ false = other one.0 less (same_names (names_at schema one.0) names) refl in
        ap (λ b. b && same_scalar (value_of one.1) value) apart

-- no scalar is a list
unlisted : (a : Scalar) (b : Value) → is_list b ≡ true → same_scalar (value_of a) b ≡ false
unlisted (scalars.Bool a) (v.List' n values) is = refl
unlisted (scalars.Int a) (v.List' n values) is = refl
unlisted (scalars.Uint a) (v.List' n values) is = refl
unlisted (scalars.Dec a p) (v.List' n values) is = refl
unlisted (scalars.Text a) (v.List' n values) is = refl
unlisted (scalars.Bin a) (v.List' n values) is = refl
unlisted (scalars.Enum a) (v.List' n values) is = refl
unlisted a (v.Bool b) is = absurd (true≢false (sym is))
unlisted a (v.Int b) is = absurd (true≢false (sym is))
unlisted a (v.Uint b) is = absurd (true≢false (sym is))
unlisted a (v.Dec b q) is = absurd (true≢false (sym is))
unlisted a (v.Text b) is = absurd (true≢false (sym is))
unlisted a (v.Bin b) is = absurd (true≢false (sym is))
unlisted a (v.Enum b) is = absurd (true≢false (sym is))

and_false : (b : Bool) → (b && false) ≡ false
and_false true = refl
and_false false = refl

-- and so a list stands at no leaf
pub no_leaf : (schema : List SchemaNode) (targets : List (ℕ × Scalar)) (value : Value) (names : List (List ℕ)) → AreNumbered schema targets → None ≡ (if is_list value then None else Some value) → false ≡ has_target schema targets value names
no_leaf schema targets value names within none = sym (none_passes schema (λ one. same_names (names_at schema one.0) names && same_scalar (value_of one.1) value) targets within (λ one less.
    ap (λ b. same_names (names_at schema one.0) names && b) (unlisted one.1 value (made_of_none value none)) ∙ and_false (same_names (names_at schema one.0) names)))

-- a row's value that is no list stands at its leaf from then on
pub with_target : (schema : List SchemaNode) (rows : List Row) (targets : List (ℕ × Scalar)) (row : Row) (number : ℕ) (scalar : Scalar) → AreTargets schema rows targets → number < length schema → names_at schema number ≡ names_of row.path → Some (value_of scalar) ≡ (if is_list row.value then None else Some row.value) → AreTargets schema (rows ++ row ∷ []) (targets ++ (number, scalar) ∷ [])
with_target schema rows targets row number scalar are inside named made = record {
  within = All-append (λ (one : ℕ × Scalar). one.0 < length schema) targets ((number, scalar) ∷ []) are.within (All-cons (λ (one : ℕ × Scalar). one.0 < length schema) (number, scalar) [] inside (All-nil (λ (one : ℕ × Scalar). one.0 < length schema)));
  same = λ value names.
      list_any-append (λ (one : ℕ × Scalar). same_names (names_at schema one.0) names && same_scalar (value_of one.1) value) targets ((number, scalar) ∷ [])
      ∙ (λ i. are.same value names i || ((same_names (named i) names && same_scalar (made_from row.value (value_of scalar) made i) value) || false))
      ∙ sym (list_any-append (λ (other : Row). same_names (names_of other.path) names && same_scalar other.value value) rows (row ∷ []));
}

listed : (a b : Value) → is_list a ≡ true → same_scalar a b ≡ false
listed (v.List' n values) b is = refl
listed (v.Bool a) b is = absurd (true≢false (sym is))
listed (v.Int a) b is = absurd (true≢false (sym is))
listed (v.Uint a) b is = absurd (true≢false (sym is))
listed (v.Dec a p) b is = absurd (true≢false (sym is))
listed (v.Text a) b is = absurd (true≢false (sym is))
listed (v.Bin a) b is = absurd (true≢false (sym is))
listed (v.Enum a) b is = absurd (true≢false (sym is))

-- and a list nowhere
pub without_target : (schema : List SchemaNode) (rows : List Row) (targets : List (ℕ × Scalar)) (row : Row) → AreTargets schema rows targets → None ≡ (if is_list row.value then None else Some row.value) → AreTargets schema (rows ++ row ∷ []) targets
without_target schema rows targets row are none = record {
  within = are.within;
  same = λ value names.
      let apart = (λ i. (same_names (names_of row.path) names && listed row.value value (made_of_none row.value none) i) || false) ∙ ap (λ b. b || false) (and_false (same_names (names_of row.path) names)) in
      are.same value names
      ∙ sym (or-false (refers rows value names))
      ∙ (λ i. refers rows value names || sym apart i)
      ∙ sym (list_any-append (λ (other : Row). same_names (names_of other.path) names && same_scalar other.value value) rows (row ∷ []));
}

-- sorting changes nothing
pub targets_sorted : (schema : List SchemaNode) (rows : List Row) (targets sorted : List (ℕ × Scalar)) → AreTargets schema rows targets → IsPermutation targets sorted → AreTargets schema rows sorted
targets_sorted schema rows targets sorted is moved = record {
  within = All-permutation (λ (one : ℕ × Scalar). one.0 < length schema) targets sorted moved is.within;
  same = λ value names. sym (list_any-IsPermutation (λ (one : ℕ × Scalar). same_names (names_at schema one.0) names && same_scalar (value_of one.1) value) targets sorted moved) ∙ is.same value names;
}

-- the values of the rows decide the rule
pub targets_decide : (schema : List SchemaNode) (rows : List Row) (targets : List (ℕ × Scalar)) → AreTargets schema rows targets → list_all (row_has_target schema targets) rows ≡ leafrefs_resolve schema rows
targets_decide schema rows targets is = each rows
  where
    by : (row : Row) (reference : Option (List (List ℕ))) → unless_none reference (has_target schema targets row.value) ≡ unless_none reference (refers rows row.value)
    by row None = refl
    by row (Some names) = is.same row.value names

    one : (row : Row) (node : Option SchemaNode) → if_some node (λ n. unless_none n.reference (has_target schema targets row.value)) ≡ if_some node (λ n. unless_none n.reference (refers rows row.value))
    one row None = refl
    one row (Some node) = by row node.reference

    each : (some : List Row) → list_all (row_has_target schema targets) some ≡ list_all (row_resolves schema rows) some
    each [] = refl
    each (row ∷ some) = let here = one row (node_at schema row.path) in let behind = each some in λ i. here i && behind i
