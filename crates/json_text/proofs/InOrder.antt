-- Rows in some other order, set one after another, are the rows in order again.
use Rattle.std.proofs.Common.{◌≡◌, suc, List, [], ◌∷◌, Bool, true, false, true≢false, cond, ◌⊎◌, inl, inr, Option, Some, None, Less, Equal, refl, sym, ap, ◌∙◌, arith}
use Rattle.std.specs.List.{All, AllByRecursion}
use Rattle.std.specs.List.Sorted.{IsPermutation, IsStrictlySortedBy}
use Rattle.std.proofs.lemmas.Cmp.{tied_itself}
use Rattle.std.proofs.lemmas.List.Sorted.{All-permutation, IsPermutation-sym}
use Rattle.std.proofs.lemmas.List.Elements.{All-cons, All-nil}
use Rattle.base_kinds.specs.declared.path.Elem.{Elem}
use Rattle.base_kinds.specs.declared.operation.Row.{Row}
use Rattle.base_kinds.specs.declared.value.Value.{Value}
use Rattle.base_kinds.specs.Paths.{path_cmp, same_path}
use Rattle.base_kinds.specs.Tree.{set_rows}
use Rattle.base_kinds.specs.Rising.{row_cmp, IsRising, value_at, last_value}
use Rattle.history_laws.proofs.PathOrder.{path_total}
use Rattle.history_laws.proofs.Setting.{rising_sets}
use Rattle.history_laws.proofs.Values.{paths_equal, value_at_sets, values_decide}

to_all : {X : Type 0} (P : X → Type 0) (xs : List X) → AllByRecursion P xs → All P xs
to_all P [] all = All-nil P
to_all P (x ∷ xs) all = All-cons P x xs all.0 (to_all P xs all.1)

from_all : {X : Type 0} (P : X → Type 0) (xs : List X) → All P xs → AllByRecursion P xs
from_all P [] all = tt
from_all P (x ∷ xs) all = (all 0 x (omega arith), from_all P xs (λ k d less. all (suc k) d (omega arith)))

same_all : (P : Row → Type 0) (xs ys : List Row) → IsPermutation xs ys → AllByRecursion P xs → AllByRecursion P ys
same_all P xs ys same all = from_all P ys (All-permutation P xs ys same (to_all P xs all))

module _ (path : List Elem) where
  abbrev NoneThere : List Row → Type 0
  NoneThere rows = AllByRecursion (λ row. same_path row.path path ≡ false) rows

  abbrev ThisThere : Value → List Row → Type 0
  ThisThere value rows = AllByRecursion (λ row. same_path row.path path ≡ true → row.value ≡ value) rows

  last_none : (rows : List Row) (old : Option Value) → NoneThere rows → last_value path rows old ≡ old
  last_none [] old none = refl
  last_none (row ∷ rows) old none = ap (λ t. last_value path rows (cond t (Some row.value) old)) none.0 ∙ last_none rows old none.1

  last_some : (value : Value) (rows : List Row) (old : Option Value) → ThisThere value rows → (last_value path rows old ≡ Some value) ⊎ (NoneThere rows × (last_value path rows old ≡ old))
  last_some value [] old all = inr (tt, refl)
  last_some value (row ∷ rows) old all = at (λ (o : Option Value). last_some value rows o all.1) (same_path row.path path) refl
    where
      at : ((o : Option Value) → (last_value path rows o ≡ Some value) ⊎ (NoneThere rows × (last_value path rows o ≡ o))) → (t : Bool) → same_path row.path path ≡ t → (last_value path rows (cond (same_path row.path path) (Some row.value) old) ≡ Some value) ⊎ (NoneThere (row ∷ rows) × (last_value path rows (cond (same_path row.path path) (Some row.value) old) ≡ old))
      at more true e =
          let now = ap (λ t. last_value path rows (cond t (Some row.value) old)) e in
          elim (more (Some row.value)) [ inl w ↦ inl (now ∙ w) | inr w ↦ inl (now ∙ w.1 ∙ ap Some (all.0 e)) ]
      at more false e =
          let now = ap (λ t. last_value path rows (cond t (Some row.value) old)) e in
          elim (more old) [ inl w ↦ inl (now ∙ w) | inr w ↦ inr ((e, w.0), now ∙ w.1) ]

  others_apart : (row : Row) (rows : List Row) (value : Value) → same_path row.path path ≡ true → AllByRecursion (λ other. row_cmp row other ≡ Less) rows → ThisThere value rows
  others_apart row [] value is above = tt
  others_apart row (other ∷ rows) value is above = (
    λ there.
        let same : other.path ≡ row.path = paths_equal other.path path there ∙ sym (paths_equal row.path path is) in
        absurd (let no : Equal ≡ Less = sym (tied_itself path_total row.path) ∙ ap (path_cmp row.path) (sym same) ∙ above.0 in cc),
    others_apart row rows value is above.1,
  )

  found_this : (rows : List Row) (value : Value) → IsRising rows → value_at path rows ≡ Some value → ThisThere value rows
  unfolding IsStrictlySortedBy
  found_this [] value up found = tt
  found_this (row ∷ rows) value up found = at (λ now. found_this rows value up.1 now) (same_path row.path path) refl
    where
      at : (value_at path rows ≡ Some value → ThisThere value rows) → (t : Bool) → same_path row.path path ≡ t → ThisThere value (row ∷ rows)
      at more true e =
          let now : Some row.value ≡ Some value = sym (ap (λ t. cond t (Some row.value) (value_at path rows)) e) ∙ found in
          (λ is. cc, others_apart row rows value e up.0)
      at more false e =
          let now : value_at path rows ≡ Some value = sym (ap (λ t. cond t (Some row.value) (value_at path rows)) e) ∙ found in
          (λ is. absurd (true≢false (sym is ∙ e)), more now)

  found_none : (rows : List Row) → value_at path rows ≡ None → NoneThere rows
  found_none [] found = tt
  found_none (row ∷ rows) found = at (found_none rows) (same_path row.path path) refl
    where
      at : (value_at path rows ≡ None → NoneThere rows) → (t : Bool) → same_path row.path path ≡ t → NoneThere (row ∷ rows)
      at more true e = absurd (let now : Some row.value ≡ None = sym (ap (λ t. cond t (Some row.value) (value_at path rows)) e) ∙ found in cc)
      at more false e = (e, more (sym (ap (λ t. cond t (Some row.value) (value_at path rows)) e) ∙ found))

  value_none : (rows : List Row) → NoneThere rows → value_at path rows ≡ None
  value_none [] none = refl
  value_none (row ∷ rows) none = ap (λ t. cond t (Some row.value) (value_at path rows)) none.0 ∙ value_none rows none.1

  same_last : (rows told : List Row) → IsRising rows → IsPermutation rows told → last_value path told None ≡ value_at path rows
  same_last rows told up same = at (value_at path rows) refl
    where
      at : (o : Option Value) → value_at path rows ≡ o → last_value path told None ≡ value_at path rows
      at None e = last_none told None (same_all _ rows told same (found_none rows e)) ∙ sym e
      at (Some value) e =
          elim (last_some value told None (same_all _ rows told same (found_this rows value up e))) [
            | inl w ↦ w ∙ sym e
            | inr w ↦ absurd (let no : None ≡ Some value = sym (value_none rows (same_all _ told rows (IsPermutation-sym rows told same) w.0)) ∙ e in cc)
          ]

pub in_order_again : (rows told : List Row) → IsRising rows → IsPermutation rows told → set_rows told [] ≡ rows
unfolding IsStrictlySortedBy
in_order_again rows told up same = values_decide (set_rows told []) rows (rising_sets told [] tt) up (λ path. value_at_sets path told [] ∙ same_last path rows told up same)
