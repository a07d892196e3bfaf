-- The one instance of a leaf's parent that a path may stand below.
use Rattle.std.proofs.Common.{◌≡◌, ℕ, ◌+◌, ◌<◌, ◌≤◌, List, [], ◌∷◌, ◌++◌, length, length-append, append_assoc, take, refl, sym, ap, ◌∙◌, arith, Bool, true, false, not, ◌&&◌, ◌||◌, inl, inr}
use Rattle.std.specs.List.{list_all}
use Rattle.std.proofs.lemmas.Bool.{cases_order}
use Rattle.std.proofs.lemmas.List.{take_at, take-take}
use Rattle.base_kinds.specs.declared.path.Elem.{Elem}
use Rattle.base_kinds.specs.declared.operation.Row.{Row}
use Rattle.base_kinds.specs.Schema.{names_of, same_names}
use Rattle.base_kinds.specs.Valid.{has_row, stands_below}
use Rattle.base_kinds.specs.Ancestors.{ancestors, ancestors_from, parent_names, own_name, child}
use Rattle.schema_core.proofs.NodeLemmas.{same_decides}

length_names : (path : List Elem) → length (names_of path) ≡ length path
length_names [] = refl
length_names (elem ∷ path) = let behind = length_names path in omega (arith, behind)

and_true : (b : Bool) → (b && true) ≡ b
and_true true = refl
and_true false = refl

module _ (rows : List Row) (names : List (List ℕ)) where
  -- nothing is asked of an instance that is longer or shorter than the parent's names
  not_asked : (instance : List Elem) → (length instance ≡ length (parent_names names) → ⊥) → stands_below rows names instance ≡ true
  not_asked instance other = by (same_names (names_of instance) (parent_names names)) refl
    where
      by : (same : Bool) → same_names (names_of instance) (parent_names names) ≡ same → (not same || has_row rows (child instance (own_name names))) ≡ true
      by true is = absurd (other (sym (length_names instance) ∙ ap length ((same_decides (names_of instance) (parent_names names)).0 is)))
      by false is = refl

  longer : (front elems : List Elem) → length (parent_names names) < length front → list_all (stands_below rows names) (ancestors_from front elems) ≡ true
  longer front [] above = refl
  longer front (elem ∷ elems) above =
      let here : stands_below rows names front ≡ true = not_asked front (λ same. omega (arith, same, above)) in
      let more = length-append front (elem ∷ []) in
      ap (λ b. b && list_all (stands_below rows names) (ancestors_from (front ++ elem ∷ []) elems)) here ∙ longer (front ++ elem ∷ []) elems (omega (arith, above, more))

  shorter : (front elems : List Elem) → length front + length elems ≤ length (parent_names names) → list_all (stands_below rows names) (ancestors_from front elems) ≡ true
  shorter front [] below = refl
  shorter front (elem ∷ elems) below =
      let here : stands_below rows names front ≡ true = not_asked front (λ same. omega (arith, same, below)) in
      let more = length-append front (elem ∷ []) in
      ap (λ b. b && list_all (stands_below rows names) (ancestors_from (front ++ elem ∷ []) elems)) here ∙ shorter (front ++ elem ∷ []) elems (omega (arith, below, more))

  reached : (front elems : List Elem) → length front ≤ length (parent_names names) → length (parent_names names) < length front + length elems → stands_below rows names (take (length (parent_names names)) (front ++ elems)) ≡ list_all (stands_below rows names) (ancestors_from front elems)
  reached front [] from less = absurd (omega arith)
  reached front (elem ∷ elems) from less =
      let depth = length (parent_names names) in
      let behind = list_all (stands_below rows names) (ancestors_from (front ++ elem ∷ []) elems) in
      let more = length-append front (elem ∷ []) in
      elim (cases_order (length front) depth) [
        | inl same ↦
            let none : behind ≡ true = longer (front ++ elem ∷ []) elems (omega (arith, same, more)) in
            ap (stands_below rows names) (take_at front (elem ∷ elems) depth same) ∙ sym (ap (λ b. stands_below rows names front && b) none ∙ and_true (stands_below rows names front))
        | inr apart ↦ elim apart [
          | inl less_far ↦
              let here : stands_below rows names front ≡ true = not_asked front (λ same. omega (arith, same, less_far)) in
              let regrouped : front ++ elem ∷ elems ≡ (front ++ elem ∷ []) ++ elems = sym (append_assoc front (elem ∷ []) elems) in
              ap (λ path. stands_below rows names (take depth path)) regrouped ∙ reached (front ++ elem ∷ []) elems (omega (arith, less_far, more)) (omega (arith, less, more)) ∙ sym (ap (λ b. b && behind) here)
          | inr far ↦ absurd (omega (arith, far, from))
        ]
      ]

-- a path that is no longer than the names of the parent stands below no instance of it
pub too_short : (rows : List Row) (names : List (List ℕ)) (path : List Elem) → length path ≤ length (parent_names names) → true ≡ list_all (stands_below rows names) (ancestors path)
too_short rows names path below = sym (shorter rows names [] path (omega arith))

-- and a longer one below one at most
pub just_there : (rows : List Row) (names : List (List ℕ)) (path : List Elem) → length (parent_names names) < length path → stands_below rows names (take (length (parent_names names)) path) ≡ list_all (stands_below rows names) (ancestors path)
just_there rows names path less = reached rows names [] path (omega arith) (omega arith)

-- paths with the same front have the same shorter ones
pub front_same : (last path : List Elem) (depth seen : ℕ) → depth ≤ seen → take seen last ≡ take seen path → take depth last ≡ take depth path
front_same last path depth seen within same = sym (take-take depth seen last within) ∙ ap (take depth) same ∙ take-take depth seen path within

-- where the last path is below the instance, the leaf stands there
pub seen_there : (rows : List Row) (names : List (List ℕ)) (last path : List Elem) → list_all (stands_below rows names) (ancestors last) ≡ true → length (parent_names names) < length last → take (length (parent_names names)) last ≡ take (length (parent_names names)) path → stands_below rows names (take (length (parent_names names)) path) ≡ true
seen_there rows names last path passed longer_last same = sym (ap (stands_below rows names) same) ∙ just_there rows names last longer_last ∙ passed
