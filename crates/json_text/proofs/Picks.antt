-- Which run a row stands in, and the keys of entries among the rows of a run.
use Rattle.std.proofs.Common.{◌≡◌, ℕ, List, [], ◌∷◌, ◌++◌, ◌⊎◌, inl, inr, Ordering, Less, Equal, refl, sym, ap, subst, ◌∙◌, append_assoc}
use Rattle.std.specs.List.{AllByRecursion}
use Rattle.std.specs.Cmp.{IsTotalOrder}
use Rattle.std.proofs.lemmas.Cmp.{tied_itself}
use Rattle.base_kinds.specs.declared.path.Elem.{Elem}
use Rattle.base_kinds.specs.declared.operation.Row.{Row}
use Rattle.base_kinds.specs.Keys.{key_text}
use Rattle.json_text.proofs.RunsBack.{whole, IsRun, Below, RunsRise}

abbrev pub In : Row → List Row → Type 0
In r [] = ⊥
In r (x ∷ xs) = (x ≡ r) ⊎ In r xs

pub in_append : (r : Row) (xs ys : List Row) → In r (xs ++ ys) → In r xs ⊎ In r ys
in_append r [] ys there = inr there
in_append r (x ∷ xs) ys there = elim there [ inl w ↦ inl (inl w) | inr w ↦ (elim (in_append r xs ys w) [ inl u ↦ inl (inr u) | inr u ↦ inr u ]) ]

pub all_in : (P : Row → Type 0) (r : Row) (xs : List Row) → AllByRecursion P xs → In r xs → P r
all_in P r [] all there = absurd there
all_in P r (x ∷ xs) all there = elim there [ inl w ↦ subst P w all.0 | inr w ↦ all_in P r xs all.1 w ]

module _ {K : Type 0} (key : Row → K) (cmp : K → K → Ordering) (total : IsTotalOrder cmp) where
  never_less : (k l : K) → k ≡ l → cmp k l ≡ Less → ⊥
  never_less k l same less = let no : Equal ≡ Less = sym (tied_itself total k) ∙ ap (cmp k) same ∙ less in cc

  run_key : (r row : Row) (run : List Row) → AllByRecursion (λ other. key other ≡ key row) run → In r (row ∷ run) → key r ≡ key row
  run_key r row run all there = all_in (λ other. key other ≡ key row) r (row ∷ run) (refl, all) there

  less_key : (r : Row) (k : K) (gs : List (List Row)) → AllByRecursion (Below key cmp total k) gs → AllByRecursion (IsRun key) gs → In r (whole gs) → cmp k (key r) ≡ Less
  less_key r k [] below are there = absurd there
  less_key r k ([] ∷ gs) below are there = absurd are.0
  less_key r k ((row ∷ run) ∷ gs) below are there =
      elim (in_append r (row ∷ run) (whole gs) there) [
        | inl w ↦ ap (cmp k) (run_key r row run are.0 w) ∙ below.0
        | inr w ↦ less_key r k gs below.1 are.1 w
      ]

  abbrev pub SameKey : Row → List Row → Type 0
  SameKey r [] = ⊥
  SameKey r (row ∷ run) = key r ≡ key row

  none_same : (r : Row) (k : K) (gs : List (List Row)) → AllByRecursion (Below key cmp total k) gs → key r ≡ k → AllByRecursion (λ g. SameKey r g → In r g) gs
  none_same r k [] below same = tt
  none_same r k ([] ∷ gs) below same = absurd below.0
  none_same r k ((row ∷ run) ∷ gs) below same = ((λ e. absurd (never_less k (key row) (sym same ∙ e) below.0)), none_same r k gs below.1 same)

  -- a row stands in the run that has its key
  pub pick : (r : Row) (gs : List (List Row)) → AllByRecursion (IsRun key) gs → RunsRise key cmp total gs → In r (whole gs) → AllByRecursion (λ g. SameKey r g → In r g) gs
  pick r [] are up there = tt
  pick r ([] ∷ gs) are up there = absurd up
  pick r ((row ∷ run) ∷ gs) are up there =
      elim (in_append r (row ∷ run) (whole gs) there) [
        | inl w ↦ ((λ e. w), none_same r (key row) gs up.0 (run_key r row run are.0 w))
        | inr w ↦ ((λ e. absurd (never_less (key row) (key r) (sym e) (less_key r (key row) gs up.0 are.1 w))), pick r gs are.1 up.1 w)
      ]

-- ---- keys

abbrev plain : List ℕ → Elem
plain name = record { name = name; keys = [] }

-- the key's leaf is among the rows, and its text is the key's
abbrev pub HasKey : List Row → List Elem → List ℕ × List ℕ → Type 0
HasKey rows instance key = (r : Row) × In r rows × (r.path ≡ instance ++ plain key.0 ∷ []) × (key_text r.value ≡ key.1)

-- each element of the path behind this front has its keys' leaves among the rows
abbrev pub KeyedFrom : List Row → List Elem → List Elem → Type 0
KeyedFrom rows front [] = Unit {0}
KeyedFrom rows front (e ∷ es) = AllByRecursion (HasKey rows (front ++ e ∷ [])) e.keys × KeyedFrom rows (front ++ e ∷ []) es

-- the rows at and below the front are among these others
abbrev pub Closed : List Row → List Row → List Elem → Type 0
Closed rows run front = (r : Row) (rest : List Elem) → In r rows → r.path ≡ front ++ rest → In r run

keys_into : (rows run : List Row) (front : List Elem) (e : Elem) (keys : List (List ℕ × List ℕ)) → Closed rows run front → AllByRecursion (HasKey rows (front ++ e ∷ [])) keys → AllByRecursion (HasKey run (front ++ e ∷ [])) keys
keys_into rows run front e [] closed all = tt
keys_into rows run front e (key ∷ keys) closed all =
    let h = all.0 in
    ((h.0, closed h.0 (e ∷ plain key.0 ∷ []) h.1 (h.2 ∙ append_assoc front (e ∷ []) (plain key.0 ∷ [])), h.2, h.3), keys_into rows run front e keys closed all.1)

pub keys_here : (rows run : List Row) (place : List Elem) (keys : List (List ℕ × List ℕ)) → Closed rows run place → AllByRecursion (HasKey rows place) keys → AllByRecursion (HasKey run place) keys
keys_here rows run place [] closed all = tt
keys_here rows run place (key ∷ keys) closed all =
    let h = all.0 in
    ((h.0, closed h.0 (plain key.0 ∷ []) h.1 h.2, h.2, h.3), keys_here rows run place keys closed all.1)

pub keyed_into : (rows run : List Row) (front es : List Elem) → Closed rows run front → KeyedFrom rows front es → KeyedFrom run front es
keyed_into rows run front [] closed keyed = tt
keyed_into rows run front (e ∷ es) closed keyed = (
  keys_into rows run front e e.keys closed keyed.0,
  keyed_into rows run (front ++ e ∷ []) es (λ r rest there path. closed r (e ∷ rest) there (path ∙ append_assoc front (e ∷ []) rest)) keyed.1,
)
