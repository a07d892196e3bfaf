-- The path above another, the leaf below an instance, and the steps of a path behind so many elements.
use Rattle.std.proofs.Common.{◌≡◌, ℕ, ◌+◌, ◌<◌, ◌≤◌, ◌==◌, length, take, drop, get_or, add-one, List, [], ◌∷◌, ◌++◌, Bool, true, false, ◌&&◌, refl, ap, sym, ◌∙◌, arith}
use Rattle.std.specs.Str.{bytes_eq}
use Rattle.std.specs.Ordering.{is_eq}
use Rattle.std.specs.Cmp.{tied_then}
use Rattle.std.specs.Cmp.Lexicographic.{slice_cmp}
use Rattle.std.proofs.lemmas.List.{drop_all}
use Rattle.std.proofs.Math.Seq.{drop-cons, take-suc}
use Rattle.std.proofs.lemmas.Map.Text.{is_eq-slice_cmp}
use Rattle.base_kinds.specs.declared.path.Elem.{Elem}
use Rattle.base_kinds.specs.Paths.{text_cmp, key_cmp, elem_cmp, path_cmp, same_path}
use Rattle.base_kinds.specs.Ancestors.{path_steps_from, ancestors_from, child, parent_of, parent_names, own_name}

pub above_last : (path front : List Elem) (elem : Elem) → path ≡ front ++ elem ∷ [] → parent_of path ≡ front
above_last path front elem is = rw is (last front elem)
  where
    last : (front : List Elem) (elem : Elem) → parent_of (front ++ elem ∷ []) ≡ front
    last [] elem = refl
    last (a ∷ []) elem = refl
    last (a ∷ b ∷ front) elem = ap (λ rest. a ∷ rest) (last (b ∷ front) elem)

pub above_none : (path : List Elem) → path ≡ [] → parent_of path ≡ []
above_none path is = rw is refl

pub parent_last : (names front : List (List ℕ)) (name : List ℕ) → names ≡ front ++ name ∷ [] → parent_names names ≡ front
parent_last names front name is = rw is (last front name)
  where
    last : (front : List (List ℕ)) (name : List ℕ) → parent_names (front ++ name ∷ []) ≡ front
    last [] name = refl
    last (a ∷ []) name = refl
    last (a ∷ b ∷ front) name = ap (λ rest. a ∷ rest) (last (b ∷ front) name)

pub parent_none : (names : List (List ℕ)) → names ≡ [] → parent_names names ≡ []
parent_none names is = rw is refl

pub own_last : (names front : List (List ℕ)) (name : List ℕ) → names ≡ front ++ name ∷ [] → own_name names ≡ name
own_last names front name is = rw is (last front name)
  where
    last : (front : List (List ℕ)) (name : List ℕ) → own_name (front ++ name ∷ []) ≡ name
    last [] name = refl
    last (a ∷ []) name = refl
    last (a ∷ b ∷ front) name = last (b ∷ front) name

no_keys : (keys : List (List ℕ × List ℕ)) → is_eq (slice_cmp key_cmp keys []) ≡ (length keys == 0)
no_keys [] = refl
no_keys (key ∷ keys) = grind arith

-- an element of that name without keys
pub elem_is : (elem : Elem) (name : List ℕ) → is_eq (elem_cmp elem (record { name = name; keys = [] })) ≡ (bytes_eq elem.name name && (length elem.keys == 0))
elem_is elem name = sym (tied_then (text_cmp elem.name name) (slice_cmp key_cmp elem.keys [])) ∙ ap (λ b. b && is_eq (slice_cmp key_cmp elem.keys [])) (is_eq-slice_cmp elem.name name) ∙ ap (λ b. bytes_eq elem.name name && b) (no_keys elem.keys)

and_true : (b : Bool) → (b && true) ≡ b
and_true true = refl
and_true false = refl

and_false : (b : Bool) → (b && false) ≡ false
and_false true = refl
and_false false = refl

and_in_turn : (a b c : Bool) → (a && (b && c)) ≡ ((a && b) && c)
and_in_turn true b c = refl
and_in_turn false b c = refl

more : (path : List Elem) (a : Elem) → is_eq (path_cmp [] (path ++ a ∷ [])) ≡ false
more [] a = refl
more (b ∷ path) a = refl

fewer : (path : List Elem) (a : Elem) → is_eq (path_cmp (path ++ a ∷ []) []) ≡ false
fewer [] a = refl
fewer (b ∷ path) a = refl

ends : (front parent : List Elem) (a b : Elem) → is_eq (path_cmp (front ++ a ∷ []) (parent ++ b ∷ [])) ≡ (is_eq (path_cmp front parent) && is_eq (elem_cmp a b))
ends [] [] a b = sym (tied_then (elem_cmp a b) (path_cmp [] [])) ∙ and_true (is_eq (elem_cmp a b))
ends [] (p ∷ parent) a b = sym (tied_then (elem_cmp a p) (path_cmp [] (parent ++ b ∷ []))) ∙ ap (λ s. is_eq (elem_cmp a p) && s) (more parent b) ∙ and_false (is_eq (elem_cmp a p))
ends (f ∷ front) [] a b = sym (tied_then (elem_cmp f b) (path_cmp (front ++ a ∷ []) [])) ∙ ap (λ s. is_eq (elem_cmp f b) && s) (fewer front a) ∙ and_false (is_eq (elem_cmp f b))
ends (f ∷ front) (p ∷ parent) a b =
    sym (tied_then (elem_cmp f p) (path_cmp (front ++ a ∷ []) (parent ++ b ∷ [])))
    ∙ ap (λ s. is_eq (elem_cmp f p) && s) (ends front parent a b)
    ∙ and_in_turn (is_eq (elem_cmp f p)) (is_eq (path_cmp front parent)) (is_eq (elem_cmp a b))
    ∙ ap (λ s. s && is_eq (elem_cmp a b)) (tied_then (elem_cmp f p) (path_cmp front parent))

-- a path is that of the leaf where the parent and the last element are
pub child_known : (path front parent : List Elem) (elem : Elem) (name : List ℕ) → path ≡ front ++ elem ∷ [] → same_path path (child parent name) ≡ (same_path front parent && is_eq (elem_cmp elem (record { name = name; keys = [] })))
child_known path front parent elem name is = rw is (ends front parent elem (record { name = name; keys = [] }))

pub child_none : (path parent : List Elem) (name : List ℕ) → path ≡ [] → same_path path (child parent name) ≡ false
child_none path parent name is = rw is (more parent (record { name = name; keys = [] }))

-- the steps behind so many elements
pub steps_at : (path : List Elem) (n : ℕ) (elem : Elem) → n < length path → elem ≡ get_or path n elem → path_steps_from (take n path) (drop n path) ≡ (take (n + 1) path, elem) ∷ path_steps_from (take (n + 1) path) (drop (n + 1) path)
steps_at path n elem lt is = rw (add-one, drop-cons path n elem lt, take-suc path n elem lt, ← is) refl

parents_with : (path : List Elem) (n : ℕ) (elem : Elem) → n < length path → ancestors_from (take n path) (drop n path) ≡ take n path ∷ ancestors_from (take (n + 1) path) (drop (n + 1) path)
parents_with path n elem lt = rw (add-one, drop-cons path n elem lt, take-suc path n elem lt) refl

-- the instances behind so many elements
pub parents_at : (path : List Elem) (n : ℕ) → n < length path → ancestors_from (take n path) (drop n path) ≡ take n path ∷ ancestors_from (take (n + 1) path) (drop (n + 1) path)
parents_at [] n lt = absurd (omega arith)
parents_at (first ∷ path) n lt = parents_with (first ∷ path) n first lt

pub drop_end : (path : List Elem) (n : ℕ) → length path ≤ n → drop n path ≡ []
drop_end path n le = drop_all n path le
