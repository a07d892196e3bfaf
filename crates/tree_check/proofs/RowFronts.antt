-- The fronts of a path behind so many of its elements.
use Rattle.std.proofs.Common.{◌≡◌, ℕ, ◌+◌, ◌<◌, length, take, drop, get_or, List, [], ◌∷◌, ◌++◌, refl, ap, sym, ◌∙◌, Some, Bool, true, false, ◌&&◌}
use Rattle.std.proofs.lemmas.List.{drop_more, take_more, take-append-drop, append-nil, append_assoc}
use Rattle.base_kinds.specs.declared.path.Elem.{Elem}
use Rattle.base_kinds.specs.Valid.{has_key_leaf, node_is_present, mandatory_present}
use Rattle.base_kinds.specs.Ancestors.{path_steps, path_steps_from}
use Rattle.base_kinds.specs.Schema.{SchemaNode}
use Rattle.base_kinds.specs.declared.operation.Row.{Row}
use Rattle.std.specs.Prelude.{slice_get}
use Rattle.std.specs.List.{list_all}
use Rattle.std.proofs.lemmas.Option.{slice_get_within, get_or_from_slice_get}
use Rattle.std.proofs.lemmas.List.Folds.{list_all_at, list_all_more, list_all-append}

-- one more step: the front that ends in this element
pub steps_at : (path : List Elem) (n : ℕ) (elem : Elem) → n < length path → elem ≡ get_or path n elem → path_steps_from (take n path) (drop n path) ≡ (take (n + 1) path, elem) ∷ path_steps_from (take (n + 1) path) (drop (n + 1) path)
steps_at path n elem less is = rw (drop_more path n elem less, take_more path n elem less, ← is) refl

steps_append : (front xs ys : List Elem) → path_steps_from front (xs ++ ys) ≡ path_steps_from front xs ++ path_steps_from (front ++ xs) ys
steps_append front [] ys = ap (λ f. path_steps_from f ys) (sym (append-nil front))
steps_append front (x ∷ xs) ys =
    ap (λ rest. (front ++ x ∷ [], x) ∷ rest) (steps_append (front ++ x ∷ []) xs ys ∙ ap (λ f. path_steps_from (front ++ x ∷ []) xs ++ path_steps_from f ys) (append_assoc front (x ∷ []) xs))

-- the steps of so many elements, and those behind them
steps_split : (path : List Elem) (n : ℕ) → path_steps path ≡ path_steps_from [] (take n path) ++ path_steps_from (take n path) (drop n path)
steps_split path n = ap path_steps (sym (take-append-drop n path)) ∙ steps_append [] (take n path) (drop n path)

both_true : (a b : Bool) → (a && b) ≡ true → a ≡ true
both_true true b is = refl
both_true false b is = is

-- of a path behind another one whose steps pass, those behind the front that both share decide
pub steps_seen : (rows : List Row) (last path : List Elem) (seen : ℕ) → list_all (λ step. list_all (has_key_leaf rows step.0) step.1.keys) (path_steps last) ≡ true → take seen last ≡ take seen path → list_all (λ step. list_all (has_key_leaf rows step.0) step.1.keys) (path_steps_from (take seen path) (drop seen path)) ≡ list_all (λ step. list_all (has_key_leaf rows step.0) step.1.keys) (path_steps path)
steps_seen rows last path seen passed same =
    sym (cut path ∙ ap (λ b. b && list_all test (path_steps_from (take seen path) (drop seen path))) front)
  where
    test : List Elem × Elem → Bool
    test step = list_all (has_key_leaf rows step.0) step.1.keys

    cut : (path : List Elem) → list_all test (path_steps path) ≡ (list_all test (path_steps_from [] (take seen path)) && list_all test (path_steps_from (take seen path) (drop seen path)))
    cut path = ap (list_all test) (steps_split path seen) ∙ list_all-append test (path_steps_from [] (take seen path)) (path_steps_from (take seen path) (drop seen path))

    front : list_all test (path_steps_from [] (take seen path)) ≡ true
    front = ap (λ elems. list_all test (path_steps_from [] elems)) (sym same) ∙ both_true (list_all test (path_steps_from [] (take seen last))) (list_all test (path_steps_from (take seen last) (drop seen last))) (sym (cut last) ∙ passed)

-- ---- nodes one after another

-- one node decides where its leaf doesn't stand
pub one_fails : (rows : List Row) (nodes : List SchemaNode) (number : ℕ) (node : SchemaNode) → slice_get nodes number ≡ Some node → node_is_present rows node ≡ false → mandatory_present nodes rows ≡ false
one_fails rows nodes number node got fails =
    list_all_at (node_is_present rows) nodes number node (slice_get_within nodes number node got) (ap (node_is_present rows) (get_or_from_slice_get nodes number node node got) ∙ fails)

-- and adds one to those whose leaves stand
pub one_passes : (rows : List Row) (nodes : List SchemaNode) (number : ℕ) (node : SchemaNode) → slice_get nodes number ≡ Some node → list_all (node_is_present rows) (take number nodes) ≡ true → node_is_present rows node ≡ true → list_all (node_is_present rows) (take (number + 1) nodes) ≡ true
one_passes rows nodes number node got before passes =
    list_all_more (node_is_present rows) nodes number node (slice_get_within nodes number node got)
    ∙ ap (λ b. b && node_is_present rows (get_or nodes number node)) before
    ∙ ap (node_is_present rows) (get_or_from_slice_get nodes number node node got)
    ∙ passes
