-- The JSON of a tree means its rows.
use Rattle.std.proofs.Common.{◌≡◌, ℕ, ◌&&◌, List, [], ◌∷◌, ◌++◌, length, drop, Bool, true, true≢false, inl, inr, bytes_eq, None, Ok, refl, sym, ap, ◌∙◌}
use Rattle.std.specs.List.{list_all, list_any, AllByRecursion}
use Rattle.std.proofs.lemmas.Bool.{and_parts}
use Rattle.serde_json.specs.Data.{Members}
use Rattle.base_kinds.specs.declared.path.Elem.{Elem}
use Rattle.base_kinds.specs.declared.operation.Row.{Row}
use Rattle.base_kinds.specs.Schema.{SchemaNode}
use Rattle.base_kinds.specs.Valid.{row_has_nodes, row_has_type, has_key_leaf}
use Rattle.base_kinds.specs.Ancestors.{path_steps_from, child}
use Rattle.base_kinds.specs.Paths.{same_path}
use Rattle.base_kinds.specs.Keys.{key_text}
use Rattle.std.proofs.lemmas.Slice.Eq.{bytes_eq-Decides}
use Rattle.history_laws.proofs.Values.{paths_equal as equal_paths}
use Rattle.base_kinds.specs.Rising.{IsRising}
use Rattle.base_lists.specs.Results.{and_then}
use Rattle.json_rows.specs.Walk.{rows_of_members}
use Rattle.json_rows.specs.Rows.{rows_by_path}
use Rattle.json_text.specs.laws.ReadBack.{TreesReadBack}
use Rattle.json_text.specs.laws.Rows.{IsWhole, IsBelow, row_ordered, keyed_behind}
use Rattle.base_kinds.specs.Limits.{most_elements}
use Rattle.json_text.proofs.Parts.{ObjectBack, walk, rows_in}
use Rattle.json_text.proofs.Picks.{In, HasKey, KeyedFrom}
use Rattle.json_text.proofs.KeysBack.{either_true}
use Rattle.json_text.proofs.Lookups.{KeyLeaf}
use Rattle.json_text.proofs.Below.{Good}
use Rattle.json_text.proofs.Levels.{object_back}
use Rattle.json_text.proofs.InOrder.{in_order_again}

pub all_good : (schema : List SchemaNode) (here : List Elem) (rows : List Row) → AllByRecursion (λ row. IsBelow here row.path) rows → list_all (row_has_nodes schema) rows ≡ true → list_all (row_has_type schema) rows ≡ true → list_all (row_ordered schema) rows ≡ true → AllByRecursion (λ row. IsWhole row.value) rows
    → AllByRecursion (Good schema most_elements here) rows
all_good schema here [] below known shaped outside whole = tt
all_good schema here (row ∷ rows) below known shaped outside whole =
    let k = and_parts (row_has_nodes schema row) (list_all (row_has_nodes schema) rows) known in
    let s = and_parts (row_has_type schema row) (list_all (row_has_type schema) rows) shaped in
    let o = and_parts (row_ordered schema row) (list_all (row_ordered schema) rows) outside in (
      record { elem = below.0.elem; rest = below.0.rest; is = below.0.is; short = below.0.few; known = k.0; shaped = s.0; ordered = o.0; kept = whole.0 },
      all_good schema here rows below.1 k.1 s.1 o.1 whole.1,
    )

-- ---- keys

pub any_in : (test : Row → Bool) (rows : List Row) → list_any test rows ≡ true → (r : Row) × In r rows × (test r ≡ true)
any_in test [] any = absurd (true≢false (sym any))
any_in test (row ∷ rows) any =
    elim (either_true (test row) (list_any test rows) any) [ inl w ↦ (row, inl refl, w) | inr w ↦ (let later = any_in test rows w in (later.0, inr later.1, later.2)) ]

pub has_keys : (rows : List Row) (place : List Elem) (keys : List (List ℕ × List ℕ)) → list_all (has_key_leaf rows place) keys ≡ true → AllByRecursion (HasKey rows place) keys
has_keys rows place [] all = tt
has_keys rows place (key ∷ keys) all =
    let parts = and_parts (has_key_leaf rows place key) (list_all (has_key_leaf rows place) keys) all in
    let there = any_in (λ row. same_path row.path (child place key.0) && bytes_eq (key_text row.value) key.1) rows parts.0 in
    let both = and_parts (same_path there.0.path (child place key.0)) (bytes_eq (key_text there.0.value) key.1) there.2 in
    ((there.0, there.1, equal_paths there.0.path (child place key.0) both.0, (bytes_eq-Decides (key_text there.0.value) key.1).0 both.1), has_keys rows place keys parts.1)

keyed_from : (rows : List Row) (front es : List Elem) → list_all (λ (step : List Elem × Elem). list_all (has_key_leaf rows step.0) step.1.keys) (path_steps_from front es) ≡ true → KeyedFrom rows front es
keyed_from rows front [] all = tt
keyed_from rows front (e ∷ es) all =
    let parts = and_parts (list_all (has_key_leaf rows (front ++ e ∷ [])) e.keys) (list_all (λ (step : List Elem × Elem). list_all (has_key_leaf rows step.0) step.1.keys) (path_steps_from (front ++ e ∷ []) es)) all in
    (has_keys rows (front ++ e ∷ []) e.keys parts.0, keyed_from rows (front ++ e ∷ []) es parts.1)

pub all_keyed_behind : (rows : List Row) (here : List Elem) (some : List Row) → list_all (keyed_behind rows here) some ≡ true → AllByRecursion (λ row. KeyedFrom rows here (drop (length here) row.path)) some
all_keyed_behind rows here [] all = tt
all_keyed_behind rows here (row ∷ some) all =
    let parts = and_parts (keyed_behind rows here row) (list_all (keyed_behind rows here) some) all in
    (keyed_from rows here (drop (length here) row.path) parts.0, all_keyed_behind rows here some parts.1)

-- an object that reads back gives the rows in order
pub ordered : (schema : List SchemaNode) (here : List Elem) (ms : Members) (rows : List Row) → ObjectBack schema here (KeyLeaf schema here) ms rows → IsRising rows → and_then (rows_of_members schema here [] [] ms) rows_by_path ≡ Ok rows
ordered schema here ms rows back up =
    ap (λ (x : Members). and_then (rows_of_members schema here [] [] x) rows_by_path) back.is ∙ ap (λ answer. and_then answer rows_by_path) (walk schema here back.parts [] back.reads back.own) ∙ ap Ok (in_order_again rows (rows_in back.parts) up back.same)

pub tree_back : TreesReadBack
tree_back schema rows formed part =
    let good = all_good schema [] rows part.below part.known part.shaped part.ordered part.whole in
    ordered schema [] _ rows (object_back schema formed most_elements None [] rows good part.rising (all_keyed_behind rows [] rows part.keyed)) part.rising
