-- Rows of a walk under a well-formed schema may stand in an operation.
use Rattle.std.proofs.Common.{◌≡◌, ℕ, zero, suc, ◌+◌, ◌-◌, ◌≤◌, List, [], ◌∷◌, ◌++◌, Bool, true, false, true≢false, cond, not, ◌&&◌, ◌||◌, eqb, leb, length, take, Option, Some, None, Result, Ok, Err, refl, sym, ap, ◌∙◌, subst, arith}
use Rattle.std.specs.List.{list_all, list_any, slice_get}
use Rattle.std.specs.Option.{option_and_then}
use Rattle.std.specs.Str.{bytes_eq}
use Rattle.std.specs.Ordering.{is_eq, is_gt, is_lt, ordering_reverse}
use Rattle.std.specs.declared.cmp.Ordering.{Ordering}
use Rattle.std.specs.declared.cmp.Ordering.TheVariants.{Less, Equal, Greater}
use Rattle.std.proofs.lemmas.Bool.{and_parts, and_from}
use Rattle.std.proofs.lemmas.Cmp.{nat_list_cmp_total}
use Rattle.std.proofs.lemmas.Map.Text.{is_eq-slice_cmp}
use Rattle.serde_json.specs.Data.{Data, null, boolean, number, string, array, object, Items, no_items, item, Members, no_members, member}
use Rattle.base_lists.specs.Results.{and_then}
use Rattle.base_lists.specs.Rising.{rises}
use Rattle.base_kinds.specs.declared.path.Elem.{Elem}
use Rattle.base_kinds.specs.declared.operation.Row.{Row}
use Rattle.base_kinds.specs.declared.schema.Shape.{Shape}
use Rattle.base_kinds.specs.declared.schema.Shape.TheVariants as shapes
use Rattle.base_kinds.specs.declared.schema.Sort.{Sort}
use Rattle.base_kinds.specs.declared.schema.Sort.TheVariants as sorts
use Rattle.base_kinds.specs.declared.value.Value.{Value}
use Rattle.base_kinds.specs.declared.value.Value as v
use Rattle.base_kinds.specs.declared.value.Value.TheVariants as values
use Rattle.base_kinds.specs.Legal.{is_fit_elem, is_fit_path, is_fit_scalar, is_fit_value, is_fit_row}
use Rattle.base_kinds.specs.Paths.{text_cmp, path_cmp}
use Rattle.base_kinds.specs.Schema.{SchemaNode, names_of, node_of, node_at}
use Rattle.base_kinds.specs.Tree.{set_row, set_rows, placed}
use Rattle.base_kinds.specs.Valid.{unless_none}
use Rattle.base_kinds.specs.Values.{is_list, values_in, has_shape, same_scalar}
use Rattle.base_kinds.proofs.Lists.{values_in-List}
use Rattle.schema_core.specs.Shapes.{is_fit_shape, texts_differ}
use Rattle.schema_core.specs.WellFormed.{IsWellFormed}
use Rattle.schema_core.proofs.NodeLemmas.{stands_there}
use Rattle.schema_core.proofs.WellFormedLemmas.{formed_node}
use Rattle.json_rows.specs.declared.fault.RowsFault.{RowsFault}
use Rattle.json_rows.specs.declared.fault.RowsFault.TheVariants.{BadValue}
use Rattle.json_rows.specs.Leaves.{value_of_data, if_shaped, leaf_at, unless_listed, values_from}
use Rattle.json_rows.specs.Members.{child_at, child_named, is_of_module, if_of_module, if_fresh, fresh_child, module_in, name_in}
use Rattle.json_rows.specs.Entries.{KeyList, key_of_entry, required_key, with_key, keys_of_entry, keys_unless_seen, entry_keys_agree}
use Rattle.json_rows.specs.Walk.{below, rows_with_row, rows_with_leaf, rows_with_leaf_list, rows_at_node, rows_of_members, rows_of_entries, rows_of_object}
use Rattle.json_rows.specs.Rows.{data_of, is_entry, rows_of_entry, rows_at_node_of_path, rows_at_path, rows_of_walk, rows_by_path, rows_of_data}
use Rattle.json_rows.specs.laws.Fitness.{RowsAreFit}
use Rattle.json_rows.proofs.Ends.{names_above_last}
use Rattle.json_rows.proofs.Walks.{came, other_keys}

abbrev pub AreFit : List Row → Type 0
AreFit rows = list_all is_fit_row rows ≡ true

-- ---- lists

pub all_append : {A : Type 0} (test : A → Bool) (xs ys : List A) → list_all test xs ≡ true → list_all test ys ≡ true → list_all test (xs ++ ys) ≡ true
all_append test [] ys all others = others
all_append test (x ∷ xs) ys all others =
    let both = and_parts (test x) (list_all test xs) all in
    and_from (test x) (list_all test (xs ++ ys)) both.0 (all_append test xs ys both.1 others)

pub one_of : {A : Type 0} (test : A → Bool) (x : A) → test x ≡ true → list_all test (x ∷ []) ≡ true
one_of test x is = and_from (test x) true is refl

pub all_taken : {A : Type 0} (test : A → Bool) (n : ℕ) (xs : List A) → list_all test xs ≡ true → list_all test (take n xs) ≡ true
all_taken test zero xs all = refl
all_taken test (suc n) [] all = refl
all_taken test (suc n) (x ∷ xs) all =
    let both = and_parts (test x) (list_all test xs) all in
    and_from (test x) (list_all test (take n xs)) both.0 (all_taken test n xs both.1)

-- a tree with fit rows set in it has fit rows
placed_fit : (order : Ordering) (row first : Row) (others set : List Row) → is_fit_row row ≡ true → AreFit (first ∷ others) → AreFit set → AreFit (placed order row first others set)
placed_fit Less row first others set own all more = and_from (is_fit_row first) (list_all is_fit_row set) (and_parts (is_fit_row first) (list_all is_fit_row others) all).0 more
placed_fit Equal row first others set own all more = and_from (is_fit_row row) (list_all is_fit_row others) own (and_parts (is_fit_row first) (list_all is_fit_row others) all).1
placed_fit Greater row first others set own all more = and_from (is_fit_row row) (list_all is_fit_row (first ∷ others)) own all

set_fit : (row : Row) (tree : List Row) → is_fit_row row ≡ true → AreFit tree → AreFit (set_row row tree)
set_fit row [] own all = one_of is_fit_row row own
set_fit row (first ∷ others) own all =
    placed_fit (path_cmp first.path row.path) row first others (set_row row others) own all
    (set_fit row others own (and_parts (is_fit_row first) (list_all is_fit_row others) all).1)

pub sets_fit : (rows tree : List Row) → AreFit rows → AreFit tree → AreFit (set_rows rows tree)
sets_fit [] tree all fit = fit
sets_fit (row ∷ rows) tree all fit =
    let both = and_parts (is_fit_row row) (list_all is_fit_row rows) all in
    sets_fit rows (set_row row tree) both.1 (set_fit row tree both.0 fit)

-- ---- values

same_number : (a b : ℕ) → eqb a b ≡ true → a ≡ b
same_number a b is = grind (arith, is)

places_fit : (shape : Shape) (digits : _) (places : ℕ) → is_fit_shape shape ≡ true → has_shape shape (values.Dec digits places) ≡ true → is_fit_scalar (values.Dec digits places) ≡ true
places_fit shapes.Bool digits places fit has = absurd (true≢false (sym has))
places_fit (shapes.Int width) digits places fit has = absurd (true≢false (sym has))
places_fit (shapes.Uint width) digits places fit has = absurd (true≢false (sym has))
places_fit (shapes.Dec own) digits places fit has = subst (λ p. (leb 1 p && leb p 18) ≡ true) (same_number own places has) fit
places_fit shapes.Text digits places fit has = absurd (true≢false (sym has))
places_fit shapes.Bin digits places fit has = absurd (true≢false (sym has))
places_fit (shapes.Enum texts) digits places fit has = absurd (true≢false (sym has))

-- a value of a shape that can be declared may stand in an operation
pub scalar_fits : (shape : Shape) (value : Value) → is_fit_shape shape ≡ true → has_shape shape value ≡ true → is_fit_scalar value ≡ true
scalar_fits shape (v.Dec digits places) fit has = places_fit shape digits places fit has
scalar_fits shape (v.Bool b) fit has = refl
scalar_fits shape (v.Int n) fit has = refl
scalar_fits shape (v.Uint n) fit has = refl
scalar_fits shape (v.Text t) fit has = refl
scalar_fits shape (v.Bin t) fit has = refl
scalar_fits shape (v.Enum t) fit has = refl
scalar_fits shapes.Bool (v.List' n inner) fit has = absurd (true≢false (sym has))
scalar_fits (shapes.Int width) (v.List' n inner) fit has = absurd (true≢false (sym has))
scalar_fits (shapes.Uint width) (v.List' n inner) fit has = absurd (true≢false (sym has))
scalar_fits (shapes.Dec places) (v.List' n inner) fit has = absurd (true≢false (sym has))
scalar_fits shapes.Text (v.List' n inner) fit has = absurd (true≢false (sym has))
scalar_fits shapes.Bin (v.List' n inner) fit has = absurd (true≢false (sym has))
scalar_fits (shapes.Enum texts) (v.List' n inner) fit has = absurd (true≢false (sym has))

-- a value that is no list, and a list of such
pub value_fits : (value : Value) → is_fit_scalar value ≡ true → is_fit_value value ≡ true
value_fits (v.List' n inner) fits = absurd (true≢false (sym fits))
value_fits (v.Bool b) fits = fits
value_fits (v.Int b) fits = fits
value_fits (v.Uint b) fits = fits
value_fits (v.Dec b c) fits = fits
value_fits (v.Text b) fits = fits
value_fits (v.Bin b) fits = fits
value_fits (v.Enum b) fits = fits

list_is : (vs : List Value) → is_list (values.List vs) ≡ true
unfolding Rattle.base_kinds.specs.declared.value.Value.TheBlock.hidden-the_row-Value-0 denote.Hole.Carrier.hidden
list_is vs = refl

list_fits : (value : Value) → is_list value ≡ true → list_all is_fit_scalar (values_in value) ≡ true → is_fit_value value ≡ true
list_fits (v.List' n inner) is all = all
list_fits (v.Bool b) is all = absurd (true≢false (sym is))
list_fits (v.Int b) is all = absurd (true≢false (sym is))
list_fits (v.Uint b) is all = absurd (true≢false (sym is))
list_fits (v.Dec b c) is all = absurd (true≢false (sym is))
list_fits (v.Text b) is all = absurd (true≢false (sym is))
list_fits (v.Bin b) is all = absurd (true≢false (sym is))
list_fits (v.Enum b) is all = absurd (true≢false (sym is))

pub values_fit : (vs : List Value) → list_all is_fit_scalar vs ≡ true → is_fit_value (values.List vs) ≡ true
values_fit vs all = list_fits (values.List vs) (list_is vs) (ap (list_all is_fit_scalar) (values_in-List vs) ∙ all)

shaped : (shape : Shape) (read value : Value) → if_shaped shape read ≡ Some value → has_shape shape value ≡ true
shaped shape read value is = by_test (has_shape shape read) refl is
  where
    by_test : (test : Bool) → has_shape shape read ≡ test → cond test (Some read) None ≡ Some value → has_shape shape value ≡ true
    by_test true has same = let one : read ≡ value = cc in subst (λ w. has_shape shape w ≡ true) one has
    by_test false has same = absurd (cc)

leaf_has : (shape : Shape) (read : Option Value) (value : Value) → option_and_then (if_shaped shape) read ≡ Some value → has_shape shape value ≡ true
leaf_has shape None value is = absurd (cc)
leaf_has shape (Some read) value is = shaped shape read value is

leaf_fits : (shape : Option Shape) (json : Data) (value : Value) → unless_none shape is_fit_shape ≡ true → leaf_at shape json ≡ Some value → is_fit_scalar value ≡ true
leaf_fits None json value fit is = absurd (cc)
leaf_fits (Some shape) json value fit is = scalar_fits shape value fit (leaf_has shape (value_of_data shape json) value is)

-- what stands behind an option that is there
pub record Found {A B : Type 0} (o : Option A) (next : A → Option B) (b : B) : Type 0 where
  pub a : A
  pub is : o ≡ Some a
  pub then : next a ≡ Some b

pub found : {A B : Type 0} (o : Option A) (next : A → Option B) (b : B) → option_and_then next o ≡ Some b → Found o next b
found (Some a) next b is = record { a = a; is = refl; then = is }
found None next b is = absurd (cc)

unlisted : (done : List Value) (value kept : Value) → unless_listed done value ≡ Some kept → value ≡ kept
unlisted done value kept is = by_test (list_any (same_scalar value) done) is
  where
    by_test : (test : Bool) → cond test None (Some value) ≡ Some kept → value ≡ kept
    by_test true same = absurd (cc)
    by_test false same = cc

list_values_fit : (shape : Option Shape) (done : List Value) (items : Items) (out : List Value) → unless_none shape is_fit_shape ≡ true → list_all is_fit_scalar done ≡ true → values_from shape done items ≡ Some out → list_all is_fit_scalar out ≡ true
list_values_fit shape done no_items out fit all is =
    let same : done ≡ out = cc in
    subst (λ (o : List Value). list_all is_fit_scalar o ≡ true) same all
list_values_fit shape done (item json others) out fit all is =
    let f = found (option_and_then (unless_listed done) (leaf_at shape json)) (λ value. values_from shape (done ++ value ∷ []) others) out is in
    let g = found (leaf_at shape json) (unless_listed done) f.a f.is in
    let own = subst (λ w. is_fit_scalar w ≡ true) (unlisted done g.a f.a g.then) (leaf_fits shape json g.a fit g.is) in
    list_values_fit shape (done ++ f.a ∷ []) others out fit (all_append is_fit_scalar done (f.a ∷ []) all (one_of is_fit_scalar f.a own)) f.then

-- ---- keys

abbrev key_below : List ℕ × List ℕ → List ℕ × List ℕ → Ordering
key_below a b = text_cmp a.0 b.0

abbrev differs_from : List ℕ → List ℕ × List ℕ → Bool
differs_from name key = not (bytes_eq key.0 name)

-- the key's name is none of these
abbrev is_none_of : List (List ℕ) → List ℕ × List ℕ → Bool
is_none_of names key = not (list_any (bytes_eq key.0) names)

equal_texts : (a b : List ℕ) → text_cmp a b ≡ Equal → not (bytes_eq a b) ≡ true → ⊥
equal_texts a b equal apart = true≢false (sym apart ∙ ap not (sym (is_eq-slice_cmp a b) ∙ ap is_eq equal))

turned : (a b : List ℕ) → text_cmp a b ≡ Greater → text_cmp b a ≡ Less
turned a b greater = nat_list_cmp_total.antisymm b a ∙ ap ordering_reverse greater

lower : (a b : List ℕ) → text_cmp a b ≡ Less → is_lt (text_cmp a b) ≡ true
lower a b less = ap is_lt less

-- a key in its place among keys that rise above another one
rises_with : (low key : List ℕ × List ℕ) (keys : KeyList) → rises key_below (low ∷ keys) ≡ true → is_lt (text_cmp low.0 key.0) ≡ true → list_all (differs_from key.0) keys ≡ true → rises key_below (low ∷ with_key key keys) ≡ true
rises_with low key [] up less apart = and_from (is_lt (text_cmp low.0 key.0)) true less refl
rises_with low key (other ∷ others) up less apart =
    let both = and_parts (is_lt (text_cmp low.0 other.0)) (rises key_below (other ∷ others)) up in
    let parts = and_parts (differs_from key.0 other) (list_all (differs_from key.0) others) apart in
    by_order (text_cmp other.0 key.0) refl both parts.0 (λ above. rises_with other key others both.1 above parts.1)
  where
    by_order : (order : Ordering) → text_cmp other.0 key.0 ≡ order → (is_lt (text_cmp low.0 other.0) ≡ true) × (rises key_below (other ∷ others) ≡ true) → differs_from key.0 other ≡ true
        → (is_lt (text_cmp other.0 key.0) ≡ true → rises key_below (other ∷ with_key key others) ≡ true)
        → rises key_below (low ∷ cond (is_gt order) (key ∷ other ∷ others) (other ∷ with_key key others)) ≡ true
    by_order Greater is both own rest =
        and_from (is_lt (text_cmp low.0 key.0)) (rises key_below (key ∷ other ∷ others)) less
        (and_from (is_lt (text_cmp key.0 other.0)) (rises key_below (other ∷ others)) (lower key.0 other.0 (turned other.0 key.0 is)) both.1)
    by_order Equal is both own rest = absurd (equal_texts other.0 key.0 is own)
    by_order Less is both own rest =
        and_from (is_lt (text_cmp low.0 other.0)) (rises key_below (other ∷ with_key key others)) both.0 (rest (lower other.0 key.0 is))

key_rises : (key : List ℕ × List ℕ) (keys : KeyList) → rises key_below keys ≡ true → list_all (differs_from key.0) keys ≡ true → rises key_below (with_key key keys) ≡ true
key_rises key [] up apart = refl
key_rises key (other ∷ others) up apart = by_order (text_cmp other.0 key.0) refl
  where
    parts : (differs_from key.0 other ≡ true) × (list_all (differs_from key.0) others ≡ true)
    parts = and_parts (differs_from key.0 other) (list_all (differs_from key.0) others) apart

    by_order : (order : Ordering) → text_cmp other.0 key.0 ≡ order → rises key_below (cond (is_gt order) (key ∷ other ∷ others) (other ∷ with_key key others)) ≡ true
    by_order Greater is = and_from (is_lt (text_cmp key.0 other.0)) (rises key_below (other ∷ others)) (lower key.0 other.0 (turned other.0 key.0 is)) up
    by_order Equal is = absurd (equal_texts other.0 key.0 is parts.0)
    by_order Less is = rises_with other key others up (lower other.0 key.0 is) parts.1

all_with : (test : List ℕ × List ℕ → Bool) (key : List ℕ × List ℕ) (keys : KeyList) → test key ≡ true → list_all test keys ≡ true → list_all test (with_key key keys) ≡ true
all_with test key [] own all = one_of test key own
all_with test key (other ∷ others) own all =
    let parts = and_parts (test other) (list_all test others) all in
    by_test (is_gt (text_cmp other.0 key.0)) parts.0 (all_with test key others own parts.1)
  where
    by_test : (above : Bool) → test other ≡ true → list_all test (with_key key others) ≡ true → list_all test (cond above (key ∷ other ∷ others) (other ∷ with_key key others)) ≡ true
    by_test true first rest = and_from (test key) (list_all test (other ∷ others)) own all
    by_test false first rest = and_from (test other) (list_all test (with_key key others)) first rest

more_keys : (key : List ℕ × List ℕ) (keys : KeyList) → length (with_key key keys) ≡ suc (length keys)
more_keys key [] = refl
more_keys key (other ∷ others) = by_test (is_gt (text_cmp other.0 key.0)) (more_keys key others)
  where
    by_test : (above : Bool) → length (with_key key others) ≡ suc (length others) → length (cond above (key ∷ other ∷ others) (other ∷ with_key key others)) ≡ suc (suc (length others))
    by_test true rest = refl
    by_test false rest = ap suc rest

neither : (a b : Bool) → not (a || b) ≡ true → (not a ≡ true) × (not b ≡ true)
neither true b is = absurd (true≢false (sym is))
neither false b is = (refl, is)

-- keys whose names are none of these differ from the first, and are none of the others
none_parts : (name : List ℕ) (names : List (List ℕ)) (keys : KeyList) → list_all (is_none_of (name ∷ names)) keys ≡ true → (list_all (differs_from name) keys ≡ true) × (list_all (is_none_of names) keys ≡ true)
none_parts name names [] all = (refl, refl)
none_parts name names (key ∷ keys) all =
    let both = and_parts (is_none_of (name ∷ names) key) (list_all (is_none_of (name ∷ names)) keys) all in
    let own = neither (bytes_eq key.0 name) (list_any (bytes_eq key.0) names) both.0 in
    let rest = none_parts name names keys both.1 in
    (and_from (differs_from name key) (list_all (differs_from name) keys) own.0 rest.0, and_from (is_none_of names key) (list_all (is_none_of names) keys) own.1 rest.1)

-- the keys of an entry rise by name, and are as many as its list has
keys_rise : (schema : List SchemaNode) (names : List (List ℕ)) (json : Data) (done out : KeyList) (keys : List (List ℕ)) → texts_differ keys ≡ true → rises key_below done ≡ true → list_all (is_none_of keys) done ≡ true
    → keys_of_entry schema names json done keys ≡ Ok out → (rises key_below out ≡ true) × (length out ≡ length done + length keys)
keys_rise schema names json done out [] apart up none is =
    let same : done ≡ out = cc in
    (subst (λ (o : KeyList). rises key_below o ≡ true) same up, ap (λ (o : KeyList). length o) (sym same) ∙ omega arith)
keys_rise schema names json done out (key ∷ keys) apart up none is =
    let c = came (and_then (key_of_entry schema names key json) required_key) (λ text. keys_of_entry schema names json (with_key (key, text) done) keys) out is in
    let both = and_parts (not (list_any (bytes_eq key) keys)) (texts_differ keys) apart in
    let parts = none_parts key keys done none in
    let rest = keys_rise schema names json (with_key (key, c.value) done) out keys both.1 (key_rises (key, c.value) done up parts.0) (all_with (is_none_of keys) (key, c.value) done both.0 parts.1) c.then in
    (rest.0, rest.1 ∙ ap (λ n. n + length keys) (more_keys (key, c.value) done) ∙ omega arith)

unless_seen : (seen : List KeyList) (keys same : KeyList) → keys_unless_seen seen keys ≡ Ok same → keys ≡ same
unless_seen seen keys same is = (other_keys seen keys same is).1

few : (n : ℕ) → n ≤ 8 → leb n 65535 ≡ true
few n small = grind (arith, small)

-- ---- the walk

abbrev pub FitElems : List Elem → Type 0
FitElems path = list_all is_fit_elem path ≡ true

elem_fits : (schema : List SchemaNode) (names : List (List ℕ)) (name : List ℕ) (json : Data) (keys : List (List ℕ)) (out : KeyList) → texts_differ keys ≡ true → length keys ≤ 8 → keys_of_entry schema names json [] keys ≡ Ok out → is_fit_elem (record { name = name; keys = out }) ≡ true
elem_fits schema names name json keys out apart small is =
    let up = keys_rise schema names json [] out keys apart refl refl is in
    let many : length out ≤ 8 = omega (arith, up.1, small) in
    and_from (leb (length out) 65535) (rises key_below out) (few (length out) many) up.0

bare_fits : (name : List ℕ) → is_fit_elem (record { name = name; keys = [] }) ≡ true
bare_fits name = refl

below_fits : (above : List Elem) (name : List ℕ) (keys : KeyList) → FitElems above → is_fit_elem (record { name = name; keys = keys }) ≡ true → FitElems (below above name keys)
below_fits above name keys fit own = all_append is_fit_elem above (record { name = name; keys = keys } ∷ []) fit (one_of is_fit_elem (record { name = name; keys = keys }) own)

names_long : (path : List Elem) → length (names_of path) ≡ length path
names_long [] = refl
names_long (elem ∷ path) = ap suc (names_long path)

longer : {A : Type 0} (xs : List A) (x : A) → length (xs ++ x ∷ []) ≡ suc (length xs)
longer [] x = refl
longer (y ∷ xs) x = ap suc (longer xs x)

few_elems : (n : ℕ) → n ≤ 32 → leb n 32 ≡ true
few_elems n small = grind (arith, small)

module _ (schema : List SchemaNode) (formed : IsWellFormed schema) where
  -- a path to a node is short
  short : (above : List Elem) (name : List ℕ) (node : SchemaNode) → node_of schema (names_of above ++ name ∷ []) ≡ Some node → leb (length (below above name [])) 32 ≡ true
  short above name node is =
      let own : node.names ≡ names_of above ++ name ∷ [] = (stands_there schema (names_of above ++ name ∷ []) node is).2 in
      let most : length node.names ≤ 32 = (formed_node schema formed (names_of above ++ name ∷ []) node is).few_names in
      let long : length node.names ≡ suc (length above) = ap (λ (ns : List (List ℕ)). length ns) own ∙ longer (names_of above) name ∙ ap suc (names_long above) in
      few_elems (length (below above name [])) (omega (arith, longer above (record { name = name; keys = [] }), most, long))

  pub row_fits : (above : List Elem) (name : List ℕ) (node : SchemaNode) (value : Value) → node_of schema (names_of above ++ name ∷ []) ≡ Some node → FitElems above → is_fit_value value ≡ true → is_fit_row (record { path = below above name []; value = value }) ≡ true
  row_fits above name node value is fit own =
      and_from (is_fit_path (below above name [])) (is_fit_value value)
      (and_from (leb (length (below above name [])) 32) (list_all is_fit_elem (below above name [])) (short above name node is) (below_fits above name [] fit (bare_fits name))) own

  with_row_fits : (here : List Elem) (rows out : List Row) (value : Value) → AreFit rows → is_fit_row (record { path = here; value = value }) ≡ true → ◌≡◌ {A = Result (List Row) RowsFault} (Ok (rows_with_row here rows value)) (Ok out) → AreFit out
  with_row_fits here rows out value fit own is =
      let same : rows_with_row here rows value ≡ out = cc in
      subst AreFit same (all_append is_fit_row rows (record { path = here; value = value } ∷ []) fit (one_of is_fit_row (record { path = here; value = value }) own))

  with_leaf_fits : (above : List Elem) (name : List ℕ) (node : SchemaNode) (rows out : List Row) (value : Option Value) → node_of schema (names_of above ++ name ∷ []) ≡ Some node → FitElems above → AreFit rows → ((w : Value) → value ≡ Some w → is_fit_scalar w ≡ true) → rows_with_leaf (below above name []) rows value ≡ Ok out → AreFit out
  with_leaf_fits above name node rows out None found fit all own is = absurd (cc)
  with_leaf_fits above name node rows out (Some value) found fit all own is =
      with_row_fits (below above name []) rows out value all (row_fits above name node value found fit (value_fits value (own value refl))) is

  with_list_fits : (above : List Elem) (name : List ℕ) (node : SchemaNode) (rows out : List Row) (vs : Option (List Value)) → node_of schema (names_of above ++ name ∷ []) ≡ Some node → FitElems above → AreFit rows → ((ws : List Value) → vs ≡ Some ws → list_all is_fit_scalar ws ≡ true) → rows_with_leaf_list (below above name []) rows vs ≡ Ok out → AreFit out
  with_list_fits above name node rows out None found fit all own is = absurd (cc)
  with_list_fits above name node rows out (Some []) found fit all own is =
      let same : rows ≡ out = cc in
      subst AreFit same all
  with_list_fits above name node rows out (Some (value ∷ others)) found fit all own is =
      with_row_fits (below above name []) rows out (values.List (value ∷ others)) all (row_fits above name node (values.List (value ∷ others)) found fit (values_fit (value ∷ others) (own (value ∷ others) refl))) is

  child_found : (seen : List (List ℕ)) (name : List ℕ) (told : Option SchemaNode) (child : SchemaNode) → if_fresh seen name told ≡ Ok child → told ≡ Some child
  child_found seen name None child is = absurd (cc)
  child_found seen name (Some node) child is = by_test (list_any (bytes_eq name) seen) is
    where
      by_test : (test : Bool) → cond test (Err BadValue) (Ok node) ≡ Ok child → Some node ≡ Some child
      by_test true is = absurd (cc)
      by_test false is = cc

  child_is : (module_name : Option (List ℕ)) (told : Option SchemaNode) (child : SchemaNode) → option_and_then (if_of_module module_name) told ≡ Some child → told ≡ Some child
  child_is module_name None child is = absurd (cc)
  child_is module_name (Some node) child is = by_test (is_of_module module_name node) is
    where
      by_test : (test : Bool) → cond test (Some node) None ≡ Some child → Some node ≡ Some child
      by_test true is = is
      by_test false is = absurd (cc)

  mutual
    node_fits : (sort : Sort) (node : SchemaNode) (above : List Elem) (name : List ℕ) (rows out : List Row) (json : Data) → node_of schema (names_of above ++ name ∷ []) ≡ Some node → FitElems above → AreFit rows → rows_at_node sort schema node above name rows json ≡ Ok out → AreFit out
    node_fits sorts.Container node above name rows out (object ms) found fit all is = members_fit (below above name []) [] rows out ms (below_fits above name [] fit (bare_fits name)) all is
    node_fits sorts.List node above name rows out (array items) found fit all is = entries_fit node above name [] rows out items found fit all is
    node_fits sorts.LeafList node above name rows out (array items) found fit all is =
        with_list_fits above name node rows out (values_from node.shape [] items) found fit all
        (λ ws told. list_values_fit node.shape [] items ws (formed_node schema formed (names_of above ++ name ∷ []) node found).shape refl told) is
    node_fits sorts.Leaf node above name rows out json found fit all is =
        with_leaf_fits above name node rows out (leaf_at node.shape json) found fit all
        (λ w told. leaf_fits node.shape json w (formed_node schema formed (names_of above ++ name ∷ []) node found).shape told) is
    node_fits sorts.Container node above name rows out null found fit all is = absurd (cc)
    node_fits sorts.Container node above name rows out (boolean b) found fit all is = absurd (cc)
    node_fits sorts.Container node above name rows out (number n) found fit all is = absurd (cc)
    node_fits sorts.Container node above name rows out (string s) found fit all is = absurd (cc)
    node_fits sorts.Container node above name rows out (array items) found fit all is = absurd (cc)
    node_fits sorts.List node above name rows out null found fit all is = absurd (cc)
    node_fits sorts.List node above name rows out (boolean b) found fit all is = absurd (cc)
    node_fits sorts.List node above name rows out (number n) found fit all is = absurd (cc)
    node_fits sorts.List node above name rows out (string s) found fit all is = absurd (cc)
    node_fits sorts.List node above name rows out (object ms) found fit all is = absurd (cc)
    node_fits sorts.LeafList node above name rows out null found fit all is = absurd (cc)
    node_fits sorts.LeafList node above name rows out (boolean b) found fit all is = absurd (cc)
    node_fits sorts.LeafList node above name rows out (number n) found fit all is = absurd (cc)
    node_fits sorts.LeafList node above name rows out (string s) found fit all is = absurd (cc)
    node_fits sorts.LeafList node above name rows out (object ms) found fit all is = absurd (cc)

    members_fit : (here : List Elem) (seen : List (List ℕ)) (rows out : List Row) (ms : Members) → FitElems here → AreFit rows → rows_of_members schema here seen rows ms ≡ Ok out → AreFit out
    members_fit here seen rows out no_members fit all is =
        let same : rows ≡ out = cc in
        subst AreFit same all
    members_fit here seen rows out (member text json others) fit all is =
        let c = came (fresh_child schema (names_of here) seen text) (λ child. and_then (rows_at_node child.sort schema child here (name_in text) rows json) (λ more. rows_of_members schema here (seen ++ name_in text ∷ []) more others)) out is in
        let d = came (rows_at_node c.value.sort schema c.value here (name_in text) rows json) (λ more. rows_of_members schema here (seen ++ name_in text ∷ []) more others) out c.then in
        let there = child_is (module_in text) (child_at schema (names_of here) (name_in text)) c.value (child_found seen (name_in text) (child_named schema (names_of here) text) c.value c.is) in
        members_fit here (seen ++ name_in text ∷ []) d.value out others fit (node_fits c.value.sort c.value here (name_in text) rows d.value json there fit all d.is) d.then

    entries_fit : (node : SchemaNode) (above : List Elem) (name : List ℕ) (seen : List KeyList) (rows out : List Row) (items : Items) → node_of schema (names_of above ++ name ∷ []) ≡ Some node → FitElems above → AreFit rows → rows_of_entries schema node above name seen rows items ≡ Ok out → AreFit out
    entries_fit node above name seen rows out no_items found fit all is =
        let same : rows ≡ out = cc in
        subst AreFit same all
    entries_fit node above name seen rows out (item json others) found fit all is =
        let names = names_of above ++ name ∷ [] in
        let told = keys_of_entry schema names json [] node.keys in
        let c = came (and_then told (keys_unless_seen seen)) (λ keys. and_then (rows_of_object schema (below above name keys) rows json) (λ more. rows_of_entries schema node above name (seen ++ keys ∷ []) more others)) out is in
        let d = came (rows_of_object schema (below above name c.value) rows json) (λ more. rows_of_entries schema node above name (seen ++ c.value ∷ []) more others) out c.then in
        let k = came told (keys_unless_seen seen) c.value c.is in
        let it = formed_node schema formed names node found in
        let own = subst (λ (keys : KeyList). is_fit_elem (record { name = name; keys = keys }) ≡ true) (unless_seen seen k.value c.value k.then) (elem_fits schema names name json node.keys k.value it.keys_differ it.few_keys k.is) in
        entries_fit node above name (seen ++ c.value ∷ []) d.value out others found fit (object_fits (below above name c.value) rows d.value json (below_fits above name c.value fit own) all d.is) d.then

    object_fits : (here : List Elem) (rows out : List Row) (json : Data) → FitElems here → AreFit rows → rows_of_object schema here rows json ≡ Ok out → AreFit out
    object_fits here rows out (object ms) fit all is = members_fit here [] rows out ms fit all is
    object_fits here rows out null fit all is = absurd (cc)
    object_fits here rows out (boolean b) fit all is = absurd (cc)
    object_fits here rows out (number n) fit all is = absurd (cc)
    object_fits here rows out (string s) fit all is = absurd (cc)
    object_fits here rows out (array items) fit all is = absurd (cc)

  last_fits : (node : SchemaNode) (path : List Elem) (last : Elem) (json : Data) (out : List Row) (entry : Bool) → node_of schema (names_of (take (length path - 1) path) ++ last.name ∷ []) ≡ Some node → FitElems path
      → cond entry (rows_of_entry schema node path last.keys json) (rows_at_node node.sort schema node (take (length path - 1) path) last.name [] json) ≡ Ok out → AreFit out
  last_fits node path last json out true found fit is =
      let c = came (entry_keys_agree schema (names_of path) last.keys json node.keys) (λ same. rows_of_object schema path [] json) out is in
      object_fits path [] out json fit refl c.then
  last_fits node path last json out false found fit is =
      node_fits node.sort node (take (length path - 1) path) last.name [] out json found (all_taken is_fit_elem (length path - 1) path fit) refl is

  found_fits : (path : List Elem) (last : Elem) (node : Option SchemaNode) (json : Option Data) (out : List Row) → node_at schema path ≡ node → slice_get path (length path - 1) ≡ Some last → FitElems path → rows_at_node_of_path schema path last node json ≡ Ok out → AreFit out
  found_fits path last None json out at end fit is = absurd (cc)
  found_fits path last (Some node) None out at end fit is = absurd (cc)
  found_fits path last (Some node) (Some json) out at end fit is =
      last_fits node path last json out (is_entry node.sort last.keys) (ap (node_of schema) (sym (names_above_last path last end)) ∙ at) fit is

  end_fits : (path : List Elem) (last : Option Elem) (json : Option Data) (out : List Row) → slice_get path (length path - 1) ≡ last → FitElems path → rows_at_path schema path last json ≡ Ok out → AreFit out
  end_fits path None None out end fit is = absurd (cc)
  end_fits path None (Some json) out end fit is = object_fits path [] out json fit refl is
  end_fits path (Some last) json out end fit is = found_fits path last (node_at schema path) json out refl end fit is

  data_fits : (path : List Elem) (json : Option Data) (out : List Row) → FitElems path → rows_of_data schema path json ≡ Ok out → AreFit out
  data_fits path json out fit is =
      let c = came (rows_of_walk schema path json) rows_by_path out is in
      let same : set_rows c.value [] ≡ out = let e = c.then in cc in
      subst AreFit same (sets_fit c.value [] (end_fits path (slice_get path (length path - 1)) json c.value refl fit c.is) refl)

pub rows_are_fit : RowsAreFit
rows_are_fit schema path text rows formed fit is =
    data_fits schema formed path (data_of text) rows (and_parts (leb (length path) 32) (list_all is_fit_elem path) fit).1 is
