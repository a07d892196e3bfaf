-- Under a well-formed schema the rows of a request may stand in an operation, and its keys are those of leaves.
use Rattle.std.proofs.Common.{◌≡◌, ℕ, zero, suc, ◌+◌, ◌<◌, List, [], ◌∷◌, ◌++◌, Bool, true, false, true≢false, cond, not, ◌||◌, eqb, leb, ltb, ◌^◌, length, is_some, Option, Some, None, Result, Ok, Err, refl, sym, ap, ◌∙◌, subst, arith}
use Rattle.std.specs.List.{list_all, list_any}
use Rattle.std.specs.Prelude.{slice_index_or}
use Rattle.std.specs.Option.{option_and_then, option_map}
use Rattle.std.specs.Str.{bytes_eq}
use Rattle.std.proofs.lemmas.Bool.{and_parts, and_from}
use Rattle.std.proofs.lemmas.Slice.Eq.{bytes_eq-Decides}
use Rattle.base_lists.specs.Results.{and_then, traverse, with_first}
use Rattle.base_lists.specs.Rising.{rises}
use Rattle.base_kinds.specs.declared.path.Elem.{Elem}
use Rattle.base_kinds.specs.declared.operation.Row.{Row}
use Rattle.base_kinds.specs.declared.value.Value.{Value}
use Rattle.base_kinds.specs.declared.value.Value as v
use Rattle.base_kinds.specs.declared.value.Value.TheVariants as values
use Rattle.base_kinds.specs.declared.schema.Shape.{Shape}
use Rattle.base_kinds.specs.declared.schema.Shape.TheVariants as shapes
use Rattle.base_kinds.specs.declared.schema.Sort.{Sort}
use Rattle.base_kinds.specs.declared.schema.Sort.TheVariants as sorts
use Rattle.base_kinds.specs.declared.request.Given.{Given}
use Rattle.base_kinds.specs.declared.request.Given.TheVariants as given
use Rattle.base_kinds.specs.declared.refusal.Refusal.{Refusal}
use Rattle.base_kinds.specs.declared.refusal.Refusal.TheVariants.{BadPath, BadValue}
use Rattle.base_kinds.specs.Ancestors.{child}
use Rattle.base_kinds.specs.Legal.{is_fit_elem, is_fit_path, is_fit_scalar, is_fit_value, is_fit_row}
use Rattle.base_kinds.specs.Rising.{row_cmp}
use Rattle.base_kinds.specs.Schema.{SchemaNode, names_of, node_of, node_at}
use Rattle.base_kinds.specs.Tree.{set_rows}
use Rattle.base_kinds.specs.Valid.{has_just_keys, if_some, is_leafy, unless_none}
use Rattle.base_kinds.specs.Values.{is_list, values_in, all_differ, has_shape, fits_signed}
use Rattle.value_core.specs.Decimals.{with_sign}
use Rattle.set_request.specs.Numbers.{is_negative, magnitude, natural, rescaled_digits}
use Rattle.history_laws.proofs.Setting.{rising_sets, test_says_rising}
use Rattle.schema_core.specs.Shapes.{is_fit_shape, texts_differ}
use Rattle.schema_core.specs.WellFormed.{is_leaf, has_leaf, IsWellFormed}
use Rattle.schema_core.proofs.WellFormedLemmas.{formed_node, keys_have_leaves}
use Rattle.value_core.specs.KeyValues.{key_value}
use Rattle.value_core.proofs.KeysRead.{keys_by_function}
use Rattle.json_rows.specs.declared.fault.RowsFault.{RowsFault}
use Rattle.json_rows.specs.Entries.{KeyList}
use Rattle.json_rows.specs.Rows.{rows_of}
use Rattle.json_rows.proofs.Fitting.{AreFit, FitElems, found, all_append, one_of, sets_fit, scalar_fits, value_fits, values_fit, row_fits, rows_are_fit}
use Rattle.json_rows.proofs.Meanings.{rows_rise}
use Rattle.set_request.specs.KeyLeaves.{shape_at, value_of_key, leaf_with, key_leaf, key_leaves_of_elem, key_leaves_from}
use Rattle.set_request.specs.Scalars.{value_in_shape, values_in_shape}
use Rattle.set_request.specs.ValueRows.{row_at, list_row, row_of_distinct, rows_of_leaf_list, rows_at_sort, rows_of_scalar, rows_of_json, rows_of_value}
use Rattle.set_request.specs.laws.Causes.{RowsMayStand, KeysHaveLeaves}
use Rattle.set_request.proofs.FitAsks.{followed, passed, there}

-- ---- key leaves

abbrev leaf_row : List Elem → List ℕ × List ℕ → Value → Row
leaf_row entry key value = record { path = child entry key.0; value = value }

record IsLeaf (entry : List Elem) (key : List ℕ × List ℕ) (told : Option Value) (row : Row) : Type 0 where
  value : Value
  is : told ≡ Some value
  made : leaf_row entry key value ≡ row

leaf_of : (entry : List Elem) (key : List ℕ × List ℕ) (told : Option Value) (row : Row) → leaf_with entry key told ≡ Ok row → IsLeaf entry key told row
leaf_of entry key None row is = absurd (cc)
leaf_of entry key (Some value) row is =
    let same : leaf_row entry key value ≡ row = cc in
    record { value = value; is = refl; made = same }

names_more : (path : List Elem) (name : List ℕ) → names_of (child path name) ≡ names_of path ++ name ∷ []
names_more [] name = refl
names_more (elem ∷ path) name = ap (λ (names : List (List ℕ)). elem.name ∷ names) (names_more path name)

record Behind {A : Type 0} (a : A) (rest : Result (List A) Refusal) (out : List A) : Type 0 where
  others : List A
  is : rest ≡ Ok others
  whole : a ∷ others ≡ out

behind : {A : Type 0} (a : A) (rest : Result (List A) Refusal) (out : List A) → with_first a rest ≡ Ok out → Behind a rest out
behind a (Ok others) out is = record { others = others; is = refl; whole = cc }
behind a (Err refusal) out is = absurd (cc)

-- the list that items give, each of which passes the test
all_given : {A B : Type 0} (step : A → Result B Refusal) (test : B → Bool) → ((item : A) (b : B) → step item ≡ Ok b → test b ≡ true) → (items : List A) (out : List B) → traverse step items ≡ Ok out → list_all test out ≡ true
all_given {B = B} step test own [] out is =
    let same : [] ≡ out = cc in
    subst (λ (o : List B). list_all test o ≡ true) same refl
all_given {B = B} step test own (item ∷ items) out is =
    let f = followed (step item) (λ b. with_first b (traverse step items)) out is in
    let b = behind f.a (traverse step items) out f.then in
    subst (λ (o : List B). list_all test o ≡ true) b.whole
    (and_from (test f.a) (list_all test b.others) (own item f.a f.first) (all_given step test own items b.others b.is))

same_rows : (a b : List Row) → ◌≡◌ {A = Result (List Row) Refusal} (Ok a) (Ok b) → a ≡ b
same_rows a b is = cc

module _ (schema : List SchemaNode) (formed : IsWellFormed schema) where
  key_row_fits : (entry : List Elem) → FitElems entry → (key : List ℕ × List ℕ) (row : Row) → key_leaf schema entry key ≡ Ok row → is_fit_row row ≡ true
  key_row_fits entry fit key row is =
      let leaf = leaf_of entry key (value_of_key schema entry key) row is in
      let s = found (shape_at schema (child entry key.0)) (λ shape. key_value shape key.1) leaf.value leaf.is in
      let n = found (node_at schema (child entry key.0)) (λ node. node.shape) s.a s.is in
      let scalar = ((keys_by_function s.a key.1 leaf.value).0 s.then).1 in
      let node : node_of schema (names_of entry ++ key.0 ∷ []) ≡ Some n.a = ap (node_of schema) (sym (names_more entry key.0)) ∙ n.is in
      subst (λ r. is_fit_row r ≡ true) leaf.made (row_fits schema formed entry key.0 n.a leaf.value node fit (value_fits leaf.value scalar))

  elem_leaves_fit : (entry : List Elem) (elem : Elem) (node : Option SchemaNode) (leaves : List Row) → FitElems entry → key_leaves_of_elem schema entry elem node ≡ Ok leaves → AreFit leaves
  elem_leaves_fit entry elem None leaves fit is = absurd (cc)
  elem_leaves_fit entry elem (Some node) leaves fit is =
      let p = passed (has_just_keys elem node.keys) (traverse (key_leaf schema entry) elem.keys) BadPath leaves is in
      all_given (key_leaf schema entry) is_fit_row (key_row_fits entry fit) elem.keys leaves p.1

  leaves_fit : (front elems : List Elem) (keys : List Row) → FitElems front → FitElems elems → key_leaves_from schema front elems ≡ Ok keys → AreFit keys
  leaves_fit front [] keys fit rest is =
      let same : [] ≡ keys = cc in
      subst AreFit same refl
  leaves_fit front (elem ∷ elems) keys fit rest is =
      let here = front ++ elem ∷ [] in
      let both = and_parts (is_fit_elem elem) (list_all is_fit_elem elems) rest in
      let there_fit = all_append is_fit_elem front (elem ∷ []) fit (one_of is_fit_elem elem both.0) in
      let first = followed (key_leaves_of_elem schema here elem (node_at schema here)) (λ leaves. and_then (key_leaves_from schema here elems) (λ others. Ok (leaves ++ others))) keys is in
      let more = followed (key_leaves_from schema here elems) (λ others. Ok (first.a ++ others)) keys first.then in
      let same = same_rows (first.a ++ more.a) keys more.then in
      subst AreFit same (all_append is_fit_row first.a more.a (elem_leaves_fit here elem (node_at schema here) first.a there_fit first.first) (leaves_fit here elems more.a there_fit both.1 more.first))

-- ---- scalars

unchanged : (shape : Shape) (value kept : Value) → is_fit_shape shape ≡ true → cond (has_shape shape value) (Some value) None ≡ Some kept → is_fit_scalar kept ≡ true
unchanged shape value kept fit is = by_test (has_shape shape value) refl is
  where
    by_test : (test : Bool) → has_shape shape value ≡ test → cond test (Some value) None ≡ Some kept → is_fit_scalar kept ≡ true
    by_test true has same = let one : value ≡ kept = cc in subst (λ w. is_fit_scalar w ≡ true) one (scalar_fits shape value fit has)
    by_test false has same = absurd (cc)

some_fits : {A : Type 0} (told : Option A) (make : A → Option Value) (kept : Value) → ((a : A) → make a ≡ Some kept → is_fit_scalar kept ≡ true) → option_and_then make told ≡ Some kept → is_fit_scalar kept ≡ true
some_fits None make kept own is = absurd (cc)
some_fits (Some a) make kept own is = own a is

mapped_fits : {A : Type 0} (told : Option A) (make : A → Value) (kept : Value) → ((a : A) → is_fit_scalar (make a) ≡ true) → option_map make told ≡ Some kept → is_fit_scalar kept ≡ true
mapped_fits None make kept own is = absurd (cc)
mapped_fits (Some a) make kept own is =
    let same : make a ≡ kept = cc in
    subst (λ w. is_fit_scalar w ≡ true) same (own a)

tested_fits : (test : Bool) (value kept : Value) → is_fit_scalar value ≡ true → cond test (Some value) None ≡ Some kept → is_fit_scalar kept ≡ true
tested_fits true value kept own is = let same : value ≡ kept = cc in subst (λ w. is_fit_scalar w ≡ true) same own
tested_fits false value kept own is = absurd (cc)

in_shape_fits : (shape : Shape) (value kept : Value) → is_fit_shape shape ≡ true → value_in_shape shape value ≡ Some kept → is_fit_scalar kept ≡ true
in_shape_fits (shapes.Int width) (v.Uint number) kept fit is = some_fits (with_sign false number) (λ n. cond (fits_signed width n) (Some (values.Int n)) None) kept (λ n made. tested_fits (fits_signed width n) (values.Int n) kept refl made) is
in_shape_fits (shapes.Uint width) (v.Int number) kept fit is = some_fits (natural number) (λ n. cond (ltb n (2 ^ width)) (Some (values.Uint n)) None) kept (λ n made. tested_fits (ltb n (2 ^ width)) (values.Uint n) kept refl made) is
in_shape_fits (shapes.Dec places) (v.Dec digits others) kept fit is = mapped_fits (option_and_then (with_sign (is_negative digits)) (rescaled_digits (magnitude digits) others places)) (λ number. values.Dec number places) kept (λ number. fit) is
in_shape_fits (shapes.Enum texts) (v.Text text) kept fit is = tested_fits (list_any (bytes_eq text) texts) (values.Enum text) kept refl is
in_shape_fits shape value kept fit is = unchanged shape value kept fit is

all_in_shape_fit : (shape : Shape) (done vs out : List Value) → is_fit_shape shape ≡ true → list_all is_fit_scalar done ≡ true → values_in_shape shape done vs ≡ Some out → list_all is_fit_scalar out ≡ true
all_in_shape_fit shape done [] out fit all is =
    let same : done ≡ out = cc in
    subst (λ (o : List Value). list_all is_fit_scalar o ≡ true) same all
all_in_shape_fit shape done (value ∷ others) out fit all is =
    let f = found (value_in_shape shape value) (λ w. values_in_shape shape (done ++ w ∷ []) others) out is in
    all_in_shape_fit shape (done ++ f.a ∷ []) others out fit (all_append is_fit_scalar done (f.a ∷ []) all (one_of is_fit_scalar f.a (in_shape_fits shape value f.a fit f.is))) f.then

-- ---- rows of a value

abbrev Stand : List Row → Type 0
Stand rows = (AreFit rows) × (rises row_cmp rows ≡ true)

module _ (path : List Elem) (fit : is_fit_path path ≡ true) where
  row_stands : (value : Value) (rows : List Row) → is_fit_value value ≡ true → row_at path value ≡ rows → Stand rows
  row_stands value rows own same =
      subst Stand same (one_of is_fit_row (record { path = path; value = value }) (and_from (is_fit_path path) (is_fit_value value) fit own), refl)

  leaf_stands : (told : Option Value) (rows : List Row) → ((w : Value) → told ≡ Some w → is_fit_scalar w ≡ true) → option_map (row_at path) told ≡ Some rows → Stand rows
  leaf_stands None rows own is = absurd (cc)
  leaf_stands (Some value) rows own is =
      let same : row_at path value ≡ rows = cc in
      row_stands value rows (value_fits value (own value refl)) same

  list_row_stands : (kept : List Value) (rows : List Row) → list_all is_fit_scalar kept ≡ true → list_row path kept ≡ rows → Stand rows
  list_row_stands [] rows own same = subst Stand same (refl, refl)
  list_row_stands (value ∷ others) rows own same = row_stands (values.List (value ∷ others)) rows (values_fit (value ∷ others) own) same

  distinct_stand : (kept : List Value) (rows : List Row) → list_all is_fit_scalar kept ≡ true → row_of_distinct path kept ≡ Some rows → Stand rows
  distinct_stand kept rows own is = by_test (all_differ kept) is
    where
      by_test : (test : Bool) → cond test (Some (list_row path kept)) None ≡ Some rows → Stand rows
      by_test true is = let same : list_row path kept ≡ rows = cc in list_row_stands kept rows own same
      by_test false is = absurd (cc)

  list_stands : (shape : Shape) (value : Value) (rows : List Row) → is_fit_shape shape ≡ true → rows_of_leaf_list shape path value ≡ Some rows → Stand rows
  list_stands shape value rows good is = by_test (is_list value) is
    where
      by_test : (test : Bool) → cond test (option_and_then (row_of_distinct path) (values_in_shape shape [] (values_in value))) None ≡ Some rows → Stand rows
      by_test true is =
          let f = found (values_in_shape shape [] (values_in value)) (row_of_distinct path) rows is in
          distinct_stand f.a rows (all_in_shape_fit shape [] (values_in value) f.a good refl f.is) f.then
      by_test false is = absurd (cc)

  sort_stands : (sort : Sort) (shape : Shape) (value : Value) (rows : List Row) → is_fit_shape shape ≡ true → rows_at_sort sort shape path value ≡ Some rows → Stand rows
  sort_stands sorts.Leaf shape value rows good is = leaf_stands (value_in_shape shape value) rows (λ w told. in_shape_fits shape value w good told) is
  sort_stands sorts.LeafList shape value rows good is = list_stands shape value rows good is
  sort_stands sorts.Container shape value rows good is = absurd (cc)
  sort_stands sorts.List shape value rows good is = absurd (cc)

shape_is_fit : (told : Option Shape) (shape : Shape) → unless_none told is_fit_shape ≡ true → told ≡ Some shape → is_fit_shape shape ≡ true
shape_is_fit told shape good is = sym (ap (λ (o : Option Shape). unless_none o is_fit_shape) is) ∙ good

module _ (schema : List SchemaNode) (formed : IsWellFormed schema) (path : List Elem) (fit : is_fit_path path ≡ true) where
  scalar_stands : (value : Value) (rows : List Row) → rows_of_scalar (node_at schema path) path value ≡ Some rows → Stand rows
  scalar_stands value rows is =
      let n = found (node_at schema path) (λ node. option_and_then (λ shape. rows_at_sort node.sort shape path value) node.shape) rows is in
      let s = found n.a.shape (λ shape. rows_at_sort n.a.sort shape path value) rows n.then in
      sort_stands path fit n.a.sort s.a value rows (shape_is_fit n.a.shape s.a (formed_node schema formed (names_of path) n.a n.is).shape s.is) s.then

  json_stands : (json : List ℕ) (told : Result (List Row) RowsFault) (rows : List Row) → rows_of schema path json ≡ told → rows_of_json told ≡ Ok rows → Stand rows
  json_stands json (Ok found_rows) rows told is =
      let same : found_rows ≡ rows = cc in
      let own = told ∙ ap (λ (r : List Row). Ok r) same in
      (rows_are_fit schema path json rows formed fit own, rows_rise schema path json rows own)
  json_stands json (Err fault) rows told is = absurd (cc)

  value_stands : (value : Given) (rows : List Row) → rows_of_value schema path value ≡ Ok rows → Stand rows
  value_stands (given.Json json) rows is = json_stands json (rows_of schema path json) rows refl is
  value_stands (given.Scalar value) rows is = scalar_stands value rows (there (rows_of_scalar (node_at schema path) path value) BadValue rows is)
  value_stands given.Missing rows is = absurd (cc)

pub rows_may_stand : RowsMayStand
rows_may_stand schema path value keys rows formed whole of_path of_value =
    let fit = (and_parts (is_fit_path path) (list_all (λ elem. not (eqb (length elem.name) 0)) path) whole).0 in
    let elems = (and_parts (leb (length path) 32) (list_all is_fit_elem path) fit).1 in
    let own = value_stands schema formed path fit value rows of_value in
    and_from (list_all is_fit_row (set_rows keys rows)) (rises row_cmp (set_rows keys rows))
    (sets_fit keys rows (leaves_fit schema formed [] path keys refl elems of_path) own.0)
    ((test_says_rising (set_rows keys rows)).1 (rising_sets keys rows ((test_says_rising rows).0 own.1)))

-- ---- keys

abbrev has_key : KeyList → List ℕ → Bool
has_key keys name = list_any (λ key. bytes_eq name key.0) keys

abbrev is_named : List (List ℕ) → List ℕ × List ℕ → Bool
is_named names key = list_any (bytes_eq key.0) names

-- the keys without the first that has this name
without : List ℕ → KeyList → KeyList
without name [] = []
without name (key ∷ keys) = cond (bytes_eq name key.0) keys (key ∷ without name keys)

turns : (a b : List ℕ) → bytes_eq a b ≡ true → bytes_eq b a ≡ true
turns a b is = (bytes_eq-Decides b a).1 (sym ((bytes_eq-Decides a b).0 is))

or_left : (a b : Bool) → a ≡ true → (a || b) ≡ true
or_left true b is = refl
or_left false b is = absurd (true≢false (sym is))

or_right : (a b : Bool) → b ≡ true → (a || b) ≡ true
or_right true b is = refl
or_right false b is = is

-- one key less
one_less : (name : List ℕ) (keys : KeyList) → has_key keys name ≡ true → suc (length (without name keys)) ≡ length keys
unfolding without
one_less name [] has = absurd (true≢false (sym has))
one_less name (key ∷ keys) has = by_test (bytes_eq name key.0) has (one_less name keys)
  where
    by_test : (test : Bool) → (test || has_key keys name) ≡ true → (has_key keys name ≡ true → suc (length (without name keys)) ≡ length keys) → suc (length (cond test keys (key ∷ without name keys))) ≡ suc (length keys)
    by_test true has rest = refl
    by_test false has rest = ap suc (rest has)

-- another name has its key still
still : (name other : List ℕ) (keys : KeyList) → bytes_eq name other ≡ false → has_key keys other ≡ true → has_key (without name keys) other ≡ true
unfolding without
still name other [] apart has = has
still name other (key ∷ keys) apart has = by_test (bytes_eq name key.0) refl (bytes_eq other key.0) refl has (still name other keys apart)
  where
    by_test : (test : Bool) → bytes_eq name key.0 ≡ test → (own : Bool) → bytes_eq other key.0 ≡ own → (own || has_key keys other) ≡ true → (has_key keys other ≡ true → has_key (without name keys) other ≡ true) → has_key (cond test keys (key ∷ without name keys)) other ≡ true
    by_test true is true own has rest = absurd (true≢false (sym ((bytes_eq-Decides name other).1 ((bytes_eq-Decides name key.0).0 is ∙ sym ((bytes_eq-Decides other key.0).0 own))) ∙ apart))
    by_test true is false own has rest = has
    by_test false is true own has rest = or_left (bytes_eq other key.0) (has_key (without name keys) other) own
    by_test false is false own has rest = or_right (bytes_eq other key.0) (has_key (without name keys) other) (rest has)

all_still : (name : List ℕ) (names : List (List ℕ)) (keys : KeyList) → not (list_any (bytes_eq name) names) ≡ true → list_all (has_key keys) names ≡ true → list_all (has_key (without name keys)) names ≡ true
all_still name [] keys apart all = refl
all_still name (other ∷ names) keys apart all =
    let both = and_parts (has_key keys other) (list_all (has_key keys) names) all in
    let parts = neither (bytes_eq name other) (list_any (bytes_eq name) names) apart in
    and_from (has_key (without name keys) other) (list_all (has_key (without name keys)) names) (still name other keys parts.0 both.0) (all_still name names keys parts.1 both.1)
  where
    neither : (a b : Bool) → not (a || b) ≡ true → (a ≡ false) × (not b ≡ true)
    neither true b is = absurd (true≢false (sym is))
    neither false b is = (refl, is)

-- a test that those of this name pass, and the keys without one of them, is one that all keys pass
all_with_one : (test : List ℕ × List ℕ → Bool) (name : List ℕ) (keys : KeyList) → ((key : List ℕ × List ℕ) → bytes_eq name key.0 ≡ true → test key ≡ true) → list_all test (without name keys) ≡ true → list_all test keys ≡ true
unfolding without
all_with_one test name [] own all = refl
all_with_one test name (key ∷ keys) own all = by_test (bytes_eq name key.0) refl all (all_with_one test name keys own)
  where
    by_test : (same : Bool) → bytes_eq name key.0 ≡ same → list_all test (cond same keys (key ∷ without name keys)) ≡ true → (list_all test (without name keys) ≡ true → list_all test keys ≡ true) → list_all test (key ∷ keys) ≡ true
    by_test true is all rest = and_from (test key) (list_all test keys) (own key is) all
    by_test false is all rest =
        let both = and_parts (test key) (list_all test (without name keys)) all in
        and_from (test key) (list_all test keys) both.0 (rest both.1)

all_wider : (test wide : List ℕ × List ℕ → Bool) (keys : KeyList) → ((key : List ℕ × List ℕ) → test key ≡ true → wide key ≡ true) → list_all test keys ≡ true → list_all wide keys ≡ true
all_wider test wide [] widens all = refl
all_wider test wide (key ∷ keys) widens all =
    let both = and_parts (test key) (list_all test keys) all in
    and_from (wide key) (list_all wide keys) (widens key both.0) (all_wider test wide keys widens both.1)

-- as many keys as names, among which each name is, have just these names
only_these : (names : List (List ℕ)) (keys : KeyList) → texts_differ names ≡ true → length keys ≡ length names → list_all (has_key keys) names ≡ true → list_all (is_named names) keys ≡ true
only_these [] [] apart long all = refl
only_these [] (key ∷ keys) apart long all = absurd (omega (arith, long))
only_these (name ∷ names) keys apart long all =
    let both = and_parts (has_key keys name) (list_all (has_key keys) names) all in
    let parts = and_parts (not (list_any (bytes_eq name) names)) (texts_differ names) apart in
    let less = one_less name keys both.0 in
    let rest = only_these names (without name keys) parts.1 (omega (arith, less, long)) (all_still name names keys parts.0 both.1) in
    all_with_one (is_named (name ∷ names)) name keys (λ key is. or_left (bytes_eq key.0 name) (list_any (bytes_eq key.0) names) (turns name key.0 is))
    (all_wider (is_named names) (is_named (name ∷ names)) (without name keys) (λ key is. or_right (bytes_eq key.0 name) (list_any (bytes_eq key.0) names) is) rest)

same_count : (a b : ℕ) → eqb a b ≡ true → a ≡ b
same_count a b is = grind (arith, is)

-- what all pass, one of them passes
one_among : {A : Type 0} (test : A → Bool) (xs : List A) (k : ℕ) (x : A) → list_all test xs ≡ true → k < length xs → slice_index_or xs k x ≡ x → test x ≡ true
one_among test [] k x all less is = absurd (omega (arith, less))
one_among test (y ∷ xs) zero x all less is =
    let same : y ≡ x = is in
    ap test (sym same) ∙ (and_parts (test y) (list_all test xs) all).0
one_among test (y ∷ xs) (suc k) x all less is = one_among test xs k x (and_parts (test y) (list_all test xs) all).1 (omega (arith, less)) is

named_among : (test : List ℕ → Bool) (name : List ℕ) (names : List (List ℕ)) → list_all test names ≡ true → list_any (bytes_eq name) names ≡ true → test name ≡ true
named_among test name [] all any = absurd (true≢false (sym any))
named_among test name (other ∷ names) all any =
    let both = and_parts (test other) (list_all test names) all in
    by_test (bytes_eq name other) refl any both.0 (named_among test name names both.1)
  where
    by_test : (same : Bool) → bytes_eq name other ≡ same → (same || list_any (bytes_eq name) names) ≡ true → test other ≡ true → (list_any (bytes_eq name) names ≡ true → test name ≡ true) → test name ≡ true
    by_test true is any own rest = ap test ((bytes_eq-Decides name other).0 is) ∙ own
    by_test false is any own rest = rest any

leafy : (sort : Sort) → is_leaf sort ≡ true → is_leafy sort ≡ true
leafy sorts.Leaf is = refl
leafy sorts.LeafList is = refl
leafy sorts.Container is = absurd (true≢false (sym is))
leafy sorts.List is = absurd (true≢false (sym is))

some_shape : (told : Option Shape) → is_some told ≡ true → (shape : Shape) × (told ≡ Some shape)
some_shape (Some shape) is = (shape, refl)
some_shape None is = absurd (true≢false (sym is))

shape_of_leaf : (schema : List SchemaNode) (formed : IsWellFormed schema) (names : List (List ℕ)) (told : Option SchemaNode) → node_of schema names ≡ told → if_some told (λ node. is_leaf node.sort) ≡ true → (shape : Shape) × (option_and_then (λ (node : SchemaNode). node.shape) told ≡ Some shape)
shape_of_leaf schema formed names None is leaf = absurd (true≢false (sym leaf))
shape_of_leaf schema formed names (Some node) is leaf = some_shape node.shape ((formed_node schema formed names node is).shaped ∙ leafy node.sort leaf)

pub keys_have_leaves_at : KeysHaveLeaves
keys_have_leaves_at schema entry elem node key formed at just among =
    let both = and_parts (eqb (length elem.keys) (length node.keys)) (list_all (has_key elem.keys) node.keys) just in
    let named = only_these node.keys elem.keys (formed_node schema formed (names_of entry) node at).keys_differ (same_count (length elem.keys) (length node.keys) both.0) both.1 in
    let own : is_named node.keys key ≡ true = one_among (is_named node.keys) elem.keys among.0 key named among.1 among.2 in
    let leaf = named_among (λ name. has_leaf schema (names_of entry ++ name ∷ [])) key.0 node.keys (keys_have_leaves schema formed (names_of entry) node at) own in
    let names = names_more entry key.0 in
    shape_of_leaf schema formed (names_of (child entry key.0)) (node_at schema (child entry key.0)) refl
    (ap (λ (ns : List (List ℕ)). has_leaf schema ns) names ∙ leaf)
