-- The keys of an entry, read from its members, are those of its element.
use Rattle.std.proofs.Common.{◌≡◌, ℕ, List, [], ◌∷◌, map, Bool, true, false, true≢false, cond, ◌||◌, ◌⊎◌, inl, inr, bytes_eq, Option, Some, Result, Ok, refl, sym, ap, ◌∙◌}
use Rattle.std.specs.List.{AllByRecursion, list_any}
use Rattle.std.specs.Ordering.{is_gt}
use Rattle.serde_json.specs.Data.{Data}
use Rattle.base_kinds.specs.Schema.{SchemaNode}
use Rattle.base_kinds.specs.Paths.{text_cmp}
use Rattle.json_rows.specs.declared.fault.RowsFault.{RowsFault}
use Rattle.base_lists.specs.Results.{and_then}
use Rattle.json_rows.specs.Entries.{KeyList, key_of_entry, with_key, required_key, keys_of_entry}
use Rattle.json_text.specs.laws.Rows.{with_name, in_name_order}

abbrev pub firsts : KeyList → List (List ℕ)
firsts keys = map (λ (key : List ℕ × List ℕ). key.0) keys

firsts_with : (key : List ℕ × List ℕ) (keys : KeyList) → firsts (with_key key keys) ≡ with_name key.0 (firsts keys)
firsts_with key [] = refl
firsts_with key (other ∷ others) = at (is_gt (text_cmp other.0 key.0)) (firsts_with key others)
  where
    at : (above : Bool) → firsts (with_key key others) ≡ with_name key.0 (firsts others) → firsts (cond above (key ∷ other ∷ others) (other ∷ with_key key others)) ≡ cond above (key.0 ∷ other.0 ∷ firsts others) (other.0 ∷ with_name key.0 (firsts others))
    at true e = refl
    at false e = ap (λ (names : List (List ℕ)). other.0 ∷ names) e

all_with_at : (P : List ℕ × List ℕ → Type 0) (above : Bool) (key other : List ℕ × List ℕ) (others later : KeyList) → P key → P other → AllByRecursion P others → AllByRecursion P later → AllByRecursion P (cond above (key ∷ other ∷ others) (other ∷ later))
all_with_at P true key other others later a b c d = (a, (b, c))
all_with_at P false key other others later a b c d = (b, d)

all_with : (P : List ℕ × List ℕ → Type 0) (key : List ℕ × List ℕ) (keys : KeyList) → P key → AllByRecursion P keys → AllByRecursion P (with_key key keys)
all_with P key [] a all = (a, tt)
all_with P key (other ∷ others) a all = all_with_at P (is_gt (text_cmp other.0 key.0)) key other others (with_key key others) a all.0 all.1 (all_with P key others a all.1)

module _ (schema : List SchemaNode) (names : List (List ℕ)) (json : Data) where
  -- the entry has the key
  abbrev pub Read : List ℕ × List ℕ → Type 0
  Read key = key_of_entry schema names key.0 json ≡ Ok (Some key.1)

  abbrev pub Readable : List ℕ → Type 0
  Readable name = (text : List ℕ) × (key_of_entry schema names name json ≡ Ok (Some text))

  pub record KeysTold (done : KeyList) (ks : List (List ℕ)) : Type 0 where
    pub keys : KeyList
    pub is : keys_of_entry schema names json done ks ≡ Ok keys
    pub reads : AllByRecursion Read keys
    pub order : firsts keys ≡ in_name_order (firsts done) ks

  keys_told : (done : KeyList) (ks : List (List ℕ)) → AllByRecursion Read done → AllByRecursion Readable ks → KeysTold done ks
  keys_told done [] reads all = record { keys = done; is = refl; reads = reads; order = refl }
  keys_told done (k ∷ ks) reads all =
      let text = all.0.0 in
      let rest = keys_told (with_key (k, text) done) ks (all_with Read (k, text) done all.0.1 reads) all.1 in
      record {
        keys = rest.keys;
        is = ap (λ (r : Result (Option (List ℕ)) RowsFault). and_then (and_then r required_key) (λ t. keys_of_entry schema names json (with_key (k, t) done) ks)) all.0.1 ∙ rest.is;
        reads = rest.reads;
        order = rest.order ∙ ap (λ (ns : List (List ℕ)). in_name_order ns ks) (firsts_with (k, text) done);
      }

  same_keys_read : (a b : KeyList) → AllByRecursion Read a → AllByRecursion Read b → firsts a ≡ firsts b → a ≡ b
  same_keys_read [] [] x y e = refl
  same_keys_read [] (key ∷ b) x y e = absurd cc
  same_keys_read (key ∷ a) [] x y e = absurd cc
  same_keys_read (key ∷ a) (other ∷ b) x y e =
      let name : key.0 ≡ other.0 = cc in
      let rest : firsts a ≡ firsts b = cc in
      let told : Ok (Some key.1) ≡ Ok (Some other.1) = sym x.0 ∙ ap (λ (n : List ℕ). key_of_entry schema names n json) name ∙ y.0 in
      let text : key.1 ≡ other.1 = cc in
      let pair : key ≡ other = ap (λ (n : List ℕ). (n, key.1)) name ∙ ap (λ (t : List ℕ). (other.0, t)) text in
      ap (λ (k : List ℕ × List ℕ). k ∷ a) pair ∙ ap (λ (ks : KeyList). other ∷ ks) (same_keys_read a b x.1 y.1 rest)

  -- where each key of the element can be read, and the element has just the list's keys in the order of their names
  pub keys_back : (keys : KeyList) (ks : List (List ℕ)) → AllByRecursion Read keys → AllByRecursion Readable ks → firsts keys ≡ in_name_order [] ks → keys_of_entry schema names json [] ks ≡ Ok keys
  keys_back keys ks reads all order =
      let told = keys_told [] ks tt all in
      told.is ∙ ap Ok (same_keys_read told.keys keys told.reads reads (told.order ∙ sym order))

-- ---- names among those in order

pub either_true : (a b : Bool) → (a || b) ≡ true → (a ≡ true) ⊎ (b ≡ true)
either_true true b e = inl refl
either_true false b e = inr e

pub or_right : (a b : Bool) → b ≡ true → (a || b) ≡ true
or_right true b e = refl
or_right false b e = e

pub or_left : (a b : Bool) → a ≡ true → (a || b) ≡ true
or_left true b e = refl
or_left false b e = absurd (true≢false (sym e))

any_with_at : (k name other : List ℕ) (others later : List (List ℕ)) (above : Bool) → (list_any (bytes_eq k) later ≡ true → (bytes_eq k name ≡ true) ⊎ (list_any (bytes_eq k) others ≡ true)) → list_any (bytes_eq k) (cond above (name ∷ other ∷ others) (other ∷ later)) ≡ true
    → (bytes_eq k name ≡ true) ⊎ (list_any (bytes_eq k) (other ∷ others) ≡ true)
any_with_at k name other others later true more e = either_true (bytes_eq k name) (list_any (bytes_eq k) (other ∷ others)) e
any_with_at k name other others later false more e =
    elim (either_true (bytes_eq k other) (list_any (bytes_eq k) later) e) [
      | inl w ↦ inr (or_left _ _ w)
      | inr w ↦ (elim (more w) [ inl u ↦ inl u | inr u ↦ inr (or_right _ _ u) ])
    ]

any_with : (k name : List ℕ) (names : List (List ℕ)) → list_any (bytes_eq k) (with_name name names) ≡ true → (bytes_eq k name ≡ true) ⊎ (list_any (bytes_eq k) names ≡ true)
any_with k name [] e = either_true (bytes_eq k name) false e
any_with k name (other ∷ others) e = any_with_at k name other others (with_name name others) (is_gt (text_cmp other name)) (any_with k name others) e

pub any_ordered : (k : List ℕ) (done names : List (List ℕ)) → list_any (bytes_eq k) (in_name_order done names) ≡ true → (list_any (bytes_eq k) done ≡ true) ⊎ (list_any (bytes_eq k) names ≡ true)
any_ordered k done [] e = inl e
any_ordered k done (name ∷ names) e =
    elim (any_ordered k (with_name name done) names e) [
      | inl w ↦ (elim (any_with k name done w) [ inl u ↦ inr (or_left _ _ u) | inr u ↦ inl u ])
      | inr w ↦ inr (or_right _ _ w)
    ]
