-- A key's leaf among the members of an entry.
use Rattle.std.proofs.Common.{◌≡◌, ℕ, List, [], ◌∷◌, ◌++◌, true, false, ◌⊎◌, inl, inr, Option, Some, None, Ok, Ordering, Less, Equal, Greater, bytes_eq, refl, sym, ap, subst, ◌∙◌}
use Rattle.std.specs.Ordering.{match_ordering, nat_cmp}
use Rattle.std.specs.Cmp.Lexicographic.{slice_cmp}
use Rattle.std.proofs.lemmas.Cmp.{tied_itself, nat_list_cmp_total}
use Rattle.serde_json.specs.Data.{Data, object, Members}
use Rattle.serde_json.specs.Find.{get_member}
use Rattle.base_kinds.specs.declared.path.Elem.{Elem}
use Rattle.base_kinds.specs.declared.value.Value.{Value}
use Rattle.base_kinds.specs.declared.operation.Row.{Row}
use Rattle.base_kinds.specs.declared.schema.Sort.TheVariants as sorts
use Rattle.base_kinds.specs.Schema.{SchemaNode, names_of, node_of}
use Rattle.base_kinds.specs.Keys.{key_text}
use Rattle.json_rows.specs.Leaves.{leaf_at}
use Rattle.json_rows.specs.Members.{module_in, name_in, qualified}
use Rattle.base_lists.specs.Results.{and_then}
use Rattle.json_rows.specs.Entries.{only_member, key_of_member, key_text_of, key_of_leaf, key_of_entry}
use Rattle.schema_core.specs.Identifiers.{lacks_colon}
use Rattle.json_text.proofs.Parts.{Part, AnyPart, as_members, AllElse, Distinct, AllRead, apart, equal_texts}
use Rattle.json_text.proofs.Spellings.{name_alone, name_behind, module_none, module_before}

get_here : (x : List ℕ) (p : Part) (ps : List Part) → x ≡ p.key → get_member x (as_members (p ∷ ps)) ≡ Some p.json
get_here x p ps e =
    let is : slice_cmp nat_cmp x p.key ≡ Equal = ap (slice_cmp nat_cmp x) (sym e) ∙ tied_itself nat_list_cmp_total x in
    ap (λ o. match_ordering o (get_member x (as_members ps)) (Some p.json) (get_member x (as_members ps))) is

get_skip : (x : List ℕ) (p : Part) (ps : List Part) → (x ≡ p.key → ⊥) → get_member x (as_members (p ∷ ps)) ≡ get_member x (as_members ps)
get_skip x p ps differ = at (slice_cmp nat_cmp x p.key) refl
  where
    at : (o : Ordering) → slice_cmp nat_cmp x p.key ≡ o → match_ordering o (get_member x (as_members ps)) (Some p.json) (get_member x (as_members ps)) ≡ get_member x (as_members ps)
    at Less e = refl
    at Equal e = absurd (differ (equal_texts x p.key e))
    at Greater e = refl

module _ (schema : List SchemaNode) (here : List Elem) where
  -- the member is a leaf of this value
  pub record LeafOf (value : Value) (p : Part) : Type 0 where
    pub child : SchemaNode
    pub found : node_of schema (names_of here ++ p.name ∷ []) ≡ Some child
    pub leaf : leaf_at child.shape p.json ≡ Some value
    pub spelled : (p.key ≡ p.name) ⊎ (p.key ≡ child.module_name ++ 58 ∷ p.name)
    pub name_plain : lacks_colon p.name ≡ true
    pub module_plain : lacks_colon child.module_name ≡ true

  pub record KeyFound (k : List ℕ) (value : Value) (ms : Members) : Type 0 where
    pub child : SchemaNode
    pub found : node_of schema (names_of here ++ k ∷ []) ≡ Some child
    pub json : Data
    pub one : only_member (get_member k ms) (get_member (qualified child.module_name k) ms) ≡ Ok (Some json)
    pub leaf : leaf_at child.shape json ≡ Some value
    pub name_plain : lacks_colon k ≡ true
    pub module_plain : lacks_colon child.module_name ≡ true

  none_named : (x k : List ℕ) (ps : List Part) → name_in x ≡ k → AllRead schema here ps → AllElse k ps → get_member x (as_members ps) ≡ None
  none_named x k [] name reads else = refl
  none_named x k (p ∷ ps) name reads else =
      get_skip x p ps (λ e. apart p.name k else.0 (sym reads.0.spelled ∙ ap name_in (sym e) ∙ name)) ∙ none_named x k ps name reads.1 else.1

  two_modules : (k m : List ℕ) → lacks_colon k ≡ true → lacks_colon m ≡ true → k ≡ m ++ 58 ∷ k → ⊥
  two_modules k m plain module_plain e = let no : None ≡ Some m = sym (module_none k plain) ∙ ap module_in e ∙ module_before m k module_plain in cc

  this_key : (k : List ℕ) (value : Value) (p : Part) (ps : List Part) → AllRead schema here ps → AllElse p.name ps → p.name ≡ k → LeafOf value p → KeyFound k value (as_members (p ∷ ps))
  this_key k value p ps reads else same leaf =
      let m = leaf.child.module_name in
      let q = qualified m k in
      let ms = as_members (p ∷ ps) in
      let plain : lacks_colon k ≡ true = ap lacks_colon (sym same) ∙ leaf.name_plain in
      let others : AllElse k ps = subst (λ (n : List ℕ). AllElse n ps) same else in
      let none_k = none_named k k ps (name_alone k plain) reads others in
      let none_q = none_named q k ps (name_behind m k leaf.module_plain) reads others in
      let one : only_member (get_member k ms) (get_member q ms) ≡ Ok (Some p.json) =
      elim leaf.spelled [
        | inl w ↦ let key : p.key ≡ k = w ∙ same in
            ap (λ (o : Option Data). only_member o (get_member q ms)) (get_here k p ps (sym key)) ∙ ap (only_member (Some p.json)) (get_skip q p ps (λ e. two_modules k m plain leaf.module_plain (sym key ∙ sym e)) ∙ none_q)
        | inr w ↦ let key : p.key ≡ q = w ∙ ap (λ (n : List ℕ). m ++ 58 ∷ n) same in
            ap (λ (o : Option Data). only_member o (get_member q ms)) (get_skip k p ps (λ e. two_modules k m plain leaf.module_plain (e ∙ key)) ∙ none_k) ∙ ap (only_member None) (get_here q p ps (sym key))
      ] in
      record {
        child = leaf.child;
        found = ap (λ (n : List ℕ). node_of schema (names_of here ++ n ∷ [])) (sym same) ∙ leaf.found;
        json = p.json;
        one = one;
        leaf = leaf.leaf;
        name_plain = plain;
        module_plain = leaf.module_plain;
      }

  later_differs : (k name : List ℕ) (value : Value) (ps : List Part) → AnyPart (λ p. (p.name ≡ k) × LeafOf value p) ps → AllElse name ps → bytes_eq k name ≡ false
  later_differs k name value [] any else = absurd any
  later_differs k name value (p ∷ ps) any else =
      elim any [ inl w ↦ ap (λ (n : List ℕ). bytes_eq n name) (sym w.0) ∙ else.0 | inr w ↦ later_differs k name value ps w else.1 ]

  later_key : (k : List ℕ) (value : Value) (p : Part) (ps : List Part) → name_in p.key ≡ p.name → bytes_eq k p.name ≡ false → KeyFound k value (as_members ps) → KeyFound k value (as_members (p ∷ ps))
  later_key k value p ps spelled differ rest =
      let q = qualified rest.child.module_name k in
      let skip_k = get_skip k p ps (λ e. apart k p.name differ (sym (name_alone k rest.name_plain) ∙ ap name_in e ∙ spelled)) in
      let skip_q = get_skip q p ps (λ e. apart k p.name differ (sym (name_behind rest.child.module_name k rest.module_plain) ∙ ap name_in e ∙ spelled)) in
      record {
        child = rest.child;
        found = rest.found;
        json = rest.json;
        one = ap (λ (o : Option Data). only_member o (get_member q (as_members (p ∷ ps)))) skip_k ∙ ap (only_member (get_member k (as_members ps))) skip_q ∙ rest.one;
        leaf = rest.leaf;
        name_plain = rest.name_plain;
        module_plain = rest.module_plain;
      }

  pub key_found : (k : List ℕ) (value : Value) (ps : List Part) → AllRead schema here ps → Distinct ps → AnyPart (λ p. (p.name ≡ k) × LeafOf value p) ps → KeyFound k value (as_members ps)
  key_found k value [] reads own any = absurd any
  key_found k value (p ∷ ps) reads own any =
      elim any [
        | inl w ↦ this_key k value p ps reads.1 own.0 w.0 w.1
        | inr w ↦ later_key k value p ps reads.0.spelled (later_differs k p.name value ps w own.0) (key_found k value ps reads.1 own.1 w)
      ]

  -- the key's text is read
  pub key_is_read : (k : List ℕ) (value : Value) (ms : Members) → KeyFound k value ms → key_of_entry schema (names_of here) k (object ms) ≡ Ok (Some (key_text value))
  key_is_read k value ms found =
      ap (λ (o : Option SchemaNode). key_of_leaf o k (object ms)) found.found ∙ ap (λ answer. and_then answer (key_of_member found.child)) found.one ∙ ap key_text_of found.leaf

  -- where the row is that of a leaf right below the instance, the member is that leaf
  abbrev pub KeyLeaf : Row → Part → Type 0
  KeyLeaf r p = (k : List ℕ) (child : SchemaNode) → r.path ≡ here ++ record { name = k; keys = [] } ∷ [] → node_of schema (names_of here ++ k ∷ []) ≡ Some child → child.sort ≡ sorts.Leaf → (p.name ≡ k) × LeafOf r.value p

  pub any_leaf : (r : Row) (k : List ℕ) (child : SchemaNode) (ps : List Part) → r.path ≡ here ++ record { name = k; keys = [] } ∷ [] → node_of schema (names_of here ++ k ∷ []) ≡ Some child → child.sort ≡ sorts.Leaf → AnyPart (KeyLeaf r) ps → AnyPart (λ p. (p.name ≡ k) × LeafOf r.value p) ps
  any_leaf r k child [] path found sort any = absurd any
  any_leaf r k child (p ∷ ps) path found sort any = elim any [ inl w ↦ inl (w k child path found sort) | inr w ↦ inr (any_leaf r k child ps path found sort w) ]
