-- The rows of a valid tree, and those below a container or an entry, are such as can be read back.
use Rattle.std.proofs.Common.{◌≡◌, ℕ, suc, ◌+◌, ◌++◌, ◌≤◌, ◌==◌, ◌&&◌, nat_le, List, [], ◌∷◌, map, length, Bool, true, false, not, true≢false, cond, ◌⊎◌, inl, inr, Option, Some, None, ◌||◌, codes, filter, drop, append_assoc, append-nil, bytes_eq, Ordering, Less, Equal, Greater, refl, sym, ap, ◌∙◌, subst, arith}
use Rattle.std.specs.List.{AllByRecursion, list_all, list_any}
use Rattle.std.specs.Cmp.{IsTotalOrder}
use Rattle.std.specs.Ordering.{is_lt, is_gt, ordering_reverse, ordering_then}
use Rattle.std.proofs.lemmas.Bool.{and_parts, and_from, leb-true, eqb-true}
use Rattle.std.proofs.lemmas.Cmp.{nat_list_cmp_total, tied_itself}
use Rattle.std.proofs.lemmas.Map.Lookups.{exact_bytes}
use Rattle.std.proofs.Math.Seq.{drop-append_seam}
use Rattle.std.proofs.lemmas.List.{length-append}
use Rattle.std.proofs.lemmas.List.Kept.{IsStrictlySortedBy-filter}
use Rattle.std.proofs.lemmas.Slice.Eq.{bytes_eq-Decides}
use Rattle.base_kinds.specs.declared.path.Elem.{Elem}
use Rattle.base_kinds.specs.declared.operation.Row.{Row}
use Rattle.base_kinds.specs.Paths.{text_cmp, key_cmp, same_path}
use Rattle.base_kinds.specs.Match.{suffixes, prefixes, key_matches, elem_matches, first_matches, matches, covers}
use Rattle.base_kinds.specs.Schema.{SchemaNode, names_of, same_names, node_of, node_at}
use Rattle.base_kinds.specs.Valid.{if_some, has_key_leaf, row_has_keys, row_has_type, is_leafy, has_just_keys, step_has_node, row_has_nodes, nodes_exist, types_hold, keys_hold, mandatory_present, leafrefs_resolve, max_elements_hold}
use Rattle.base_kinds.specs.Ancestors.{child, path_steps_from, path_steps}
use Rattle.base_kinds.specs.Keys.{key_text}
use Rattle.base_kinds.specs.Parts.{is_covered, part}
use Rattle.base_kinds.specs.declared.schema.Sort.{Sort}
use Rattle.base_kinds.specs.declared.schema.Sort.TheVariants as sorts
use Rattle.schema_core.specs.Nodes.{is_inner}
use Rattle.schema_core.specs.Shapes.{texts_differ}
use Rattle.schema_core.specs.WellFormed.{IsWellFormed}
use Rattle.schema_core.proofs.WellFormedLemmas.{formed_node, no_root}
use Rattle.base_kinds.specs.Legal.{is_fit_elem, is_fit_path, is_fit_value, is_fit_row}
use Rattle.base_lists.specs.Rising.{rises}
use Rattle.history_laws.proofs.PathOrder.{key_total}
use Rattle.history_laws.proofs.Values.{paths_equal as is_path_same}
use Rattle.base_kinds.specs.Rising.{row_cmp}
use Rattle.json_text.specs.laws.Rows.{IsWhole, IsBelow, IsPart, with_name, in_name_order, step_ordered, row_ordered, keyed_behind}
use Rattle.json_text.specs.laws.ValidTrees.{is_plain_elem, IsWholeTree, IsInstance}
use Rattle.json_text.proofs.Below.{names_below}
use Rattle.json_text.proofs.KeysBack.{either_true, or_left, or_right}

abbrev Names : Type 0
Names = List (List ℕ)

abbrev firsts : List (List ℕ × List ℕ) → Names
firsts keys = map (λ (key : List ℕ × List ℕ). key.0) keys

-- ---- lists in order

abbrev In : {K : Type 0} → K → List K → Type 0
In x [] = ⊥
In x (y ∷ ys) = (x ≡ y) ⊎ In x ys

module _ {K : Type 0} (cmp : K → K → Ordering) where
  abbrev AllOver : K → List K → Type 0
  AllOver x ys = AllByRecursion (λ (y : K). cmp x y ≡ Less) ys

  -- each is below those after it
  abbrev InOrder : List K → Type 0
  InOrder [] = Unit {0}
  InOrder (x ∷ xs) = AllOver x xs × InOrder xs

module _ {K : Type 0} (cmp : K → K → Ordering) (total : IsTotalOrder cmp) where
  not_below_itself : (x : K) → cmp x x ≡ Less → ⊥
  not_below_itself x less = let no : Equal ≡ Less = sym (tied_itself total x) ∙ less in cc

  over_more : (a b : K) (xs : List K) → cmp a b ≡ Less → AllOver cmp b xs → AllOver cmp a xs
  over_more a b [] less over = tt
  over_more a b (x ∷ xs) less over = (total.trans a b x less over.0, over_more a b xs less over.1)

  over_in : (x y : K) (ys : List K) → AllOver cmp x ys → In y ys → cmp x y ≡ Less
  over_in x y [] over there = absurd there
  over_in x y (first ∷ ys) over there = elim there [ inl w ↦ subst (λ (k : K). cmp x k ≡ Less) (sym w) over.0 | inr w ↦ over_in x y ys over.1 w ]

  -- what is above the first is among the others
  in_others : (a : K) (more xs : List K) → AllOver cmp a xs → AllByRecursion (λ (x : K). In x (a ∷ more)) xs → AllByRecursion (λ (x : K). In x more) xs
  in_others a more [] over all = tt
  in_others a more (x ∷ xs) over all =
      let here : In x more = elim all.0 [ inl w ↦ absurd (not_below_itself a (subst (λ (k : K). cmp a k ≡ Less) w over.0)) | inr w ↦ w ] in
      (here, in_others a more xs over.1 all.1)

  -- the first is among the others, and so are those above it
  all_in_others : (a s : K) (more xs : List K) → AllOver cmp a more → AllOver cmp s xs → In s more → AllByRecursion (λ (x : K). In x (a ∷ more)) xs → AllByRecursion (λ (x : K). In x more) (s ∷ xs)
  all_in_others a s more xs up over there all = (there, in_others a more xs (over_more a s xs (over_in a s more up there) over) all)

  -- of two lists in order, one with no item beside the other's is no longer than it
  no_longer : (more xs : List K) → InOrder cmp more → InOrder cmp xs → AllByRecursion (λ (x : K). In x more) xs → length xs ≤ length more
  no_longer more [] up over all = omega arith
  no_longer [] (s ∷ xs) up over all = absurd all.0
  no_longer (a ∷ more) (s ∷ xs) up over all =
      elim all.0 [
        | inl w ↦ (let rest : length xs ≤ length more = no_longer more xs up.1 over.1 (in_others a more xs (subst (λ (k : K). AllOver cmp k xs) w over.0) all.1) in omega arith)
        | inr w ↦ (let rest : length (s ∷ xs) ≤ length more = no_longer more (s ∷ xs) up.1 over (all_in_others a s more xs up.0 over.0 w all.1) in omega arith)
      ]

  -- and if it is as long, it is the other
  same_in_order : (more xs : List K) → InOrder cmp more → InOrder cmp xs → length more ≡ length xs → AllByRecursion (λ (x : K). In x more) xs → more ≡ xs
  same_in_order [] [] up over long all = refl
  same_in_order [] (s ∷ xs) up over long all = absurd all.0
  same_in_order (a ∷ more) [] up over long all = absurd (omega arith)
  same_in_order (a ∷ more) (s ∷ xs) up over long all =
      elim all.0 [
        | inl w ↦ (
            let rest : more ≡ xs = same_in_order more xs up.1 over.1 (omega arith) (in_others a more xs (subst (λ (k : K). AllOver cmp k xs) w over.0) all.1) in
            cc
            )
        | inr w ↦ (
            let rest : length (s ∷ xs) ≤ length more = no_longer more (s ∷ xs) up.1 over (all_in_others a s more xs up.0 over.0 w all.1) in
            absurd (omega arith)
            )
      ]

-- ---- names in order

-- the name is none of these
abbrev IsNew : List ℕ → Names → Type 0
IsNew name names = AllByRecursion (λ (other : List ℕ). other ≡ name → ⊥) names

less_from_test : (order : Ordering) → is_lt order ≡ true → order ≡ Less
less_from_test Less is = refl
less_from_test Equal is = absurd (true≢false (sym is))
less_from_test Greater is = absurd (true≢false (sym is))

keys_in_order : (keys : List (List ℕ × List ℕ)) → rises (λ a b. text_cmp a.0 b.0) keys ≡ true → InOrder text_cmp (firsts keys)
keys_in_order [] is = tt
keys_in_order (key ∷ []) is = (tt, tt)
keys_in_order (key ∷ other ∷ others) is =
    let both = and_parts (is_lt (text_cmp key.0 other.0)) (rises (λ a b. text_cmp a.0 b.0) (other ∷ others)) is in
    let below : text_cmp key.0 other.0 ≡ Less = less_from_test (text_cmp key.0 other.0) both.0 in
    let behind : InOrder text_cmp (firsts (other ∷ others)) = keys_in_order (other ∷ others) both.1 in
    ((below, over_more text_cmp nat_list_cmp_total key.0 other.0 (firsts others) below behind.0), behind)

-- ---- names put in order

all_with_at : (P : List ℕ → Type 0) (greater : Bool) (name other : List ℕ) (others later : Names) → P name → P other → AllByRecursion P others → AllByRecursion P later → AllByRecursion P (cond greater (name ∷ other ∷ others) (other ∷ later))
all_with_at P true name other others later a b c d = (a, (b, c))
all_with_at P false name other others later a b c d = (b, d)

all_with : (P : List ℕ → Type 0) (name : List ℕ) (names : Names) → P name → AllByRecursion P names → AllByRecursion P (with_name name names)
all_with P name [] a all = (a, tt)
all_with P name (other ∷ others) a all = all_with_at P (is_gt (text_cmp other name)) name other others (with_name name others) a all.0 all.1 (all_with P name others a all.1)

all_ordered : (P : List ℕ → Type 0) (done names : Names) → AllByRecursion P done → AllByRecursion P names → AllByRecursion P (in_name_order done names)
all_ordered P done [] a all = a
all_ordered P done (name ∷ names) a all = all_ordered P (with_name name done) names (all_with P name done all.0 a) all.1

length_with : (name : List ℕ) (names : Names) → length (with_name name names) ≡ suc (length names)
length_with name [] = refl
length_with name (other ∷ others) = at (is_gt (text_cmp other name)) (length_with name others)
  where
    at : (greater : Bool) → length (with_name name others) ≡ suc (length others) → length (cond greater (name ∷ other ∷ others) (other ∷ with_name name others)) ≡ suc (suc (length others))
    at true e = refl
    at false e = ap suc e

length_ordered : (done names : Names) → length (in_name_order done names) ≡ length done + length names
length_ordered done [] = omega arith
length_ordered done (name ∷ names) = let rest = length_ordered (with_name name done) names in let first = length_with name done in omega (arith, rest, first)

order_with : (name : List ℕ) (names : Names) → IsNew name names → InOrder text_cmp names → InOrder text_cmp (with_name name names)
order_with name [] new up = (tt, tt)
order_with name (other ∷ others) new up = at (text_cmp other name) refl (order_with name others new.1 up.1)
  where
    at : (order : Ordering) → text_cmp other name ≡ order → InOrder text_cmp (with_name name others) → InOrder text_cmp (cond (is_gt order) (name ∷ other ∷ others) (other ∷ with_name name others))
    at Less is behind = (all_with (λ (x : List ℕ). text_cmp other x ≡ Less) name others is up.0, behind)
    at Equal is behind = absurd (new.0 (exact_bytes other name is))
    at Greater is behind =
        let below : text_cmp name other ≡ Less = nat_list_cmp_total.antisymm name other ∙ ap ordering_reverse is in
        ((below, over_more text_cmp nat_list_cmp_total name other others below up.0), up)

-- each of the names is none of those so far
abbrev AllNew : Names → Names → Type 0
AllNew done [] = Unit {0}
AllNew done (name ∷ names) = IsNew name done × AllNew done names

-- each name is none of those after it
abbrev Apart : Names → Type 0
Apart [] = Unit {0}
Apart (name ∷ names) = AllByRecursion (λ (other : List ℕ). name ≡ other → ⊥) names × Apart names

new_with : (name : List ℕ) (done names : Names) → AllByRecursion (λ (other : List ℕ). name ≡ other → ⊥) names → AllNew done names → AllNew (with_name name done) names
new_with name done [] apart new = tt
new_with name done (other ∷ others) apart new = (all_with (λ (x : List ℕ). x ≡ other → ⊥) name done apart.0 new.0, new_with name done others apart.1 new.1)

order_ordered : (done names : Names) → InOrder text_cmp done → AllNew done names → Apart names → InOrder text_cmp (in_name_order done names)
order_ordered done [] up new apart = up
order_ordered done (name ∷ names) up new apart = order_ordered (with_name name done) names (order_with name done new.0 up) (new_with name done names apart.0 new.1) apart.1

none_new : (names : Names) → AllNew [] names
none_new [] = tt
none_new (name ∷ names) = (tt, none_new names)

not_true : (a : Bool) → not a ≡ true → a ≡ true → ⊥
not_true true e f = true≢false (sym e)
not_true false e f = true≢false (sym f)

apart_all : (name : List ℕ) (names : Names) → (list_any (bytes_eq name) names ≡ true → ⊥) → AllByRecursion (λ (other : List ℕ). name ≡ other → ⊥) names
apart_all name [] none = tt
apart_all name (other ∷ others) none =
    (λ same. none (or_left (bytes_eq name other) (list_any (bytes_eq name) others) ((bytes_eq-Decides name other).1 same)), apart_all name others (λ e. none (or_right (bytes_eq name other) (list_any (bytes_eq name) others) e)))

apart_from : (names : Names) → texts_differ names ≡ true → Apart names
apart_from [] is = tt
apart_from (name ∷ names) is =
    let both = and_parts (not (list_any (bytes_eq name) names)) (texts_differ names) is in
    (apart_all name names (not_true (list_any (bytes_eq name) names) both.0), apart_from names both.1)

-- ---- the keys of an element

in_firsts : (name : List ℕ) (keys : List (List ℕ × List ℕ)) → list_any (λ pair. bytes_eq name pair.0) keys ≡ true → In name (firsts keys)
in_firsts name [] is = absurd (true≢false (sym is))
in_firsts name (key ∷ keys) is =
    elim (either_true (bytes_eq name key.0) (list_any (λ pair. bytes_eq name pair.0) keys) is) [ inl w ↦ inl ((bytes_eq-Decides name key.0).0 w) | inr w ↦ inr (in_firsts name keys w) ]

all_in_firsts : (keys : List (List ℕ × List ℕ)) (names : Names) → list_all (λ name. list_any (λ pair. bytes_eq name pair.0) keys) names ≡ true → AllByRecursion (λ (name : List ℕ). In name (firsts keys)) names
all_in_firsts keys [] is = tt
all_in_firsts keys (name ∷ names) is =
    let both = and_parts (list_any (λ pair. bytes_eq name pair.0) keys) (list_all (λ other. list_any (λ pair. bytes_eq other pair.0) keys) names) is in
    (in_firsts name keys both.0, all_in_firsts keys names both.1)

length_firsts : (keys : List (List ℕ × List ℕ)) → length (firsts keys) ≡ length keys
length_firsts [] = refl
length_firsts (key ∷ keys) = ap suc (length_firsts keys)

same_themselves : (names : Names) → same_names names names ≡ true
same_themselves [] = refl
same_themselves (name ∷ names) = and_from (bytes_eq name name) (same_names names names) ((bytes_eq-Decides name name).1 refl) (same_themselves names)

keys_ordered : (elem : Elem) (names : Names) → is_fit_elem elem ≡ true → has_just_keys elem names ≡ true → texts_differ names ≡ true → same_names (firsts elem.keys) (in_name_order [] names) ≡ true
keys_ordered elem names fit just differ =
    let fits = and_parts (nat_le (length elem.keys) 65535) (rises (λ a b. text_cmp a.0 b.0) elem.keys) fit in
    let keys = and_parts (length elem.keys == length names) (list_all (λ key. list_any (λ pair. bytes_eq key pair.0) elem.keys) names) just in
    let long : length elem.keys ≡ length names = eqb-true (length elem.keys) (length names) keys.0 in
    let longs : length (firsts elem.keys) ≡ length (in_name_order [] names) = let told = length_ordered [] names in let first = length_firsts elem.keys in omega (arith, told, first, long) in
    let up : InOrder text_cmp (in_name_order [] names) = order_ordered [] names tt (none_new names) (apart_from names differ) in
    let inside = all_ordered (λ (name : List ℕ). In name (firsts elem.keys)) [] names tt (all_in_firsts elem.keys names keys.1) in
    let same : firsts elem.keys ≡ in_name_order [] names = same_in_order text_cmp nat_list_cmp_total (firsts elem.keys) (in_name_order [] names) (keys_in_order elem.keys fits.1) up longs inside in
    subst (λ (ns : Names). same_names (firsts elem.keys) ns ≡ true) same (same_themselves (firsts elem.keys))

-- ---- the rows

module _ (schema : List SchemaNode) (formed : IsWellFormed schema) where
  some_ordered : (names : Names) (elem : Elem) (found : Option SchemaNode) → node_of schema names ≡ found → is_fit_elem elem ≡ true → if_some found (λ node. has_just_keys elem node.keys) ≡ true → if_some found (λ node. same_names (firsts elem.keys) (in_name_order [] node.keys)) ≡ true
  some_ordered names elem None at fit known = known
  some_ordered names elem (Some node) at fit known = keys_ordered elem node.keys fit known (formed_node schema formed names node at).keys_differ

  steps_ordered : (front path : List Elem) → list_all is_fit_elem path ≡ true → list_all (step_has_node schema) (path_steps_from front path) ≡ true → list_all (step_ordered schema) (path_steps_from front path) ≡ true
  steps_ordered front [] fit known = refl
  steps_ordered front (elem ∷ elems) fit known =
      let there = front ++ elem ∷ [] in
      let fits = and_parts (is_fit_elem elem) (list_all is_fit_elem elems) fit in
      let knowns = and_parts (step_has_node schema (there, elem)) (list_all (step_has_node schema) (path_steps_from there elems)) known in
      and_from (step_ordered schema (there, elem)) (list_all (step_ordered schema) (path_steps_from there elems)) (some_ordered (names_of there) elem (node_at schema there) refl fits.0 knowns.0) (steps_ordered there elems fits.1 knowns.1)

  below_root : (path : List Elem) → length path ≤ 32 → if_some (node_at schema path) (λ node. is_leafy node.sort) ≡ true → IsBelow [] path
  below_root [] few known = absurd (true≢false (sym known ∙ ap (λ (o : Option SchemaNode). if_some o (λ node. is_leafy node.sort)) (no_root schema formed)))
  below_root (elem ∷ elems) few known = record { elem = elem; rest = elems; is = refl; few = few }

  rows_below : (rows : List Row) → list_all is_fit_row rows ≡ true → nodes_exist schema rows ≡ true → AllByRecursion (λ row. IsBelow [] row.path) rows
  rows_below [] fit known = tt
  rows_below (row ∷ rows) fit known =
      let fits = and_parts (is_fit_row row) (list_all is_fit_row rows) fit in
      let here = and_parts (is_fit_path row.path) (is_fit_value row.value) fits.0 in
      let few = leb-true (length row.path) 32 (and_parts (nat_le (length row.path) 32) (list_all is_fit_elem row.path) here.0).0 in
      let knowns = and_parts (row_has_nodes schema row) (list_all (row_has_nodes schema) rows) known in
      let leafy = (and_parts (if_some (node_at schema row.path) (λ node. is_leafy node.sort)) (list_all (step_has_node schema) (path_steps row.path)) knowns.0).0 in
      (below_root row.path few leafy, rows_below rows fits.1 knowns.1)

  rows_ordered : (rows : List Row) → list_all is_fit_row rows ≡ true → nodes_exist schema rows ≡ true → list_all (row_ordered schema) rows ≡ true
  rows_ordered [] fit known = refl
  rows_ordered (row ∷ rows) fit known =
      let fits = and_parts (is_fit_row row) (list_all is_fit_row rows) fit in
      let here = and_parts (is_fit_path row.path) (is_fit_value row.value) fits.0 in
      let elems = (and_parts (nat_le (length row.path) 32) (list_all is_fit_elem row.path) here.0).1 in
      let knowns = and_parts (row_has_nodes schema row) (list_all (row_has_nodes schema) rows) known in
      let all = (and_parts (if_some (node_at schema row.path) (λ node. is_leafy node.sort)) (list_all (step_has_node schema) (path_steps row.path)) knowns.0).1 in
      and_from (row_ordered schema row) (list_all (row_ordered schema) rows) (steps_ordered [] row.path elems all) (rows_ordered rows fits.1 knowns.1)

pub tree_is_part : (schema : List SchemaNode) (tree : List Row) → IsWellFormed schema → IsWholeTree schema tree → IsPart schema [] tree
tree_is_part schema tree formed is =
    let known = nodes_exist schema tree in
    let shaped = types_hold schema tree in
    let keyed = keys_hold tree in
    let within = and_parts (known && shaped && keyed && mandatory_present schema tree && leafrefs_resolve schema tree) (max_elements_hold schema tree) is.is_valid in
    let referring = and_parts (known && shaped && keyed && mandatory_present schema tree) (leafrefs_resolve schema tree) within.0 in
    let standing = and_parts (known && shaped && keyed) (mandatory_present schema tree) referring.0 in
    let keys = and_parts (known && shaped) keyed standing.0 in
    let both = and_parts known shaped keys.0 in
    record {
      below = rows_below schema formed tree is.fit both.0;
      rising = is.rising;
      known = both.0;
      shaped = both.1;
      whole = is.whole;
      ordered = rows_ordered schema formed tree is.fit both.0;
      keyed = keys.1;
    }

-- ---- what a path without wildcards covers

names_in_order : (keys : List (List ℕ × List ℕ)) → rises (λ a b. text_cmp a.0 b.0) keys ≡ true → InOrder key_cmp keys
names_in_order [] is = tt
names_in_order (key ∷ []) is = (tt, tt)
names_in_order (key ∷ other ∷ others) is =
    let both = and_parts (is_lt (text_cmp key.0 other.0)) (rises (λ a b. text_cmp a.0 b.0) (other ∷ others)) is in
    let below : key_cmp key other ≡ Less = ap (λ (o : Ordering). ordering_then o (text_cmp key.1 other.1)) (less_from_test (text_cmp key.0 other.0) both.0) in
    let behind : InOrder key_cmp (other ∷ others) = names_in_order (other ∷ others) both.1 in
    ((below, over_more key_cmp key_total key other others below behind.0), behind)

not_false : (a : Bool) → not a ≡ true → a ≡ false
not_false true is = absurd (true≢false (sym is))
not_false false is = refl

-- the pair stands among the keys
key_in : (key : List ℕ × List ℕ) (keys : List (List ℕ × List ℕ)) → list_any (λ other. bytes_eq key.0 other.0 && bytes_eq key.1 other.1) keys ≡ true → In key keys
key_in key [] is = absurd (true≢false (sym is))
key_in key (other ∷ others) is =
    elim (either_true (bytes_eq key.0 other.0 && bytes_eq key.1 other.1) (list_any (λ x. bytes_eq key.0 x.0 && bytes_eq key.1 x.1) others) is) [
      | inl w ↦ (
          let both = and_parts (bytes_eq key.0 other.0) (bytes_eq key.1 other.1) w in
          let name : key.0 ≡ other.0 = (bytes_eq-Decides key.0 other.0).0 both.0 in
          let text : key.1 ≡ other.1 = (bytes_eq-Decides key.1 other.1).0 both.1 in
          inl (λ i. (name i, text i))
          )
      | inr w ↦ inr (key_in key others w)
    ]

in_key : (key : List ℕ × List ℕ) (keys : List (List ℕ × List ℕ)) → In key keys → list_any (λ other. bytes_eq key.0 other.0 && bytes_eq key.1 other.1) keys ≡ true
in_key key [] there = absurd there
in_key key (other ∷ others) there =
    elim there [
      | inl w ↦ or_left (bytes_eq key.0 other.0 && bytes_eq key.1 other.1) (list_any (λ x. bytes_eq key.0 x.0 && bytes_eq key.1 x.1) others) (and_from (bytes_eq key.0 other.0) (bytes_eq key.1 other.1) ((bytes_eq-Decides key.0 other.0).1 (ap (λ (k : List ℕ × List ℕ). k.0) w)) ((bytes_eq-Decides key.1 other.1).1 (ap (λ (k : List ℕ × List ℕ). k.1) w)))
      | inr w ↦ or_right (bytes_eq key.0 other.0 && bytes_eq key.1 other.1) (list_any (λ x. bytes_eq key.0 x.0 && bytes_eq key.1 x.1) others) (in_key key others w)
    ]

second : (a b : Bool) → (a || b) ≡ true → a ≡ false → b ≡ true
second true b is fails = absurd (true≢false fails)
second false b is fails = is

-- the keys of a pattern without wildcards are keys of the element
all_keys_in : (elem : Elem) (keys : List (List ℕ × List ℕ)) → list_all (key_matches elem) keys ≡ true → list_all (λ key. not (bytes_eq key.1 (codes "*"))) keys ≡ true → AllByRecursion (λ (key : List ℕ × List ℕ). In key elem.keys) keys
all_keys_in elem [] is plain = tt
all_keys_in elem (key ∷ keys) is plain =
    let both = and_parts (key_matches elem key) (list_all (key_matches elem) keys) is in
    let plains = and_parts (not (bytes_eq key.1 (codes "*"))) (list_all (λ other. not (bytes_eq other.1 (codes "*"))) keys) plain in
    let here = second (bytes_eq key.1 (codes "*")) (list_any (λ other. bytes_eq key.0 other.0 && bytes_eq key.1 other.1) elem.keys) both.0 (not_false (bytes_eq key.1 (codes "*")) plains.0) in
    (key_in key elem.keys here, all_keys_in elem keys both.1 plains.1)

keys_match : (elem : Elem) (keys : List (List ℕ × List ℕ)) → AllByRecursion (λ (key : List ℕ × List ℕ). In key elem.keys) keys → list_all (key_matches elem) keys ≡ true
keys_match elem [] all = refl
keys_match elem (key ∷ keys) all =
    and_from (key_matches elem key) (list_all (key_matches elem) keys) (or_right (bytes_eq key.1 (codes "*")) (list_any (λ other. bytes_eq key.0 other.0 && bytes_eq key.1 other.1) elem.keys) (in_key key elem.keys all.0)) (keys_match elem keys all.1)

in_more : (x : List ℕ × List ℕ) (xs ys : List (List ℕ × List ℕ)) → AllByRecursion (λ (y : List ℕ × List ℕ). In y xs) ys → AllByRecursion (λ (y : List ℕ × List ℕ). In y (x ∷ xs)) ys
in_more x xs [] all = tt
in_more x xs (y ∷ ys) all = (inr all.0, in_more x xs ys all.1)

all_in : (keys : List (List ℕ × List ℕ)) → AllByRecursion (λ (key : List ℕ × List ℕ). In key keys) keys
all_in [] = tt
all_in (key ∷ keys) = (inl refl, in_more key keys keys (all_in keys))

matches_itself : (elem : Elem) → elem_matches elem elem ≡ true
matches_itself elem =
    and_from (bytes_eq elem.name (codes "*") || bytes_eq elem.name elem.name) (list_all (key_matches elem) elem.keys) (or_right (bytes_eq elem.name (codes "*")) (bytes_eq elem.name elem.name) ((bytes_eq-Decides elem.name elem.name).1 refl)) (keys_match elem elem.keys (all_in elem.keys))

-- a pattern that begins with an element without wildcards goes on behind an element
first_of : (first : Elem) (others path : List Elem) → bytes_eq first.name (codes "...") ≡ false → matches (first ∷ others) path ≡ first_matches first (matches others) path
first_of first others path one = ap (λ b. cond b (list_any (matches others) (suffixes path)) (first_matches first (matches others) path)) one

fronts_behind : (first elem : Elem) (others : List Elem) (paths : List (List Elem)) → bytes_eq first.name (codes "...") ≡ false → list_any (matches (first ∷ others)) (map (λ front. elem ∷ front) paths) ≡ true → (elem_matches first elem ≡ true) × (list_any (matches others) paths ≡ true)
fronts_behind first elem others [] one is = absurd (true≢false (sym is))
fronts_behind first elem others (path ∷ paths) one is =
    elim (either_true (matches (first ∷ others) (elem ∷ path)) (list_any (matches (first ∷ others)) (map (λ front. elem ∷ front) paths)) is) [
      | inl w ↦ (let both = and_parts (elem_matches first elem) (matches others path) (sym (first_of first others (elem ∷ path) one) ∙ w) in (both.0, or_left (matches others path) (list_any (matches others) paths) both.1))
      | inr w ↦ (let later = fronts_behind first elem others paths one w in (later.0, or_right (matches others path) (list_any (matches others) paths) later.1))
    ]

fronts_on : (first elem : Elem) (others : List Elem) (paths : List (List Elem)) → bytes_eq first.name (codes "...") ≡ false → elem_matches first elem ≡ true → list_any (matches others) paths ≡ true → list_any (matches (first ∷ others)) (map (λ front. elem ∷ front) paths) ≡ true
fronts_on first elem others [] one here is = is
fronts_on first elem others (path ∷ paths) one here is =
    elim (either_true (matches others path) (list_any (matches others) paths) is) [
      | inl w ↦ or_left (matches (first ∷ others) (elem ∷ path)) (list_any (matches (first ∷ others)) (map (λ front. elem ∷ front) paths)) (first_of first others (elem ∷ path) one ∙ and_from (elem_matches first elem) (matches others path) here w)
      | inr w ↦ or_right (matches (first ∷ others) (elem ∷ path)) (list_any (matches (first ∷ others)) (map (λ front. elem ∷ front) paths)) (fronts_on first elem others paths one here w)
    ]

-- no `*` stands for the name, and no `...` for more elements, and no `*` for a key
pub record IsPlainElem (elem : Elem) : Type 0 where
  pub name : bytes_eq elem.name (codes "*") ≡ false
  pub one : bytes_eq elem.name (codes "...") ≡ false
  pub keys : list_all (λ key. not (bytes_eq key.1 (codes "*"))) elem.keys ≡ true

plain_from : (elem : Elem) → is_plain_elem elem ≡ true → IsPlainElem elem
plain_from elem is =
    let both = and_parts (not (bytes_eq elem.name (codes "*")) && not (bytes_eq elem.name (codes "..."))) (list_all (λ key. not (bytes_eq key.1 (codes "*"))) elem.keys) is in
    let names = and_parts (not (bytes_eq elem.name (codes "*"))) (not (bytes_eq elem.name (codes "..."))) both.0 in
    record { name = not_false (bytes_eq elem.name (codes "*")) names.0; one = not_false (bytes_eq elem.name (codes "...")) names.1; keys = both.1 }

covers_below : (here rest : List Elem) → list_all is_plain_elem here ≡ true → covers here (here ++ rest) ≡ true
covers_below [] [] plain = refl
covers_below [] (elem ∷ rest) plain = refl
covers_below (elem ∷ here) rest plain =
    let plains = and_parts (is_plain_elem elem) (list_all is_plain_elem here) plain in
    or_right (matches (elem ∷ here) []) (list_any (matches (elem ∷ here)) (map (λ front. elem ∷ front) (prefixes (here ++ rest)))) (fronts_on elem elem here (prefixes (here ++ rest)) (plain_from elem plains.0).one (matches_itself elem) (covers_below here rest plains.1))

module _ (schema : List SchemaNode) where
  same_long : (a b : Elem) (found : Option SchemaNode) → if_some found (λ node. has_just_keys a node.keys) ≡ true → if_some found (λ node. has_just_keys b node.keys) ≡ true → length b.keys ≡ length a.keys
  same_long a b None x y = absurd (true≢false (sym x))
  same_long a b (Some node) x y =
      let first = eqb-true (length a.keys) (length node.keys) (and_parts (length a.keys == length node.keys) (list_all (λ key. list_any (λ pair. bytes_eq key pair.0) a.keys) node.keys) x).0 in
      let other = eqb-true (length b.keys) (length node.keys) (and_parts (length b.keys == length node.keys) (list_all (λ key. list_any (λ pair. bytes_eq key pair.0) b.keys) node.keys) y).0 in
      other ∙ sym first

  same_elem : (front : List Elem) (a b : Elem) → IsPlainElem a → is_fit_elem a ≡ true → is_fit_elem b ≡ true → elem_matches a b ≡ true → step_has_node schema (front ++ a ∷ [], a) ≡ true → step_has_node schema (front ++ b ∷ [], b) ≡ true → b ≡ a
  same_elem front a b plain fit_a fit_b here known_a known_b =
      let both = and_parts (bytes_eq a.name (codes "*") || bytes_eq a.name b.name) (list_all (key_matches b) a.keys) here in
      let name : b.name ≡ a.name = sym ((bytes_eq-Decides a.name b.name).0 (second (bytes_eq a.name (codes "*")) (bytes_eq a.name b.name) both.0 plain.name)) in
      let names : names_of (front ++ b ∷ []) ≡ names_of (front ++ a ∷ []) = names_below front b ∙ ap (λ (n : List ℕ). names_of front ++ n ∷ []) name ∙ sym (names_below front a) in
      let known : if_some (node_at schema (front ++ a ∷ [])) (λ node. has_just_keys b node.keys) ≡ true = sym (ap (λ (ns : Names). if_some (node_of schema ns) (λ node. has_just_keys b node.keys)) names) ∙ known_b in
      let long = same_long a b (node_at schema (front ++ a ∷ [])) known_a known in
      let up_a = names_in_order a.keys (and_parts (nat_le (length a.keys) 65535) (rises (λ x y. text_cmp x.0 y.0) a.keys) fit_a).1 in
      let up_b = names_in_order b.keys (and_parts (nat_le (length b.keys) 65535) (rises (λ x y. text_cmp x.0 y.0) b.keys) fit_b).1 in
      let keys : b.keys ≡ a.keys = same_in_order key_cmp key_total b.keys a.keys up_b up_a long (all_keys_in b a.keys both.1 plain.keys) in
      λ i. record { name = name i; keys = keys i }

  -- the path is that of the instance, with more behind it
  pub behind : (front here path : List Elem) → list_all is_plain_elem here ≡ true → list_all is_fit_elem here ≡ true → list_all is_fit_elem path ≡ true → list_all (step_has_node schema) (path_steps_from front here) ≡ true → list_all (step_has_node schema) (path_steps_from front path) ≡ true → covers here path ≡ true → (rest : List Elem) × (path ≡ here ++ rest)
  behind front [] path plain fit fits known knowns covered = (path, refl)
  behind front (a ∷ here) [] plain fit fits known knowns covered =
      let one = (plain_from a (and_parts (is_plain_elem a) (list_all is_plain_elem here) plain).0).one in
      let none : matches (a ∷ here) [] ≡ true = elim (either_true (matches (a ∷ here) []) false covered) [ inl w ↦ w | inr w ↦ absurd (true≢false (sym w)) ] in
      absurd (true≢false (sym none ∙ first_of a here [] one))
  behind front (a ∷ here) (b ∷ path) plain fit fits known knowns covered =
      let plains = and_parts (is_plain_elem a) (list_all is_plain_elem here) plain in
      let is_plain = plain_from a plains.0 in
      let fit_a = and_parts (is_fit_elem a) (list_all is_fit_elem here) fit in
      let fit_b = and_parts (is_fit_elem b) (list_all is_fit_elem path) fits in
      let known_a = and_parts (step_has_node schema (front ++ a ∷ [], a)) (list_all (step_has_node schema) (path_steps_from (front ++ a ∷ []) here)) known in
      let known_b = and_parts (step_has_node schema (front ++ b ∷ [], b)) (list_all (step_has_node schema) (path_steps_from (front ++ b ∷ []) path)) knowns in
      let none = first_of a here [] is_plain.one in
      let later = second (matches (a ∷ here) []) (list_any (matches (a ∷ here)) (map (λ f. b ∷ f) (prefixes path))) covered none in
      let both = fronts_behind a b here (prefixes path) is_plain.one later in
      let same : b ≡ a = same_elem front a b is_plain fit_a.0 fit_b.0 both.0 known_a.0 known_b.0 in
      let known_on : list_all (step_has_node schema) (path_steps_from (front ++ a ∷ []) path) ≡ true = subst (λ (e : Elem). list_all (step_has_node schema) (path_steps_from (front ++ e ∷ []) path) ≡ true) same known_b.1 in
      let rest = behind (front ++ a ∷ []) here path plains.1 fit_a.1 fit_b.1 known_a.1 known_on both.1 in
      (rest.0, ap (λ (e : Elem). e ∷ path) same ∙ ap (λ (es : List Elem). a ∷ es) rest.1)

-- ---- the rows that are kept

all_kept_at : (P : Row → Type 0) (keep : Bool) (row : Row) (kept : List Row) → (keep ≡ true → P row) → AllByRecursion P kept → AllByRecursion P (cond keep (row ∷ kept) kept)
all_kept_at P true row kept here all = (here refl, all)
all_kept_at P false row kept here all = all

pub all_kept : (P Q : Row → Type 0) (keep : Row → Bool) (rows : List Row) → ((row : Row) → keep row ≡ true → P row → Q row) → AllByRecursion P rows → AllByRecursion Q (filter keep rows)
all_kept P Q keep [] goes all = tt
all_kept P Q keep (row ∷ rows) goes all = all_kept_at Q (keep row) row (filter keep rows) (λ is. goes row is all.0) (all_kept P Q keep rows goes all.1)

each_passes : (test : Row → Bool) (rows : List Row) → list_all test rows ≡ true → AllByRecursion (λ row. test row ≡ true) rows
each_passes test [] all = tt
each_passes test (row ∷ rows) all = let both = and_parts (test row) (list_all test rows) all in (both.0, each_passes test rows both.1)

all_pass : (test : Row → Bool) (rows : List Row) → AllByRecursion (λ row. test row ≡ true) rows → list_all test rows ≡ true
all_pass test [] all = refl
all_pass test (row ∷ rows) all = and_from (test row) (list_all test rows) all.0 (all_pass test rows all.1)

pub kept_pass : (test keep : Row → Bool) (rows : List Row) → list_all test rows ≡ true → list_all test (filter keep rows) ≡ true
kept_pass test keep rows all = all_pass test (filter keep rows) (all_kept (λ row. test row ≡ true) (λ row. test row ≡ true) keep rows (λ row is pass. pass) (each_passes test rows all))

any_kept_at : (test : Row → Bool) (keep : Bool) (row : Row) (kept : List Row) → (test row ≡ true → keep ≡ true) → (test row ≡ true) ⊎ (list_any test kept ≡ true) → list_any test (cond keep (row ∷ kept) kept) ≡ true
any_kept_at test true row kept goes some = elim some [ inl w ↦ or_left (test row) (list_any test kept) w | inr w ↦ or_right (test row) (list_any test kept) w ]
any_kept_at test false row kept goes some = elim some [ inl w ↦ absurd (true≢false (sym (goes w))) | inr w ↦ w ]

-- what only rows that are kept pass, some row that is kept passes
pub any_kept : (test keep : Row → Bool) (rows : List Row) → ((row : Row) → test row ≡ true → keep row ≡ true) → list_any test rows ≡ true → list_any test (filter keep rows) ≡ true
any_kept test keep [] goes is = is
any_kept test keep (row ∷ rows) goes is =
    any_kept_at test (keep row) row (filter keep rows) (goes row) (elim (either_true (test row) (list_any test rows) is) [ inl w ↦ inl w | inr w ↦ inr (any_kept test keep rows goes w) ])

later_steps : (test : List Elem × Elem → Bool) (front here rest : List Elem) → list_all test (path_steps_from front (here ++ rest)) ≡ true → list_all test (path_steps_from (front ++ here) rest) ≡ true
later_steps test front [] rest all = subst (λ (path : List Elem). list_all test (path_steps_from path rest) ≡ true) (sym (append-nil front)) all
later_steps test front (elem ∷ here) rest all =
    let later = later_steps test (front ++ elem ∷ []) here rest (and_parts (test (front ++ elem ∷ [], elem)) (list_all test (path_steps_from (front ++ elem ∷ []) (here ++ rest))) all).1 in
    subst (λ (path : List Elem). list_all test (path_steps_from path rest) ≡ true) (append_assoc front (elem ∷ []) here) later

module _ (tree : List Row) (here : List Elem) (plain : list_all is_plain_elem here ≡ true) where
  pub covered_below : (more : List Elem) → is_covered (here ∷ []) (here ++ more) ≡ true
  covered_below more = or_left (covers here (here ++ more)) false (covers_below here more plain)

  leaf_kept : (front more : List Elem) (key : List ℕ × List ℕ) → front ≡ here ++ more → has_key_leaf tree front key ≡ true → has_key_leaf (part (here ∷ []) tree) front key ≡ true
  leaf_kept front more key at is =
      let goes : (row : Row) → (same_path row.path (child front key.0) && bytes_eq (key_text row.value) key.1) ≡ true → is_covered (here ∷ []) row.path ≡ true =
      λ row both.
      let same : row.path ≡ child front key.0 = is_path_same row.path (child front key.0) (and_parts (same_path row.path (child front key.0)) (bytes_eq (key_text row.value) key.1) both).0 in
      let leaf : Elem = record { name = key.0; keys = [] } in
      let path : row.path ≡ here ++ (more ++ leaf ∷ []) = same ∙ ap (λ (f : List Elem). f ++ leaf ∷ []) at ∙ append_assoc here more (leaf ∷ []) in
      subst (λ (p : List Elem). is_covered (here ∷ []) p ≡ true) (sym path) (covered_below (more ++ leaf ∷ [])) in
      any_kept (λ row. same_path row.path (child front key.0) && bytes_eq (key_text row.value) key.1) (λ row. is_covered (here ∷ []) row.path) tree goes is

  pub leaves_kept : (front more : List Elem) (keys : List (List ℕ × List ℕ)) → front ≡ here ++ more → list_all (has_key_leaf tree front) keys ≡ true → list_all (has_key_leaf (part (here ∷ []) tree) front) keys ≡ true
  leaves_kept front more [] at all = refl
  leaves_kept front more (key ∷ keys) at all =
      let both = and_parts (has_key_leaf tree front key) (list_all (has_key_leaf tree front) keys) all in
      and_from (has_key_leaf (part (here ∷ []) tree) front key) (list_all (has_key_leaf (part (here ∷ []) tree) front) keys) (leaf_kept front more key at both.0) (leaves_kept front more keys at both.1)

  steps_kept : (front more rest : List Elem) → front ≡ here ++ more → list_all (λ step. list_all (has_key_leaf tree step.0) step.1.keys) (path_steps_from front rest) ≡ true → list_all (λ step. list_all (has_key_leaf (part (here ∷ []) tree) step.0) step.1.keys) (path_steps_from front rest) ≡ true
  steps_kept front more [] at all = refl
  steps_kept front more (elem ∷ rest) at all =
      let there = front ++ elem ∷ [] in
      let is : there ≡ here ++ (more ++ elem ∷ []) = ap (λ (f : List Elem). f ++ elem ∷ []) at ∙ append_assoc here more (elem ∷ []) in
      let both = and_parts (list_all (has_key_leaf tree there) elem.keys) (list_all (λ step. list_all (has_key_leaf tree step.0) step.1.keys) (path_steps_from there rest)) all in
      and_from (list_all (has_key_leaf (part (here ∷ []) tree) there) elem.keys) (list_all (λ step. list_all (has_key_leaf (part (here ∷ []) tree) step.0) step.1.keys) (path_steps_from there rest)) (leaves_kept there (more ++ elem ∷ []) elem.keys is both.0) (steps_kept there (more ++ elem ∷ []) rest is both.1)

  row_kept : (row : Row) (rest : List Elem) → row.path ≡ here ++ rest → row_has_keys tree row ≡ true → keyed_behind (part (here ∷ []) tree) here row ≡ true
  row_kept row rest is all =
      let split = subst (λ (p : List Elem). list_all (λ step. list_all (has_key_leaf tree step.0) step.1.keys) (path_steps_from [] p) ≡ true) is all in
      let behind_here = later_steps (λ step. list_all (has_key_leaf tree step.0) step.1.keys) [] here rest split in
      let kept = steps_kept here [] rest (sym (append-nil here)) behind_here in
      let dropped : drop (length here) row.path ≡ rest = ap (λ (p : List Elem). drop (length here) p) is ∙ drop-append_seam here rest in
      subst (λ (p : List Elem). list_all (λ step. list_all (has_key_leaf (part (here ∷ []) tree) step.0) step.1.keys) (path_steps_from here p) ≡ true) (sym dropped) kept

-- what each row of the tree has
pub record IsGood (schema : List SchemaNode) (tree : List Row) (row : Row) : Type 0 where
  pub fit : is_fit_row row ≡ true
  pub known : row_has_nodes schema row ≡ true
  pub keyed : row_has_keys tree row ≡ true

each_good : (schema : List SchemaNode) (tree rows : List Row) → list_all is_fit_row rows ≡ true → list_all (row_has_nodes schema) rows ≡ true → list_all (row_has_keys tree) rows ≡ true → AllByRecursion (IsGood schema tree) rows
each_good schema tree [] fit known keyed = tt
each_good schema tree (row ∷ rows) fit known keyed =
    let fits = and_parts (is_fit_row row) (list_all is_fit_row rows) fit in
    let knowns = and_parts (row_has_nodes schema row) (list_all (row_has_nodes schema) rows) known in
    let keys = and_parts (row_has_keys tree row) (list_all (row_has_keys tree) rows) keyed in
    (record { fit = fits.0; known = knowns.0; keyed = keys.0 }, each_good schema tree rows fits.1 knowns.1 keys.1)

pub all_rows_good : (schema : List SchemaNode) (tree : List Row) → IsWellFormed schema → IsWholeTree schema tree → AllByRecursion (IsGood schema tree) tree
all_rows_good schema tree formed is = let root = tree_is_part schema tree formed is in each_good schema tree tree is.fit root.known root.keyed

pub no_inner_leaf : (sort : Sort) → is_inner sort ≡ true → is_leafy sort ≡ true → ⊥
no_inner_leaf sorts.Container inner leafy = true≢false (sym leafy)
no_inner_leaf sorts.List inner leafy = true≢false (sym leafy)
no_inner_leaf sorts.Leaf inner leafy = true≢false (sym inner)
no_inner_leaf sorts.LeafList inner leafy = true≢false (sym inner)

module _ (schema : List SchemaNode) (tree : List Row) (here : List Elem) (instance : IsInstance schema here) where
  pub rest_of : (row : Row) → is_covered (here ∷ []) row.path ≡ true → IsGood schema tree row → (rest : List Elem) × (row.path ≡ here ++ rest)
  rest_of row covered good =
      let path = (and_parts (is_fit_path row.path) (is_fit_value row.value) good.fit).0 in
      let elems = (and_parts (nat_le (length row.path) 32) (list_all is_fit_elem row.path) path).1 in
      let known = (and_parts (if_some (node_at schema row.path) (λ node. is_leafy node.sort)) (list_all (step_has_node schema) (path_steps row.path)) good.known).1 in
      let is : covers here row.path ≡ true = elim (either_true (covers here row.path) false covered) [ inl w ↦ w | inr w ↦ absurd (true≢false (sym w)) ] in
      behind schema [] here row.path instance.plain instance.fit elems instance.known known is

  below_at : (row : Row) (rest : List Elem) → row.path ≡ here ++ rest → IsGood schema tree row → IsBelow here row.path
  below_at row [] is good =
      let leafy = (and_parts (if_some (node_at schema row.path) (λ node. is_leafy node.sort)) (list_all (step_has_node schema) (path_steps row.path)) good.known).0 in
      let found : node_at schema row.path ≡ Some instance.node = ap (node_at schema) (is ∙ append-nil here) ∙ instance.found in
      absurd (no_inner_leaf instance.node.sort instance.inner (sym (ap (λ (o : Option SchemaNode). if_some o (λ node. is_leafy node.sort)) found) ∙ leafy))
  below_at row (elem ∷ rest) is good =
      let path = (and_parts (is_fit_path row.path) (is_fit_value row.value) good.fit).0 in
      let few = leb-true (length row.path) 32 (and_parts (nat_le (length row.path) 32) (list_all is_fit_elem row.path) path).0 in
      let long : length row.path ≡ length here + length (elem ∷ rest) = ap length is ∙ length-append here (elem ∷ rest) in
      let short : length (elem ∷ rest) ≤ 32 = omega (arith, few, long) in
      record { elem = elem; rest = rest; is = is; few = short }

  below_here : (row : Row) → is_covered (here ∷ []) row.path ≡ true → IsGood schema tree row → IsBelow here row.path
  below_here row covered good = let rest = rest_of row covered good in below_at row rest.0 rest.1 good

  keyed_here : (row : Row) → is_covered (here ∷ []) row.path ≡ true → IsGood schema tree row → keyed_behind (part (here ∷ []) tree) here row ≡ true
  keyed_here row covered good = let rest = rest_of row covered good in row_kept tree here instance.plain row rest.0 rest.1 good.keyed

pub instance_is_part : (schema : List SchemaNode) (tree : List Row) (here : List Elem) → IsWellFormed schema → IsWholeTree schema tree → IsInstance schema here → IsPart schema here (part (here ∷ []) tree)
instance_is_part schema tree here formed is instance =
    let root = tree_is_part schema tree formed is in
    let keep : Row → Bool = λ row. is_covered (here ∷ []) row.path in
    let goods = all_rows_good schema tree formed is in
    record {
      below = all_kept (IsGood schema tree) (λ row. IsBelow here row.path) keep tree (below_here schema tree here instance) goods;
      rising = IsStrictlySortedBy-filter row_cmp keep tree is.rising;
      known = kept_pass (row_has_nodes schema) keep tree root.known;
      shaped = kept_pass (row_has_type schema) keep tree root.shaped;
      whole = all_kept (λ row. IsWhole row.value) (λ row. IsWhole row.value) keep tree (λ row covered whole. whole) is.whole;
      ordered = kept_pass (row_ordered schema) keep tree root.ordered;
      keyed = all_pass (keyed_behind (part (here ∷ []) tree) here) (part (here ∷ []) tree) (all_kept (IsGood schema tree) (λ row. keyed_behind (part (here ∷ []) tree) here row ≡ true) keep tree (keyed_here schema tree here instance) goods);
    }
