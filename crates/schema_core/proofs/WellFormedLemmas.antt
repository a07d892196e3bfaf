-- What the nodes of a well-formed schema have, each found by its names.
use Rattle.std.proofs.Common.{◌≡◌, ℕ, zero, suc, List, [], ◌∷◌, ◌++◌, ◌==◌, ◌||◌, ◌&&◌, length, take, Bool, true, false, cond, Option, Some, None, refl, ap, sym, ◌∙◌, subst, arith, true≢false, bytes_eq, ◌⊎◌, inl, inr}
use Rattle.std.specs.List.{AllByRecursion, list_all, list_any}
use Rattle.std.proofs.lemmas.Bool.{and_parts, and_from}
use Rattle.std.proofs.lemmas.Slice.Eq.{bytes_eq-Decides}
use Rattle.base_kinds.specs.declared.schema.Sort.{Sort}
use Rattle.base_kinds.specs.declared.schema.Sort.TheVariants as sorts
use Rattle.base_kinds.specs.Schema.{SchemaNode, node_of, same_names}
use Rattle.base_kinds.specs.Ancestors.{own_name}
use Rattle.base_kinds.specs.Valid.{if_some}
use Rattle.schema_core.specs.Nodes.{is_inner, has_parent, AllPlaced}
use Rattle.plain_texts.specs.Names.{is_name}
use Rattle.plain_texts.proofs.NameTexts.{name_lacks}
use Rattle.schema_core.specs.Identifiers.{lacks_colon}
use Rattle.schema_core.specs.WellFormed.{is_leaf, has_leaf, has_key_leaf, IsWellFormedNode, IsWellFormed}
use Rattle.schema_core.proofs.NodeLemmas.{no_none, stands_there, parent_of_last}

abbrev Names : Type 0
Names = List (List ℕ)

same_node : (a b : SchemaNode) → Some a ≡ Some b → a ≡ b
same_node a b is = cc

passes_at : (P : SchemaNode → Type 0) (first : SchemaNode) (others : Option SchemaNode) (node : SchemaNode) (is : Bool) → P first → cond is (Some first) others ≡ Some node → (others ≡ Some node → P node) → P node
passes_at P first others node true here found later = subst P (same_node first node found) here
passes_at P first others node false here found later = later found

-- the node of some names has what each node has
pub each_node : (P : SchemaNode → Type 0) (nodes : List SchemaNode) (names : Names) (node : SchemaNode) → AllByRecursion P nodes → node_of nodes names ≡ Some node → P node
each_node P [] names node all found = no_none node found
each_node P (first ∷ others) names node all found = passes_at P first (node_of others names) node (same_names first.names names) all.0 found (each_node P others names node all.1)

found_later : (first : SchemaNode) (front whole : Option SchemaNode) (node : SchemaNode) (is : Bool) → cond is (Some first) front ≡ Some node → (front ≡ Some node → whole ≡ Some node) → cond is (Some first) whole ≡ Some node
found_later first front whole node true found later = found
found_later first front whole node false found later = later found

-- a node of the front is that of the whole
found_in_front : (number : ℕ) (nodes : List SchemaNode) (names : Names) (node : SchemaNode) → node_of (take number nodes) names ≡ Some node → node_of nodes names ≡ Some node
found_in_front zero nodes names node found = no_none node found
found_in_front (suc number) [] names node found = no_none node found
found_in_front (suc number) (first ∷ others) names node found = found_later first (node_of (take number others) names) (node_of others names) node (same_names first.names names) found (found_in_front number others names node)

root_at : (schema : List SchemaNode) (found : Option SchemaNode) → node_of schema [] ≡ found → AllPlaced schema → found ≡ None
root_at schema None is placed = refl
root_at schema (Some node) is placed =
    let there = stands_there schema [] node is in
    let parent : has_parent (take there.0 schema) node.names ≡ true = (placed there.0 node there.1).parent in
    absurd (true≢false (sym parent ∙ ap (has_parent (take there.0 schema)) there.2))

passing : (test : SchemaNode → Bool) (found : Option SchemaNode) → if_some found test ≡ true → (node : SchemaNode) × (found ≡ Some node) × (test node ≡ true)
passing test None is = absurd (true≢false (sym is))
passing test (Some node) is = (node, refl, is)

filled : (name : List ℕ) (names : Names) → (length (name ∷ names) == 0) ≡ false
filled name names = grind arith

leaf_sort : (sort : Sort) → is_leaf sort ≡ true → sort ≡ sorts.Leaf
leaf_sort sorts.Leaf is = refl
leaf_sort sorts.Container is = absurd (true≢false (sym is))
leaf_sort sorts.List is = absurd (true≢false (sym is))
leaf_sort sorts.LeafList is = absurd (true≢false (sym is))

either : (a b : Bool) → (a || b) ≡ true → (a ≡ true) ⊎ (b ≡ true)
either true b is = inl refl
either false b is = inr is

among : (test : List ℕ → Bool) (key : List ℕ) (keys : Names) → list_all test keys ≡ true → list_any (bytes_eq key) keys ≡ true → test key ≡ true
among test key [] all any = absurd (true≢false (sym any))
among test key (other ∷ others) all any =
    let both = and_parts (test other) (list_all test others) all in
    elim (either (bytes_eq key other) (list_any (bytes_eq key) others) any) [
      | inl w ↦ ap test ((bytes_eq-Decides key other).0 w) ∙ both.0
      | inr w ↦ among test key others both.1 w
    ]

-- ---- identifiers

pub name_lacks_colon : (name : List ℕ) → is_name name ≡ true → lacks_colon name ≡ true
name_lacks_colon name is = name_lacks 58 refl name is

pub own_lacks_colon : (names : Names) → list_all is_name names ≡ true → lacks_colon (own_name names) ≡ true
own_lacks_colon [] all = refl
own_lacks_colon (name ∷ []) all = name_lacks_colon name (and_parts (is_name name) true all).0
own_lacks_colon (name ∷ other ∷ others) all = own_lacks_colon (other ∷ others) (and_parts (is_name name) (list_all is_name (other ∷ others)) all).1

-- ---- key leaves

leaf_there : (found : Option SchemaNode) (module_name : List ℕ) → if_some found (λ node. is_leaf node.sort && bytes_eq node.module_name module_name) ≡ true → if_some found (λ node. is_leaf node.sort) ≡ true
leaf_there None module_name is = is
leaf_there (Some node) module_name is = (and_parts (is_leaf node.sort) (bytes_eq node.module_name module_name) is).0

leaves_there : (all : List SchemaNode) (node : SchemaNode) (keys : Names) → list_all (has_key_leaf all node) keys ≡ true → list_all (λ key. has_leaf all (node.names ++ key ∷ [])) keys ≡ true
leaves_there all node [] is = refl
leaves_there all node (key ∷ keys) is =
    let both = and_parts (has_key_leaf all node key) (list_all (has_key_leaf all node) keys) is in
    and_from (has_leaf all (node.names ++ key ∷ [])) (list_all (λ k. has_leaf all (node.names ++ k ∷ [])) keys) (leaf_there (node_of all (node.names ++ key ∷ [])) node.module_name both.0) (leaves_there all node keys both.1)

module _ (schema : List SchemaNode) (formed : IsWellFormed schema) where
  pub no_root : node_of schema [] ≡ None
  no_root = root_at schema (node_of schema []) refl formed.placed

  pub formed_node : (names : Names) (node : SchemaNode) → node_of schema names ≡ Some node → IsWellFormedNode schema node
  formed_node names node found = each_node (IsWellFormedNode schema) schema names node formed.nodes found

  -- what stands above a node is a container or a list
  pub inner_above : (names : Names) (name : List ℕ) (node child : SchemaNode) → node_of schema names ≡ Some node → node_of schema (names ++ name ∷ []) ≡ Some child → is_inner node.sort ≡ true
  inner_above [] name node child above found = no_none node (sym no_root ∙ above)
  inner_above (first ∷ others) name node child above found =
      let there = stands_there schema (first ∷ others ++ name ∷ []) child found in
      let front = take there.0 schema in
      let parent : has_parent front child.names ≡ true = (formed.placed there.0 child there.1).parent in
      let told = parent_of_last front child.names (first ∷ others) name there.2 in
      let inner : if_some (node_of front (first ∷ others)) (λ n. is_inner n.sort) ≡ true = sym (ap (λ b. b || if_some (node_of front (first ∷ others)) (λ n. is_inner n.sort)) (filled first others)) ∙ sym told ∙ parent in
      let one = passing (λ n. is_inner n.sort) (node_of front (first ∷ others)) inner in
      let same : one.0 ≡ node = same_node one.0 node (sym (found_in_front there.0 schema (first ∷ others) one.0 one.1) ∙ above) in
      ap (λ (n : SchemaNode). is_inner n.sort) (sym same) ∙ one.2

  -- each key of a list is the name of a leaf right below it
  pub keys_have_leaves : (names : Names) (node : SchemaNode) → node_of schema names ≡ Some node → list_all (λ key. has_leaf schema (names ++ key ∷ [])) node.keys ≡ true
  keys_have_leaves names node found =
      let own = (stands_there schema names node found).2 in
      subst (λ (ns : Names). list_all (λ key. has_leaf schema (ns ++ key ∷ [])) node.keys ≡ true) own (leaves_there schema node node.keys (formed_node names node found).key_leaves)

  pub key_is_leaf : (names : Names) (node child : SchemaNode) (key : List ℕ) → node_of schema names ≡ Some node → list_any (bytes_eq key) node.keys ≡ true → node_of schema (names ++ key ∷ []) ≡ Some child → child.sort ≡ sorts.Leaf
  key_is_leaf names node child key above any found =
      let leaf = among (λ k. has_leaf schema (names ++ k ∷ [])) key node.keys (keys_have_leaves names node above) any in
      leaf_sort child.sort (sym (ap (λ (o : Option SchemaNode). if_some o (λ n. is_leaf n.sort)) found) ∙ leaf)
