-- A list of nodes: the node with some names, the node with a number, and one node more.
use Rattle.std.proofs.Common.{◌≡◌, ℕ, zero, suc, ◌<◌, ◌≤◌, length, take, take_all, List, [], ◌∷◌, ◌++◌, Bool, true, false, cond, Option, Some, None, refl, ap, sym, ◌∙◌, subst, arith, true≢false, ◌==◌, ◌||◌, ◌⊎◌, inl, inr}
use Rattle.std.proofs.lemmas.List.{take-append-le}
use Rattle.std.specs.Prelude.{slice_get, unwrap_or, is_some}
use Rattle.std.specs.Option.{option_map}
use Rattle.std.specs.Cmp.Lexicographic.{pointwise_decides, bytes_decides}
use Rattle.base_kinds.specs.Schema.{SchemaNode, node_of, same_names}
use Rattle.base_kinds.specs.Valid.{if_some}
use Rattle.base_kinds.specs.Ancestors.{parent_names}
use Rattle.schema_core.specs.Nodes.{names_at, has_parent, is_inner, IsPlaced, AllPlaced}

pub same_decides : (a b : List (List ℕ)) → (same_names a b ≡ true → a ≡ b) × (a ≡ b → same_names a b ≡ true)
same_decides = pointwise_decides bytes_decides

some_is : (x y : SchemaNode) → Some x ≡ Some y → x ≡ y
some_is x y is = ap (λ o. unwrap_or o x) is

pub no_some : {G : Type 0} (x : SchemaNode) → Some x ≡ None → G
no_some x is = absurd (true≢false (ap is_some is))

pub no_none : {G : Type 0} (x : SchemaNode) → None ≡ Some x → G
no_none x is = absurd (true≢false (sym (ap is_some is)))

pub names_of_got : (nodes : List SchemaNode) (number : ℕ) (node : SchemaNode) → slice_get nodes number ≡ Some node → names_at nodes number ≡ node.names
names_of_got nodes number node is = ap (λ o. unwrap_or (option_map (λ n. n.names) o) []) is

pub got : (nodes : List SchemaNode) (number : ℕ) → number < length nodes → (node : SchemaNode) × (slice_get nodes number ≡ Some node)
got [] number less = absurd (omega arith)
got (x ∷ xs) zero less = (x, refl)
got (x ∷ xs) (suc number) less = got xs number (omega arith)

pub got_within : (nodes : List SchemaNode) (number : ℕ) (node : SchemaNode) → slice_get nodes number ≡ Some node → number < length nodes
got_within [] number node is = no_none node is
got_within (x ∷ xs) zero node is = omega arith
got_within (x ∷ xs) (suc number) node is = let e = got_within xs number node is in omega (arith, e)

-- where none of the front has the names, the rest decides
skips : (is : Bool) (x : SchemaNode) (front whole rest : Option SchemaNode) → cond is (Some x) front ≡ None → (front ≡ None → whole ≡ rest) → cond is (Some x) whole ≡ rest
skips true x front whole rest none others = no_some x none
skips false x front whole rest none others = others none

-- a node that none before it has the names of is the node of its names
pub first_is : (nodes : List SchemaNode) (number : ℕ) (node : SchemaNode) → slice_get nodes number ≡ Some node → node_of (take number nodes) node.names ≡ None → node_of nodes node.names ≡ Some node
first_is [] number node is none = no_none node is
first_is (x ∷ xs) zero node is none =
    let e = some_is x node is in
    let same : same_names x.names node.names ≡ true = (same_decides x.names node.names).1 (ap (λ n. n.names) e) in
    ap (λ b. cond b (Some x) (node_of xs node.names)) same ∙ is
first_is (x ∷ xs) (suc number) node is none =
    skips (same_names x.names node.names) x (node_of (take number xs) node.names) (node_of xs node.names) (Some node) none (first_is xs number node is)

-- the node of some names has a number, and those names
abbrev pub StandsThere : List SchemaNode → List (List ℕ) → SchemaNode → Type 0
StandsThere nodes names node = (number : ℕ) × (slice_get nodes number ≡ Some node) × (node.names ≡ names)

either : (x : SchemaNode) (xs : List SchemaNode) (names : List (List ℕ)) (node : SchemaNode) (is : Bool) → same_names x.names names ≡ is → cond is (Some x) (node_of xs names) ≡ Some node → (node_of xs names ≡ Some node → StandsThere xs names node) → StandsThere (x ∷ xs) names node
either x xs names node true same found later =
    let e = some_is x node found in
    (zero, found, ap (λ n. n.names) (sym e) ∙ (same_decides x.names names).0 same)
either x xs names node false same found later = let there = later found in (suc there.0, there.1, there.2)

pub stands_there : (nodes : List SchemaNode) (names : List (List ℕ)) (node : SchemaNode) → node_of nodes names ≡ Some node → StandsThere nodes names node
stands_there [] names node is = no_none node is
stands_there (x ∷ xs) names node is = either x xs names node (same_names x.names names) refl is (stands_there xs names node)

-- one node more
pub get_front : (nodes : List SchemaNode) (node : SchemaNode) (number : ℕ) → number < length nodes → slice_get (nodes ++ node ∷ []) number ≡ slice_get nodes number
get_front [] node number less = absurd (omega arith)
get_front (x ∷ xs) node zero less = refl
get_front (x ∷ xs) node (suc number) less = get_front xs node number (omega arith)

pub get_end : (nodes : List SchemaNode) (node : SchemaNode) (number : ℕ) → number ≡ length nodes → slice_get (nodes ++ node ∷ []) number ≡ Some node
get_end [] node zero is = refl
get_end [] node (suc number) is = absurd (omega arith)
get_end (x ∷ xs) node zero is = absurd (omega arith)
get_end (x ∷ xs) node (suc number) is = get_end xs node number (omega arith)

pub names_front : (nodes : List SchemaNode) (node : SchemaNode) (number : ℕ) → number < length nodes → names_at (nodes ++ node ∷ []) number ≡ names_at nodes number
names_front nodes node number less = ap (λ o. unwrap_or (option_map (λ n. n.names) o) []) (get_front nodes node number less)

pub names_end : (nodes : List SchemaNode) (node : SchemaNode) → names_at (nodes ++ node ∷ []) (length nodes) ≡ node.names
names_end nodes node = ap (λ o. unwrap_or (option_map (λ n. n.names) o) []) (get_end nodes node (length nodes) refl)

push_or : (nodes : List SchemaNode) (node : SchemaNode) (number : ℕ) (other : SchemaNode) → slice_get (nodes ++ node ∷ []) number ≡ Some other → ((number < length nodes) × (slice_get nodes number ≡ Some other)) ⊎ ((number ≡ length nodes) × (node ≡ other))
push_or [] node zero other is = inr (refl, some_is node other is)
push_or [] node (suc number) other is = no_none other is
push_or (x ∷ xs) node zero other is = inl (omega arith, is)
push_or (x ∷ xs) node (suc number) other is =
    elim (push_or xs node number other is) [ inl w ↦ inl (let e = w.0 in omega (arith, e), w.1) | inr w ↦ inr (let e = w.0 in omega (arith, e), w.1) ]

pub placed_more : (nodes : List SchemaNode) (node : SchemaNode) → AllPlaced nodes → IsPlaced nodes node → AllPlaced (nodes ++ node ∷ [])
placed_more nodes node placed here = λ number other is.
    elim (push_or nodes node number other is) [
      | inl w ↦ let less : number ≤ length nodes = (let e = w.0 in omega (arith, e)) in
          let e : take number (nodes ++ node ∷ []) ≡ take number nodes = take-append-le number nodes (node ∷ []) less in
          let P : List SchemaNode → Type 0 = λ before. IsPlaced before other in
          subst P (sym e) (placed number other w.1)
      | inr w ↦ let e : take number (nodes ++ node ∷ []) ≡ nodes = ap (λ n. take n (nodes ++ node ∷ [])) w.0 ∙ take-append-le (length nodes) nodes (node ∷ []) (omega arith) ∙ take_all (length nodes) nodes (omega arith) in
          let P : List SchemaNode → Type 0 = λ before. IsPlaced before other in
          let Q : SchemaNode → Type 0 = λ n. IsPlaced nodes n in
          subst P (sym e) (subst Q w.1 here)
    ]

-- names that end in this one have a parent where there are no others, or the node of the others is an inner one
pub parent_of_last : (nodes : List SchemaNode) (names front : List (List ℕ)) (name : List ℕ) → names ≡ front ++ name ∷ [] → has_parent nodes names ≡ ((length front == 0) || if_some (node_of nodes front) (λ node. is_inner node.sort))
parent_of_last nodes names front name is = ap (has_parent nodes) is ∙ by front
  where
    last : (front : List (List ℕ)) → parent_names (front ++ name ∷ []) ≡ front
    last [] = refl
    last (a ∷ []) = refl
    last (a ∷ b ∷ others) = ap (λ rest. a ∷ rest) (last (b ∷ others))

    filled : (a : List ℕ) (others : List (List ℕ)) → (length (a ∷ others) == 0) ≡ false
    filled a others = grind arith

    by : (front : List (List ℕ)) → has_parent nodes (front ++ name ∷ []) ≡ ((length front == 0) || if_some (node_of nodes front) (λ node. is_inner node.sort))
    by [] = refl
    by (a ∷ others) = later a others ∙ ap (λ none. none || if_some (node_of nodes (a ∷ others)) (λ node. is_inner node.sort)) (sym (filled a others))
      where
        later : (a : List ℕ) (others : List (List ℕ)) → has_parent nodes (a ∷ others ++ name ∷ []) ≡ if_some (node_of nodes (a ∷ others)) (λ node. is_inner node.sort)
        later a [] = refl
        later a (b ∷ others) = ap (λ above. if_some (node_of nodes above) (λ node. is_inner node.sort)) (last (a ∷ b ∷ others))
