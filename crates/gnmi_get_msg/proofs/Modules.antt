-- The modules of one node more.
use Rattle.std.proofs.Common.{◌≡◌, ℕ, zero, suc, ◌+◌, List, [], ◌∷◌, Option, Some, None, ap, arith, take}
use Rattle.std.specs.Prelude.{map, fold, slice_get}
use Rattle.std.specs.Option.{option_map}
use Rattle.base_kinds.specs.Schema.{SchemaNode}
use Rattle.gnmi_get_msg.specs.Replies.{with_name, modules_of}

name_is : (a b : List ℕ) → ◌≡◌ {A = Option (List ℕ)} (Some a) (Some b) → a ≡ b
name_is a b e = cc

none_is : (a : List ℕ) → ◌≡◌ {A = Option (List ℕ)} None (Some a) → ⊥
none_is a e = cc

abbrev module_in : SchemaNode → List ℕ
module_in node = node.module_name

one_more : (start : List (List ℕ)) (schema : List SchemaNode) (n : ℕ) (name : List ℕ)
    → option_map module_in (slice_get schema n) ≡ Some name
    → fold with_name start (map module_in (take (suc n) schema)) ≡ with_name (fold with_name start (map module_in (take n schema))) name
one_more start [] n name e = absurd (none_is name e)
one_more start (node ∷ nodes) zero name e = ap (with_name start) (name_is node.module_name name e)
one_more start (node ∷ nodes) (suc n) name e = one_more (with_name start node.module_name) nodes n name e

pub next_module : (schema : List SchemaNode) (n : ℕ) (name : List ℕ)
    → option_map (λ (node : SchemaNode). node.module_name) (slice_get schema n) ≡ Some name
    → modules_of (take (n + 1) schema) ≡ with_name (modules_of (take n schema)) name
next_module schema n name e =
    let next : n + 1 ≡ suc n = omega arith in
    rw next (one_more [] schema n name e)
