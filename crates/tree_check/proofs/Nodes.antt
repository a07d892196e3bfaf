-- A test of nodes, one after another by their numbers.
use Rattle.std.proofs.Common.{◌≡◌, ℕ, zero, suc, ◌+◌, take, List, [], ◌∷◌, Bool, true, false, Some, None, refl, ap, sym, ◌∙◌, true≢false, add-one}
use Rattle.std.specs.Prelude.{slice_get, unwrap_or, is_some}
use Rattle.std.specs.List.{list_all}
use Rattle.std.proofs.lemmas.Bool.{and_right, and_parts, and_from}
use Rattle.base_kinds.specs.Schema.{SchemaNode}

no_none : {G : Type 0} (node : SchemaNode) → None ≡ Some node → G
no_none node is = absurd (true≢false (sym (ap is_some is)))

some_is : (x y : SchemaNode) → Some x ≡ Some y → x ≡ y
some_is x y is = ap (λ o. unwrap_or o x) is

pub fails_there : (test : SchemaNode → Bool) (nodes : List SchemaNode) (number : ℕ) (node : SchemaNode) → slice_get nodes number ≡ Some node → test node ≡ false → list_all test nodes ≡ false
fails_there test [] number node is fails = no_none node is
fails_there test (first ∷ nodes) zero node is fails = let here : test first ≡ false = ap test (some_is first node is) ∙ fails in rw here refl
fails_there test (first ∷ nodes) (suc number) node is fails = and_right (test first) (list_all test nodes) (fails_there test nodes number node is fails)

pub holds_so_far : (test : SchemaNode → Bool) (nodes : List SchemaNode) (number : ℕ) (node : SchemaNode) → slice_get nodes number ≡ Some node → test node ≡ true → list_all test (take number nodes) ≡ true → list_all test (take (number + 1) nodes) ≡ true
holds_so_far test nodes number node is holds so_far = rw add-one (up_to nodes number is so_far)
  where
    up_to : (nodes : List SchemaNode) (number : ℕ) → slice_get nodes number ≡ Some node → list_all test (take number nodes) ≡ true → list_all test (take (suc number) nodes) ≡ true
    up_to [] number is so_far = refl
    up_to (first ∷ nodes) zero is so_far = let here : test first ≡ true = ap test (some_is first node is) ∙ holds in rw here refl
    up_to (first ∷ nodes) (suc number) is so_far =
        let both = and_parts (test first) (list_all test (take number nodes)) so_far in
        and_from (test first) (list_all test (take (suc number) nodes)) both.0 (up_to nodes number is both.1)
