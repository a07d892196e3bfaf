-- The definitions on worked examples (RFC 7951 4, 5 and 6).
use Rattle.std.specs.Prelude.{◌≡◌, List, [], ◌∷◌, true, false, Some, None, refl, codes, ℕ, pos, negsuc, Option}
use Rattle.std.specs.Fmt.{digits}
use Rattle.base64.specs.Rfc4648.{encode_symbols}
use Rattle.serde_json.proofs.OnLiterals.{serde_json_on_literals}
use Rattle.base_kinds.specs.declared.path.Elem.{Elem}
use Rattle.base_kinds.specs.declared.operation.Row.{Row}
use Rattle.base_kinds.specs.declared.value.Value.{Value}
use Rattle.base_kinds.specs.declared.value.Value.TheVariants as values
use Rattle.base_kinds.specs.declared.schema.Shape.{Shape}
use Rattle.base_kinds.specs.declared.schema.Shape.TheVariants as shapes
use Rattle.base_kinds.specs.declared.schema.Sort.{Sort}
use Rattle.base_kinds.specs.declared.schema.Sort.TheVariants as sorts
use Rattle.base_kinds.specs.Schema.{SchemaNode}
use Rattle.json_text.specs.Leaves.{leaf_text}
use Rattle.json_text.specs.Trees.{members_data, json_text_of}

abbrev node : List (List ℕ) → Sort → Option Shape → List (List ℕ) → SchemaNode
node names sort shape keys =
    record {
      names = names;
      sort = sort;
      shape = shape;
      keys = keys;
      module_name = codes "lab";
      is_mandatory = false;
      reference = None;
      maximum = None;
    }

abbrev lab : List (List ℕ)
lab = codes "lab" ∷ []

abbrev schema : List SchemaNode
schema =
    node lab sorts.Container None []
    ∷ node (codes "lab" ∷ codes "big" ∷ []) sorts.Leaf (Some (shapes.Uint 64)) []
    ∷ node (codes "lab" ∷ codes "blob" ∷ []) sorts.Leaf (Some shapes.Bin) []
    ∷ node (codes "lab" ∷ codes "rate" ∷ []) sorts.Leaf (Some (shapes.Dec 2)) []
    ∷ node (codes "lab" ∷ codes "tags" ∷ []) sorts.LeafList (Some shapes.Text) [] ∷ []

abbrev plain : List ℕ → Elem
plain name = record { name = name; keys = [] }

abbrev row : List ℕ → Value → Row
row name value = record { path = plain (codes "lab") ∷ plain name ∷ []; value = value }

abbrev big : Row
big = row (codes "big") (values.Uint 18446744073709551615)

-- integers of 64 bits and decimals are strings, other integers are numbers
wide : leaf_text (shapes.Uint 64) (values.Uint 18446744073709551615)
    ≡ codes "\"18446744073709551615\""
unfolding serde_json_on_literals digits
wide = refl

narrow : leaf_text (shapes.Int 32) (values.Int (negsuc 6)) ≡ codes "-7"
unfolding serde_json_on_literals digits
narrow = refl

decimal64 : leaf_text (shapes.Dec 2) (values.Dec (pos 150) 2) ≡ codes "\"1.5\""
unfolding serde_json_on_literals digits
decimal64 = refl

truth : leaf_text shapes.Bool (values.Bool true) ≡ codes "true"
unfolding serde_json_on_literals
truth = refl

-- below a member of the module no name has the module's
one_leaf : json_text_of schema [] (big ∷ [])
    ≡ codes "{\"lab:lab\":{\"big\":\"18446744073709551615\"}}"
unfolding members_data serde_json_on_literals digits
one_leaf = refl

-- a leaf-list is an array, in the order of its values
abbrev whole_lab : List Row
whole_lab =
    big ∷ row (codes "blob") (values.Bin (1 ∷ 2 ∷ [])) ∷ row (codes "rate") (values.Dec (pos 150) 2)
    ∷ row (codes "tags") (values.List (values.Text (codes "x") ∷ values.Text (codes "y") ∷ [])) ∷ []

tags : leaf_text shapes.Text (values.List (values.Text (codes "x") ∷ values.Text (codes "y") ∷ []))
    ≡ codes "[\"x\",\"y\"]"
unfolding serde_json_on_literals Rattle.base_kinds.specs.declared.value.Value.TheBlock.hidden-the_row-Value-0 denote.Hole.Carrier.hidden
tags = refl

blob : leaf_text shapes.Bin (values.Bin (1 ∷ 2 ∷ [])) ≡ codes "\"AQI=\""
unfolding serde_json_on_literals encode_symbols
blob = refl

of_the_root : json_text_of schema [] whole_lab ≡ codes "{\"lab:lab\":{\"big\":\"18446744073709551615\",\"blob\":\"AQI=\",\"rate\":\"1.5\",\"tags\":[\"x\",\"y\"]}}"
unfolding members_data serde_json_on_literals digits encode_symbols Rattle.base_kinds.specs.declared.value.Value.TheBlock.hidden-the_row-Value-0 denote.Hole.Carrier.hidden
of_the_root = refl
