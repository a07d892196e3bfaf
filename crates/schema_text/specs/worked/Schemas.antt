-- The grammar and the meaning on worked examples.
use Rattle.std.specs.Prelude.{◌≡◌, [], ◌∷◌, ◌++◌, codes, refl, true, Some, None, Ok, Err}
use Rattle.std.specs.Fmt.{digits}
use Rattle.plain_texts.specs.Numbers.{natural_of}
use Rattle.base_kinds.specs.declared.schema.Shape.TheVariants as shapes
use Rattle.schema_text.specs.declared.cause.Cause.TheVariants.{Syntax, NoModule, NoParent, Twice, NoKey, BadRef}
use Rattle.schema_text.specs.declared.line.Declared.TheVariants as declared
use Rattle.schema_text.specs.declared.line.Line.TheVariants.{Skipped, Module, Node}
use Rattle.schema_text.specs.Words.{path_of, keys_of, number_up_to, shape_of}
use Rattle.schema_text.specs.Grammar.{line_of}
use Rattle.schema_text.specs.Schemas.{schema_of}

a_path : path_of (codes "/ab/c-1") ≡ Some (codes "ab" ∷ codes "c-1" ∷ [])
a_path = refl

no_paths : path_of (codes "/") ∷ path_of (codes "a") ∷ path_of (codes "/a/") ∷ path_of []
    ∷ [] ≡ None ∷ None ∷ None ∷ None ∷ []
no_paths = refl

two_keys : keys_of (codes "k,j") ≡ Some (codes "k" ∷ codes "j" ∷ [])
two_keys = refl

no_keys : keys_of (codes "k,k") ∷ keys_of (codes "k,") ∷ [] ≡ None ∷ None ∷ []
no_keys = refl

numbers : number_up_to 65536 (codes "65536") ∷ number_up_to 65536 (codes "65537")
    ∷ number_up_to 65536 (codes "0") ∷ number_up_to 65536 (codes "01") ∷ [] ≡ Some 65536 ∷ None
    ∷ None ∷ None ∷ []
unfolding natural_of digits
numbers = refl

shapes_read : shape_of (codes "int64") ∷ shape_of (codes "dec18") ∷ shape_of (codes "dec19")
    ∷ shape_of (codes "enum(a|b:1)") ∷ shape_of (codes "enum(a|)") ∷ [] ≡ Some (shapes.Int 64)
    ∷ Some (shapes.Dec 18) ∷ None ∷ Some (shapes.Enum (codes "a" ∷ codes "b:1" ∷ [])) ∷ None ∷ []
unfolding natural_of digits
shapes_read = refl

comment : line_of (codes "# a  b") ≡ Some Skipped
comment = refl

module_named : line_of (codes "module m") ≡ Some (Module (codes "m"))
module_named = refl

list_line_read : line_of (codes "list /a k max 2") ≡
    Some (Node (codes "a" ∷ []) (declared.List (codes "k" ∷ []) (Some 2)))
unfolding natural_of digits
list_line_read = refl

leaf_line_read : line_of (codes "leaf /a string mandatory ref /b") ≡
    Some (Node (codes "a" ∷ []) (declared.Leaf shapes.Text true (Some (codes "b" ∷ []))))
leaf_line_read = refl

no_lines : line_of (codes "module  m") ∷ line_of (codes "module m" ++ 13 ∷ [])
    ∷ line_of (codes "leaf /a string max 1") ∷ [] ≡ None ∷ None ∷ None ∷ []
no_lines = refl

empty_text : schema_of [] ≡ Ok []
empty_text = refl

without_parent : schema_of (codes "module m\nleaf /a/b string\n") ≡ Err (record {
  line =
      2;
  cause = NoParent;
})
without_parent = refl

without_module : schema_of (codes "\nleaf /a/b string\n") ≡ Err (record {
  line =
      2;
  cause = NoModule;
})
without_module = refl

not_ended : schema_of (codes "module m\n#") ≡ Err (record { line = 2; cause = Syntax })
not_ended = refl

two_of_one_path : schema_of (codes "module m\nleaf /a bool\nleaf /a bool\n") ≡ Err (record {
  line =
      3;
  cause = Twice;
})
two_of_one_path = refl

key_in_other_module : schema_of
    (codes "module m\nleaf /r bool\nlist /a k\nmodule n\nleaf /a/k bool\n") ≡ Err (record {
      line =
          3;
      cause = NoKey;
    })
key_in_other_module = refl

lowest_line : schema_of (codes "module m\nleaf /r bool ref /a\nlist /a k\n") ≡ Err (record {
  line =
      2;
  cause = BadRef;
})
lowest_line = refl

lines_before_keys : schema_of (codes "module m\nlist /a k\nleaf\n") ≡ Err (record {
  line =
      3;
  cause = Syntax;
})
lines_before_keys = refl
