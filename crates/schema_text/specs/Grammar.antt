-- Which octets are a line of a schema, and what it says, by its fields, with one space between two of them. The line feed
-- at its end isn't among the octets.
use Rattle.std.specs.Prelude.{ℕ, List, [], ◌∷◌, true, false, ◌==◌, codes, Option, Some, None, if◌then◌else◌}
use Rattle.std.specs.Option.{option_map, option_and_then}
use Rattle.std.specs.Str.{bytes_eq}
use Rattle.base_kinds.specs.declared.schema.Shape.{Shape}
use Rattle.schema_text.specs.declared.line.Declared.{Declared}
use Rattle.schema_text.specs.declared.line.Declared.TheVariants as declared
use Rattle.schema_text.specs.declared.line.Line.{Line}
use Rattle.schema_text.specs.declared.line.Line.TheVariants.{Skipped, Module, Node}
use Rattle.plain_texts.specs.Names.{is_name}
use Rattle.plain_texts.specs.Splits.{parts_of}
use Rattle.base_kinds.specs.Limits.{most_maximum}
use Rattle.schema_text.specs.Words.{path_of, keys_of, number_up_to, shape_of}

-- `module NAME`
abbrev pub module_line : List (List ℕ) → Option Line
module_line (name ∷ []) = if is_name name then Some (Module name) else None
module_line _ = None

-- `container PATH`
abbrev pub container_line : List (List ℕ) → Option Line
container_line (path ∷ []) = option_map (λ names. Node names declared.Container) (path_of path)
container_line _ = None

-- the path in the first field, the word in the second, and what follows them
abbrev pub path_and_word : List (List ℕ) → Option (List (List ℕ) × (List ℕ × List (List ℕ)))
path_and_word (path ∷ word ∷ marks) = option_map (λ names. (names, (word, marks))) (path_of path)
path_and_word _ = None

-- nothing, or `max N` with N from 1 to 65,536
abbrev pub limit_of : List (List ℕ) → Option (Option ℕ)
limit_of [] = Some None
limit_of (word ∷ number ∷ []) =
    if bytes_eq word (codes "max")
    then option_map (λ most. Some most) (number_up_to most_maximum number)
    else None
limit_of _ = None

-- `list PATH KEY,KEY`, which `max N` may follow
abbrev pub list_line : List (List ℕ) → Option Line
list_line fields =
    option_and_then (λ front. option_and_then (λ keys.
    option_map (λ maximum. Node front.0 (declared.List keys maximum)) (limit_of front.1.1))
    (keys_of front.1.0)) (path_and_word fields)

-- nothing, or `ref PATH`
abbrev pub reference_of : List (List ℕ) → Option (Option (List (List ℕ)))
reference_of [] = Some None
reference_of (word ∷ path ∷ []) =
    if bytes_eq word (codes "ref") then option_map (λ names. Some names) (path_of path) else None
reference_of _ = None

-- `mandatory` or not, and then a reference or none
abbrev pub leaf_of : Shape → List (List ℕ) → Option Declared
leaf_of shape [] = Some (declared.Leaf shape false None)
leaf_of shape (word ∷ marks) =
    if bytes_eq word (codes "mandatory")
    then option_map (λ names. declared.Leaf shape true names) (reference_of marks)
    else option_map (λ names. declared.Leaf shape false names) (reference_of (word ∷ marks))

-- `leaf PATH SHAPE`, which `mandatory` and then `ref PATH` may follow
abbrev pub leaf_line : List (List ℕ) → Option Line
leaf_line fields =
    option_and_then (λ front. option_and_then (λ shape.
    option_map (λ leaf. Node front.0 leaf) (leaf_of shape front.1.1))
    (shape_of front.1.0)) (path_and_word fields)

-- `leaf-list PATH SHAPE`, which `max N` may follow
abbrev pub leaf_list_line : List (List ℕ) → Option Line
leaf_list_line fields =
    option_and_then (λ front. option_and_then (λ shape.
    option_map (λ maximum. Node front.0 (declared.LeafList shape maximum)) (limit_of front.1.1))
    (shape_of front.1.0)) (path_and_word fields)

-- the first field says what the others are
abbrev pub line_of_fields : List (List ℕ) → Option Line
line_of_fields [] = None
line_of_fields (word ∷ fields) =
    if bytes_eq word (codes "module") then module_line fields
    else if bytes_eq word (codes "container") then container_line fields
    else if bytes_eq word (codes "list") then list_line fields
    else if bytes_eq word (codes "leaf") then leaf_line fields
    else if bytes_eq word (codes "leaf-list") then leaf_list_line fields
    else None

-- what the octets say as a line: an empty one and one that begins with `#` say nothing
abbrev pub line_of : List ℕ → Option Line
line_of [] = Some Skipped
line_of (octet ∷ octets) =
    if octet == 35 then Some Skipped else line_of_fields (parts_of 32 (octet ∷ octets))
