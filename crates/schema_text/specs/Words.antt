-- The words of a schema's lines: names, paths, keys, numbers and shapes. All of it is this project's own.
use Rattle.std.specs.Prelude.{ℕ, ◌-◌, List, [], ◌∷◌, ◌++◌, Bool, ◌&&◌, nat_le, codes, length, take, drop, Option, Some, None, if◌then◌else◌}
use Rattle.std.specs.List.{list_all}
use Rattle.std.specs.Option.{option_map, option_and_then, option_or}
use Rattle.std.specs.Str.{bytes_eq}
use Rattle.base_kinds.specs.declared.schema.Shape.{Shape}
use Rattle.base_kinds.specs.declared.schema.Shape.TheVariants as shapes
use Rattle.plain_texts.specs.Names.{is_name}
use Rattle.plain_texts.specs.Numbers.{natural_of}
use Rattle.plain_texts.specs.Splits.{parts_of}
use Rattle.schema_core.specs.Shapes.{most_enum_texts, most_places, texts_differ, is_enum_text}
use Rattle.schema_core.specs.WellFormed.{most_names, most_keys}

-- one part or more, at most so many, each of which passes the test
abbrev pub some_parts : (List ℕ → Bool) → ℕ → List (List ℕ) → Option (List (List ℕ))
some_parts test most [] = None
some_parts test most (part ∷ parts) =
    if nat_le (length (part ∷ parts)) most
    && list_all test (part ∷ parts) then Some (part ∷ parts) else None

abbrev pub distinct : List (List ℕ) → Option (List (List ℕ))
distinct texts = if texts_differ texts then Some texts else None

-- nothing in front of the first `/`, and then 1 to 32 names
abbrev pub names_behind : List (List ℕ) → Option (List (List ℕ))
names_behind [] = None
names_behind ([] ∷ names) = some_parts is_name most_names names
names_behind ((octet ∷ octets) ∷ names) = None

-- PATH: `/NAME`, 1 to 32 times
abbrev pub path_of : List ℕ → Option (List (List ℕ))
path_of octets = names_behind (parts_of 47 octets)

-- KEY,KEY: 1 to 8 distinct names with a comma between two of them
abbrev pub keys_of : List ℕ → Option (List (List ℕ))
keys_of octets = option_and_then distinct (some_parts is_name most_keys (parts_of 44 octets))

-- from 1 to this
abbrev pub up_to : ℕ → ℕ → Option ℕ
up_to most number = if nat_le 1 number && nat_le number most then Some number else None

-- a number from 1 to this in decimal, without sign or leading zero
abbrev pub number_up_to : ℕ → List ℕ → Option ℕ
number_up_to most octets = option_and_then (up_to most) (natural_of octets)

abbrev pub word_shape : List ℕ → Option Shape
word_shape field =
    if bytes_eq field (codes "bool") then Some shapes.Bool
    else if bytes_eq field (codes "string") then Some shapes.Text
    else if bytes_eq field (codes "binary") then Some shapes.Bin
    else None

abbrev pub integer_shape : List ℕ → Option Shape
integer_shape field =
    if bytes_eq field (codes "int8") then Some (shapes.Int 8)
    else if bytes_eq field (codes "int16") then Some (shapes.Int 16)
    else if bytes_eq field (codes "int32") then Some (shapes.Int 32)
    else if bytes_eq field (codes "int64") then Some (shapes.Int 64)
    else if bytes_eq field (codes "uint8") then Some (shapes.Uint 8)
    else if bytes_eq field (codes "uint16") then Some (shapes.Uint 16)
    else if bytes_eq field (codes "uint32") then Some (shapes.Uint 32)
    else if bytes_eq field (codes "uint64") then Some (shapes.Uint 64)
    else None

-- `dec` and a number from 1 to 18
abbrev pub decimal_shape : List ℕ → Option Shape
decimal_shape field =
    if bytes_eq (take 3 field) (codes "dec")
    then option_map (λ places. shapes.Dec places) (number_up_to most_places (drop 3 field))
    else None

-- what is left without the first five octets and the last one
abbrev pub middle : List ℕ → List ℕ
middle field = take (length field - 6) (drop 5 field)

-- 1 to 256 distinct texts with `|` between two of them
abbrev pub enum_texts : List ℕ → Option (List (List ℕ))
enum_texts octets =
    option_and_then distinct (some_parts is_enum_text most_enum_texts (parts_of 124 octets))

-- `enum(`, the texts and `)`
abbrev pub enum_shape : List ℕ → Option Shape
enum_shape field =
    if bytes_eq field (codes "enum(" ++ (middle field ++ codes ")"))
    then option_map (λ texts. shapes.Enum texts) (enum_texts (middle field))
    else None

-- SHAPE
abbrev pub shape_of : List ℕ → Option Shape
shape_of field =
    option_or (word_shape field)
    (option_or (integer_shape field) (option_or (decimal_shape field) (enum_shape field)))
