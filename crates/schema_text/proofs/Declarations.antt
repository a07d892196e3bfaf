-- What a line declares is in the limits: names, keys, shapes and maxima.
use Rattle.std.proofs.Common.{◌≡◌, ◌≤◌, ℕ, List, [], ◌∷◌, ◌++◌, Bool, true, false, not, ◌&&◌, cond, leb, take, drop, length, Option, Some, None, IfSome, refl, sym, subst, bytes_eq, codes, eqb, arith}
use Rattle.std.specs.List.{list_all}
use Rattle.std.specs.Option.{option_map, option_and_then, option_or}
use Rattle.std.proofs.lemmas.Bool.{and_parts, and_from, leb-true, le-leb}
use Rattle.base_kinds.specs.declared.schema.Shape.{Shape}
use Rattle.base_kinds.specs.declared.schema.Shape.TheVariants as shapes
use Rattle.base_kinds.specs.Valid.{unless_none}
use Rattle.plain_texts.specs.Names.{is_name}
use Rattle.plain_texts.specs.Numbers.{natural_of}
use Rattle.plain_texts.specs.Splits.{parts_of}
use Rattle.schema_core.specs.Shapes.{most_enum_texts, most_places, is_enum_text, texts_differ, is_fit_shape}
use Rattle.schema_core.specs.WellFormed.{most_names, most_keys, is_fit_maximum}
use Rattle.base_kinds.specs.Limits.{most_maximum}
use Rattle.schema_text.specs.declared.line.Declared.{Declared}
use Rattle.schema_text.specs.declared.line.Declared.TheVariants as declared
use Rattle.schema_text.specs.declared.line.Line.{Line}
use Rattle.schema_text.specs.declared.line.Line.TheVariants.{Skipped, Module, Node}
use Rattle.schema_text.specs.Words.{some_parts, distinct, names_behind, path_of, keys_of, up_to, number_up_to, word_shape, integer_shape, decimal_shape, middle, enum_texts, enum_shape, shape_of}
use Rattle.schema_text.specs.Grammar.{module_line, container_line, limit_of, list_line, reference_of, leaf_of, leaf_line, leaf_list_line, line_of_fields, line_of}

abbrev Names : Type 0
Names = List (List ℕ)

-- some texts, so many at most, that pass a test
pub record AreFit (test : List ℕ → Bool) (most : ℕ) (texts : Names) : Type 0 where
  pub some : texts ≡ [] → ⊥
  pub few : length texts ≤ most
  pub each : list_all test texts ≡ true

pub record AreDistinct (test : List ℕ → Bool) (most : ℕ) (texts : Names) : Type 0 where
  pub fit : AreFit test most texts
  pub differ : texts_differ texts ≡ true

abbrev pub HasFitMaximum : Option ℕ → Type 0
HasFitMaximum maximum = unless_none maximum is_fit_maximum ≡ true

-- what a line declares of its node
abbrev pub IsFitDeclared : Declared → Type 0
IsFitDeclared declared.Container = Unit {0}
IsFitDeclared (declared.List keys maximum) = AreDistinct is_name most_keys keys × HasFitMaximum maximum
IsFitDeclared (declared.Leaf shape is_mandatory reference) = is_fit_shape shape ≡ true
IsFitDeclared (declared.LeafList shape maximum) = (is_fit_shape shape ≡ true) × HasFitMaximum maximum

abbrev pub IsFitLine : Option Line → Type 0
IsFitLine (Some (Module name)) = is_name name ≡ true
IsFitLine (Some (Node names node)) = AreFit is_name most_names names × IsFitDeclared node
IsFitLine _ = Unit {0}

-- ---- texts

parts_at : (test : List ℕ → Bool) (most : ℕ) (part : List ℕ) (parts : Names) (few is : Bool) → leb (length (part ∷ parts)) most ≡ few → list_all test (part ∷ parts) ≡ is → IfSome (cond (few && is) (Some (part ∷ parts)) None) (AreFit test most)
parts_at test most part parts false is count all = tt
parts_at test most part parts true false count all = tt
parts_at test most part parts true true count all = record { some = λ none. absurd (cc); few = leb-true (length (part ∷ parts)) most count; each = all }

some_fit : (test : List ℕ → Bool) (most : ℕ) (parts : Names) → IfSome (some_parts test most parts) (AreFit test most)
some_fit test most [] = tt
some_fit test most (part ∷ parts) = parts_at test most part parts (leb (length (part ∷ parts)) most) (list_all test (part ∷ parts)) refl refl

behind_fit : (parts : Names) → IfSome (names_behind parts) (AreFit is_name most_names)
behind_fit [] = tt
behind_fit ([] ∷ names) = some_fit is_name most_names names
behind_fit ((octet ∷ octets) ∷ names) = tt

path_fit : (octets : List ℕ) → IfSome (path_of octets) (AreFit is_name most_names)
path_fit octets = behind_fit (parts_of 47 octets)

differ_at : (test : List ℕ → Bool) (most : ℕ) (texts : Names) (is : Bool) → texts_differ texts ≡ is → AreFit test most texts → IfSome (cond is (Some texts) None) (AreDistinct test most)
differ_at test most texts false differ fit = tt
differ_at test most texts true differ fit = record { fit = fit; differ = differ }

distinct_fit : (test : List ℕ → Bool) (most : ℕ) (texts : Option Names) → IfSome texts (AreFit test most) → IfSome (option_and_then distinct texts) (AreDistinct test most)
distinct_fit test most None fit = tt
distinct_fit test most (Some texts) fit = differ_at test most texts (texts_differ texts) refl fit

keys_fit : (octets : List ℕ) → IfSome (keys_of octets) (AreDistinct is_name most_keys)
keys_fit octets = distinct_fit is_name most_keys (some_parts is_name most_keys (parts_of 44 octets)) (some_fit is_name most_keys (parts_of 44 octets))

-- ---- numbers

abbrev IsUpTo : ℕ → ℕ → Type 0
IsUpTo most number = (leb 1 number && leb number most) ≡ true

up_at : (most number : ℕ) (is : Bool) → (leb 1 number && leb number most) ≡ is → IfSome (cond is (Some number) None) (IsUpTo most)
up_at most number false is = tt
up_at most number true is = is

up_to_fit : (most : ℕ) (number : Option ℕ) → IfSome (option_and_then (up_to most) number) (IsUpTo most)
up_to_fit most None = tt
up_to_fit most (Some number) = up_at most number (leb 1 number && leb number most) refl

number_fit : (most : ℕ) (octets : List ℕ) → IfSome (number_up_to most octets) (IsUpTo most)
number_fit most octets = up_to_fit most (natural_of octets)

-- ---- shapes

abbrev IsFit : Shape → Type 0
IsFit shape = is_fit_shape shape ≡ true

shape_if : (is : Bool) (shape other : Option Shape) → IfSome shape IsFit → IfSome other IsFit → IfSome (cond is shape other) IsFit
shape_if true shape other first second = first
shape_if false shape other first second = second

shape_or : (shape other : Option Shape) → IfSome shape IsFit → IfSome other IsFit → IfSome (option_or shape other) IsFit
shape_or None other first second = second
shape_or (Some shape) other first second = first

word_fit : (field : List ℕ) → IfSome (word_shape field) IsFit
word_fit field = shape_if (bytes_eq field (codes "bool")) _ _ refl (shape_if (bytes_eq field (codes "string")) _ _ refl (shape_if (bytes_eq field (codes "binary")) _ _ refl tt))

integer_fit : (field : List ℕ) → IfSome (integer_shape field) IsFit
integer_fit field =
    shape_if (bytes_eq field (codes "int8")) _ _ refl
    (
    shape_if (bytes_eq field (codes "int16")) _ _ refl
    (
    shape_if (bytes_eq field (codes "int32")) _ _ refl
    (
    shape_if (bytes_eq field (codes "int64")) _ _ refl
    (
    shape_if (bytes_eq field (codes "uint8")) _ _ refl
    (
    shape_if (bytes_eq field (codes "uint16")) _ _ refl
    (shape_if (bytes_eq field (codes "uint32")) _ _ refl (shape_if (bytes_eq field (codes "uint64")) _ _ refl tt))
    )
    )
    )
    )
    )

places_fit : (places : Option ℕ) → IfSome places (IsUpTo most_places) → IfSome (option_map (λ places. shapes.Dec places) places) IsFit
places_fit None fit = tt
places_fit (Some places) fit = fit

decimal_fit : (field : List ℕ) → IfSome (decimal_shape field) IsFit
decimal_fit field = shape_if (bytes_eq (take 3 field) (codes "dec")) _ None (places_fit (number_up_to most_places (drop 3 field)) (number_fit most_places (drop 3 field))) tt

some_text : (texts : Names) → (texts ≡ [] → ⊥) → leb 1 (length texts) ≡ true
some_text [] some = absurd (some refl)
some_text (text ∷ texts) some = le-leb 1 (length (text ∷ texts)) (omega arith)

texts_fit : (texts : Option Names) → IfSome texts (AreDistinct is_enum_text most_enum_texts) → IfSome (option_map (λ texts. shapes.Enum texts) texts) IsFit
texts_fit None fit = tt
texts_fit (Some texts) fit =
    and_from _ (texts_differ texts) (and_from _ (list_all is_enum_text texts) (and_from (leb 1 (length texts)) (leb (length texts) most_enum_texts) (some_text texts fit.fit.some) (le-leb (length texts) most_enum_texts fit.fit.few)) fit.fit.each) fit.differ

enum_fit : (field : List ℕ) → IfSome (enum_shape field) IsFit
enum_fit field =
    let parts = parts_of 124 (middle field) in
    shape_if (bytes_eq field (codes "enum(" ++ (middle field ++ codes ")"))) _ None (texts_fit (enum_texts (middle field)) (distinct_fit is_enum_text most_enum_texts (some_parts is_enum_text most_enum_texts parts) (some_fit is_enum_text most_enum_texts parts))) tt

shape_fit : (field : List ℕ) → IfSome (shape_of field) IsFit
shape_fit field = shape_or (word_shape field) _ (word_fit field) (shape_or (integer_shape field) _ (integer_fit field) (shape_or (decimal_shape field) (enum_shape field) (decimal_fit field) (enum_fit field)))

-- ---- limits

abbrev IsFitLimit : Option (Option ℕ) → Type 0
IsFitLimit limit = IfSome limit HasFitMaximum

limit_if : (is : Bool) (number : Option ℕ) → IfSome number (IsUpTo most_maximum) → IsFitLimit (cond is (option_map (λ most. Some most) number) None)
limit_if false number fit = tt
limit_if true None fit = tt
limit_if true (Some number) fit = fit

limit_fit : (marks : Names) → IsFitLimit (limit_of marks)
limit_fit [] = refl
limit_fit (word ∷ []) = tt
limit_fit (word ∷ number ∷ []) = limit_if (bytes_eq word (codes "max")) (number_up_to most_maximum number) (number_fit most_maximum number)
limit_fit (word ∷ number ∷ other ∷ others) = tt

-- ---- lines

line_if : (is : Bool) (line other : Option Line) → IsFitLine line → IsFitLine other → IsFitLine (cond is line other)
line_if true line other first second = first
line_if false line other first second = second

module_at : (name : List ℕ) (is : Bool) → is_name name ≡ is → IsFitLine (cond is (Some (Module name)) None)
module_at name false told = tt
module_at name true told = told

module_fit : (fields : Names) → IsFitLine (module_line fields)
module_fit [] = tt
module_fit (name ∷ []) = module_at name (is_name name) refl
module_fit (name ∷ other ∷ others) = tt

container_at : (path : Option Names) → IfSome path (AreFit is_name most_names) → IsFitLine (option_map (λ names. Node names declared.Container) path)
container_at None told = tt
container_at (Some names) told = (told, tt)

container_fit : (fields : Names) → IsFitLine (container_line fields)
container_fit [] = tt
container_fit (path ∷ []) = container_at (path_of path) (path_fit path)
container_fit (path ∷ other ∷ others) = tt

-- what follows a path is of what was made of it
of_made : {A B C : Type 0} (next : B → Option C) (made : A → B) (o : Option A) → option_and_then next (option_map made o) ≡ option_and_then (λ a. next (made a)) o
of_made next made None = refl
of_made next made (Some a) = refl

list_at : (path keys : Option Names) (limit : Option (Option ℕ)) → IfSome path (AreFit is_name most_names) → IfSome keys (AreDistinct is_name most_keys) → IsFitLimit limit → IsFitLine (option_and_then (λ names. option_and_then (λ keys. option_map (λ maximum. Node names (declared.List keys maximum)) limit) keys) path)
list_at None keys limit path_is keys_are limit_is = tt
list_at (Some names) None limit path_is keys_are limit_is = tt
list_at (Some names) (Some keys) None path_is keys_are limit_is = tt
list_at (Some names) (Some keys) (Some maximum) path_is keys_are limit_is = (path_is, (keys_are, limit_is))

list_fit : (fields : Names) → IsFitLine (list_line fields)
list_fit [] = tt
list_fit (path ∷ []) = tt
list_fit (path ∷ keys ∷ marks) = subst IsFitLine (sym (of_made _ _ (path_of path))) (list_at (path_of path) (keys_of keys) (limit_of marks) (path_fit path) (keys_fit keys) (limit_fit marks))

abbrev IsFitLeaf : Option Declared → Type 0
IsFitLeaf leaf = IfSome leaf IsFitDeclared

referring_fit : (shape : Shape) (is_mandatory : Bool) (reference : Option (Option Names)) → IsFit shape → IsFitLeaf (option_map (λ names. declared.Leaf shape is_mandatory names) reference)
referring_fit shape is_mandatory None fit = tt
referring_fit shape is_mandatory (Some names) fit = fit

leaf_if : (is : Bool) (leaf other : Option Declared) → IsFitLeaf leaf → IsFitLeaf other → IsFitLeaf (cond is leaf other)
leaf_if true leaf other first second = first
leaf_if false leaf other first second = second

leaf_of_fit : (shape : Shape) (marks : Names) → IsFit shape → IsFitLeaf (leaf_of shape marks)
leaf_of_fit shape [] fit = fit
leaf_of_fit shape (word ∷ marks) fit =
    leaf_if (bytes_eq word (codes "mandatory")) (option_map (λ names. declared.Leaf shape true names) (reference_of marks)) (option_map (λ names. declared.Leaf shape false names) (reference_of (word ∷ marks))) (referring_fit shape true (reference_of marks) fit) (referring_fit shape false (reference_of (word ∷ marks)) fit)

leaf_declared : (names : Names) (leaf : Option Declared) → AreFit is_name most_names names → IsFitLeaf leaf → IsFitLine (option_map (λ leaf. Node names leaf) leaf)
leaf_declared names None names_are leaf_is = tt
leaf_declared names (Some leaf) names_are leaf_is = (names_are, leaf_is)

leaf_at : (path : Option Names) (shape : Option Shape) (marks : Names) → IfSome path (AreFit is_name most_names) → IfSome shape IsFit → IsFitLine (option_and_then (λ names. option_and_then (λ shape. option_map (λ leaf. Node names leaf) (leaf_of shape marks)) shape) path)
leaf_at None shape marks path_is shape_is = tt
leaf_at (Some names) None marks path_is shape_is = tt
leaf_at (Some names) (Some shape) marks path_is shape_is = leaf_declared names (leaf_of shape marks) path_is (leaf_of_fit shape marks shape_is)

leaf_fit : (fields : Names) → IsFitLine (leaf_line fields)
leaf_fit [] = tt
leaf_fit (path ∷ []) = tt
leaf_fit (path ∷ shape ∷ marks) = subst IsFitLine (sym (of_made _ _ (path_of path))) (leaf_at (path_of path) (shape_of shape) marks (path_fit path) (shape_fit shape))

leaf_list_at : (path : Option Names) (shape : Option Shape) (limit : Option (Option ℕ)) → IfSome path (AreFit is_name most_names) → IfSome shape IsFit → IsFitLimit limit → IsFitLine (option_and_then (λ names. option_and_then (λ shape. option_map (λ maximum. Node names (declared.LeafList shape maximum)) limit) shape) path)
leaf_list_at None shape limit path_is shape_is limit_is = tt
leaf_list_at (Some names) None limit path_is shape_is limit_is = tt
leaf_list_at (Some names) (Some shape) None path_is shape_is limit_is = tt
leaf_list_at (Some names) (Some shape) (Some maximum) path_is shape_is limit_is = (path_is, (shape_is, limit_is))

leaf_list_fit : (fields : Names) → IsFitLine (leaf_list_line fields)
leaf_list_fit [] = tt
leaf_list_fit (path ∷ []) = tt
leaf_list_fit (path ∷ shape ∷ marks) = subst IsFitLine (sym (of_made _ _ (path_of path))) (leaf_list_at (path_of path) (shape_of shape) (limit_of marks) (path_fit path) (shape_fit shape) (limit_fit marks))

fields_fit : (fields : Names) → IsFitLine (line_of_fields fields)
fields_fit [] = tt
fields_fit (word ∷ fields) =
    let leaf_list_or = cond (bytes_eq word (codes "leaf-list")) (leaf_list_line fields) None in
    let leaf_or = cond (bytes_eq word (codes "leaf")) (leaf_line fields) leaf_list_or in
    let list_or = cond (bytes_eq word (codes "list")) (list_line fields) leaf_or in
    let container_or = cond (bytes_eq word (codes "container")) (container_line fields) list_or in
    line_if (bytes_eq word (codes "module")) (module_line fields) container_or (module_fit fields)
    (
    line_if (bytes_eq word (codes "container")) (container_line fields) list_or (container_fit fields)
    (
    line_if (bytes_eq word (codes "list")) (list_line fields) leaf_or (list_fit fields)
    (line_if (bytes_eq word (codes "leaf")) (leaf_line fields) leaf_list_or (leaf_fit fields) (line_if (bytes_eq word (codes "leaf-list")) (leaf_list_line fields) None (leaf_list_fit fields) tt))
    )
    )

pub line_fit : (octets : List ℕ) → IsFitLine (line_of octets)
line_fit [] = tt
line_fit (octet ∷ octets) = line_if (eqb octet 35) (Some Skipped) (line_of_fields (parts_of 32 (octet ∷ octets))) tt (fields_fit (parts_of 32 (octet ∷ octets)))
