-- What matching goes by, element after element.
use Rattle.std.proofs.Common.{◌≡◌, ◌+◌, ◌≤◌, length, arith, List, [], ◌∷◌, Bool, true, false, ◌&&◌, ◌||◌, map, codes, refl, sym, ap, ◌∙◌}
use Rattle.std.specs.List.{list_any}
use Rattle.std.specs.Str.{bytes_eq}
use Rattle.std.proofs.lemmas.Bool.{or_parts, or_from, and_left, and_right}
use Rattle.base_kinds.specs.declared.path.Elem.{Elem}
use Rattle.base_kinds.specs.Match.{suffixes, prefixes, elem_matches, first_matches, matches, covers}
use Rattle.path_core.specs.declared.patterns.Extent.{Extent}
use Rattle.path_core.specs.declared.patterns.Extent.TheVariants.{Whole, Front}
use Rattle.path_core.specs.inner.Searching.{test_by, IsSkip}

-- ---- tests of some item

any_same : {X : Type 0} (f g : X → Bool) → ((x : X) → f x ≡ g x) → (xs : List X) → list_any f xs ≡ list_any g xs
any_same f g same [] = refl
any_same f g same (x ∷ xs) = ap (λ b. b || list_any f xs) (same x) ∙ ap (λ b. g x || b) (any_same f g same xs)

any_map : {X Y : Type 0} (f : Y → Bool) (g : X → Y) (xs : List X) → list_any f (map g xs) ≡ list_any (λ x. f (g x)) xs
any_map f g [] = refl
any_map f g (x ∷ xs) = ap (λ b. f (g x) || b) (any_map f g xs)

any_false : {X : Type 0} (xs : List X) → list_any (λ x. false) xs ≡ false
any_false [] = refl
any_false (x ∷ xs) = any_false xs

any_and : {X : Type 0} (b : Bool) (g : X → Bool) (xs : List X) → list_any (λ x. b && g x) xs ≡ (b && list_any g xs)
any_and true g xs = refl
any_and false g xs = any_false xs

or_swap : (a b c d : Bool) → ((a || b) || (c || d)) ≡ ((a || c) || (b || d))
or_swap true b c d = refl
or_swap false true true d = refl
or_swap false true false d = refl
or_swap false false c d = refl

or_assoc : (a b c : Bool) → (a || (b || c)) ≡ ((a || b) || c)
or_assoc true b c = refl
or_assoc false b c = refl

or_false : (b : Bool) → (b || false) ≡ b
or_false true = refl
or_false false = refl

or_none : (a b : Bool) → a ≡ false → b ≡ false → (a || b) ≡ false
or_none a b e f = or_from a b e f

any_or : {X : Type 0} (f g : X → Bool) (xs : List X) → list_any (λ x. f x || g x) xs ≡ (list_any f xs || list_any g xs)
any_or f g [] = refl
any_or f g (x ∷ xs) = ap (λ b. (f x || g x) || b) (any_or f g xs) ∙ or_swap (f x) (g x) (list_any f xs) (list_any g xs)

-- ---- rests and fronts

-- a rest of a rest is a rest
rests_again : (g : List Elem → Bool) (path : List Elem) → list_any g (suffixes path) ≡ false → list_any (λ rest. list_any g (suffixes rest)) (suffixes path) ≡ false
rests_again g [] none = rw none refl
rests_again g (elem ∷ elems) none =
    or_none (list_any g (suffixes (elem ∷ elems))) (list_any (λ rest. list_any g (suffixes rest)) (suffixes elems)) none (rests_again g elems (or_parts (g (elem ∷ elems)) (list_any g (suffixes elems)) none).1)

-- a rest of a front is a front of a rest
rests_of_fronts : (g : List Elem → Bool) (path : List Elem) → list_any (λ front. list_any g (suffixes front)) (prefixes path) ≡ list_any (λ rest. list_any g (prefixes rest)) (suffixes path)
rests_of_fronts g [] = refl
rests_of_fronts g (elem ∷ elems) =
    let below : Bool = list_any (λ rest. list_any g (prefixes rest)) (suffixes elems) in
    let here : Bool = list_any (λ front. g (elem ∷ front)) (prefixes elems) in
    let split : list_any (λ front. list_any g (suffixes front)) (map (λ front. elem ∷ front) (prefixes elems)) ≡ (here || below) =
    any_map (λ front. list_any g (suffixes front)) (λ front. elem ∷ front) (prefixes elems) ∙ any_or (λ front. g (elem ∷ front)) (λ front. list_any g (suffixes front)) (prefixes elems) ∙ ap (λ b. here || b) (rests_of_fronts g elems) in
    ap (λ b. (g [] || false) || b) split ∙ ap (λ b. b || (here || below)) (or_false (g [])) ∙ or_assoc (g []) here below ∙ ap (λ b. (g [] || b) || below) (sym (any_map g (λ front. elem ∷ front) (prefixes elems)))

-- ---- the pattern's first element

abbrev is_many : Elem → Bool
is_many elem = bytes_eq elem.name (codes "...")

whole_many : (first : Elem) (others path : List Elem) → is_many first ≡ true → matches (first ∷ others) path ≡ list_any (matches others) (suffixes path)
whole_many first others path many = rw many refl

whole_one : (first : Elem) (others path : List Elem) → is_many first ≡ false → matches (first ∷ others) path ≡ first_matches first (matches others) path
whole_one first others path one = rw one refl

front_one : (first : Elem) (others path : List Elem) → is_many first ≡ false → covers (first ∷ others) path ≡ first_matches first (covers others) path
front_one first others [] one = or_false (matches (first ∷ others) []) ∙ whole_one first others [] one
front_one first others (elem ∷ elems) one =
    let none : matches (first ∷ others) [] ≡ false = whole_one first others [] one in
    let each : (front : List Elem) → matches (first ∷ others) (elem ∷ front) ≡ (elem_matches first elem && matches others front) = λ front. whole_one first others (elem ∷ front) one in
    ap (λ b. b || list_any (matches (first ∷ others)) (map (λ front. elem ∷ front) (prefixes elems))) none ∙ any_map (matches (first ∷ others)) (λ front. elem ∷ front) (prefixes elems) ∙ any_same (λ front. matches (first ∷ others) (elem ∷ front)) (λ front. elem_matches first elem && matches others front) each (prefixes elems) ∙ any_and (elem_matches first elem) (matches others) (prefixes elems)

test_many : (extent : Extent) (first : Elem) (others path : List Elem) → is_many first ≡ true → test_by extent (first ∷ others) path ≡ list_any (test_by extent others) (suffixes path)
test_many Whole first others path many = whole_many first others path many
test_many Front first others path many =
    any_same (matches (first ∷ others)) (λ front. list_any (matches others) (suffixes front)) (λ front. whole_many first others front many) (prefixes path) ∙ rests_of_fronts (matches others) path

test_one : (extent : Extent) (first : Elem) (others path : List Elem) → is_many first ≡ false → test_by extent (first ∷ others) path ≡ first_matches first (test_by extent others) path
test_one Whole first others path one = whole_one first others path one
test_one Front first others path one = front_one first others path one

-- ---- going through the rests

first_rest : (g : List Elem → Bool) (path : List Elem) → g path ≡ true → list_any g (suffixes path) ≡ true
first_rest g [] here = rw here refl
first_rest g (elem ∷ elems) here = rw here refl

rests_as_here : (b : Bool) (g : List Elem → Bool) (path : List Elem) → g path ≡ b → (b ≡ false → list_any g (suffixes path) ≡ false) → list_any g (suffixes path) ≡ b
rests_as_here true g path here none = first_rest g path here
rests_as_here false g path here none = none refl

-- ---- what a step finds

never_many : (extent : Extent) (first : Elem) (others path : List Elem) → is_many first ≡ true → list_any (test_by extent others) (suffixes path) ≡ false → list_any (test_by extent (first ∷ others)) (suffixes path) ≡ false
never_many extent first others path many none =
    any_same (test_by extent (first ∷ others)) (λ rest. list_any (test_by extent others) (suffixes rest)) (λ rest. test_many extent first others rest many) (suffixes path) ∙ rests_again (test_by extent others) path none

never_below : (first : Elem) (g : List Elem → Bool) (elem : Elem) (rest : List Elem) → list_any g (suffixes rest) ≡ false → list_any (first_matches first g) (suffixes (elem ∷ rest)) ≡ false
never_below first g elem [] none =
    let fails = (or_parts (g []) false none).0 in
    or_none (elem_matches first elem && g []) false (and_right (elem_matches first elem) (g []) fails) refl
never_below first g elem (other ∷ rest) none =
    let parts = or_parts (g (other ∷ rest)) (list_any g (suffixes rest)) none in
    or_none (elem_matches first elem && g (other ∷ rest)) (list_any (first_matches first g) (suffixes (other ∷ rest))) (and_right (elem_matches first elem) (g (other ∷ rest)) parts.0) (never_below first g other rest parts.1)

-- what a step has come to: the pattern passes on the path where what is left of the one passes on what is left of the
-- other, and on no rest of the path where it passes on none of those
pub record CameTo (extent : Extent) (pattern path patterns left : List Elem) : Type 0 where
  pub same : test_by extent pattern path ≡ test_by extent patterns left
  pub below : list_any (test_by extent patterns) (suffixes left) ≡ false → list_any (test_by extent pattern) (suffixes path) ≡ false
  pub shorter : length patterns + length left ≤ length pattern + length path

pub came_further : (extent : Extent) (pattern path patterns left : List Elem) (first : Elem) (others : List Elem) (elem : Elem) (elems : List Elem) → CameTo extent pattern path patterns left → patterns ≡ first ∷ others → is_many first ≡ false → left ≡ elem ∷ elems → elem_matches first elem ≡ true → CameTo extent pattern path others elems
came_further extent pattern path patterns left first others elem elems came is one goes here =
    let one_less : test_by extent patterns left ≡ test_by extent others elems = rw (is, goes) (test_one extent first others (elem ∷ elems) one ∙ ap (λ b. b && test_by extent others elems) here) in
    record {
      same = came.same ∙ one_less;
      below = λ none. came.below (rw (is, goes) (any_same (test_by extent (first ∷ others)) (first_matches first (test_by extent others)) (λ p. test_one extent first others p one) (suffixes (elem ∷ elems)) ∙ never_below first (test_by extent others) elem elems none));
      shorter = omega (arith, came.shorter, ap length is, ap length goes);
    }

pub skips_here : (extent : Extent) (pattern path patterns left : List Elem) (first : Elem) (others : List Elem) → CameTo extent pattern path patterns left → patterns ≡ first ∷ others → is_many first ≡ true → IsSkip extent pattern path others left
skips_here extent pattern path patterns left first others came is many =
    let here : test_by extent pattern path ≡ list_any (test_by extent others) (suffixes left) = came.same ∙ rw is (test_many extent first others left many) in
    record {
      here = here;
      below = rests_as_here (list_any (test_by extent others) (suffixes left)) (test_by extent pattern) path here (λ none. came.below (rw is (never_many extent first others left many none)));
      shorter = omega (arith, came.shorter, ap length is);
    }

pub differs_here : (extent : Extent) (pattern path patterns left : List Elem) (first : Elem) (others : List Elem) (elem : Elem) (elems : List Elem) → CameTo extent pattern path patterns left → patterns ≡ first ∷ others → is_many first ≡ false → left ≡ elem ∷ elems → elem_matches first elem ≡ false → test_by extent pattern path ≡ false
differs_here extent pattern path patterns left first others elem elems came is one goes fails =
    came.same ∙ rw (is, goes) (test_one extent first others (elem ∷ elems) one ∙ and_left (elem_matches first elem) (test_by extent others elems) fails)

-- ---- the end of the pattern

pub end_covers : (path : List Elem) → covers [] path ≡ true
end_covers [] = refl
end_covers (elem ∷ elems) = refl

-- ---- going on from step to step

-- before its first `...` the pattern has to pass on this very path, and behind one on some rest of it
abbrev pub passes_from : Bool → Extent → List Elem → List Elem → Bool
passes_from true extent pattern path = test_by extent pattern path
passes_from false extent pattern path = list_any (test_by extent pattern) (suffixes path)

pub match_passes : (anchored : Bool) (extent : Extent) (pattern path : List Elem) → test_by extent pattern path ≡ true → passes_from anchored extent pattern path ≡ true
match_passes true extent pattern path here = here
match_passes false extent pattern path here = first_rest (test_by extent pattern) path here

pub never_passes : (anchored : Bool) (extent : Extent) (pattern path : List Elem) → list_any (test_by extent pattern) (suffixes path) ≡ false → passes_from anchored extent pattern path ≡ false
never_passes true extent pattern [] none = (or_parts (test_by extent pattern []) false none).0
never_passes true extent pattern (elem ∷ elems) none = (or_parts (test_by extent pattern (elem ∷ elems)) (list_any (test_by extent pattern) (suffixes elems)) none).0
never_passes false extent pattern path none = none
