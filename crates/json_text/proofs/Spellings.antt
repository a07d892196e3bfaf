-- What a member's name stands for.
use Rattle.std.proofs.Common.{◌≡◌, ℕ, ◌+◌, ◌<◌, List, [], ◌∷◌, ◌++◌, length, drop, take, Bool, true, false, cond, Option, Some, None, option_and_then, refl, ap, ◌∙◌, arith}
use Rattle.std.specs.Prelude.{not, nat_lt}
use Rattle.std.specs.List.{position_or_len, after_first, before_first}
use Rattle.std.proofs.lemmas.Bool.{and_parts}
use Rattle.std.proofs.lemmas.Bool.Decides.{nat_tests}
use Rattle.std.proofs.lemmas.List.{length-append}
use Rattle.std.proofs.Math.Seq.{drop-append-add, take-append_seam}
use Rattle.std.proofs.lemmas.Slice.Eq.{bytes_eq-Decides}
use Rattle.base_kinds.specs.Schema.{SchemaNode}
use Rattle.json_rows.specs.Members.{has_module, module_in, name_in, child_at, child_named, if_of_module}
use Rattle.schema_core.specs.Identifiers.{is_colon, lacks_colon}

place_none : (xs : List ℕ) → lacks_colon xs ≡ true → position_or_len is_colon xs ≡ length xs
place_none [] e = refl
place_none (x ∷ xs) e =
    let parts = and_parts (not (is_colon x)) (lacks_colon xs) e in
    let more : 1 + length xs ≡ length (x ∷ xs) = omega arith in
    ap (λ t. cond t (1 + position_or_len is_colon xs) 0) parts.0 ∙ ap (λ n. 1 + n) (place_none xs parts.1) ∙ more

place_colon : (xs ys : List ℕ) → lacks_colon xs ≡ true → position_or_len is_colon (xs ++ 58 ∷ ys) ≡ length xs
place_colon [] ys e = refl
place_colon (x ∷ xs) ys e =
    let parts = and_parts (not (is_colon x)) (lacks_colon xs) e in
    let more : 1 + length xs ≡ length (x ∷ xs) = omega arith in
    ap (λ t. cond t (1 + position_or_len is_colon (xs ++ 58 ∷ ys)) 0) parts.0 ∙ ap (λ n. 1 + n) (place_colon xs ys parts.1) ∙ more

none_below_itself : (n : ℕ) → nat_lt n n ≡ false
none_below_itself n = grind (arith, nat_tests)

has_none : (xs : List ℕ) → lacks_colon xs ≡ true → has_module xs ≡ false
has_none xs e = ap (λ n. nat_lt n (length xs)) (place_none xs e) ∙ none_below_itself (length xs)

shorter : (m : ℕ) (n : ℕ) → m < n → nat_lt m n ≡ true
shorter m n h = grind (arith, nat_tests)

has_one : (xs ys : List ℕ) → lacks_colon xs ≡ true → has_module (xs ++ 58 ∷ ys) ≡ true
has_one xs ys e =
    let less : length xs < length (xs ++ 58 ∷ ys) = simp length-append (omega arith) in
    ap (λ n. nat_lt n (length (xs ++ 58 ∷ ys))) (place_colon xs ys e) ∙ shorter (length xs) (length (xs ++ 58 ∷ ys)) less

pub name_alone : (xs : List ℕ) → lacks_colon xs ≡ true → name_in xs ≡ xs
name_alone xs e = ap (λ t. cond t (after_first is_colon xs) xs) (has_none xs e)

pub module_none : (xs : List ℕ) → lacks_colon xs ≡ true → module_in xs ≡ None
module_none xs e = ap (λ t. cond t (Some (before_first is_colon xs)) None) (has_none xs e)

pub name_behind : (xs ys : List ℕ) → lacks_colon xs ≡ true → name_in (xs ++ 58 ∷ ys) ≡ ys
name_behind xs ys e =
    let text = xs ++ 58 ∷ ys in
    ap (λ t. cond t (after_first is_colon text) text) (has_one xs ys e) ∙ ap (λ n. drop (n + 1) text) (place_colon xs ys e) ∙ drop-append-add xs (58 ∷ ys) 1

pub module_before : (xs ys : List ℕ) → lacks_colon xs ≡ true → module_in (xs ++ 58 ∷ ys) ≡ Some xs
module_before xs ys e =
    let text = xs ++ 58 ∷ ys in
    ap (λ t. cond t (Some (before_first is_colon text)) None) (has_one xs ys e) ∙ ap (λ n. Some (take n text)) (place_colon xs ys e) ∙ ap Some (take-append_seam xs (58 ∷ ys))

-- the two spellings of a member's name
pub spelled_at : (plain : Bool) (module_name name : List ℕ) → lacks_colon module_name ≡ true → lacks_colon name ≡ true → name_in (cond plain name (module_name ++ 58 ∷ name)) ≡ name
spelled_at true module_name name m n = name_alone name n
spelled_at false module_name name m n = name_behind module_name name m

pub named_at : (plain : Bool) (schema : List SchemaNode) (names : List (List ℕ)) (node : SchemaNode) (name : List ℕ) → lacks_colon node.module_name ≡ true → lacks_colon name ≡ true → child_at schema names name ≡ Some node
    → child_named schema names (cond plain name (node.module_name ++ 58 ∷ name)) ≡ Some node
named_at true schema names node name m n found =
    ap (λ (o : Option (List ℕ)). option_and_then (if_of_module o) (child_at schema names (name_in name))) (module_none name n) ∙ ap (λ (t : List ℕ). option_and_then (if_of_module None) (child_at schema names t)) (name_alone name n)
    ∙ ap (option_and_then (if_of_module None)) found
named_at false schema names node name m n found =
    let text = node.module_name ++ 58 ∷ name in
    ap (λ (o : Option (List ℕ)). option_and_then (if_of_module o) (child_at schema names (name_in text))) (module_before node.module_name name m)
    ∙ ap (λ (t : List ℕ). option_and_then (if_of_module (Some node.module_name)) (child_at schema names t)) (name_behind node.module_name name m)
    ∙ ap (option_and_then (if_of_module (Some node.module_name))) found ∙ ap (λ t. cond t (Some node) None) ((bytes_eq-Decides node.module_name node.module_name).1 refl)
