-- What is written for a leaf or a leaf-list is read as its value.
use Rattle.std.proofs.Common.{◌≡◌, ℕ, ◌<◌, ◌≤◌, ◌^◌, ◌==◌, ◌||◌, ◌&&◌, not, List, [], ◌∷◌, ◌++◌, map, Bool, true, false, true≢false, cond, eqb, Option, Some, None, option_and_then, option_map, refl, sym, ap, subst, ◌∙◌, append_assoc, append-nil, arith}
use borrow.Author.Tests.{leb-true}
use Rattle.std.specs.Prelude.{ℤ, pos, negsuc, nat_le}
use Rattle.std.specs.Result.{result_ok}
use Rattle.std.specs.List.{list_any, AllByRecursion}
use Rattle.std.specs.Bool.{beq, Decides}
use Rattle.std.specs.Str.{bytes_eq}
use Rattle.std.specs.Ordering.{int_eq}
use Rattle.std.specs.Cmp.{booleans_Decides}
use Rattle.std.specs.Fmt.{decimal, signed_decimal}
use Rattle.std.proofs.lemmas.Bool.{eqb-true, and_parts, ltb-true}
use Rattle.std.proofs.lemmas.Bool.Decides.{Decides-int_eq, Decides-eqb, Decides-and, nat_tests}
use Rattle.std.proofs.lemmas.Slice.Eq.{bytes_eq-Decides}
use Rattle.std.proofs.lemmas.List.Folds.{list_any-append}
use Rattle.base64.specs.GeneralPurpose.{IsBytes, decoded_of}
use Rattle.base64.specs.Engines.{standard}
use Rattle.base64.proofs.EngineFacts.{decode_of-encode_of}
use Rattle.serde_json.specs.Data.{number, string, unsigned}
use Rattle.serde_json.specs.View.{items_of}
use Rattle.serde_json.specs.Find.{of_integer, as_i64}
use Rattle.base_kinds.specs.declared.schema.Shape.{Shape}
use Rattle.base_kinds.specs.declared.schema.Shape.TheVariants as shapes
use Rattle.base_kinds.specs.declared.value.Value.{Value}
use Rattle.base_kinds.specs.declared.value.Value as v
use Rattle.base_kinds.specs.declared.value.Value.TheVariants as values
use Rattle.base_kinds.specs.Legal.{is_fit_scalar}
use Rattle.base_kinds.specs.Texts.{dec_text, base64_text}
use Rattle.base_kinds.specs.Values.{has_shape, fits_signed, same_scalar, all_differ}
use Rattle.plain_texts.specs.Numbers.{natural_of}
use Rattle.plain_texts.proofs.Decimals.{natural_read}
use Rattle.value_core.specs.KeyTexts.{IsStored}
use Rattle.value_core.proofs.DecimalTexts.{read_back}
use Rattle.value_core.specs.Base64.{octets_of}
use Rattle.value_core.specs.Integers.{integer_of}
use Rattle.json_rows.specs.Leaves.{leaf_of, if_shaped, unless_listed, values_from}
use Rattle.value_core.proofs.Keys.{bytes_from}
use Rattle.value_core.proofs.IntegersRead.{integer_read}
use Rattle.value_core.proofs.DecimalsRead.{decimal_read}
use Rattle.json_text.specs.Leaves.{scalar_data}
use Rattle.json_text.specs.laws.ReadBack.{LeavesReadBack, LeafListsReadBack}
use Rattle.json_text.specs.laws.Rows.{IsScalarOf}

number_back : (z : ℤ) → fits_signed 64 z ≡ true → as_i64 (of_integer z) ≡ Some z
number_back (pos n) held = ap (λ t. cond t (Some (pos n)) None) held
number_back (negsuc n) held = refl

int_at : (width : ℕ) (z : ℤ) (wide : Bool) → (width == 64) ≡ wide → fits_signed width z ≡ true → fits_signed 64 z ≡ true → leaf_of (shapes.Int width) (cond wide (string (signed_decimal z)) (number (of_integer z))) ≡ Some (values.Int z)
int_at width z true e fit held =
    ap (λ t. option_and_then (if_shaped (shapes.Int width)) (cond t (option_map values.Int (integer_of (signed_decimal z))) None)) e
    ∙ ap (λ o. option_and_then (if_shaped (shapes.Int width)) (option_map values.Int o)) (integer_read (signed_decimal z) z refl held)
    ∙ ap (λ t. cond t (Some (values.Int z)) None) fit
int_at width z false e fit held =
    ap (λ o. option_and_then (if_shaped (shapes.Int width)) (option_map values.Int o)) (number_back z held) ∙ ap (λ t. cond t (Some (values.Int z)) None) fit

uint_at : (width n : ℕ) (wide : Bool) → (width == 64) ≡ wide → has_shape (shapes.Uint width) (values.Uint n) ≡ true → n < 2 ^ 64 → leaf_of (shapes.Uint width) (cond wide (string (decimal n)) (number (unsigned n))) ≡ Some (values.Uint n)
uint_at width n true e fit held =
    ap (λ t. option_and_then (if_shaped (shapes.Uint width)) (cond t (option_map values.Uint (natural_of (decimal n))) None)) e
    ∙ ap (λ o. option_and_then (if_shaped (shapes.Uint width)) (option_map values.Uint o)) (natural_read (decimal n) n refl held)
    ∙ ap (λ t. cond t (Some (values.Uint n)) None) fit
uint_at width n false e fit held = ap (λ t. cond t (Some (values.Uint n)) None) fit

dec_same : (places : ℕ) (z : ℤ) → 1 ≤ places → fits_signed 64 z ≡ true → leaf_of (shapes.Dec places) (string (dec_text z places)) ≡ Some (values.Dec z places)
dec_same places z some held =
    let own : (places == places) ≡ true = grind (arith, nat_tests) in
    ap (λ o. option_and_then (if_shaped (shapes.Dec places)) (option_map (λ (y : ℤ). values.Dec y places) o)) (decimal_read places (dec_text z places) z (read_back places z some held))
    ∙ ap (λ t. cond t (Some (values.Dec z places)) None) own

dec_at : (places others : ℕ) (z : ℤ) → places ≡ others → 1 ≤ others → fits_signed 64 z ≡ true → leaf_of (shapes.Dec places) (string (dec_text z others)) ≡ Some (values.Dec z others)
dec_at places others z same some held = subst (λ p. leaf_of (shapes.Dec p) (string (dec_text z others)) ≡ Some (values.Dec z others)) (sym same) (dec_same others z some held)

octets_back : (b : List ℕ) → IsBytes b → octets_of (base64_text b) ≡ Some b
unfolding decoded_of
octets_back b h = ap (λ r. result_ok r) (decode_of-encode_of standard b refl h)

back : (shape : Shape) (value : Value) → has_shape shape value ≡ true → is_fit_scalar value ≡ true → IsStored value → leaf_of shape (scalar_data shape value) ≡ Some value
back shapes.Bool (v.Bool b) fit one held = refl
back (shapes.Int width) (v.Int z) fit one held = int_at width z (width == 64) refl fit held
back (shapes.Uint width) (v.Uint n) fit one held = uint_at width n (width == 64) refl fit (ltb-true n (2 ^ 64) held)
back (shapes.Dec places) (v.Dec z others) fit one held = dec_at places others z (eqb-true places others fit) (leb-true 1 others (and_parts (nat_le 1 others) (nat_le others 18) one).0) held
back shapes.Text (v.Text t) fit one held = refl
back shapes.Bin (v.Bin b) fit one held = ap (λ o. option_and_then (if_shaped shapes.Bin) (option_map values.Bin o)) (octets_back b (bytes_from b held))
back (shapes.Enum texts) (v.Enum t) fit one held = ap (λ is. cond is (Some (values.Enum t)) None) fit
back _ _ fit one held = absurd (true≢false (sym fit))

pub leaf_back : LeavesReadBack
leaf_back shape value is = back shape value is.shaped is.plain.fit is.plain.stored

-- ---- leaf-lists

same_test : {A : Type 0} (test : A → A → Bool) → ((x y : A) → Decides (test x y) (x ≡ y)) → (a b : A) → test a b ≡ false → test b a ≡ false
same_test test decides a b differ = at (test b a) refl
  where
    at : (is : Bool) → test b a ≡ is → test b a ≡ false
    at false e = e
    at true e = absurd (true≢false (sym ((decides a b).1 (sym ((decides b a).0 e))) ∙ differ))

abbrev same_dec : ℤ × ℕ → ℤ × ℕ → Bool
same_dec x y = int_eq x.0 y.0 && (x.1 == y.1)

dec_decides : (x y : ℤ × ℕ) → Decides (int_eq x.0 y.0 && (x.1 == y.1)) (x ≡ y)
dec_decides x y =
    let both = Decides-and (int_eq x.0 y.0) (x.1 == y.1) (Decides-int_eq x.0 y.0) (Decides-eqb x.1 y.1) in
    (λ e. let parts = both.0 e in ap (λ (z : ℤ). (z, x.1)) parts.0 ∙ ap (λ (n : ℕ). (y.0, n)) parts.1, λ e. both.1 (ap (λ (z : ℤ × ℕ). z.0) e, ap (λ (z : ℤ × ℕ). z.1) e))

scalar_turned : (a b : Value) → same_scalar a b ≡ false → same_scalar b a ≡ false
scalar_turned (v.Bool a) (v.Bool b) differ = same_test beq booleans_Decides a b differ
scalar_turned (v.Int a) (v.Int b) differ = same_test int_eq Decides-int_eq a b differ
scalar_turned (v.Text a) (v.Text b) differ = same_test bytes_eq bytes_eq-Decides a b differ
scalar_turned (v.Bin a) (v.Bin b) differ = same_test bytes_eq bytes_eq-Decides a b differ
scalar_turned (v.Enum a) (v.Enum b) differ = same_test bytes_eq bytes_eq-Decides a b differ
scalar_turned (v.Uint a) (v.Uint b) differ = same_test eqb Decides-eqb a b differ
scalar_turned (v.Dec a p) (v.Dec b q) differ =
    same_test same_dec (λ x y. dec_decides x y) (a, p) (b, q) differ
scalar_turned (v.List' n rows) (v.Bool b) differ = refl
scalar_turned (v.List' n rows) (v.Int b) differ = refl
scalar_turned (v.List' n rows) (v.Uint b) differ = refl
scalar_turned (v.List' n rows) (v.Dec b p) differ = refl
scalar_turned (v.List' n rows) (v.Text b) differ = refl
scalar_turned (v.List' n rows) (v.Bin b) differ = refl
scalar_turned (v.List' n rows) (v.Enum b) differ = refl
scalar_turned (v.List' n rows) (v.List' m others) differ = refl
scalar_turned _ _ differ = refl

-- each value is new after those before it
abbrev NewAfter : List Value → List Value → Type 0
NewAfter done [] = Unit {0}
NewAfter done (x ∷ xs) = (list_any (same_scalar x) done ≡ false) × NewAfter (done ++ x ∷ []) xs

-- no value is equal to one of these
abbrev AllApart : List Value → List Value → Type 0
AllApart done xs = AllByRecursion (λ x. list_any (same_scalar x) done ≡ false) xs

either_none : (a b : Bool) → (a || b) ≡ false → (a ≡ false) × (b ≡ false)
either_none true b e = absurd (true≢false e)
either_none false b e = (refl, e)

none_or : (a b : Bool) → a ≡ false → b ≡ false → (a || b) ≡ false
none_or a b e f = ap (λ t. t || b) e ∙ f

not_any : (a : Bool) → not a ≡ true → a ≡ false
not_any true e = absurd (true≢false (sym e))
not_any false e = refl

apart_more : (done : List Value) (first : Value) (xs : List Value) → AllApart done xs → list_any (same_scalar first) xs ≡ false → AllApart (done ++ first ∷ []) xs
apart_more done first [] apart differ = tt
apart_more done first (x ∷ xs) apart differ =
    let parts = either_none (same_scalar first x) (list_any (same_scalar first) xs) differ in
    let here : (same_scalar x first || false) ≡ false = none_or _ _ (scalar_turned first x parts.0) refl in
    (list_any-append (same_scalar x) done (first ∷ []) ∙ none_or _ _ apart.0 here, apart_more done first xs apart.1 parts.1)

new_after : (done xs : List Value) → AllApart done xs → all_differ xs ≡ true → NewAfter done xs
new_after done [] apart differ = tt
new_after done (x ∷ xs) apart differ =
    let parts = and_parts (not (list_any (same_scalar x) xs)) (all_differ xs) differ in
    (apart.0, new_after (done ++ x ∷ []) xs (apart_more done x xs apart.1 (not_any _ parts.0)) parts.1)

all_apart : (xs : List Value) → AllApart [] xs
all_apart [] = tt
all_apart (x ∷ xs) = (refl, all_apart xs)

values_back : (shape : Shape) (done xs : List Value) → AllByRecursion (IsScalarOf shape) xs → NewAfter done xs → values_from (Some shape) done (items_of (map (scalar_data shape) xs)) ≡ Some (done ++ xs)
values_back shape done [] all new = ap Some (sym (append-nil done))
values_back shape done (x ∷ xs) all new =
    let rest = items_of (map (scalar_data shape) xs) in
    ap (λ (o : Option Value). option_and_then (λ w. values_from (Some shape) (done ++ w ∷ []) rest) (option_and_then (unless_listed done) o)) (leaf_back shape x all.0)
    ∙ ap (λ is. option_and_then (λ w. values_from (Some shape) (done ++ w ∷ []) rest) (cond is None (Some x))) new.0
    ∙ values_back shape (done ++ x ∷ []) xs all.1 new.1 ∙ ap Some (append_assoc done (x ∷ []) xs)

pub leaf_list_back : LeafListsReadBack
leaf_list_back shape xs all differ = values_back shape [] xs all (new_after [] xs (all_apart xs) differ)
