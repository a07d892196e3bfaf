-- The parts of a record are read just as they are spelled.
use Rattle.std.proofs.Common.{◌≡◌, ℕ, zero, suc, ◌+◌, ◌^◌, ◌<◌, ◌≤◌, ◌⊎◌, inl, inr, Bool, true, false, cond, ltb, leb, eqb, ◌&&◌, List, [], ◌∷◌, ◌++◌, length, ℤ, take, drop, Option, Some, None, refl, sym, ap, subst, ◌∙◌, append_assoc, arith}
use Rattle.std.specs.List.{flat_map, AllByRecursion, list_all}
use Rattle.std.specs.Int.{w16, w32, w64, to_be_bytes, cast_signed, cast_unsigned}
use Rattle.std.specs.Prelude.{FitsSigned}
use Rattle.std.specs.Str.{is_utf8}
use Rattle.std.proofs.lemmas.Bool.{ltb-false, le-ltb, leb-true, le-leb, eqb-true, and_parts, and_from}
use Rattle.std.proofs.lemmas.Str.{IsUtf8-from_is_utf8, is_utf8-from_IsUtf8}
use Rattle.std.proofs.lemmas.List.{take_at, drop_at, take-append-drop, length-append, length-take}
use Rattle.std.proofs.lemmas.Int.{of_z-to_z, to_z-of_z}
use Rattle.std.proofs.Math.Facts.{sfits_to_z, Fits-of_lt, Fits-of_z, Fits-lt-pow}
use Rattle.base_kinds.specs.declared.path.Elem.{Elem}
use Rattle.base_kinds.specs.declared.value.Value.{Value}
use Rattle.base_kinds.specs.declared.value.Value as v
use Rattle.base_kinds.specs.declared.value.Value.TheVariants as values
use Rattle.base_kinds.specs.Paths.{text_cmp}
use Rattle.base_kinds.specs.Legal.{is_fit_elem, is_fit_path, is_fit_scalar}
use Rattle.base_lists.specs.Rising.{rises}
use Rattle.journal_record.specs.Spelling.{text_spelling, key_spelling, keys_spelling, elem_spelling, path_spelling, value_spelling, bool_octet}
use Rattle.journal_record.specs.Representable.{IsRepresentableText, AreOctets, IsRepresentableKey, IsRepresentableElem, IsRepresentablePath, IsRepresentableValue}
use Rattle.base_lists.specs.Options.{◌>>=◌}
use Rattle.journal_record.specs.inner.Reading.{number_at, octets_at, text_at, many_at, listed_at, key_at, keys_at, elem_at, path_at, bool_at, places_at, dec_at, int_at, uint_at, text_value_at, bin_at, enum_at, scalar_at, item_at, value_at}
use Rattle.journal_record.proofs.Forms.{IsBytes, IsBytes-rest, bind_some, some_is, passed, failed_not, Took, Reads, turned, said_so, guarded, sequence, wide16, wide32, wide64, numbers, counted}

-- what holds of each, and a test that each passes
pub both_of : {A : Type 0} (P : A → Type 0) (test : A → Bool) (xs : List A) → AllByRecursion P xs → list_all test xs ≡ true → AllByRecursion (λ x. P x × (test x ≡ true)) xs
both_of P test [] all pass = tt
both_of P test (x ∷ xs) all pass = let t = and_parts (test x) (list_all test xs) pass in ((all.0, t.0), both_of P test xs all.1 t.1)

pub each_of : {A : Type 0} (P : A → Type 0) (test : A → Bool) (xs : List A) → AllByRecursion (λ x. P x × (test x ≡ true)) xs → AllByRecursion P xs
each_of P test [] all = tt
each_of P test (x ∷ xs) all = (all.0.0, each_of P test xs all.1)

pub pass_of : {A : Type 0} (P : A → Type 0) (test : A → Bool) (xs : List A) → AllByRecursion (λ x. P x × (test x ≡ true)) xs → list_all test xs ≡ true
pass_of P test [] all = refl
pass_of P test (x ∷ xs) all = and_from (test x) (list_all test xs) all.0.1 (pass_of P test xs all.1)

-- ---- texts

octets_take : (octets text rest : List ℕ) → IsBytes octets → octets_at octets ≡ Some (text, rest) → Took text_spelling (λ t. Unit {0}) octets text rest
unfolding octets_at text_spelling
octets_take octets text rest bytes e =
    let b = bind_some (number_at w32 octets) (λ n. cond (ltb (length n.1) n.0) None (Some (take n.0 n.1, drop n.0 n.1))) (text, rest) e in
    let t = (numbers w32 (2 ^ 32) wide32).takes octets b.0.0 b.0.1 bytes b.1 in
    let g = failed_not (ltb (length b.0.1) b.0.0) (Some (take b.0.0 b.0.1, drop b.0.0 b.0.1)) (text, rest) b.2 in
    let long : b.0.0 ≤ length b.0.1 = ltb-false _ _ g.0 in
    let len : length (take b.0.0 b.0.1) ≡ b.0.0 = omega (arith, length-take b.0.0 b.0.1) in
    turned text_spelling (λ s. Unit {0}) octets (take b.0.0 b.0.1) text (drop b.0.0 b.0.1) rest g.1
    (record {
      parts = t.parts ∙ ap (λ (l : List ℕ). to_be_bytes w32 b.0.0 ++ l) (sym (take-append-drop b.0.0 b.0.1)) ∙ sym (append_assoc (to_be_bytes w32 b.0.0) (take b.0.0 b.0.1) (drop b.0.0 b.0.1))
          ∙ ap (λ (k : ℕ). (to_be_bytes w32 k ++ take b.0.0 b.0.1) ++ drop b.0.0 b.0.1) (sym len);
      is = tt;
    })

octets_again : (text rest : List ℕ) → length (text_spelling text) < 2 ^ 32 → octets_at (text_spelling text ++ rest) ≡ Some (text, rest)
unfolding octets_at text_spelling
octets_again text rest short =
    let small : length text < 2 ^ 32 = omega (arith, length-append (to_be_bytes w32 (length text)) text) in
    let long : ltb (length (text ++ rest)) (length text) ≡ false = le-ltb _ _ (omega (arith, length-append text rest)) in
    rw ((numbers w32 (2 ^ 32) wide32).again (length text) (text ++ rest) small (omega arith), long, take_at text rest (length text) refl, drop_at text rest (length text) refl) refl

any_octets : Reads text_spelling (λ t. Unit {0}) octets_at
any_octets = record { takes = λ octets x rest bytes e. octets_take octets x rest bytes e; again = λ x rest is short. octets_again x rest short }

all_octets : (xs : List ℕ) → IsBytes xs → AreOctets xs
all_octets [] h = tt
all_octets (x ∷ xs) h = (h 0, all_octets xs (λ i. h (suc i)))

IsBytes-front : (front rest : List ℕ) → IsBytes (front ++ rest) → IsBytes front
IsBytes-front [] rest h i = omega arith
IsBytes-front (x ∷ xs) rest h zero = h 0
IsBytes-front (x ∷ xs) rest h (suc i) = IsBytes-front xs rest (λ j. h (suc j)) i

octets_bytes : (octets text rest : List ℕ) → IsBytes octets → octets ≡ text_spelling text ++ rest → AreOctets text
unfolding text_spelling
octets_bytes octets text rest h parts =
    all_octets text (IsBytes-front text rest (IsBytes-rest octets (to_be_bytes w32 (length text)) (text ++ rest) h (parts ∙ append_assoc (to_be_bytes w32 (length text)) text rest)))

pub octet_form : Reads text_spelling AreOctets octets_at
octet_form = record {
  takes = λ octets x rest bytes e. let t = octets_take octets x rest bytes e in record { parts = t.parts; is = octets_bytes octets x rest bytes t.parts };
  again = λ x rest is short. octets_again x rest short;
}

pub text_form : Reads text_spelling IsRepresentableText text_at
unfolding text_at
text_form = said_so text_spelling (λ t. Unit {0} × (is_utf8 t ≡ true)) IsRepresentableText (λ octets. octets_at octets >>= λ t. cond (is_utf8 t.0) (Some t) None)
    (λ x is. IsUtf8-from_is_utf8 x is.1) (λ x is. (tt, is_utf8-from_IsUtf8 x is)) (guarded text_spelling (λ t. Unit {0}) octets_at is_utf8 any_octets)

-- ---- paths

pub key_form : Reads key_spelling IsRepresentableKey key_at
unfolding key_at key_spelling
key_form = sequence text_spelling IsRepresentableText text_at text_spelling IsRepresentableText text_at (λ a b. (a, b)) (λ k. k.0) (λ k. k.1) IsRepresentableKey
    (λ c. refl) (λ a b. refl) (λ a b. refl) (λ c is. (is.name, is.value)) (λ a b p q. record { name = p; value = q }) text_form text_form

abbrev names_rise : List (List ℕ × List ℕ) → Bool
names_rise keys = rises (λ a b. text_cmp a.0 b.0) keys

abbrev AreFitKeys : List (List ℕ × List ℕ) → Type 0
AreFitKeys keys = ((length keys < 2 ^ 16) × AllByRecursion IsRepresentableKey keys) × (names_rise keys ≡ true)

keys_form : Reads keys_spelling AreFitKeys keys_at
unfolding keys_at keys_spelling
keys_form = guarded (λ xs. to_be_bytes w16 (length xs) ++ flat_map key_spelling xs) (λ xs. (length xs < 2 ^ 16) × AllByRecursion IsRepresentableKey xs) (listed_at w16 key_at) names_rise
    (counted w16 (2 ^ 16) wide16 key_spelling IsRepresentableKey key_at key_form)

abbrev pub IsFitRepresentableElem : Elem → Type 0
IsFitRepresentableElem elem = IsRepresentableElem elem × (is_fit_elem elem ≡ true)

pub elem_form : Reads elem_spelling IsFitRepresentableElem elem_at
unfolding elem_at elem_spelling
elem_form = sequence text_spelling IsRepresentableText text_at keys_spelling AreFitKeys keys_at (λ a b. record { name = a; keys = b }) (λ e. e.name) (λ e. e.keys) IsFitRepresentableElem
    (λ c. refl) (λ a b. refl) (λ a b. refl)
    (λ c is. let t = and_parts (leb (length c.keys) 65535) (names_rise c.keys) is.1 in (is.0.name, ((omega (arith, leb-true _ _ t.0), is.0.keys), t.1)))
    (λ a b p q. (record { name = p; keys = q.0.1 }, and_from (leb (length b) 65535) (names_rise b) (le-leb _ _ (omega (arith, q.0.0))) q.1)) text_form keys_form

abbrev pub IsFitRepresentablePath : List Elem → Type 0
IsFitRepresentablePath path = IsRepresentablePath path × (is_fit_path path ≡ true)

elems_form : Reads path_spelling (λ xs. (length xs < 2 ^ 16) × AllByRecursion IsFitRepresentableElem xs) (listed_at w16 elem_at)
unfolding path_spelling
elems_form = counted w16 (2 ^ 16) wide16 elem_spelling IsFitRepresentableElem elem_at elem_form

path_takes : (octets : List ℕ) (path : List Elem) (rest : List ℕ) → IsBytes octets → path_at octets ≡ Some (path, rest) → Took path_spelling IsFitRepresentablePath octets path rest
unfolding path_at
path_takes octets path rest bytes e =
    let b = bind_some (number_at w16 octets) (λ n. cond (leb n.0 32) (many_at elem_at n.0 n.1) None) (path, rest) e in
    let g = passed (leb b.0.0 32) (many_at elem_at b.0.0 b.0.1) (path, rest) b.2 in
    let read : listed_at w16 elem_at octets ≡ Some (path, rest) = ap (λ (o : Option (ℕ × List ℕ)). o >>= λ n. many_at elem_at n.0 n.1) b.1 ∙ g.1 in
    let t = elems_form.takes octets path rest bytes read in
    let few : length path ≤ 32 = path_count octets b.0.0 b.0.1 path rest bytes b.1 (leb-true _ _ g.0) g.1 in
    record { parts = t.parts; is = (each_of IsRepresentableElem is_fit_elem path t.is.1, and_from (leb (length path) 32) (list_all is_fit_elem path) (le-leb _ _ few) (pass_of IsRepresentableElem is_fit_elem path t.is.1)) }
  where
    many_count : (n : ℕ) (octets : List ℕ) (path : List Elem) (rest : List ℕ) → many_at elem_at n octets ≡ Some (path, rest) → length path ≡ n
    many_count zero octets path rest e = sym (ap (λ (p : List Elem × List ℕ). length p.0) (some_is ([], octets) (path, rest) e))
    many_count (suc n) octets path rest e =
        let a = bind_some (elem_at octets) (λ first. many_at elem_at n first.1 >>= λ others. Some (first.0 ∷ others.0, others.1)) (path, rest) e in
        let b = bind_some (many_at elem_at n a.0.1) (λ others. Some (a.0.0 ∷ others.0, others.1)) (path, rest) a.2 in
        sym (ap (λ (p : List Elem × List ℕ). length p.0) (some_is (a.0.0 ∷ b.0.0, b.0.1) (path, rest) b.2)) ∙ ap suc (many_count n a.0.1 b.0.0 b.0.1 b.1)

    path_count : (octets : List ℕ) (n : ℕ) (after : List ℕ) (path : List Elem) (rest : List ℕ) → IsBytes octets → number_at w16 octets ≡ Some (n, after) → n ≤ 32 → many_at elem_at n after ≡ Some (path, rest) → length path ≤ 32
    path_count octets n after path rest bytes e le many = let same : length path ≡ n = many_count n after path rest many in omega arith

path_again : (path : List Elem) (rest : List ℕ) → IsFitRepresentablePath path → length (path_spelling path) < 2 ^ 32 → path_at (path_spelling path ++ rest) ≡ Some (path, rest)
unfolding path_at path_spelling
path_again path rest is short =
    let t = and_parts (leb (length path) 32) (list_all is_fit_elem path) is.1 in
    let few : length path < 2 ^ 16 = omega (arith, leb-true _ _ t.0) in
    let numbered = (numbers w16 (2 ^ 16) wide16).again (length path) (flat_map elem_spelling path ++ rest) few (omega arith) in
    let regrouped = append_assoc (to_be_bytes w16 (length path)) (flat_map elem_spelling path) rest in
    let all : listed_at w16 elem_at (path_spelling path ++ rest) ≡ Some (path, rest) = elems_form.again path rest (few, both_of IsRepresentableElem is_fit_elem path is.0 t.1) short in
    let many : many_at elem_at (length path) (flat_map elem_spelling path ++ rest) ≡ Some (path, rest) =
    sym (ap (λ (o : Option (ℕ × List ℕ)). o >>= λ n. many_at elem_at n.0 n.1) (ap (number_at w16) regrouped ∙ numbered)) ∙ all in
    ap (λ (o : Option (ℕ × List ℕ)). o >>= λ n. cond (leb n.0 32) (many_at elem_at n.0 n.1) None) (ap (number_at w16) regrouped ∙ numbered)
    ∙ ap (λ (b : Bool). cond b (many_at elem_at (length path) (flat_map elem_spelling path ++ rest)) None) t.0
    ∙ many

pub path_form : Reads path_spelling IsFitRepresentablePath path_at
path_form = record { takes = λ octets x rest bytes e. path_takes octets x rest bytes e; again = λ x rest is short. path_again x rest is short }

-- ---- values

-- what is read, made into something else
abbrev pub made : {A C : Type 0} → (A → C) → Option (A × List ℕ) → Option (C × List ℕ)
made make read = read >>= λ a. Some (make a.0, a.1)

-- a form behind a tag
pub tagged : {A C : Type 0} (tag : ℕ) (sa : A → List ℕ) (fa : A → Type 0) (ra : List ℕ → Option (A × List ℕ)) (make : A → C) (sc : C → List ℕ) (fc : C → Type 0)
    → ((a : A) → fa a → sc (make a) ≡ tag ∷ sa a) → ((a : A) → fa a → fc (make a)) → Reads sa fa ra
    → (octets : List ℕ) (x : C) (rest : List ℕ) → IsBytes octets → made make (ra octets) ≡ Some (x, rest) → Took sc fc (tag ∷ octets) x rest
tagged {A} {C} tag sa fa ra make sc fc spelled fits r octets x rest bytes e =
    let a = bind_some (ra octets) (λ a. Some (make a.0, a.1)) (x, rest) e in
    let t = r.takes octets a.0.0 a.0.1 bytes a.1 in
    turned sc fc (tag ∷ octets) (make a.0.0) x a.0.1 rest a.2
    (record { parts = ap (λ (l : List ℕ). tag ∷ l) t.parts ∙ ap (λ (l : List ℕ). l ++ a.0.1) (sym (spelled a.0.0 t.is)); is = fits a.0.0 t.is })

pub chosen : {A : Type 0} (b : Bool) (x y z : A) → cond b x y ≡ z → ((b ≡ true) × (x ≡ z)) ⊎ ((b ≡ false) × (y ≡ z))
chosen true x y z e = inl (refl, e)
chosen false x y z e = inr (refl, e)

abbrev pub IsFitRepresentableScalar : Value → Type 0
IsFitRepresentableScalar value = IsRepresentableValue value × (is_fit_scalar value ≡ true)

bool_takes : (octets : List ℕ) (x : Value) (rest : List ℕ) → bool_at octets ≡ Some (x, rest) → Took value_spelling IsFitRepresentableScalar (1 ∷ octets) x rest
bool_takes [] x rest e = absurd cc
bool_takes (octet ∷ octets) x rest e =
    elim (chosen (eqb octet 0) (Some (values.Bool false, octets)) (cond (eqb octet 1) (Some (values.Bool true, octets)) None) (Some (x, rest)) e) [
      | inl c ↦ turned value_spelling IsFitRepresentableScalar (1 ∷ octet ∷ octets) (values.Bool false) x octets rest c.1 (record { parts = ap (λ (k : ℕ). 1 ∷ k ∷ octets) (eqb-true octet 0 c.0); is = (tt, refl) })
      | inr d ↦
          let g = passed (eqb octet 1) (Some (values.Bool true, octets)) (x, rest) d.1 in
          turned value_spelling IsFitRepresentableScalar (1 ∷ octet ∷ octets) (values.Bool true) x octets rest g.1 (record { parts = ap (λ (k : ℕ). 1 ∷ k ∷ octets) (eqb-true octet 1 g.0); is = (tt, refl) })
    ]

places_take : (octets : List ℕ) (places : ℕ) (rest : List ℕ) → places_at octets ≡ Some (places, rest) → Took (λ n. n ∷ []) (λ n. (leb 1 n && leb n 18) ≡ true) octets places rest
places_take [] places rest e = absurd cc
places_take (octet ∷ octets) places rest e =
    let g = passed (leb 1 octet && leb octet 18) (Some (octet, octets)) (places, rest) e in
    turned (λ n. n ∷ []) (λ n. (leb 1 n && leb n 18) ≡ true) (octet ∷ octets) octet places octets rest g.1 (record { parts = refl; is = g.0 })

signed_fits : (n : ℕ) → n < 2 ^ 64 → FitsSigned w64 (cast_signed w64 n)
signed_fits n lt = sfits_to_z (Fits-of_lt {w = w64} lt)

dec_takes : (octets : List ℕ) (x : Value) (rest : List ℕ) → IsBytes octets → dec_at octets ≡ Some (x, rest) → Took value_spelling IsFitRepresentableScalar (4 ∷ octets) x rest
unfolding dec_at
dec_takes octets x rest bytes e =
    let d = bind_some (number_at w64 octets) (λ digits. places_at digits.1 >>= λ places. Some (values.Dec (cast_signed w64 digits.0) places.0, places.1)) (x, rest) e in
    let p = bind_some (places_at d.0.1) (λ places. Some (values.Dec (cast_signed w64 d.0.0) places.0, places.1)) (x, rest) d.2 in
    let t = (numbers w64 (2 ^ 64) wide64).takes octets d.0.0 d.0.1 bytes d.1 in
    let u = places_take d.0.1 p.0.0 p.0.1 p.1 in
    let few = and_parts (leb 1 p.0.0) (leb p.0.0 18) u.is in
    let small : p.0.0 < 2 ^ 8 = omega (arith, leb-true _ _ few.1) in
    turned value_spelling IsFitRepresentableScalar (4 ∷ octets) (values.Dec (cast_signed w64 d.0.0) p.0.0) x p.0.1 rest p.2
    (record {
      parts = ap (λ (l : List ℕ). 4 ∷ l) (t.parts ∙ ap (λ (l : List ℕ). to_be_bytes w64 d.0.0 ++ l) u.parts ∙ sym (append_assoc (to_be_bytes w64 d.0.0) (p.0.0 ∷ []) p.0.1)
          ∙ ap (λ (n : ℕ). (to_be_bytes w64 n ++ p.0.0 ∷ []) ++ p.0.1) (sym (of_z-to_z w64 d.0.0 t.is)));
      is = ((signed_fits d.0.0 t.is, small), u.is);
    })

pub scalar_takes : (tag : ℕ) (octets : List ℕ) (x : Value) (rest : List ℕ) → IsBytes octets → scalar_at tag octets ≡ Some (x, rest) → Took value_spelling IsFitRepresentableScalar (tag ∷ octets) x rest
unfolding scalar_at
scalar_takes tag octets x rest bytes e =
    elim (chosen (eqb tag 1) (bool_at octets) (not_1 tag octets) (Some (x, rest)) e) [
      | inl c ↦ at tag 1 c.0 (bool_takes octets x rest c.1)
      | inr d ↦ elim (chosen (eqb tag 2) (int_at octets) (not_2 tag octets) (Some (x, rest)) d.1) [
        | inl c ↦ at tag 2 c.0 (tagged 2 (to_be_bytes w64) (λ n. n < 2 ^ 64) (number_at w64) (λ n. values.Int (cast_signed w64 n)) value_spelling IsFitRepresentableScalar (λ n lt. ap (λ (k : ℕ). 2 ∷ to_be_bytes w64 k) (of_z-to_z w64 n lt)) (λ n lt. (signed_fits n lt, refl)) (numbers w64 (2 ^ 64) wide64) octets x rest bytes c.1)
        | inr d ↦ elim (chosen (eqb tag 3) (uint_at octets) (not_3 tag octets) (Some (x, rest)) d.1) [
          | inl c ↦ at tag 3 c.0 (tagged 3 (to_be_bytes w64) (λ n. n < 2 ^ 64) (number_at w64) values.Uint value_spelling IsFitRepresentableScalar (λ n lt. refl) (λ n lt. (lt, refl)) (numbers w64 (2 ^ 64) wide64) octets x rest bytes c.1)
          | inr d ↦ elim (chosen (eqb tag 4) (dec_at octets) (not_4 tag octets) (Some (x, rest)) d.1) [
            | inl c ↦ at tag 4 c.0 (dec_takes octets x rest bytes c.1)
            | inr d ↦ elim (chosen (eqb tag 5) (text_value_at octets) (not_5 tag octets) (Some (x, rest)) d.1) [
              | inl c ↦ at tag 5 c.0 (tagged 5 text_spelling IsRepresentableText text_at values.Text value_spelling IsFitRepresentableScalar (λ t is. refl) (λ t is. (is, refl)) text_form octets x rest bytes c.1)
              | inr d ↦ elim (chosen (eqb tag 6) (bin_at octets) (not_6 tag octets) (Some (x, rest)) d.1) [
                | inl c ↦ at tag 6 c.0 (tagged 6 text_spelling AreOctets octets_at values.Bin value_spelling IsFitRepresentableScalar (λ t is. refl) (λ t is. (is, refl)) octet_form octets x rest bytes c.1)
                | inr d ↦
                    let c = passed (eqb tag 7) (enum_at octets) (x, rest) d.1 in
                    at tag 7 c.0 (tagged 7 text_spelling IsRepresentableText text_at values.Enum value_spelling IsFitRepresentableScalar (λ t is. refl) (λ t is. (is, refl)) text_form octets x rest bytes c.1)
              ]
            ]
          ]
        ]
      ]
    ]
  where
    at : (tag k : ℕ) → eqb tag k ≡ true → Took value_spelling IsFitRepresentableScalar (k ∷ octets) x rest → Took value_spelling IsFitRepresentableScalar (tag ∷ octets) x rest
    at tag k e t = subst (λ (n : ℕ). Took value_spelling IsFitRepresentableScalar (n ∷ octets) x rest) (sym (eqb-true tag k e)) t

    not_6 : ℕ → List ℕ → Option (Value × List ℕ)
    not_6 tag octets = cond (eqb tag 7) (enum_at octets) None

    not_5 : ℕ → List ℕ → Option (Value × List ℕ)
    not_5 tag octets = cond (eqb tag 6) (bin_at octets) (not_6 tag octets)

    not_4 : ℕ → List ℕ → Option (Value × List ℕ)
    not_4 tag octets = cond (eqb tag 5) (text_value_at octets) (not_5 tag octets)

    not_3 : ℕ → List ℕ → Option (Value × List ℕ)
    not_3 tag octets = cond (eqb tag 4) (dec_at octets) (not_4 tag octets)

    not_2 : ℕ → List ℕ → Option (Value × List ℕ)
    not_2 tag octets = cond (eqb tag 3) (uint_at octets) (not_3 tag octets)

    not_1 : ℕ → List ℕ → Option (Value × List ℕ)
    not_1 tag octets = cond (eqb tag 2) (int_at octets) (not_2 tag octets)

-- what stands behind the tag, which is of a value that is no list
abbrev pub Again : Value → List ℕ → Type 0
Again x rest = (item_at (value_spelling x ++ rest) ≡ Some (x, rest)) × (value_at (value_spelling x ++ rest) ≡ Some (x, rest))

bool_again : (b : Bool) (rest : List ℕ) → bool_at (bool_octet b ∷ rest) ≡ Some (values.Bool b, rest)
bool_again true rest = refl
bool_again false rest = refl

dec_again : (digits : ℤ) (places : ℕ) (rest : List ℕ) → FitsSigned w64 digits → (leb 1 places && leb places 18) ≡ true → dec_at (to_be_bytes w64 (cast_unsigned w64 digits) ++ places ∷ rest) ≡ Some (values.Dec digits places, rest)
unfolding dec_at
dec_again digits places rest fits few =
    rw ((numbers w64 (2 ^ 64) wide64).again (cast_unsigned w64 digits) (places ∷ rest) (Fits-lt-pow (Fits-of_z fits)) (omega arith), few, to_z-of_z w64 digits fits) refl

pub scalar_again : (x : Value) (rest : List ℕ) → IsFitRepresentableScalar x → length (value_spelling x) < 2 ^ 32 → Again x rest
unfolding item_at value_at scalar_at
scalar_again (v.Bool b) rest is short = (bool_again b rest, bool_again b rest)
scalar_again (v.Int n) rest is short =
    let e = (numbers w64 (2 ^ 64) wide64).again (cast_unsigned w64 n) rest (Fits-lt-pow (Fits-of_z is.0)) (omega arith) in
    let same : int_at (to_be_bytes w64 (cast_unsigned w64 n) ++ rest) ≡ Some (values.Int n, rest) = rw (e, to_z-of_z w64 n is.0) refl in
    (same, same)
scalar_again (v.Uint n) rest is short =
    let e = (numbers w64 (2 ^ 64) wide64).again n rest is.0 (omega arith) in
    let same : uint_at (to_be_bytes w64 n ++ rest) ≡ Some (values.Uint n, rest) = rw e refl in
    (same, same)
scalar_again (v.Dec digits places) rest is short =
    let e = dec_again digits places rest is.0.0 is.1 in
    let regrouped = ap dec_at (append_assoc (to_be_bytes w64 (cast_unsigned w64 digits)) (places ∷ []) rest) in
    (regrouped ∙ e, regrouped ∙ e)
scalar_again (v.Text t) rest is short =
    let e = text_form.again t rest is.0 (omega arith) in
    let same : text_value_at (text_spelling t ++ rest) ≡ Some (values.Text t, rest) = rw e refl in
    (same, same)
scalar_again (v.Bin t) rest is short =
    let e = octet_form.again t rest is.0 (omega arith) in
    let same : bin_at (text_spelling t ++ rest) ≡ Some (values.Bin t, rest) = rw e refl in
    (same, same)
scalar_again (v.Enum t) rest is short =
    let e = text_form.again t rest is.0 (omega arith) in
    let same : enum_at (text_spelling t ++ rest) ≡ Some (values.Enum t, rest) = rw e refl in
    (same, same)
scalar_again (v.List' n inner) rest is short = absurd (let no = is.1 in cc)

item_takes : (octets : List ℕ) (x : Value) (rest : List ℕ) → IsBytes octets → item_at octets ≡ Some (x, rest) → Took value_spelling IsFitRepresentableScalar octets x rest
unfolding item_at
item_takes [] x rest bytes e = absurd cc
item_takes (tag ∷ octets) x rest bytes e = scalar_takes tag octets x rest (λ i. bytes (suc i)) e

pub item_form : Reads value_spelling IsFitRepresentableScalar item_at
item_form = record { takes = λ octets x rest bytes e. item_takes octets x rest bytes e; again = λ x rest is short. (scalar_again x rest is short).0 }
