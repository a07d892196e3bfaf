-- The spellings of octets: which one it is shows, whatever follows.
use Rattle.std.proofs.Common.{◌≡◌, ℕ, ◌/◌, ◌%◌, ◌<◌, List, [], ◌∷◌, ◌++◌, Bool, true, false, ltb, refl, sym, ap, ◌∙◌, arith, ⊎_elim, inl, inr, IsUtf8}
use Rattle.std.specs.List.{AllByRecursion}
use Rattle.std.specs.Char.{encode_utf8}
use Rattle.std.specs.Str.{encode_utf8_all}
use Rattle.std.proofs.Math.Utf8.{scalar, scalars, scalar_cases}
use Rattle.std.proofs.lemmas.Bool.{true≢false, cases_Bool, cases_lt, lt-ltb, le-ltb, and_parts}
use Rattle.std.proofs.lemmas.Bool.Decides.{nat_tests}
use Rattle.base_kinds.specs.Texts.{hex_digit, escape, octet_text}
use Rattle.path_core.specs.declared.escapes.Part.{Part}
use Rattle.path_core.specs.declared.escapes.Part.TheVariants.{Name, Value}
use Rattle.path_core.specs.inner.Reading.{test_of, hex_pair, NoOctet, AreOctetsAt, IsTextAt}
use Rattle.path_core.proofs.Runs.{IsCode, same_runs, all_both}

-- ---- octets of a text are below 256

abbrev pub Small : ℕ → Type 0
Small octet = octet < 256

small_encode : (c : ℕ) → scalar c ≡ true → AllByRecursion Small (encode_utf8 c)
unfolding encode_utf8
small_encode c ok =
    let top : c < 1114112 = ⊎_elim (λ low. omega arith) (λ high. omega (arith, high.1)) (scalar_cases c ok) in
    elim (cases_lt c 128) [
      | inl one ↦ let t : ltb c 128 ≡ true = lt-ltb c 128 one in rw t (omega arith, tt)
      | inr more ↦
          let f : ltb c 128 ≡ false = le-ltb c 128 more in
          rw f (elim (cases_lt c 2048) [
            | inl two ↦ let t : ltb c 2048 ≡ true = lt-ltb c 2048 two in rw t (omega arith, (omega arith, tt))
            | inr most ↦
                let g : ltb c 2048 ≡ false = le-ltb c 2048 most in
                rw g (elim (cases_lt c 65536) [
                  | inl three ↦ let t : ltb c 65536 ≡ true = lt-ltb c 65536 three in rw t (omega arith, (omega arith, (omega arith, tt)))
                  | inr four ↦ let h : ltb c 65536 ≡ false = le-ltb c 65536 four in rw h (omega arith, (omega arith, (omega arith, (omega arith, tt))))
                ])
          ])
    ]

small_encodes : (cs : List ℕ) → scalars cs ≡ true → AllByRecursion Small (encode_utf8_all cs)
small_encodes [] ok = tt
small_encodes (c ∷ cs) ok =
    let parts = and_parts (scalar c) (scalars cs) ok in
    all_both Small (encode_utf8 c) (encode_utf8_all cs) (small_encode c parts.0) (small_encodes cs parts.1)

pub small_text : (octets : List ℕ) → IsUtf8 octets → AllByRecursion Small octets
small_text octets is = rw (← is.1.1) (small_encodes is.0 is.1.0)

-- ---- one octet

same_digit : (a b : ℕ) → hex_digit a ≡ hex_digit b → a ≡ b
same_digit a b e = grind (arith, nat_tests)

pub same_pair : (a b : ℕ) (r s : List ℕ) → hex_pair a ++ r ≡ hex_pair b ++ s → (a ≡ b) × (r ≡ s)
same_pair a b r s e =
    let highs : hex_digit (a / 16) ≡ hex_digit (b / 16) = cc in
    let lows : hex_digit (a % 16) ≡ hex_digit (b % 16) = cc in
    let rests : r ≡ s = cc in
    let high = same_digit (a / 16) (b / 16) highs in
    let low = same_digit (a % 16) (b % 16) lows in
    (omega arith, rests)

pub plain_text : (test : ℕ → Bool) (octet : ℕ) → test octet ≡ true → octet_text test octet ≡ octet ∷ []
plain_text test octet t = rw t refl

pub escape_text : (test : ℕ → Bool) (octet : ℕ) → test octet ≡ false → octet_text test octet ≡ escape octet
escape_text test octet f = rw f refl

plain_front : (test : ℕ → Bool) (octet : ℕ) (rest : List ℕ) → test octet ≡ true → octet_text test octet ++ rest ≡ octet ∷ rest
plain_front test octet rest t = ap (λ z. z ++ rest) (plain_text test octet t)

escape_front : (test : ℕ → Bool) (octet : ℕ) (rest : List ℕ) → test octet ≡ false → octet_text test octet ++ rest ≡ 92 ∷ (hex_pair octet ++ rest)
escape_front test octet rest f = ap (λ z. z ++ rest) (escape_text test octet f)

pub no_backslash : (part : Part) → test_of part 92 ≡ false
no_backslash Name = refl
no_backslash Value = refl

first_is : (a b : ℕ) (r s : List ℕ) → a ∷ r ≡ b ∷ s → a ≡ b
first_is a b r s e = cc

rest_is : (a b : ℕ) (r s : List ℕ) → a ∷ r ≡ b ∷ s → r ≡ s
rest_is a b r s e = cc

-- an octet that stands for itself, and one that doesn't
not_both : (test : ℕ → Bool) → test 92 ≡ false → (x : ℕ) (r s : List ℕ) → test x ≡ true → x ∷ r ≡ 92 ∷ s → ⊥
not_both test fails x r s t e = true≢false (sym t ∙ ap test (first_is x 92 r s e) ∙ fails)

same_octet : (test : ℕ → Bool) → test 92 ≡ false → (x y : ℕ) (r s : List ℕ) → octet_text test x ++ r ≡ octet_text test y ++ s → (x ≡ y) × (r ≡ s)
same_octet test fails x y r s e =
    elim (cases_Bool (test x)) [
      | inl tx ↦ elim (cases_Bool (test y)) [
        | inl ty ↦ let h : x ∷ r ≡ y ∷ s = sym (plain_front test x r tx) ∙ e ∙ plain_front test y s ty in (first_is x y r s h, rest_is x y r s h)
        | inr fy ↦ absurd (not_both test fails x r (hex_pair y ++ s) tx (sym (plain_front test x r tx) ∙ e ∙ escape_front test y s fy))
      ]
      | inr fx ↦ elim (cases_Bool (test y)) [
        | inl ty ↦ absurd (not_both test fails y s (hex_pair x ++ r) ty (sym (plain_front test y s ty) ∙ sym e ∙ escape_front test x r fx))
        | inr fy ↦ same_pair x y r s (rest_is 92 92 (hex_pair x ++ r) (hex_pair y ++ s) (sym (escape_front test x r fx) ∙ e ∙ escape_front test y s fy))
      ]
    ]

abbrev pub Anything : List ℕ → Type 0
Anything rest = Unit {0}

octet_code : (part : Part) → IsCode (octet_text (test_of part)) Small Anything
octet_code part = record {
  one = λ x y r s okx oky goodr goods e. same_octet (test_of part) (no_backslash part) x y r s e;
  good = λ x r ok good. tt;
}

-- ---- where no octet is spelled

pub no_octet : (part : Part) (c : ℕ) (rest : List ℕ) → test_of part c ≡ false → (c ≡ 92 → ⊥) → NoOctet part (c ∷ rest)
no_octet part c rest fails other octet after small e =
    elim (cases_Bool (test_of part octet)) [
      | inl t ↦ let h = first_is c octet rest after (e ∙ plain_front (test_of part) octet after t) in true≢false (sym t ∙ ap (test_of part) (sym h) ∙ fails)
      | inr f ↦ other (first_is c 92 rest (hex_pair octet ++ after) (e ∙ escape_front (test_of part) octet after f))
    ]

nothing_begins : (c : ℕ) (rest : List ℕ) → [] ≡ c ∷ rest → ⊥
nothing_begins c rest e = cc

pub no_octet_in_nothing : (part : Part) → NoOctet part []
no_octet_in_nothing part octet after small e =
    elim (cases_Bool (test_of part octet)) [
      | inl t ↦ nothing_begins octet after (e ∙ plain_front (test_of part) octet after t)
      | inr f ↦ nothing_begins 92 (hex_pair octet ++ after) (e ∙ escape_front (test_of part) octet after f)
    ]

-- after a `\` that no two digits follow whose octet doesn't stand for itself
pub bad_escape : (part : Part) (rest : List ℕ) → ((octet : ℕ) (after : List ℕ) → octet < 256 → rest ≡ hex_pair octet ++ after → test_of part octet ≡ false → ⊥) → NoOctet part (92 ∷ rest)
bad_escape part rest refused octet after small e =
    elim (cases_Bool (test_of part octet)) [
      | inl t ↦ not_both (test_of part) (no_backslash part) octet after rest t (sym (e ∙ plain_front (test_of part) octet after t))
      | inr f ↦ refused octet after small (rest_is 92 92 rest (hex_pair octet ++ after) (e ∙ escape_front (test_of part) octet after f)) f
    ]

-- what stands behind a `\` is no pair of digits, or that of an octet that stands for itself
pub no_pair : (part : Part) (text : List ℕ) (c : ℕ) (rest : List ℕ) → text ≡ c ∷ rest → c ≡ 92 → ((octet : ℕ) (after : List ℕ) → octet < 256 → rest ≡ hex_pair octet ++ after → ⊥) → NoOctet part text
no_pair part text c rest is here refused = rw (is, here) (bad_escape part rest (λ octet after small e f. refused octet after small e))

pub needless_pair : (part : Part) (text : List ℕ) (c : ℕ) (rest : List ℕ) (octet : ℕ) (after : List ℕ) → text ≡ c ∷ rest → c ≡ 92 → rest ≡ hex_pair octet ++ after → test_of part octet ≡ true → NoOctet part text
needless_pair part text c rest octet after is here spelled plain =
    rw (is, here) (bad_escape part rest (λ other after' small e f. true≢false (sym plain ∙ ap (test_of part) (same_pair octet other after after' (sym spelled ∙ e)).0 ∙ f)))

-- ---- octets and texts

pub same_octets_at : (part : Part) (text a b x y : List ℕ) → AreOctetsAt part text a x → AreOctetsAt part text b y → (a ≡ b) × (x ≡ y)
same_octets_at part text a b x y at at' =
    same_runs (octet_text (test_of part)) Small Anything (octet_code part) a b x y at.small at'.small tt tt at.ended at'.ended (sym at.spelled ∙ at'.spelled)

pub same_text_at : (part : Part) (text a b x y : List ℕ) → IsTextAt part text a x → IsTextAt part text b y → (a ≡ b) × (x ≡ y)
same_text_at part text a b x y at at' = same_octets_at part text a b x y at.octets_at at'.octets_at

-- the octets that were read are the text's, so they are UTF-8 where those are
pub no_text : (part : Part) (text octets rest : List ℕ) → AreOctetsAt part text octets rest → (IsUtf8 octets → ⊥) → (other after : List ℕ) → IsTextAt part text other after → ⊥
no_text part text octets rest at refused other after at' =
    let same = same_octets_at part text octets other rest after at at'.octets_at in
    refused (rw same.0 at'.utf8)
