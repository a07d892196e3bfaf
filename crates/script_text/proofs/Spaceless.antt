-- The texts of paths and of trial ids have no space in them, whatever they say.
use Rattle.std.proofs.Common.{◌≡◌, ℕ, ◌/◌, ◌%◌, ◌≤◌, List, [], ◌∷◌, ◌++◌, Bool, true, false, not, eqb, refl, sym, ap, ◌∙◌, arith, ⊎_elim}
use Rattle.std.specs.List.{flat_map}
use Rattle.std.proofs.lemmas.Bool.{and_from, not_from_false, true≢false, cases_Bool, ne_eqb}
use Rattle.std.proofs.lemmas.Bool.Decides.{nat_tests}
use Rattle.std.proofs.lemmas.List.Folds.{list_all-append}
use Rattle.base_kinds.specs.declared.path.Elem.{Elem}
use Rattle.base_kinds.specs.Texts.{is_name_octet, is_key_octet, hex_digit, escape, octet_text, escaped, key_part, elem_text, path_text}
use Rattle.path_core.specs.PathText.{IsPathText, IsValueText}
use Rattle.path_core.proofs.Elems.{one_path}
use Rattle.path_core.proofs.ValueTexts.{one_value}
use Rattle.plain_texts.specs.Splits.{lacks}
use Rattle.script_text.specs.inner.FirstWords.{IsWordKind}

abbrev Spaceless : List ℕ → Type 0
Spaceless text = lacks 32 text ≡ true

both : (a b : List ℕ) → Spaceless a → Spaceless b → Spaceless (a ++ b)
both a b left right = list_all-append (λ octet. not (eqb octet 32)) a b ∙ and_from (lacks 32 a) (lacks 32 b) left right

each : {X : Type 0} (f : X → List ℕ) → ((x : X) → Spaceless (f x)) → (xs : List X) → Spaceless (flat_map f xs)
each f one [] = refl
each f one (x ∷ xs) = both (f x) (flat_map f xs) (one x) (each f one xs)

one_more : (octet : ℕ) (text : List ℕ) → (octet ≡ 32 → ⊥) → Spaceless text → Spaceless (octet ∷ text)
one_more octet text apart rest = and_from (not (eqb octet 32)) (lacks 32 text) (not_from_false (eqb octet 32) (ne_eqb octet 32 apart)) rest

digit_above : (digit : ℕ) → 48 ≤ hex_digit digit
digit_above digit = grind (arith, nat_tests)

no_digit : (digit : ℕ) → hex_digit digit ≡ 32 → ⊥
no_digit digit same = let above = digit_above digit in absurd (omega arith)

escape_spaceless : (octet : ℕ) → Spaceless (escape octet)
escape_spaceless octet = one_more (hex_digit (octet / 16)) (hex_digit (octet % 16) ∷ []) (no_digit (octet / 16)) (one_more (hex_digit (octet % 16)) [] (no_digit (octet % 16)) refl)

octet_spaceless : (test : ℕ → Bool) → test 32 ≡ false → (octet : ℕ) → Spaceless (octet_text test octet)
octet_spaceless test refused octet =
    ⊎_elim
    (λ plain. rw plain (one_more octet [] (λ same. true≢false (sym plain ∙ ap test same ∙ refused)) refl))
    (λ other. rw other (escape_spaceless octet))
    (cases_Bool (test octet))

escaped_spaceless : (test : ℕ → Bool) → test 32 ≡ false → (octets : List ℕ) → Spaceless (escaped test octets)
escaped_spaceless test refused = each (octet_text test) (octet_spaceless test refused)

key_spaceless : (key : List ℕ × List ℕ) → Spaceless (key_part key)
key_spaceless key =
    both (escaped is_name_octet key.0) (61 ∷ (escaped is_key_octet key.1 ++ 93 ∷ [])) (escaped_spaceless is_name_octet refl key.0)
    (both (escaped is_key_octet key.1) (93 ∷ []) (escaped_spaceless is_key_octet refl key.1) refl)

elem_spaceless : (elem : Elem) → Spaceless (elem_text elem)
elem_spaceless elem = both (escaped is_name_octet elem.name) (flat_map key_part elem.keys) (escaped_spaceless is_name_octet refl elem.name) (each key_part key_spaceless elem.keys)

path_spaceless : (path : List Elem) → Spaceless (path_text path)
path_spaceless [] = refl
path_spaceless (elem ∷ elems) = each elem_text elem_spaceless (elem ∷ elems)

pub path_kind : IsWordKind IsPathText
path_kind = record { one = one_path; spaceless = λ text path is. ap (lacks 32) is.spelled ∙ path_spaceless path }

pub id_kind : IsWordKind IsValueText
id_kind = record { one = one_value; spaceless = λ text id is. ap (lacks 32) is.spelled ∙ escaped_spaceless is_key_octet refl id }
