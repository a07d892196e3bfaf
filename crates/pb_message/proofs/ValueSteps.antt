-- What one field adds to what a message holds under a number.
use Rattle.std.proofs.Common.{◌≡◌, ℕ, ◌<◌, ◌≤◌, Bool, true, false, ◌&&◌, ◌||◌, List, [], ◌∷◌, ◌++◌, Option, Some, None, refl, sym, ap, ◌∙◌, append_assoc, append-nil}
use Rattle.std.specs.Prelude.{nat_lt, unwrap_or, if◌then◌else◌}
use Rattle.std.specs.Option.{option_or}
use Rattle.std.specs.List.{list_any, list_all, filter_map, concat, last_or}
use Rattle.std.specs.Str.{IsUtf8, is_utf8, chars}
use Rattle.std.proofs.lemmas.Bool.{lt-ltb, le-ltb}
use Rattle.std.proofs.lemmas.Str.{IsUtf8-from_is_utf8, is_utf8-from_IsUtf8}
use Rattle.pb_wire.specs.declared.field.Field.{Field}
use Rattle.pb_wire.specs.Values.{varint_in, octets_in, varints, occurrences}
use Rattle.pb_message.specs.Fields.{fields_at, all_fields}
use Rattle.pb_message.specs.Values.{pieces_from, pieces_under, text_under, has_number_above}

pub number_step : (number : ℕ) (fields : List Field) (field : Field) (rest : List Field) (o : Option ℕ)
    → fields ≡ field ∷ rest
    → last_or o (varints number fields) ≡ last_or (option_or (varint_in number field) o) (varints number rest)
number_step number fields field rest o e =
    ap (λ (fs : List Field). last_or o (varints number fs)) e ∙ one (varint_in number field) refl
  where
    one : (found : Option ℕ) → varint_in number field ≡ found
        → last_or o (varints number (field ∷ rest)) ≡ last_or (option_or found o) (varints number rest)
    one None is = rw is refl
    one (Some n) is = rw is refl

pub piece_some : (number : ℕ) (octets : List ℕ) (place : ℕ) (field : Field) (next : ℕ) (piece : List ℕ)
    → fields_at octets place ≡ field ∷ fields_at octets next → octets_in octets number field ≡ Some piece
    → pieces_from number octets place ≡ piece ∷ pieces_from number octets next
piece_some number octets place field next piece e is =
    ap (occurrences octets number) e ∙ rw is refl

pub piece_none : (number : ℕ) (octets : List ℕ) (place : ℕ) (field : Field) (next : ℕ)
    → fields_at octets place ≡ field ∷ fields_at octets next → octets_in octets number field ≡ None
    → pieces_from number octets place ≡ pieces_from number octets next
piece_none number octets place field next e is =
    ap (occurrences octets number) e ∙ rw is refl

pub joined_step : (joined piece : List ℕ) (pieces others : List (List ℕ)) → pieces ≡ piece ∷ others
    → joined ++ concat pieces ≡ (joined ++ piece) ++ concat others
joined_step joined piece pieces others e =
    ap (λ (ps : List (List ℕ)). joined ++ concat ps) e ∙ sym (append_assoc joined piece (concat others))

pub above_some : (most : ℕ) (octets : List ℕ) (place : ℕ) (field : Field) (rest : List Field)
    → fields_at octets place ≡ field ∷ rest → most < field.number
    → list_any (λ (field : Field). nat_lt most field.number) (fields_at octets place) ≡ true
above_some most octets place field rest e lt =
    ap (list_any (λ (field : Field). nat_lt most field.number)) e
    ∙ ap (λ (b : Bool). b || list_any (λ (field : Field). nat_lt most field.number) rest) (lt-ltb most field.number lt)

pub above_none : (most : ℕ) (octets : List ℕ) (place : ℕ) (field : Field) (rest : List Field)
    → fields_at octets place ≡ field ∷ rest → field.number ≤ most
    → list_any (λ (field : Field). nat_lt most field.number) (fields_at octets place)
    ≡ list_any (λ (field : Field). nat_lt most field.number) rest
above_none most octets place field rest e le =
    ap (list_any (λ (field : Field). nat_lt most field.number)) e
    ∙ ap (λ (b : Bool). b || list_any (λ (field : Field). nat_lt most field.number) rest) (le-ltb most field.number le)

-- ---- strings

pub taken : (octets : List ℕ) → IsUtf8 octets → is_utf8 octets ≡ true
taken octets is = is_utf8-from_IsUtf8 octets is

not_true : (b : Bool) → (b ≡ true → ⊥) → b ≡ false
not_true true h = absurd (h refl)
not_true false h = refl

pub refused : (octets : List ℕ) → (IsUtf8 octets → ⊥) → is_utf8 octets ≡ false
refused octets h = not_true (is_utf8 octets) (λ e. h (IsUtf8-from_is_utf8 octets e))

pub ruleset utf8_tests = (taken, refused)

pub empty_is_utf8 : is_utf8 [] ≡ true
unfolding is_utf8 chars
empty_is_utf8 = refl

-- the strings from a place on, with the last one so far
pub record TextsLeft (number : ℕ) (octets : List ℕ) (place : ℕ) (last : List ℕ) : Type 0 where
  pub all : list_all is_utf8 (pieces_under number octets) ≡ list_all is_utf8 (pieces_from number octets place)
  pub text : unwrap_or (last_or None (pieces_under number octets)) []
      ≡ unwrap_or (last_or (Some last) (pieces_from number octets place)) []
  pub is : is_utf8 last ≡ true

pub texts_first : (number : ℕ) (octets : List ℕ) → TextsLeft number octets 0 []
texts_first number octets = record {
  all = refl;
  text = same (pieces_under number octets);
  is = empty_is_utf8;
}
  where
    same : (pieces : List (List ℕ)) → unwrap_or (last_or None pieces) [] ≡ unwrap_or (last_or (Some []) pieces) []
    same [] = refl
    same (p ∷ ps) = refl

pub texts_more : (number : ℕ) (octets : List ℕ) (place : ℕ) (last piece : List ℕ) (next : ℕ)
    → pieces_from number octets place ≡ piece ∷ pieces_from number octets next → is_utf8 piece ≡ true
    → TextsLeft number octets place last → TextsLeft number octets next piece
texts_more number octets place last piece next e is left = record {
  all = left.all ∙ ap (list_all is_utf8) e ∙ ap (λ (b : Bool). b && list_all is_utf8 (pieces_from number octets next)) is;
  text = left.text ∙ ap (λ (ps : List (List ℕ)). unwrap_or (last_or (Some last) ps) []) e;
  is = is;
}

pub text_bad : (number : ℕ) (octets : List ℕ) (place : ℕ) (last piece : List ℕ) (next : ℕ)
    → pieces_from number octets place ≡ piece ∷ pieces_from number octets next → is_utf8 piece ≡ false
    → TextsLeft number octets place last → text_under number octets ≡ None
text_bad number octets place last piece next e is left =
    ap (λ (b : Bool). if b then Some (unwrap_or (last_or None (pieces_under number octets)) []) else None)
    (left.all ∙ ap (list_all is_utf8) e ∙ ap (λ (b : Bool). b && list_all is_utf8 (pieces_from number octets next)) is)

pub text_is : (number : ℕ) (octets : List ℕ) (place : ℕ) (last : List ℕ) → pieces_from number octets place ≡ []
    → TextsLeft number octets place last → text_under number octets ≡ Some last
text_is number octets place last e left =
    ap (λ (b : Bool). if b then Some (unwrap_or (last_or None (pieces_under number octets)) []) else None)
    (left.all ∙ ap (list_all is_utf8) e)
    ∙ ap (λ (t : List ℕ). Some t) (left.text ∙ ap (λ (ps : List (List ℕ)). unwrap_or (last_or (Some last) ps) []) e)
