-- What the first fields hold, and one more.
use Rattle.std.proofs.Common.{◌≡◌, ℕ, ◌+◌, ◌<◌, Bool, true, false, List, [], ◌∷◌, ◌++◌, length, get_or, take, drop, Option, Some, None, refl, sym, ap, ◌∙◌, append-nil}
use Rattle.std.specs.Prelude.{Result, Ok, Err, OnErr}
use Rattle.std.specs.List.{filter_map, concat, last_or}
use Rattle.std.proofs.lemmas.List.{take_more, take-append-drop}
use Rattle.std.proofs.lemmas.List.Elements.{filter_map-append}
use Rattle.std.proofs.lemmas.List.Folds.{concat-append}
use Rattle.pb_wire.specs.declared.field.Body.TheVariants.{Varint}
use Rattle.pb_wire.specs.declared.field.Field.{Field}
use Rattle.pb_wire.specs.Values.{varint_in, octets_in, varints, occurrences, last_scalar, last_octets, joined_octets}
use Rattle.base_lists.specs.Fronts.{AppendsFront}

last_or-push : {X : Type 0} (o : Option X) (xs : List X) (x : X) → last_or o (xs ++ x ∷ []) ≡ Some x
last_or-push o [] x = refl
last_or-push o (y ∷ xs) x = last_or-push (Some y) xs x

-- ---- one field more

filter_map-none : {X Y : Type 0} (h : X → Option Y) (xs : List X) (i : ℕ) (d : X) → i < length xs → h (get_or xs i d) ≡ None → filter_map h (take (i + 1) xs) ≡ filter_map h (take i xs)
filter_map-none h xs i d lt e =
    ap (filter_map h) (take_more xs i d lt) ∙ filter_map-append h (take i xs) (get_or xs i d ∷ []) ∙ rw e (append-nil (filter_map h (take i xs)))

filter_map-some : {X Y : Type 0} (h : X → Option Y) (xs : List X) (i : ℕ) (d : X) (y : Y) → i < length xs → h (get_or xs i d) ≡ Some y → filter_map h (take (i + 1) xs) ≡ filter_map h (take i xs) ++ y ∷ []
filter_map-some h xs i d y lt e =
    ap (filter_map h) (take_more xs i d lt) ∙ filter_map-append h (take i xs) (get_or xs i d ∷ []) ∙ rw e refl

pub last_scalar-none : (number : ℕ) (fields : List Field) (i : ℕ) (d : Field) → i < length fields → varint_in number (get_or fields i d) ≡ None → last_scalar number (take (i + 1) fields) ≡ last_scalar number (take i fields)
last_scalar-none number fields i d lt e = ap (last_or None) (filter_map-none (varint_in number) fields i d lt e)

pub last_scalar-some : (number : ℕ) (fields : List Field) (i : ℕ) (d : Field) (value : ℕ) → i < length fields → varint_in number (get_or fields i d) ≡ Some value → last_scalar number (take (i + 1) fields) ≡ Some value
last_scalar-some number fields i d value lt e =
    ap (last_or None) (filter_map-some (varint_in number) fields i d value lt e) ∙ last_or-push None (varints number (take i fields)) value

pub last_octets-none : (message : List ℕ) (number : ℕ) (fields : List Field) (i : ℕ) (d : Field) → i < length fields → octets_in message number (get_or fields i d) ≡ None → last_octets message number (take (i + 1) fields) ≡ last_octets message number (take i fields)
last_octets-none message number fields i d lt e = ap (last_or None) (filter_map-none (octets_in message number) fields i d lt e)

pub last_octets-some : (message : List ℕ) (number : ℕ) (fields : List Field) (i : ℕ) (d : Field) (piece : List ℕ) → i < length fields → octets_in message number (get_or fields i d) ≡ Some piece → last_octets message number (take (i + 1) fields) ≡ Some piece
last_octets-some message number fields i d piece lt e =
    ap (last_or None) (filter_map-some (octets_in message number) fields i d piece lt e) ∙ last_or-push None (occurrences message number (take i fields)) piece

-- ---- whether there are some

abbrev pub is_some_of : {X : Type 0} → List X → Bool
is_some_of [] = false
is_some_of (x ∷ xs) = true

pub is_some_of-push : {X : Type 0} (xs : List X) (x : X) → is_some_of (xs ++ x ∷ []) ≡ true
is_some_of-push [] x = refl
is_some_of-push (y ∷ xs) x = refl

-- ---- joined octets

pub occurrences-none : (message : List ℕ) (number : ℕ) (fields : List Field) (i : ℕ) (d : Field) → i < length fields → octets_in message number (get_or fields i d) ≡ None → occurrences message number (take (i + 1) fields) ≡ occurrences message number (take i fields)
occurrences-none message number fields i d lt e = filter_map-none (octets_in message number) fields i d lt e

pub occurrences-some : (message : List ℕ) (number : ℕ) (fields : List Field) (i : ℕ) (d : Field) (piece : List ℕ) → i < length fields → octets_in message number (get_or fields i d) ≡ Some piece → occurrences message number (take (i + 1) fields) ≡ occurrences message number (take i fields) ++ piece ∷ []
occurrences-some message number fields i d piece lt e = filter_map-some (octets_in message number) fields i d piece lt e

pub joined_octets-some : (message : List ℕ) (number : ℕ) (fields : List Field) (i : ℕ) (d : Field) (piece : List ℕ) → i < length fields → octets_in message number (get_or fields i d) ≡ Some piece → joined_octets message number (take (i + 1) fields) ≡ joined_octets message number (take i fields) ++ piece
joined_octets-some message number fields i d piece lt e =
    ap concat (occurrences-some message number fields i d piece lt e) ∙ concat-append (occurrences message number (take i fields)) (piece ∷ []) ∙ ap (λ (s : List ℕ). joined_octets message number (take i fields) ++ s) (append-nil piece)

pub joined_octets-front : (old out message : List ℕ) (number : ℕ) (fields : List Field) (i : ℕ) → out ≡ old ++ joined_octets message number (take i fields) → AppendsFront old out (joined_octets message number fields)
joined_octets-front old out message number fields i e = record {
  front = joined_octets message number (take i fields);
  rest = joined_octets message number (drop i fields);
  parts = ap (joined_octets message number) (sym (take-append-drop i fields)) ∙ ap concat (filter_map-append (octets_in message number) (take i fields) (drop i fields)) ∙ concat-append (occurrences message number (take i fields)) (occurrences message number (drop i fields));
  is = e;
}

pub on_err_from : {T E P : Type 0} (r : Result T E) → P → OnErr r P
on_err_from (Ok x) p = tt
on_err_from (Err e) p = p

-- what std's goals have in the place of a field that is not there
abbrev pub no_field : Field
no_field = record { number = 0; body = Varint 0 }
