-- The last entry of each key, and the members of a oneof among other fields.
use Rattle.std.proofs.Common.{◌≡◌, ℕ, zero, suc, Bool, true, false, ◌&&◌, cond, eqb, List, [], ◌∷◌, Option, Some, None, refl, sym, ap, ◌∙◌, subst, ◌⊎◌, inl, inr}
use Rattle.std.specs.Prelude.{map, filter, nat_eq}
use Rattle.std.specs.List.{filter_map, cons_option, list_any, last_or}
use Rattle.std.specs.Cmp.Lexicographic.{pointwise}
use Rattle.std.proofs.lemmas.Bool.{eqb-true, eq-eqb}
use Rattle.pb_wire.specs.declared.field.Body.{Body}
use Rattle.pb_wire.specs.declared.field.Body.TheVariants.{Varint, Eight, Octets, Four}
use Rattle.pb_wire.specs.declared.field.Field.{Field}
use Rattle.pb_wire.specs.Message.{wire_type}
use Rattle.pb_wire.specs.Values.{number_of_body, octets_of_body, varint_in, octets_in, varints, occurrences, has_member, is_member, has_key, last_entries, value_of_key}

by_bool : (b : Bool) → (b ≡ true) ⊎ (b ≡ false)
by_bool true = inl refl
by_bool false = inr refl

-- ---- maps

same_key : (a b : List ℕ) → pointwise nat_eq a b ≡ true → a ≡ b
same_key [] [] e = refl
same_key [] (y ∷ b) e = absurd cc
same_key (x ∷ a) [] e = absurd cc
same_key (x ∷ a) (y ∷ b) e =
    let p = both (eqb x y) (pointwise nat_eq a b) e in
    ap (λ (n : ℕ). n ∷ a) (eqb-true x y p.0) ∙ ap (λ (s : List ℕ). y ∷ s) (same_key a b p.1)
  where
    both : (a b : Bool) → (a && b) ≡ true → (a ≡ true) × (b ≡ true)
    both true true e = (refl, refl)
    both true false e = absurd cc
    both false b e = absurd cc

last_or-none : {X : Type 0} (xs : List X) → last_or None xs ≡ None → xs ≡ []
last_or-none [] e = refl
last_or-none (x ∷ xs) e = absurd (some x xs e)
  where
    some : {X : Type 0} (x : X) (xs : List X) → last_or (Some x) xs ≡ None → ⊥
    some x [] e = cc
    some x (y ∷ xs) e = some y xs e

-- what the entries of a key have
abbrev found : {V : Type 0} → List ℕ → List (List ℕ × V) → List V
found {V} key entries = map (λ (entry : List ℕ × V). entry.1) (filter (has_key key) entries)

none_found : {V : Type 0} (key : List ℕ) (entries : List (List ℕ × V)) → list_any (has_key key) entries ≡ false → found key entries ≡ []
none_found key [] e = refl
none_found key (entry ∷ entries) e = by (none_found key entries) (has_key key entry) (list_any (has_key key) entries) refl refl e
  where
    by : (list_any (has_key key) entries ≡ false → found key entries ≡ []) → (a b : Bool) → has_key key entry ≡ a → list_any (has_key key) entries ≡ b → list_any (has_key key) (entry ∷ entries) ≡ false → found key (entry ∷ entries) ≡ []
    by ih true b p q e = absurd (let h : list_any (has_key key) (entry ∷ entries) ≡ true = rw p refl in cc)
    by ih false true p q e = absurd (let h : list_any (has_key key) (entry ∷ entries) ≡ true = rw (p, q) refl in cc)
    by ih false false p q e = rw p (ih q)

some_found : {V : Type 0} (key : List ℕ) (entries : List (List ℕ × V)) (o p : Option V) → list_any (has_key key) entries ≡ true → last_or o (found key entries) ≡ last_or p (found key entries)
some_found key [] o p e = absurd cc
some_found key (entry ∷ entries) o p e = by (some_found key entries o p) (has_key key entry) refl
  where
    by : (list_any (has_key key) entries ≡ true → last_or o (found key entries) ≡ last_or p (found key entries)) → (a : Bool) → has_key key entry ≡ a → last_or o (found key (entry ∷ entries)) ≡ last_or p (found key (entry ∷ entries))
    by ih true q = rw q refl
    by ih false q = rw q (ih (rw q at e))

pub last_entry : {V : Type 0} (key : List ℕ) (entries : List (List ℕ × V)) → value_of_key key (last_entries entries) ≡ value_of_key key entries
last_entry key [] = refl
last_entry {V} key (entry ∷ entries) = by (last_entry key entries) (list_any (has_key entry.0) entries) (has_key key entry) refl refl
  where
    as_key : (a : Bool) → has_key key entry ≡ true → list_any (has_key entry.0) entries ≡ a → list_any (has_key key) entries ≡ a
    as_key a q p = subst (λ (k : List ℕ). list_any (has_key k) entries ≡ a) (sym (same_key key entry.0 q)) p

    by : value_of_key key (last_entries entries) ≡ value_of_key key entries → (a b : Bool) → list_any (has_key entry.0) entries ≡ a → has_key key entry ≡ b
        → value_of_key key (last_entries (entry ∷ entries)) ≡ value_of_key key (entry ∷ entries)
    by ih true true p q = rw (p, q) (ih ∙ some_found key entries None (Some entry.1) (as_key true q p))
    by ih true false p q = rw (p, q) ih
    by ih false true p q =
        let none : found key entries ≡ [] = none_found key entries (as_key false q p) in
        let left : found key (last_entries entries) ≡ [] = last_or-none _ (ih ∙ ap (last_or None) none) in
        rw (p, q) (ap (last_or (Some entry.1)) left ∙ sym (ap (last_or (Some entry.1)) none))
    by ih false false p q = rw (p, q) ih

-- ---- members of a oneof

true_false : (b : Bool) → b ≡ true → b ≡ false → ⊥
true_false b p q = cc

no_varint : (members : List (ℕ × ℕ)) (number n : ℕ) (body : Body) → has_member members number 0 ≡ true → has_member members n (wire_type body) ≡ false → cond (eqb n number) (number_of_body body) None ≡ None
no_varint members number n body is not = by (eqb n number) refl body not
  where
    by : (b : Bool) → eqb n number ≡ b → (body : Body) → has_member members n (wire_type body) ≡ false → cond (eqb n number) (number_of_body body) None ≡ None
    by false e body not = rw e refl
    by true e (Varint v) not = absurd (true_false (has_member members n 0) (subst (λ (k : ℕ). has_member members k 0 ≡ true) (sym (eqb-true n number e)) is) not)
    by true e (Eight v) not = rw e refl
    by true e (Octets from to) not = rw e refl
    by true e (Four v) not = rw e refl

no_octets : (message : List ℕ) (members : List (ℕ × ℕ)) (number n : ℕ) (body : Body) → has_member members number 2 ≡ true → has_member members n (wire_type body) ≡ false → cond (eqb n number) (octets_of_body message body) None ≡ None
no_octets message members number n body is not = by (eqb n number) refl body not
  where
    by : (b : Bool) → eqb n number ≡ b → (body : Body) → has_member members n (wire_type body) ≡ false → cond (eqb n number) (octets_of_body message body) None ≡ None
    by false e body not = rw e refl
    by true e (Octets from to) not = absurd (true_false (has_member members n 2) (subst (λ (k : ℕ). has_member members k 2 ≡ true) (sym (eqb-true n number e)) is) not)
    by true e (Varint v) not = rw e refl
    by true e (Eight v) not = rw e refl
    by true e (Four v) not = rw e refl

-- what is found among the members alone is what is found among all
among : {Y : Type 0} (h : Field → Option Y) (members : List (ℕ × ℕ)) → ((field : Field) → is_member members field ≡ false → h field ≡ None) → (fields : List Field) → filter_map h (filter (is_member members) fields) ≡ filter_map h fields
among h members none [] = refl
among h members none (field ∷ fields) = by (among h members none fields) (is_member members field) refl
  where
    by : filter_map h (filter (is_member members) fields) ≡ filter_map h fields → (b : Bool) → is_member members field ≡ b → filter_map h (filter (is_member members) (field ∷ fields)) ≡ filter_map h (field ∷ fields)
    by ih true e = rw e (ap (cons_option (h field)) ih)
    by ih false e = rw e (let nothing : h field ≡ None = none field e in rw nothing ih)

pub varints-members : (members : List (ℕ × ℕ)) (number : ℕ) (fields : List Field) → has_member members number 0 ≡ true → varints number (filter (is_member members) fields) ≡ varints number fields
varints-members members number fields is = among (varint_in number) members (λ field not. no_varint members number field.number field.body is not) fields

pub occurrences-members : (members : List (ℕ × ℕ)) (message : List ℕ) (number : ℕ) (fields : List Field) → has_member members number 2 ≡ true → occurrences message number (filter (is_member members) fields) ≡ occurrences message number fields
occurrences-members members message number fields is = among (octets_in message number) members (λ field not. no_octets message members number field.number field.body is not) fields
