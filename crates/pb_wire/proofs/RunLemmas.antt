-- The last run of a oneof's members, found from the front.
use Rattle.std.proofs.Common.{◌≡◌, ℕ, zero, suc, ◌+◌, ◌<◌, ◌≤◌, Bool, true, false, ◌&&◌, cond, eqb, List, [], ◌∷◌, ◌++◌, length, get_or, take, drop, Option, Some, None, refl, sym, ap, ◌∙◌, subst, arith, append-nil, ◌⊎◌, inl, inr}
use Rattle.std.specs.Prelude.{map, filter}
use Rattle.std.specs.List.{list_all, last_or}
use Rattle.std.proofs.lemmas.Bool.{eqb-true, eq-eqb}
use Rattle.std.proofs.lemmas.List.{take_more, take_all, drop-append-le, length-take, append_assoc}
use Rattle.std.proofs.lemmas.List.Elements.{filter-append}
use Rattle.std.proofs.lemmas.List.Folds.{list_all-append}
use Rattle.pb_wire.specs.declared.field.Field.{Field}
use Rattle.pb_wire.specs.Values.{last_run, is_member, one_of}

-- the number of the last field
abbrev pub last_number : Option ℕ → List Field → Option ℕ
last_number o [] = o
last_number o (field ∷ fields) = last_number (Some field.number) fields

pub last_number-push : (o : Option ℕ) (xs : List Field) (f : Field) → last_number o (xs ++ f ∷ []) ≡ Some f.number
last_number-push o [] f = refl
last_number-push o (x ∷ xs) f = last_number-push (Some x.number) xs f

abbrev has_number : ℕ → Field → Bool
has_number n field = eqb field.number n

-- where all have one number the last has it
all_last : (n : ℕ) (xs : List Field) → list_all (has_number n) xs ≡ true → last_number (Some n) xs ≡ Some n
all_last n [] all = refl
all_last n (x ∷ xs) all =
    let p = both (eqb x.number n) (list_all (has_number n) xs) all in
    let same : x.number ≡ n = eqb-true x.number n p.0 in
    ap (λ (k : ℕ). last_number (Some k) xs) same ∙ all_last n xs p.1
  where
    both : (a b : Bool) → (a && b) ≡ true → (a ≡ true) × (b ≡ true)
    both true true e = (refl, refl)
    both true false e = absurd cc
    both false b e = absurd cc

by_bool : (b : Bool) → (b ≡ true) ⊎ (b ≡ false)
by_bool true = inl refl
by_bool false = inr refl

some_same : (m n : ℕ) → ◌≡◌ {A = Option ℕ} (Some m) (Some n) → m ≡ n
some_same m n e = cc

-- one field more, of the number of the last
pub last_run-same : (x : Field) (xs : List Field) (f : Field) → last_number (Some x.number) xs ≡ Some f.number → last_run (x ∷ xs ++ f ∷ []) ≡ last_run (x ∷ xs) ++ f ∷ []
last_run-same x [] f e =
    let same : f.number ≡ x.number = sym (some_same _ _ e) in
    let test : eqb f.number x.number ≡ true = eq-eqb _ _ same in
    rw test refl
last_run-same x (y ∷ ys) f e =
    let xs : List Field = y ∷ ys in
    elim (by_bool (list_all (has_number x.number) (y ∷ ys))) [
      | inl all ↦
          let same : f.number ≡ x.number = sym (some_same _ _ (sym (all_last x.number (y ∷ ys) all) ∙ e)) in
          let test : eqb f.number x.number ≡ true = eq-eqb _ _ same in
          let whole : list_all (has_number x.number) ((y ∷ ys) ++ f ∷ []) ≡ true =
          list_all-append (has_number x.number) (y ∷ ys) (f ∷ []) ∙ ap (λ (b : Bool). b && (eqb f.number x.number && true)) all ∙ ap (λ (b : Bool). b && true) test in
          ap (λ (b : Bool). cond b (x ∷ (y ∷ ys) ++ f ∷ []) (last_run ((y ∷ ys) ++ f ∷ []))) whole
          ∙ sym (ap (λ (b : Bool). cond b (x ∷ y ∷ ys) (last_run (y ∷ ys)) ++ f ∷ []) all)
      | inr none ↦
          let whole : list_all (has_number x.number) ((y ∷ ys) ++ f ∷ []) ≡ false =
          list_all-append (has_number x.number) (y ∷ ys) (f ∷ []) ∙ ap (λ (b : Bool). b && (eqb f.number x.number && true)) none in
          ap (λ (b : Bool). cond b (x ∷ (y ∷ ys) ++ f ∷ []) (last_run ((y ∷ ys) ++ f ∷ []))) whole
          ∙ last_run-same y ys f e
          ∙ sym (ap (λ (b : Bool). cond b (x ∷ y ∷ ys) (last_run (y ∷ ys)) ++ f ∷ []) none)
    ]

-- and of another number
pub last_run-other : (o : Option ℕ) (xs : List Field) (f : Field) → (last_number o xs ≡ Some f.number → ⊥) → last_run (xs ++ f ∷ []) ≡ f ∷ []
last_run-other o [] f other = refl
last_run-other o (x ∷ xs) f other =
    let whole : list_all (has_number x.number) (xs ++ f ∷ []) ≡ false = list_all-append (has_number x.number) xs (f ∷ []) ∙ not_all (list_all (has_number x.number) xs) (eqb f.number x.number) refl refl in
    ap (λ (b : Bool). cond b (x ∷ xs ++ f ∷ []) (last_run (xs ++ f ∷ []))) whole ∙ last_run-other (Some x.number) xs f other
  where
    not_all : (a b : Bool) → list_all (has_number x.number) xs ≡ a → eqb f.number x.number ≡ b → (a && (b && true)) ≡ false
    not_all false b p q = refl
    not_all true false p q = refl
    not_all true true p q = absurd (other (all_last x.number xs p ∙ ap (λ (n : ℕ). Some n) (sym (eqb-true f.number x.number q))))

-- the members from a place on are the last run of those so far
pub record Run (members : List (ℕ × ℕ)) (fields : List Field) (i run : ℕ) (last : Option ℕ) : Type 0 where
  pub within : run ≤ i
  pub short : i ≤ length fields
  pub is : filter (is_member members) (drop run (take i fields)) ≡ last_run (filter (is_member members) (take i fields))
  pub last_is : last ≡ last_number None (filter (is_member members) (take i fields))

pub Run-none : (members : List (ℕ × ℕ)) (fields : List Field) → Run members fields 0 0 None
Run-none members fields = record { within = omega arith; short = omega arith; is = refl; last_is = refl }

-- what one field more adds to the members
more_members : (members : List (ℕ × ℕ)) (fields : List Field) (i : ℕ) (d : Field) (b : Bool) → i < length fields → is_member members (get_or fields i d) ≡ b
    → filter (is_member members) (take (i + 1) fields) ≡ filter (is_member members) (take i fields) ++ cond b (get_or fields i d ∷ []) []
more_members members fields i d b lt e =
    ap (filter (is_member members)) (take_more fields i d lt) ∙ filter-append (is_member members) (take i fields) (get_or fields i d ∷ [])
    ∙ ap (λ (more : List Field). filter (is_member members) (take i fields) ++ more) (one b e)
  where
    one : (b : Bool) → is_member members (get_or fields i d) ≡ b → filter (is_member members) (get_or fields i d ∷ []) ≡ cond b (get_or fields i d ∷ []) []
    one true e = rw e refl
    one false e = rw e refl

more_after : (members : List (ℕ × ℕ)) (fields : List Field) (i run : ℕ) (d : Field) (b : Bool) → i < length fields → run ≤ i → is_member members (get_or fields i d) ≡ b
    → filter (is_member members) (drop run (take (i + 1) fields)) ≡ filter (is_member members) (drop run (take i fields)) ++ cond b (get_or fields i d ∷ []) []
more_after members fields i run d b lt le e =
    let enough : run ≤ length (take i fields) = omega (arith, length-take i fields) in
    ap (λ (fs : List Field). filter (is_member members) (drop run fs)) (take_more fields i d lt)
    ∙ ap (filter (is_member members)) (drop-append-le run (take i fields) (get_or fields i d ∷ []) enough)
    ∙ filter-append (is_member members) (drop run (take i fields)) (get_or fields i d ∷ [])
    ∙ ap (λ (more : List Field). filter (is_member members) (drop run (take i fields)) ++ more) (one b e)
  where
    one : (b : Bool) → is_member members (get_or fields i d) ≡ b → filter (is_member members) (get_or fields i d ∷ []) ≡ cond b (get_or fields i d ∷ []) []
    one true e = rw e refl
    one false e = rw e refl

pub Run-skip : (members : List (ℕ × ℕ)) (fields : List Field) (i run : ℕ) (last : Option ℕ) (d : Field) → i < length fields → is_member members (get_or fields i d) ≡ false → Run members fields i run last → Run members fields (i + 1) run last
Run-skip members fields i run last d lt e r =
    let none = more_members members fields i d false lt e ∙ append-nil _ in
    record {
      within = (let w = r.within in omega arith);
      short = omega arith;
      is = more_after members fields i run d false lt r.within e ∙ append-nil _ ∙ r.is ∙ ap last_run (sym none);
      last_is = r.last_is ∙ ap (last_number None) (sym none);
    }

pub Run-same : (members : List (ℕ × ℕ)) (fields : List Field) (i run : ℕ) (last : Option ℕ) (d : Field) → i < length fields → is_member members (get_or fields i d) ≡ true → last ≡ Some (get_or fields i d).number
    → Run members fields i run last → Run members fields (i + 1) run (Some (get_or fields i d).number)
Run-same members fields i run last d lt e same r =
    let one = more_members members fields i d true lt e in
    record {
      within = (let w = r.within in omega arith);
      short = omega arith;
      is = more_after members fields i run d true lt r.within e ∙ ap (λ (fs : List Field). fs ++ get_or fields i d ∷ []) r.is
          ∙ joined (filter (is_member members) (take i fields)) (get_or fields i d) (sym r.last_is ∙ same) ∙ ap last_run (sym one);
      last_is = sym (ap (last_number None) one ∙ last_number-push None (filter (is_member members) (take i fields)) (get_or fields i d));
    }
  where
    joined : (xs : List Field) (f : Field) → last_number None xs ≡ Some f.number → last_run xs ++ f ∷ [] ≡ last_run (xs ++ f ∷ [])
    joined [] f e = refl
    joined (x ∷ xs) f e = sym (last_run-same x xs f e)

pub Run-new : (members : List (ℕ × ℕ)) (fields : List Field) (i run : ℕ) (last : Option ℕ) (d : Field) → i < length fields → is_member members (get_or fields i d) ≡ true → (last ≡ Some (get_or fields i d).number → ⊥)
    → Run members fields i run last → Run members fields (i + 1) i (Some (get_or fields i d).number)
Run-new members fields i run last d lt e other r =
    let one = more_members members fields i d true lt e in
    record {
      within = omega arith;
      short = omega arith;
      is = more_after members fields i i d true lt (omega arith) e ∙ ap (λ (fs : List Field). filter (is_member members) fs ++ get_or fields i d ∷ []) (none_left i fields)
          ∙ sym (last_run-other None (filter (is_member members) (take i fields)) (get_or fields i d) (λ h. other (r.last_is ∙ h))) ∙ ap last_run (sym one);
      last_is = sym (ap (last_number None) one ∙ last_number-push None (filter (is_member members) (take i fields)) (get_or fields i d));
    }
  where
    none_left : (i : ℕ) (fs : List Field) → drop i (take i fs) ≡ []
    none_left zero fs = refl
    none_left (suc i) [] = refl
    none_left (suc i) (f ∷ fs) = none_left i fs

pub Run-member : (members : List (ℕ × ℕ)) (fields : List Field) (i run new : ℕ) (last : Option ℕ) (d : Field) → i < length fields → is_member members (get_or fields i d) ≡ true
    → (last ≡ Some (get_or fields i d).number → new ≡ run) → ((last ≡ Some (get_or fields i d).number → ⊥) → new ≡ i)
    → Run members fields i run last → Run members fields (i + 1) new (Some (get_or fields i d).number)
Run-member members fields i run new last d lt e same other r =
    elim (decided last (get_or fields i d).number) [
      | inl is ↦ subst (λ (n : ℕ). Run members fields (i + 1) n (Some (get_or fields i d).number)) (sym (same is)) (Run-same members fields i run last d lt e is r)
      | inr not ↦ subst (λ (n : ℕ). Run members fields (i + 1) n (Some (get_or fields i d).number)) (sym (other not)) (Run-new members fields i run last d lt e not r)
    ]
  where
    decided : (o : Option ℕ) (n : ℕ) → (o ≡ Some n) ⊎ (o ≡ Some n → ⊥)
    decided None n = inr (λ h. absurd cc)
    decided (Some m) n = elim (by_bool (eqb m n)) [
      | inl same ↦ inl (ap (λ (k : ℕ). Some k) (eqb-true m n same))
      | inr other ↦ inr (λ h. let is : eqb m n ≡ true = eq-eqb m n (some_same m n h) in let no : eqb m n ≡ false = other in absurd cc)
    ]

pub Run-as : (members : List (ℕ × ℕ)) (fields : List Field) (i run new : ℕ) (last now : Option ℕ) → new ≡ run → now ≡ last → Run members fields i run last → Run members fields i new now
Run-as members fields i run new last now e f r =
    subst (λ (n : ℕ). Run members fields i n now) (sym e) (subst (λ (o : Option ℕ). Run members fields i run o) (sym f) r)

pub Run-end : (members : List (ℕ × ℕ)) (fields : List Field) (i run : ℕ) (last : Option ℕ) → length fields ≤ i → Run members fields i run last → filter (is_member members) (drop run fields) ≡ one_of members fields
Run-end members fields i run last le r =
    let all : take i fields ≡ fields = take_all i fields le in
    ap (λ (fs : List Field). filter (is_member members) (drop run fs)) (sym all) ∙ r.is ∙ ap (λ (fs : List Field). last_run (filter (is_member members) fs)) all
