-- The last run of a oneof's members, as fields are read one after the other.
use Rattle.std.proofs.Common.{◌≡◌, ℕ, ◌≤◌, Bool, true, false, ◌&&◌, ◌||◌, cond, eqb, List, [], ◌∷◌, ◌++◌, length, Option, Some, None, refl, sym, ap, ◌∙◌, subst, append_assoc, append-nil, ◌⊎◌, inl, inr}
use Rattle.std.specs.Prelude.{map, filter, IfSome}
use Rattle.std.specs.List.{list_all, list_any, concat}
use Rattle.std.proofs.lemmas.Bool.{eqb-true, eq-eqb}
use Rattle.std.proofs.lemmas.List.Folds.{list_all-append}
use Rattle.pb_wire.specs.declared.field.Field.{Field}
use Rattle.pb_wire.specs.declared.field.Body.{Body}
use Rattle.pb_wire.specs.declared.field.Body.TheVariants.{Varint, Eight, Octets, Four}
use Rattle.pb_wire.specs.Message.{wire_type}
use Rattle.pb_wire.specs.Values.{last_run, has_member, is_member, one_of, occurrences, joined_octets}
use Rattle.pb_wire.proofs.MapLemmas.{occurrences-members}
use Rattle.pb_message.specs.Fields.{fields_at, all_fields}
use Rattle.pb_message.specs.Values.{message_members, pieces_from, held_by, member_under}

abbrev has_number : ℕ → Field → Bool
has_number n field = eqb field.number n

by_bool : (b : Bool) → (b ≡ true) ⊎ (b ≡ false)
by_bool true = inl refl
by_bool false = inr refl

-- fields before one of another number are not in the last run
run_behind : (n : ℕ) (xs : List Field) (f : Field) (more : List Field) → list_all (has_number n) xs ≡ true
    → eqb f.number n ≡ false → last_run (xs ++ f ∷ more) ≡ last_run (f ∷ more)
run_behind n [] f more all other = refl
run_behind n (x ∷ xs) f more all other =
    let parts = both (eqb x.number n) (list_all (has_number n) xs) all in
    let same : x.number ≡ n = eqb-true x.number n parts.0 in
    let differs : eqb f.number x.number ≡ false = ap (λ (k : ℕ). eqb f.number k) same ∙ other in
    let whole : list_all (has_number x.number) (xs ++ f ∷ more) ≡ false =
    list_all-append (has_number x.number) xs (f ∷ more)
    ∙ ap (λ (b : Bool). list_all (has_number x.number) xs && (b && list_all (has_number x.number) more)) differs
    ∙ and_false (list_all (has_number x.number) xs) in
    ap (λ (b : Bool). cond b (x ∷ xs ++ f ∷ more) (last_run (xs ++ f ∷ more))) whole
    ∙ run_behind n xs f more parts.1 other
  where
    both : (a b : Bool) → (a && b) ≡ true → (a ≡ true) × (b ≡ true)
    both true true e = (refl, refl)
    both true false e = absurd cc
    both false b e = absurd cc

    and_false : (a : Bool) → (a && false) ≡ false
    and_false true = refl
    and_false false = refl

abbrev members_at : List ℕ → List ℕ → ℕ → List Field
members_at numbers octets place = filter (is_member (message_members numbers)) (fields_at octets place)

-- the run that begins at a place, as far as another place
pub record IsRun (numbers octets : List ℕ) (place number from : ℕ) : Type 0 where
  pub inside : from ≤ length octets
  pub is : has_member (message_members numbers) number 2 ≡ true
  pub first : Field
  pub others : List Field
  pub same : first.number ≡ number
  pub all : list_all (has_number number) others ≡ true
  pub run : members_at numbers octets from ≡ (first ∷ others) ++ members_at numbers octets place
  pub whole : one_of (message_members numbers) (all_fields octets) ≡ last_run (members_at numbers octets from)

abbrev pub RunSoFar : List ℕ → List ℕ → ℕ → Option (ℕ × ℕ) → Type 0
RunSoFar numbers octets place None =
    one_of (message_members numbers) (all_fields octets) ≡ last_run (members_at numbers octets place)
RunSoFar numbers octets place (Some run) = IsRun numbers octets place run.0 run.1

-- what a field adds to the members
added : (numbers octets : List ℕ) (place : ℕ) (f : Field) (next : ℕ) (b : Bool)
    → is_member (message_members numbers) f ≡ b → fields_at octets place ≡ f ∷ fields_at octets next
    → members_at numbers octets place ≡ cond b (f ∷ members_at numbers octets next) (members_at numbers octets next)
added numbers octets place f next b is e =
    ap (filter (is_member (message_members numbers))) e
    ∙ ap (λ (b : Bool). cond b (f ∷ members_at numbers octets next) (members_at numbers octets next)) is

pub RunSoFar-skip : (numbers octets : List ℕ) (place : ℕ) (f : Field) (next : ℕ) (run : Option (ℕ × ℕ))
    → is_member (message_members numbers) f ≡ false → fields_at octets place ≡ f ∷ fields_at octets next
    → RunSoFar numbers octets place run → RunSoFar numbers octets next run
RunSoFar-skip numbers octets place f next None is e r =
    r ∙ ap last_run (added numbers octets place f next false is e)
RunSoFar-skip numbers octets place f next (Some run) is e r = record {
  inside = r.inside;
  is = r.is;
  first = r.first;
  others = r.others;
  same = r.same;
  all = r.all;
  run = r.run ∙ ap (λ (fs : List Field). (r.first ∷ r.others) ++ fs) (added numbers octets place f next false is e);
  whole = r.whole;
}

-- a message has wire type 2
kind_of_member : (numbers : List ℕ) (number kind : ℕ) → has_member (message_members numbers) number kind ≡ true
    → kind ≡ 2
kind_of_member [] number kind is = absurd cc
kind_of_member (n ∷ numbers) number kind is =
    elim (by_bool (eqb n number && eqb 2 kind)) [
      | inl here ↦ sym (eqb-true 2 kind (right (eqb n number) (eqb 2 kind) here))
      | inr none ↦ kind_of_member numbers number kind (later (eqb n number && eqb 2 kind) none is)
    ]
  where
    right : (a b : Bool) → (a && b) ≡ true → b ≡ true
    right true b e = e
    right false b e = absurd cc

    later : (a : Bool) → a ≡ false → (a || has_member (message_members numbers) number kind) ≡ true
        → has_member (message_members numbers) number kind ≡ true
    later true e h = absurd cc
    later false e h = h

of_member : (numbers : List ℕ) (f : Field) → is_member (message_members numbers) f ≡ true
    → has_member (message_members numbers) f.number 2 ≡ true
of_member numbers f is =
    subst (λ (k : ℕ). has_member (message_members numbers) f.number k ≡ true)
    (kind_of_member numbers f.number (wire_type f.body) is) is

new_run : (numbers octets : List ℕ) (place : ℕ) (f : Field) (next : ℕ) → place ≤ length octets
    → is_member (message_members numbers) f ≡ true → fields_at octets place ≡ f ∷ fields_at octets next
    → one_of (message_members numbers) (all_fields octets) ≡ last_run (members_at numbers octets place)
    → IsRun numbers octets next f.number place
new_run numbers octets place f next le is e whole = record {
  inside = le;
  is = of_member numbers f is;
  first = f;
  others = [];
  same = refl;
  all = refl;
  run = added numbers octets place f next true is e;
  whole = whole;
}

longer_run : (numbers octets : List ℕ) (place : ℕ) (f : Field) (next number from : ℕ)
    → is_member (message_members numbers) f ≡ true → fields_at octets place ≡ f ∷ fields_at octets next
    → f.number ≡ number → IsRun numbers octets place number from → IsRun numbers octets next number from
longer_run numbers octets place f next number from is e same r = record {
  inside = r.inside;
  is = r.is;
  first = r.first;
  others = r.others ++ f ∷ [];
  same = r.same;
  all = list_all-append (has_number number) r.others (f ∷ [])
      ∙ ap (λ (b : Bool). b && (eqb f.number number && true)) r.all
      ∙ ap (λ (b : Bool). b && true) (eq-eqb f.number number same);
  run = r.run ∙ ap (λ (fs : List Field). (r.first ∷ r.others) ++ fs) (added numbers octets place f next true is e)
      ∙ sym (append_assoc (r.first ∷ r.others) (f ∷ []) (members_at numbers octets next));
  whole = r.whole;
}

behind_run : (numbers octets : List ℕ) (place : ℕ) (f : Field) (next number from : ℕ)
    → is_member (message_members numbers) f ≡ true → fields_at octets place ≡ f ∷ fields_at octets next
    → eqb f.number number ≡ false → IsRun numbers octets place number from
    → one_of (message_members numbers) (all_fields octets) ≡ last_run (members_at numbers octets place)
behind_run numbers octets place f next number from is e other r =
    let here = added numbers octets place f next true is e in
    let all : list_all (has_number number) (r.first ∷ r.others) ≡ true =
    ap (λ (b : Bool). b && list_all (has_number number) r.others) (eq-eqb r.first.number number r.same) ∙ r.all in
    r.whole ∙ ap last_run (r.run ∙ ap (λ (fs : List Field). (r.first ∷ r.others) ++ fs) here)
    ∙ run_behind number (r.first ∷ r.others) f (members_at numbers octets next) all other
    ∙ ap last_run (sym here)

pub RunSoFar-member : (numbers octets : List ℕ) (place : ℕ) (f : Field) (next : ℕ) (run : Option (ℕ × ℕ)) (now : ℕ × ℕ)
    → place ≤ length octets → is_member (message_members numbers) f ≡ true
    → fields_at octets place ≡ f ∷ fields_at octets next → now.0 ≡ f.number
    → ((at : ℕ) → run ≡ Some (f.number, at) → now.1 ≡ at)
    → (((at : ℕ) → run ≡ Some (f.number, at) → ⊥) → now.1 ≡ place)
    → RunSoFar numbers octets place run → RunSoFar numbers octets next (Some now)
RunSoFar-member numbers octets place f next run now le is e number same other r =
    subst (λ (n : ℕ). IsRun numbers octets next n now.1) (sym number) (by_run run same other r)
  where
    by_run : (run : Option (ℕ × ℕ)) → ((at : ℕ) → run ≡ Some (f.number, at) → now.1 ≡ at)
        → (((at : ℕ) → run ≡ Some (f.number, at) → ⊥) → now.1 ≡ place)
        → RunSoFar numbers octets place run → IsRun numbers octets next f.number now.1
    by_run None same other r =
        let at : now.1 ≡ place = other (λ at h. absurd cc) in
        subst (λ (p : ℕ). IsRun numbers octets next f.number p) (sym at) (new_run numbers octets place f next le is e r)
    by_run (Some run) same other r =
        elim (by_bool (eqb f.number run.0)) [
          | inl equal ↦
              let n : f.number ≡ run.0 = eqb-true f.number run.0 equal in
              let at : now.1 ≡ run.1 = same run.1 (ap (λ (n : ℕ). Some (n, run.1)) (sym n)) in
              subst (λ (p : ℕ). IsRun numbers octets next f.number p) (sym at)
              (subst (λ (n : ℕ). IsRun numbers octets next n run.1) (sym n) (longer_run numbers octets place f next run.0 run.1 is e n r))
          | inr not ↦
              let at : now.1 ≡ place = other (λ at h. differ run at not h) in
              subst (λ (p : ℕ). IsRun numbers octets next f.number p) (sym at)
              (new_run numbers octets place f next le is e (behind_run numbers octets place f next run.0 run.1 is e not r))
        ]
      where
        first_or : Option (ℕ × ℕ) → ℕ
        first_or None = 0
        first_or (Some p) = p.0

        first_of : (a b : ℕ × ℕ) → ◌≡◌ {A = Option (ℕ × ℕ)} (Some a) (Some b) → a.0 ≡ b.0
        first_of a b h = ap (λ (o : Option (ℕ × ℕ)). first_or o) h

        differ : (run : ℕ × ℕ) (at : ℕ) → eqb f.number run.0 ≡ false → ◌≡◌ {A = Option (ℕ × ℕ)} (Some run) (Some (f.number, at)) → ⊥
        differ run at not h =
            let same : run.0 ≡ f.number = first_of run (f.number, at) h in
            let test : eqb f.number run.0 ≡ true = eq-eqb f.number run.0 (sym same) in
            absurd cc

pub held_none : (numbers octets : List ℕ) (place : ℕ) → fields_at octets place ≡ []
    → RunSoFar numbers octets place None → member_under numbers octets ≡ None
held_none numbers octets place end r =
    ap (held_by octets) (r ∙ ap (λ (fs : List Field). last_run (filter (is_member (message_members numbers)) fs)) end)

pub held_some : (numbers octets : List ℕ) (place number from : ℕ) → fields_at octets place ≡ []
    → IsRun numbers octets place number from
    → member_under numbers octets ≡ Some (number, concat (pieces_from number octets from))
held_some numbers octets place number from end r =
    let members : List (ℕ × ℕ) = message_members numbers in
    let none : members_at numbers octets place ≡ [] = ap (filter (is_member members)) end in
    let run : members_at numbers octets from ≡ r.first ∷ r.others =
    r.run ∙ ap (λ (fs : List Field). (r.first ∷ r.others) ++ fs) none ∙ append-nil (r.first ∷ r.others) in
    let all : list_all (has_number r.first.number) r.others ≡ true =
    subst (λ (n : ℕ). list_all (has_number n) r.others ≡ true) (sym r.same) r.all in
    let last : last_run (r.first ∷ r.others) ≡ r.first ∷ r.others =
    ap (λ (b : Bool). cond b (r.first ∷ r.others) (last_run r.others)) all in
    let held : one_of members (all_fields octets) ≡ r.first ∷ r.others = r.whole ∙ ap last_run run ∙ last in
    let pieces : occurrences octets number (r.first ∷ r.others) ≡ pieces_from number octets from =
    ap (occurrences octets number) (sym run) ∙ occurrences-members members octets number (fields_at octets from) r.is in
    ap (held_by octets) held ∙ ap (λ (n : ℕ). Some (n, joined_octets octets n (r.first ∷ r.others))) r.same
    ∙ ap (λ (ps : List (List ℕ)). Some (number, concat ps)) pieces

pub held_any : (numbers octets : List ℕ) (place : ℕ) (run : Option (ℕ × ℕ)) → fields_at octets place ≡ []
    → RunSoFar numbers octets place run
    → IfSome run (λ x. member_under numbers octets ≡ Some (x.0, concat (pieces_from x.0 octets x.1)))
held_any numbers octets place None end r = tt
held_any numbers octets place (Some run) end r = held_some numbers octets place run.0 run.1 end r

-- ---- the test

and_true : (b : Bool) → (b && true) ≡ b
and_true true = refl
and_true false = refl

and_false : (b : Bool) → (b && false) ≡ false
and_false true = refl
and_false false = refl

pub octets_member : (numbers : List ℕ) (number : ℕ)
    → has_member (message_members numbers) number 2 ≡ list_any (λ n. eqb n number) numbers
octets_member [] number = refl
octets_member (n ∷ numbers) number =
    ap (λ (b : Bool). b || has_member (message_members numbers) number 2) (and_true (eqb n number))
    ∙ ap (λ (b : Bool). eqb n number || b) (octets_member numbers number)

pub other_member : (numbers : List ℕ) (number kind : ℕ) → eqb 2 kind ≡ false
    → has_member (message_members numbers) number kind ≡ false
other_member [] number kind e = refl
other_member (n ∷ numbers) number kind e =
    ap (λ (b : Bool). (eqb n number && b) || has_member (message_members numbers) number kind) e
    ∙ ap (λ (b : Bool). b || has_member (message_members numbers) number kind) (and_false (eqb n number))
    ∙ other_member numbers number kind e
