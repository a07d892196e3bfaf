-- What it is that octets of a form are read: what is read is spelled so, and what is spelled so is read, whatever follows it.
use Rattle.std.proofs.Common.{◌≡◌, ℕ, zero, suc, ◌+◌, ◌^◌, ◌<◌, ◌≤◌, Bool, true, false, cond, ltb, List, [], ◌∷◌, ◌++◌, length, get_or, take, drop, Option, Some, None, refl, sym, ap, subst, ◌∙◌, append_assoc, arith}
use Rattle.std.specs.List.{flat_map, AllByRecursion}
use Rattle.std.specs.Int.{Width, w16, w32, w64, byte_len, from_be_bytes, to_be_bytes}
use Rattle.std.proofs.lemmas.Bool.{ltb-false, le-ltb}
use Rattle.std.proofs.lemmas.List.{take_at, drop_at, take-append-drop, length-append, length-take, get_or-take, get_or_past, get_or-append-add}
use Rattle.std.proofs.lemmas.Bool.{cases_lt}
use Rattle.std.proofs.lemmas.Nat.{be_bytes_2, be_bytes_4, be_bytes_8, from_be_bytes-to_be_bytes_2, from_be_bytes-to_be_bytes_4, from_be_bytes-to_be_bytes_8}
use Rattle.std.proofs.Common.{inl, inr}
use Rattle.base_lists.specs.Options.{◌>>=◌}
use Rattle.journal_record.specs.inner.Reading.{number_at, many_at, listed_at}

abbrev pub IsBytes : List ℕ → Type 0
IsBytes octets = (i : ℕ) → get_or octets i 0 < 256

IsBytes-take : (n : ℕ) (octets : List ℕ) → IsBytes octets → IsBytes (take n octets)
IsBytes-take n octets h i =
    elim (cases_lt i n) [
      | inl lt ↦ rw (get_or-take n octets i 0 lt) (h i)
      | inr le ↦ rw (get_or_past (take n octets) i 0 (omega (arith, length-take n octets))) (omega arith)
    ]

pub IsBytes-rest : (octets front rest : List ℕ) → IsBytes octets → octets ≡ front ++ rest → IsBytes rest
IsBytes-rest octets front rest h parts i =
    subst (λ (n : ℕ). n < 256) (ap (λ (l : List ℕ). get_or l (length front + i) 0) parts ∙ get_or-append-add front rest i 0) (h (length front + i))

-- ---- steps

pub bind_some : {A B : Type 0} (r : Option A) (f : A → Option B) (y : B) → (r >>= f) ≡ Some y → (x : A) × (r ≡ Some x) × (f x ≡ Some y)
bind_some (Some x) f y e = (x, refl, e)
bind_some None f y e = absurd cc

abbrev done : {A : Type 0} → A → Option A
done x = Some x

pub some_is : {A : Type 0} (x y : A) → done x ≡ done y → x ≡ y
some_is x y e = cc

-- a test that did not fail
pub passed : {A : Type 0} (b : Bool) (r : Option A) (y : A) → cond b r None ≡ Some y → (b ≡ true) × (r ≡ Some y)
passed true r y e = (refl, e)
passed false r y e = absurd cc

pub failed_not : {A : Type 0} (b : Bool) (r : Option A) (y : A) → cond b None r ≡ Some y → (b ≡ false) × (r ≡ Some y)
failed_not true r y e = absurd cc
failed_not false r y e = (refl, e)

-- what was taken from the front of the octets
pub record Took {A : Type 0} (spelling : A → List ℕ) (fits : A → Type 0) (octets : List ℕ) (x : A) (rest : List ℕ) : Type 0 where
  pub parts : octets ≡ spelling x ++ rest
  pub is : fits x

pub record Reads {A : Type 0} (spelling : A → List ℕ) (fits : A → Type 0) (at : List ℕ → Option (A × List ℕ)) : Type 0 where
  pub takes : (octets : List ℕ) (x : A) (rest : List ℕ) → IsBytes octets → at octets ≡ Some (x, rest) → Took spelling fits octets x rest
  pub again : (x : A) (rest : List ℕ) → fits x → length (spelling x) < 2 ^ 32 → at (spelling x ++ rest) ≡ Some (x, rest)

-- ---- forms of other forms

pub turned : {A : Type 0} (spelling : A → List ℕ) (fits : A → Type 0) (octets : List ℕ) (x y : A) (r rest : List ℕ) → ◌≡◌ {A = Option (A × List ℕ)} (Some (x, r)) (Some (y, rest)) → Took spelling fits octets x r → Took spelling fits octets y rest
turned {A} spelling fits octets x y r rest e t =
    let same : ◌≡◌ {A = A × List ℕ} (x, r) (y, rest) = some_is (x, r) (y, rest) e in
    subst (λ (p : A × List ℕ). Took spelling fits octets p.0 p.1) same t

-- other words for what fits
pub said_so : {A : Type 0} (spelling : A → List ℕ) (f g : A → Type 0) (at : List ℕ → Option (A × List ℕ)) → ((x : A) → f x → g x) → ((x : A) → g x → f x) → Reads spelling f at → Reads spelling g at
said_so spelling f g at to back r = record {
  takes = λ octets x rest bytes e. let t = r.takes octets x rest bytes e in record { parts = t.parts; is = to x t.is };
  again = λ x rest is short. r.again x rest (back x is) short;
}

-- a form of which some are taken
pub guarded : {A : Type 0} (spelling : A → List ℕ) (fits : A → Type 0) (at : List ℕ → Option (A × List ℕ)) (test : A → Bool) → Reads spelling fits at → Reads spelling (λ x. fits x × (test x ≡ true)) (λ octets. at octets >>= λ x. cond (test x.0) (Some x) None)
guarded {A} spelling fits at test r = record {
  takes = λ octets x rest bytes e.
      let b = bind_some (at octets) (λ y. cond (test y.0) (Some y) None) (x, rest) e in
      let g = passed (test b.0.0) (Some b.0) (x, rest) b.2 in
      let t = r.takes octets b.0.0 b.0.1 bytes b.1 in
      turned spelling (λ y. fits y × (test y ≡ true)) octets b.0.0 x b.0.1 rest g.1 (record { parts = t.parts; is = (t.is, g.0) });
  again = λ x rest is short.
      ap (λ (o : Option (A × List ℕ)). o >>= λ y. cond (test y.0) (Some y) None) (r.again x rest is.0 short) ∙ ap (λ (b : Bool). cond b (Some (x, rest)) None) is.1;
}

-- one form behind another
pub sequence : {A B C : Type 0} (sa : A → List ℕ) (fa : A → Type 0) (ra : List ℕ → Option (A × List ℕ)) (sb : B → List ℕ) (fb : B → Type 0) (rb : List ℕ → Option (B × List ℕ))
    (make : A → B → C) (first : C → A) (second : C → B) (fits : C → Type 0)
    → ((c : C) → make (first c) (second c) ≡ c) → ((a : A) (b : B) → first (make a b) ≡ a) → ((a : A) (b : B) → second (make a b) ≡ b)
    → ((c : C) → fits c → fa (first c) × fb (second c)) → ((a : A) (b : B) → fa a → fb b → fits (make a b))
    → Reads sa fa ra → Reads sb fb rb
    → Reads (λ c. sa (first c) ++ sb (second c)) fits (λ octets. ra octets >>= λ a. rb a.1 >>= λ b. Some (make a.0 b.0, b.1))
sequence {A} {B} {C} sa fa ra sb fb rb make first second fits whole is_first is_second split join p q = record {
  takes = λ octets x rest bytes e.
      let a = bind_some (ra octets) (λ a. rb a.1 >>= λ b. Some (make a.0 b.0, b.1)) (x, rest) e in
      let b = bind_some (rb a.0.1) (λ b. Some (make a.0.0 b.0, b.1)) (x, rest) a.2 in
      let t = p.takes octets a.0.0 a.0.1 bytes a.1 in
      let u = q.takes a.0.1 b.0.0 b.0.1 (IsBytes-rest octets (sa a.0.0) a.0.1 bytes t.parts) b.1 in
      turned (λ (c : C). sa (first c) ++ sb (second c)) fits octets (make a.0.0 b.0.0) x b.0.1 rest b.2 (both octets a.0.0 b.0.0 a.0.1 b.0.1 t u);
  again = λ x rest is short.
      let fit = split x is in
      let sum : length (sa (first x)) + length (sb (second x)) ≡ length (sa (first x) ++ sb (second x)) = sym (length-append (sa (first x)) (sb (second x))) in
      ap (λ (o : List ℕ). ra o >>= λ a. rb a.1 >>= λ b. Some (make a.0 b.0, b.1)) (append_assoc (sa (first x)) (sb (second x)) rest)
      ∙ ap (λ (o : Option (A × List ℕ)). o >>= λ a. rb a.1 >>= λ b. Some (make a.0 b.0, b.1)) (p.again (first x) (sb (second x) ++ rest) fit.0 (omega arith))
      ∙ ap (λ (o : Option (B × List ℕ)). o >>= λ b. Some (make (first x) b.0, b.1)) (q.again (second x) rest fit.1 (omega arith))
      ∙ ap (λ (c : C). done (c, rest)) (whole x);
}
  where
    both : (octets : List ℕ) (a : A) (b : B) (between rest : List ℕ) → Took sa fa octets a between → Took sb fb between b rest → Took (λ (c : C). sa (first c) ++ sb (second c)) fits octets (make a b) rest
    both octets a b between rest t u = record {
      parts = t.parts ∙ ap (λ (l : List ℕ). sa a ++ l) u.parts ∙ sym (append_assoc (sa a) (sb b) rest)
          ∙ ap (λ (y : A). (sa y ++ sb b) ++ rest) (sym (is_first a b)) ∙ ap (λ (y : B). (sa (first (make a b)) ++ sb y) ++ rest) (sym (is_second a b));
      is = join a b t.is u.is;
    }

-- three forms, one behind another
pub sequence3 : {A B C D : Type 0} (sa : A → List ℕ) (fa : A → Type 0) (ra : List ℕ → Option (A × List ℕ)) (sb : B → List ℕ) (fb : B → Type 0) (rb : List ℕ → Option (B × List ℕ)) (sc : C → List ℕ) (fc : C → Type 0) (rc : List ℕ → Option (C × List ℕ))
    (make : A → B → C → D) (first : D → A) (second : D → B) (third : D → C) (fits : D → Type 0)
    → ((d : D) → fits d → make (first d) (second d) (third d) ≡ d) → ((a : A) (b : B) (c : C) → first (make a b c) ≡ a) → ((a : A) (b : B) (c : C) → second (make a b c) ≡ b) → ((a : A) (b : B) (c : C) → third (make a b c) ≡ c)
    → ((d : D) → fits d → fa (first d) × fb (second d) × fc (third d)) → ((a : A) (b : B) (c : C) → fa a → fb b → fc c → fits (make a b c))
    → Reads sa fa ra → Reads sb fb rb → Reads sc fc rc
    → Reads (λ d. sa (first d) ++ (sb (second d) ++ sc (third d))) fits (λ octets. ra octets >>= λ a. rb a.1 >>= λ b. rc b.1 >>= λ c. Some (make a.0 b.0 c.0, c.1))
sequence3 {A} {B} {C} {D} sa fa ra sb fb rb sc fc rc make first second third fits whole is_first is_second is_third split join p q s = record {
  takes = λ octets x rest bytes e.
      let a = bind_some (ra octets) (λ a. rb a.1 >>= λ b. rc b.1 >>= λ c. Some (make a.0 b.0 c.0, c.1)) (x, rest) e in
      let b = bind_some (rb a.0.1) (λ b. rc b.1 >>= λ c. Some (make a.0.0 b.0 c.0, c.1)) (x, rest) a.2 in
      let c = bind_some (rc b.0.1) (λ c. Some (make a.0.0 b.0.0 c.0, c.1)) (x, rest) b.2 in
      let t = p.takes octets a.0.0 a.0.1 bytes a.1 in
      let bytes1 = IsBytes-rest octets (sa a.0.0) a.0.1 bytes t.parts in
      let u = q.takes a.0.1 b.0.0 b.0.1 bytes1 b.1 in
      let v = s.takes b.0.1 c.0.0 c.0.1 (IsBytes-rest a.0.1 (sb b.0.0) b.0.1 bytes1 u.parts) c.1 in
      turned (λ (d : D). sa (first d) ++ (sb (second d) ++ sc (third d))) fits octets (make a.0.0 b.0.0 c.0.0) x c.0.1 rest c.2 (all_three octets a.0.0 b.0.0 c.0.0 a.0.1 b.0.1 c.0.1 t u v);
  again = λ x rest is short.
      let fit = split x is in
      let sum : length (sa (first x)) + length (sb (second x) ++ sc (third x)) ≡ length (sa (first x) ++ (sb (second x) ++ sc (third x))) = sym (length-append (sa (first x)) (sb (second x) ++ sc (third x))) in
      let sum2 : length (sb (second x)) + length (sc (third x)) ≡ length (sb (second x) ++ sc (third x)) = sym (length-append (sb (second x)) (sc (third x))) in
      let regrouped : (sa (first x) ++ (sb (second x) ++ sc (third x))) ++ rest ≡ sa (first x) ++ (sb (second x) ++ (sc (third x) ++ rest)) = append_assoc (sa (first x)) (sb (second x) ++ sc (third x)) rest ∙ ap (λ (l : List ℕ). sa (first x) ++ l) (append_assoc (sb (second x)) (sc (third x)) rest) in
      ap (λ (o : List ℕ). ra o >>= λ a. rb a.1 >>= λ b. rc b.1 >>= λ c. Some (make a.0 b.0 c.0, c.1)) regrouped
      ∙ ap (λ (o : Option (A × List ℕ)). o >>= λ a. rb a.1 >>= λ b. rc b.1 >>= λ c. Some (make a.0 b.0 c.0, c.1)) (p.again (first x) (sb (second x) ++ (sc (third x) ++ rest)) fit.0 (omega arith))
      ∙ ap (λ (o : Option (B × List ℕ)). o >>= λ b. rc b.1 >>= λ c. Some (make (first x) b.0 c.0, c.1)) (q.again (second x) (sc (third x) ++ rest) fit.1 (omega arith))
      ∙ ap (λ (o : Option (C × List ℕ)). o >>= λ c. Some (make (first x) (second x) c.0, c.1)) (s.again (third x) rest fit.2 (omega arith))
      ∙ ap (λ (d : D). done (d, rest)) (whole x is);
}
  where
    all_three : (octets : List ℕ) (a : A) (b : B) (c : C) (o1 o2 rest : List ℕ) → Took sa fa octets a o1 → Took sb fb o1 b o2 → Took sc fc o2 c rest → Took (λ (d : D). sa (first d) ++ (sb (second d) ++ sc (third d))) fits octets (make a b c) rest
    all_three octets a b c o1 o2 rest t u v = record {
      parts = t.parts ∙ ap (λ (l : List ℕ). sa a ++ l) (u.parts ∙ ap (λ (l : List ℕ). sb b ++ l) v.parts ∙ sym (append_assoc (sb b) (sc c) rest)) ∙ sym (append_assoc (sa a) (sb b ++ sc c) rest)
          ∙ ap (λ (y : A). (sa y ++ (sb b ++ sc c)) ++ rest) (sym (is_first a b c)) ∙ ap (λ (y : B). (sa (first (make a b c)) ++ (sb y ++ sc c)) ++ rest) (sym (is_second a b c))
          ∙ ap (λ (y : C). (sa (first (make a b c)) ++ (sb (second (make a b c)) ++ sc y)) ++ rest) (sym (is_third a b c));
      is = join a b c t.is u.is v.is;
    }

-- ---- numbers

pub record IsWide (w : Width) (limit : ℕ) : Type 0 where
  pub len : (n : ℕ) → length (to_be_bytes w n) ≡ byte_len w
  pub back : (octets : List ℕ) → length octets ≡ byte_len w → IsBytes octets → to_be_bytes w (from_be_bytes w octets) ≡ octets
  pub again : (n : ℕ) → n < limit → from_be_bytes w (to_be_bytes w n) ≡ n
  pub below : (octets : List ℕ) → IsBytes octets → from_be_bytes w octets < limit

pub wide16 : IsWide w16 (2 ^ 16)
wide16 = record {
  len = λ n. refl;
  back = λ octets len fits. be_bytes_2 octets _ len fits refl;
  again = λ n lt. from_be_bytes-to_be_bytes_2 n lt;
  below = λ octets fits. omega (arith, fits 0, fits 1);
}

pub wide32 : IsWide w32 (2 ^ 32)
wide32 = record {
  len = λ n. refl;
  back = λ octets len fits. be_bytes_4 octets _ len fits refl;
  again = λ n lt. from_be_bytes-to_be_bytes_4 n lt;
  below = λ octets fits. omega (arith, fits 0, fits 1, fits 2, fits 3);
}

pub wide64 : IsWide w64 (2 ^ 64)
wide64 = record {
  len = λ n. refl;
  back = λ octets len fits. be_bytes_8 octets _ len fits refl;
  again = λ n lt. from_be_bytes-to_be_bytes_8 n lt;
  below = λ octets fits. omega (arith, fits 0, fits 1, fits 2, fits 3, fits 4, fits 5, fits 6, fits 7);
}

number_takes : (w : Width) (limit : ℕ) (wide : IsWide w limit) (octets : List ℕ) (n : ℕ) (rest : List ℕ) → IsBytes octets → number_at w octets ≡ Some (n, rest) → Took (to_be_bytes w) (λ m. m < limit) octets n rest
number_takes w limit wide octets n rest bytes e =
    let g = failed_not (ltb (length octets) (byte_len w)) (Some (from_be_bytes w (take (byte_len w) octets), drop (byte_len w) octets)) (n, rest) e in
    let long : byte_len w ≤ length octets = ltb-false _ _ g.0 in
    let whole : to_be_bytes w (from_be_bytes w (take (byte_len w) octets)) ≡ take (byte_len w) octets = wide.back (take (byte_len w) octets) (omega (arith, length-take (byte_len w) octets)) (IsBytes-take (byte_len w) octets bytes) in
    turned (to_be_bytes w) (λ m. m < limit) octets (from_be_bytes w (take (byte_len w) octets)) n (drop (byte_len w) octets) rest g.1
    (record { parts = rw whole (sym (take-append-drop (byte_len w) octets)); is = wide.below (take (byte_len w) octets) (IsBytes-take (byte_len w) octets bytes) })

number_again : (w : Width) (limit : ℕ) (wide : IsWide w limit) (n : ℕ) (rest : List ℕ) → n < limit → number_at w (to_be_bytes w n ++ rest) ≡ Some (n, rest)
number_again w limit wide n rest lt =
    let len = wide.len n in
    let long : ltb (length (to_be_bytes w n ++ rest)) (byte_len w) ≡ false = le-ltb _ _ (omega (arith, length-append (to_be_bytes w n) rest)) in
    rw (long, take_at (to_be_bytes w n) rest (byte_len w) len, drop_at (to_be_bytes w n) rest (byte_len w) len, wide.again n lt) refl

pub numbers : (w : Width) (limit : ℕ) → IsWide w limit → Reads (to_be_bytes w) (λ m. m < limit) (number_at w)
numbers w limit wide = record {
  takes = λ octets x rest bytes e. number_takes w limit wide octets x rest bytes e;
  again = λ x rest is short. number_again w limit wide x rest is;
}

-- ---- lists

many_take : {A : Type 0} (spelling : A → List ℕ) (fits : A → Type 0) (at : List ℕ → Option (A × List ℕ)) → Reads spelling fits at → (n : ℕ) (octets : List ℕ) (xs : List A) (rest : List ℕ) → IsBytes octets → many_at at n octets ≡ Some (xs, rest)
    → Took (flat_map spelling) (λ ys. (length ys ≡ n) × AllByRecursion fits ys) octets xs rest
many_take {A} spelling fits at r zero octets xs rest bytes e =
    turned (flat_map spelling) (λ ys. (length ys ≡ 0) × AllByRecursion fits ys) octets [] xs octets rest e (record { parts = refl; is = (refl, tt) })
many_take {A} spelling fits at r (suc n) octets xs rest bytes e =
    let a = bind_some (at octets) (λ first. many_at at n first.1 >>= λ others. Some (first.0 ∷ others.0, others.1)) (xs, rest) e in
    let b = bind_some (many_at at n a.0.1) (λ others. Some (a.0.0 ∷ others.0, others.1)) (xs, rest) a.2 in
    let t = r.takes octets a.0.0 a.0.1 bytes a.1 in
    let u = many_take spelling fits at r n a.0.1 b.0.0 b.0.1 (IsBytes-rest octets (spelling a.0.0) a.0.1 bytes t.parts) b.1 in
    turned (flat_map spelling) (λ ys. (length ys ≡ suc n) × AllByRecursion fits ys) octets (a.0.0 ∷ b.0.0) xs b.0.1 rest b.2
    (record { parts = t.parts ∙ ap (λ (l : List ℕ). spelling a.0.0 ++ l) u.parts ∙ sym (append_assoc (spelling a.0.0) (flat_map spelling b.0.0) b.0.1); is = (ap suc u.is.0, (t.is, u.is.1)) })

many_again : {A : Type 0} (spelling : A → List ℕ) (fits : A → Type 0) (at : List ℕ → Option (A × List ℕ)) → Reads spelling fits at → (xs : List A) (rest : List ℕ) → AllByRecursion fits xs → length (flat_map spelling xs) < 2 ^ 32 → many_at at (length xs) (flat_map spelling xs ++ rest) ≡ Some (xs, rest)
many_again spelling fits at r [] rest is short = refl
many_again {A} spelling fits at r (x ∷ xs) rest is short =
    let sum : length (spelling x) + length (flat_map spelling xs) ≡ length (flat_map spelling (x ∷ xs)) = sym (length-append (spelling x) (flat_map spelling xs)) in
    ap (many_at at (suc (length xs))) (append_assoc (spelling x) (flat_map spelling xs) rest)
    ∙ ap (λ (o : Option (A × List ℕ)). o >>= λ first. many_at at (length xs) first.1 >>= λ others. Some (first.0 ∷ others.0, others.1)) (r.again x (flat_map spelling xs ++ rest) is.0 (omega arith))
    ∙ ap (λ (o : Option (List A × List ℕ)). o >>= λ others. Some (x ∷ others.0, others.1)) (many_again spelling fits at r xs rest is.1 (omega arith))

-- a count, and so many of a form
pub counted : {A : Type 0} (w : Width) (limit : ℕ) (wide : IsWide w limit) (spelling : A → List ℕ) (fits : A → Type 0) (at : List ℕ → Option (A × List ℕ)) → Reads spelling fits at
    → Reads (λ xs. to_be_bytes w (length xs) ++ flat_map spelling xs) (λ xs. (length xs < limit) × AllByRecursion fits xs) (listed_at w at)
counted {A} w limit wide spelling fits at r = record {
  takes = λ octets xs rest bytes e.
      let b = bind_some (number_at w octets) (λ n. many_at at n.0 n.1) (xs, rest) e in
      let t = number_takes w limit wide octets b.0.0 b.0.1 bytes b.1 in
      let u = many_take spelling fits at r b.0.0 b.0.1 xs rest (IsBytes-rest octets (to_be_bytes w b.0.0) b.0.1 bytes t.parts) b.2 in
      record {
        parts = t.parts ∙ ap (λ (l : List ℕ). to_be_bytes w b.0.0 ++ l) u.parts ∙ sym (append_assoc (to_be_bytes w b.0.0) (flat_map spelling xs) rest) ∙ ap (λ (n : ℕ). (to_be_bytes w n ++ flat_map spelling xs) ++ rest) (sym u.is.0);
        is = (subst (λ (n : ℕ). n < limit) (sym u.is.0) t.is, u.is.1);
      };
  again = λ xs rest is short.
      let sum : length (to_be_bytes w (length xs)) + length (flat_map spelling xs) ≡ length (to_be_bytes w (length xs) ++ flat_map spelling xs) = sym (length-append (to_be_bytes w (length xs)) (flat_map spelling xs)) in
      ap (listed_at w at) (append_assoc (to_be_bytes w (length xs)) (flat_map spelling xs) rest)
      ∙ ap (λ (o : Option (ℕ × List ℕ)). o >>= λ n. many_at at n.0 n.1) (number_again w limit wide (length xs) (flat_map spelling xs ++ rest) is.0)
      ∙ many_again spelling fits at r xs rest is.1 (omega arith);
}

-- a list whose parts have an octet or more is no longer than its octets
count_below : {A : Type 0} (spelling : A → List ℕ) → ((x : A) → 1 ≤ length (spelling x)) → (xs : List A) → length xs ≤ length (flat_map spelling xs)
count_below spelling least [] = omega arith
count_below spelling least (x ∷ xs) = omega (arith, length-append (spelling x) (flat_map spelling xs), least x, count_below spelling least xs)

-- with four octets of count, which are enough
pub counted32 : {A : Type 0} (spelling : A → List ℕ) (fits : A → Type 0) (at : List ℕ → Option (A × List ℕ)) → ((x : A) → 1 ≤ length (spelling x)) → Reads spelling fits at
    → Reads (λ xs. to_be_bytes w32 (length xs) ++ flat_map spelling xs) (λ xs. AllByRecursion fits xs) (listed_at w32 at)
counted32 {A} spelling fits at least r =
    let all = counted w32 (2 ^ 32) wide32 spelling fits at r in
    record {
      takes = λ octets xs rest bytes e. let t = all.takes octets xs rest bytes e in record { parts = t.parts; is = t.is.1 };
      again = λ xs rest is short. all.again xs rest (omega (arith, length-append (to_be_bytes w32 (length xs)) (flat_map spelling xs), count_below spelling least xs), is) short;
    }
