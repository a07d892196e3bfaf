-- What is read as a varint is one, and a varint is read, whatever follows it.
use Rattle.std.proofs.Common.{◌≡◌, ℕ, zero, suc, ◌+◌, ◌^◌, ◌<◌, ◌≤◌, Bool, true, false, cond, ltb, List, [], ◌∷◌, ◌++◌, length, get_or, take, drop, Option, Some, None, refl, sym, ap, ◌∙◌, subst, arith, add-one}
use Rattle.std.proofs.lemmas.Bool.{ltb-true, ltb-false, lt-ltb, le-ltb}
use Rattle.std.proofs.lemmas.List.{take_at, drop_at, take-append-drop, length-append, length-take}
use Rattle.std.proofs.lemmas.List.Quantifiers.{position-Some}
use Rattle.std.specs.List.{position_or_len}
use Rattle.base_lists.specs.SevenBits.{number_of_groups, IsMarked}
use Rattle.pb_wire.specs.Varint.{IsVarint}
use Rattle.base_lists.specs.Options.{◌>>=◌}
use Rattle.pb_wire.specs.inner.Reading.{last_place, value_in, spelling_at, varint_at}

-- the value of a step that did not fail
pub bind_some : {A B : Type 0} (r : Option A) (f : A → Option B) (y : B) → (r >>= f) ≡ Some y → (x : A) × (r ≡ Some x) × (f x ≡ Some y)
bind_some None f y e = absurd cc
bind_some (Some x) f y e = (x, refl, e)

-- tests that did not fail
pub passed : {A : Type 0} (b : Bool) (r : Option A) (y : A) → cond b r None ≡ Some y → (b ≡ true) × (r ≡ Some y)
passed true r y e = (refl, e)
passed false r y e = absurd cc

pub failed_not : {A : Type 0} (b : Bool) (r : Option A) (y : A) → cond b None r ≡ Some y → (b ≡ false) × (r ≡ Some y)
failed_not true r y e = absurd cc
failed_not false r y e = (refl, e)

-- what stands at the front of the octets
pub record Takes (P : List ℕ → Type 0) (octets rest : List ℕ) : Type 0 where
  pub front : List ℕ
  pub parts : octets ≡ front ++ rest
  pub is : P front

-- ---- where a varint ends

pub IsMarked-take : (octets : List ℕ) (i : ℕ) → i < length octets → get_or octets i 0 < 128 → ((k : ℕ) → k < i → 128 ≤ get_or octets k 0) → IsMarked (take (suc i) octets)
IsMarked-take [] i lt last others = absurd (omega arith)
IsMarked-take (b ∷ octets) zero lt last others = last
IsMarked-take (b ∷ []) (suc i) lt last others = absurd (omega arith)
IsMarked-take (b ∷ c ∷ octets) (suc i) lt last others = (others 0 (omega arith), IsMarked-take (c ∷ octets) i (omega arith) last (λ k h. others (suc k) (omega arith)))

pub IsMarked-place : (spelling rest : List ℕ) → IsMarked spelling → suc (position_or_len (λ b. ltb b 128) (spelling ++ rest)) ≡ length spelling
IsMarked-place [] rest h = absurd h
IsMarked-place (b ∷ []) rest h = let is : ltb b 128 ≡ true = lt-ltb b 128 h in rw is refl
IsMarked-place (b ∷ c ∷ bs) rest h =
    let is : ltb b 128 ≡ false = le-ltb b 128 h.0 in
    rw is (omega (arith, IsMarked-place (c ∷ bs) rest h.1))

-- ---- varints

pub parts_from : (octets front rest : List ℕ) (i : ℕ) → take i octets ≡ front → drop i octets ≡ rest → octets ≡ front ++ rest
parts_from octets front rest i f r = rw (← f, ← r) (sym (take-append-drop i octets))

spelling_is : (octets front : List ℕ) (last n : ℕ) → take (last + 1) octets ≡ front → IsMarked (take (suc last) octets) → last < 10 → number_of_groups front ≡ n → number_of_groups front < 2 ^ 64 → IsVarint front n
spelling_is octets front last n is marked below value fits =
    let same : take (suc last) octets ≡ front = ap (λ (k : ℕ). take k octets) (sym (add-one last)) ∙ is in
    record {
      marked = subst IsMarked same marked;
      short = omega (arith, length-take (last + 1) octets, ap length is);
      value = value;
      fits = omega (arith, value, fits);
    }

pub varint_takes : (octets : List ℕ) (n : ℕ) (rest : List ℕ) → varint_at octets ≡ Some (n, rest) → Takes (λ s. IsVarint s n) octets rest
unfolding varint_at
varint_takes octets n rest e =
    let p = bind_some (spelling_at octets) (λ parts. value_in parts.0 >>= (λ m. Some (m, parts.1))) (n, rest) e in
    let parts = p.0 in
    let v = bind_some (value_in parts.0) (λ m. Some (m, parts.1)) (n, rest) p.2 in
    let l = bind_some (last_place octets) (λ last. cond (ltb last 10) (Some (take (last + 1) octets, drop (last + 1) octets)) None) parts p.1 in
    let last : ℕ = l.0 in
    let g = passed (ltb last 10) (Some (take (last + 1) octets, drop (last + 1) octets)) parts l.2 in
    let place = position-Some (λ b. ltb b 128) octets last 0 l.1 in
    let f = passed (ltb (number_of_groups parts.0) (2 ^ 64)) (Some (number_of_groups parts.0)) v.0 v.1 in
    let front-is : take (last + 1) octets ≡ parts.0 = some_front _ _ g.1 in
    let rest-is : drop (last + 1) octets ≡ parts.1 = some_rest _ _ g.1 in
    let n-is : v.0 ≡ n = some_number _ _ v.2 in
    let after-is : parts.1 ≡ rest = some_after _ _ v.2 in
    let value-is : number_of_groups parts.0 ≡ v.0 = some_is _ _ f.1 in
    let marked = IsMarked-take octets last place.0 (ltb-true _ _ place.1) (λ k h. ltb-false _ _ (place.2 k h)) in
    let below : last < 10 = ltb-true _ _ g.0 in
    record {
      front = parts.0;
      parts = parts_from octets parts.0 rest (last + 1) front-is (rest-is ∙ after-is);
      is = spelling_is octets parts.0 last n front-is marked below (value-is ∙ n-is) (ltb-true _ _ f.0);
    }
  where
    some_is : (x y : ℕ) → ◌≡◌ {A = Option ℕ} (Some x) (Some y) → x ≡ y
    some_is x y e = cc

    some_front : (x y : List ℕ × List ℕ) → ◌≡◌ {A = Option (List ℕ × List ℕ)} (Some x) (Some y) → x.0 ≡ y.0
    some_front x y e = let h : x ≡ y = cc in ap (λ (z : List ℕ × List ℕ). z.0) h

    some_rest : (x y : List ℕ × List ℕ) → ◌≡◌ {A = Option (List ℕ × List ℕ)} (Some x) (Some y) → x.1 ≡ y.1
    some_rest x y e = let h : x ≡ y = cc in ap (λ (z : List ℕ × List ℕ). z.1) h

    some_number : (x y : ℕ × List ℕ) → ◌≡◌ {A = Option (ℕ × List ℕ)} (Some x) (Some y) → x.0 ≡ y.0
    some_number x y e = let h : x ≡ y = cc in ap (λ (z : ℕ × List ℕ). z.0) h

    some_after : (x y : ℕ × List ℕ) → ◌≡◌ {A = Option (ℕ × List ℕ)} (Some x) (Some y) → x.1 ≡ y.1
    some_after x y e = let h : x ≡ y = cc in ap (λ (z : ℕ × List ℕ). z.1) h

pub varint_again : (spelling rest : List ℕ) (n : ℕ) → IsVarint spelling n → varint_at (spelling ++ rest) ≡ Some (n, rest)
unfolding varint_at
varint_again spelling rest n is =
    let i : ℕ = position_or_len (λ b. ltb b 128) (spelling ++ rest) in
    let len : suc i ≡ length spelling = IsMarked-place spelling rest is.marked in
    let short : length spelling ≤ 10 = is.short in
    let inside : ltb i (length (spelling ++ rest)) ≡ true = lt-ltb _ _ (omega (arith, length-append spelling rest, len)) in
    let below : ltb i 10 ≡ true = lt-ltb _ _ (omega (arith, len, short)) in
    let len1 : length spelling ≡ i + 1 = omega (arith, len) in
    let small : number_of_groups spelling < 2 ^ 64 = omega (arith, is.value, is.fits) in
    let fits : ltb (number_of_groups spelling) (2 ^ 64) ≡ true = lt-ltb _ _ small in
    rw (inside, below, take_at spelling rest (i + 1) len1, drop_at spelling rest (i + 1) len1, fits, is.value) refl
