-- What is read as an integer is one, and an integer is read, whatever follows it.
use Rattle.std.proofs.Common.{◌≡◌, ℕ, zero, suc, ◌+◌, ◌-◌, ◌*◌, ◌%◌, ◌^◌, ◌<◌, ◌≤◌, Bool, true, false, cond, ltb, leb, ◌⊎◌, inl, inr, List, [], ◌∷◌, ◌++◌, length, Option, Some, None, refl, sym, ap, ◌∙◌, arith}
use Rattle.std.proofs.lemmas.Bool.{ltb-true, ltb-false, lt-ltb, le-ltb, leb-true, le-leb}
use Rattle.std.proofs.lemmas.Nat.{pow_pos}
use Rattle.std.proofs.Math.Nat.{mod-lt}
use Rattle.std.proofs.lemmas.Option.{some_pair_parts}
use Rattle.base_lists.specs.SevenBits.{number_of_groups, IsMarked}
use Rattle.hpack_block.specs.Integers.{IsInteger}
use Rattle.hpack_block.specs.inner.Reading.{bounded, with_group, groups_at, above, integer_at}

chosen : {A : Type 0} (b : Bool) (x y z : A) → cond b x y ≡ z → ((b ≡ true) × (x ≡ z)) ⊎ ((b ≡ false) × (y ≡ z))
chosen true x y z e = inl (refl, e)
chosen false x y z e = inr (refl, e)

-- ---- within the bound

bounded_within : (n : ℕ) (rest : List ℕ) → n ≤ 2147483647 → bounded n rest ≡ Some (n, rest)
bounded_within n rest le = let h : leb n 2147483647 ≡ true = le-leb n 2147483647 le in rw h refl

pub record Bound (m : ℕ) (r : List ℕ) (n : ℕ) (rest : List ℕ) : Type 0 where
  pub number : m ≡ n
  pub same : r ≡ rest
  pub le : n ≤ 2147483647

bounded_some : (m : ℕ) (r : List ℕ) (n : ℕ) (rest : List ℕ) → bounded m r ≡ Some (n, rest) → Bound m r n rest
bounded_some m r n rest e = elim (chosen (leb m 2147483647) (Some (m, r)) None (Some (n, rest)) e) [
  | inl c ↦
      let p = some_pair_parts m n r rest c.1 in
      let le : m ≤ 2147483647 = leb-true m 2147483647 c.0 in
      record { number = p.0; same = p.1; le = omega (arith, p.0, le) }
  | inr c ↦ let h = c.1 in absurd cc
]

-- ---- the octets behind a prefix

groups_again : (most : ℕ) (groups rest : List ℕ) → IsMarked groups → length groups ≤ most → number_of_groups groups ≤ 2147483647
    → groups_at most (groups ++ rest) ≡ Some (number_of_groups groups, rest)
groups_again zero [] rest m s h = absurd m
groups_again zero (b ∷ bs) rest m s h = absurd (omega arith)
groups_again (suc most) [] rest m s h = absurd m
groups_again (suc most) (b ∷ []) rest m s h =
    let low : ltb b 128 ≡ true = lt-ltb b 128 m in
    let same : b ≡ b % 128 + 128 * 0 = omega (arith, m) in
    rw low (ap (λ (n : ℕ). Some (n, rest)) same)
groups_again (suc most) (b ∷ c ∷ bs) rest m s h =
    let high : ltb b 128 ≡ false = le-ltb b 128 m.0 in
    let more = groups_again most (c ∷ bs) rest m.1 (omega arith) (omega arith) in
    rw high (ap (with_group b) more ∙ bounded_within (number_of_groups (b ∷ c ∷ bs)) rest h)

pub record Groups (most : ℕ) (octets : List ℕ) (n : ℕ) (rest : List ℕ) : Type 0 where
  pub groups : List ℕ
  pub follows : octets ≡ groups ++ rest
  pub marked : IsMarked groups
  pub few : length groups ≤ most
  pub value : n ≡ number_of_groups groups

pub record Grouped (b : ℕ) (o : Option (ℕ × List ℕ)) (n : ℕ) (rest : List ℕ) : Type 0 where
  pub higher : ℕ
  pub was : o ≡ Some (higher, rest)
  pub value : n ≡ b % 128 + 128 * higher

with_group_some : (b : ℕ) (o : Option (ℕ × List ℕ)) (n : ℕ) (rest : List ℕ) → with_group b o ≡ Some (n, rest) → Grouped b o n rest
with_group_some b None n rest e = absurd cc
with_group_some b (Some p) n rest e =
    let k = bounded_some (b % 128 + 128 * p.0) p.1 n rest e in
    record { higher = p.0; was = ap (λ (r : List ℕ). Some (p.0, r)) k.same; value = sym k.number }

groups_takes : (most : ℕ) (octets : List ℕ) (n : ℕ) (rest : List ℕ) → groups_at most octets ≡ Some (n, rest) → Groups most octets n rest
groups_takes zero octets n rest e = absurd cc
groups_takes (suc most) [] n rest e = absurd cc
groups_takes (suc most) (b ∷ bs) n rest e = elim (chosen (ltb b 128) (Some (b, bs)) (with_group b (groups_at most bs)) (Some (n, rest)) e) [
  | inl c ↦
      let p = some_pair_parts b n bs rest c.1 in
      let low : b < 128 = ltb-true b 128 c.0 in
      record {
        groups = b ∷ [];
        follows = ap (λ (r : List ℕ). b ∷ r) p.1;
        marked = low;
        few = omega arith;
        value = omega (arith, p.0, low);
      }
  | inr c ↦
      let g = with_group_some b (groups_at most bs) n rest c.1 in
      let t = groups_takes most bs g.higher rest g.was in
      joined b bs n rest most g.higher (ltb-false b 128 c.0) g.value t.groups t.follows t.marked t.few t.value
]
  where
    joined : (b : ℕ) (bs : List ℕ) (n : ℕ) (rest : List ℕ) (most higher : ℕ) → 128 ≤ b → n ≡ b % 128 + 128 * higher
        → (groups : List ℕ) → bs ≡ groups ++ rest → IsMarked groups → length groups ≤ most → higher ≡ number_of_groups groups → Groups (suc most) (b ∷ bs) n rest
    joined b bs n rest most higher high value [] follows marked few is = absurd marked
    joined b bs n rest most higher high value (g ∷ gs) follows marked few is = record {
      groups = b ∷ g ∷ gs;
      follows = ap (λ (r : List ℕ). b ∷ r) follows;
      marked = (high, marked);
      few = omega arith;
      value = value ∙ ap (λ (m : ℕ). b % 128 + 128 * m) is;
    }

-- ---- integers

pub integer_again : (bits : ℕ) (octets : List ℕ) (n : ℕ) (rest : List ℕ) → IsInteger bits octets n rest → integer_at bits octets ≡ Some (n, rest)
integer_again bits [] n rest is = absurd is
integer_again bits (first ∷ after) n rest (inl p) =
    let low : ltb (first % 2 ^ bits) (2 ^ bits - 1) ≡ true = lt-ltb _ _ p.fits in
    let value = p.value in
    let follows = p.follows in
    rw low (ap (λ (m : ℕ). Some (m, after)) (sym value) ∙ ap (λ (r : List ℕ). Some (n, r)) follows)
integer_again bits (first ∷ after) n rest (inr p) =
    let full = p.full in
    let value = p.value in
    let le = p.bounded in
    let high : ltb (first % 2 ^ bits) (2 ^ bits - 1) ≡ false = le-ltb _ _ (omega (arith, full)) in
    let fits : number_of_groups p.groups ≤ 2147483647 = omega (arith, value, le) in
    let read : groups_at 5 after ≡ Some (number_of_groups p.groups, rest) = ap (groups_at 5) p.follows ∙ groups_again 5 p.groups rest p.marked p.few fits in
    rw high (ap (above (2 ^ bits - 1)) read ∙ ap (λ (m : ℕ). bounded m rest) (sym value) ∙ bounded_within n rest le)

pub record Above (most : ℕ) (o : Option (ℕ × List ℕ)) (n : ℕ) (rest : List ℕ) : Type 0 where
  pub more : ℕ
  pub was : o ≡ Some (more, rest)
  pub value : n ≡ most + more
  pub le : n ≤ 2147483647

above_some : (most : ℕ) (o : Option (ℕ × List ℕ)) (n : ℕ) (rest : List ℕ) → above most o ≡ Some (n, rest) → Above most o n rest
above_some most None n rest e = absurd cc
above_some most (Some p) n rest e =
    let k = bounded_some (most + p.0) p.1 n rest e in
    record { more = p.0; was = ap (λ (r : List ℕ). Some (p.0, r)) k.same; value = sym k.number; le = k.le }

pub integer_takes : (bits : ℕ) (octets : List ℕ) (n : ℕ) (rest : List ℕ) → integer_at bits octets ≡ Some (n, rest) → IsInteger bits octets n rest
integer_takes bits [] n rest e = absurd cc
integer_takes bits (first ∷ after) n rest e =
    elim (chosen (ltb (first % 2 ^ bits) (2 ^ bits - 1)) (Some (first % 2 ^ bits, after)) (above (2 ^ bits - 1) (groups_at 5 after)) (Some (n, rest)) e) [
      | inl c ↦
          let p = some_pair_parts (first % 2 ^ bits) n after rest c.1 in
          inl (record { fits = ltb-true _ _ c.0; value = sym p.0; follows = p.1 })
      | inr c ↦
          let a = above_some (2 ^ bits - 1) (groups_at 5 after) n rest c.1 in
          let t = groups_takes 5 after a.more rest a.was in
          let size : 0 < 2 ^ bits = pow_pos bits in
          let under : first % 2 ^ bits < 2 ^ bits = mod-lt first size in
          let not-low : 2 ^ bits - 1 ≤ first % 2 ^ bits = ltb-false _ _ c.0 in
          inr (record {
            full = omega (arith, under, not-low);
            groups = t.groups;
            follows = t.follows;
            marked = t.marked;
            few = t.few;
            value = a.value ∙ ap (λ (m : ℕ). 2 ^ bits - 1 + m) t.value;
            bounded = a.le;
          })
    ]

-- octets begin with one integer at most
pub one_integer : (bits : ℕ) (octets : List ℕ) (n m : ℕ) (r s : List ℕ) → IsInteger bits octets n r → IsInteger bits octets m s → (n ≡ m) × (r ≡ s)
one_integer bits octets n m r s p q = some_pair_parts n m r s (sym (integer_again bits octets n r p) ∙ integer_again bits octets m s q)

-- and with none where none is read
pub no_integer : (bits : ℕ) (octets : List ℕ) → integer_at bits octets ≡ None → (n : ℕ) (rest : List ℕ) → IsInteger bits octets n rest → ⊥
no_integer bits octets none n rest is = let some = integer_again bits octets n rest is in clash (integer_at bits octets) (n, rest) none some
  where
    clash : (o : Option (ℕ × List ℕ)) (p : ℕ × List ℕ) → o ≡ None → o ≡ Some p → ⊥
    clash o p none some = cc
