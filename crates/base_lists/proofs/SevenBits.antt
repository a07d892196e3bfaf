-- Groups of seven bits: the fewest that spell a number, and the loop that writes them.
use Rattle.std.proofs.Common.{◌≡◌, ℕ, zero, suc, ◌+◌, ◌*◌, ◌/◌, ◌%◌, ◌^◌, ◌<◌, ◌≤◌, true, false, ltb, List, [], ◌∷◌, ◌++◌, length, get_or, drop, refl, sym, ap, ◌∙◌, arith, append_assoc, append-nil, lit≤, inl, inr, add-one, drop-cons}
use Rattle.std.proofs.lemmas.Bool.{lt-ltb, le-ltb, cases_lt}
use Rattle.base_lists.specs.Fronts.{AppendsFront}
use Rattle.base_lists.specs.SevenBits.{number_of_groups, IsMarked, groups_of}

-- the first number that needs more groups than so many and a last one
abbrev pub room : ℕ → ℕ
room zero = 128
room (suc more) = 128 * room more

pub groups_of-last : (more n : ℕ) → n < 128 → groups_of more n ≡ n ∷ []
groups_of-last zero n lt = refl
groups_of-last (suc more) n lt = let test : ltb n 128 ≡ true = lt-ltb n 128 lt in rw test refl

pub groups_of-more : (more n : ℕ) → 128 ≤ n → groups_of (suc more) n ≡ (n % 128 + 128) ∷ groups_of more (n / 128)
groups_of-more more n le = let test : ltb n 128 ≡ false = le-ltb n 128 le in rw test refl

pub number_of_groups-of : (more n : ℕ) → n < room more → number_of_groups (groups_of more n) ≡ n
number_of_groups-of zero n lt = omega arith
number_of_groups-of (suc more) n lt =
    elim (cases_lt n 128) [
      | inl small ↦ rw (groups_of-last (suc more) n small) (omega arith)
      | inr large ↦
          let others : number_of_groups (groups_of more (n / 128)) ≡ n / 128 = number_of_groups-of more (n / 128) (omega arith) in
          rw (groups_of-more more n large, others) (omega arith)
    ]

pub IsMarked-cons : (b : ℕ) (bs : List ℕ) → 128 ≤ b → IsMarked bs → IsMarked (b ∷ bs)
IsMarked-cons b [] le is = absurd is
IsMarked-cons b (c ∷ bs) le is = (le, is)

pub IsMarked-groups_of : (more n : ℕ) → n < room more → IsMarked (groups_of more n)
IsMarked-groups_of zero n lt = lt
IsMarked-groups_of (suc more) n lt =
    elim (cases_lt n 128) [
      | inl small ↦ rw (groups_of-last (suc more) n small) small
      | inr large ↦ rw (groups_of-more more n large) (IsMarked-cons (n % 128 + 128) (groups_of more (n / 128)) (omega arith) (IsMarked-groups_of more (n / 128) (omega arith)))
    ]

pub length-groups_of : (more n : ℕ) → length (groups_of more n) ≤ more + 1
length-groups_of zero n = omega arith
length-groups_of (suc more) n =
    elim (cases_lt n 128) [
      | inl small ↦ rw (groups_of-last (suc more) n small) (omega arith)
      | inr large ↦ rw (groups_of-more more n large) (omega (arith, length-groups_of more (n / 128)))
    ]

-- no other groups of the number are fewer
pub length-groups_of-le : (more n : ℕ) (other : List ℕ) → IsMarked other → number_of_groups other ≡ n → length (groups_of more n) ≤ length other
length-groups_of-le more n [] is value = absurd is
length-groups_of-le zero n (b ∷ other) is value = omega arith
length-groups_of-le (suc more) n (b ∷ []) is value = rw (groups_of-last (suc more) n (omega (arith, value))) (omega arith)
length-groups_of-le (suc more) n (b ∷ c ∷ other) is value =
    elim (cases_lt n 128) [
      | inl small ↦ rw (groups_of-last (suc more) n small) (omega arith)
      | inr large ↦ rw (groups_of-more more n large) (omega (arith, length-groups_of-le more (n / 128) (c ∷ other) is.1 (omega (arith, value))))
    ]

-- room for more groups changes nothing where the number has room
pub groups_of-room : (more most n : ℕ) → n < room more → more ≤ most → groups_of most n ≡ groups_of more n
groups_of-room zero most n lt le = groups_of-last most n lt
groups_of-room (suc more) zero n lt le = absurd (omega arith)
groups_of-room (suc more) (suc most) n lt le =
    elim (cases_lt n 128) [
      | inl small ↦ groups_of-last (suc most) n small ∙ sym (groups_of-last (suc more) n small)
      | inr large ↦
          groups_of-more most n large ∙ ap (λ (s : List ℕ). (n % 128 + 128) ∷ s) (groups_of-room more most (n / 128) (omega arith) (omega arith))
          ∙ sym (groups_of-more more n large)
    ]

-- the groups from a place on
pub number_of_groups-drop : (octets : List ℕ) (at : ℕ) → at < length octets → number_of_groups (drop at octets) ≡ get_or octets at 0 % 128 + 128 * number_of_groups (drop (at + 1) octets)
number_of_groups-drop octets at lt = rw (add-one, drop-cons octets at 0) refl

-- an end spells no more than the whole
pub number_of_groups-drop-le : (at : ℕ) (octets : List ℕ) → number_of_groups (drop at octets) ≤ number_of_groups octets
number_of_groups-drop-le zero octets = omega arith
number_of_groups-drop-le (suc at) [] = omega arith
number_of_groups-drop-le (suc at) (b ∷ octets) = omega (arith, number_of_groups-drop-le at octets)

-- ---- the loop that writes

-- some octets of the groups are written, and the rest spells what is left
pub record ToWrite (old out : List ℕ) (most n left : ℕ) : Type 0 where
  pub more : ℕ
  pub written : List ℕ
  pub is : out ≡ old ++ written
  pub all : groups_of most n ≡ written ++ groups_of more left
  pub fits : left < room more

pub ToWrite-none : (old : List ℕ) (most n : ℕ) → n < room most → ToWrite old old most n n
ToWrite-none old most n lt = record { more = most; written = []; is = sym (append-nil old); all = refl; fits = lt }

pub ToWrite-more : (old out : List ℕ) (most n left : ℕ) → ToWrite old out most n left → 128 ≤ left → ToWrite old (out ++ (left % 128 + 128) ∷ []) most n (left / 128)
ToWrite-more old out most n left to large = next to.more to.written to.is to.all to.fits
  where
    next : (more : ℕ) (written : List ℕ) → out ≡ old ++ written → groups_of most n ≡ written ++ groups_of more left → left < room more
        → ToWrite old (out ++ (left % 128 + 128) ∷ []) most n (left / 128)
    next zero written is all fits = absurd (omega arith)
    next (suc more) written is all fits = record {
      more = more;
      written = written ++ (left % 128 + 128) ∷ [];
      is = ap (λ (s : List ℕ). s ++ (left % 128 + 128) ∷ []) is ∙ append_assoc old written ((left % 128 + 128) ∷ []);
      all = all ∙ ap (λ (s : List ℕ). written ++ s) (groups_of-more more left large) ∙ sym (append_assoc written ((left % 128 + 128) ∷ []) (groups_of more (left / 128)));
      fits = omega (arith, fits);
    }

pub ToWrite-front : (old out : List ℕ) (most n left : ℕ) → ToWrite old out most n left → AppendsFront old out (groups_of most n)
ToWrite-front old out most n left to = record { front = to.written; rest = groups_of to.more left; parts = to.all; is = to.is }

pub ToWrite-last : (old out : List ℕ) (most n left : ℕ) → ToWrite old out most n left → left < 128 → out ++ left ∷ [] ≡ old ++ groups_of most n
ToWrite-last old out most n left to small =
    ap (λ (s : List ℕ). s ++ left ∷ []) to.is ∙ append_assoc old to.written (left ∷ []) ∙ ap (λ (s : List ℕ). old ++ s) (sym (to.all ∙ ap (λ (s : List ℕ). to.written ++ s) (groups_of-last to.more left small)))

-- a number of 64 bits has its groups in nine before the last
pub room-64 : (n : ℕ) → n < 2 ^ 64 → n < room 9
room-64 n lt = let large : 2 ^ 64 ≤ room 9 = lit≤ tt in omega (arith, lt, large)
