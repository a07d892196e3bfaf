-- A text has one cut before its first separator.
use Rattle.std.proofs.Common.{◌≡◌, ℕ, suc, ◌+◌, List, [], ◌∷◌, ◌++◌, Bool, true, false, cond, not, ◌&&◌, eqb, take, drop, refl, sym, ap, ◌∙◌, subst, IsTrue, arith, length}
use Rattle.std.specs.List.{prefix_len, All}
use Rattle.std.proofs.lemmas.List.Splits.{slice_split_none, slice_split_at, length-slice_split}
use Rattle.std.proofs.lemmas.List.Elements.{All-nil, All-cons}
use Rattle.std.proofs.lemmas.List.{append-nil}
use Rattle.std.proofs.lemmas.Bool.{and_parts, and_from, not-true, not_from_false, eqb-true, eqb-false, eq-eqb}
use Rattle.plain_texts.specs.Splits.{parts_of, lacks, BeginsOrEnds, IsCut}

no_separator : (separator octet : ℕ) (others : Bool) → (not (eqb octet separator) && others) ≡ true → octet ≡ separator → ⊥
no_separator separator octet others h e = eqb-false octet separator (not-true (eqb octet separator) (and_parts (not (eqb octet separator)) others h).0) e

-- fronts without the separator, before rests that begin with it or are empty, are the same
pub same_parts : (separator : ℕ) (front rest front' rest' : List ℕ) → front ++ rest ≡ front' ++ rest' → IsTrue (lacks separator front) → BeginsOrEnds separator rest → IsTrue (lacks separator front') → BeginsOrEnds separator rest' → (front ≡ front') × (rest ≡ rest')
same_parts separator [] rest [] rest' e _ _ _ _ = (refl, e)
same_parts separator [] rest (x ∷ front') rest' e _ begins lacking' _ = absurd (no_separator separator x (lacks separator front') lacking' (subst (BeginsOrEnds separator) e begins))
same_parts separator (x ∷ front) rest [] rest' e lacking _ _ begins' = absurd (no_separator separator x (lacks separator front) lacking (subst (BeginsOrEnds separator) (sym e) begins'))
same_parts separator (x ∷ front) rest (x' ∷ front') rest' e lacking begins lacking' begins' =
    let tails : front ++ rest ≡ front' ++ rest' = cc in
    let parts = same_parts separator front rest front' rest' tails (and_parts (not (eqb x separator)) (lacks separator front) lacking).1 begins (and_parts (not (eqb x' separator)) (lacks separator front') lacking').1 begins' in
    let fronts = parts.0 in
    (cc, parts.1)

pub one_cut : (separator : ℕ) (octets front rest front' rest' : List ℕ) → IsCut separator octets front rest → IsCut separator octets front' rest' → (front ≡ front') × (rest ≡ rest')
one_cut separator octets front rest front' rest' cut cut' = same_parts separator front rest front' rest' (sym cut.whole ∙ cut'.whole) cut.lacking cut.begins cut'.lacking cut'.begins

abbrev pub length_before : ℕ → List ℕ → ℕ
length_before separator octets = prefix_len (λ octet. not (eqb octet separator)) octets

cut_more : (separator octet n : ℕ) (octets : List ℕ) → IsCut separator octets (take n octets) (drop n octets) → (same : Bool) → eqb octet separator ≡ same → IsCut separator (octet ∷ octets) (take (cond (not same) (1 + n) 0) (octet ∷ octets)) (drop (cond (not same) (1 + n) 0) (octet ∷ octets))
cut_more separator octet n octets cut true same = record { whole = refl; lacking = refl; begins = eqb-true octet separator same }
cut_more separator octet n octets cut false same =
    let up : 1 + n ≡ suc n = omega arith in
    rw up (record {
      whole = ap (λ r. octet ∷ r) cut.whole;
      lacking = and_from (not (eqb octet separator)) (lacks separator (take n octets)) (not_from_false (eqb octet separator) same) cut.lacking;
      begins = cut.begins;
    })

pub cut_there : (separator : ℕ) (octets : List ℕ) → IsCut separator octets (take (length_before separator octets) octets) (drop (length_before separator octets) octets)
cut_there separator [] = record { whole = refl; lacking = refl; begins = tt }
cut_there separator (octet ∷ octets) = cut_more separator octet (length_before separator octets) octets (cut_there separator octets) (eqb octet separator) refl

-- ---- the parts of a text

all_before : (separator : ℕ) (front : List ℕ) → IsTrue (lacks separator front) → All (λ octet. eqb octet separator ≡ false) front
all_before separator [] lacking = All-nil (λ octet. eqb octet separator ≡ false)
all_before separator (octet ∷ front) lacking =
    let parts = and_parts (not (eqb octet separator)) (lacks separator front) lacking in
    All-cons (λ octet. eqb octet separator ≡ false) octet front (not-true (eqb octet separator) parts.0) (all_before separator front parts.1)

none_of : {A : Type 0} (xs : List A) → length xs ≡ 0 → xs ≡ []
none_of [] e = refl
none_of (x ∷ xs) e = absurd (omega arith)

-- with nothing behind the cut, what stands before it is the one part
pub one_part : (separator : ℕ) (whole : List (List ℕ)) (octets front rest : List ℕ) → whole ≡ parts_of separator octets → IsCut separator octets front rest → length rest ≡ 0 → whole ≡ front ∷ []
one_part separator whole octets front rest is cut none =
    let same : octets ≡ front = cut.whole ∙ ap (λ r. front ++ r) (none_of rest none) ∙ append-nil front in
    is ∙ ap (parts_of separator) same ∙ slice_split_none (λ octet. eqb octet separator) front (all_before separator front cut.lacking)

parts_at : (separator octet : ℕ) (octets front others : List ℕ) → IsCut separator octets front (octet ∷ others) → parts_of separator octets ≡ front ∷ parts_of separator others
parts_at separator octet octets front others cut =
    ap (parts_of separator) cut.whole ∙ slice_split_at (λ octet. eqb octet separator) front octet others (all_before separator front cut.lacking) (eq-eqb octet separator cut.begins)

-- the parts behind the separator follow what stands before it
pub more_parts : (separator octet : ℕ) (whole : List (List ℕ)) (octets front rest others : List ℕ) → whole ≡ parts_of separator octets → IsCut separator octets front rest → rest ≡ octet ∷ others → whole ≡ front ∷ parts_of separator others
more_parts separator octet whole octets front rest others is cut some = is ∙ parts_at separator octet octets front others (subst (IsCut separator octets front) some cut)

pub some_part : (separator : ℕ) (octets : List ℕ) → parts_of separator octets ≡ [] → ⊥
some_part separator octets none =
    let long = ap length none in
    let count = length-slice_split (λ octet. eqb octet separator) octets in
    omega arith
