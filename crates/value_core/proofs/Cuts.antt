-- Octets are cut at their sign and their first point in one way.
use Rattle.std.proofs.Common.{◌≡◌, ℕ, ◌+◌, List, [], ◌∷◌, ◌++◌, Bool, true, false, not, eqb, drop, refl, sym, ap, ◌∙◌}
use Rattle.std.specs.Fmt.{sign_text}
use Rattle.value_core.specs.Decimals.{point_text}
use Rattle.plain_texts.specs.Splits.{BeginsOrEnds, IsCut}
use Rattle.plain_texts.proofs.Cuts.{same_parts}
use Rattle.value_core.specs.inner.Cuts.{HasParts}

pub at_point : (digits : List ℕ) → BeginsOrEnds 46 (point_text digits)
at_point [] = tt
at_point (digit ∷ digits) = refl

pub same_points : (a b : List ℕ) → point_text a ≡ point_text b → a ≡ b
same_points [] [] e = refl
same_points [] (y ∷ ys) e = absurd (cc)
same_points (x ∷ xs) [] e = absurd (cc)
same_points (x ∷ xs) (y ∷ ys) e = cc

same_signs : (octets : List ℕ) (a b : Bool) (xs ys : List ℕ) → octets ≡ sign_text a ++ xs → octets ≡ sign_text b ++ ys → (a ≡ false → (rest : List ℕ) → octets ≡ 45 ∷ rest → ⊥) → (b ≡ false → (rest : List ℕ) → octets ≡ 45 ∷ rest → ⊥) → (a ≡ b) × (xs ≡ ys)
same_signs octets true true xs ys e f _ _ = (refl, ap (λ r. drop 1 r) (sym e ∙ f))
same_signs octets true false xs ys e f _ h = absurd (h refl xs e)
same_signs octets false true xs ys e f g _ = absurd (g refl ys f)
same_signs octets false false xs ys e f _ _ = (refl, sym e ∙ f)

-- the parts of the cut of octets behind a sign
pub parts_of_cut : (octets unsigned front rest : List ℕ) (negative other : Bool) (whole behind : List ℕ) → octets ≡ sign_text negative ++ unsigned → (negative ≡ false → (after : List ℕ) → octets ≡ 45 ∷ after → ⊥) → IsCut 46 unsigned front rest → HasParts octets other whole behind → (other ≡ negative) × ((whole ≡ front) × (point_text behind ≡ rest))
parts_of_cut octets unsigned front rest negative other whole behind is signless cut parts =
    let signs = same_signs octets other negative (whole ++ point_text behind) unsigned parts.spelled is parts.signless signless in
    (signs.0, same_parts 46 whole (point_text behind) front rest (signs.1 ∙ cut.whole) parts.lacking (at_point behind) cut.lacking cut.begins)

pub no_parts : (octets unsigned front rest : List ℕ) (negative : Bool) → octets ≡ sign_text negative ++ unsigned → (negative ≡ false → (after : List ℕ) → octets ≡ 45 ∷ after → ⊥) → IsCut 46 unsigned front rest → ((behind : List ℕ) → rest ≡ point_text behind → ⊥) → (other : Bool) (whole behind : List ℕ) → HasParts octets other whole behind → ⊥
no_parts octets unsigned front rest negative is signless cut none other whole behind parts =
    let same = parts_of_cut octets unsigned front rest negative other whole behind is signless cut parts in
    none behind (sym same.1.1)

pub these_parts : (octets unsigned front rest : List ℕ) (negative : Bool) (behind : List ℕ) → octets ≡ sign_text negative ++ unsigned → (negative ≡ false → (after : List ℕ) → octets ≡ 45 ∷ after → ⊥) → IsCut 46 unsigned front rest → rest ≡ point_text behind → HasParts octets negative front behind
these_parts octets unsigned front rest negative behind is signless cut points = record {
  spelled = is ∙ ap (λ r. sign_text negative ++ r) (cut.whole ∙ ap (λ r. front ++ r) points);
  lacking = cut.lacking;
  signless = signless;
}

pub one_cut : (octets : List ℕ) (a b : Bool) (whole behind whole' behind' : List ℕ) → HasParts octets a whole behind → HasParts octets b whole' behind' → (a ≡ b) × ((whole ≡ whole') × (behind ≡ behind'))
one_cut octets a b whole behind whole' behind' cut cut' =
    let here : IsCut 46 (whole' ++ point_text behind') whole' (point_text behind') = record { whole = refl; lacking = cut'.lacking; begins = at_point behind' } in
    let same = parts_of_cut octets (whole' ++ point_text behind') whole' (point_text behind') b a whole behind cut'.spelled cut'.signless here cut in
    (same.0, (same.1.0, same_points behind behind' same.1.1))

pub signless_behind : (negative : Bool) (octets : List ℕ) → (negative ≡ false → (rest : List ℕ) → octets ≡ 45 ∷ rest → ⊥) → negative ≡ false → (rest : List ℕ) → sign_text negative ++ octets ≡ 45 ∷ rest → ⊥
signless_behind true octets signless e rest f = absurd (cc)
signless_behind false octets signless e rest f = signless e rest f
