-- What a disk that stops keeps beside what its callers see.
use Rattle.std.specs.Prelude.{◌≡◌, ℕ, Bool, true, false, zero, suc, List, [], ◌∷◌, Option, Some, None}
use Rattle.disk_model.specs.Images.{IsImage}

-- these n places from one on may hold any octet after a stop
abbrev pub IsFree : ℕ → ℕ → List (Option ℕ) → Type 0
IsFree place n [] = Unit {0}
IsFree (suc place) n (k ∷ mask) = IsFree place n mask
IsFree zero zero (k ∷ mask) = Unit {0}
IsFree zero (suc n) (k ∷ mask) = (k ≡ None) × IsFree zero n mask

abbrev pub AllFree : List (ℕ × ℕ) → List (Option ℕ) → Type 0
AllFree [] mask = Unit {0}
AllFree (range ∷ ranges) mask = IsFree range.0 range.1 mask × AllFree ranges mask

-- what a read gives: the octets that are there, and after a stop those that were there before it
abbrev pub seen_of : Option (List ℕ) → List ℕ → List ℕ
seen_of None octets = octets
seen_of (Some before) octets = before

-- what the stop left: the octets that are there
abbrev pub left_of : Option (List ℕ) → List ℕ → Option (List ℕ)
left_of None octets = None
left_of (Some before) octets = Some octets

-- the octets of the last sync: the copy, and where there is none, nothing has changed since
abbrev pub base_of : Option (List ℕ) → List ℕ → List ℕ
base_of None octets = octets
base_of (Some safe) octets = safe

abbrev pub HasBase : Option (List ℕ) → Option (List ℕ) → List ℕ → List ℕ → Type 0
HasBase None safe base octets = base ≡ base_of safe octets
HasBase (Some before) safe base octets = Unit {0}

-- a disk that hasn't stopped has left nothing
abbrev pub LeftAfter : Bool → Option (List ℕ) → Type 0
LeftAfter false before = before ≡ None
LeftAfter true before = Unit {0}

pub record IsFused (stopped : Bool) (before safe : Option (List ℕ)) (base octets : List ℕ)
    (written : List (ℕ × ℕ)) (mask : List (Option ℕ)) : Type 0 where
  pub base_is : IsImage mask base
  pub seen_is : IsImage mask (seen_of before octets)
  pub left_is : IsImage mask octets
  pub free : AllFree written mask
  pub safe_is : HasBase before safe base octets
  pub left_after : LeftAfter stopped before
