-- The list of entries that a value keeps, by author.
use Rattle.std.specs.Prelude.{◌≡◌, ℕ, ◌≤◌, ◌==◌, ◌⊎◌, List, [], ◌∷◌, length, drop, if◌then◌else◌}

-- the entries of the author with this number, in their order
abbrev pub entries_by : {E : Type 0} → (E → ℕ) → ℕ → List E → List E
entries_by author n [] = []
entries_by author n (e ∷ es) =
    if author e == n then e ∷ entries_by author n es else entries_by author n es

-- the entries of a list past one that it begins with
abbrev pub entries_past : {E : Type 0} → List E → List E → List E
entries_past first log = drop (length first) log

-- each entry is this author's, or the value's own, which is author 0
abbrev pub AreBy : {E : Type 0} → (E → ℕ) → ℕ → List E → Type 0
AreBy author n [] = Unit {0}
AreBy author n (e ∷ es) = ((author e ≡ n) ⊎ (author e ≡ 0)) × AreBy author n es

-- the author of each entry has at most this number
abbrev pub AreUpTo : {E : Type 0} → (E → ℕ) → ℕ → List E → Type 0
AreUpTo author most [] = Unit {0}
AreUpTo author most (e ∷ es) = (author e ≤ most) × AreUpTo author most es
