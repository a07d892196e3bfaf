-- Stamps after one more entry, and counts against limits.
use Rattle.std.proofs.Common.{◌≡◌, ℕ, ◌<◌, ◌≤◌, ◌^◌, List, [], ◌∷◌, ◌++◌, nat_le, true, refl, arith}
use Rattle.std.proofs.lemmas.Bool.{and_parts, leb-true}
use Rattle.base_kinds.specs.declared.entry.Entry.{Entry}
use Rattle.base_kinds.specs.History.{last_stamp, stamp_of}
use Rattle.base_kinds.specs.Records.{counted}
use Rattle.base_kinds.specs.Step.{new_stamp}

last-append : (stamp : ℕ) (h : List Entry) (entry : Entry) → last_stamp stamp (h ++ entry ∷ []) ≡ entry.stamp
last-append stamp [] entry = refl
last-append stamp (first ∷ h) entry = last-append first.stamp h entry

-- the new entry has the last stamp
pub stamp_bound : (h : List Entry) (entry : Entry) (now : ℕ) → stamp_of h < 2 ^ 62 → entry.stamp ≡ new_stamp h now → stamp_of (h ++ entry ∷ []) ≤ 2 ^ 62
stamp_bound h entry now below is = rw (last-append 0 h entry, is) (omega (arith, below))

-- a count that stops is above a small limit where the number is
pub counted_le : (count limit : ℕ) → limit < 2 ^ 32 → nat_le (counted count) limit ≡ nat_le count limit
counted_le count limit small = grind (arith, small)
