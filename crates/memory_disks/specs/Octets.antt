-- What writes and stops make of octets.
use Rattle.std.specs.Prelude.{ℕ, ◌+◌, List, [], ◌∷◌, ◌++◌, length, take, drop, replicate}
use Rattle.disk_model.specs.Content.{gap_length}
use Rattle.disk_model.specs.Images.{with_range_filled}
use Rattle.base_kinds.specs.declared.fill.Fill.{Fill}
use Rattle.base_kinds.specs.declared.fill.Fill.TheVariants.{Old, New, Octet}

-- a piece at its place, and zeros before it where it begins past the end
abbrev pub octets_after_write : ℕ → List ℕ → List ℕ → List ℕ
octets_after_write place piece octets = take place octets
    ++ (replicate (gap_length place piece octets) 0
    ++ (piece ++ drop (place + length piece) octets))

-- one octet at all places of these ranges, each a place and a length
abbrev pub with_ranges_filled : ℕ → List (ℕ × ℕ) → List ℕ → List ℕ
with_ranges_filled octet [] octets = octets
with_ranges_filled octet (range ∷ ranges) octets =
    with_ranges_filled octet ranges (with_range_filled octet range.0 range.1 octets)

-- what a stop leaves, by the octets of the last sync, those that a read gives, and the ranges that were written
-- between
abbrev pub octets_after_stop : Fill → List ℕ → List ℕ → List (ℕ × ℕ) → List ℕ
octets_after_stop Old base seen written = base
octets_after_stop New base seen written = seen
octets_after_stop (Octet octet) base seen written = with_ranges_filled octet written seen
