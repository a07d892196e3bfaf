-- What the octets of a varint spell, from the back and from the front.
use Rattle.std.proofs.Common.{false, ltb, None, ◌≡◌, ℕ, zero, suc, ◌+◌, ◌*◌, ◌%◌, ◌^◌, ◌<◌, ◌≤◌, List, [], ◌∷◌, length, get_or, drop, refl, ap, arith, add-one, drop-cons}
use Rattle.std.proofs.lemmas.Bool.{le-ltb}
use Rattle.base_lists.specs.SevenBits.{number_of_groups}
use Rattle.base_lists.proofs.SevenBits.{number_of_groups-drop, number_of_groups-drop-le}
use Rattle.pb_wire.specs.inner.Reading.{value_in}

-- where an end past the first octet spells 57 bits or more, the whole does not fit 64
pub number_of_groups-large : (octets : List ℕ) (at : ℕ) → 0 < at → at ≤ length octets → 2 ^ 57 ≤ number_of_groups (drop at octets) → 2 ^ 64 ≤ number_of_groups octets
number_of_groups-large octets zero some le large = absurd (omega arith)
number_of_groups-large octets (suc at) some le large =
    let one_more = number_of_groups-drop octets at (omega arith) in
    let same : number_of_groups (drop (at + 1) octets) ≡ number_of_groups (drop (suc at) octets) = ap (λ (k : ℕ). number_of_groups (drop k octets)) (add-one at) in
    omega (arith, one_more, same, large, number_of_groups-drop-le at octets)

pub value_in-large : (octets : List ℕ) (at : ℕ) → 0 < at → at ≤ length octets → 2 ^ 57 ≤ number_of_groups (drop at octets) → value_in octets ≡ None
value_in-large octets at some le large =
    let large_whole : ltb (number_of_groups octets) (2 ^ 64) ≡ false = le-ltb _ _ (number_of_groups-large octets at some le large) in
    rw large_whole refl
