-- How a number in decimal begins. Private functions alone cite this.
use Rattle.std.specs.Prelude.{ℕ, List, Bool, not, ◌&&◌, ◌||◌, ◌==◌, length, slice_index}

-- some octet, no sign, and no zero in front of other digits
abbrev pub begins_plainly : List ℕ → Bool
begins_plainly octets =
    not (length octets == 0) && not (slice_index octets 0 == 43)
    && (not (slice_index octets 0 == 48) || length octets == 1)
