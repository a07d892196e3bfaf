-- Numbers with and without a sign, and the digits of equal decimals (RFC 7950 9.3).
use Rattle.std.specs.Prelude.{ℕ, zero, suc, ◌-◌, ◌*◌, ◌/◌, ◌%◌, ◌^◌, ℤ, pos, negsuc, Bool, true, false, ◌==◌, nat_le, Option, Some, None, if◌then◌else◌}

abbrev pub is_negative : ℤ → Bool
is_negative (pos number) = false
is_negative (negsuc number) = true

-- the number without its sign
abbrev pub magnitude : ℤ → ℕ
magnitude (pos number) = number
magnitude (negsuc number) = suc number

abbrev pub natural : ℤ → Option ℕ
natural (pos number) = Some number
natural (negsuc number) = None

-- the number without so many zeros at its end, where it has them
abbrev pub without_zeros : ℕ → ℕ → Option ℕ
without_zeros zero number = Some number
without_zeros (suc zeros) number =
    if number % 10 == 0 then without_zeros zeros (number / 10) else None

-- the digits of the same decimal with so many places behind the point as it is to have
abbrev pub rescaled_digits : ℕ → ℕ → ℕ → Option ℕ
rescaled_digits number from to =
    if nat_le from to then Some (number * 10 ^ (to - from)) else without_zeros (from - to) number
