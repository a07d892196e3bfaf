-- What is recorded of a read.
use Rattle.std.proofs.Common.{◌≡◌, ℕ, ◌≤◌, ◌<◌, ◌==◌, if◌then◌else◌, Bool, true, List, length, None, refl, arith}
use Rattle.environment.specs.Input.{Input, ReadsFront, input_after}

found_at : (before : Bool) (n room : ℕ) → 0 < room → n ≡ 0 → (if room == 0 then before else n == 0) ≡ true
found_at before n room some none = grind (arith, some, none)

-- of a source that can't tell what is left the record says what it gave
pub ReadsFront-recorded : (past : Input) (n : ℕ) (buffer : List ℕ) → n ≤ length buffer → ReadsFront n buffer (record past { left = None }) (record (input_after n buffer past) { left = None })
ReadsFront-recorded past n buffer bound = record {
  bound = bound;
  read = record { given = refl; left = tt; quiet = refl };
  ended = refl;
  at_end = λ room none. record { found = found_at past.ended n (length buffer) room none; left = tt };
}
