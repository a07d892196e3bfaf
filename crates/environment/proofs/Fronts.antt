-- A buffer that has the front of what is left.
use Rattle.std.proofs.Common.{◌≡◌, ◌==◌, if◌then◌else◌, Bool, true, ℕ, ◌+◌, ◌<◌, List, ◌++◌, length, take, drop, min, Some, sym, ap, ◌∙◌, refl, length-drop, arith}
use Rattle.std.proofs.lemmas.List.{take-append-drop, drop-drop, nil_from_length}
use Rattle.environment.specs.Input.{Input, ReadsFront, input_after}

-- where there is room, a read that gives nothing finds the end
ended_at : (before : Bool) (n room : ℕ) → 0 < room → n ≡ 0 → (if room == 0 then before else n == 0) ≡ true
ended_at before n room some none = grind (arith, some, none)

-- what a source that tells what is left shows of a read
pub ReadsFront-of : (past : Input) (octets buffer : List ℕ) (place n : ℕ) → n ≡ min (length buffer) (length (drop place octets)) → take n buffer ≡ take n (drop place octets) → ReadsFront n buffer (record past { left = Some (drop place octets) }) (record (input_after n buffer past) { left = Some (drop (place + n) octets) })
ReadsFront-of past octets buffer place n count front = record {
  bound = omega (arith, count);
  read = record {
    given = refl;
    left = sym (take-append-drop n (drop place octets)) ∙ ap (λ r. r ++ drop n (drop place octets)) (sym front) ∙ ap (λ r. take n buffer ++ r) (drop-drop n place octets);
    quiet = refl;
  };
  ended = refl;
  at_end = λ room none. record {
    found = ended_at past.ended n (length buffer) room none;
    left = nil_from_length (drop (place + n) octets) (omega (arith, count, room, none, length-drop place octets, length-drop (place + n) octets));
  };
}
