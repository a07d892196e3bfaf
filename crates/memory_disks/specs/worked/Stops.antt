-- What a stop leaves, on small cases.
use Rattle.std.specs.Prelude.{◌≡◌, [], ◌∷◌, refl}
use Rattle.base_kinds.specs.declared.fill.Fill.TheVariants.{Old, New, Octet}
use Rattle.memory_disks.specs.Octets.{octets_after_write, octets_after_stop}

-- one octet is written past the end of two, and one over the first
left_old : octets_after_stop Old (1 ∷ 2 ∷ [])
    (octets_after_write 0 (9 ∷ []) (octets_after_write 3 (8 ∷ []) (1 ∷ 2 ∷ [])))
    ((3, 1) ∷ (0, 1) ∷ []) ≡ 1 ∷ 2 ∷ []
left_old = refl

left_new : octets_after_stop New (1 ∷ 2 ∷ [])
    (octets_after_write 0 (9 ∷ []) (octets_after_write 3 (8 ∷ []) (1 ∷ 2 ∷ [])))
    ((3, 1) ∷ (0, 1) ∷ []) ≡ 9 ∷ 2 ∷ 0 ∷ 8 ∷ []
left_new = refl

left_octet : octets_after_stop (Octet 165) (1 ∷ 2 ∷ [])
    (octets_after_write 0 (9 ∷ []) (octets_after_write 3 (8 ∷ []) (1 ∷ 2 ∷ [])))
    ((3, 1) ∷ (0, 1) ∷ []) ≡ 165 ∷ 2 ∷ 0 ∷ 165 ∷ []
left_octet = refl
