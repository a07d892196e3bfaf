-- What a stop may leave of small disks.
use Rattle.std.specs.Prelude.{◌≡◌, ℕ, [], ◌∷◌, take, Some, None, refl}
use Rattle.disk_model.specs.Images.{IsImage, mask_after_sync, mask_after_write}
use Rattle.disk_model.specs.Content.{Wrote}

-- three octets were synced, and a write of two at place 1 frees both places
write_within : mask_after_write 1 2 (mask_after_sync (7 ∷ 8 ∷ 9 ∷ [])) ≡ Some 7 ∷ None ∷ None ∷ []
write_within = refl

-- what is past the old end is in no mask
write_past : mask_after_write 2 3 (mask_after_sync (7 ∷ 8 ∷ 9 ∷ [])) ≡ Some 7 ∷ Some 8 ∷ None ∷ []
write_past = refl

-- a cut to one octet, and then a write of three over the whole
cut_then_write : mask_after_write 0 3 (take 1 (mask_after_sync (7 ∷ 8 ∷ 9 ∷ []))) ≡ None ∷ []
cut_then_write = refl

-- a torn write may leave one new octet and one old, and more behind
torn : IsImage (mask_after_write 1 2 (mask_after_sync (7 ∷ 8 ∷ 9 ∷ []))) (7 ∷ 20 ∷ 9 ∷ 30 ∷ [])
torn = (refl, tt)

-- but it keeps each octet that it doesn't touch
untouched_changed :
    IsImage (mask_after_write 1 2 (mask_after_sync (7 ∷ 8 ∷ 9 ∷ []))) (6 ∷ 20 ∷ 9 ∷ []) → ⊥
untouched_changed image = let six : ℕ = 6 in let wrong : six ≡ 7 = image.0 in absurd (cc)

-- and the length of the last sync
shorter : IsImage (mask_after_write 1 2 (mask_after_sync (7 ∷ 8 ∷ 9 ∷ []))) (7 ∷ 20 ∷ []) → ⊥
shorter image = image.1

-- a write past the end, with any octet between
past_end : Wrote 3 (5 ∷ 6 ∷ []) (7 ∷ 8 ∷ []) (7 ∷ 8 ∷ 99 ∷ 5 ∷ 6 ∷ [])
past_end = record { gap = 99 ∷ []; gap_is = refl; octets = refl }

-- a piece of no octets changes nothing, also past the end
no_octets : Wrote 9 [] (7 ∷ 8 ∷ []) (7 ∷ 8 ∷ [])
no_octets = record { gap = []; gap_is = refl; octets = refl }
