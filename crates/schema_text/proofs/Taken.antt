-- Lists of parts that are none of so many words.
use Rattle.std.proofs.Common.{◌≡◌, ℕ, ◌+◌, ◌<◌, suc, List, [], ◌∷◌, ◌++◌, Bool, true, false, ◌&&◌, leb, length, refl, ap, ◌∙◌, arith, None, length-append}
use Rattle.std.specs.List.{list_all}
use Rattle.std.proofs.lemmas.Bool.Decides.{nat_tests}
use Rattle.std.proofs.lemmas.List.Folds.{list_all-append}
use Rattle.schema_text.specs.Words.{some_parts}

no_parts : (test : List ℕ → Bool) (most : ℕ) (parts : List (List ℕ)) → (leb (length parts) most && list_all test parts) ≡ false → some_parts test most parts ≡ None
no_parts test most [] e = refl
no_parts test most (part ∷ parts) e = rw e refl

right_false : (a b : Bool) → b ≡ false → (a && b) ≡ false
right_false true b e = e
right_false false b e = refl

above : (n most : ℕ) → most < n → leb n most ≡ false
above n most h = grind (arith, nat_tests)

-- one part more than so many
pub too_many : (test : List ℕ → Bool) (most : ℕ) (whole texts parts : List (List ℕ)) (part : List ℕ) → whole ≡ texts ++ part ∷ parts → length texts ≡ most → some_parts test most whole ≡ None
too_many test most whole texts parts part is full =
    let count : length whole ≡ length texts + suc (length parts) = ap length is ∙ length-append texts (part ∷ parts) in
    no_parts test most whole (rw (above (length whole) most (omega arith)) refl)

-- a part that doesn't pass
pub refused : (test : List ℕ → Bool) (most : ℕ) (whole texts parts : List (List ℕ)) (part : List ℕ) → whole ≡ texts ++ part ∷ parts → test part ≡ false → some_parts test most whole ≡ None
refused test most whole texts parts part is fails =
    let both : list_all test whole ≡ false = ap (list_all test) is ∙ list_all-append test texts (part ∷ parts) ∙ right_false (list_all test texts) (list_all test (part ∷ parts)) (rw fails refl) in
    no_parts test most whole (right_false (leb (length whole) most) (list_all test whole) both)
