-- What was written so far, and a front of the next piece.
use Rattle.std.proofs.Common.{◌≡◌, ℕ, ◌+◌, ◌<◌, List, [], ◌∷◌, ◌++◌, length, take, Result, Ok, Err, refl, sym, ap, ◌∙◌, subst, arith, append_assoc, append-nil}
use Rattle.std.proofs.lemmas.List.{take-append-le, length-append}
use Rattle.std.proofs.Math.Seq.{take-append-add}
use Rattle.h2_frame.specs.Frames.{Frame}
use Rattle.h2_windows.specs.Written.{WritesOctets, spelled, octets_of}
use Rattle.environment.specs.Output.{Output, output_with, output_with_fault, Wrote, FailedWithin}

take_first : (n : ℕ) (a b : List ℕ) → n < length a → take n (a ++ b) ≡ take n a
take_first n a b less = take-append-le n a b (omega (arith, less))

take_behind : (n : ℕ) (a b : List ℕ) → take (length a + n) (a ++ b) ≡ a ++ take n b
take_behind n a b = take-append-add a b n

-- a front of the first of two pieces
pub failed_first : (old new : Output) (piece after whole : List ℕ) → whole ≡ piece ++ after → FailedWithin piece old new → FailedWithin whole old new
failed_first old new piece after whole is (n, less, last) = (n, (let e = ap length is in let l = length-append piece after in omega (arith, e, l, less)), last ∙ ap (λ t. output_with_fault (output_with t old)) (sym (ap (λ w. take n w) is ∙ take_first n piece after less)))

-- the first of two pieces, and a front of the second
pub failed_behind : (old mid new : Output) (done piece whole : List ℕ) → whole ≡ done ++ piece → Wrote done old mid → FailedWithin piece mid new → FailedWithin whole old new
failed_behind old mid new done piece whole is first (n, less, last) =
    let front : take (length done + n) whole ≡ done ++ take n piece = ap (λ w. take (length done + n) w) is ∙ take_behind n done piece in
    (length done + n, (let e = ap length is in let l = length-append done piece in omega (arith, e, l, less)), last ∙ ap (λ o. output_with_fault (output_with (take n piece) o)) first ∙ ap (λ t. output_with_fault (let o : Output = record { taken = t; faults = old.faults } in o)) (append_assoc old.taken done (take n piece) ∙ ap (λ t. old.taken ++ t) (sym front)))

-- both pieces
pub wrote_both : (old mid new : Output) (done piece whole : List ℕ) → whole ≡ done ++ piece → Wrote done old mid → Wrote piece mid new → Wrote whole old new
wrote_both old mid new done piece whole is first second = second ∙ ap (λ o. output_with piece o) first ∙ ap (λ t. let o : Output = record { taken = t; faults = old.faults } in o) (append_assoc old.taken done piece ∙ ap (λ t. old.taken ++ t) (sym is))

pub wrote_nothing : (old new : Output) → new ≡ old → Wrote [] old new
wrote_nothing old new same = same ∙ ap (λ t. let o : Output = record { taken = t; faults = old.faults } in o) (sym (append-nil old.taken))

-- a front of the next piece, behind what is done
pub failed_next : (old mid new : Output) (done piece after whole : List ℕ) → whole ≡ done ++ (piece ++ after) → Wrote done old mid → FailedWithin piece mid new → FailedWithin whole old new
failed_next old mid new done piece after whole is first second = failed_behind old mid new done (piece ++ after) whole is first (failed_first mid new piece after (piece ++ after) refl second)

-- an error that is passed on
pub failed_on : {T E : Type 0} (result : Result T E) (octets : List ℕ) (old new : Output) (e : E) → result ≡ Err e → FailedWithin octets old new → WritesOctets result octets old new
failed_on result octets old new e is failed = subst (λ r. WritesOctets r octets old new) (sym is) failed

-- a piece behind what was written before it
pub writes_behind : {T E : Type 0} (result : Result T E) (old mid new : Output) (done piece whole : List ℕ) → whole ≡ done ++ piece → Wrote done old mid → WritesOctets result piece mid new → WritesOctets result whole old new
writes_behind (Ok x) old mid new done piece whole is first second = wrote_both old mid new done piece whole is first second
writes_behind (Err e) old mid new done piece whole is first second = failed_behind old mid new done piece whole is first second

-- nothing is left to be written
pub wrote_all : (old new : Output) (done after whole : List ℕ) → whole ≡ done ++ after → after ≡ [] → Wrote done old new → Wrote whole old new
wrote_all old new done after whole is none wrote = wrote ∙ ap (λ t. output_with t old) (sym (is ∙ ap (λ a. done ++ a) none ∙ append-nil done))

-- one frame
pub writes_one : {T E : Type 0} (result : Result T E) (old new : Output) (frame : Frame) → WritesOctets result (spelled frame) old new → WritesOctets result (octets_of (frame ∷ [])) old new
writes_one result old new frame writes = subst (λ octets. WritesOctets result octets old new) (sym (append-nil (spelled frame))) writes
