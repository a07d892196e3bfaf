-- Octets read or written piece by piece.
pub use Rattle.std.proofs.KnownBytes.{Consumes-nil, Consumes-trans, Consumes-kept, Consumes-whole}
use Rattle.std.proofs.Common.{◌≡◌, ℕ, ◌+◌, List, [], ◌++◌, take, drop, Option, Some, None, ap, sym, ◌∙◌, refl, take-add, append_assoc}
use Rattle.std.proofs.lemmas.List.{append-nil}
use Rattle.std.specs.Io.KnownBytes.{Consumes}
use Rattle.environment.specs.Input.{Input, Read}
use Rattle.environment.specs.Output.{Output, output_with}

consumes_nothing : (left : Option (List ℕ)) → Consumes left left []
consumes_nothing None = tt
consumes_nothing (Some octets) = refl

-- nothing was read of an input that stays as it was
pub Read-nothing : (input : Input) → Read [] input input
Read-nothing input = record {
  given = sym (append-nil input.given);
  left = consumes_nothing input.left;
  quiet = refl;
}

pub Read-trans : (old mid new : Input) (first last : List ℕ) → Read first old mid → Read last mid new → Read (first ++ last) old new
Read-trans old mid new first last a b = record {
  given = b.given ∙ ap (λ g. g ++ last) a.given ∙ append_assoc old.given first last;
  left = Consumes-trans old.left mid.left new.left first last a.left b.left;
  quiet = b.quiet ∙ a.quiet;
}

-- a front of a piece was taken, and then a front of its rest
pub output_with-add : (output : Output) (piece : List ℕ) (i n : ℕ) → output_with (take n (drop i piece)) (output_with (take i piece) output) ≡ output_with (take (i + n) piece) output
output_with-add output piece i n = ap (λ octets. let o : Output = record { taken = octets; faults = output.faults } in o) (append_assoc output.taken (take i piece) (take n (drop i piece)) ∙ ap (λ r. output.taken ++ r) (sym (take-add i n piece)))
