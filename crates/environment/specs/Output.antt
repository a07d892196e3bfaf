-- What is seen of a sink of octets: what it has taken so far. It is recorded as it happens, and never forgotten.
use Rattle.std.specs.Prelude.{◌≡◌, ℕ, ◌+◌, ◌<◌, ◌≤◌, List, [], ◌++◌, length, take, Result, MatchResult}

-- the octets that it has taken, and how many writes have failed
pub record Output : Type 0 where
  pub taken : List ℕ
  pub faults : ℕ

-- nothing was written as yet
abbrev pub unwritten_output : Output
unwritten_output = record { taken = []; faults = 0 }

-- the output after it took these octets
abbrev pub output_with : List ℕ → Output → Output
output_with octets output = record output { taken = output.taken ++ octets }

-- a write failed, and changed nothing else
abbrev pub output_with_fault : Output → Output
output_with_fault output = record output { faults = output.faults + 1 }

-- the first n octets of the piece were taken, at least one of a piece that isn't empty
pub record WritesFront (n : ℕ) (piece : List ℕ) (old new : Output) : Type 0 where
  pub bound : n ≤ length piece
  pub octets : new ≡ output_with (take n piece) old
  pub some : 0 < length piece → 0 < n

-- what one write answers: how many octets it took, or that it failed
abbrev pub WriteTakes : {E : Type 0} → Result ℕ E → List ℕ → Output → Output → Type 0
WriteTakes result piece old new =
    MatchResult result (λ n. WritesFront n piece old new) (λ _. new ≡ output_with_fault old)

-- the text was taken, all of it, and nothing else, and no write failed
abbrev pub Wrote : List ℕ → Output → Output → Type 0
Wrote text old new = new ≡ output_with text old

-- a write failed when a proper prefix of the text was taken, and nothing else
abbrev pub FailedWithin : List ℕ → Output → Output → Type 0
FailedWithin text old new =
    (n : ℕ) × (n < length text) × (new ≡ output_with_fault (output_with (take n text) old))
