-- What is seen of a source of octets: what its reads have given so far. It is recorded as it happens, and never forgotten.
use Rattle.std.specs.Prelude.{◌≡◌, ℕ, ◌+◌, ◌<◌, ◌≤◌, ◌==◌, ◌⊎◌, List, [], ◌++◌, length, take, Option, None, Result, MatchResult, Bool, true, false, if◌then◌else◌}
use Rattle.std.specs.Io.KnownBytes.{Consumes, IsAtEnd}

-- the octets that its reads have given, whether the last of them found the end, how many have failed, and the octets
-- that are left, where it tells them
pub record Input : Type 0 where
  pub given : List ℕ
  pub ended : Bool
  pub faults : ℕ
  pub left : Option (List ℕ)

-- these octets were read, and no read failed
pub record Read (octets : List ℕ) (old new : Input) : Type 0 where
  pub given : new.given ≡ old.given ++ octets
  pub left : Consumes old.left new.left octets
  pub quiet : new.faults ≡ old.faults

-- a read failed, and changed nothing else
abbrev pub input_with_fault : Input → Input
input_with_fault input = record input { faults = input.faults + 1 }

-- these octets were read, and then a read failed
abbrev pub FailedAfter : List ℕ → Input → Input → Type 0
FailedAfter octets old new = (last : Input) × Read octets old last × (new ≡ input_with_fault last)

-- the end was found, and nothing is left
pub record IsEnded (input : Input) : Type 0 where
  pub found : input.ended ≡ true
  pub left : IsAtEnd input.left

-- nothing was read as yet
abbrev pub unread_input : Input
unread_input = record { given = []; ended = false; faults = 0; left = None }

-- the input after a read that gave n octets: none is the end, unless the buffer has no room
abbrev pub input_after : ℕ → List ℕ → Input → Input
input_after n buffer input = record input {
  given = input.given ++ take n buffer;
  ended = if length buffer == 0 then input.ended else n == 0;
}

-- n octets were read into the front of the buffer, and none exactly at the end, unless it has no room
pub record ReadsFront (n : ℕ) (buffer : List ℕ) (old new : Input) : Type 0 where
  pub bound : n ≤ length buffer
  pub read : Read (take n buffer) old new
  pub ended : new.ended ≡ (input_after n buffer old).ended
  pub at_end : 0 < length buffer → n ≡ 0 → IsEnded new

-- what one read answers: how many octets it gave, or that it failed
abbrev pub ReadGives : {E : Type 0} → Result ℕ E → List ℕ → Input → Input → Type 0
ReadGives result buffer old new =
    MatchResult result (λ n. ReadsFront n buffer old new) (λ _. new ≡ input_with_fault old)

-- ---- reading to a limit

-- these octets were read: to the end, or one more than the limit
pub record ReadsToLimit (limit : ℕ) (octets : List ℕ) (old new : Input) : Type 0 where
  pub read : Read octets old new
  pub bound : length octets ≤ limit + 1
  pub whole : IsEnded new ⊎ (length octets ≡ limit + 1)

-- a read failed behind at most so many octets
abbrev pub FailedToLimit : ℕ → Input → Input → Type 0
FailedToLimit limit old new = (octets : List ℕ) × (length octets ≤ limit)
    × FailedAfter octets old new

-- at most one octet more than the limit was read, and no read failed
abbrev pub StoppedToLimit : ℕ → Input → Input → Type 0
StoppedToLimit limit old new = (octets : List ℕ) × (length octets ≤ limit + 1) × Read octets old new
