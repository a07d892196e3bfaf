-- How many calls of a disk a reading makes.
use Rattle.std.specs.Prelude.{ℕ, Result, Ok, Err}
use Rattle.std.specs.Int.{div_ceil}
use Rattle.environment.specs.declared.reading.ReadFault.{ReadFault}
use Rattle.environment.specs.declared.reading.ReadFault.TheVariants.{Failed, NoMemory}
use Rattle.disk_model.specs.Calls.{Fuse, CallsPassed, FailsWithin, PassesWithin}

-- how many octets one read asks for
abbrev pub piece_octets : ℕ
piece_octets = 65536

-- one read for each piece that is begun
abbrev pub reads_of : ℕ → ℕ
reads_of octets = div_ceil octets piece_octets

-- a reading by so many calls, at most so many where it fails or memory is wanting
abbrev pub ReadingEnds : {T : Type 0} → ℕ → Fuse → Fuse → Result T ReadFault → Type 0
ReadingEnds calls old new (Ok value) = CallsPassed calls old new
ReadingEnds calls old new (Err Failed) = FailsWithin calls old new
ReadingEnds calls old new (Err NoMemory) = PassesWithin calls old new
