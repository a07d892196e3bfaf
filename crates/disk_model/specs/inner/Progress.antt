-- How far a reading of so many octets has come.
use Rattle.std.specs.Prelude.{◌≡◌, ℕ, ◌+◌, ◌*◌, ◌<◌, min}
use Rattle.disk_model.specs.Calls.{Fuse, CallsPassed}
use Rattle.disk_model.specs.Reading.{piece_octets}

pub record HasRead (size got : ℕ) (old now : Fuse) : Type 0 where
  pub calls : ℕ
  pub passed : CallsPassed calls old now
  pub got_is : got ≡ min (calls * piece_octets) size
  pub begun : calls * piece_octets < size + piece_octets
