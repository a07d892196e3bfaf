-- What holds of the pass of a port.
use Rattle.std.specs.Prelude.{◌≡◌, ℕ, ◌<◌, ◌≤◌}
use Rattle.h2_send.specs.Port.{Progress}
use Rattle.turn_lock.specs.Passes.{OwnsItsEntries, numbers_of, occurrences}
use Rattle.turn_lock.specs.declared.view.View.{View}
use Rattle.shared_wire.specs.Records.{WireRecord, record_author}
use Rattle.shared_wire.specs.Visits.{first_records, most_authors}

-- The lock began with one record, and the pass knows that its own number is given out. No number is above the last one.
pub record KeepsWire (pass : View WireRecord) : Type 0 where
  pub some : 0 < pass.turn.number
  pub counted : pass.turn.number ≤ pass.known
  pub began_at : Progress
  pub began : pass.first ≡ first_records began_at
  pub small : (n : ℕ) → most_authors < n → occurrences n (numbers_of pass) ≡ 0
  pub owner : OwnsItsEntries record_author pass
