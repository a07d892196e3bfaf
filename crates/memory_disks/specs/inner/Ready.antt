-- What a step of a call of a disk that stops may take for granted.
use Rattle.std.specs.Prelude.{◌≡◌, true, None}
use Rattle.disk_model.specs.declared.outcome.Outcome.{Outcome}
use Rattle.disk_model.specs.declared.outcome.Outcome.TheVariants.{Passes, Fails, Stops}
use Rattle.memory_disks.specs.Fuses.{FuseView}

-- A disk is ready for what its call does: while it passes or stops it hasn't left anything, and in its stop it is marked
-- as stopped.
abbrev pub IsReady : Outcome → FuseView → Type 0
IsReady Passes disk = disk.left ≡ None
IsReady Fails disk = Unit {0}
IsReady (Stops fill) disk = (disk.left ≡ None) × (disk.arming.stopped ≡ true)
