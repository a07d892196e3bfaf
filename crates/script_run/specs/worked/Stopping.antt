-- What is printed behind a stop, and when an opening stops, on small cases.
use Rattle.std.specs.Prelude.{◌≡◌, [], ◌∷◌, codes, None, Some, refl}
use Rattle.base_kinds.specs.declared.fill.Fill.TheVariants.{Old, New}
use Rattle.disk_model.specs.Arming.{arming_after_calls, armed_by, restarted}
use Rattle.script_run.specs.Restarts.{restart_text}
use Rattle.script_run.specs.Stops.{Image, calls_to_open}
use Rattle.script_run.specs.Turns.{failed_call}

-- the octets of a journal without entries, but for their values
abbrev image : Image
image = record {
  octets = 0 ∷ 0 ∷ 0 ∷ 0 ∷ 0 ∷ 0 ∷ 0 ∷ 0 ∷ 0 ∷ 0 ∷ 0 ∷ 0 ∷ 0 ∷ 0 ∷ 0 ∷ 0 ∷ 0 ∷ [];
  history = [];
}

-- two stops behind which no book could be opened
two_stops : restart_text (image ∷ []) None ≡ codes "stopped\nstopped\n"
two_stops = refl

-- a sync, a length and one read
three_calls : calls_to_open image ≡ 3
three_calls = refl

-- a second stop counts from the first call of the opening
stops_in_the_read : failed_call (calls_to_open image)
    (restarted (arming_after_calls 1 (armed_by ((0, Old) ∷ (2, New) ∷ []) []))) ≡ Some 2
stops_in_the_read = refl

stops_behind_it : failed_call (calls_to_open image)
    (restarted (arming_after_calls 1 (armed_by ((0, Old) ∷ (3, New) ∷ []) []))) ≡ None
stops_behind_it = refl

-- a failure counts on through a stop
fails_in_the_sync : failed_call (calls_to_open image)
    (restarted (arming_after_calls 1 (armed_by ((0, Old) ∷ []) ((1, tt) ∷ [])))) ≡ Some 0
fails_in_the_sync = refl
