-- What armed calls do, on small cases.
use Rattle.std.specs.Prelude.{◌≡◌, [], ◌∷◌, refl}
use Rattle.base_kinds.specs.declared.fill.Fill.TheVariants.{Old, New}
use Rattle.disk_model.specs.Arming.{arming_after_calls, armed_by, next_outcomes, restarted}
use Rattle.disk_model.specs.Arming.{with_failure, with_stop}
use Rattle.disk_model.specs.declared.outcome.Outcome.TheVariants.{Passes, Fails, Stops}

-- a failure in the second call, and a stop in the third, which the failed call counts for
fail_then_stop : next_outcomes 5 (armed_by ((2, New) ∷ []) ((1, tt) ∷ []))
    ≡ Passes ∷ Fails ∷ Stops New ∷ Fails ∷ Fails ∷ []
fail_then_stop = refl

-- a second failure counts from the call after the first
second_failure : next_outcomes 6 (with_failure 2 (armed_by [] ((1, tt) ∷ [])))
    ≡ Passes ∷ Fails ∷ Passes ∷ Passes ∷ Fails ∷ Passes ∷ []
second_failure = refl

-- a stop and a failure in one call: it stops, and both are spent
both_in_one_call : next_outcomes 3 (armed_by ((1, Old) ∷ []) ((1, tt) ∷ []))
    ≡ Passes ∷ Stops Old ∷ Fails ∷ []
both_in_one_call = refl

both_are_spent : next_outcomes 2
    (restarted (arming_after_calls 3 (armed_by ((1, Old) ∷ []) ((1, tt) ∷ []))))
    ≡ Passes ∷ Passes ∷ []
both_are_spent = refl

-- a second stop counts from the first call of the disk that is made again, and no call between counts
second_stop : next_outcomes 3
    (restarted (arming_after_calls 7 (with_stop 1 New (armed_by ((1, Old) ∷ []) []))))
    ≡ Passes ∷ Stops New ∷ Fails ∷ []
second_stop = refl

-- a failure counts on through it: the stopped call counts for it
failure_counts_on : next_outcomes 3
    (restarted (arming_after_calls 7 (armed_by ((1, Old) ∷ []) ((3, tt) ∷ []))))
    ≡ Passes ∷ Fails ∷ Passes ∷ []
failure_counts_on = refl
