-- In which call a single line hits.
use Rattle.std.proofs.Common.{◌≡◌, ◌≢◌, ℕ, zero, suc, ◌<◌, [], ◌∷◌, true, refl, ap, ◌∙◌, arith}
use Rattle.disk_model.specs.declared.outcome.Outcome.TheVariants.{Passes, Fails, Stops}
use Rattle.base_kinds.specs.declared.fill.Fill.{Fill}
use Rattle.disk_model.specs.Arming.{Arming, outcome_of, arming_after, arming_after_calls, armed_by}

pub unarmed_passes : (calls : ℕ) → outcome_of (arming_after_calls calls (armed_by [] [])) ≡ Passes
unarmed_passes zero = refl
unarmed_passes (suc calls) = unarmed_passes calls

pub stopped_fails : (calls : ℕ) (arming : Arming) → arming.stopped ≡ true → outcome_of (arming_after_calls calls arming) ≡ Fails
stopped_fails zero arming is = rw is refl
stopped_fails (suc calls) arming is = let same : arming_after arming ≡ arming = rw is refl in ap (λ a. outcome_of (arming_after_calls calls a)) same ∙ stopped_fails calls arming is

pub stopped_stays : (arming : Arming) → arming.stopped ≡ true → arming_after arming ≡ arming
stopped_stays arming is = rw is refl

pub fail_hits : (passes : ℕ) → outcome_of (arming_after_calls passes (armed_by [] ((passes, tt) ∷ []))) ≡ Fails
fail_hits zero = refl
fail_hits (suc passes) = fail_hits passes

pub fail_others : (passes call : ℕ) → call ≢ passes → outcome_of (arming_after_calls call (armed_by [] ((passes, tt) ∷ []))) ≡ Passes
fail_others zero zero other = absurd (other refl)
fail_others zero (suc call) other = unarmed_passes call
fail_others (suc passes) zero other = refl
fail_others (suc passes) (suc call) other = fail_others passes call (λ same. other (ap (λ n. suc n) same))

pub stop_hits : (passes : ℕ) (fill : Fill) → outcome_of (arming_after_calls passes (armed_by ((passes, fill) ∷ []) [])) ≡ Stops fill
stop_hits zero fill = refl
stop_hits (suc passes) fill = stop_hits passes fill

pub stop_before : (passes call : ℕ) (fill : Fill) → call < passes → outcome_of (arming_after_calls call (armed_by ((passes, fill) ∷ []) [])) ≡ Passes
stop_before zero call fill lt = absurd (omega (arith, lt))
stop_before (suc passes) zero fill lt = refl
stop_before (suc passes) (suc call) fill lt = stop_before passes call fill (omega (arith, lt))

pub stop_behind : (passes call : ℕ) (fill : Fill) → passes < call → outcome_of (arming_after_calls call (armed_by ((passes, fill) ∷ []) [])) ≡ Fails
stop_behind passes zero fill lt = absurd (omega (arith, lt))
stop_behind zero (suc call) fill lt = stopped_fails call (record { stops = []; fails = []; stopped = true }) refl
stop_behind (suc passes) (suc call) fill lt = stop_behind passes call fill (omega (arith, lt))
