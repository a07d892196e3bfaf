use Rattle.std.proofs.Common.{◌≡◌, false, sym, ◌∙◌}
use Rattle.h2_streams.proofs.SettingsLemmas.{behind_six}
use Rattle.h2_responses.proofs.PushLemmas.{is_push, push_step}
use Rattle.h2_responses.proofs.control.has_push.Goals as goal

pub loop-rest-preserved : goal.loop-rest-preserved
loop-rest-preserved c =
    let e : is_push c.loop-rest.rest.now ≡ false = rw (← c.of_4.ensures) (cc) in
    rw (behind_six c.loop-rest.rest.now) (sym (push_step c.loop-rest.rest.now c.in-len6-up.len_at_least e) ∙ c.loop-rest.invariant)
