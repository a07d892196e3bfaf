use Rattle.std.proofs.Common.{◌≡◌, sym, ◌∙◌, Ok}
use Rattle.h2_streams.proofs.SettingsLemmas.{first_setting, one_more, behind_six}
use Rattle.h2_streams.proofs.settings.settings_in.Goals as goal

pub loop-rest-preserved : goal.loop-rest-preserved
loop-rest-preserved c =
    let e : first_setting c.loop-rest.rest.now c.loop-rest.told ≡ Ok c.in_ok-told.told =
    rw (← c.of_2.ensures, ← c.of_4.ensures) (sym c.with_setting.ensures ∙ c.in_ok-told.was) in
    rw (behind_six c.loop-rest.rest.now)
    (sym (one_more c.loop-rest.rest.now c.loop-rest.told c.in_ok-told.told c.in-len6-up.len_at_least e) ∙ c.loop-rest.invariant)
