use Rattle.std.proofs.Common.{refl}
use Rattle.path_core.proofs.Passed.{passed_on}
use Rattle.path_core.proofs.Keys.{key_name, key_value}
use Rattle.path_core.proofs.reading.read_key.Goals as goal

pub returns-in-Err-clause-bad : goal.returns-in-Err-clause-bad
returns-in-Err-clause-bad c fault key rest at = c.in-Err.ensures.bad (passed_on _ _ fault) key.0 _ (key_name c.args.begun.now key rest at)

pub returns-in-Err-read_text_before-clause-bad : goal.returns-in-Err-read_text_before-clause-bad
returns-in-Err-read_text_before-clause-bad c fault key rest at =
    c.in-Err-read_text_before.ensures.bad (passed_on _ _ fault) key.1 rest (key_value c.args.begun.now _ _ c.in-Ok.given.now c.in-Ok.ensures.ok refl key rest at)
