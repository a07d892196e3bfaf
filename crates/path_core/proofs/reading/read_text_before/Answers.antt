use Rattle.path_core.proofs.Spellings.{same_text_at}
use Rattle.path_core.proofs.reading.read_text_before.Goals as goal

pub returns-in-None-clause-bad : goal.returns-in-None-clause-bad
returns-in-None-clause-bad c fault octets rest at =
    c.in-None.ensures.none rest (same_text_at c.args.part c.args.text.now c.in-Ok.read octets c.in-Ok.ended.now _ c.in-Ok.ensures.ok at).1
