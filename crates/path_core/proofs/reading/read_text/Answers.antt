use Rattle.std.proofs.Common.{refl}
use Rattle.path_core.proofs.Spellings.{no_text}
use Rattle.path_core.proofs.reading.read_text.Goals as goal

pub returns-in-Err-NotUtf8-clause-bad : goal.returns-in-Err-NotUtf8-clause-bad
returns-in-Err-NotUtf8-clause-bad c fault =
    let refused = rw c.in-Err-NotUtf8.field-0-is at c.in-Err-NotUtf8.ensures.not_utf8 in
    no_text c.args.part c.args.text.now c.in_ok-octets.octets.items c.in_ok-octets.rest.now c.in_ok-octets.ensures.octets (λ utf8. refused refl (rw c.deref.ensures.value utf8))
