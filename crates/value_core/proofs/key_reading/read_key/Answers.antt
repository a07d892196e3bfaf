use Rattle.std.proofs.Common.{sym, ◌∙◌}
use Rattle.value_core.proofs.Keys.{bin_from}
use Rattle.value_core.proofs.key_reading.read_key.Goals as goal

pub returns-in-Ok-read_base64-clause-ok : goal.returns-in-Ok-read_base64-clause-ok
returns-in-Ok-read_base64-clause-ok c =
    let found = c.in-Ok-read_base64 in
    bin_from c.args.shape.now c.args.text.now found.octets c.in-Bin.is found.ensures.bytes (sym c.octets-octets.ensures.value ∙ found.ensures.ok)
