use Rattle.std.proofs.Common.{◌++◌, refl}
use Rattle.std.specs.Fmt.{sign_text}
use Rattle.value_core.proofs.Cuts.{no_parts, signless_behind}
use Rattle.value_core.proofs.Outcomes.{none_from}
use Rattle.value_core.proofs.decimals.unsigned_parts.Goals as goal

pub returns-in_err-behind-clause-none : goal.returns-in_err-behind-clause-none
returns-in_err-behind-clause-none c =
    none_from _ _ (no_parts (sign_text c.args.negative ++ c.args.octets.now) c.args.octets.now c.cut_before.result.0.now c.cut_before.result.1.now c.args.negative refl
    (signless_behind c.args.negative c.args.octets.now c.requires) c.cut_before.ensures c.in_err-behind.ensures.none)
