use Rattle.std.proofs.Common.{arith}
use Rattle.pb_message.proofs.ValueSteps.{texts_first}
use Rattle.pb_message.proofs.values.last_text.Goals as goal

pub loop-piece-init : goal.loop-piece-init
loop-piece-init c = record {
  inside = omega arith;
  texts = texts_first c.args.number c.args.octets.now;
}
