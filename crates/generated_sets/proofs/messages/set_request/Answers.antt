use Rattle.std.proofs.Common.{◌≡◌, ap, length, arith, rules}
use Rattle.generated_sets.specs.Messages.{set_request}
use Rattle.generated_sets.proofs.Sizes.{request_size}
use Rattle.generated_sets.proofs.messages.set_request.Goals as goal

pub returns-clause-small : goal.returns-clause-small
returns-clause-small c =
    let is : c.put_octets.new.out ≡ set_request c.args.drawn = search rules in
    omega (arith, ap length is, request_size c.args.drawn)
