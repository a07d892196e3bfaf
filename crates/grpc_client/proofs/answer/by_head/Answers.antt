use Rattle.std.proofs.Common.{◌≡◌, true, rules}
use Rattle.std.specs.Prelude.{codes}
use Rattle.grpc_core.specs.Heads.{value_of, is_value}
use Rattle.grpc_client.proofs.Breaking.{head_answers}
use Rattle.grpc_client.proofs.answer.by_head.Goals as goal

pub returns : goal.returns
returns c =
    let it : is_value (codes "200") (value_of (codes ":status") c.args.head.now) ≡ true = search rules in
    head_answers c.args.head.now c.args.heard.now _ _ _ _ _ it c.last_headers.ensures c.value_of-2.ensures c.natural_in-code.ensures c.items.ensures c.by_code.ensures
