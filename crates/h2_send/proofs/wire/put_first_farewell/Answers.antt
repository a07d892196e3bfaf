use Rattle.std.proofs.Common.{rules, ◌≡◌, false, nat_eq, [], ◌∷◌}
use Rattle.h2_windows.specs.Control.{greeting}
use Rattle.h2_windows.specs.Written.{octets_of}
use Rattle.h2_windows.proofs.Fronts.{writes_behind}
use Rattle.h2_send.specs.Farewells.{farewell}
use Rattle.h2_send.specs.Wires.{behind_greeting}
use Rattle.h2_send.proofs.Closing.{greeting_first}
use Rattle.h2_send.proofs.wire.put_first_farewell.Goals as goal

pub returns : goal.returns
returns g c =
    let last = farewell c.args.code c.args.connection.now in
    let some : nat_eq c.args.code 0 ≡ false = search rules in
    writes_behind c.put_farewell.result _ _ _ (octets_of (greeting ∷ [])) (octets_of last) (octets_of (behind_greeting last)) (greeting_first c.args.code c.args.connection.now some) c.in_ok-put_greeting.ensures c.put_farewell.ensures
