use Rattle.std.proofs.Common.{◌≤◌, length, rules}
use Rattle.ask_command.specs.Run.{longest_address}
use Rattle.ask_command.proofs.Obeying.{obeyed}
use Rattle.ask_command.proofs.run.call.Goals as goal

pub returns-in-Ok : goal.returns-in-Ok
returns-in-Ok g c =
    let short : length c.args.address.now ≤ longest_address = search rules in
    obeyed _ _ _ _ c.in-Ok.request _ short c.in-Ok.ensures.ok c.send.ensures
