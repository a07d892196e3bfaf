use Rattle.std.proofs.Common.{◌≡◌, arith, rules}
use Rattle.h2_windows.specs.Windows.{room}
use Rattle.grpc_client.specs.Connections.{own_window}
use Rattle.grpc_client.proofs.Breaking.{paced_if}
use Rattle.grpc_client.proofs.connection.Connection.share.Goals as goal

pub returns-clause-none : goal.returns-clause-none
returns-clause-none c =
    let w : c.room.result ≡ room c.args.self.now.window = search rules in
    let o : c.room-2.result ≡ room (own_window c.args.self.now) = search rules in
    λ e. paced_if c.args.self.now (λ some wide own. omega (arith, e, some, wide, own, w, o))
