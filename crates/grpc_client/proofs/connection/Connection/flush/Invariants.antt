use Rattle.std.proofs.Common.{◌≡◌, ℕ, ◌≤◌, List, [], length}
use Rattle.environment.specs.Output.{Wrote}
use Rattle.h2_windows.specs.Windows.{room}
use Rattle.h2_windows.specs.Sending.{largest_payload}
use Rattle.grpc_client.specs.Connections.{own_window, IsPaced}
use Rattle.grpc_client.specs.Exchanges.{Did, at}
use Rattle.grpc_client.proofs.connection.Connection.flush.Given as goal

-- some octets are sent, and so many can go next
abbrev pub invariant-loop-count : goal.invariant-loop-count
invariant-loop-count g l =
    let seen = g.O.Sink.seen in
    record {
      went : List ℕ;
      did : Did (at l.fn.self) [] went (at l.self);
      wrote : Wrote went (seen l.fn.output) (seen l.output);
      left : l.self.left ≡ l.fn.self.left;
      unsent : l.count ≤ length l.self.unsent;
      payload : l.count ≤ largest_payload;
      own : l.count ≤ room (own_window l.self);
      connection : l.count ≤ room l.self.window;
      none : l.count ≡ 0 → IsPaced l.self;
    }

abbrev pub decreases-loop-count : goal.decreases-loop-count
decreases-loop-count g l = length l.self.unsent
