-- The streams that this client opened, one after the other (RFC 9113 section 5.1).
use Rattle.std.specs.Prelude.{ℕ, ◌%◌, Bool, false, ◌||◌, ◌==◌, nat_lt, None, Ok, if◌then◌else◌}
use Rattle.hpack_block.specs.Tables.{empty_table}
use Rattle.h2_responses.specs.declared.server.ResponseState.{ResponseState}
use Rattle.h2_responses.specs.declared.server.ResponseState.TheVariants.{Waiting, Over}
use Rattle.h2_responses.specs.declared.server.Server.{Server}

-- A server of which nothing was read. Its settings are those at first (section 6.5.2).
abbrev pub new_server : Server
new_server =
    record {
      greeted = false;
      window = 65535;
      decoder = Ok empty_table;
      last = 0;
      state = Over;
      block = None;
    }

-- This client opens a stream, with a number above the last one.
abbrev pub opens : ℕ → Server → Server
opens stream server = record server { last = stream; state = Waiting }

-- A stream that this client never opened. A client opens odd ones (section 5.1.1), and stream 0 is the connection.
abbrev pub is_unopened : Server → ℕ → Bool
is_unopened server id = (id % 2 == 0) || nat_lt server.last id

-- How far the response has come on a stream that this client opened. On all but the last one it is over.
abbrev pub state_on : Server → ℕ → ResponseState
state_on server id = if id == server.last then server.state else Over

abbrev pub in_state : ResponseState → Server → Server
in_state now server = record server { state = now }
