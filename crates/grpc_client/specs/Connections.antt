-- What is known of a connection, and how what comes and what is sent changes it (RFC 9113 sections 5.2, 6.5, 6.8 and 6.9).
use Rattle.std.specs.Prelude.{◌≡◌, ◌⊎◌, ℕ, ◌+◌, List, [], Bool, true, false, ◌||◌, ◌==◌, drop, min, ℤ, pos, ◌+ℤ◌, ◌-ℤ◌, if◌then◌else◌}
use Rattle.h2_windows.specs.Windows.{room, passes}
use Rattle.h2_responses.specs.declared.event.ServerEvent.{ServerEvent}
use Rattle.h2_responses.specs.declared.event.ServerEvent.TheVariants as event
use Rattle.h2_responses.specs.States.{new_server, opens}
use Rattle.grpc_client.specs.declared.connection.Connection.{Connection}
use Rattle.grpc_client.specs.Responses.{nothing_heard, heard_with}

-- Nothing was sent: both windows are as at first (section 6.9.2).
abbrev pub new_connection : Connection
new_connection =
    record {
      begun = false;
      server = new_server;
      window = pos 65535;
      credit = pos 0;
      unsent = [];
      owes_update = false;
      limit = 2147483647;
      left = 281474976710656;
      heard = nothing_heard;
    }

-- Streams 1, 3, 5 and so on, one after the other (section 5.1.1). The number stands still at the end of its type.
abbrev pub next_stream : Connection → ℕ
next_stream connection =
    if connection.server.last == 0 then 1 else min (connection.server.last + 2) 4294967295

-- a call of these octets
abbrev pub opened : ℕ → List ℕ → Connection → Connection
opened stream octets connection =
    record connection {
      begun = true;
      server = opens stream connection.server;
      credit = pos 0;
      unsent = octets;
      owes_update = false;
      heard = nothing_heard;
    }

-- the window of the call's stream: a new initial window changes it by the difference (section 6.9.2)
abbrev pub own_window : Connection → ℤ
own_window connection = pos connection.server.window +ℤ connection.credit

-- An event would take a window above the largest one (section 6.9.1).
abbrev pub overflows : ServerEvent → Connection → Bool
overflows (event.Settings window table) connection = passes (own_window connection +ℤ pos 0)
overflows (event.Window stream n) connection =
    if stream == 0 then passes (pos 0 +ℤ connection.window +ℤ pos n)
    else passes (own_window connection +ℤ pos n)
overflows _ connection = false

abbrev pub with_windows : ℕ → ℕ → Connection → Connection
with_windows stream n connection =
    if stream == 0 then record connection { window = connection.window +ℤ pos n }
    else record connection { credit = connection.credit +ℤ pos n }

-- what an event changes
abbrev pub with_event : ServerEvent → Connection → Connection
with_event (event.Settings window table) connection =
    record connection { owes_update = connection.owes_update || table }
with_event (event.Window stream n) connection = with_windows stream n connection
with_event (event.GoAway last) connection =
    record connection { limit = min connection.limit last }
with_event event connection =
    record connection { heard = heard_with event connection.heard }

-- so many octets of the call are sent (section 6.9.1)
abbrev pub spent : ℕ → Connection → Connection
spent n connection =
    record connection {
      window = connection.window -ℤ pos n;
      credit = connection.credit -ℤ pos n;
      unsent = drop n connection.unsent;
    }

-- octets of the call wait only where a window is 0 or below
abbrev pub IsPaced : Connection → Type 0
IsPaced connection =
    (connection.unsent ≡ []) ⊎ ((room connection.window ≡ 0) ⊎ (room (own_window connection) ≡ 0))
