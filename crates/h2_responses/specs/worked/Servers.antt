-- Servers that worked examples speak of.
use Rattle.std.specs.Prelude.{true, None, Ok}
use Rattle.hpack_block.specs.Tables.{empty_table}
use Rattle.h2_responses.specs.declared.server.ResponseState.{ResponseState}
use Rattle.h2_responses.specs.declared.server.ResponseState.TheVariants as state
use Rattle.h2_responses.specs.declared.server.Server.{Server}

-- its SETTINGS were read, and nothing else
abbrev pub greeted : Server
greeted =
    record {
      greeted = true;
      window = 65535;
      decoder = Ok empty_table;
      last = 0;
      state = state.Over;
      block = None;
    }

-- stream 3 is open, and 1 is over
abbrev pub calling : ResponseState → Server
calling now = record greeted { last = 3; state = now }
