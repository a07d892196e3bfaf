-- How a connection ends where its sending half goes on no more.
use Rattle.std.specs.Prelude.{ℕ}
use Rattle.h2_frame.specs.ErrorCodes.{flow_control_error}
use Rattle.h2_send.specs.declared.fault.WireFaultOut.{WireFaultOut}
use Rattle.h2_send.specs.declared.fault.WireFaultOut.TheVariants as faults
use Rattle.session_core.specs.declared.how.How.{How}
use Rattle.session_core.specs.declared.how.How.TheVariants as hows

abbrev pub how_of : WireFaultOut → How
how_of faults.Overflow = hows.Protocol flow_control_error
how_of faults.WriteFault = hows.WriteFault
how_of faults.NoMemory = hows.NoMemory

-- an end that isn't the source's
abbrev pub IsOwn : How → Type 0
IsOwn (hows.Protocol code) = Unit {0}
IsOwn hows.WriteFault = Unit {0}
IsOwn hows.NoMemory = Unit {0}
IsOwn _ = ⊥

-- the code that the connection is ended with: no error, but for one of the peer
abbrev pub code_of : How → ℕ
code_of (hows.Protocol code) = code
code_of _ = 0
