-- Faults of a call, and after which of them the connection goes on.
use Rattle.std.specs.Prelude.{Bool, true, false}
use Rattle.h2_events.specs.declared.event.RecvFault.{RecvFault}
use Rattle.h2_events.specs.declared.event.RecvFault.TheVariants as received
use Rattle.grpc_client.specs.declared.fault.CallFault.{CallFault}
use Rattle.grpc_client.specs.declared.fault.CallFault.TheVariants as fault

abbrev pub fault_of : RecvFault → CallFault
fault_of (received.Protocol code) = fault.Protocol code
fault_of received.NoMemory = fault.NoMemory

-- A call that was refused leaves the connection as good as one that was accepted.
abbrev pub goes_on : CallFault → Bool
goes_on (fault.Refused code) = true
goes_on (fault.Http status) = true
goes_on _ = false
