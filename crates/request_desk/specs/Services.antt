-- What is to be done for a message of each method.
use Rattle.std.specs.Prelude.{ℕ, List, Ok, Err, if◌then◌else◌}
use Rattle.base_kinds.specs.declared.refusal.Refusal.TheVariants.{BadMessage, Unsupported}
use Rattle.base_kinds.specs.Schema.{SchemaNode}
use Rattle.grpc_core.specs.declared.method.Method.{Method}
use Rattle.grpc_core.specs.declared.method.Method.TheVariants as methods
use Rattle.pb_message.specs.Fields.{is_message}
use Rattle.gnmi_get_msg.specs.Replies.{capabilities}
use Rattle.request_desk.specs.Gets.{get_task}
use Rattle.request_desk.specs.Sets.{set_task}
use Rattle.request_desk.specs.Tasks.{Task, Says}

-- Of a CapabilityRequest nothing is looked at but that it is a message (gNMI 3.2.1).
abbrev pub capabilities_task : List SchemaNode → List ℕ → Task
capabilities_task schema octets =
    if is_message octets then Says (Ok (capabilities schema)) else Says (Err BadMessage)

-- A Subscribe call isn't answered by one message.
abbrev pub task_of : List SchemaNode → Method → List ℕ → Task
task_of schema methods.Capabilities octets = capabilities_task schema octets
task_of schema methods.Get octets = get_task schema octets
task_of schema methods.Set octets = set_task schema octets
task_of schema methods.Subscribe octets = Says (Err Unsupported)
