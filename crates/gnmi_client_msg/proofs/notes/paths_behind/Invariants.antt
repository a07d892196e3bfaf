use Rattle.std.proofs.Common.{◌≡◌, map}
use Rattle.gnmi_client_msg.specs.Notifications.{path_behind}
use Rattle.gnmi_client_msg.proofs.notes.paths_behind.Given as goal

-- the paths so far, behind the prefix
abbrev pub invariant-loop-path : goal.invariant-loop-path
invariant-loop-path l = l.wholes ≡ map (path_behind l.prefix) l.yielded
