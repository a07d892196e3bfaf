use Rattle.std.proofs.Common.{◌≡◌, map}
use Rattle.gnmi_data_msg.specs.Profile.{path_in}
use Rattle.gnmi_data_msg.proofs.paths.paths_of.Given as goal

-- the elements of the paths so far
abbrev pub invariant-loop-path : goal.invariant-loop-path
invariant-loop-path l = l.list ≡ map path_in l.yielded
