use Rattle.std.proofs.Common.{◌≡◌, ◌++◌, take}
use Rattle.std.specs.List.{flat_map}
use Rattle.ask_command.specs.Printing.{encoding_line}
use Rattle.ask_command.proofs.answer.put_encodings.Given as goal

-- the encodings so far are added
abbrev pub invariant-loop-encoding : goal.invariant-loop-encoding
invariant-loop-encoding l = l.out ≡ l.fn.out ++ flat_map encoding_line (take l.encoding-index l.encodings)
