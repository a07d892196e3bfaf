use Rattle.std.proofs.Common.{◌≡◌, ◌≤◌, ◌-◌, length}
use Rattle.pb_message.specs.Values.{pieces_under, pieces_from}
use Rattle.gnmi_data_msg.specs.Parts.{each}
use Rattle.gnmi_client_msg.proofs.Each.{behind}
use Rattle.gnmi_client_msg.proofs.parts.each_told.Given as goal

-- what the messages so far tell, and those that are left
abbrev pub invariant-loop-piece : goal.invariant-loop-piece
invariant-loop-piece g l = record {
  inside : l.place ≤ length l.octets;
  told : each g.T.Told.meaning (pieces_under l.number l.octets) ≡ behind l.told (each g.T.Told.meaning (pieces_from l.number l.octets l.place));
}

abbrev pub decreases-loop-piece : goal.decreases-loop-piece
decreases-loop-piece g l = length l.octets - l.place
