use Rattle.std.proofs.Common.{◌≡◌, take}
use Rattle.gnmi_get_msg.specs.Replies.{get_reply}
use Rattle.gnmi_get_msg.proofs.replying.write_get_reply.Given as goal

-- the notifications so far
abbrev pub invariant-loop-note : goal.invariant-loop-note
invariant-loop-note l = l.message ≡ get_reply (take l.note-index l.notes)
