use Rattle.std.proofs.Common.{◌≡◌, ◌≤◌, ◌++◌, drop, length}
use Rattle.gnmi_get_msg.specs.Replies.{get_reply}
use Rattle.request_desk.specs.Gets.{notes_of}
use Rattle.request_desk.specs.Limits.{most_reply_octets}
use Rattle.request_desk.proofs.replies.reply_of_notes.Given as goal

-- the Notifications of the paths that are left follow those so far, which aren't too long
abbrev pub invariant-loop-path : goal.invariant-loop-path
invariant-loop-path l = record {
  rest : l.reply ++ get_reply (notes_of l.schema l.ask (drop l.path-index l.paths) l.view.stamp l.view.rows) ≡ get_reply (notes_of l.schema l.ask l.paths l.view.stamp l.view.rows);
  within : length l.reply ≤ most_reply_octets;
}
