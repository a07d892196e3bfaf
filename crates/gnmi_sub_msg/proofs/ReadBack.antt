-- What is written of a SubscribeResponse is found in it.
use Rattle.std.proofs.Common.{◌≡◌, ℕ, ◌^◌, ◌<◌, true, false, List, [], ◌∷◌, length, Some, None, refl, ap, arith, append-nil, lit≤}
use Rattle.pb_wire.specs.Values.{varints}
use Rattle.pb_message.specs.Fields.{all_fields, is_message}
use Rattle.pb_message.specs.Values.{pieces_under}
use Rattle.pb_message.proofs.Written.{octets_fields, octets_pass, varint_passes, pieces_here, pieces_of_varint, numbers_here}
use Rattle.gnmi_sub_msg.specs.Numbers.{reply_update, reply_sync_response}
use Rattle.gnmi_sub_msg.specs.Replies.{note_reply, sync_reply, note_in, says_sync}

pub note_found : (note : List ℕ) → length note < 2 ^ 64 → note_in (note_reply note) ≡ Some note
note_found note short =
    let is : is_message (note_reply note) ≡ true = octets_pass reply_update note (lit≤ tt) (lit≤ tt) short in
    let piece : pieces_under reply_update (note_reply note) ≡ note ∷ [] = pieces_here reply_update note (lit≤ tt) (lit≤ tt) short in
    rw (is, piece) (ap Some (append-nil note))

pub no_sync_found : (note : List ℕ) → length note < 2 ^ 64 → says_sync (note_reply note) ≡ false
no_sync_found note short =
    let is : is_message (note_reply note) ≡ true = octets_pass reply_update note (lit≤ tt) (lit≤ tt) short in
    let none : varints reply_sync_response (all_fields (note_reply note)) ≡ [] =
    ap (varints reply_sync_response) (octets_fields reply_update note (lit≤ tt) (lit≤ tt) short) in
    rw (is, none) refl

one_short : 1 < 2 ^ 64
one_short = omega arith

sync_is : is_message sync_reply ≡ true
sync_is = varint_passes reply_sync_response 1 (lit≤ tt) (lit≤ tt) one_short

pub sync_found : says_sync sync_reply ≡ true
sync_found =
    let one : varints reply_sync_response (all_fields sync_reply) ≡ 1 ∷ [] = numbers_here reply_sync_response 1 (lit≤ tt) (lit≤ tt) one_short in
    rw (sync_is, one) refl

pub no_note_found : note_in sync_reply ≡ None
no_note_found =
    let none : pieces_under reply_update sync_reply ≡ [] = pieces_of_varint reply_update reply_sync_response 1 (lit≤ tt) (lit≤ tt) one_short in
    rw (sync_is, none) refl
