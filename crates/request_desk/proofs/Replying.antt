-- A GetResponse that is made of one Notification after another, until it is too long.
use Rattle.std.proofs.Common.{◌≡◌, ℕ, ◌<◌, ◌≤◌, List, [], ◌∷◌, ◌++◌, Bool, true, false, cond, length, length-append, sym, ap, ◌∙◌, arith, append_assoc, append-nil, Ok, Err}
use Rattle.std.specs.Prelude.{map}
use Rattle.std.proofs.lemmas.Bool.{lt-ltb, le-ltb}
use Rattle.base_kinds.specs.declared.refusal.Refusal.TheVariants as refusals
use Rattle.pb_wire.specs.Writing.{octets_field}
use Rattle.gnmi_get_msg.specs.Numbers.{reply_notification}
use Rattle.gnmi_get_msg.specs.Replies.{get_reply}
use Rattle.request_desk.specs.Gets.{within_limit}
use Rattle.request_desk.specs.Limits.{is_too_large}

-- the Notification of the next path is added, and the others follow
pub one_note : {A : Type 0} (note_of : A → List ℕ) (reply : List ℕ) (path : A) (paths : List A)
    → reply ++ get_reply (map note_of (path ∷ paths)) ≡ (reply ++ get_reply (note_of path ∷ [])) ++ get_reply (map note_of paths)
one_note note_of reply path paths =
    let notes : List (List ℕ) = map note_of paths in
    let field : List ℕ = octets_field reply_notification (note_of path) in
    ap (λ (octets : List ℕ). reply ++ (octets ++ get_reply notes)) (sym (append-nil field))
    ∙ sym (append_assoc reply (get_reply (note_of path ∷ [])) (get_reply notes))

by_test : (reply : List ℕ) (b : Bool) → is_too_large (length reply) ≡ b → within_limit reply ≡ cond b (Err refusals.TooLarge) (Ok reply)
by_test reply b is = ap (λ (c : Bool). cond c (Err refusals.TooLarge) (Ok reply)) is

-- what is too long so far is too long as a whole
pub too_long : (reply rest whole : List ℕ) → reply ++ rest ≡ whole → 4194304 < length reply → within_limit whole ≡ Err refusals.TooLarge
too_long reply rest whole is long =
    by_test whole true (lt-ltb 4194304 (length whole) (omega (arith, long, ap length is, length-append reply rest)))

pub short_enough : (reply whole : List ℕ) → reply ++ [] ≡ whole → length reply ≤ 4194304 → within_limit whole ≡ Ok reply
short_enough reply whole is short =
    let same : whole ≡ reply = sym is ∙ append-nil reply in
    ap within_limit same ∙ by_test reply false (le-ltb 4194304 (length reply) short)
