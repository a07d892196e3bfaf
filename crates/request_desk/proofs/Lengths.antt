-- How long a Set's reply is.
use Rattle.std.proofs.Common.{◌≡◌, ℕ, zero, suc, ◌+◌, ◌^◌, ◌<◌, ◌≤◌, List, ◌++◌, length, length-append, sym, ap, ◌∙◌, subst, arith, lit≤, Option, Some, None, Ok}
use Rattle.base_lists.proofs.SevenBits.{room, groups_of-room, length-groups_of}
use Rattle.base_lists.specs.SevenBits.{groups_of}
use Rattle.base_kinds.specs.declared.entry.Ask.{Ask}
use Rattle.base_kinds.specs.declared.entry.Entry.{Entry}
use Rattle.base_kinds.specs.declared.entry.Limits.{Limits}
use Rattle.base_kinds.specs.Bases.{IsBase}
use Rattle.base_kinds.specs.History.{OpenTrial, world_of, stamp_of}
use Rattle.base_kinds.specs.Limits.{latest_reading}
use Rattle.base_kinds.specs.Room.{CanClose}
use Rattle.base_kinds.specs.Step.{after_expiry}
use Rattle.history_laws.proofs.Judged.{bounded_stamp}
use Rattle.history_laws.proofs.States.{stamp_after_one}
use Rattle.book_port.proofs.Runs.{run_is_base}
use Rattle.book_port.specs.Opened.{Opened, IsRun}
use Rattle.book_port.specs.Ports.{PortView, SetsOnce}
use Rattle.pb_wire.specs.Varint.{shortest}
use Rattle.gnmi_data_msg.specs.Writing.{number_field}
use Rattle.gnmi_set_msg.specs.Numbers.{reply_timestamp}

-- ---- stamps are below 2^63

few_entries : (limits : Limits) (h : List Entry) (trial : Option OpenTrial) → CanClose limits h trial → length h ≤ limits.entries
few_entries limits h None has = omega (arith, has.entries_left)
few_entries limits h (Some trial) has = omega (arith, has.entries_left)

stamp_of_run : (opened : Opened) (h : List Entry) → IsRun opened h → stamp_of h < 2 ^ 63
stamp_of_run opened h run =
    let base : IsBase opened.schema opened.limits h = run_is_base opened h run in
    let bound : stamp_of h ≤ latest_reading + length h = bounded_stamp h base.history base.bounded in
    let few : length h ≤ opened.limits.entries = few_entries opened.limits h (world_of h).trial base.room in
    let all : opened.limits.entries ≤ 65536 = run.founded.in_range.most_entries in
    let large : 4102444800000000000 + 65537 ≤ 2 ^ 63 = lit≤ tt in
    omega (arith, bound, few, all, large)

stamp_of_set : (old new : PortView) (now : ℕ) (ask : Ask) (stamp : ℕ) → SetsOnce old now ask (Ok stamp) new → stamp < 2 ^ 63
stamp_of_set old new now ask stamp set =
    let last : stamp_of set.turn.left ≡ stamp =
    ap stamp_of set.answer.left_is ∙ stamp_after_one (after_expiry set.turn.found now) set.answer.entry ∙ sym set.answer.stamp_is in
    subst (λ (n : ℕ). n < 2 ^ 63) last (stamp_of_run old.opened set.turn.left set.taken.left_run)

-- ---- so the field has ten octets at most

length-stamp : (stamp : ℕ) → stamp < 2 ^ 63 → length (number_field reply_timestamp stamp) ≤ 10
unfolding shortest
length-stamp zero lt = omega arith
length-stamp (suc n) lt =
    let large : 2 ^ 63 ≤ room 8 = lit≤ tt in
    let fits : suc n < room 8 = omega (arith, lt, large) in
    let fewer : groups_of 9 (suc n) ≡ groups_of 8 (suc n) = groups_of-room 8 9 (suc n) fits (omega arith) in
    omega (arith, length-groups_of 8 (suc n), ap length fewer)

pub reply_fits : (front octets : List ℕ) (old new : PortView) (now : ℕ) (ask : Ask) (stamp : ℕ) → length front ≤ 4194294
    → octets ≡ front ++ number_field reply_timestamp stamp → SetsOnce old now ask (Ok stamp) new → length octets ≤ 4194304
reply_fits front octets old new now ask stamp short written set =
    let field : length (number_field reply_timestamp stamp) ≤ 10 = length-stamp stamp (stamp_of_set old new now ask stamp set) in
    omega (arith, short, field, ap length written, length-append front (number_field reply_timestamp stamp))
