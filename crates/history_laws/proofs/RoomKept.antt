-- The room for the entry that closes a trial.
use Rattle.std.proofs.Common.{◌≡◌, ◌↔◌, IsTrue, ℕ, ◌+◌, nat_le, not, List, [], ◌∷◌, ◌++◌, true, false, Option, Some, None, Ok, length, refl, sym, ap, subst, arith, inl, inr, true≢false, length-append}
use Rattle.std.proofs.lemmas.List.Sums.{sum_by-append}
use Rattle.std.proofs.lemmas.Bool.{not-false, and_parts, and_from, leb-true, le-leb}
use Rattle.base_kinds.specs.declared.operation.Row.{Row}
use Rattle.base_kinds.specs.declared.entry.Entry.{Entry}
use Rattle.base_kinds.specs.declared.entry.Kind.{Kind}
use Rattle.base_kinds.specs.declared.entry.Kind.TheVariants as kinds
use Rattle.base_kinds.specs.declared.entry.Ask.{Ask}
use Rattle.base_kinds.specs.declared.entry.Ask.TheVariants as asks
use Rattle.base_kinds.specs.declared.entry.Limits.{Limits}
use Rattle.base_kinds.specs.History.{World, OpenTrial, world_after, world_of}
use Rattle.base_kinds.specs.Limits.{AreInRange, gate_octets}
use Rattle.base_kinds.specs.Schema.{SchemaNode}
use Rattle.base_kinds.specs.Records.{record_octets, kind_octets}
use Rattle.base_kinds.specs.Rules.{size_of, limited, rules_of}
use Rattle.base_kinds.specs.Step.{new_stamp, time_at, is_past, is_open, kind_of_ask, refusal_cases, judge}
use Rattle.base_kinds.specs.Legal.{Gives, IsLegal}
use Rattle.base_kinds.specs.Room.{HasRoom, IsWithin, IsClosing, CanClose, HasRoomFor, StaysOpen}
use Rattle.history_laws.proofs.States.{world_after_one}
use Rattle.history_laws.proofs.Judged.{NoneHolds, asked, accepted}
use Rattle.history_laws.proofs.Given.{kept_by_legal}

pub size_after_one : (h : List Entry) (entry : Entry) → size_of (h ++ entry ∷ []) ≡ size_of h + gate_octets + record_octets entry
size_after_one h entry = let sum = sum_by-append (λ (e : Entry). 1 + record_octets e) h (entry ∷ []) in omega (arith, sum)

-- room for some entries and octets more is what is left behind one entry
room-push : (limits : Limits) (h : List Entry) (entry : Entry) (entries octets : ℕ) → HasRoom limits h (entries + 1) (octets + 1 + record_octets entry) → HasRoom limits (h ++ entry ∷ []) entries octets
room-push limits h entry entries octets room =
    let size = size_after_one h entry in
    record { entries_left = omega (arith, room.entries_left, length-append h (entry ∷ [])); octets_left = omega (arith, room.octets_left, size) }

-- what the test says
room_if_limited : (limits : Limits) (h : List Entry) (entries octets : ℕ) → limited limits h entries octets ≡ true → HasRoom limits h entries octets
room_if_limited limits h entries octets is =
    let both = and_parts (nat_le (length h + entries) limits.entries) (nat_le (size_of h + octets) limits.octets) is in
    record { entries_left = leb-true (length h + entries) limits.entries both.0; octets_left = leb-true (size_of h + octets) limits.octets both.1 }

limited_if_room : (limits : Limits) (h : List Entry) (entries octets : ℕ) → HasRoom limits h entries octets → limited limits h entries octets ≡ true
limited_if_room limits h entries octets room =
    and_from (nat_le (length h + entries) limits.entries) (nat_le (size_of h + octets) limits.octets) (le-leb (length h + entries) limits.entries room.entries_left) (le-leb (size_of h + octets) limits.octets room.octets_left)

pub test_says_room : (limits : Limits) (h : List Entry) (entries octets : ℕ) → IsTrue (limited limits h entries octets) ↔ HasRoom limits h entries octets
test_says_room limits h entries octets = (room_if_limited limits h entries octets, limited_if_room limits h entries octets)

room_from_test : (limits : Limits) (h : List Entry) (entries octets : ℕ) → not (limited limits h entries octets) ≡ false → HasRoom limits h entries octets
room_from_test limits h entries octets is = room_if_limited limits h entries octets (not-false (limited limits h entries octets) is)

case_room : (schema : List SchemaNode) (limits : Limits) (h : List Entry) (world : World) (ask : Ask) (octets : ℕ) → NoneHolds (refusal_cases (rules_of schema limits) h world ask octets) → HasRoomFor limits h octets ask
case_room schema limits h world (asks.Apply ops) octets none = room_from_test limits h 1 (octets + 1) none.1.1.1.0
case_room schema limits h world (asks.Trial id ops duration) octets none = room_from_test limits h 2 (octets + 15) none.1.1.1.0
case_room schema limits h world (asks.Extend id duration) octets none = room_from_test limits h 2 (octets + 15) none.1.1.0
case_room schema limits h world (asks.Confirm id) octets none = tt
case_room schema limits h world (asks.Cancel id) octets none = tt

pub accepted_had_room : (schema : List SchemaNode) (limits : Limits) (h : List Entry) (now author : ℕ) (ask : Ask) (entry : Entry) → judge (rules_of schema limits) h now author ask ≡ Ok entry → HasRoomFor limits h (record_octets entry) ask
accepted_had_room schema limits h now author ask entry is =
    let passed = accepted (rules_of schema limits) h now author ask entry is in
    subst (λ (e : Entry). HasRoomFor limits h (record_octets e) ask) passed.1 (case_room schema limits h (world_of h) ask (record_octets (asked h now author ask)) passed.0)

left_open : (limits : Limits) (h : List Entry) (entry : Entry) → HasRoom limits h 2 (record_octets entry + 15) → HasRoom limits (h ++ entry ∷ []) 1 14
left_open limits h entry room = room-push limits h entry 1 14 (record { entries_left = room.entries_left; octets_left = omega (arith, room.octets_left) })

left_alone : (limits : Limits) (h : List Entry) (entry : Entry) → HasRoom limits h 1 (record_octets entry + 1) → IsWithin limits (h ++ entry ∷ [])
left_alone limits h entry room = room-push limits h entry 0 0 (record { entries_left = room.entries_left; octets_left = omega (arith, room.octets_left) })

pub trials_leave_room : (schema : List SchemaNode) (limits : Limits) (h : List Entry) (now author : ℕ) (ask : Ask) (entry : Entry) → StaysOpen ask → judge (rules_of schema limits) h now author ask ≡ Ok entry → HasRoom limits (h ++ entry ∷ []) 1 14
trials_leave_room schema limits h now author (asks.Trial id ops duration) entry stays is = left_open limits h entry (accepted_had_room schema limits h now author (asks.Trial id ops duration) entry is)
trials_leave_room schema limits h now author (asks.Extend id duration) entry stays is = left_open limits h entry (accepted_had_room schema limits h now author (asks.Extend id duration) entry is)
trials_leave_room schema limits h now author _ entry stays is = absurd stays

-- a closing adds nothing to author, stamp and number of its kind
closing_adds_none : (kind : Kind) → IsClosing kind → kind_octets kind ≡ 0
closing_adds_none kinds.Confirm closes = refl
closing_adds_none kinds.Cancel closes = refl
closing_adds_none kinds.Expire closes = refl
closing_adds_none kinds.Restart closes = refl
closing_adds_none _ closes = absurd closes

pub closings_fit : (limits : Limits) (h : List Entry) (entry : Entry) → HasRoom limits h 1 14 → IsClosing entry.kind → IsWithin limits (h ++ entry ∷ [])
closings_fit limits h entry room closes =
    let none = closing_adds_none entry.kind closes in
    left_alone limits h entry (record { entries_left = room.entries_left; octets_left = omega (arith, room.octets_left, none) })

pub new_log_has_room : (limits : Limits) → AreInRange limits → CanClose limits [] (world_of []).trial
new_log_has_room limits range = record { entries_left = omega (arith, range.least_entries); octets_left = omega (arith, range.least_octets) }

-- ---- each given entry

closed_by : (limits : Limits) (h : List Entry) (trial : Option OpenTrial) (entry : Entry) → is_open trial ≡ true → CanClose limits h trial → IsClosing entry.kind → IsWithin limits (h ++ entry ∷ [])
closed_by limits h None entry is can closes = absurd (true≢false (sym is))
closed_by limits h (Some trial) entry is can closes = closings_fit limits h entry can closes

open_if_past : (trial : Option OpenTrial) (time : ℕ) → is_past trial time ≡ true → is_open trial ≡ true
open_if_past None time past = past
open_if_past (Some trial) time past = refl

extend_leaves : (limits : Limits) (h : List Entry) (tree : List Row) (trial : Option OpenTrial) (deadline : ℕ) → is_open trial ≡ true → HasRoom limits h 1 14 → CanClose limits h (world_after (kinds.Extend deadline) (record { tree = tree; trial = trial })).trial
extend_leaves limits h tree None deadline is room = absurd (true≢false (sym is))
extend_leaves limits h tree (Some trial) deadline is room = room

answer_keeps : (schema : List SchemaNode) (limits : Limits) (h : List Entry) (now author : ℕ) (ask : Ask) (entry : Entry) → judge (rules_of schema limits) h now author ask ≡ Ok entry → CanClose limits h (world_of h).trial → CanClose limits (h ++ entry ∷ []) (world_after (kind_of_ask (new_stamp h now) ask) (world_of h)).trial
answer_keeps schema limits h now author (asks.Apply ops) entry is can = left_alone limits h entry (accepted_had_room schema limits h now author (asks.Apply ops) entry is)
answer_keeps schema limits h now author (asks.Trial id ops duration) entry is can = trials_leave_room schema limits h now author (asks.Trial id ops duration) entry tt is
answer_keeps schema limits h now author (asks.Extend id duration) entry is can =
    let none = (accepted (rules_of schema limits) h now author (asks.Extend id duration) entry is).0 in
    extend_leaves limits (h ++ entry ∷ []) (world_of h).tree (world_of h).trial (new_stamp h now + duration) (not-false (is_open (world_of h).trial) none.0) (trials_leave_room schema limits h now author (asks.Extend id duration) entry tt is)
answer_keeps schema limits h now author (asks.Confirm id) entry is can =
    let passed = accepted (rules_of schema limits) h now author (asks.Confirm id) entry is in
    closed_by limits h (world_of h).trial entry (not-false (is_open (world_of h).trial) passed.0.0) can (subst (λ (e : Entry). IsClosing e.kind) passed.1 tt)
answer_keeps schema limits h now author (asks.Cancel id) entry is can =
    let passed = accepted (rules_of schema limits) h now author (asks.Cancel id) entry is in
    closed_by limits h (world_of h).trial entry (not-false (is_open (world_of h).trial) passed.0.0) can (subst (λ (e : Entry). IsClosing e.kind) passed.1 tt)

pub given_keeps_room : (schema : List SchemaNode) (limits : Limits) (h : List Entry) (entry : Entry) → CanClose limits h (world_of h).trial → Gives (rules_of schema limits) h entry → CanClose limits (h ++ entry ∷ []) (world_of (h ++ entry ∷ [])).trial
given_keeps_room schema limits h entry can given = subst (λ (world : World). CanClose limits (h ++ entry ∷ []) world.trial) (sym (world_after_one h entry)) (by_case given)
  where
    by_case : Gives (rules_of schema limits) h entry → CanClose limits (h ++ entry ∷ []) (world_after entry.kind (world_of h)).trial
    by_case (inl expiry) =
        let kind : entry.kind ≡ kinds.Expire = ap (λ (e : Entry). e.kind) expiry.is in
        let within = closed_by limits h (world_of h).trial entry (open_if_past (world_of h).trial (time_at h entry.stamp) expiry.due) can (subst IsClosing (sym kind) tt) in
        subst (λ (k : Kind). CanClose limits (h ++ entry ∷ []) (world_after k (world_of h)).trial) (sym kind) within
    by_case (inr answer) =
        let kind : kind_of_ask (new_stamp h entry.stamp) answer.ask ≡ entry.kind = ap (λ (e : Entry). e.kind) (accepted (rules_of schema limits) h entry.stamp entry.author answer.ask entry answer.judged).1 in
        subst (λ (k : Kind). CanClose limits (h ++ entry ∷ []) (world_after k (world_of h)).trial) kind (answer_keeps schema limits h entry.stamp entry.author answer.ask entry answer.judged can)

pub legal_keeps_room : (schema : List SchemaNode) (limits : Limits) (base h : List Entry) → CanClose limits base (world_of base).trial → IsLegal (rules_of schema limits) base h → CanClose limits h (world_of h).trial
legal_keeps_room schema limits base h can legal = kept_by_legal (rules_of schema limits) (λ es. CanClose limits es (world_of es).trial) (given_keeps_room schema limits) base h can legal
