-- What a target makes of its history may stand behind it in its journal.
use Rattle.std.proofs.Common.{◌≡◌, ℕ, ◌+◌, ◌-◌, ◌<◌, ◌≤◌, List, [], ◌∷◌, ◌++◌, length, Bool, true, false, not, ◌&&◌, nat_le, Option, Some, None, Ok, inl, inr, refl, sym, ap, subst, ◌∙◌, arith, append_assoc, append-nil, true≢false, length-append, rules, if◌then◌else◌}
use Rattle.std.specs.List.{list_all}
use Rattle.std.proofs.lemmas.Bool.{le-leb, leb-true, and_parts, and_from, not-false}
use Rattle.std.proofs.lemmas.List.Elements.{All-push}
use Rattle.base_kinds.specs.declared.entry.Entry.{Entry}
use Rattle.base_kinds.specs.declared.entry.Limits.{Limits}
use Rattle.base_kinds.specs.declared.entry.Kind.{Kind}
use Rattle.base_kinds.specs.declared.entry.Kind.TheVariants as kinds
use Rattle.base_kinds.specs.declared.entry.Ask.{Ask}
use Rattle.base_kinds.specs.declared.entry.Ask.TheVariants as asks
use Rattle.base_kinds.specs.Schema.{SchemaNode}
use Rattle.base_kinds.specs.Limits.{AreInRange, latest_reading, shortest_duration, longest_duration, closing_octets, gate_octets}
use Rattle.base_kinds.specs.Records.{record_octets}
use Rattle.base_kinds.specs.History.{World, OpenTrial, IsHistory, world_of, world_after, stamp_of}
use Rattle.base_kinds.specs.Rules.{size_of, limited, rules_of}
use Rattle.base_kinds.specs.Step.{is_open, is_past, is_due, time_at, new_stamp, next_entry, kind_of_ask, refusal_cases, judge}
use Rattle.base_kinds.specs.Legal.{is_fit_op, is_fit_id, is_fit_duration, IsFit, Gives, GivenInTurn, IsLegal}
use Rattle.base_kinds.specs.Bases.{IsBounded, AreBounded, IsAhead, IsSound, HasSoundTrees, IsBase}
use Rattle.base_kinds.specs.Room.{HasRoom, IsWithin, IsClosing, CanClose}
use Rattle.history_laws.proofs.States.{history_after_one, world_after_one, stamp_after_one}
use Rattle.history_laws.proofs.Judged.{NoneHolds, asked, accepted, new_stamp_is_above}
use Rattle.history_laws.proofs.Given.{kept_by_legal}
use Rattle.history_laws.proofs.RoomKept.{test_says_room, accepted_had_room, trials_leave_room, closings_fit, new_log_has_room}
use Rattle.journal_format.specs.Histories.{MayFollow, FollowInTurn, IsJournalHistory, is_author_of, happens, is_fit_deadline, is_fit_kind, has_trial, has_room}
use Rattle.journal_format.specs.inner.Progress.{opens}
use Rattle.journal_format.proofs.Histories.{has_trial_more, size_more, length_more, legal_more}

-- ---- what each entry keeps, each journal's history keeps

kept_in_turn : (limits : Limits) (Keeps : List Entry → Type 0) → ((h : List Entry) (entry : Entry) → Keeps h → MayFollow limits h entry → Keeps (h ++ entry ∷ [])) → (h more : List Entry) → Keeps h → FollowInTurn limits h more → Keeps (h ++ more)
kept_in_turn limits Keeps one h [] keeps turn = subst Keeps (sym (append-nil h)) keeps
kept_in_turn limits Keeps one h (entry ∷ more) keeps turn =
    subst Keeps (append_assoc h (entry ∷ []) more) (kept_in_turn limits Keeps one (h ++ entry ∷ []) more (one h entry keeps turn.0) turn.1)

kept_by_journal : (limits : Limits) (Keeps : List Entry → Type 0) → ((h : List Entry) (entry : Entry) → Keeps h → MayFollow limits h entry → Keeps (h ++ entry ∷ [])) → (h : List Entry) → Keeps [] → IsJournalHistory limits h → Keeps h
kept_by_journal limits Keeps one h none journal = kept_in_turn limits Keeps one [] h none journal.in_turn

-- ---- a journal's history, for other laws

pub journal_is_history : (limits : Limits) (h : List Entry) → IsJournalHistory limits h → IsHistory h
journal_is_history limits h journal = kept_by_journal limits IsHistory (λ es entry history next. history_after_one es entry history next.number_is next.later) h tt journal

bounded_one : (limits : Limits) (es : List Entry) (entry : Entry) → AreBounded es → MayFollow limits es entry → AreBounded (es ++ entry ∷ [])
bounded_one limits es entry bounded next = All-push IsBounded es entry bounded next.bounded

pub journal_is_bounded : (limits : Limits) (h : List Entry) → IsJournalHistory limits h → AreBounded h
journal_is_bounded limits h journal = kept_by_journal limits AreBounded (bounded_one limits) h (search rules) journal

-- the last stamp
stamp_bounded : (limits : Limits) (h : List Entry) → IsJournalHistory limits h → stamp_of h ≤ latest_reading + length h
stamp_bounded limits h journal = kept_by_journal limits (λ es. stamp_of es ≤ latest_reading + length es) one h (omega arith) journal
  where
    one : (es : List Entry) (entry : Entry) → stamp_of es ≤ latest_reading + length es → MayFollow limits es entry → stamp_of (es ++ entry ∷ []) ≤ latest_reading + length (es ++ entry ∷ [])
    one es entry before next = omega (arith, stamp_after_one es entry, next.bounded, next.number_is, length_more es entry)

is_far : (stamp deadline : ℕ) → is_fit_deadline stamp deadline ≡ true → stamp + shortest_duration ≤ deadline
is_far stamp deadline fits =
    let least = leb-true _ _ (and_parts (nat_le shortest_duration (deadline - stamp)) (nat_le (deadline - stamp) longest_duration) fits).0 in
    omega (arith, least)

ahead_after : (stamp : ℕ) (kind : Kind) (world : World) → is_fit_kind stamp kind ≡ true → IsAhead (world_after kind world).trial stamp
ahead_after stamp (kinds.Apply ops) world fits = tt
ahead_after stamp (kinds.Trial id ops deadline) world fits =
    let id_and_deadline = and_parts (is_fit_id id && is_fit_deadline stamp deadline) (list_all is_fit_op ops) fits in
    let deadline_fits = and_parts (is_fit_id id) (is_fit_deadline stamp deadline) id_and_deadline.0 in
    is_far stamp deadline deadline_fits.1
ahead_after stamp kinds.Confirm world fits = tt
ahead_after stamp kinds.Cancel world fits = tt
ahead_after stamp kinds.Expire world fits = tt
ahead_after stamp kinds.Restart world fits = tt
ahead_after stamp (kinds.Extend deadline) world fits = by_trial world.trial
  where
    by_trial : (trial : Option OpenTrial) → IsAhead (world_after (kinds.Extend deadline) (record { tree = world.tree; trial = trial })).trial stamp
    by_trial None = tt
    by_trial (Some trial) = is_far stamp deadline fits

pub journal_is_ahead : (limits : Limits) (h : List Entry) → IsJournalHistory limits h → IsAhead (world_of h).trial (stamp_of h)
journal_is_ahead limits h journal = kept_by_journal limits (λ es. IsAhead (world_of es).trial (stamp_of es)) one h tt journal
  where
    one : (es : List Entry) (entry : Entry) → IsAhead (world_of es).trial (stamp_of es) → MayFollow limits es entry → IsAhead (world_of (es ++ entry ∷ [])).trial (stamp_of (es ++ entry ∷ []))
    one es entry before next =
        subst (λ stamp. IsAhead (world_of (es ++ entry ∷ [])).trial stamp) (sym (stamp_after_one es entry))
        (subst (λ (world : World). IsAhead world.trial entry.stamp) (sym (world_after_one es entry)) (ahead_after entry.stamp entry.kind (world_of es) next.kind_fits))

-- ---- room

room_left : (limits : Limits) (h : List Entry) (trial : Option OpenTrial) → (if is_open trial then limited limits h 1 14 else limited limits h 0 0) ≡ true → CanClose limits h trial
room_left limits h None room = (test_says_room limits h 0 0).0 room
room_left limits h (Some trial) room = (test_says_room limits h 1 14).0 room

pub journal_can_close : (limits : Limits) (h : List Entry) → IsJournalHistory limits h → CanClose limits h (world_of h).trial
journal_can_close limits h journal =
    kept_by_journal limits (λ es. CanClose limits es (world_of es).trial) (λ es entry before next. room_left limits (es ++ entry ∷ []) (world_of (es ++ entry ∷ [])).trial next.room) h (new_log_has_room limits journal.in_range) journal

pub journal_is_base : (schema : List SchemaNode) (limits : Limits) (h : List Entry) → IsJournalHistory limits h → HasSoundTrees schema (world_of h) → IsBase schema limits h
journal_is_base schema limits h journal sound = record {
  history = journal_is_history limits h journal;
  bounded = journal_is_bounded limits h journal;
  ahead = journal_is_ahead limits h journal;
  room = journal_can_close limits h journal;
  sound = sound;
}

-- room to close is room, whether a trial is open or not
room_if_closable : (limits : Limits) (h : List Entry) → HasRoom limits h 1 14 → has_room limits h ≡ true
room_if_closable limits h room = by_open (has_trial h)
  where
    less : HasRoom limits h 0 0
    less = record { entries_left = omega (arith, room.entries_left); octets_left = omega (arith, room.octets_left) }

    by_open : (o : Bool) → (if o then limited limits h 1 14 else limited limits h 0 0) ≡ true
    by_open true = (test_says_room limits h 1 14).1 room
    by_open false = (test_says_room limits h 0 0).1 less

room_if_none : (limits : Limits) (h : List Entry) → IsWithin limits h → has_trial h ≡ false → has_room limits h ≡ true
room_if_none limits h within none = ap (λ o. if o then limited limits h 1 14 else limited limits h 0 0) none ∙ (test_says_room limits h 0 0).1 within

within_one : (limits : Limits) (h : List Entry) (entry : Entry) → HasRoom limits h 1 (record_octets entry + 1) → IsWithin limits (h ++ entry ∷ [])
within_one limits h entry room =
    record { entries_left = omega (arith, room.entries_left, length_more h entry); octets_left = omega (arith, room.octets_left, size_more h entry) }

-- ---- what closes a trial

closable : (limits : Limits) (h : List Entry) (trial : Option OpenTrial) → is_open trial ≡ true → CanClose limits h trial → HasRoom limits h 1 14
closable limits h None is can = absurd (true≢false (sym is))
closable limits h (Some trial) is can = can

closing_is_fit : (stamp : ℕ) (kind : Kind) → IsClosing kind → is_fit_kind stamp kind ≡ true
closing_is_fit stamp kinds.Confirm closes = refl
closing_is_fit stamp kinds.Cancel closes = refl
closing_is_fit stamp kinds.Expire closes = refl
closing_is_fit stamp kinds.Restart closes = refl
closing_is_fit stamp _ closes = absurd closes

closing_happens : (kind : Kind) (open_before : Bool) → IsClosing kind → open_before ≡ true → happens kind open_before ≡ true
closing_happens kinds.Confirm o closes is = is
closing_happens kinds.Cancel o closes is = is
closing_happens kinds.Expire o closes is = is
closing_happens kinds.Restart o closes is = is
closing_happens _ o closes is = absurd closes

closing_ends : (kind : Kind) → IsClosing kind → opens kind ≡ false
closing_ends kinds.Confirm closes = refl
closing_ends kinds.Cancel closes = refl
closing_ends kinds.Expire closes = refl
closing_ends kinds.Restart closes = refl
closing_ends _ closes = absurd closes

stamp_fits : (limits : Limits) (h : List Entry) (now : ℕ) → IsJournalHistory limits h → new_stamp h now ≤ latest_reading + (length h + 1)
stamp_fits limits h now journal = omega (arith, stamp_bounded limits h journal)

closing_may_follow : (limits : Limits) (h : List Entry) (now author : ℕ) (kind : Kind) → IsJournalHistory limits h → IsClosing kind → is_author_of kind author ≡ true → has_trial h ≡ true → MayFollow limits h (next_entry h (new_stamp h now) author kind)
closing_may_follow limits h now author kind journal closes by is =
    let entry = next_entry h (new_stamp h now) author kind in
    let happened = closing_happens kind (has_trial h) closes is in
    let room = closable limits h (world_of h).trial is (journal_can_close limits h journal) in
    record {
      number_is = refl;
      later = new_stamp_is_above h now;
      bounded = stamp_fits limits h now journal;
      author_is = by;
      can_happen = happened;
      kind_fits = closing_is_fit (new_stamp h now) kind closes;
      room = room_if_none limits (h ++ entry ∷ []) (closings_fit limits h entry room closes) (has_trial_more h entry happened ∙ closing_ends kind closes);
    }

open_if_past : (trial : Option OpenTrial) (time : ℕ) → is_past trial time ≡ true → is_open trial ≡ true
open_if_past None time past = past
open_if_past (Some trial) time past = refl

pub expiry_may_follow : (limits : Limits) (h : List Entry) (now : ℕ) → IsJournalHistory limits h → is_due h now ≡ true → MayFollow limits h (next_entry h (new_stamp h now) 0 kinds.Expire)
expiry_may_follow limits h now journal due = closing_may_follow limits h now 0 kinds.Expire journal tt refl (open_if_past (world_of h).trial (time_at h now) due)

pub restart_may_follow : (limits : Limits) (h : List Entry) (now : ℕ) → IsJournalHistory limits h → has_trial h ≡ true → MayFollow limits h (next_entry h (new_stamp h now) 0 kinds.Restart)
restart_may_follow limits h now journal is = closing_may_follow limits h now 0 kinds.Restart journal tt refl is

-- ---- what is judged

deadline_fits : (stamp duration : ℕ) → is_fit_duration duration ≡ true → is_fit_deadline stamp (stamp + duration) ≡ true
deadline_fits stamp duration fit = let same : stamp + duration - stamp ≡ duration = omega arith in ap is_fit_duration same ∙ fit

module _ (schema : List SchemaNode) (limits : Limits) (h : List Entry) (now author : ℕ) (journal : IsJournalHistory limits h) (by : 1 ≤ author) where
  by_author : nat_le 1 author ≡ true
  by_author = le-leb 1 author by

  judged_asked : (ask : Ask) → IsFit ask → judge (rules_of schema limits) h now author ask ≡ Ok (asked h now author ask) → MayFollow limits h (asked h now author ask)
  judged_asked (asks.Apply ops) fit is =
      let entry = asked h now author (asks.Apply ops) in
      let passed = accepted (rules_of schema limits) h now author (asks.Apply ops) entry is in
      let happened : not (has_trial h) ≡ true = ap not passed.0.0 in
      record {
        number_is = refl;
        later = new_stamp_is_above h now;
        bounded = stamp_fits limits h now journal;
        author_is = by_author;
        can_happen = happened;
        kind_fits = fit;
        room = room_if_none limits (h ++ entry ∷ []) (within_one limits h entry (accepted_had_room schema limits h now author (asks.Apply ops) entry is)) (has_trial_more h entry happened);
      }
  judged_asked (asks.Trial id ops duration) fit is =
      let entry = asked h now author (asks.Trial id ops duration) in
      let passed = accepted (rules_of schema limits) h now author (asks.Trial id ops duration) entry is in
      let happened : not (has_trial h) ≡ true = ap not passed.0.0 in
      record {
        number_is = refl;
        later = new_stamp_is_above h now;
        bounded = stamp_fits limits h now journal;
        author_is = by_author;
        can_happen = happened;
        kind_fits = and_from (is_fit_id id && is_fit_deadline (new_stamp h now) (new_stamp h now + duration)) (list_all is_fit_op ops)
            (and_from (is_fit_id id) (is_fit_deadline (new_stamp h now) (new_stamp h now + duration)) fit.id_fits (deadline_fits (new_stamp h now) duration fit.duration_fits)) fit.ops_fit;
        room = room_if_closable limits (h ++ entry ∷ []) (trials_leave_room schema limits h now author (asks.Trial id ops duration) entry tt is);
      }
  judged_asked (asks.Confirm id) fit is =
      let passed = accepted (rules_of schema limits) h now author (asks.Confirm id) (asked h now author (asks.Confirm id)) is in
      closing_may_follow limits h now author kinds.Confirm journal tt by_author (not-false (has_trial h) passed.0.0)
  judged_asked (asks.Cancel id) fit is =
      let passed = accepted (rules_of schema limits) h now author (asks.Cancel id) (asked h now author (asks.Cancel id)) is in
      closing_may_follow limits h now author kinds.Cancel journal tt by_author (not-false (has_trial h) passed.0.0)
  judged_asked (asks.Extend id duration) fit is =
      let entry = asked h now author (asks.Extend id duration) in
      let passed = accepted (rules_of schema limits) h now author (asks.Extend id duration) entry is in
      record {
        number_is = refl;
        later = new_stamp_is_above h now;
        bounded = stamp_fits limits h now journal;
        author_is = by_author;
        can_happen = not-false (has_trial h) passed.0.0;
        kind_fits = deadline_fits (new_stamp h now) duration fit.duration_fits;
        room = room_if_closable limits (h ++ entry ∷ []) (trials_leave_room schema limits h now author (asks.Extend id duration) entry tt is);
      }

pub judged_may_follow : (schema : List SchemaNode) (limits : Limits) (h : List Entry) (now author : ℕ) (ask : Ask) (entry : Entry) → IsJournalHistory limits h → 1 ≤ author → IsFit ask → judge (rules_of schema limits) h now author ask ≡ Ok entry → MayFollow limits h entry
judged_may_follow schema limits h now author ask entry journal by fit is =
    let same : asked h now author ask ≡ entry = (accepted (rules_of schema limits) h now author ask entry is).1 in
    subst (λ (e : Entry). MayFollow limits h e) same (judged_asked schema limits h now author journal by ask fit (is ∙ ap Ok (sym same)))

-- ---- what is given

pub given_may_follow : (schema : List SchemaNode) (limits : Limits) (h : List Entry) (entry : Entry) → IsJournalHistory limits h → Gives (rules_of schema limits) h entry → MayFollow limits h entry
given_may_follow schema limits h entry journal (inl expiry) = subst (λ (e : Entry). MayFollow limits h e) (sym expiry.is) (expiry_may_follow limits h entry.stamp journal expiry.due)
given_may_follow schema limits h entry journal (inr answer) = judged_may_follow schema limits h entry.stamp entry.author answer.ask entry journal answer.author answer.ask_fits answer.judged

pub journals_hold_legal : (schema : List SchemaNode) (limits : Limits) (base h : List Entry) → IsJournalHistory limits base → IsLegal (rules_of schema limits) base h → IsJournalHistory limits h
journals_hold_legal schema limits base h journal legal =
    kept_by_legal (rules_of schema limits) (IsJournalHistory limits) (λ es entry before given. legal_more limits es entry before (given_may_follow schema limits es entry before given)) base h journal legal
