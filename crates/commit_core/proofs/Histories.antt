-- A core's history with one more entry.
use Rattle.std.proofs.Common.{◌≡◌, inl, inr, ℕ, ◌+◌, ◌<◌, ◌≤◌, min, List, [], ◌∷◌, ◌++◌, Bool, true, false, not, Option, Some, None, Ok, IfSome, refl, sym, ap, ◌∙◌, subst, arith, true≢false}
use Rattle.base_kinds.specs.declared.operation.Row.{Row}
use Rattle.base_kinds.specs.declared.entry.Entry.{Entry}
use Rattle.base_kinds.specs.declared.entry.Kind.{Kind}
use Rattle.base_kinds.specs.declared.entry.Kind.TheVariants as kinds
use Rattle.base_kinds.specs.declared.entry.Ask.{Ask}
use Rattle.base_kinds.specs.declared.entry.Ask.TheVariants as asks
use Rattle.base_kinds.specs.declared.entry.Limits.{Limits}
use Rattle.base_kinds.specs.Bases.{HasSoundTrees, IsAhead, IsBounded}
use Rattle.base_kinds.specs.History.{World, OpenTrial, world_after, world_from, world_of, stamp_of, empty_world}
use Rattle.base_kinds.specs.Legal.{Gives, IsLegal, IsExpiry}
use Rattle.base_kinds.specs.Limits.{gate_octets, greatest_count}
use Rattle.base_kinds.specs.Records.{record_octets, counted}
use Rattle.base_kinds.specs.Rules.{rules_of, size_of}
use Rattle.base_kinds.specs.Schema.{SchemaNode}
use Rattle.base_kinds.specs.Step.{Rules, judge, is_due, is_open, is_past, time_at, new_stamp, next_entry}
use Rattle.history_laws.proofs.Given.{base_is_legal, given_is_legal, legal_is_history, legal_is_bounded, legal_is_ahead}
use Rattle.history_laws.proofs.Judged.{accepted, bounded_stamp, new_stamp_is_above, next_is_bounded, own_stamp}
use Rattle.history_laws.proofs.RoomKept.{size_after_one}
use Rattle.history_laws.proofs.SoundTrees.{legal_trees_are_sound}
use Rattle.history_laws.proofs.States.{world_after_one, stamp_after_one, history_after_one}
use Rattle.std.proofs.lemmas.List.Elements.{All-nil, All-push}
use Rattle.commit_core.specs.CoreView.{IsReplayable, IsRestart, IsNext, EndsTrial, base_after}
use Rattle.commit_core.specs.inner.LogView.{LogView}
use Rattle.commit_core.specs.inner.StandsFor.{Preparation, nothing, IsPreparedFor, entries_for, entries_to_close, IsAwaited, StandsFor, IsTakable}

-- ---- an open trial

past_is_open : (trial : Option OpenTrial) (time : ℕ) → is_past trial time ≡ true → is_open trial ≡ true
past_is_open None time is = is
past_is_open (Some trial) time is = refl

due_is_open : (h : List Entry) (now : ℕ) → is_due h now ≡ true → is_open (world_of h).trial ≡ true
due_is_open h now due = past_is_open (world_of h).trial (time_at h now) due

to_close : (trial : Option OpenTrial) → is_open trial ≡ true → entries_to_close trial ≡ 1
to_close None begun = absurd (true≢false (sym begun))
to_close (Some trial) begun = refl

not_false : (b : Bool) → not b ≡ false → b ≡ true
not_false true is = refl
not_false false is = absurd (true≢false is)

-- an ask that ends a trial was accepted over one that is open, and needs memory for its own entry alone
pub closing_is_open : (rules : Rules) (h : List Entry) (now author : ℕ) (ask : Ask) (entry : Entry) → EndsTrial ask → judge rules h now author ask ≡ Ok entry → (is_open (world_of h).trial ≡ true → 1 < entries_for entry.kind) → ⊥
closing_is_open rules h now author (asks.Confirm id) entry ends is more =
    let both = accepted rules h now author (asks.Confirm id) entry is in
    let lots = subst (λ (e : Entry). 1 < entries_for e.kind) (sym both.1) (more (not_false (is_open (world_of h).trial) both.0.0)) in
    omega (arith, lots)
closing_is_open rules h now author (asks.Cancel id) entry ends is more =
    let both = accepted rules h now author (asks.Cancel id) entry is in
    let lots = subst (λ (e : Entry). 1 < entries_for e.kind) (sym both.1) (more (not_false (is_open (world_of h).trial) both.0.0)) in
    omega (arith, lots)
closing_is_open rules h now author _ entry ends is more = absurd ends

-- ---- what the target itself adds

pub expiry_is : (h : List Entry) (now : ℕ) (entry : Entry) → is_due h now ≡ true → entry ≡ next_entry h (new_stamp h now) 0 kinds.Expire → IsExpiry h entry
expiry_is h now entry due is =
    let again : is_due h (new_stamp h now) ≡ true = still_past (world_of h).trial h now due in
    subst (IsExpiry h) (sym is) (record { due = again; is = ap (λ stamp. next_entry h stamp 0 kinds.Expire) (sym (own_stamp h now)) })
  where
    still_past : (trial : Option OpenTrial) (h : List Entry) (now : ℕ) → is_past trial (time_at h now) ≡ true → is_past trial (time_at h (new_stamp h now)) ≡ true
    still_past None h now is = is
    still_past (Some trial) h now is = grind arith

pub restart_is : (h : List Entry) (now : ℕ) (entry : Entry) → is_open (world_of h).trial ≡ true → entry ≡ next_entry h (new_stamp h now) 0 kinds.Restart → IsRestart h entry
restart_is h now entry begun is =
    subst (IsRestart h) (sym is) (record { was_open = begun; is = ap (λ stamp. next_entry h stamp 0 kinds.Restart) (sym (own_stamp h now)) })

-- ---- histories

pub new_is_replayable : IsReplayable []
new_is_replayable = record { history = tt; bounded = All-nil IsBounded; ahead = tt }

replayable_legal : (rules : Rules) (base h : List Entry) → IsReplayable base → IsLegal rules base h → IsReplayable h
replayable_legal rules base h from legal = record {
  history = legal_is_history rules base h from.history legal;
  bounded = legal_is_bounded rules base h from.history from.bounded legal;
  ahead = legal_is_ahead rules base h from.ahead legal;
}

based : (rules : Rules) (kind : Kind) (base h : List Entry) → IsLegal rules base h → IsLegal rules (base_after kind base h) h
based rules kinds.Restart base h legal = base_is_legal rules h
based rules (kinds.Apply ops) base h legal = legal
based rules (kinds.Trial id ops deadline) base h legal = legal
based rules kinds.Confirm base h legal = legal
based rules kinds.Cancel base h legal = legal
based rules kinds.Expire base h legal = legal
based rules (kinds.Extend deadline) base h legal = legal

replayable_restarted : (h : List Entry) (entry : Entry) → IsReplayable h → IsRestart h entry → IsReplayable (h ++ entry ∷ [])
replayable_restarted h entry from restart =
    let next = next_entry h (new_stamp h entry.stamp) 0 kinds.Restart in
    subst (λ e. IsReplayable (h ++ e ∷ [])) (sym restart.is) (record {
      history = history_after_one h next from.history refl (new_stamp_is_above h entry.stamp);
      bounded = All-push IsBounded h next from.bounded (next_is_bounded h entry.stamp 0 kinds.Restart (bounded_stamp h from.history from.bounded));
      ahead = subst (λ (world : World). IsAhead world.trial (stamp_of (h ++ next ∷ []))) (sym (world_after_one h next)) tt;
    })

legal_restarted : (rules : Rules) (base h : List Entry) (entry : Entry) → IsRestart h entry → IsLegal rules (base_after entry.kind base (h ++ entry ∷ [])) (h ++ entry ∷ [])
legal_restarted rules base h entry restart =
    subst (λ (kind : Kind). IsLegal rules (base_after kind base (h ++ entry ∷ [])) (h ++ entry ∷ [])) (sym (ap (λ (e : Entry). e.kind) restart.is)) (base_is_legal rules (h ++ entry ∷ []))

pub sound_from : (schema : List SchemaNode) (limits : Limits) (base h : List Entry) → IsLegal (rules_of schema limits) base h → HasSoundTrees schema (world_of base) → HasSoundTrees schema (world_of h)
sound_from schema limits base h legal sound = legal_trees_are_sound schema limits base h sound legal

-- how much memory is left behind an entry
left_to_close : (kind : Kind) (world : World) → entries_to_close (world_after kind world).trial + 1 ≤ entries_for kind
left_to_close (kinds.Apply ops) world = omega arith
left_to_close (kinds.Trial id ops deadline) world = omega arith
left_to_close kinds.Confirm world = omega arith
left_to_close kinds.Cancel world = omega arith
left_to_close kinds.Expire world = omega arith
left_to_close kinds.Restart world = omega arith
left_to_close (kinds.Extend deadline) world = by_trial world.trial
  where
    by_trial : (trial : Option OpenTrial) → entries_to_close (world_after (kinds.Extend deadline) (record { tree = world.tree; trial = trial })).trial + 1 ≤ 2
    by_trial None = omega arith
    by_trial (Some trial) = omega arith

some_for : (kind : Kind) → 0 < entries_for kind
some_for kind = let left = left_to_close kind empty_world in omega (arith, left)

module _ (schema : List SchemaNode) (limits : Limits) (base : List Entry) (old : LogView) (stamp octets : ℕ) (world : World) (prepared : Preparation) (staged : Option Entry) (stands : StandsFor schema limits base old stamp octets world prepared staged) where
  one_to_close : is_open (world_of old.items).trial ≡ true → 1 ≤ old.room
  one_to_close begun =
      let one = to_close world.trial (subst (λ (w : World). is_open w.trial ≡ true) stands.world_is begun) in
      let memory = stands.memory in
      omega (arith, one, memory)

  takable_given : (entry : Entry) → Gives (rules_of schema limits) old.items entry → IsPreparedFor prepared (world_of old.items) entry.kind → entries_for entry.kind ≤ old.room → IsTakable schema limits base old prepared entry
  takable_given entry given ready memory =
      let rules = rules_of schema limits in
      record {
        prepared = ready;
        memory = memory;
        replayable = replayable_legal rules old.items (old.items ++ entry ∷ []) stands.replayable (given_is_legal rules old.items old.items entry (base_is_legal rules old.items) given);
        legal = based rules entry.kind base (old.items ++ entry ∷ []) (given_is_legal rules base old.items entry stands.legal given);
      }

  -- what comes next can be taken
  pub takable : (entry : Entry) → IsNext (record { schema = schema; limits = limits; base = base; entries = old.items; staged = staged }) entry → IsTakable schema limits base old prepared entry
  takable entry (inl is) =
      let awaited : IsAwaited schema limits old prepared entry = subst (λ (o : Option Entry). IfSome o (IsAwaited schema limits old prepared)) is stands.awaited in
      takable_given entry awaited.given awaited.prepared awaited.memory
  takable entry (inr (inl expiry)) =
      let one = one_to_close (due_is_open old.items entry.stamp expiry.due) in
      takable_given entry (inl expiry)
      (subst (λ (e : Entry). IsPreparedFor prepared (world_of old.items) e.kind) (sym expiry.is) tt)
      (subst (λ (e : Entry). entries_for e.kind ≤ old.room) (sym expiry.is) one)
  takable entry (inr (inr restart)) =
      let one = one_to_close restart.was_open in
      record {
        prepared = subst (λ (e : Entry). IsPreparedFor prepared (world_of old.items) e.kind) (sym restart.is) tt;
        memory = subst (λ (e : Entry). entries_for e.kind ≤ old.room) (sym restart.is) one;
        replayable = replayable_restarted old.items entry stands.replayable restart;
        legal = legal_restarted (rules_of schema limits) base old.items entry restart;
      }

  -- and taking it keeps all that a core keeps
  pub stands_taken : (entry : Entry) (new : LogView) (newbase : List Entry) (more : ℕ) (newworld : World) → IsTakable schema limits base old prepared entry → new.items ≡ old.items ++ entry ∷ [] → old.room ≤ new.room + 1 → newbase ≡ base_after entry.kind base new.items → newworld ≡ world_after entry.kind world → more ≡ min (min (octets + gate_octets) greatest_count + counted (record_octets entry)) greatest_count → StandsFor schema limits newbase new entry.stamp more newworld nothing None
  stands_taken entry new newbase more newworld can items room is_base is_world sum =
      let replayable : IsReplayable new.items = subst IsReplayable (sym items) can.replayable in
      let last : entry.stamp ≡ stamp_of new.items = sym (ap stamp_of items ∙ stamp_after_one old.items entry) in
      let size = size_after_one old.items entry in
      let was = stands.size in
      let within = bounded_stamp new.items replayable.history replayable.bounded in
      let left = left_to_close entry.kind world in
      let memory = can.memory in
      record {
        replayable = replayable;
        legal = subst (λ b. IsLegal (rules_of schema limits) b new.items) (sym is_base) (subst (λ h. IsLegal (rules_of schema limits) (base_after entry.kind base h) h) (sym items) can.legal);
        world_is = ap world_of items ∙ world_after_one old.items entry ∙ ap (world_after entry.kind) stands.world_is ∙ sym is_world;
        last = last;
        size = rw items (omega (arith, sum, size, was));
        bound = omega (arith, last, within);
        memory = rw is_world (omega (arith, left, memory, room));
        awaited = tt;
      }

  -- more memory changes nothing
  pub stands_roomier : (new : LogView) → new.items ≡ old.items → old.room ≤ new.room → StandsFor schema limits base new stamp octets world prepared staged
  stands_roomier new items room =
      let memory = stands.memory in
      record {
        replayable = subst IsReplayable (sym items) stands.replayable;
        legal = subst (IsLegal (rules_of schema limits) base) (sym items) stands.legal;
        world_is = ap world_of items ∙ stands.world_is;
        last = stands.last ∙ ap stamp_of (sym items);
        size = stands.size ∙ ap (λ h. counted (size_of h)) (sym items);
        bound = rw items stands.bound;
        memory = omega (arith, memory, room);
        awaited = still staged stands.awaited;
      }
    where
      still : (s : Option Entry) → IfSome s (IsAwaited schema limits old prepared) → IfSome s (IsAwaited schema limits new prepared)
      still None awaited = tt
      still (Some entry) awaited =
          let memory = awaited.memory in
          record {
            given = subst (λ h. Gives (rules_of schema limits) h entry) (sym items) awaited.given;
            prepared = subst (λ h. IsPreparedFor prepared (world_of h) entry.kind) (sym items) awaited.prepared;
            memory = omega (arith, memory, room);
          }

  -- an entry is staged
  pub stands_staged : (new : LogView) (entry : Entry) (ready : Preparation) → new.items ≡ old.items → old.room ≤ new.room → entries_for entry.kind ≤ new.room → Gives (rules_of schema limits) old.items entry → IsPreparedFor ready (world_of old.items) entry.kind → StandsFor schema limits base new stamp octets world ready (Some entry)
  stands_staged new entry ready items room memory given is_ready =
      let same = stands_roomier new items room in
      record {
        replayable = same.replayable;
        legal = same.legal;
        world_is = same.world_is;
        last = same.last;
        size = same.size;
        bound = same.bound;
        memory = same.memory;
        awaited = record {
          given = subst (λ h. Gives (rules_of schema limits) h entry) (sym items) given;
          prepared = subst (λ h. IsPreparedFor ready (world_of h) entry.kind) (sym items) is_ready;
          memory = memory;
        };
      }

-- a history is taken over
pub stands_replayed : (schema : List SchemaNode) (limits : Limits) (log : LogView) (stamp octets : ℕ) (world : World) → IsReplayable log.items → world_of log.items ≡ world → stamp ≡ stamp_of log.items → octets ≡ counted (size_of log.items) → 1 ≤ log.room → StandsFor schema limits log.items log stamp octets world nothing None
stands_replayed schema limits log stamp octets world replayable is_world last size room =
    let within = bounded_stamp log.items replayable.history replayable.bounded in
    record {
      replayable = replayable;
      legal = base_is_legal (rules_of schema limits) log.items;
      world_is = is_world;
      last = last;
      size = size;
      bound = omega (arith, last, within);
      memory = at_most world.trial;
      awaited = tt;
    }
  where
    at_most : (trial : Option OpenTrial) → entries_to_close trial ≤ log.room
    at_most None = omega arith
    at_most (Some trial) = room

-- a core without entries has an empty tree, and so the entries make of a copy of it what they stand for
pub replayed_world : (old : List Entry) (world : World) (copied : List Row) (entries : List Entry) (new : World) → old ≡ [] → world_of old ≡ world → copied ≡ world.tree → new ≡ world_from (record { tree = copied; trial = None }) entries → world_of entries ≡ new
replayed_world old world copied entries new none is copy replayed =
    let bare : world.tree ≡ [] = ap (λ (w : World). w.tree) (sym is) ∙ ap (λ h. (world_of h).tree) none in
    sym (replayed ∙ ap (λ (rows : List Row). world_from (record { tree = rows; trial = None }) entries) (copy ∙ bare))
