-- What is judged of an ask, case by case.
use Rattle.std.proofs.Common.{◌≡◌, ℕ, ◌+◌, ◌≤◌, List, true, false, Result, Ok, Err, refl, sym, ap, ◌∙◌, IsTrue, nat_le}
use Rattle.std.proofs.lemmas.Bool.{and_parts, leb-true}
use Rattle.base_lists.specs.Results.{IsUnlessMemory}
use Rattle.base_kinds.specs.declared.operation.Op.{Op}
use Rattle.base_kinds.specs.declared.entry.Ask.TheVariants as asks
use Rattle.base_kinds.specs.declared.entry.Entry.{Entry}
use Rattle.base_kinds.specs.declared.entry.Kind.TheVariants as kinds
use Rattle.base_kinds.specs.declared.entry.Limits.{Limits}
use Rattle.base_kinds.specs.declared.refusal.Refusal.{Refusal}
use Rattle.base_kinds.specs.declared.refusal.Refusal.TheVariants as refusals
use Rattle.base_kinds.specs.History.{world_of}
use Rattle.base_kinds.specs.Legal.{is_fit_duration}
use Rattle.base_kinds.specs.Limits.{gate_octets, closing_octets, shortest_duration, longest_duration}
use Rattle.base_kinds.specs.Records.{record_octets}
use Rattle.base_kinds.specs.Rules.{limited, rules_of}
use Rattle.base_kinds.specs.Schema.{SchemaNode}
use Rattle.base_kinds.specs.Step.{judge, new_stamp, next_entry, is_open, is_other}
use Rattle.base_kinds.specs.Tree.{effect}
use Rattle.base_kinds.specs.Valid.{valid, fits}
use Rattle.commit_core.specs.inner.Refusals.{IsChangeRefusal, IsTrialRefusal}

-- a duration that a trial may have is at most a day
pub short : (duration : ℕ) → IsTrue (is_fit_duration duration) → duration ≤ longest_duration
short duration fit = leb-true duration longest_duration (and_parts (nat_le shortest_duration duration) (nat_le duration longest_duration) fit).1

-- what is defined is it, also where memory may want
pub exactly : {A E : Type 0} (memory : E) (found defined : Result A E) → found ≡ defined → IsUnlessMemory memory found defined
exactly memory (Ok a) defined is = sym is
exactly memory (Err fault) defined is = λ other. sym is

module _ (schema : List SchemaNode) (limits : Limits) (h : List Entry) (now author : ℕ) (ops : List Op) where
  pub apply_refused : (refusal : Refusal) → IsChangeRefusal schema (world_of h) ops refusal → (refusal ≡ refusals.NoMemory → ⊥) → judge (rules_of schema limits) h now author (asks.Apply ops) ≡ Err refusal
  apply_refused refusals.TrialOpen begun other = rw begun refl
  apply_refused refusals.TreeInvalid is other = rw (is.0, is.1) refl
  apply_refused refusals.TreeFull is other = rw (is.0, is.1.0, is.1.1) refl
  apply_refused refusals.NoMemory is other = absurd (other refl)
  apply_refused _ is other = absurd is.1

  module _ (closed : is_open (world_of h).trial ≡ false) (entry : Entry) (is : entry ≡ next_entry h (new_stamp h now) author (kinds.Apply ops)) (sound : valid schema (effect ops (world_of h).tree) ≡ true) (small : fits (effect ops (world_of h).tree) ≡ true) where
    pub apply_without_room : limited limits h 1 (record_octets entry + gate_octets) ≡ false → judge (rules_of schema limits) h now author (asks.Apply ops) ≡ Err refusals.LogFull
    apply_without_room none = rw (closed, sound, small, ap (λ (e : Entry). limited limits h 1 (record_octets e + gate_octets)) (sym is) ∙ none) refl

    pub apply_accepted : limited limits h 1 (record_octets entry + gate_octets) ≡ true → judge (rules_of schema limits) h now author (asks.Apply ops) ≡ Ok entry
    apply_accepted room = rw (closed, sound, small, ap (λ (e : Entry). limited limits h 1 (record_octets e + gate_octets)) (sym is) ∙ room) (ap Ok (sym is))

  module _ (id : List ℕ) (duration : ℕ) where
    pub trial_refused : (refusal : Refusal) → IsChangeRefusal schema (world_of h) ops refusal → (refusal ≡ refusals.NoMemory → ⊥) → judge (rules_of schema limits) h now author (asks.Trial id ops duration) ≡ Err refusal
    trial_refused refusals.TrialOpen begun other = rw begun refl
    trial_refused refusals.TreeInvalid is other = rw (is.0, is.1) refl
    trial_refused refusals.TreeFull is other = rw (is.0, is.1.0, is.1.1) refl
    trial_refused refusals.NoMemory is other = absurd (other refl)
    trial_refused _ is other = absurd is.1

    module _ (closed : is_open (world_of h).trial ≡ false) (entry : Entry) (is : entry ≡ next_entry h (new_stamp h now) author (kinds.Trial id ops (new_stamp h now + duration))) (sound : valid schema (effect ops (world_of h).tree) ≡ true) (small : fits (effect ops (world_of h).tree) ≡ true) where
      pub trial_without_room : limited limits h 2 (record_octets entry + (gate_octets + closing_octets)) ≡ false → judge (rules_of schema limits) h now author (asks.Trial id ops duration) ≡ Err refusals.LogFull
      trial_without_room none = rw (closed, sound, small, ap (λ (e : Entry). limited limits h 2 (record_octets e + (gate_octets + closing_octets))) (sym is) ∙ none) refl

      pub trial_accepted : limited limits h 2 (record_octets entry + (gate_octets + closing_octets)) ≡ true → judge (rules_of schema limits) h now author (asks.Trial id ops duration) ≡ Ok entry
      trial_accepted room = rw (closed, sound, small, ap (λ (e : Entry). limited limits h 2 (record_octets e + (gate_octets + closing_octets))) (sym is) ∙ room) (ap Ok (sym is))

module _ (schema : List SchemaNode) (limits : Limits) (h : List Entry) (now author : ℕ) (id : List ℕ) where
  pub confirm_refused : (refusal : Refusal) → IsTrialRefusal (world_of h).trial id refusal → judge (rules_of schema limits) h now author (asks.Confirm id) ≡ Err refusal
  confirm_refused refusals.NoTrial closed = rw closed refl
  confirm_refused refusals.WrongId is = rw (is.0, is.1) refl
  confirm_refused _ is = absurd is

  pub cancel_refused : (refusal : Refusal) → IsTrialRefusal (world_of h).trial id refusal → judge (rules_of schema limits) h now author (asks.Cancel id) ≡ Err refusal
  cancel_refused refusals.NoTrial closed = rw closed refl
  cancel_refused refusals.WrongId is = rw (is.0, is.1) refl
  cancel_refused _ is = absurd is

  pub extend_refused : (duration : ℕ) (refusal : Refusal) → IsTrialRefusal (world_of h).trial id refusal → judge (rules_of schema limits) h now author (asks.Extend id duration) ≡ Err refusal
  extend_refused duration refusals.NoTrial closed = rw closed refl
  extend_refused duration refusals.WrongId is = rw (is.0, is.1) refl
  extend_refused duration _ is = absurd is

  module _ (begun : is_open (world_of h).trial ≡ true) (same : is_other (world_of h).trial id ≡ false) (entry : Entry) where
    pub confirm_accepted : entry ≡ next_entry h (new_stamp h now) author kinds.Confirm → judge (rules_of schema limits) h now author (asks.Confirm id) ≡ Ok entry
    confirm_accepted is = rw (begun, same) (ap Ok (sym is))

    pub cancel_accepted : entry ≡ next_entry h (new_stamp h now) author kinds.Cancel → judge (rules_of schema limits) h now author (asks.Cancel id) ≡ Ok entry
    cancel_accepted is = rw (begun, same) (ap Ok (sym is))

    module _ (duration : ℕ) (is : entry ≡ next_entry h (new_stamp h now) author (kinds.Extend (new_stamp h now + duration))) where
      pub extend_without_room : limited limits h 2 (record_octets entry + (gate_octets + closing_octets)) ≡ false → judge (rules_of schema limits) h now author (asks.Extend id duration) ≡ Err refusals.LogFull
      extend_without_room none = rw (begun, same, ap (λ (e : Entry). limited limits h 2 (record_octets e + (gate_octets + closing_octets))) (sym is) ∙ none) refl

      pub extend_accepted : limited limits h 2 (record_octets entry + (gate_octets + closing_octets)) ≡ true → judge (rules_of schema limits) h now author (asks.Extend id duration) ≡ Ok entry
      extend_accepted room = rw (begun, same, ap (λ (e : Entry). limited limits h 2 (record_octets e + (gate_octets + closing_octets))) (sym is) ∙ room) (ap Ok (sym is))
