-- Every legal history comes of fit events.
use Rattle.std.proofs.Common.{◌≡◌, ℕ, List, [], ◌∷◌, ◌++◌, Bool, true, false, not, Ok, refl, sym, ap, ◌∙◌, arith, inl, inr, append_assoc, append-nil, if◌then◌else◌}
use Rattle.base_kinds.specs.declared.entry.Entry.{Entry}
use Rattle.base_kinds.specs.declared.entry.Kind.TheVariants as kinds
use Rattle.base_kinds.specs.declared.entry.Ask.TheVariants as asks
use Rattle.base_kinds.specs.declared.refusal.Refusal.TheVariants.{NoTrial, WrongId}
use Rattle.base_kinds.specs.History.{World}
use Rattle.base_kinds.specs.Step.{Rules, new_stamp, next_entry, is_due, is_open, is_other, after_expiry, first_refusal, judge, with_answer}
use Rattle.base_kinds.specs.Legal.{Gives, GivenInTurn, IsLegal}
use Rattle.base_kinds.specs.Events.{Set, Event, history_after, history_after_all}
use Rattle.history_laws.specs.LegalLaws.{IsFitEvent, AreFitEvents}
use Rattle.history_laws.proofs.States.{world_after_one}

-- where a trial expires, someone who confirms it comes too late
abbrev late : ℕ → Event
late reading = record { reading = reading; author = 1; request = Set (Ok (asks.Confirm (97 ∷ []))) }

late_is_fit : (reading : ℕ) → IsFitEvent (late reading)
late_is_fit reading = record { author = omega arith; request_fits = refl }

late_adds_none : (rules : Rules) (h : List Entry) (stamp reading : ℕ) → with_answer (h ++ next_entry h stamp 0 kinds.Expire ∷ []) (judge rules (h ++ next_entry h stamp 0 kinds.Expire ∷ []) reading 1 (asks.Confirm (97 ∷ []))) ≡ h ++ next_entry h stamp 0 kinds.Expire ∷ []
late_adds_none rules h stamp reading =
    let expired : List Entry = h ++ next_entry h stamp 0 kinds.Expire ∷ [] in
    ap (λ (world : World). with_answer expired (first_refusal ((not (is_open world.trial), NoTrial) ∷ (is_other world.trial (97 ∷ []), WrongId) ∷ []) (next_entry expired (new_stamp expired reading) 1 kinds.Confirm))) (world_after_one h (next_entry h stamp 0 kinds.Expire))

ticked : (h : List Entry) (now : ℕ) (test : Bool) → is_due h now ≡ test → after_expiry h now ≡ (if test then h ++ next_entry h (new_stamp h now) 0 kinds.Expire ∷ [] else h)
ticked h now test is = ap (λ (due : Bool). if due then h ++ next_entry h (new_stamp h now) 0 kinds.Expire ∷ [] else h) is

pub reached_one : (rules : Rules) (h : List Entry) (entry : Entry) → Gives rules h entry → (event : Event) × IsFitEvent event × (history_after rules h event ≡ h ++ entry ∷ [])
reached_one rules h entry (inl expiry) =
    let tick = ticked h entry.stamp true expiry.due in (
      late entry.stamp,
      late_is_fit entry.stamp,
      ap (λ es. with_answer es (judge rules es entry.stamp 1 (asks.Confirm (97 ∷ [])))) tick ∙ late_adds_none rules h (new_stamp h entry.stamp) entry.stamp ∙ ap (λ (e : Entry). h ++ e ∷ []) (sym expiry.is),
    )
reached_one rules h entry (inr answer) =
    let tick = ticked h entry.stamp false answer.not_due in (
      record { reading = entry.stamp; author = entry.author; request = Set (Ok answer.ask) },
      record { author = answer.author; request_fits = answer.ask_fits },
      ap (λ es. with_answer es (judge rules es entry.stamp entry.author answer.ask)) tick ∙ ap (with_answer h) answer.judged,
    )

reached_in_turn : (rules : Rules) (h more : List Entry) → GivenInTurn rules h more → (events : List Event) × AreFitEvents events × (history_after_all rules h events ≡ h ++ more)
reached_in_turn rules h [] given = ([], tt, sym (append-nil h))
reached_in_turn rules h (entry ∷ more) given =
    let one = reached_one rules h entry given.0 in
    let rest = reached_in_turn rules (h ++ entry ∷ []) more given.1 in
    (one.0 ∷ rest.0, (one.1, rest.1), ap (λ es. history_after_all rules es rest.0) one.2 ∙ rest.2 ∙ append_assoc h (entry ∷ []) more)

pub legal_is_reached : (rules : Rules) (base h : List Entry) → IsLegal rules base h → (events : List Event) × AreFitEvents events × (history_after_all rules base events ≡ h)
legal_is_reached rules base h legal =
    let reached = reached_in_turn rules base legal.more legal.given in
    (reached.0, reached.1, reached.2 ∙ sym legal.whole)
