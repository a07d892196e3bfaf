-- Confirm and Cancel: taken for the open trial's id, and refused for want of a trial or for another id alone.
use Rattle.std.proofs.Common.{◌≡◌, ℕ, List, [], ◌∷◌, Bool, true, false, not, Option, Some, None, Result, Ok, Err, refl, ap, ◌∙◌, inl, inr, ◌⊎◌, is_ok, true≢false, if◌then◌else◌}
use Rattle.std.specs.Str.{bytes_eq}
use Rattle.base_kinds.specs.declared.entry.Entry.{Entry}
use Rattle.base_kinds.specs.declared.entry.Ask.{Ask}
use Rattle.base_kinds.specs.declared.entry.Ask.TheVariants as asks
use Rattle.base_kinds.specs.declared.entry.Kind.TheVariants as kinds
use Rattle.base_kinds.specs.declared.refusal.Refusal.{Refusal}
use Rattle.base_kinds.specs.declared.refusal.Refusal.TheVariants.{NoTrial, WrongId}
use Rattle.base_kinds.specs.History.{OpenTrial, world_of}
use Rattle.base_kinds.specs.Step.{Rules, new_stamp, next_entry, kind_of_ask, is_open, is_other, first_refusal, judge}
use Rattle.std.proofs.lemmas.Slice.Eq.{bytes_eq-Decides}
use Rattle.history_laws.specs.TrialLaws.{ClosesTrial}

-- the two cases against a closing
abbrev closing : Option OpenTrial → List ℕ → Entry → Result Entry Refusal
closing trial id entry = first_refusal ((not (is_open trial), NoTrial) ∷ (is_other trial id, WrongId) ∷ []) entry

own_id : (id : List ℕ) → bytes_eq id id ≡ true
own_id id = (bytes_eq-Decides id id).1 refl

taken : (trial : Option OpenTrial) (begun : OpenTrial) (id : List ℕ) (entry : Entry) → trial ≡ Some begun → id ≡ begun.id → closing trial id entry ≡ Ok entry
taken trial begun id entry is same = ap (λ t. closing t id entry) is ∙ ap (λ i. closing (Some begun) i entry) same ∙ ap (λ (test : Bool). if not test then Err WrongId else Ok entry) (own_id begun.id)

pub closings_are_taken : (rules : Rules) (h : List Entry) (now author : ℕ) (trial : OpenTrial) (ask : Ask) → (world_of h).trial ≡ Some trial → ClosesTrial trial.id ask → judge rules h now author ask ≡ Ok (next_entry h (new_stamp h now) author (kind_of_ask (new_stamp h now) ask))
closings_are_taken rules h now author trial (asks.Confirm id) is closes = taken (world_of h).trial trial id (next_entry h (new_stamp h now) author kinds.Confirm) is closes
closings_are_taken rules h now author trial (asks.Cancel id) is closes = taken (world_of h).trial trial id (next_entry h (new_stamp h now) author kinds.Cancel) is closes
closings_are_taken rules h now author trial _ is closes = absurd closes

by_id : (test : Bool) (entry : Entry) (refusal : Refusal) → (if not test then Err WrongId else Ok entry) ≡ Err refusal → (refusal ≡ NoTrial) ⊎ (refusal ≡ WrongId)
by_id true entry refusal is = absurd (true≢false (ap is_ok is))
by_id false entry refusal is = let same : refusal ≡ WrongId = cc is in inr same

refused : (trial : Option OpenTrial) (id : List ℕ) (entry : Entry) (refusal : Refusal) → closing trial id entry ≡ Err refusal → (refusal ≡ NoTrial) ⊎ (refusal ≡ WrongId)
refused None id entry refusal is = let same : refusal ≡ NoTrial = cc is in inl same
refused (Some trial) id entry refusal is = by_id (bytes_eq trial.id id) entry refusal is

pub closings_are_refused : (rules : Rules) (h : List Entry) (now author : ℕ) (id : List ℕ) (ask : Ask) (refusal : Refusal) → ClosesTrial id ask → judge rules h now author ask ≡ Err refusal → (refusal ≡ NoTrial) ⊎ (refusal ≡ WrongId)
closings_are_refused rules h now author id (asks.Confirm other) refusal closes is = refused (world_of h).trial other (next_entry h (new_stamp h now) author kinds.Confirm) refusal is
closings_are_refused rules h now author id (asks.Cancel other) refusal closes is = refused (world_of h).trial other (next_entry h (new_stamp h now) author kinds.Cancel) refusal is
closings_are_refused rules h now author id _ refusal closes is = absurd closes
