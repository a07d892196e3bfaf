-- An opening that gives no book to serve over.
use Rattle.std.proofs.Common.{◌≡◌, ℕ, List, [], ◌∷◌, ◌++◌, Option, inl, inr, sym, ap, ◌∙◌, subst, codes}
use Rattle.base_kinds.specs.Schema.{SchemaNode}
use Rattle.disk_model.specs.Calls.{Fuse}
use Rattle.disk_model.specs.Content.{Content, Tells}
use Rattle.journal_format.specs.Journal.{IsDamaged}
use Rattle.book_core.specs.Openings.{IsDamagedAt, IsFaulty, IsStarved, IsUnfit}
use Rattle.program.specs.declared.ending.Ending.{Ending}
use Rattle.program.specs.declared.ending.Ending.TheVariants.{DiskFault, SchemaUnfit}
use Rattle.program.specs.Environment.{Environment, SeenDisk, seen_disk}
use Rattle.program.specs.Links.{SeenLinks}
use Rattle.program.specs.LogRun.{OnlySynced}
use Rattle.program.specs.Printing.{SaysLast, OutOfMemory}
use Rattle.program.specs.ServeCommand.{OnDisk, SaysWhyNone}
use Rattle.program.specs.inner.SharedBook.{SaysDamage}
use Rattle.program.proofs.Sessions.{fault_found}

-- the input and the door weren't touched, and the clock was read once
pub record IsUntouched (now : ℕ) (before after : Environment) : Type 0 where
  pub input : after.input ≡ before.input
  pub clock : after.clock ≡ before.clock ++ now ∷ []
  pub door : after.door ≡ before.door

opens_none : (sessions now : ℕ) (schema : List SchemaNode) (initial final : SeenDisk) (before after : Environment) (links : SeenLinks) (ending : Ending) → IsUntouched now before after → links ≡ [] → SaysWhyNone sessions schema now initial final before after links ending → OnDisk sessions schema initial final before after links ending
opens_none sessions now schema initial final before after links ending rest none why =
    record { now = now; input = rest.input; clock = rest.clock; serves = inr (inr (record { why = why; door = rest.door; links_are = none })) }

-- what is left is the disk of the opening, and the run ends as was said
left_so : (sessions : ℕ) (schema : List SchemaNode) (initial final final' : SeenDisk) (before after : Environment) (links : SeenLinks) (ending ending' : Ending) → final' ≡ final → ending' ≡ ending → OnDisk sessions schema initial final before after links ending → OnDisk sessions schema initial final' before after links ending'
left_so sessions schema initial final final' before after links ending ending' p q on =
    subst (λ (e : Ending). OnDisk sessions schema initial final' before after links e) (sym q)
    (subst (λ (d : SeenDisk). OnDisk sessions schema initial d before after links ending) (sym p) on)

says_starved : (sessions now : ℕ) (schema : List SchemaNode) (initial final : SeenDisk) (before after : Environment) (links : SeenLinks) (ending : Ending) → IsUntouched now before after → links ≡ [] → OnlySynced initial final → OutOfMemory before.output after.output ending → OnDisk sessions schema initial final before after links ending
says_starved sessions now schema initial final before after links ending rest none synced out =
    opens_none sessions now schema initial final before after links ending rest none (inr (inr (inr (record { is = out.ends; synced = synced }, out.line))))

says_damage : (sessions now : ℕ) (schema : List SchemaNode) (initial final : SeenDisk) (before after : Environment) (links : SeenLinks) (ending : Ending) (place : ℕ) → IsUntouched now before after → links ≡ [] → Tells initial.told (λ content. IsDamaged content.seen place) → OnlySynced initial final → SaysDamage place before.output after.output ending → OnDisk sessions schema initial final before after links ending
says_damage sessions now schema initial final before after links ending place rest none damaged synced (inl said) =
    opens_none sessions now schema initial final before after links ending rest none (inl (record { is = said.0; place = place; damaged = damaged; synced = synced }, said.1))
says_damage sessions now schema initial final before after links ending place rest none damaged synced (inr out) =
    says_starved sessions now schema initial final before after links ending rest none synced out

module _ {D : Type 0} (told : D → Option Content) (faults : D → ℕ) (fuse : D → Fuse) (disk : D) (schema : List SchemaNode) (now sessions : ℕ) (before after : Environment) (links : SeenLinks) (ending ending' : Ending) (left left' : D) (left_is : left' ≡ left) (none : links ≡ []) (end_is : ending' ≡ ending) (rest : IsUntouched now before after) where
  abbrev initial : SeenDisk
  initial = seen_disk told faults disk

  as_left : OnDisk sessions schema initial (seen_disk told faults left) before after links ending → OnDisk sessions schema initial (seen_disk told faults left') before after links ending'
  as_left on = left_so sessions schema initial (seen_disk told faults left) (seen_disk told faults left') before after links ending ending' (ap (λ (d : D). seen_disk told faults d) left_is) end_is on

  pub over_damaged : (place : ℕ) → IsDamagedAt told faults fuse disk schema now place left → SaysDamage place before.output after.output ending → OnDisk sessions schema initial (seen_disk told faults left') before after links ending'
  over_damaged place is says = as_left (says_damage sessions now schema initial (seen_disk told faults left) before after links ending place rest none is.damaged.damaged (record { content = is.damaged.was_synced; quiet = is.damaged.quiet }) says)

  pub over_unfit : IsUnfit told faults fuse disk schema now left → ending ≡ SchemaUnfit → SaysLast (codes "schema does not fit journal\n") before.output after.output → OnDisk sessions schema initial (seen_disk told faults left') before after links ending'
  over_unfit is end says = as_left (opens_none sessions now schema initial (seen_disk told faults left) before after links ending rest none
      (inr (inl (record { is = end; limits = is.limits; found = is.found; has_journal = is.has_journal; unsound = is.unsound; synced = record { content = is.was_synced; quiet = is.quiet } }, says))))

  pub over_faulty : IsFaulty told faults fuse disk schema now left → ending ≡ DiskFault → SaysLast (codes "disk fault\n") before.output after.output → OnDisk sessions schema initial (seen_disk told faults left') before after links ending'
  over_faulty is end says = as_left (opens_none sessions now schema initial (seen_disk told faults left) before after links ending rest none
      (inr (inr (inl (fault_found told faults fuse disk left schema now ending end is, says)))))

  pub over_starved : IsStarved told faults fuse disk schema now left → OutOfMemory before.output after.output ending → OnDisk sessions schema initial (seen_disk told faults left') before after links ending'
  over_starved is out = as_left (says_starved sessions now schema initial (seen_disk told faults left) before after links ending rest none (record { content = is.was_synced; quiet = is.quiet }) out)
