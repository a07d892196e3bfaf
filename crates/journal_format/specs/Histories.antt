-- Which histories a journal may hold (gNMI commit-confirmed extension; stamps, authors and limits
-- are this project's own).
use Rattle.std.specs.Prelude.{◌≡◌, ℕ, ◌+◌, ◌-◌, ◌<◌, List, [], ◌∷◌, ◌++◌, Bool, true, not, ◌&&◌, nat_le, ◌==◌, length, IsTrue, if◌then◌else◌}
use Rattle.std.specs.List.{list_all}
use Rattle.base_kinds.specs.declared.entry.Entry.{Entry}
use Rattle.base_kinds.specs.declared.entry.Limits.{Limits}
use Rattle.base_kinds.specs.declared.entry.Kind.{Kind}
use Rattle.base_kinds.specs.declared.entry.Kind.TheVariants as kinds
use Rattle.base_kinds.specs.Bases.{IsBounded}
use Rattle.base_kinds.specs.Limits.{AreInRange, closing_octets}
use Rattle.base_kinds.specs.History.{world_of, stamp_of}
use Rattle.base_kinds.specs.Step.{is_open}
use Rattle.base_kinds.specs.Legal.{is_fit_op, is_fit_id, is_fit_duration}
use Rattle.base_kinds.specs.Rules.{limited}

-- The target itself, which is author 0, ends a trial at its deadline and where it is started anew.
-- All else has an author.
abbrev pub is_author_of : Kind → ℕ → Bool
is_author_of (kinds.Apply ops) author = nat_le 1 author
is_author_of (kinds.Trial id ops deadline) author = nat_le 1 author
is_author_of kinds.Confirm author = nat_le 1 author
is_author_of kinds.Cancel author = nat_le 1 author
is_author_of kinds.Expire author = author == 0
is_author_of kinds.Restart author = author == 0
is_author_of (kinds.Extend deadline) author = nat_le 1 author

-- operations are applied where no trial is open, and all else happens to an open one
abbrev pub happens : Kind → Bool → Bool
happens (kinds.Apply ops) open_before = not open_before
happens (kinds.Trial id ops deadline) open_before = not open_before
happens kinds.Confirm open_before = open_before
happens kinds.Cancel open_before = open_before
happens kinds.Expire open_before = open_before
happens kinds.Restart open_before = open_before
happens (kinds.Extend deadline) open_before = open_before

-- a deadline is as far above its entry's stamp as a trial may last
abbrev pub is_fit_deadline : ℕ → ℕ → Bool
is_fit_deadline stamp deadline = is_fit_duration (deadline - stamp)

abbrev pub is_fit_kind : ℕ → Kind → Bool
is_fit_kind stamp (kinds.Apply ops) = list_all is_fit_op ops
is_fit_kind stamp (kinds.Trial id ops deadline) =
    is_fit_id id && is_fit_deadline stamp deadline && list_all is_fit_op ops
is_fit_kind stamp kinds.Confirm = true
is_fit_kind stamp kinds.Cancel = true
is_fit_kind stamp kinds.Expire = true
is_fit_kind stamp kinds.Restart = true
is_fit_kind stamp (kinds.Extend deadline) = is_fit_deadline stamp deadline

-- a trial is open in the state that the history stands for
abbrev pub has_trial : List Entry → Bool
has_trial h = is_open (world_of h).trial

-- The history is within the limits, and where a trial is open, so is the history with an entry that
-- closes it.
abbrev pub has_room : Limits → List Entry → Bool
has_room limits h = if has_trial h then limited limits h 1 closing_octets else limited limits h 0 0

-- the entry may stand behind the history
pub record MayFollow (limits : Limits) (h : List Entry) (entry : Entry) : Type 0 where
  pub number_is : entry.number ≡ length h + 1
  pub later : stamp_of h < entry.stamp
  pub bounded : IsBounded entry
  pub author_is : IsTrue (is_author_of entry.kind entry.author)
  pub can_happen : IsTrue (happens entry.kind (has_trial h))
  pub kind_fits : IsTrue (is_fit_kind entry.stamp entry.kind)
  pub room : IsTrue (has_room limits (h ++ entry ∷ []))

-- each of the entries may stand behind those before it
abbrev pub FollowInTurn : Limits → List Entry → List Entry → Type 0
FollowInTurn limits h [] = Unit {0}
FollowInTurn limits h (entry ∷ entries) =
    MayFollow limits h entry × FollowInTurn limits (h ++ entry ∷ []) entries

-- a journal with these limits may hold the history
pub record IsJournalHistory (limits : Limits) (h : List Entry) : Type 0 where
  pub in_range : AreInRange limits
  pub in_turn : FollowInTurn limits [] h
