-- What an opening goes on from.
use Rattle.std.proofs.Common.{◌≡◌, inl, inr, ℕ, ◌+◌, ◌≤◌, List, [], ◌∷◌, ◌++◌, true, cond, Option, Some, None, IfSome, IsSome, true≢false, refl, sym, ap, ◌∙◌, subst, arith}
use Rattle.base_kinds.specs.declared.path.Elem.{Elem}
use Rattle.base_kinds.specs.declared.operation.Row.{Row}
use Rattle.base_kinds.specs.declared.entry.Entry.{Entry}
use Rattle.base_kinds.specs.declared.entry.Limits.{Limits}
use Rattle.base_kinds.specs.Bases.{IsSound}
use Rattle.base_kinds.specs.History.{world_of}
use Rattle.base_kinds.specs.Parts.{is_covered, part}
use Rattle.base_kinds.specs.Records.{record_octets}
use Rattle.base_kinds.specs.Schema.{SchemaNode}
use Rattle.base_kinds.specs.Step.{is_open}
use Rattle.disk_model.specs.Content.{Content}
use Rattle.disk_model.specs.Moments.{LeavesOnly}
use Rattle.journal_format.specs.Histories.{MayFollow, IsJournalHistory}
use Rattle.journal_format.proofs.Following.{journal_is_history, journal_is_bounded, journal_is_ahead, journal_is_base, restart_may_follow}
use Rattle.journal_format.proofs.Histories.{legal_more}
use Rattle.commit_journal.specs.Images.{IsJournalOr, IsJournalOfAny}
use Rattle.journal_format.specs.Journal.{IsJournal}
use Rattle.std.proofs.lemmas.List.{map-append}
use Rattle.book_port.specs.declared.happening.Happening.TheVariants.{Entered}
use Rattle.book_port.specs.Chronicles.{entered}
use Rattle.book_port.specs.Opened.{IsRun, reopened, restart_entry}
use Rattle.book_port.proofs.Runs.{founded_is_run, reopened_has_no_trial}
use Rattle.commit_core.specs.CoreView.{IsReplayable}
use Rattle.book_core.specs.Openings.{opening_stages, restart_calls}
use Rattle.book_core.specs.Calls.{append_calls}
use Rattle.book_core.specs.inner.Restarts.{IsRestartOf, with_one}

-- ---- the root covers every row

abbrev root : List (List Elem)
root = [] ∷ []

covered : (path : List Elem) → is_covered root path ≡ true
covered [] = refl
covered (elem ∷ elems) = refl

pub whole : (rows : List Row) → part root rows ≡ rows
whole [] = refl
whole (row ∷ rows) = ap (λ c. cond c (row ∷ part root rows) (part root rows)) (covered row.path) ∙ ap (λ rest. row ∷ rest) (whole rows)

pub entered_more : (xs ys : List Entry) → entered (xs ++ ys) ≡ entered xs ++ entered ys
entered_more xs ys = map-append Entered xs ys

-- what an append of this entry leaves
pub leaves_with : (limits : Limits) (h : List Entry) (one : Option Entry) (entry : Entry) (old new : Option Content) → one ≡ Some entry → LeavesOnly (IsJournalOr limits h (Some entry)) old new → LeavesOnly (IsJournalOr limits h one) old new
leaves_with limits h one entry old new is leaves = subst (λ o. LeavesOnly (IsJournalOr limits h o) old new) (sym is) leaves

-- ---- a journal's history

pub replayable : (limits : Limits) (h : List Entry) → IsJournalHistory limits h → IsReplayable h
replayable limits h legal = record { history = journal_is_history limits h legal; bounded = journal_is_bounded limits h legal; ahead = journal_is_ahead limits h legal }

module _ (h : List Entry) (now : ℕ) where
  pub with_restart : (restart : Option Entry) → IsRestartOf h now restart → with_one h restart ≡ reopened h now
  with_restart None is = rw is refl
  with_restart (Some entry) is = ap (λ e. h ++ e ∷ []) is.1 ∙ sym (by_open is.0)
    where
      by_open : is_open (world_of h).trial ≡ true → reopened h now ≡ h ++ restart_entry h now ∷ []
      by_open open_now = rw open_now refl

  pub restart_follows : (limits : Limits) → IsJournalHistory limits h → (restart : Option Entry) → IsRestartOf h now restart → IfSome restart (λ e. MayFollow limits h e)
  restart_follows limits legal None is = tt
  restart_follows limits legal (Some entry) is = subst (MayFollow limits h) (sym is.1) (restart_may_follow limits h now legal is.0)

  pub restart_short : (room : ℕ) → 14 ≤ room → (restart : Option Entry) → IsRestartOf h now restart → IfSome restart (λ e. record_octets e + 1 ≤ room)
  restart_short room least None is = tt
  restart_short room least (Some entry) is = let short : record_octets entry ≡ 13 = ap record_octets is.1 in omega (arith, short, least)

  pub restart_open : (restart : Option Entry) → IsRestartOf h now restart → IsSome restart → is_open (world_of h).trial ≡ true
  restart_open None is some = absurd (true≢false (sym some))
  restart_open (Some entry) is some = is.0

  pub restart_made : (restart : Option Entry) → IsRestartOf h now restart → append_calls restart ≡ restart_calls h
  restart_made None is = rw is refl
  restart_made (Some entry) is = let was : is_open (world_of h).trial ≡ true = is.0 in rw was refl

  pub restart_through : (limits : Limits) (restart : Option Entry) → IsRestartOf h now restart → (octets : List ℕ) → IsJournalOr limits h restart octets → IsJournalOfAny limits (opening_stages h now) octets
  restart_through limits None is octets journal = inl journal
  restart_through limits (Some entry) is octets (inl journal) = inl journal
  restart_through limits (Some entry) is octets (inr journal) = inr (inl (subst (λ g. IsJournal octets limits g) (with_restart (Some entry) is) journal))

  pub legal_with : (limits : Limits) → IsJournalHistory limits h → (restart : Option Entry) → IsRestartOf h now restart → IsJournalHistory limits (reopened h now)
  legal_with limits legal None is = subst (IsJournalHistory limits) (with_restart None is) legal
  legal_with limits legal (Some entry) is = subst (IsJournalHistory limits) (with_restart (Some entry) is) (legal_more limits h entry legal (restart_follows limits legal (Some entry) is))

  pub opened_run : (schema : List SchemaNode) (limits : Limits) (faults : ℕ) → IsJournalHistory limits (reopened h now) → IsSound schema (world_of (reopened h now)).tree → IsRun (record { schema = schema; limits = limits; base = reopened h now; faults = faults }) (reopened h now)
  opened_run schema limits faults legal sound =
      founded_is_run (record { schema = schema; limits = limits; base = reopened h now; faults = faults }) (record {
        in_range = legal.in_range;
        base = journal_is_base schema limits (reopened h now) legal (record { tree = sound; before = rw (reopened_has_no_trial h now) tt });
        no_trial = reopened_has_no_trial h now;
      })
