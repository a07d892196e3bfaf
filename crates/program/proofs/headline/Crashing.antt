-- What a crash leaves begins with the history that is kept.
use Rattle.std.proofs.Common.{◌≡◌, ◌⊎◌, ℕ, List, [], ◌∷◌, ◌++◌, Bool, true, false, Option, Some, None, inl, inr, refl, sym, append-nil, if◌then◌else◌}
use Rattle.base_kinds.specs.declared.entry.Entry.{Entry}
use Rattle.base_kinds.specs.declared.entry.Limits.{Limits}
use Rattle.base_kinds.specs.History.{world_of}
use Rattle.base_kinds.specs.Step.{is_open}
use Rattle.disk_model.specs.Moments.{Leaves}
use Rattle.journal_format.specs.Journal.{IsJournal}
use Rattle.commit_journal.specs.Images.{IsJournalOr}
use Rattle.book_port.specs.Opened.{reopened, restart_entry}
use Rattle.book_port.proofs.Runs.{reopened_has_no_trial}
use Rattle.program.specs.headline.Terms.{IsPrefix}
use Rattle.program.specs.headline.Crashes.{Reopens, KeepsAll, SurvivesCrash}
use Rattle.program.proofs.headline.Prefixes.{prefix_again}

pub prefix_itself : (h : List Entry) → IsPrefix h h
prefix_itself h = ([], sym (append-nil h))

pub reopened_prefix : (h : List Entry) (now : ℕ) → IsPrefix h (reopened h now)
reopened_prefix h now = by_test (is_open (world_of h).trial)
  where
    by_test : (test : Bool) → IsPrefix h (if test then h ++ restart_entry h now ∷ [] else h)
    by_test true = (restart_entry h now ∷ [], refl)
    by_test false = prefix_itself h

reopens_so : (h found : List Entry) → IsPrefix h found → (now : ℕ) → Reopens h found now
reopens_so h found front now = record {
  keeps = prefix_again h found (reopened found now) front (reopened_prefix found now);
  no_trial = reopened_has_no_trial found now;
}

keeps_all : (limits : Limits) (h : List Entry) (doubt : Option Entry) (octets : List ℕ) → IsJournalOr limits h doubt octets → KeepsAll limits h doubt octets
keeps_all limits h None octets is = record {
  found = h;
  journal = is;
  is_one = inl refl;
  reopens = reopens_so h h (prefix_itself h);
}
keeps_all limits h (Some attempt) octets (inl is) = record {
  found = h;
  journal = is;
  is_one = inl refl;
  reopens = reopens_so h h (prefix_itself h);
}
keeps_all limits h (Some attempt) octets (inr is) = record {
  found = h ++ attempt ∷ [];
  journal = is;
  is_one = inr (inl refl);
  reopens = reopens_so h (h ++ attempt ∷ []) (attempt ∷ [], refl);
}

pub crashes_leave_prefixes : (limits : Limits) (h : List Entry) (doubt : Option Entry) (mask : List (Option ℕ)) → Leaves (IsJournalOr limits h doubt) mask → SurvivesCrash limits h doubt mask
crashes_leave_prefixes limits h doubt mask leaves octets image = keeps_all limits h doubt octets (leaves octets image)
