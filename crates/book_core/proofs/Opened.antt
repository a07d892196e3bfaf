-- What an opening gives, from what its ledger and its core give.
use Rattle.std.proofs.Common.{◌≡◌, ◌⊎◌, inl, inr, ℕ, ◌+◌, ◌≤◌, List, Option, Some, None, IfSome, IsSome, length, refl, sym, ap, ◌∙◌, subst, arith}
use Rattle.base_kinds.specs.declared.entry.Entry.{Entry}
use Rattle.base_kinds.specs.Bases.{IsSound}
use Rattle.base_kinds.specs.History.{world_of}
use Rattle.base_kinds.specs.Schema.{SchemaNode}
use Rattle.environment.specs.Faults.{Rose}
use Rattle.disk_model.specs.Arming.{Arming}
use Rattle.disk_model.specs.Calls.{Fuse, CallsPassed, FailsWithin, PassesWithin, WhereArmed}
use Rattle.book_core.specs.Calls.{FailsBehind, append_calls}
use Rattle.disk_model.specs.Content.{Content, WhereTold, Tells}
use Rattle.disk_model.specs.Moments.{LeavesNow, LeavesOnly}
use Rattle.disk_model.proofs.Calls.{passed_then, passes_within}
use Rattle.disk_model.proofs.Moving.{leaves_weaker, moved_on}
use Rattle.journal_format.specs.Histories.{IsJournalHistory}
use Rattle.journal_format.specs.Journal.{IsJournal}
use Rattle.commit_journal.specs.Images.{IsJournalOr}
use Rattle.commit_journal.specs.Ledgers.{LedgerView}
use Rattle.commit_journal.specs.Openings.{IsSynced, opening_calls}
use Rattle.commit_journal.specs.Openings.{IsReady as IsLedgerReady}
use Rattle.book_port.specs.declared.happening.Happening.{Happening}
use Rattle.book_port.specs.Chronicles.{history_of, marks_of, entered}
use Rattle.book_port.specs.Opened.{Opened, IsRun, reopened}
use Rattle.book_port.proofs.Chronicled.{history_of_entered, marks_of_entered}
use Rattle.commit_core.specs.CoreView.{CoreView}
use Rattle.book_core.specs.Openings.{SyncsThen, HasJournal, opening_stages, IsReady, IsUnfit, IsFaulty, IsStarved}
use Rattle.book_core.specs.inner.Books.{IsBook, opened_with}
use Rattle.book_core.specs.inner.Restarts.{IsRestartOf, with_one}
use Rattle.book_core.proofs.Calling.{fails_behind}
use Rattle.book_core.proofs.Openings.{with_restart, restart_open, restart_made, restart_through, legal_with, opened_run}

armed_map : {P Q : Content → Type 0} (arming : Option Arming) (told : Option Content) → ((c : Content) → P c → Q c) → IfSome arming (λ _. Tells told P) → IfSome arming (λ _. Tells told Q)
armed_map None told weaker is = tt
armed_map (Some a) None weaker is = tt
armed_map (Some a) (Some c) weaker is = weaker c is

module _ {D : Type 0} (told : D → Option Content) (faults : D → ℕ) (given : D) (entries : List Entry) where
  pub reserved : (old new : LedgerView D) (room : ℕ) → new ≡ record old { room = room } → IsLedgerReady told faults given old entries → IsLedgerReady told faults given new entries
  reserved old new room same ready = subst (λ (l : LedgerView D). IsLedgerReady told faults given l entries) (sym same) (record {
    was_synced = ready.was_synced;
    quiet = ready.quiet;
    history_is = ready.history_is;
    no_doubt = ready.no_doubt;
    legal = ready.legal;
    journal = ready.journal;
    images = ready.images;
  })

module _ {D : Type 0} (told : D → Option Content) (faults : D → ℕ) (fuse : D → Fuse) (given : D) (schema : List SchemaNode) (now : ℕ) (ledger : LedgerView D) (entries : List Entry) (ready : IsLedgerReady told faults given ledger entries) (calls : WhereArmed (fuse given) (told given) (λ c. CallsPassed (opening_calls (length c.seen)) (fuse given) (fuse ledger.disk))) where
  pub starved_here : IsStarved told faults fuse given schema now ledger.disk
  starved_here = record {
    quiet = ready.quiet;
    was_synced = ready.was_synced;
    calls = armed_map (fuse given).arming (told given) (λ c passed. passes_within _ _ _ _ (omega arith) passed) calls;
  }

  pub unfit_here : (IsSound schema (world_of (reopened entries now)).tree → ⊥) → IsUnfit told faults fuse given schema now ledger.disk
  unfit_here unsound = record {
    limits = ledger.limits;
    found = entries;
    has_journal = record { journal = ready.journal; legal = ready.legal };
    unsound = unsound;
    quiet = ready.quiet;
    was_synced = ready.was_synced;
    calls = calls;
  }

  -- the images of a first entry's append are journals
  pub images_before : LeavesNow (IsJournalOr ledger.limits ledger.history None) (told ledger.disk)
  images_before = subst (λ h. LeavesNow (λ octets. IsJournal octets ledger.limits h) (told ledger.disk)) (sym ready.history_is) ready.images

  module _ (restart : Option Entry) (is : IsRestartOf entries now restart) (new : LedgerView D) (limits : new.limits ≡ ledger.limits) (moments : LeavesOnly (IsJournalOr ledger.limits ledger.history restart) (told ledger.disk) (told new.disk)) where
    synced_then : WhereTold (told given) (told new.disk) (SyncsThen ledger.limits (opening_stages entries now))
    synced_then = moved_on (told given) (told ledger.disk) (told new.disk) ready.was_synced
        (leaves_weaker _ _ (told ledger.disk) (told new.disk) (restart_through entries now ledger.limits restart is) (subst (λ h. LeavesOnly (IsJournalOr ledger.limits h restart) (told ledger.disk) (told new.disk)) ready.history_is moments))
        (λ o m n synced throughout. record { between = m; was_synced = synced; then_on = throughout })

    pub faulty_here : IsSome restart → IsSound schema (world_of (reopened entries now)).tree → Rose (faults ledger.disk) (faults new.disk) → FailsBehind 0 4 (fuse ledger.disk) (fuse new.disk) → IsFaulty told faults fuse given schema now new.disk
    faulty_here some sound rose failed = record {
      rose = omega (arith, rose, ready.quiet);
      cause = inr (record {
        limits = ledger.limits;
        found = entries;
        has_journal = record { journal = ready.journal; legal = ready.legal };
        was_open = restart_open entries now restart is some;
        sound = sound;
        moments = synced_then;
        calls = armed_map (fuse given).arming (told given) (λ c passed. fails_behind (opening_calls (length c.seen)) 4 _ _ _ passed failed) calls;
      });
    }

    module _ (core : CoreView) (chronicle : List Happening) (core_schema : core.schema ≡ schema) (core_limits : core.limits ≡ ledger.limits) (core_entries : core.entries ≡ reopened entries now) (chronicle_is : chronicle ≡ entered core.entries) (sound : IsSound schema (world_of (reopened entries now)).tree) (history : new.history ≡ with_one ledger.history restart) (settled : new.doubt ≡ None) (quiet : faults new.disk ≡ faults ledger.disk) (images : LeavesNow (IsJournalOr new.limits new.history new.doubt) (told new.disk)) where
      abbrev opened : Opened
      opened = opened_with core (faults given)

      opened_is : opened ≡ record { schema = schema; limits = ledger.limits; base = reopened entries now; faults = faults given }
      opened_is = λ i. record { schema = core_schema i; limits = core_limits i; base = core_entries i; faults = faults given }

      legal : IsJournalHistory ledger.limits (reopened entries now)
      legal = legal_with entries now ledger.limits ready.legal restart is

      its_run : IsRun opened (reopened entries now)
      its_run = subst (λ (o : Opened). IsRun o (reopened entries now)) (sym opened_is) (opened_run entries now schema ledger.limits (faults given) legal sound)

      history_here : history_of chronicle ≡ reopened entries now
      history_here = ap history_of chronicle_is ∙ history_of_entered core.entries ∙ core_entries

      new_history : new.history ≡ reopened entries now
      new_history = history ∙ ap (λ h. with_one h restart) ready.history_is ∙ with_restart entries now restart is

      images_left : LeavesNow (λ octets. IsJournal octets ledger.limits (reopened entries now)) (told new.disk)
      images_left = subst (λ l. LeavesNow (IsJournalOr l (reopened entries now) None) (told new.disk)) limits (subst (λ h. LeavesNow (IsJournalOr new.limits h None) (told new.disk)) new_history (subst (λ d. LeavesNow (IsJournalOr new.limits new.history d) (told new.disk)) settled images))

      pub book_here : 14 ≤ new.room → IsBook told faults opened chronicle core new 0
      book_here room = record {
        schema_is = refl;
        limits_are = refl;
        entries_are = core_entries ∙ sym history_here;
        ledger_limits = limits ∙ sym core_limits;
        ledger_history = new_history ∙ sym history_here;
        run = subst (IsRun opened) (sym history_here) its_run;
        journal = subst (λ h. IsJournalHistory core.limits h) (sym history_here) (subst (λ l. IsJournalHistory l (reopened entries now)) (sym core_limits) legal);
        images = subst (λ d. LeavesNow (IsJournalOr core.limits (history_of chronicle) d) (told new.disk)) (sym settled) (subst (λ h. LeavesNow (IsJournalOr core.limits h None) (told new.disk)) (sym history_here) (subst (λ l. LeavesNow (IsJournalOr l (reopened entries now) None) (told new.disk)) (sym core_limits) images_left));
        counted = ap length (sym (ap marks_of chronicle_is ∙ marks_of_entered core.entries));
        few = omega arith;
        risen = omega (arith, quiet, ready.quiet);
        room = room;
      }

      pub ready_here : CallsPassed (append_calls restart) (fuse ledger.disk) (fuse new.disk) → IsReady told faults fuse given schema now (record { disk = new.disk; opened = opened; chronicle = chronicle; doubt = new.doubt })
      ready_here passed = record {
        found = entries;
        has_journal = subst (λ l. HasJournal (told given) l entries) (sym core_limits) (record { journal = ready.journal; legal = ready.legal });
        opened = λ i. record { schema = core_schema i; limits = core.limits; base = core_entries i; faults = faults given };
        chronicle = chronicle_is ∙ ap entered core_entries;
        no_doubt = settled;
        run = its_run;
        quiet = quiet ∙ ready.quiet;
        moments = subst (λ l. WhereTold (told given) (told new.disk) (SyncsThen l (opening_stages entries now))) (sym core_limits) synced_then;
        images = subst (λ l. LeavesNow (λ octets. IsJournal octets l (reopened entries now)) (told new.disk)) (sym core_limits) images_left;
        calls = armed_map (fuse given).arming (told given) (λ c first. subst (λ n. CallsPassed (opening_calls (length c.seen) + n) (fuse given) (fuse new.disk)) (restart_made entries now restart is) (passed_then (opening_calls (length c.seen)) (append_calls restart) _ _ _ first passed)) calls;
      }

-- a fault of the ledger's opening
module _ {D : Type 0} (told : D → Option Content) (faults : D → ℕ) (fuse : D → Fuse) (given : D) (schema : List SchemaNode) (now : ℕ) (left : D) where
  pub fault_of_ledger : Rose (faults given) (faults left) × ((told left ≡ told given) ⊎ WhereTold (told given) (told left) IsSynced) → WhereArmed (fuse given) (told given) (λ c. FailsWithin (opening_calls (length c.seen)) (fuse given) (fuse left)) → IsFaulty told faults fuse given schema now left
  fault_of_ledger fault calls = record {
    rose = fault.0;
    cause = inl (record { moments = fault.1; calls = calls });
  }

  pub want_of_ledger : WhereTold (told given) (told left) IsSynced × (faults left ≡ faults given) → WhereArmed (fuse given) (told given) (λ c. PassesWithin (opening_calls (length c.seen)) (fuse given) (fuse left)) → IsStarved told faults fuse given schema now left
  want_of_ledger want calls = record { quiet = want.1; was_synced = want.0; calls = calls }
