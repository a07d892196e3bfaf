-- How the calls of a ledger end, on a disk that may not tell its content.
use Rattle.std.proofs.Common.{◌≡◌, ◌≢◌, ◌⊎◌, inl, inr, ℕ, ◌+◌, ◌≤◌, ◌<◌, ◌^◌, List, [], ◌∷◌, ◌++◌, length, Option, Some, None, IsSome, refl, sym, ap, ◌∙◌, subst, arith, rules, length-append}
use Rattle.base_kinds.specs.declared.entry.Entry.{Entry}
use Rattle.base_kinds.specs.declared.entry.Limits.{Limits}
use Rattle.base_kinds.specs.Records.{record_octets}
use Rattle.disk_model.specs.Content.{Content, WhereTold, Tells, Changes}
use Rattle.disk_model.specs.Images.{mask_after_sync, mask_after_write}
use Rattle.disk_model.specs.Moments.{PutSynced, Leaves, LeavesNow, LeavesOnly}
use Rattle.disk_model.proofs.Moving.{moved_tells, moved_map, moved_on, changes_since, put_since, leaves_then, leaves_same}
use Rattle.journal_record.specs.Spelling.{record_of}
use Rattle.journal_record.proofs.Lengths.{record_length}
use Rattle.journal_record.specs.Representable.{IsRepresentable}
use Rattle.journal_format.specs.Histories.{MayFollow, IsJournalHistory}
use Rattle.journal_format.specs.Journal.{journal_prefix, AreRepresentable, IsJournal}
use Rattle.commit_journal.specs.Images.{IsJournalOr}
use Rattle.commit_journal.specs.inner.Masks.{IsSettled, IsInDoubt, Keeps, Holds}
use Rattle.commit_journal.specs.Ledgers.{LedgerView}
use Rattle.commit_journal.specs.inner.Invariant.{AttemptMayFollow, IsLedger}
use Rattle.commit_journal.specs.Writes.{PutsRecord, PutsGate, FailsAtRecord, FailsAtGate, Appends, AppendsInDoubt}
use Rattle.commit_journal.proofs.Histories.{legal_more, kept_more}
use Rattle.commit_journal.proofs.Images.{settled_image, doubt_image, kept_images}
use Rattle.commit_journal.proofs.Sizes.{legal_size, gate_more}
use Rattle.commit_journal.proofs.Steps.{IsStaged, touched_settled, changed_settled, staged, staged_settled, touched_staged, touched_doubt, changed_doubt, opened, closed}

both : {A B : Content → Type 0} {S R : Content → Content → Type 0} (old new : Option Content) → Tells old A → WhereTold old new S → ((o n : Content) → A o → S o n → B n × R o n) → Tells new B × WhereTold old new R
both old new has moved step = (moved_tells old new has moved (λ o n a s. (step o n a s).0), moved_map old new has moved (λ o n a s. (step o n a s).1))

pub leaves_now : (told : Option Content) (gate : ℕ) (limits : Limits) (h : List Entry) (doubt : Option Entry) → IsLedger told gate limits h doubt → LeavesNow (IsJournalOr limits h doubt) told
leaves_now None gate limits h doubt ledger = tt
leaves_now (Some content) gate limits h doubt ledger = kept_images limits h ledger.legal ledger.kept doubt content.mask ledger.follows ledger.content.keeps

module _ (limits : Limits) (h : List Entry) (entry : Entry) (legal : IsJournalHistory limits h) (kept : AreRepresentable h) where
  abbrev pub Either : List ℕ → Type 0
  Either octets = IsJournalOr limits h (Some entry) octets

  before : (mask : List (Option ℕ)) → IsSettled (journal_prefix limits h) mask → Leaves (IsJournalOr limits h (Some entry)) mask
  before mask settled octets image = inl (settled_image limits h legal kept mask octets settled image)

  pub settled_now : (told : Option Content) → Tells told (Holds limits h None) → LeavesNow (IsJournalOr limits h (Some entry)) told
  settled_now None holds = tt
  settled_now (Some content) holds = before content.mask holds.keeps

  pub record_failed : (old new : Option Content) → Tells old (Holds limits h None) → WhereTold old new (FailsAtRecord limits h entry) → Tells new (Holds limits h None) × LeavesOnly (IsJournalOr limits h (Some entry)) old new
  record_failed old new holds moved = both old new holds moved (λ o n has changes. (
    changed_settled limits h (length (record_of entry ++ 0 ∷ [])) o n has changes,
    changes_since (Leaves (IsJournalOr limits h (Some entry))) _ o n (before o.mask has.keeps) (before _ (touched_settled limits h (length (record_of entry ++ 0 ∷ [])) o.mask has.keeps)) changes,
  ))

  pub record_put : (old new : Option Content) → Tells old (Holds limits h None) → WhereTold old new (PutsRecord limits h entry) → Tells new (IsStaged limits h entry) × LeavesOnly (IsJournalOr limits h (Some entry)) old new
  record_put old new holds moved = both old new holds moved (λ o n has put.
      let stage = staged limits h entry o n has put in (
        stage,
        put_since (Leaves (IsJournalOr limits h (Some entry))) (length (journal_prefix limits h) + 1) (record_of entry ++ 0 ∷ []) o n (before o.mask has.keeps) (before _ (touched_settled limits h (length (record_of entry ++ 0 ∷ [])) o.mask has.keeps)) (subst (λ m. Leaves (IsJournalOr limits h (Some entry)) m) put.mask_is (before n.mask (staged_settled limits h entry n stage).keeps)) put,
      ))

  module _ (next : MayFollow limits h entry) (one : IsRepresentable entry) where
    between : (mask : List (Option ℕ)) → IsInDoubt (journal_prefix limits h) entry mask → Leaves (IsJournalOr limits h (Some entry)) mask
    between mask doubt octets image = doubt_image limits h legal kept entry mask octets next one doubt image

    after : (mask : List (Option ℕ)) → IsSettled (journal_prefix limits (h ++ entry ∷ [])) mask → Leaves (IsJournalOr limits h (Some entry)) mask
    after mask settled octets image = inr (settled_image limits (h ++ entry ∷ []) (legal_more limits h entry legal next) (kept_more h entry kept one) mask octets settled image)

    pub gate_failed : (old new : Option Content) → Tells old (IsStaged limits h entry) → WhereTold old new (FailsAtGate limits h) → Tells new (Holds limits h (Some entry)) × LeavesOnly (IsJournalOr limits h (Some entry)) old new
    gate_failed old new holds moved = both old new holds moved (λ o n stage changes.
        let doubt = touched_staged limits h entry o stage in (
          changed_doubt limits h entry o n doubt changes,
          changes_since (Leaves (IsJournalOr limits h (Some entry))) _ o n (before o.mask (staged_settled limits h entry o stage).keeps) (between _ doubt) changes,
        ))

    pub gate_opened : (old new : Option Content) → Tells old (IsStaged limits h entry) → WhereTold old new (PutsGate limits h 165) → Tells new (Holds limits (h ++ entry ∷ []) None) × LeavesOnly (IsJournalOr limits h (Some entry)) old new
    gate_opened old new holds moved = both old new holds moved (λ o n stage put.
        let doubt = touched_staged limits h entry o stage in
        let stands = opened limits h entry o n stage put in (
          stands,
          put_since (Leaves (IsJournalOr limits h (Some entry))) (length (journal_prefix limits h)) (165 ∷ []) o n (before o.mask (staged_settled limits h entry o stage).keeps) (between _ doubt) (subst (λ m. Leaves (IsJournalOr limits h (Some entry)) m) put.mask_is (after n.mask stands.keeps)) put,
        ))

    pub close_failed : (old new : Option Content) → Tells old (Holds limits h (Some entry)) → WhereTold old new (FailsAtGate limits h) → Tells new (Holds limits h (Some entry)) × LeavesOnly (IsJournalOr limits h (Some entry)) old new
    close_failed old new holds moved = both old new holds moved (λ o n has changes.
        let doubt = touched_doubt limits h entry o.mask has.keeps in (
          changed_doubt limits h entry o n doubt changes,
          changes_since (Leaves (IsJournalOr limits h (Some entry))) _ o n (between o.mask has.keeps) (between _ doubt) changes,
        ))

    pub gate_closed : (old new : Option Content) → Tells old (Holds limits h (Some entry)) → WhereTold old new (PutsGate limits h 0) → Tells new (Holds limits h None) × LeavesOnly (IsJournalOr limits h (Some entry)) old new
    gate_closed old new holds moved = both old new holds moved (λ o n has put.
        let shut = closed limits h entry o n has put in (
          shut,
          put_since (Leaves (IsJournalOr limits h (Some entry))) (length (journal_prefix limits h)) (0 ∷ []) o n (between o.mask has.keeps) (between _ (touched_doubt limits h entry o.mask has.keeps)) (subst (λ m. Leaves (IsJournalOr limits h (Some entry)) m) put.mask_is (before n.mask shut.keeps)) put,
        ))

-- the same write, at a place and of a piece that are told otherwise
changes_as : (old new : Option Content) (place there : ℕ) (piece same : List ℕ) → place ≡ there → piece ≡ same → WhereTold old new (λ o n. Changes (mask_after_write place (length piece) o.mask) o n) → WhereTold old new (λ o n. Changes (mask_after_write there (length same) o.mask) o n)
changes_as old new place there piece same at is moved =
    subst (λ p. WhereTold old new (λ o n. Changes (mask_after_write there (length p) o.mask) o n)) is (subst (λ p. WhereTold old new (λ o n. Changes (mask_after_write p (length piece) o.mask) o n)) at moved)

put_as : (old new : Option Content) (place there : ℕ) (piece same : List ℕ) → place ≡ there → piece ≡ same → WhereTold old new (PutSynced place piece) → WhereTold old new (PutSynced there same)
put_as old new place there piece same at is moved = subst (λ p. WhereTold old new (PutSynced there p)) is (subst (λ p. WhereTold old new (PutSynced p piece)) at moved)

-- what a ledger is after a call, and what the call left at each moment
pub record Ends {D : Type 0} (told : D → Option Content) (was : LedgerView D) (attempt : Option Entry) (step : Content → Content → Type 0) (new : Option Content) (gate : ℕ) (limits : Limits) (h : List Entry) (doubt : Option Entry) : Type 0 where
  pub ledger : IsLedger new gate limits h doubt
  pub since : LeavesOnly (IsJournalOr was.limits was.history attempt) (told was.disk) new
  pub moved : WhereTold (told was.disk) new step

module _ {D : Type 0} (told : D → Option Content) {view was : LedgerView D} (view_is : view ≡ was) {gate : ℕ} (ledger : IsLedger (told view.disk) gate view.limits view.history view.doubt) where
  module _ (entry : Entry) (settled : was.doubt ≡ None) (next : MayFollow was.limits was.history entry) where
    pub undoubted : view.doubt ≡ None
    undoubted = ap (λ (v : LedgerView D). v.doubt) view_is ∙ settled

    holds : Tells (told view.disk) (Holds view.limits view.history None)
    holds = subst (λ d. Tells (told view.disk) (Holds view.limits view.history d)) undoubted ledger.content

    follows : MayFollow view.limits view.history entry
    follows = subst (λ (v : LedgerView D). MayFollow v.limits v.history entry) (sym view_is) next

    back : (new : Option Content) → LeavesOnly (IsJournalOr view.limits view.history (Some entry)) (told view.disk) new → LeavesOnly (IsJournalOr was.limits was.history (Some entry)) (told was.disk) new
    back new since = subst (λ (v : LedgerView D). LeavesOnly (IsJournalOr v.limits v.history (Some entry)) (told v.disk) new) view_is since

    gate_here : gate + 1 ≡ length (journal_prefix view.limits view.history) + 1
    gate_here = ap (λ g. g + 1) ledger.gate_is

    pub record_small : record_octets entry < 2 ^ 32
    record_small = omega (arith, record_length entry, gate_more view.limits view.history entry (record_of entry ++ 0 ∷ []) refl, length-append (record_of entry) (0 ∷ []), legal_size view.limits (view.history ++ entry ∷ []) (legal_more view.limits view.history entry ledger.legal follows))

    pub no_call : LeavesOnly (IsJournalOr was.limits was.history (Some entry)) (told was.disk) (told view.disk)
    no_call = back (told view.disk) (leaves_same (IsJournalOr view.limits view.history (Some entry)) (told view.disk) (settled_now view.limits view.history entry ledger.legal ledger.kept (told view.disk) holds))

    module _ (piece : List ℕ) (is : piece ≡ record_of entry ++ 0 ∷ []) where
      pub next_fits : gate + length piece + 1 ≤ 268435456
      next_fits = omega (arith, ledger.gate_is, gate_more view.limits view.history entry piece is, legal_size view.limits (view.history ++ entry ∷ []) (legal_more view.limits view.history entry ledger.legal follows))

      pub ends_at_record : (new : Option Content) → WhereTold (told view.disk) new (λ o n. Changes (mask_after_write (gate + 1) (length piece) o.mask) o n) → Ends told was (Some entry) (FailsAtRecord was.limits was.history entry) new gate view.limits view.history view.doubt
      ends_at_record new moved =
          let fails : WhereTold (told view.disk) new (FailsAtRecord view.limits view.history entry) = changes_as (told view.disk) new (gate + 1) (length (journal_prefix view.limits view.history) + 1) piece (record_of entry ++ 0 ∷ []) gate_here is moved in
          let step = record_failed view.limits view.history entry ledger.legal ledger.kept (told view.disk) new holds fails in
          record {
            ledger = record { gate_is = ledger.gate_is; legal = ledger.legal; kept = ledger.kept; follows = ledger.follows; content = subst (λ d. Tells new (Holds view.limits view.history d)) (sym undoubted) step.0 };
            since = back new step.1;
            moved = subst (λ (v : LedgerView D). WhereTold (told v.disk) new (FailsAtRecord v.limits v.history entry)) view_is fails;
          }

      module _ (one : IsRepresentable entry) (mid new : Option Content) (first : WhereTold (told view.disk) mid (PutSynced (gate + 1) piece)) where
        puts : WhereTold (told view.disk) mid (PutsRecord view.limits view.history entry)
        puts = put_as (told view.disk) mid (gate + 1) (length (journal_prefix view.limits view.history) + 1) piece (record_of entry ++ 0 ∷ []) gate_here is first

        stage : Tells mid (IsStaged view.limits view.history entry) × LeavesOnly (IsJournalOr view.limits view.history (Some entry)) (told view.disk) mid
        stage = record_put view.limits view.history entry ledger.legal ledger.kept (told view.disk) mid holds puts

        pub ends_at_gate : (value : Entry) (count : ℕ) → value ≡ entry → count ≡ 1 → WhereTold mid new (λ o n. Changes (mask_after_write gate count o.mask) o n) → Ends told was (Some entry) (AppendsInDoubt was.limits was.history entry) new gate view.limits view.history (Some value)
        ends_at_gate value count value_is one_octet moved =
            let fails : WhereTold mid new (FailsAtGate view.limits view.history) =
            subst (λ k. WhereTold mid new (λ o n. Changes (mask_after_write (length (journal_prefix view.limits view.history)) k o.mask) o n)) one_octet (subst (λ p. WhereTold mid new (λ o n. Changes (mask_after_write p count o.mask) o n)) ledger.gate_is moved) in
            let step = gate_failed view.limits view.history entry ledger.legal ledger.kept follows one mid new stage.0 fails in
            let calls : WhereTold (told view.disk) new (AppendsInDoubt view.limits view.history entry) = moved_on (told view.disk) mid new puts fails (λ o m n a b. record { between = m; record_put = a; gate_failed = b }) in
            record {
              ledger = subst (λ d. IsLedger new gate view.limits view.history (Some d)) (sym value_is) record { gate_is = ledger.gate_is; legal = ledger.legal; kept = ledger.kept; follows = (follows, one); content = step.0 };
              since = back new (leaves_then (IsJournalOr view.limits view.history (Some entry)) (told view.disk) mid new stage.1 step.1);
              moved = subst (λ (v : LedgerView D). WhereTold (told v.disk) new (AppendsInDoubt v.limits v.history entry)) view_is calls;
            }

        pub ends_done : (octet : List ℕ) (after : List Entry) (further : ℕ) (doubt : Option Entry) → octet ≡ 165 ∷ [] → after ≡ view.history ++ entry ∷ [] → further ≡ gate + length piece → doubt ≡ view.doubt → WhereTold mid new (PutSynced gate octet) → Ends told was (Some entry) (Appends was.limits was.history entry) new further view.limits after doubt
        ends_done octet after further doubt octet_is after_is further_is doubt_is moved =
            let opens : WhereTold mid new (PutsGate view.limits view.history 165) = put_as mid new gate (length (journal_prefix view.limits view.history)) octet (165 ∷ []) ledger.gate_is octet_is moved in
            let step = gate_opened view.limits view.history entry ledger.legal ledger.kept follows one mid new stage.0 opens in
            let calls : WhereTold (told view.disk) new (Appends view.limits view.history entry) = moved_on (told view.disk) mid new puts opens (λ o m n a b. record { between = m; record_put = a; gate_put = b }) in
            let more = view.history ++ entry ∷ [] in
            let place : further ≡ length (journal_prefix view.limits more) = further_is ∙ ap (λ g. g + length piece) ledger.gate_is ∙ sym (gate_more view.limits view.history entry piece is) in
            let stands : IsLedger new further view.limits more None = record { gate_is = place; legal = legal_more view.limits view.history entry ledger.legal follows; kept = kept_more view.history entry ledger.kept one; follows = tt; content = step.0 } in
            record {
              ledger = subst (λ l. IsLedger new further view.limits l doubt) (sym after_is) (subst (λ d. IsLedger new further view.limits more d) (sym (doubt_is ∙ undoubted)) stands);
              since = back new (leaves_then (IsJournalOr view.limits view.history (Some entry)) (told view.disk) mid new stage.1 step.1);
              moved = subst (λ (v : LedgerView D). WhereTold (told v.disk) new (Appends v.limits v.history entry)) view_is calls;
            }

-- a repair: of a ledger in doubt, on its own values
doubt_ends : (old new : Option Content) (gate : ℕ) (limits : Limits) (h : List Entry) (doubt : Option Entry) → IsSome doubt → IsLedger old gate limits h doubt → WhereTold old new (FailsAtGate limits h) → IsLedger new gate limits h doubt × LeavesOnly (IsJournalOr limits h doubt) old new
doubt_ends old new gate limits h None some ledger moved = absurd (search (rules, some))
doubt_ends old new gate limits h (Some entry) some ledger moved =
    let step = close_failed limits h entry ledger.legal ledger.kept ledger.follows.0 ledger.follows.1 old new ledger.content moved in
    (record { gate_is = ledger.gate_is; legal = ledger.legal; kept = ledger.kept; follows = ledger.follows; content = step.0 }, step.1)

doubt_closes : (old new : Option Content) (gate : ℕ) (limits : Limits) (h : List Entry) (doubt : Option Entry) → IsSome doubt → IsLedger old gate limits h doubt → WhereTold old new (PutsGate limits h 0) → IsLedger new gate limits h None × LeavesOnly (IsJournalOr limits h doubt) old new
doubt_closes old new gate limits h None some ledger moved = absurd (search (rules, some))
doubt_closes old new gate limits h (Some entry) some ledger moved =
    let step = gate_closed limits h entry ledger.legal ledger.kept ledger.follows.0 ledger.follows.1 old new ledger.content moved in
    (record { gate_is = ledger.gate_is; legal = ledger.legal; kept = ledger.kept; follows = tt; content = step.0 }, step.1)

module _ {D : Type 0} (told : D → Option Content) {view was : LedgerView D} (view_is : view ≡ was) {gate : ℕ} (ledger : IsLedger (told view.disk) gate view.limits view.history view.doubt) (some : IsSome was.doubt) (octet : List ℕ) (is : octet ≡ 0 ∷ []) where
  in_doubt : IsSome view.doubt
  in_doubt = subst (λ (v : LedgerView D). IsSome v.doubt) (sym view_is) some

  pub repair_fails : (new : Option Content) → WhereTold (told view.disk) new (λ o n. Changes (mask_after_write gate (length octet) o.mask) o n) → Ends told was was.doubt (FailsAtGate was.limits was.history) new gate view.limits view.history view.doubt
  repair_fails new moved =
      let fails : WhereTold (told view.disk) new (FailsAtGate view.limits view.history) = changes_as (told view.disk) new gate (length (journal_prefix view.limits view.history)) octet (0 ∷ []) ledger.gate_is is moved in
      let step = doubt_ends (told view.disk) new gate view.limits view.history view.doubt in_doubt ledger fails in
      record {
        ledger = step.0;
        since = subst (λ (v : LedgerView D). LeavesOnly (IsJournalOr v.limits v.history v.doubt) (told v.disk) new) view_is step.1;
        moved = subst (λ (v : LedgerView D). WhereTold (told v.disk) new (FailsAtGate v.limits v.history)) view_is fails;
      }

  pub repair_done : (new : Option Content) → WhereTold (told view.disk) new (PutSynced gate octet) → Ends told was was.doubt (PutsGate was.limits was.history 0) new gate view.limits view.history None
  repair_done new moved =
      let closes : WhereTold (told view.disk) new (PutsGate view.limits view.history 0) = put_as (told view.disk) new gate (length (journal_prefix view.limits view.history)) octet (0 ∷ []) ledger.gate_is is moved in
      let step = doubt_closes (told view.disk) new gate view.limits view.history view.doubt in_doubt ledger closes in
      record {
        ledger = step.0;
        since = subst (λ (v : LedgerView D). LeavesOnly (IsJournalOr v.limits v.history v.doubt) (told v.disk) new) view_is step.1;
        moved = subst (λ (v : LedgerView D). WhereTold (told v.disk) new (PutsGate v.limits v.history 0)) view_is closes;
      }
