-- The moments of a call, part by part.
use Rattle.std.proofs.Common.{◌≡◌, inl, inr, ℕ, List, [], ◌∷◌, ◌++◌, Option, Some, None, IsSome, refl, sym, subst}
use Rattle.base_kinds.specs.declared.entry.Entry.{Entry}
use Rattle.base_kinds.specs.declared.entry.Limits.{Limits}
use Rattle.disk_model.specs.Content.{Content}
use Rattle.disk_model.specs.Moments.{LeavesNow, LeavesOnly}
use Rattle.disk_model.proofs.Moving.{leaves_weaker, leaves_same, moved_on}
use Rattle.journal_format.specs.Journal.{IsJournal}
use Rattle.commit_journal.specs.Images.{IsJournalOr, IsJournalOfAny}
use Rattle.book_core.specs.Moments.{GoesThrough}
use Rattle.book_core.specs.Views.{BookView, history_in}

module _ (limits : Limits) where
  -- an append goes through the history and that with the entry
  pub append_through : (h after : List Entry) (entry : Entry) (others : List (List Entry)) (octets : List ℕ) → after ≡ h ++ entry ∷ [] → IsJournalOr limits h (Some entry) octets → IsJournalOfAny limits (h ∷ after ∷ others) octets
  append_through h after entry others octets is (inl journal) = inl journal
  append_through h after entry others octets is (inr journal) = inr (inl (subst (λ es. IsJournal octets limits es) (sym is) journal))

  -- and so it does where the history stands twice
  pub append_through_last : (h same after : List Entry) (entry : Entry) (octets : List ℕ) → after ≡ h ++ entry ∷ [] → IsJournalOr limits h (Some entry) octets → IsJournalOfAny limits (h ∷ same ∷ after ∷ []) octets
  append_through_last h same after entry octets is (inl journal) = inl journal
  append_through_last h same after entry octets is (inr journal) = inr (inr (inl (subst (λ es. IsJournal octets limits es) (sym is) journal)))

  -- a read after the clock's event, as a Set
  pub look_in_set : (h at : List Entry) (last : List Entry) (octets : List ℕ) → IsJournalOfAny limits (h ∷ at ∷ []) octets → IsJournalOfAny limits (h ∷ at ∷ last ∷ []) octets
  look_in_set h at last octets (inl journal) = inl journal
  look_in_set h at last octets (inr (inl journal)) = inr (inl journal)
  look_in_set h at last octets (inr (inr none)) = absurd none

  pub behind_in_set : (h at again last : List Entry) (octets : List ℕ) → again ≡ at → IsJournalOfAny limits (at ∷ again ∷ last ∷ []) octets → IsJournalOfAny limits (h ∷ at ∷ last ∷ []) octets
  behind_in_set h at again last octets is (inl journal) = inr (inl journal)
  behind_in_set h at again last octets is (inr (inl journal)) = inr (inl (subst (λ es. IsJournal octets limits es) is journal))
  behind_in_set h at again last octets is (inr (inr rest)) = inr (inr rest)

  -- a repair and then the rest
  pub settles : (h : List Entry) (doubt left : Option Entry) (stages : List (List Entry)) (old mid new : Option Content) → LeavesOnly (IsJournalOr limits h doubt) old mid → LeavesOnly (IsJournalOfAny limits stages) mid new → GoesThrough limits h doubt stages left old new
  settles h doubt left stages old mid new first second =
      inr (moved_on old mid new first second (λ o m n a b. record { between = m; before = a; after = b }))

  -- one that fails
  pub stays : (h : List Entry) (doubt left : Option Entry) (stages : List (List Entry)) (old new : Option Content) → IsSome doubt → left ≡ doubt → LeavesOnly (IsJournalOr limits h doubt) old new → GoesThrough limits h doubt stages left old new
  stays h doubt left stages old new some same moments = inl (some, same, moments)

  -- nothing was done
  pub nothing_done : (h : List Entry) (doubt : Option Entry) (others : List (List Entry)) (told : Option Content) → LeavesNow (IsJournalOr limits h doubt) told → GoesThrough limits h doubt (h ∷ others) doubt told told
  nothing_done h None others told now = settles h None None (h ∷ others) told told told (leaves_same _ told now) (leaves_weaker _ _ told told (λ octets journal. inl journal) (leaves_same _ told now))
  nothing_done h (Some attempt) others told now = stays h (Some attempt) (Some attempt) (h ∷ others) told told refl refl (leaves_same _ told now)

-- the part behind a repair that ended well, in the words of the book as it was found
module _ {D : Type 0} (told : D → Option Content) (start mid : BookView D) (is : mid ≡ record start { disk = mid.disk; doubt = None }) (stages : BookView D → List (List Entry)) (same : (d : D) (e : Option Entry) → stages (record start { disk = d; doubt = e }) ≡ stages start) where
  pub behind_repair : (left : Option Entry) (new : Option Content) → LeavesOnly (IsJournalOr start.opened.limits (history_in start) start.doubt) (told start.disk) (told mid.disk) → LeavesOnly (IsJournalOfAny mid.opened.limits (stages mid)) (told mid.disk) new → GoesThrough start.opened.limits (history_in start) start.doubt (stages start) left (told start.disk) new
  behind_repair left new first second =
      settles start.opened.limits (history_in start) start.doubt left (stages start) (told start.disk) (told mid.disk) new first
      (subst (λ (s : List (List Entry)). LeavesOnly (IsJournalOfAny start.opened.limits s) (told mid.disk) new) (same mid.disk None)
      (subst (λ (b : BookView D). LeavesOnly (IsJournalOfAny b.opened.limits (stages b)) (told mid.disk) new) is second))
