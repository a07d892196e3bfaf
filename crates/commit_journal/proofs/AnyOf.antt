-- Journals of any of several histories.
use Rattle.std.proofs.Common.{◌≡◌, ◌⊎◌, inl, inr, ◌↔◌, ℕ, List, [], ◌∷◌, Option, Some, None, refl, sym, subst}
use Rattle.base_kinds.specs.declared.entry.Entry.{Entry}
use Rattle.base_kinds.specs.declared.entry.Limits.{Limits}
use Rattle.journal_format.specs.Journal.{IsJournal}
use Rattle.commit_journal.specs.Images.{IsOneOf, IsJournalOfAny, IsJournalOr, histories_or}

to_any : (limits : Limits) (h : List Entry) (attempt : Option Entry) (octets : List ℕ) → IsJournalOr limits h attempt octets → IsJournalOfAny limits (histories_or h attempt) octets
to_any limits h None octets is = inl is
to_any limits h (Some attempt) octets (inl is) = inl is
to_any limits h (Some attempt) octets (inr is) = inr (inl is)

from_any : (limits : Limits) (h : List Entry) (attempt : Option Entry) (octets : List ℕ) → IsJournalOfAny limits (histories_or h attempt) octets → IsJournalOr limits h attempt octets
from_any limits h None octets (inl is) = is
from_any limits h None octets (inr is) = absurd is
from_any limits h (Some attempt) octets (inl is) = inl is
from_any limits h (Some attempt) octets (inr (inl is)) = inr is
from_any limits h (Some attempt) octets (inr (inr is)) = absurd is

pub one_of_two : (limits : Limits) (h : List Entry) (attempt : Option Entry) (octets : List ℕ) → IsJournalOr limits h attempt octets ↔ IsJournalOfAny limits (histories_or h attempt) octets
one_of_two limits h attempt octets = (to_any limits h attempt octets, from_any limits h attempt octets)

found_in : (limits : Limits) (histories : List (List Entry)) (octets : List ℕ) → IsJournalOfAny limits histories octets → (h : List Entry) × IsOneOf histories h × IsJournal octets limits h
found_in limits [] octets is = absurd is
found_in limits (h ∷ histories) octets (inl is) = (h, inl refl, is)
found_in limits (h ∷ histories) octets (inr is) = let found = found_in limits histories octets is in (found.0, inr found.1, found.2)

is_of_any : (limits : Limits) (histories : List (List Entry)) (octets : List ℕ) (h : List Entry) → IsOneOf histories h → IsJournal octets limits h → IsJournalOfAny limits histories octets
is_of_any limits [] octets h one is = absurd one
is_of_any limits (first ∷ histories) octets h (inl same) is = inl (subst (λ (g : List Entry). IsJournal octets limits g) same is)
is_of_any limits (first ∷ histories) octets h (inr one) is = inr (is_of_any limits histories octets h one is)

pub one_of_them : (limits : Limits) (histories : List (List Entry)) (octets : List ℕ) → IsJournalOfAny limits histories octets ↔ ((h : List Entry) × IsOneOf histories h × IsJournal octets limits h)
one_of_them limits histories octets = (found_in limits histories octets, λ found. is_of_any limits histories octets found.0 found.1 found.2)

pub one_of_more : (limits : Limits) (histories others : List (List Entry)) (octets : List ℕ) → ((h : List Entry) → IsOneOf histories h → IsOneOf others h) → IsJournalOfAny limits histories octets → IsJournalOfAny limits others octets
one_of_more limits histories others octets all is =
    let found = found_in limits histories octets is in
    is_of_any limits others octets found.0 (all found.0 found.1) found.2
