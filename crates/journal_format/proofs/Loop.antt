-- The entries that are read so far, and what is left of the octets behind the header.
use Rattle.std.proofs.Common.{◌≡◌, ◌≢◌, ℕ, ◌+◌, ◌≤◌, List, [], ◌∷◌, ◌++◌, length, refl, sym, ap, subst, ◌∙◌, append_assoc, arith, inr}
use Rattle.std.proofs.lemmas.List.{append-nil}
use Rattle.base_kinds.specs.declared.entry.Entry.{Entry}
use Rattle.base_kinds.specs.declared.entry.Limits.{Limits}
use Rattle.base_kinds.specs.Limits.{AreInRange}
use Rattle.journal_record.specs.Representable.{IsRepresentable}
use Rattle.journal_format.specs.declared.progress.Progress.{Progress}
use Rattle.journal_format.specs.Histories.{FollowInTurn}
use Rattle.journal_format.specs.Journal.{header, gated_record, journal_prefix, AreRepresentable, IsNoGate, IsDamaged}
use Rattle.journal_record.specs.declared.fault.RecordFault.{RecordFault}
use Rattle.journal_record.specs.declared.fault.RecordFault.TheVariants as records
use Rattle.journal_format.specs.declared.journal.JournalFault.{JournalFault}
use Rattle.journal_format.specs.Answers.{IsCauseOf}
use Rattle.journal_format.specs.inner.Read.{IsReadFrom, CauseAt}
use Rattle.journal_format.specs.inner.Progress.{Summarizes, IsWithinLimits, IsFollowed, IsFollowedByNone}
use Rattle.journal_format.proofs.Histories.{front_more, front_length, turn_one_more}

pub record SoFar (limits : Limits) (octets : List ℕ) (so_far : Progress) (entries : List Entry) (rest : List ℕ) : Type 0 where
  pub parts : header limits ++ octets ≡ journal_prefix limits entries ++ rest
  pub in_turn : FollowInTurn limits [] entries
  pub kept : AreRepresentable entries
  pub stands : Summarizes so_far entries
  pub within : IsWithinLimits limits so_far

pub starts : (limits : Limits) (octets : List ℕ) (so_far : Progress) (entries : List Entry) → entries ≡ [] → AreInRange limits → Summarizes so_far [] → SoFar limits octets so_far entries octets
starts limits octets so_far entries none range stands = subst (λ (es : List Entry). SoFar limits octets so_far es octets) (sym none) (record {
  parts = ap (λ (l : List ℕ). l ++ octets) (sym (append-nil (header limits)));
  in_turn = tt;
  kept = tt;
  stands = stands;
  within = record { entries_within = omega (arith, stands.count_is); octets_within = omega (arith, stands.octets_are, range.least_octets) };
})

kept_more : (h : List Entry) (entry : Entry) → AreRepresentable h → IsRepresentable entry → AreRepresentable (h ++ entry ∷ [])
kept_more [] entry all is = (is, tt)
kept_more (first ∷ h) entry all is = (all.0, kept_more h entry all.1 is)

pub kept_one_more : (h : List Entry) (entry : Entry) → AreRepresentable h → IsRepresentable entry → AreRepresentable (h ++ entry ∷ [])
kept_one_more h entry all is = kept_more h entry all is

pub goes_on : (limits : Limits) (octets : List ℕ) (so_far : Progress) (entries : List Entry) (gate : ℕ) (behind : List ℕ) (rest : List ℕ) (entry : Entry) (next : Progress) (after : List ℕ) (entries' : List Entry) → SoFar limits octets so_far entries rest
    → rest ≡ gate ∷ behind → gate ≡ 165 → IsFollowed limits so_far behind entry next after → entries' ≡ entries ++ entry ∷ [] → SoFar limits octets next entries' after
goes_on limits octets so_far entries gate behind rest entry next after entries' s is opened followed pushed =
    let f = followed entries s.stands in
    let cells : rest ≡ gated_record entry ++ after = is ∙ ap (λ (k : ℕ). k ∷ behind) opened ∙ ap (λ (l : List ℕ). 165 ∷ l) f.parts in
    subst (λ (es : List Entry). SoFar limits octets next es after) (sym pushed) (record {
      parts = s.parts ∙ ap (λ (l : List ℕ). journal_prefix limits entries ++ l) cells ∙ sym (append_assoc (journal_prefix limits entries) (gated_record entry) after) ∙ ap (λ (l : List ℕ). l ++ after) (sym (front_more limits entries entry));
      in_turn = turn_one_more limits entries entry s.in_turn f.is_next;
      kept = kept_one_more entries entry s.kept f.is_representable;
      stands = f.stands;
      within = f.is_within;
    })

gate_place : (limits : Limits) (so_far : Progress) (entries : List Entry) (place : ℕ) → Summarizes so_far entries → place + 1 ≡ so_far.octets → place ≡ length (journal_prefix limits entries)
gate_place limits so_far entries place stands is = omega (arith, stands.octets_are, front_length limits entries)

pub has_gate : (limits : Limits) (octets : List ℕ) (so_far : Progress) (entries : List Entry) (rest : List ℕ) → SoFar limits octets so_far entries rest → 1 ≤ so_far.octets
has_gate limits octets so_far entries rest s = omega (arith, s.stands.octets_are)

pub closes : (limits : Limits) (octets : List ℕ) (so_far : Progress) (entries : List Entry) (rest : List ℕ) (gate : ℕ) (behind : List ℕ) (place : ℕ) → AreInRange limits → SoFar limits octets so_far entries rest
    → rest ≡ gate ∷ behind → gate ≢ 165 → place + 1 ≡ so_far.octets → IsReadFrom (header limits ++ octets) (record { limits = limits; entries = entries; gate = place })
closes limits octets so_far entries rest gate behind place range s is closed at = record {
  is = record {
    gate = gate;
    rest = behind;
    parts = s.parts ∙ ap (λ (l : List ℕ). journal_prefix limits entries ++ l) is;
    is_closed = closed;
    legal = record { in_range = range; in_turn = s.in_turn };
    kept = s.kept;
  };
  gate_is = gate_place limits so_far entries place s.stands at;
}

cut : (limits : Limits) (octets : List ℕ) (so_far : Progress) (entries : List Entry) (rest : List ℕ) (place : ℕ) → AreInRange limits → SoFar limits octets so_far entries rest → IsNoGate limits entries rest → place + 1 ≡ so_far.octets
    → IsDamaged (header limits ++ octets) place
cut limits octets so_far entries rest place range s none at = inr (record {
  limits = limits;
  before = entries;
  rest = rest;
  parts = s.parts;
  legal = record { in_range = range; in_turn = s.in_turn };
  kept = s.kept;
  place_is = gate_place limits so_far entries place s.stands at;
  no_gate = none;
})

pub no_record : (limits : Limits) (octets : List ℕ) (so_far : Progress) (entries : List Entry) (rest : List ℕ) (gate : ℕ) (behind : List ℕ) (place : ℕ) → AreInRange limits → SoFar limits octets so_far entries rest
    → rest ≡ gate ∷ behind → gate ≡ 165 → IsFollowedByNone limits so_far behind → place + 1 ≡ so_far.octets → IsDamaged (header limits ++ octets) place
no_record limits octets so_far entries rest gate behind place range s is opened none at =
    cut limits octets so_far entries rest place range s (subst (λ (l : List ℕ). IsNoGate limits entries l) (sym is) (opened, none entries s.stands)) at

pub no_gate : (limits : Limits) (octets : List ℕ) (so_far : Progress) (entries : List Entry) (rest : List ℕ) (place : ℕ) → AreInRange limits → SoFar limits octets so_far entries rest → rest ≡ [] → place + 1 ≡ so_far.octets → IsDamaged (header limits ++ octets) place
no_gate limits octets so_far entries rest place range s is at =
    cut limits octets so_far entries rest place range s (subst (λ (l : List ℕ). IsNoGate limits entries l) (sym is) tt) at

pub ends_at : (limits : Limits) (octets : List ℕ) (so_far : Progress) (entries : List Entry) (rest : List ℕ) (gate : ℕ) (behind : List ℕ) (place : ℕ) (fault : RecordFault) (told : JournalFault) → AreInRange limits → SoFar limits octets so_far entries rest
    → rest ≡ gate ∷ behind → gate ≡ 165 → (◌≡◌ {A = RecordFault} fault records.NoRecord → IsFollowedByNone limits so_far behind) → place + 1 ≡ so_far.octets → CauseAt fault place told → IsCauseOf told (header limits ++ octets)
ends_at limits octets so_far entries rest gate behind place records.NoRecord told range s is opened none at cause =
    subst (λ (f : JournalFault). IsCauseOf f (header limits ++ octets)) (sym cause) (no_record limits octets so_far entries rest gate behind place range s is opened (none refl) at)
ends_at limits octets so_far entries rest gate behind place records.NoMemory told range s is opened none at cause =
    subst (λ (f : JournalFault). IsCauseOf f (header limits ++ octets)) (sym cause) tt
