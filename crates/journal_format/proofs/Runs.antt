-- Octets are one journal, or damaged at one place, and not both.
use Rattle.std.proofs.Common.{◌≡◌, ◌≢◌, ℕ, ◌+◌, ◌^◌, ◌<◌, inl, inr, List, [], ◌∷◌, ◌++◌, length, drop, Result, Ok, Err, refl, sym, ap, subst, ◌∙◌, append_assoc, arith}
use Rattle.std.specs.List.{flat_map}
use Rattle.std.specs.Int.{w32, to_be_bytes}
use Rattle.std.specs.Prelude.{IfOk, IfErr}
use Rattle.std.proofs.lemmas.List.{append-nil}
use Rattle.base_kinds.specs.declared.entry.Entry.{Entry}
use Rattle.base_kinds.specs.declared.entry.Limits.{Limits}
use Rattle.base_kinds.specs.Limits.{AreInRange}
use Rattle.journal_record.specs.Spelling.{record_of}
use Rattle.journal_record.specs.Representable.{IsRepresentable}
use Rattle.journal_record.specs.inner.Reading.{number_at}
use Rattle.journal_record.proofs.Forms.{some_is, wide32, numbers}
use Rattle.journal_record.proofs.Entries.{alike}
use Rattle.journal_format.specs.declared.journal.Journal.{Journal}
use Rattle.journal_format.specs.declared.journal.JournalFault.{JournalFault}
use Rattle.journal_format.specs.declared.journal.JournalFault.TheVariants as faults
use Rattle.journal_format.specs.Histories.{MayFollow, FollowInTurn, IsJournalHistory}
use Rattle.journal_format.specs.Journal.{header, gated_record, journal_prefix, AreRepresentable, IsJournal, HasNoHeader, IsNoGate, IsCutAt, IsDamaged}
use Rattle.journal_format.specs.Answers.{IsCauseOf, GivesJournal, GivesDamage}
use Rattle.journal_format.specs.inner.Read.{IsReadFrom}
use Rattle.journal_format.proofs.Next.{next_has_record}

one_number : (n m : ℕ) (a b : List ℕ) → n < 2 ^ 32 → m < 2 ^ 32 → to_be_bytes w32 n ++ a ≡ to_be_bytes w32 m ++ b → (n ≡ m) × (a ≡ b)
one_number n m a b hn hm e =
    let same : ◌≡◌ {A = ℕ × List ℕ} (n, a) (m, b) = some_is (n, a) (m, b) (sym ((numbers w32 (2 ^ 32) wide32).again n a hn (omega arith)) ∙ ap (number_at w32) e ∙ (numbers w32 (2 ^ 32) wide32).again m b hm (omega arith)) in
    (ap (λ (p : ℕ × List ℕ). p.0) same, ap (λ (p : ℕ × List ℕ). p.1) same)

same_limits : (a b c d : ℕ) → a ≡ c → b ≡ d → ◌≡◌ {A = Limits} (record { entries = a; octets = b }) (record { entries = c; octets = d })
same_limits a b c d p q = cc

one_header : (l m : Limits) (a b : List ℕ) → AreInRange l → AreInRange m → header l ++ a ≡ header m ++ b → (l ≡ m) × (a ≡ b)
unfolding header
one_header l m a b p q e =
    let tails : to_be_bytes w32 l.entries ++ (to_be_bytes w32 l.octets ++ a) ≡ to_be_bytes w32 m.entries ++ (to_be_bytes w32 m.octets ++ b) = ap (drop 8) e in
    let first = one_number l.entries m.entries (to_be_bytes w32 l.octets ++ a) (to_be_bytes w32 m.octets ++ b) (omega (arith, p.most_entries)) (omega (arith, q.most_entries)) tails in
    let second = one_number l.octets m.octets a b (omega (arith, p.most_octets)) (omega (arith, q.most_octets)) first.1 in
    (same_limits l.entries l.octets m.entries m.octets first.0 second.0, second.1)

-- ---- where entries end

abbrev IsEnd : Limits → List Entry → List ℕ → Type 0
IsEnd limits h rest = (entry : Entry) (more : List ℕ) → MayFollow limits h entry → IsRepresentable entry → rest ≡ gated_record entry ++ more → ⊥

closed_end : (limits : Limits) (h : List Entry) (gate : ℕ) (rest : List ℕ) → gate ≢ 165 → IsEnd limits h (gate ∷ rest)
closed_end limits h gate rest closed entry more next kept e = let same : gate ≡ 165 = cc in closed same

no_gate_end : (limits : Limits) (h : List Entry) (rest : List ℕ) → IsNoGate limits h rest → IsEnd limits h rest
no_gate_end limits h [] none entry more next kept e = cc
no_gate_end limits h (gate ∷ rest) none entry more next kept e =
    let behind : rest ≡ record_of entry ++ more = cc in
    none.1 entry more next kept behind

joined : (first : Entry) (others : List Entry) (x : List ℕ) → flat_map gated_record (first ∷ others) ++ x ≡ 165 ∷ (record_of first ++ (flat_map gated_record others ++ x))
joined first others x = append_assoc (gated_record first) (flat_map gated_record others) x

one_run : (limits : Limits) (h es fs : List Entry) (x y : List ℕ) → AreInRange limits → FollowInTurn limits h es → AreRepresentable es → FollowInTurn limits h fs → AreRepresentable fs
    → flat_map gated_record es ++ x ≡ flat_map gated_record fs ++ y → IsEnd limits (h ++ es) x → IsEnd limits (h ++ fs) y → (es ≡ fs) × (x ≡ y)
one_run limits h [] [] x y range te ke tf kf e ends_x ends_y = (refl, e)
one_run limits h [] (f ∷ fs) x y range te ke tf kf e ends_x ends_y =
    absurd (ends_x f (flat_map gated_record fs ++ y) (subst (λ (l : List Entry). MayFollow limits l f) (sym (append-nil h)) tf.0) kf.0 (e ∙ joined f fs y))
one_run limits h (g ∷ es) [] x y range te ke tf kf e ends_x ends_y =
    absurd (ends_y g (flat_map gated_record es ++ x) (subst (λ (l : List Entry). MayFollow limits l g) (sym (append-nil h)) te.0) ke.0 (sym e ∙ joined g es x))
one_run limits h (g ∷ es) (f ∷ fs) x y range te ke tf kf e ends_x ends_y =
    let cells : 165 ∷ (record_of g ++ (flat_map gated_record es ++ x)) ≡ 165 ∷ (record_of f ++ (flat_map gated_record fs ++ y)) = sym (joined g es x) ∙ e ∙ joined f fs y in
    let records : record_of g ++ (flat_map gated_record es ++ x) ≡ record_of f ++ (flat_map gated_record fs ++ y) = ap (drop 1) cells in
    let t = alike g f (flat_map gated_record es ++ x) (flat_map gated_record fs ++ y) (next_has_record limits h g range te.0 ke.0) (next_has_record limits h f range tf.0 kf.0) records in
    let number : f.number ≡ g.number = tf.0.number_is ∙ sym te.0.number_is in
    let same : g ≡ f = ap (λ (n : ℕ). record g { number = n }) (sym number) ∙ t.0 in
    let turn : FollowInTurn limits (h ++ g ∷ []) fs = subst (λ (b : Entry). FollowInTurn limits (h ++ b ∷ []) fs) (sym same) tf.1 in
    let end_y : IsEnd limits ((h ++ g ∷ []) ++ fs) y = subst (λ (l : List Entry). IsEnd limits l y) (ap (λ (b : Entry). h ++ b ∷ fs) (sym same) ∙ sym (append_assoc h (g ∷ []) fs)) ends_y in
    let end_x : IsEnd limits ((h ++ g ∷ []) ++ es) x = subst (λ (l : List Entry). IsEnd limits l x) (sym (append_assoc h (g ∷ []) es)) ends_x in
    let u = one_run limits (h ++ g ∷ []) es fs x y range te.1 ke.1 turn kf.1 t.1 end_x end_y in
    let others : es ≡ fs = u.0 in
    (cc, u.1)

-- all of a legal history, and then no more of one
record Ends (octets : List ℕ) (limits : Limits) (h : List Entry) (rest : List ℕ) : Type 0 where
  parts : octets ≡ journal_prefix limits h ++ rest
  legal : IsJournalHistory limits h
  kept : AreRepresentable h
  ends : IsEnd limits h rest

one_ending : (octets : List ℕ) (l m : Limits) (h g : List Entry) (x y : List ℕ) → Ends octets l h x → Ends octets m g y → (l ≡ m) × (h ≡ g) × (x ≡ y)
one_ending octets l m h g x y p q =
    let whole : header l ++ (flat_map gated_record h ++ x) ≡ header m ++ (flat_map gated_record g ++ y) = sym (append_assoc (header l) (flat_map gated_record h) x) ∙ sym p.parts ∙ q.parts ∙ append_assoc (header m) (flat_map gated_record g) y in
    let t = one_header l m (flat_map gated_record h ++ x) (flat_map gated_record g ++ y) p.legal.in_range q.legal.in_range whole in
    let turn : FollowInTurn l [] g = subst (λ (k : Limits). FollowInTurn k [] g) (sym t.0) q.legal.in_turn in
    let ends : IsEnd l g y = subst (λ (k : Limits). IsEnd k g y) (sym t.0) q.ends in
    let u = one_run l [] h g x y p.legal.in_range p.legal.in_turn p.kept turn q.kept t.1 p.ends ends in
    (t.0, u.0, u.1)

journal_ends : (octets : List ℕ) (limits : Limits) (h : List Entry) (j : IsJournal octets limits h) → Ends octets limits h (j.gate ∷ j.rest)
journal_ends octets limits h j = record { parts = j.parts; legal = j.legal; kept = j.kept; ends = closed_end limits h j.gate j.rest j.is_closed }

cut_ends : (octets : List ℕ) (place : ℕ) (c : IsCutAt octets place) → Ends octets c.limits c.before c.rest
cut_ends octets place c = record { parts = c.parts; legal = c.legal; kept = c.kept; ends = no_gate_end c.limits c.before c.rest c.no_gate }

-- ---- the laws

pub one_history : (octets : List ℕ) (l m : Limits) (h g : List Entry) → IsJournal octets l h → IsJournal octets m g → (l ≡ m) × (h ≡ g)
one_history octets l m h g p q =
    let t = one_ending octets l m h g (p.gate ∷ p.rest) (q.gate ∷ q.rest) (journal_ends octets l h p) (journal_ends octets m g q) in
    (t.0, t.1)

has_header : (octets : List ℕ) (limits : Limits) (h : List Entry) (rest : List ℕ) → Ends octets limits h rest → HasNoHeader octets → ⊥
has_header octets limits h rest p none = none limits (flat_map gated_record h ++ rest) p.legal.in_range (p.parts ∙ append_assoc (header limits) (flat_map gated_record h) rest)

no_cut : (octets : List ℕ) (limits : Limits) (h : List Entry) (place : ℕ) → IsJournal octets limits h → IsCutAt octets place → ⊥
no_cut octets limits h place p c =
    let t = one_ending octets limits c.limits h c.before (p.gate ∷ p.rest) c.rest (journal_ends octets limits h p) (cut_ends octets place c) in
    let none : IsNoGate c.limits c.before (p.gate ∷ p.rest) = subst (λ (r : List ℕ). IsNoGate c.limits c.before r) (sym t.2) c.no_gate in
    p.is_closed none.0

pub not_both : (octets : List ℕ) (limits : Limits) (h : List Entry) (place : ℕ) → IsJournal octets limits h → IsDamaged octets place → ⊥
not_both octets limits h place p (inl bad) = has_header octets limits h (p.gate ∷ p.rest) (journal_ends octets limits h p) bad.1
not_both octets limits h place p (inr cut) = no_cut octets limits h place p cut

one_cut : (octets : List ℕ) (p q : ℕ) → IsCutAt octets p → IsCutAt octets q → p ≡ q
one_cut octets p q c d =
    let t = one_ending octets c.limits d.limits c.before d.before c.rest d.rest (cut_ends octets p c) (cut_ends octets q d) in
    c.place_is ∙ ap (λ (k : Limits). length (journal_prefix k c.before)) t.0 ∙ ap (λ (l : List Entry). length (journal_prefix d.limits l)) t.1 ∙ sym d.place_is

pub one_damage : (octets : List ℕ) (p q : ℕ) → IsDamaged octets p → IsDamaged octets q → p ≡ q
one_damage octets p q (inl a) (inl b) = a.0 ∙ sym b.0
one_damage octets p q (inl a) (inr d) = absurd (has_header octets d.limits d.before d.rest (cut_ends octets q d) a.1)
one_damage octets p q (inr c) (inl b) = absurd (has_header octets c.limits c.before c.rest (cut_ends octets p c) b.1)
one_damage octets p q (inr c) (inr d) = one_cut octets p q c d

-- ---- what is answered

abbrev pub Says : List ℕ → Result Journal JournalFault → Type 0
Says octets (Ok journal) = IsReadFrom octets journal
Says octets (Err fault) = IsCauseOf fault octets

pub gives_journal : (octets : List ℕ) (r : Result Journal JournalFault) (limits : Limits) (h : List Entry) → Says octets r → IsJournal octets limits h → GivesJournal limits h r
gives_journal octets (Ok journal) limits h said is = one_history octets journal.limits limits journal.entries h said.is is
gives_journal octets (Err (faults.Damaged place)) limits h said is = not_both octets limits h place is said
gives_journal octets (Err faults.NoMemory) limits h said is = tt

pub gives_damage : (octets : List ℕ) (r : Result Journal JournalFault) (place : ℕ) → Says octets r → IsDamaged octets place → GivesDamage place r
gives_damage octets (Ok journal) place said is = not_both octets journal.limits journal.entries place said.is is
gives_damage octets (Err (faults.Damaged other)) place said is = one_damage octets other place said is
gives_damage octets (Err faults.NoMemory) place said is = tt

pub says : (octets : List ℕ) (r : Result Journal JournalFault) → IfOk r (λ j. IsReadFrom octets j) → IfErr r (λ e. IsCauseOf e octets) → Says octets r
says octets (Ok journal) found damaged = found
says octets (Err fault) found damaged = damaged
