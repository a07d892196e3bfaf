-- What is known of a history says which entries may follow it.
use Rattle.std.proofs.Common.{◌≡◌, ℕ, ◌+◌, ◌-◌, ◌≤◌, List, [], ◌∷◌, ◌++◌, length, Bool, true, false, cond, ltb, leb, ◌&&◌, Option, Some, None, refl, sym, ap, subst, ◌∙◌, arith}
use Rattle.std.specs.List.{list_all}
use Rattle.std.proofs.lemmas.Bool.{ltb-true, lt-ltb, le-ltb, leb-true, le-leb, and_parts, and_from}
use Rattle.base_kinds.specs.declared.entry.Entry.{Entry}
use Rattle.base_kinds.specs.declared.entry.Limits.{Limits}
use Rattle.base_kinds.specs.declared.entry.Kind.{Kind}
use Rattle.base_kinds.specs.declared.entry.Kind.TheVariants as kinds
use Rattle.base_kinds.specs.Limits.{AreInRange, latest_reading}
use Rattle.base_kinds.specs.History.{stamp_of}
use Rattle.base_kinds.specs.Legal.{is_fit_op, is_fit_id, AreFitOps}
use Rattle.base_kinds.specs.Records.{record_octets}
use Rattle.base_kinds.specs.Rules.{size_of, limited}
use Rattle.journal_record.specs.Spelling.{ops_of, record_of}
use Rattle.journal_record.specs.Representable.{IsRepresentable, HasRecord, IsReadAs}
use Rattle.journal_record.proofs.Lengths.{record_length}
use Rattle.std.proofs.lemmas.List.{length-append}
use Rattle.journal_format.specs.declared.progress.Progress.{Progress}
use Rattle.journal_format.specs.Histories.{MayFollow, is_author_of, happens, is_fit_kind, is_fit_deadline, has_trial, has_room}
use Rattle.journal_format.specs.inner.Progress.{Summarizes, IsWithinLimits, is_fit_but_for_ops, is_later, may_happen, with_entry, leaves_room, follow, IsFollowed, IsFollowedByNone}
use Rattle.journal_format.proofs.Histories.{has_trial_more, stamp_more, size_more, length_more}

-- ---- room

progress : ℕ → ℕ → Bool → ℕ → Progress
progress count stamp is_open octets = record { count = count; stamp = stamp; is_open = is_open; octets = octets }

same_room : (limits : Limits) (count count' stamp stamp' : ℕ) (o o' : Bool) (octets octets' : ℕ) → count ≡ count' → stamp ≡ stamp' → o ≡ o' → octets ≡ octets'
    → leaves_room limits (record { count = count; stamp = stamp; is_open = o; octets = octets }) ≡ leaves_room limits (record { count = count'; stamp = stamp'; is_open = o'; octets = octets' })
same_room limits count count' stamp stamp' o o' octets octets' ec es eo ez = cc

pub room_is : (limits : Limits) (so_far : Progress) (h : List Entry) → Summarizes so_far h → leaves_room limits so_far ≡ has_room limits h
room_is limits so_far h stands =
    same_room limits so_far.count (length h) so_far.stamp (stamp_of h) so_far.is_open (has_trial h) so_far.octets (size_of h) stands.count_is stands.stamp_is stands.open_is stands.octets_are

within_of : (limits : Limits) (so_far : Progress) → leaves_room limits so_far ≡ true → IsWithinLimits limits so_far
within_of limits so_far room = by_open so_far.is_open room
  where
    by_open : (o : Bool) → cond o (leb (so_far.count + 1) limits.entries && leb (so_far.octets + 14) limits.octets) (leb (so_far.count + 0) limits.entries && leb (so_far.octets + 0) limits.octets) ≡ true → IsWithinLimits limits so_far
    by_open true e =
        let t = and_parts (leb (so_far.count + 1) limits.entries) (leb (so_far.octets + 14) limits.octets) e in
        record { entries_within = omega (arith, leb-true _ _ t.0); octets_within = omega (arith, leb-true _ _ t.1) }
    by_open false e =
        let t = and_parts (leb (so_far.count + 0) limits.entries) (leb (so_far.octets + 0) limits.octets) e in
        record { entries_within = omega (arith, leb-true _ _ t.0); octets_within = omega (arith, leb-true _ _ t.1) }

-- a history with room is no longer than its limit
size_within : (limits : Limits) (h : List Entry) → has_room limits h ≡ true → size_of h ≤ limits.octets
size_within limits h room = by_open (has_trial h) room
  where
    by_open : (o : Bool) → cond o (limited limits h 1 14) (limited limits h 0 0) ≡ true → size_of h ≤ limits.octets
    by_open true e = omega (arith, leb-true _ _ (and_parts (leb (length h + 1) limits.entries) (leb (size_of h + 14) limits.octets) e).1)
    by_open false e = omega (arith, leb-true _ _ (and_parts (leb (length h + 0) limits.entries) (leb (size_of h + 0) limits.octets) e).1)

-- ---- kinds

pub ops_fit : (stamp : ℕ) (kind : Kind) → is_fit_kind stamp kind ≡ true → AreFitOps (ops_of kind)
ops_fit stamp (kinds.Apply ops) e = e
ops_fit stamp (kinds.Trial id ops deadline) e = (and_parts (is_fit_id id && is_fit_deadline stamp deadline) (list_all is_fit_op ops) e).1
ops_fit stamp kinds.Confirm e = refl
ops_fit stamp kinds.Cancel e = refl
ops_fit stamp kinds.Expire e = refl
ops_fit stamp kinds.Restart e = refl
ops_fit stamp (kinds.Extend deadline) e = refl

rest_fits : (stamp : ℕ) (kind : Kind) → is_fit_kind stamp kind ≡ true → is_fit_but_for_ops stamp kind ≡ true
rest_fits stamp (kinds.Apply ops) e = refl
rest_fits stamp (kinds.Trial id ops deadline) e = (and_parts (is_fit_id id && is_fit_deadline stamp deadline) (list_all is_fit_op ops) e).0
rest_fits stamp kinds.Confirm e = refl
rest_fits stamp kinds.Cancel e = refl
rest_fits stamp kinds.Expire e = refl
rest_fits stamp kinds.Restart e = refl
rest_fits stamp (kinds.Extend deadline) e = e

kind_fits_from : (stamp : ℕ) (kind : Kind) → AreFitOps (ops_of kind) → is_fit_but_for_ops stamp kind ≡ true → is_fit_kind stamp kind ≡ true
kind_fits_from stamp (kinds.Apply ops) fit e = fit
kind_fits_from stamp (kinds.Trial id ops deadline) fit e = and_from (is_fit_id id && is_fit_deadline stamp deadline) (list_all is_fit_op ops) e fit
kind_fits_from stamp kinds.Confirm fit e = refl
kind_fits_from stamp kinds.Cancel fit e = refl
kind_fits_from stamp kinds.Expire fit e = refl
kind_fits_from stamp kinds.Restart fit e = refl
kind_fits_from stamp (kinds.Extend deadline) fit e = e

-- what may follow has a record
pub next_has_record : (limits : Limits) (h : List Entry) (entry : Entry) → AreInRange limits → MayFollow limits h entry → IsRepresentable entry → HasRecord entry
next_has_record limits h entry range next kept =
    let small = size_within limits (h ++ entry ∷ []) next.room in
    record { kept = kept; fits = ops_fit entry.stamp entry.kind next.kind_fits; short = omega (arith, small, size_more h entry, range.most_octets) }

-- ---- the step

pub stands_more : (so_far : Progress) (h : List Entry) (entry : Entry) (octets : ℕ) → Summarizes so_far h → happens entry.kind (has_trial h) ≡ true → octets ≡ record_octets entry → Summarizes (with_entry so_far entry octets) (h ++ entry ∷ [])
stands_more so_far h entry octets stands happened is = record {
  count_is = omega (arith, stands.count_is, length_more h entry);
  stamp_is = sym (stamp_more 0 h entry);
  open_is = sym (has_trial_more h entry happened);
  octets_are = omega (arith, stands.octets_are, size_more h entry, is);
}

split_test : (a b : Bool) (p q : Progress) → cond a None (cond b (Some p) None) ≡ Some q → (a ≡ false) × (b ≡ true) × (p ≡ q)
split_test true b p q e = absurd cc
split_test false true p q e = (refl, refl, cc)
split_test false false p q e = absurd cc

pub follows_is : (limits : Limits) (so_far : Progress) (entry : Entry) (octets : ℕ) (next : Progress) (h : List Entry) → Summarizes so_far h → entry.number ≡ so_far.count + 1 → octets ≡ record_octets entry → AreFitOps (ops_of entry.kind)
    → follow limits so_far entry octets ≡ Some next → MayFollow limits h entry × Summarizes next (h ++ entry ∷ []) × IsWithinLimits limits next
follows_is limits so_far entry octets next h stands number is fit e =
    let made = with_entry so_far entry octets in
    let t = split_test (ltb limits.octets octets) (may_happen so_far entry && leaves_room limits made) made next e in
    let both = and_parts (may_happen so_far entry) (leaves_room limits made) t.1 in
    let c = and_parts (is_later so_far.stamp entry && is_author_of entry.kind entry.author && happens entry.kind so_far.is_open) (is_fit_but_for_ops entry.stamp entry.kind) both.0 in
    let b = and_parts (is_later so_far.stamp entry && is_author_of entry.kind entry.author) (happens entry.kind so_far.is_open) c.0 in
    let a = and_parts (is_later so_far.stamp entry) (is_author_of entry.kind entry.author) b.0 in
    let later = and_parts (ltb so_far.stamp entry.stamp) (leb entry.stamp (latest_reading + entry.number)) a.0 in
    let happened : happens entry.kind (has_trial h) ≡ true = ap (happens entry.kind) (sym stands.open_is) ∙ b.1 in
    let stands' = stands_more so_far h entry octets stands happened is in (
      record {
        number_is = omega (arith, number, stands.count_is);
        later = omega (arith, ltb-true _ _ later.0, stands.stamp_is);
        bounded = leb-true _ _ later.1;
        author_is = a.1;
        can_happen = happened;
        kind_fits = kind_fits_from entry.stamp entry.kind fit c.1;
        room = sym (room_is limits made (h ++ entry ∷ []) stands') ∙ both.1;
      },
      subst (λ (p : Progress). Summarizes p (h ++ entry ∷ [])) t.2 stands',
      subst (λ (p : Progress). IsWithinLimits limits p) t.2 (within_of limits made both.1),
    )

not_none : (a b : Bool) (p : Progress) → a ≡ false → b ≡ true → ◌≡◌ {A = Option Progress} (cond a None (cond b (Some p) None)) None → ⊥
not_none true b p ea eb e = cc
not_none false true p ea eb e = cc
not_none false false p ea eb e = cc

pub follows_not : (limits : Limits) (so_far : Progress) (entry : Entry) (octets : ℕ) (h : List Entry) → Summarizes so_far h → octets ≡ record_octets entry → follow limits so_far entry octets ≡ None → MayFollow limits h entry → ⊥
follows_not limits so_far entry octets h stands is e next =
    let made = with_entry so_far entry octets in
    let happened : happens entry.kind so_far.is_open ≡ true = ap (happens entry.kind) stands.open_is ∙ next.can_happen in
    let stands' = stands_more so_far h entry octets stands next.can_happen is in
    let room : leaves_room limits made ≡ true = room_is limits made (h ++ entry ∷ []) stands' ∙ next.room in
    let less : ltb limits.octets octets ≡ false = le-ltb _ _ (omega (arith, size_within limits (h ++ entry ∷ []) next.room, size_more h entry, is)) in
    let later : is_later so_far.stamp entry ≡ true = and_from (ltb so_far.stamp entry.stamp) (leb entry.stamp (latest_reading + entry.number)) (lt-ltb _ _ (omega (arith, next.later, stands.stamp_is))) (le-leb _ _ next.bounded) in
    let can : may_happen so_far entry ≡ true = and_from (is_later so_far.stamp entry && is_author_of entry.kind entry.author && happens entry.kind so_far.is_open) (is_fit_but_for_ops entry.stamp entry.kind)
    (and_from (is_later so_far.stamp entry && is_author_of entry.kind entry.author) (happens entry.kind so_far.is_open) (and_from (is_later so_far.stamp entry) (is_author_of entry.kind entry.author) later next.author_is) happened)
    (rest_fits entry.stamp entry.kind next.kind_fits) in
    not_none (ltb limits.octets octets) (may_happen so_far entry && leaves_room limits made) made less (and_from (may_happen so_far entry) (leaves_room limits made) can room) e

-- ---- what stands behind an open gate

took_length : (octets : List ℕ) (entry : Entry) (rest : List ℕ) (len : ℕ) → octets ≡ record_of entry ++ rest → len ≡ length octets - length rest → len ≡ record_octets entry
took_length octets entry rest len parts is = omega (arith, is, ap length parts, length-append (record_of entry) rest, record_length entry)

pub next_found : (limits : Limits) (so_far : Progress) (octets : List ℕ) (entry : Entry) (next : Progress) (rest : List ℕ) (len : ℕ) → IsReadAs (so_far.count + 1) octets entry rest → len ≡ length octets - length rest
    → follow limits so_far entry len ≡ Some next → IsFollowed limits so_far octets entry next rest
next_found limits so_far octets entry next rest len read is e h stands =
    let t = follows_is limits so_far entry len next h stands read.numbered (took_length octets entry rest len read.parts is) read.ops_fit e in
    record { parts = read.parts; is_representable = read.is_representable; is_next = t.0; stands = t.1; is_within = t.2 }

pub next_none : (limits : Limits) (so_far : Progress) (octets : List ℕ) (entry : Entry) (rest : List ℕ) (len : ℕ) → AreInRange limits → IsReadAs (so_far.count + 1) octets entry rest
    → ((other : Entry) (more : List ℕ) → HasRecord other → other.number ≡ so_far.count + 1 → octets ≡ record_of other ++ more → (other ≡ entry) × (more ≡ rest))
    → len ≡ length octets - length rest → follow limits so_far entry len ≡ None → IsFollowedByNone limits so_far octets
next_none limits so_far octets entry rest len range read only is e h stands other more next kept parts =
    let same = only other more (next_has_record limits h other range next kept) (omega (arith, next.number_is, stands.count_is)) parts in
    follows_not limits so_far entry len h stands (took_length octets entry rest len read.parts is) e (subst (λ (x : Entry). MayFollow limits h x) same.0 next)

pub next_bad : (limits : Limits) (so_far : Progress) (octets : List ℕ) → AreInRange limits → ((other : Entry) (more : List ℕ) → HasRecord other → other.number ≡ so_far.count + 1 → octets ≡ record_of other ++ more → ⊥) → IsFollowedByNone limits so_far octets
next_bad limits so_far octets range none h stands other more next kept parts =
    none other more (next_has_record limits h other range next kept) (omega (arith, next.number_is, stands.count_is)) parts
