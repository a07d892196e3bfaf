-- The header of a journal is read just as it is spelled.
use Rattle.std.proofs.Common.{◌≡◌, ℕ, ◌+◌, ◌^◌, ◌<◌, List, ◌++◌, drop, Option, Some, None, refl, sym, ap, subst, ◌∙◌, append_assoc, arith}
use Rattle.std.specs.Prelude.{codes, MatchOption}
use denote.Bor.{Bor}
use Rattle.std.specs.Int.{w32, to_be_bytes}
use Rattle.base_kinds.specs.declared.entry.Limits.{Limits}
use Rattle.base_kinds.specs.Limits.{AreInRange}
use Rattle.journal_record.specs.inner.Reading.{number_at}
use Rattle.journal_record.proofs.Forms.{IsBytes, Reads, sequence, wide32, numbers, some_is}
use Rattle.journal_format.specs.Journal.{header, HasNoHeader}
use Rattle.journal_format.specs.inner.Progress.{limits_octets, limits_at, HasNoLimits}

record HaveOctets (limits : Limits) : Type 0 where
  entries : limits.entries < 2 ^ 32
  octets : limits.octets < 2 ^ 32

limits_form : Reads limits_octets HaveOctets limits_at
unfolding limits_at
limits_form = sequence (to_be_bytes w32) (λ n. n < 2 ^ 32) (number_at w32) (to_be_bytes w32) (λ n. n < 2 ^ 32) (number_at w32) (λ a b. record { entries = a; octets = b }) (λ l. l.entries) (λ l. l.octets) HaveOctets
    (λ c. refl) (λ a b. refl) (λ a b. refl) (λ c is. (is.entries, is.octets)) (λ a b p q. record { entries = p; octets = q }) (numbers w32 (2 ^ 32) wide32) (numbers w32 (2 ^ 32) wide32)

limits_again : (octets : List ℕ) (limits : Limits) (rest : List ℕ) → AreInRange limits → octets ≡ limits_octets limits ++ rest → limits_at octets ≡ Some (limits, rest)
limits_again octets limits rest range e =
    ap limits_at e ∙ limits_form.again limits rest (record { entries = omega (arith, range.most_entries); octets = omega (arith, range.most_octets) }) (omega arith)

pub limits_found : (octets : List ℕ) (limits : Limits) (rest : List ℕ) → IsBytes octets → limits_at octets ≡ Some (limits, rest) → octets ≡ limits_octets limits ++ rest
limits_found octets limits rest bytes e = (limits_form.takes octets limits rest bytes e).parts

pub no_limits : (octets : List ℕ) → limits_at octets ≡ None → HasNoLimits octets
no_limits octets none limits rest range e =
    let same : ◌≡◌ {A = Option (Limits × List ℕ)} (Some (limits, rest)) None = sym (limits_again octets limits rest range e) ∙ none in
    cc

pub limits_out : (octets : List ℕ) (limits : Limits) (rest : List ℕ) → limits_at octets ≡ Some (limits, rest) → (AreInRange limits → ⊥) → HasNoLimits octets
limits_out octets limits rest found out other more range e =
    let same : ◌≡◌ {A = Limits × List ℕ} (other, more) (limits, rest) = some_is (other, more) (limits, rest) (sym (limits_again octets other more range e) ∙ found) in
    out (subst (λ (l : Limits). AreInRange l) (ap (λ (p : Limits × List ℕ). p.0) same) range)

regrouped : (limits : Limits) (rest : List ℕ) → header limits ++ rest ≡ codes "GNMIJRN1" ++ (limits_octets limits ++ rest)
unfolding header
regrouped limits rest = append_assoc (codes "GNMIJRN1") (limits_octets limits) rest

pub no_mark : (octets : List ℕ) → ((rest : List ℕ) → octets ≡ codes "GNMIJRN1" ++ rest → ⊥) → HasNoHeader octets
no_mark octets none limits rest range e = none (limits_octets limits ++ rest) (e ∙ regrouped limits rest)

pub no_header : (octets after : List ℕ) → octets ≡ codes "GNMIJRN1" ++ after → HasNoLimits after → HasNoHeader octets
no_header octets after is none limits rest range e = none limits rest range (ap (drop 8) (sym is ∙ e ∙ regrouped limits rest))

pub header_found : (octets after : List ℕ) (limits : Limits) (rest : List ℕ) → octets ≡ codes "GNMIJRN1" ++ after → after ≡ limits_octets limits ++ rest → octets ≡ header limits ++ rest
header_found octets after limits rest is e = is ∙ ap (λ (l : List ℕ). codes "GNMIJRN1" ++ l) e ∙ sym (regrouped limits rest)

pub header_after : (octets after : List ℕ) (r : Option (Limits × Bor (List ℕ))) → octets ≡ codes "GNMIJRN1" ++ after → MatchOption r (HasNoLimits after) (λ x. AreInRange x.0 × (after ≡ limits_octets x.0 ++ x.1.now))
    → MatchOption r (HasNoHeader octets) (λ x. AreInRange x.0 × (octets ≡ header x.0 ++ x.1.now))
header_after octets after None is none = no_header octets after is none
header_after octets after (Some x) is found = (found.0, header_found octets after x.0 x.1.now is found.1)
