-- An entry without operations, as the first of its history.
use Rattle.std.proofs.Common.{◌≡◌, ◌+◌, ◌≤◌, ℕ, Bool, true, IsTrue, List, [], ◌∷◌, refl, sym, arith, rules, subst, nat_le, ◌&&◌}
use Rattle.base_kinds.specs.declared.entry.Entry.{Entry}
use Rattle.base_kinds.specs.declared.entry.Kind.TheVariants as kinds
use Rattle.base_kinds.specs.declared.entry.Limits.{Limits}
use Rattle.base_kinds.specs.Limits.{AreInRange}
use Rattle.journal_format.specs.Histories.{MayFollow}

abbrev first_entry : Entry
first_entry = record { number = 1; author = 1; stamp = 1000; kind = kinds.Apply [] }

both_at_most : (a b c d : ℕ) → a ≤ b → c ≤ d → IsTrue (nat_le a b && nat_le c d)
both_at_most a b c d first second = grind (arith, first, second)

first_is : (limits : Limits) → AreInRange limits → MayFollow limits [] first_entry
first_is limits range = record {
  number_is = refl;
  later = omega arith;
  bounded = omega arith;
  author_is = refl;
  can_happen = refl;
  kind_fits = refl;
  room = both_at_most 1 limits.entries 35 limits.octets (omega (arith, range.least_entries)) (omega (arith, range.least_octets));
}

pub first_is_next : (limits : Limits) (h : List Entry) → AreInRange limits → h ≡ [] → MayFollow limits h first_entry
first_is_next limits h range is = subst (λ l. MayFollow limits l first_entry) (sym is) (first_is limits range)
