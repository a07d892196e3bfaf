-- The shortest spelling, and fields that are written.
use Rattle.std.proofs.Common.{◌≡◌, ℕ, zero, suc, ◌+◌, ◌*◌, ◌/◌, ◌%◌, ◌^◌, ◌<◌, ◌≤◌, true, false, ltb, List, [], ◌∷◌, ◌++◌, length, refl, sym, ap, ◌∙◌, subst, arith, append_assoc, append-nil, lit≤, inl, inr}
use Rattle.std.proofs.lemmas.Bool.{lt-ltb, le-ltb, cases_lt}
use Rattle.base_lists.proofs.SevenBits.{room, room-64, number_of_groups-of, IsMarked-groups_of, length-groups_of, length-groups_of-le}
use Rattle.pb_wire.specs.declared.field.Body.TheVariants.{Varint}
use Rattle.pb_wire.specs.declared.field.Field.{Field}
use Rattle.base_lists.specs.SevenBits.{number_of_groups, IsMarked, groups_of}
use Rattle.pb_wire.specs.Varint.{IsVarint, shortest}
use Rattle.pb_wire.specs.Message.{IsField, IsMessage}
use Rattle.base_lists.specs.Fronts.{AppendsFront}
use Rattle.pb_wire.specs.Writing.{varint_field, octets_field, octets_body}

-- what is spelled has its 64 bits in the ten octets
pub IsVarint-shortest : (n : ℕ) → n < 2 ^ 64 → IsVarint (shortest n) n
unfolding shortest
IsVarint-shortest n lt =
    let fits : n < room 9 = room-64 n lt in
    record {
      marked = IsMarked-groups_of 9 n fits;
      short = length-groups_of 9 n;
      value = number_of_groups-of 9 n fits;
      fits = lt;
    }

-- no other spelling has fewer octets
pub length-shortest-le : (n : ℕ) (other : List ℕ) → IsVarint other n → length (shortest n) ≤ length other
unfolding shortest
length-shortest-le n other is = length-groups_of-le 9 n other is.marked is.value

-- ---- fields that are written

one_field : (octets : List ℕ) (field : Field) → IsField 0 octets field → IsMessage octets (field ∷ [])
one_field octets field is = record { are_fields = (octets, [], sym (append-nil octets), is, refl) }

small_tag : (n : ℕ) → n < 128 → IsVarint (n ∷ []) n
small_tag n lt = record { marked = lt; short = lit≤ tt; value = omega arith; fits = omega arith }

pub IsMessage-varint : (number value : ℕ) → 1 ≤ number → number ≤ 15 → value < 2 ^ 64 → IsMessage (varint_field number value) (record { number = number; body = Varint value } ∷ [])
IsMessage-varint number value low high fits =
    one_field (varint_field number value) (record { number = number; body = Varint value }) (record {
      tag = number * 8 ∷ [];
      body = shortest value;
      parts = refl;
      is_tag = subst (λ (n : ℕ). IsVarint (number * 8 ∷ []) n) (omega arith) (small_tag (number * 8) (omega arith));
      is_number = (low, omega arith);
      is_body = IsVarint-shortest value fits;
    })

pub IsMessage-octets : (number : ℕ) (octets : List ℕ) → 1 ≤ number → number ≤ 15 → length octets < 2 ^ 64 → IsMessage (octets_field number octets) (record { number = number; body = octets_body octets } ∷ [])
IsMessage-octets number octets low high fits =
    one_field (octets_field number octets) (record { number = number; body = octets_body octets }) (record {
      tag = (number * 8 + 2) ∷ [];
      body = shortest (length octets) ++ octets;
      parts = refl;
      is_tag = small_tag (number * 8 + 2) (omega arith);
      is_number = (low, omega arith);
      is_body = record {
        len = shortest (length octets);
        content = octets;
        parts = refl;
        is_len = IsVarint-shortest (length octets) fits;
        first = refl;
        last = refl;
      };
    })
