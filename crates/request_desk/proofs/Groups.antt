-- Groups of seven bits that are written where there is room for them.
use Rattle.std.proofs.Common.{◌≡◌, ◌≢◌, ℕ, zero, suc, ◌+◌, ◌/◌, ◌%◌, ◌^◌, ◌<◌, ◌≤◌, List, [], ◌∷◌, ◌++◌, refl, sym, ap, ◌∙◌, arith, append_assoc, append-nil}
use Rattle.base_lists.specs.SevenBits.{groups_of}
use Rattle.pb_wire.specs.Varint.{shortest}
use Rattle.gnmi_data_msg.specs.Writing.{number_field}
use Rattle.gnmi_set_msg.specs.Numbers.{reply_timestamp}
use Rattle.base_lists.proofs.SevenBits.{room, room-64, groups_of-last, groups_of-more}

-- some groups are written, the rest spells what is left, and there is room for it
pub record IsWriting (old out : List ℕ) (len capacity number left : ℕ) : Type 0 where
  pub more : ℕ
  pub all : out ++ groups_of more left ≡ old ++ groups_of 9 number
  pub fits : left < room more
  pub reserved : len + more + 1 ≤ capacity

pub none_written : (old : List ℕ) (len capacity number : ℕ) → number < 2 ^ 64 → len + 10 ≤ capacity
    → IsWriting old old len capacity number number
none_written old len capacity number lt le =
    record { more = 9; all = refl; fits = room-64 number lt; reserved = omega (arith, le) }

pub one_written : (old out : List ℕ) (len capacity number left : ℕ) → IsWriting old out len capacity number left → 128 ≤ left
    → IsWriting old (out ++ (left % 128 + 128) ∷ []) (len + 1) capacity number (left / 128)
one_written old out len capacity number left writing large = next writing.more writing.all writing.fits writing.reserved
  where
    next : (more : ℕ) → out ++ groups_of more left ≡ old ++ groups_of 9 number → left < room more → len + more + 1 ≤ capacity
        → IsWriting old (out ++ (left % 128 + 128) ∷ []) (len + 1) capacity number (left / 128)
    next zero all fits reserved = absurd (omega (arith, fits, large))
    next (suc more) all fits reserved = record {
      more = more;
      all = append_assoc out ((left % 128 + 128) ∷ []) (groups_of more (left / 128))
          ∙ ap (λ (rest : List ℕ). out ++ rest) (sym (groups_of-more more left large)) ∙ all;
      fits = omega (arith, fits);
      reserved = omega (arith, reserved);
    }

pub last_written : (old out : List ℕ) (len capacity number left : ℕ) → IsWriting old out len capacity number left → left < 128
    → out ++ left ∷ [] ≡ old ++ groups_of 9 number
last_written old out len capacity number left writing small =
    ap (λ (rest : List ℕ). out ++ rest) (sym (groups_of-last writing.more left small)) ∙ writing.all

pub has_room : (old out : List ℕ) (len capacity number left : ℕ) → IsWriting old out len capacity number left → len < capacity
has_room old out len capacity number left writing = omega (arith, writing.reserved)

pub no_stamp : (front : List ℕ) (stamp : ℕ) → stamp ≡ 0 → front ≡ front ++ number_field reply_timestamp stamp
no_stamp front zero is = sym (append-nil front)
no_stamp front (suc n) is = absurd (omega (arith, is))

pub stamp_behind : (front : List ℕ) (stamp : ℕ) → stamp ≢ 0 → (front ++ 32 ∷ []) ++ groups_of 9 stamp ≡ front ++ number_field reply_timestamp stamp
unfolding shortest
stamp_behind front zero some = absurd (some refl)
stamp_behind front (suc n) some = append_assoc front (32 ∷ []) (groups_of 9 (suc n))
