-- Records that stand behind others.
use Rattle.std.proofs.Common.{◌≡◌, ◌<◌, List, [], ◌∷◌, ◌++◌, length, refl, arith}
use Rattle.h2_send.specs.declared.condition.Condition.TheVariants as condition
use Rattle.shared_wire.specs.Records.{WireRecord, IsPorts, Leaves, Follow, AreRecords, IsOpen, last_behind, last_record, left_in}

pub last_more : (before : WireRecord) (rs : List WireRecord) (r : WireRecord) → last_behind before (rs ++ r ∷ []) ≡ r
last_more before [] r = refl
last_more before (x ∷ rs) r = last_more x rs r

-- the last of records is the one behind them
pub last_is : (rs : List WireRecord) (r : WireRecord) → last_record (rs ++ r ∷ []) ≡ r
last_is [] r = refl
last_is (x ∷ rs) r = last_more x rs r

pub last_append : (before : WireRecord) (xs ys : List WireRecord) → last_behind before (xs ++ ys) ≡ last_behind (last_behind before xs) ys
last_append before [] ys = refl
last_append before (x ∷ xs) ys = last_append x xs ys

follow_more : (before : WireRecord) (rs : List WireRecord) (r : WireRecord) → Follow before rs → (last_behind before rs).left.condition ≡ condition.Open → Leaves r.deed (last_behind before rs).left r.left → IsPorts r.author r.deed → Follow before (rs ++ r ∷ [])
follow_more before [] r follow is_open leaves some = (is_open, leaves, some, tt)
follow_more before (x ∷ rs) r follow is_open leaves some = (follow.0, follow.1, follow.2, follow_more x rs r follow.3 is_open leaves some)

-- one record more, of a call that found the wire open
pub records_more : (rs : List WireRecord) (r : WireRecord) → AreRecords rs → IsOpen rs → Leaves r.deed (left_in rs) r.left → IsPorts r.author r.deed → AreRecords (rs ++ r ∷ [])
records_more [] r are is_open leaves some = absurd are
records_more (x ∷ rs) r are is_open leaves some = (are.0, are.1, follow_more x rs r are.2 is_open leaves some, are.3)

-- what stands behind some of them
pub follow_behind : (before : WireRecord) (xs ys : List WireRecord) → Follow before (xs ++ ys) → Follow (last_behind before xs) ys
follow_behind before [] ys follow = follow
follow_behind before (x ∷ xs) ys follow = follow_behind x xs ys follow.3

follow_front : (before : WireRecord) (xs ys : List WireRecord) → Follow before (xs ++ ys) → Follow before xs
follow_front before [] ys follow = tt
follow_front before (x ∷ xs) ys follow = (follow.0, follow.1, follow.2, follow_front x xs ys follow.3)

-- some of them, the first among these
pub records_front : (xs ys : List WireRecord) → 0 < length xs → AreRecords (xs ++ ys) → AreRecords xs
records_front [] ys some are = absurd (omega (arith, some))
records_front (x ∷ xs) ys some are = (are.0, are.1, follow_front x xs ys are.2, are.3)

-- what the last one's call left
pub leaves_last : (rs : List WireRecord) (r : WireRecord) → AreRecords rs → AreRecords (rs ++ r ∷ []) → Leaves r.deed (left_in rs) r.left
leaves_last [] r are all = absurd are
leaves_last (x ∷ rs) r are all = (follow_behind x rs (r ∷ []) all.2).1
