-- Streams stand by rising number.
use Rattle.std.proofs.Common.{◌≡◌, ℕ, zero, suc, ◌+◌, ◌<◌, ◌≤◌, Bool, true, false, cond, not, List, [], ◌∷◌, ◌++◌, ℤ, pos, ◌-ℤ◌, refl, sym, subst, arith}
use Rattle.std.specs.Prelude.{nat_eq, nat_lt, ◌||◌, if◌then◌else◌}
use Rattle.std.specs.List.{AllByRecursion, filter, list_any, insert, position_or_len}
use Rattle.std.proofs.lemmas.Bool.{ltb-true, ltb-false}
use Rattle.std.proofs.lemmas.Bool.Decides.{nat_tests}
use Rattle.h2_windows.specs.declared.stream.Stream.{Stream}
use Rattle.h2_windows.specs.Shares.{share}
use Rattle.h2_windows.specs.Sending.{sent}
use Rattle.h2_windows.specs.Streams.{is_stream, new_stream, opened, without, granted, granted_to, AreAbove, AreRising}

above_more : (n m : ℕ) (streams : List Stream) → n < m → AreAbove m streams → AreAbove n streams
above_more n m [] less a = tt
above_more n m (s ∷ streams) less a = (omega (arith, less, a.0), above_more n m streams less a.1)

-- ---- a new stream

abbrev place : ℕ → List Stream → ℕ
place id streams = position_or_len (λ s. nat_lt id s.id) streams

put_later : (id : ℕ) (s : Stream) (n : ℕ) (streams : List Stream) → insert (s ∷ streams) (1 + n) (new_stream id) ≡ s ∷ insert streams n (new_stream id)
put_later id s n streams =
    let up : 1 + n ≡ suc n = omega arith in
    rw up refl

above_put : (n id k : ℕ) (streams : List Stream) → n < id → AreAbove n streams → AreAbove n (insert streams k (new_stream id))
above_put n id zero streams less a = (less, a)
above_put n id (suc k) [] less a = (less, tt)
above_put n id (suc k) (s ∷ streams) less a = (a.0, above_put n id k streams less a.1)

differ_less : (a b : ℕ) → nat_lt b a ≡ false → nat_eq a b ≡ false → a < b
differ_less a b not_less differs =
    let le : a ≤ b = ltb-false b a not_less in
    grind (arith, nat_tests)

put_at : (id : ℕ) (s : Stream) (streams : List Stream) (above : Bool) → nat_lt id s.id ≡ above → nat_eq s.id id ≡ false → AreAbove s.id streams → AreRising streams → AreRising (insert streams (place id streams) (new_stream id)) → AreRising (insert (s ∷ streams) (cond (not above) (1 + place id streams) 0) (new_stream id))
put_at id s streams true is differs others rise e =
    let less : id < s.id = ltb-true id s.id is in
    ((less, above_more id s.id streams less others), (others, rise))
put_at id s streams false is differs others rise e =
    let less : s.id < id = differ_less s.id id is differs in
    subst (λ ss. AreRising ss) (sym (put_later id s (place id streams) streams)) (above_put s.id id (place id streams) streams less others, e)

neither : (a b : Bool) → (a || b) ≡ false → (a ≡ false) × (b ≡ false)
neither true b e = absurd cc
neither false b e = (refl, e)

put_rises : (id : ℕ) (streams : List Stream) → list_any (is_stream id) streams ≡ false → AreRising streams → AreRising (insert streams (place id streams) (new_stream id))
put_rises id [] none rise = (tt, tt)
put_rises id (s ∷ streams) none (others, rise) =
    let (differs, more) = neither (is_stream id s) (list_any (is_stream id) streams) none in
    put_at id s streams (nat_lt id s.id) refl differs others rise (put_rises id streams more rise)

opened_at : (id : ℕ) (streams : List Stream) (there : Bool) → list_any (is_stream id) streams ≡ there → AreRising streams → AreRising (if there then streams else insert streams (place id streams) (new_stream id))
opened_at id streams true is rise = rise
opened_at id streams false is rise = put_rises id streams is rise

pub opened_rise : (id : ℕ) (streams : List Stream) → AreRising streams → AreRising (opened id streams)
opened_rise id streams rise = opened_at id streams (list_any (is_stream id) streams) refl rise

-- ---- one stream less

above_kept : (n : ℕ) (keep : Bool) (s : Stream) (streams : List Stream) → n < s.id → AreAbove n streams → AreAbove n (cond keep (s ∷ streams) streams)
above_kept n true s streams less a = (less, a)
above_kept n false s streams less a = a

above_filtered : (n : ℕ) (keep : Stream → Bool) (streams : List Stream) → AreAbove n streams → AreAbove n (filter keep streams)
above_filtered n keep [] a = tt
above_filtered n keep (s ∷ streams) a = above_kept n (keep s) s (filter keep streams) a.0 (above_filtered n keep streams a.1)

kept_rise : (keep : Bool) (s : Stream) (streams : List Stream) → AreAbove s.id streams → AreRising streams → AreRising (cond keep (s ∷ streams) streams)
kept_rise true s streams others rise = (others, rise)
kept_rise false s streams others rise = rise

filtered_rise : (keep : Stream → Bool) (streams : List Stream) → AreRising streams → AreRising (filter keep streams)
filtered_rise keep [] rise = tt
filtered_rise keep (s ∷ streams) (others, rise) = kept_rise (keep s) s (filter keep streams) (above_filtered s.id keep streams others) (filtered_rise keep streams rise)

pub without_rise : (id : ℕ) (streams : List Stream) → AreRising streams → AreRising (without id streams)
without_rise id streams rise = filtered_rise (λ s. not (is_stream id s)) streams rise

-- ---- windows and octets alone change

same_number : (is : Bool) (s t : Stream) → t.id ≡ s.id → (if is then t else s).id ≡ s.id
same_number true s t e = e
same_number false s t e = refl

number : (id n : ℕ) (s : Stream) → (granted_to id n s).id ≡ s.id
number id n s = same_number (is_stream id s) s _ refl

above_granted : (m id n : ℕ) (streams : List Stream) → AreAbove m streams → AreAbove m (granted id n streams)
above_granted m id n [] a = tt
above_granted m id n (s ∷ streams) a = (subst (λ k. m < k) (sym (number id n s)) a.0, above_granted m id n streams a.1)

pub granted_rise : (id n : ℕ) (streams : List Stream) → AreRising streams → AreRising (granted id n streams)
granted_rise id n [] rise = tt
granted_rise id n (s ∷ streams) (others, rise) = (subst (λ k. AreAbove k (granted id n streams)) (sym (number id n s)) (above_granted s.id id n streams others), granted_rise id n streams rise)

above_sent : (m initial : ℕ) (window : ℤ) (streams : List Stream) → AreAbove m streams → AreAbove m (sent initial window streams).streams
above_sent m initial window [] a = tt
above_sent m initial window (s ∷ streams) a = (a.0, above_sent m initial (window -ℤ pos (share initial window s)) streams a.1)

pub sent_rise : (initial : ℕ) (window : ℤ) (streams : List Stream) → AreRising streams → AreRising (sent initial window streams).streams
sent_rise initial window [] rise = tt
sent_rise initial window (s ∷ streams) (others, rise) = (above_sent s.id initial (window -ℤ pos (share initial window s)) streams others, sent_rise initial (window -ℤ pos (share initial window s)) streams rise)

-- ---- each number once

apart_above : (a b : ℕ) → a < b → nat_eq b a ≡ false
apart_above a b less = grind (arith, nat_tests)

apart_below : (a b : ℕ) → a < b → nat_eq a b ≡ false
apart_below a b less = grind (arith, nat_tests)

others_above : (id : ℕ) (streams : List Stream) → AreAbove id streams → AllByRecursion (λ t. nat_eq t.id id ≡ false) streams
others_above id [] a = tt
others_above id (t ∷ streams) a = (apart_above id t.id a.0, others_above id streams a.1)

last_above : (id : ℕ) (before : List Stream) (s : Stream) (after : List Stream) → AreAbove id (before ++ s ∷ after) → id < s.id
last_above id [] s after a = a.0
last_above id (t ∷ before) s after a = last_above id before s after a.1

pub once : (before : List Stream) (s : Stream) (after : List Stream) → AreRising (before ++ s ∷ after) → AllByRecursion (λ t. nat_eq t.id s.id ≡ false) before × AllByRecursion (λ t. nat_eq t.id s.id ≡ false) after
once [] s after (others, rise) = (tt, others_above s.id after others)
once (t ∷ before) s after (others, rise) =
    let (first, second) = once before s after rise in
    ((apart_below t.id s.id (last_above t.id before s after others), first), second)
