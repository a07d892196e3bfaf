-- DATA that is sent stays within each stream's window.
use Rattle.std.proofs.Common.{◌≡◌, ℕ, zero, suc, ◌+◌, ◌≤◌, true, false, List, [], ◌∷◌, ◌++◌, length, take, drop, map, ℤ, pos, ◌+ℤ◌, ◌-ℤ◌, refl, sym, ap, ◌∙◌, subst, arith, rules, length-drop, length-take}
use Rattle.std.specs.Prelude.{nat_eq}
use Rattle.std.specs.List.{AllByRecursion}
use Rattle.std.proofs.lemmas.Int.{ints}
use Rattle.h2_frame.specs.Frames.{Frame}
use Rattle.h2_windows.specs.declared.stream.Stream.{Stream}
use Rattle.h2_windows.specs.Windows.{room}
use Rattle.h2_windows.specs.Shares.{share, window_of}
use Rattle.h2_windows.specs.Sending.{sent, data_frame, data_frames, payloads_in, largest_payload, after_sending}
use Rattle.h2_windows.specs.Pacing.{is_data_on, Within, window_after, Passing}
use Rattle.h2_windows.proofs.Paced.{room_spent}
use Rattle.h2_windows.proofs.Counted.{Within-append, window_after-append}

pub passing-append : (id : ℕ) (a b c : ℤ) (xs ys : List Frame) → Passing (is_data_on id) a b xs → Passing (is_data_on id) b c ys → Passing (is_data_on id) a c (xs ++ ys)
passing-append id a b c xs ys first second = record {
  within = Within-append (is_data_on id) a xs ys first.within (subst (λ w. Within (is_data_on id) w ys) (sym first.is_after) second.within);
  is_after = window_after-append (is_data_on id) a xs ys ∙ ap (λ w. window_after (is_data_on id) w ys) first.is_after ∙ second.is_after;
}

-- DATA of another stream doesn't count
other_frame : (id other : ℕ) (payload : List ℕ) (window : ℤ) → nat_eq other id ≡ false → Passing (is_data_on id) window window (data_frame other payload ∷ [])
other_frame id other payload window differs = record { within = ((λ t. let k : true ≡ false = sym t ∙ differs in absurd cc), tt); is_after = rw differs refl }

own_frame : (id : ℕ) (payload : List ℕ) (window : ℤ) → length payload ≤ room window → Passing (is_data_on id) window (window -ℤ pos (length payload)) (data_frame id payload ∷ [])
own_frame id payload window fits = let e : nat_eq id id ≡ true = search rules in record { within = ((λ _. fits), tt); is_after = rw e refl }

other_data : (id other k : ℕ) (octets : List ℕ) (window : ℤ) → nat_eq other id ≡ false → Passing (is_data_on id) window window (map (data_frame other) (payloads_in k octets))
other_data id other zero octets window differs = record { within = tt; is_after = refl }
other_data id other (suc k) [] window differs = record { within = tt; is_after = refl }
other_data id other (suc k) (o ∷ octets) window differs = passing-append id window window window (data_frame other (take largest_payload (o ∷ octets)) ∷ []) _ (other_frame id other (take largest_payload (o ∷ octets)) window differs) (other_data id other k (drop largest_payload (o ∷ octets)) window differs)

pub others_sent : (initial id : ℕ) (window own : ℤ) (streams : List Stream) → AllByRecursion (λ s. nat_eq s.id id ≡ false) streams → Passing (is_data_on id) own own (sent initial window streams).frames
others_sent initial id window own [] differ = record { within = tt; is_after = refl }
others_sent initial id window own (s ∷ streams) (differs, differ) =
    let n = share initial window s in
    let octets = take n s.pending in
    passing-append id own own own (data_frames s.id octets) (sent initial (window -ℤ pos n) streams).frames (other_data id s.id (length octets) octets own differs) (others_sent initial id (window -ℤ pos n) own streams differ)

twice : (w : ℤ) (a b : ℕ) → ((w -ℤ pos a) -ℤ pos b) ≡ (w -ℤ pos (a + b))
twice w a b = omega (arith, ints)

none_spent : (w : ℤ) → (w -ℤ pos 0) ≡ w
none_spent w = omega (arith, ints)

fits_rest : (window : ℤ) (a b whole : ℕ) → a + b ≡ whole → whole ≤ room window → b ≤ room (window -ℤ pos a)
fits_rest window a b whole parts fits = let first : a ≤ room window = omega (arith, parts, fits) in omega (arith, parts, fits, room_spent window a first)

fits_first : (window : ℤ) (a b whole : ℕ) → a + b ≡ whole → whole ≤ room window → a ≤ room window
fits_first window a b whole parts fits = omega (arith, parts, fits)

own_data : (id k : ℕ) (octets : List ℕ) (window : ℤ) → length octets ≤ k → length octets ≤ room window → Passing (is_data_on id) window (window -ℤ pos (length octets)) (map (data_frame id) (payloads_in k octets))
own_data id zero octets window enough fits = let none : length octets ≡ 0 = omega (arith, enough) in record { within = tt; is_after = sym (ap (λ n. window -ℤ pos n) none ∙ none_spent window) }
own_data id (suc k) [] window enough fits = record { within = tt; is_after = sym (none_spent window) }
own_data id (suc k) (o ∷ octets) window enough fits =
    let first = take largest_payload (o ∷ octets) in
    let rest = drop largest_payload (o ∷ octets) in
    let parts : length first + length rest ≡ length (o ∷ octets) = omega (arith, length-drop largest_payload (o ∷ octets), length-take largest_payload (o ∷ octets)) in
    let some : 0 + 1 ≤ length first = omega (arith, length-take largest_payload (o ∷ octets)) in
    let left : length rest ≤ room (window -ℤ pos (length first)) = fits_rest window (length first) (length rest) (length (o ∷ octets)) parts fits in
    let others = own_data id k rest (window -ℤ pos (length first)) (omega (arith, enough, parts, some)) left in
    let all = passing-append id window (window -ℤ pos (length first)) _ (data_frame id first ∷ []) (map (data_frame id) (payloads_in k rest)) (own_frame id first window (fits_first window (length first) (length rest) (length (o ∷ octets)) parts fits)) others in
    record { within = all.within; is_after = all.is_after ∙ twice window (length first) (length rest) ∙ ap (λ n. window -ℤ pos n) parts }

moved : (initial : ℕ) (credit : ℤ) (n : ℕ) → ((pos initial +ℤ credit) -ℤ pos n) ≡ (pos initial +ℤ (credit -ℤ pos n))
moved initial credit n = omega (arith, ints)

-- where no other stream has its number, a stream's DATA is within its window, and is counted against it
pub own_sent : (initial : ℕ) (window : ℤ) (s : Stream) (streams : List Stream) → AllByRecursion (λ t. nat_eq t.id s.id ≡ false) streams → Passing (is_data_on s.id) (window_of initial s) (window_of initial (after_sending (share initial window s) s)) (sent initial window (s ∷ streams)).frames
own_sent initial window s streams differ =
    let n = share initial window s in
    let octets = take n s.pending in
    let size : length octets ≡ n = omega (arith, length-take n s.pending) in
    let own = own_data s.id (length octets) octets (window_of initial s) (omega arith) (omega (arith, size)) in
    let mid : (window_of initial s -ℤ pos (length octets)) ≡ window_of initial (after_sending n s) = ap (λ k. window_of initial s -ℤ pos k) size ∙ moved initial s.credit n in
    passing-append s.id (window_of initial s) (window_of initial (after_sending n s)) (window_of initial (after_sending n s)) (data_frames s.id octets) (sent initial (window -ℤ pos n) streams).frames (record { within = own.within; is_after = own.is_after ∙ mid }) (others_sent initial s.id (window -ℤ pos n) (window_of initial (after_sending n s)) streams differ)

-- a stream anywhere in the list: those before it pass its window by
pub stream_kept : (initial : ℕ) (window : ℤ) (before : List Stream) (s : Stream) (after : List Stream) → AllByRecursion (λ t. nat_eq t.id s.id ≡ false) before → AllByRecursion (λ t. nat_eq t.id s.id ≡ false) after → (n : ℕ) × Passing (is_data_on s.id) (window_of initial s) (window_of initial (after_sending n s)) (sent initial window (before ++ s ∷ after)).frames
stream_kept initial window [] s after tt differ = (share initial window s, own_sent initial window s after differ)
stream_kept initial window (t ∷ before) s after (differs, others) differ =
    let n = share initial window t in
    let octets = take n t.pending in
    let (m, rest) = stream_kept initial (window -ℤ pos n) before s after others differ in
    (m, passing-append s.id (window_of initial s) (window_of initial s) (window_of initial (after_sending m s)) (data_frames t.id octets) (sent initial (window -ℤ pos n) (before ++ s ∷ after)).frames (other_data s.id t.id (length octets) octets (window_of initial s) differs) rest)
