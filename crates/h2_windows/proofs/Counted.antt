-- DATA that is sent stays within the connection's window.
use Rattle.std.proofs.Common.{◌≡◌, ℕ, zero, suc, ◌+◌, ◌≤◌, Bool, List, [], ◌∷◌, ◌++◌, length, take, drop, map, ℤ, pos, ◌-ℤ◌, refl, sym, ap, ◌∙◌, subst, arith, length-drop, length-take}
use Rattle.std.proofs.lemmas.Int.{ints}
use Rattle.h2_frame.specs.Frames.{Frame}
use Rattle.h2_windows.specs.declared.stream.Stream.{Stream}
use Rattle.h2_windows.specs.Windows.{room}
use Rattle.h2_windows.specs.Shares.{share}
use Rattle.h2_windows.specs.Sending.{sent, data_frame, data_frames, payloads_in, largest_payload}
use Rattle.h2_windows.specs.Pacing.{is_data, spent_by, Within, window_after, Passing}
use Rattle.h2_windows.proofs.Paced.{room_spent}

module _ (counts : Frame → Bool) where
  pub Within-append : (window : ℤ) (xs ys : List Frame) → Within counts window xs → Within counts (window_after counts window xs) ys → Within counts window (xs ++ ys)
  Within-append window [] ys first second = second
  Within-append window (x ∷ xs) ys first second = (first.0, Within-append (spent_by counts x window) xs ys first.1 second)

  pub window_after-append : (window : ℤ) (xs ys : List Frame) → window_after counts window (xs ++ ys) ≡ window_after counts (window_after counts window xs) ys
  window_after-append window [] ys = refl
  window_after-append window (x ∷ xs) ys = window_after-append (spent_by counts x window) xs ys

twice : (w : ℤ) (a b : ℕ) → ((w -ℤ pos a) -ℤ pos b) ≡ (w -ℤ pos (a + b))
twice w a b = omega (arith, ints)

none_spent : (w : ℤ) → w ≡ (w -ℤ pos 0)
none_spent w = omega (arith, ints)

-- the payloads together are the octets
pub data_within : (id : ℕ) (k : ℕ) (octets : List ℕ) (window : ℤ) → length octets ≤ k → length octets ≤ room window → Within is_data window (map (data_frame id) (payloads_in k octets)) × (window_after is_data window (map (data_frame id) (payloads_in k octets)) ≡ (window -ℤ pos (length octets)))
data_within id zero octets window enough fits = let none : 0 ≡ length octets = omega (arith, enough) in (tt, none_spent window ∙ ap (λ n. window -ℤ pos n) none)
data_within id (suc k) [] window enough fits = (tt, none_spent window)
data_within id (suc k) (o ∷ octets) window enough fits =
    let first = take largest_payload (o ∷ octets) in
    let rest = drop largest_payload (o ∷ octets) in
    let parts : length first + length rest ≡ length (o ∷ octets) = omega (arith, length-drop largest_payload (o ∷ octets), length-take largest_payload (o ∷ octets)) in
    let some : 0 + 1 ≤ length first = omega (arith, length-take largest_payload (o ∷ octets)) in
    let others = data_within id k rest (window -ℤ pos (length first)) (omega (arith, enough, parts, some)) (omega (arith, fits, parts, room_spent window (length first) (omega (arith, fits, parts)))) in
    ((λ _. omega (arith, fits, parts), others.0), others.1 ∙ twice window (length first) (length rest) ∙ ap (λ n. window -ℤ pos n) parts)

pub sent_within : (initial : ℕ) (window : ℤ) (streams : List Stream) → Within is_data window (sent initial window streams).frames × (window_after is_data window (sent initial window streams).frames ≡ (sent initial window streams).window)
sent_within initial window [] = (tt, refl)
sent_within initial window (s ∷ streams) =
    let n = share initial window s in
    let octets = take n s.pending in
    let size : length octets ≡ n = omega (arith, length-take n s.pending) in
    let own = data_within s.id (length octets) octets window (omega arith) (omega (arith, size)) in
    let others = sent_within initial (window -ℤ pos n) streams in
    let after : window_after is_data window (data_frames s.id octets) ≡ (window -ℤ pos n) = own.1 ∙ ap (λ k. window -ℤ pos k) size in
    let frames = (sent initial (window -ℤ pos n) streams).frames in
    (Within-append is_data window (data_frames s.id octets) frames own.0 (subst (λ w. Within is_data w frames) (sym after) others.0), window_after-append is_data window (data_frames s.id octets) frames ∙ ap (λ w. window_after is_data w frames) after ∙ others.1)

pub connection_kept : (initial : ℕ) (window : ℤ) (streams : List Stream) → Passing is_data window (sent initial window streams).window (sent initial window streams).frames
connection_kept initial window streams = let both = sent_within initial window streams in record { within = both.0; is_after = both.1 }
