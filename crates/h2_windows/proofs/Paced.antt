-- After what the windows let through was sent, octets wait only where a window is 0 or below.
use Rattle.std.proofs.Common.{◌≡◌, ◌⊎◌, inl, inr, ℕ, ◌-◌, ◌≤◌, min, List, [], ◌∷◌, length, drop, ℤ, pos, negsuc, ◌+ℤ◌, ◌-ℤ◌, ap, ◌∙◌, arith, length-drop}
use Rattle.std.proofs.lemmas.Int.{ints}
use Rattle.std.proofs.lemmas.List.{nil_from_length}
use Rattle.std.specs.List.{AllByRecursion}
use Rattle.h2_windows.specs.declared.stream.Stream.{Stream}
use Rattle.h2_windows.specs.Windows.{room}
use Rattle.h2_windows.specs.Shares.{share, window_of}
use Rattle.h2_windows.specs.Sending.{sent, after_sending}
use Rattle.h2_windows.specs.Pacing.{IsPaced}

pub room_spent : (w : ℤ) (n : ℕ) → n ≤ room w → room (w -ℤ pos n) ≡ room w - n
room_spent (pos m) n within = let e : (pos m -ℤ pos n) ≡ pos (m - n) = omega (arith, ints, within) in ap room e
room_spent (negsuc m) n within = let e : (negsuc m -ℤ pos n) ≡ negsuc m = omega (arith, ints, within) in ap room e ∙ omega (arith, within)

-- an empty window stays empty
pub stays_empty : (initial : ℕ) (window : ℤ) (streams : List Stream) → room window ≡ 0 → room (sent initial window streams).window ≡ 0
stays_empty initial window [] empty = empty
stays_empty initial window (s ∷ streams) empty =
    let n = share initial window s in
    stays_empty initial (window -ℤ pos n) streams (room_spent window n (omega arith) ∙ omega (arith, empty))

own_spent : (initial : ℕ) (s : Stream) (n : ℕ) → n ≤ room (window_of initial s) → room (window_of initial (after_sending n s)) ≡ room (window_of initial s) - n
own_spent initial s n within = let e : (pos initial +ℤ (s.credit -ℤ pos n)) ≡ ((pos initial +ℤ s.credit) -ℤ pos n) = omega (arith, ints) in ap room e ∙ room_spent (pos initial +ℤ s.credit) n within

least : (a b c : ℕ) → (min a (min b c) ≡ a) ⊎ ((min a (min b c) ≡ b) ⊎ (min a (min b c) ≡ c))
least a b c = grind arith

first_paced : (initial : ℕ) (window : ℤ) (s : Stream) (streams : List Stream) → IsPaced initial (sent initial (window -ℤ pos (share initial window s)) streams).window (after_sending (share initial window s) s)
first_paced initial window s streams =
    let n = share initial window s in
    elim (least (length s.pending) (room window) (room (window_of initial s))) [
      | inl all ↦ inl (nil_from_length (drop n s.pending) (length-drop n s.pending ∙ omega (arith, all)))
      | inr others ↦ elim others [
        | inl connection ↦ inr (inl (stays_empty initial (window -ℤ pos n) streams (room_spent window n (omega arith) ∙ omega (arith, connection))))
        | inr own ↦ inr (inr (own_spent initial s n (omega arith) ∙ omega (arith, own)))
      ]
    ]

pub sent_paced : (initial : ℕ) (window : ℤ) (streams : List Stream) → AllByRecursion (IsPaced initial (sent initial window streams).window) (sent initial window streams).streams
sent_paced initial window [] = tt
sent_paced initial window (s ∷ streams) = (first_paced initial window s streams, sent_paced initial (window -ℤ pos (share initial window s)) streams)
