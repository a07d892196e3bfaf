-- One stream after the other sends its share.
use Rattle.std.proofs.Common.{◌≡◌, ℕ, zero, suc, ◌+◌, ◌<◌, List, [], ◌∷◌, ◌++◌, length, take, drop, set, get_or, ℤ, pos, ◌-ℤ◌, sym, ap, ◌∙◌, arith, add-one, append_assoc}
use Rattle.std.proofs.Math.Seq.{drop-cons}
use Rattle.std.proofs.lemmas.List.{take_more_set, drop-set-lt}
use Rattle.std.proofs.lemmas.List.Concat.{flat_map-append}
use Rattle.h2_windows.specs.declared.stream.Stream.{Stream}
use Rattle.h2_windows.specs.Written.{spelled, octets_of}
use Rattle.h2_windows.specs.Shares.{share}
use Rattle.h2_windows.specs.Sending.{Sent, sent, before_others, after_sending, data_frames}

module _ {X : Type 0} (xs ys : List X) (i : ℕ) (d : X) (within : i < length xs) (as_long : length xs ≡ length ys) (left : drop i xs ≡ drop i ys) where
  there : i < length ys
  there = omega (arith, within, as_long)

  pub same_item : get_or xs i d ≡ get_or ys i d
  same_item = sym (ap (λ l. get_or l 0 d) (drop-cons xs i d within)) ∙ ap (λ l. get_or l 0 d) left ∙ ap (λ l. get_or l 0 d) (drop-cons ys i d there)

  tails : drop (suc i) xs ≡ drop (suc i) ys
  tails = sym (ap (λ l. drop (suc zero) l) (drop-cons xs i d within)) ∙ ap (λ l. drop (suc zero) l) left ∙ ap (λ l. drop (suc zero) l) (drop-cons ys i d there)

  pub same_tail : drop (i + 1) xs ≡ drop (i + 1) ys
  same_tail = rw add-one tails

  pub next_item : drop i ys ≡ get_or xs i d ∷ drop (i + 1) ys
  next_item = rw add-one (drop-cons ys i d there ∙ ap (λ x. x ∷ drop (suc i) ys) (sym same_item))

-- the next stream sends, and then the others
pub next_sends : (initial : ℕ) (window : ℤ) (s : Stream) (streams others : List Stream) (n : ℕ) → streams ≡ s ∷ others → n ≡ share initial window s → sent initial window streams ≡ before_others n s (sent initial (window -ℤ pos n) others)
next_sends initial window s streams others n is count = ap (λ l. sent initial window l) is ∙ sym (ap (λ k. before_others k s (sent initial (window -ℤ pos k) others)) count)

pub frames_first : (n : ℕ) (s : Stream) (others : Sent) → octets_of (before_others n s others).frames ≡ octets_of (data_frames s.id (take n s.pending)) ++ octets_of others.frames
frames_first n s others = flat_map-append spelled (data_frames s.id (take n s.pending)) others.frames

pub with_parts : (n : ℕ) (s : Stream) (credit : ℤ) (pending : List ℕ) → credit ≡ s.credit -ℤ pos n → pending ≡ drop n s.pending → record { id = s.id; begun = s.begun; credit = credit; taken = s.taken; pending = pending } ≡ after_sending n s
with_parts n s credit pending spent advanced =
    let P : ℤ → List ℕ → Stream = λ c p. record { id = s.id; begun = s.begun; credit = c; taken = s.taken; pending = p } in
    ap (λ c. P c pending) spent ∙ ap (λ p. P (s.credit -ℤ pos n) p) advanced

module _ (initial : ℕ) (now before : List Stream) (i : ℕ) (d : Stream) (within : i < length now) (as_long : length now ≡ length before) (left : drop i now ≡ drop i before) (window after : ℤ) (n : ℕ) (count : n ≡ share initial window (get_or now i d)) (spent : after ≡ window -ℤ pos n) where
  pub step : sent initial window (drop i before) ≡ before_others n (get_or now i d) (sent initial after (drop (i + 1) before))
  step = next_sends initial window (get_or now i d) (drop i before) (drop (i + 1) before) n (next_item now before i d within as_long left) count ∙ sym (ap (λ w. before_others n (get_or now i d) (sent initial w (drop (i + 1) before))) spent)

  pub frames_step : (all done pending : List ℕ) → pending ≡ (get_or now i d).pending → all ≡ done ++ octets_of (sent initial window (drop i before)).frames → all ≡ done ++ (octets_of (data_frames (get_or now i d).id (take n pending)) ++ octets_of (sent initial after (drop (i + 1) before)).frames)
  frames_step all done pending is parts =
      parts ∙ ap (λ (r : Sent). done ++ octets_of r.frames) step ∙ ap (λ os. done ++ os) (frames_first n (get_or now i d) (sent initial after (drop (i + 1) before))) ∙ sym (ap (λ p. done ++ (octets_of (data_frames (get_or now i d).id (take n p)) ++ octets_of (sent initial after (drop (i + 1) before)).frames)) is)

  pub streams_step : (all : List Stream) (new : Stream) → new ≡ after_sending n (get_or now i d) → all ≡ take i now ++ (sent initial window (drop i before)).streams → all ≡ take (i + 1) (set now i new) ++ (sent initial after (drop (i + 1) before)).streams
  streams_step all new is parts =
      let others = (sent initial after (drop (i + 1) before)).streams in
      parts ∙ ap (λ (r : Sent). take i now ++ r.streams) step ∙ sym (ap (λ x. take i now ++ x ∷ others) is) ∙ sym (append_assoc (take i now) (new ∷ []) others) ∙ sym (ap (λ l. l ++ others) (take_more_set now i new within))

  pub left_step : (new : Stream) → drop (i + 1) (set now i new) ≡ drop (i + 1) before
  left_step new = drop-set-lt (i + 1) now i new (omega arith) ∙ same_tail now before i d within as_long left
