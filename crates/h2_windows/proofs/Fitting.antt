-- What is sent has heads that fit.
use Rattle.std.proofs.Common.{◌≡◌, ℕ, zero, suc, ◌^◌, ◌<◌, Bool, true, false, cond, not, List, [], ◌∷◌, ◌++◌, length, take, drop, map, ℤ, pos, ◌-ℤ◌, refl, sym, subst, arith, length-take}
use Rattle.std.specs.Prelude.{if◌then◌else◌}
use Rattle.std.specs.List.{filter, insert, list_any}
use Rattle.h2_frame.specs.Frames.{Frame}
use Rattle.h2_windows.specs.declared.stream.Stream.{Stream}
use Rattle.h2_windows.specs.Shares.{share}
use Rattle.h2_windows.specs.Sending.{sent, data_frame, data_frames, payloads_in, largest_payload}
use Rattle.h2_windows.specs.Streams.{is_stream, new_stream, opened, without, granted, granted_to}
use Rattle.h2_windows.specs.Fitting.{HaveFitHeads, HaveFitNumbers}

pub fit-append : (xs ys : List Frame) → HaveFitHeads xs → HaveFitHeads ys → HaveFitHeads (xs ++ ys)
fit-append [] ys first second = second
fit-append (x ∷ xs) ys first second = (first.0, fit-append xs ys first.1 second)

data_fits : (id k : ℕ) (octets : List ℕ) → id < 2 ^ 31 → HaveFitHeads (map (data_frame id) (payloads_in k octets))
data_fits id zero octets small = tt
data_fits id (suc k) [] small = tt
data_fits id (suc k) (o ∷ octets) small = (record { states_length = refl; length_fits = omega (arith, length-take largest_payload (o ∷ octets)); stream_fits = small }, data_fits id k (drop largest_payload (o ∷ octets)) small)

pub sent_fit : (initial : ℕ) (window : ℤ) (streams : List Stream) → HaveFitNumbers streams → HaveFitHeads (sent initial window streams).frames
sent_fit initial window [] small = tt
sent_fit initial window (s ∷ streams) small =
    let n = share initial window s in
    let octets = take n s.pending in
    fit-append (data_frames s.id octets) (sent initial (window -ℤ pos n) streams).frames (data_fits s.id (length octets) octets small.0) (sent_fit initial (window -ℤ pos n) streams small.1)

-- ---- numbers of streams stay as they are

pub sent_numbers : (initial : ℕ) (window : ℤ) (streams : List Stream) → HaveFitNumbers streams → HaveFitNumbers (sent initial window streams).streams
sent_numbers initial window [] small = tt
sent_numbers initial window (s ∷ streams) small = (small.0, sent_numbers initial (window -ℤ pos (share initial window s)) streams small.1)

put_numbers : (id k : ℕ) (streams : List Stream) → id < 2 ^ 31 → HaveFitNumbers streams → HaveFitNumbers (insert streams k (new_stream id))
put_numbers id zero streams less a = (less, a)
put_numbers id (suc k) [] less a = (less, tt)
put_numbers id (suc k) (s ∷ streams) less a = (a.0, put_numbers id k streams less a.1)

opened_at : (id k : ℕ) (there : Bool) (streams : List Stream) → id < 2 ^ 31 → HaveFitNumbers streams → HaveFitNumbers (if there then streams else insert streams k (new_stream id))
opened_at id k true streams less a = a
opened_at id k false streams less a = put_numbers id k streams less a

pub opened_numbers : (id : ℕ) (streams : List Stream) → id < 2 ^ 31 → HaveFitNumbers streams → HaveFitNumbers (opened id streams)
opened_numbers id streams less a = opened_at id _ (list_any (is_stream id) streams) streams less a

kept_numbers : (keep : Bool) (s : Stream) (streams : List Stream) → s.id < 2 ^ 31 → HaveFitNumbers streams → HaveFitNumbers (cond keep (s ∷ streams) streams)
kept_numbers true s streams less a = (less, a)
kept_numbers false s streams less a = a

filtered_numbers : (keep : Stream → Bool) (streams : List Stream) → HaveFitNumbers streams → HaveFitNumbers (filter keep streams)
filtered_numbers keep [] a = tt
filtered_numbers keep (s ∷ streams) a = kept_numbers (keep s) s (filter keep streams) a.0 (filtered_numbers keep streams a.1)

pub without_numbers : (id : ℕ) (streams : List Stream) → HaveFitNumbers streams → HaveFitNumbers (without id streams)
without_numbers id streams a = filtered_numbers (λ s. not (is_stream id s)) streams a

same_number : (is : Bool) (s t : Stream) → t.id ≡ s.id → (if is then t else s).id ≡ s.id
same_number true s t e = e
same_number false s t e = refl

pub granted_numbers : (id n : ℕ) (streams : List Stream) → HaveFitNumbers streams → HaveFitNumbers (granted id n streams)
granted_numbers id n [] a = tt
granted_numbers id n (s ∷ streams) a =
    let e : (granted_to id n s).id ≡ s.id = same_number (is_stream id s) s _ refl in
    (subst (λ k. k < 2 ^ 31) (sym e) a.0, granted_numbers id n streams a.1)
