-- How many calls a reading has made.
use Rattle.std.proofs.Common.{◌≡◌, ℕ, ◌+◌, ◌-◌, ◌*◌, ◌<◌, ◌≤◌, List, length, drop, min, Option, Result, Ok, Err, IsErrAnd, Some, None, option_map, IfSome, refl, sym, ap, subst, ◌∙◌, arith}
use Rattle.std.proofs.lemmas.List.{length-drop}
use Rattle.std.proofs.lemmas.Grind.{div_ceil_times}
use Rattle.disk_model.specs.Arming.{Arming, arming_after_calls}
use Rattle.disk_model.specs.Calls.{Fuse, CallsPassed, FailsWithin, PassesWithin, WhereArmed}
use Rattle.disk_model.specs.Content.{Content, Tells}
use Rattle.environment.specs.declared.reading.ReadFault.{ReadFault}
use Rattle.environment.specs.declared.reading.ReadFault.TheVariants.{Failed, NoMemory}
use Rattle.disk_model.specs.Reading.{ReadingEnds, reads_of}
use Rattle.disk_model.specs.inner.Progress.{HasRead}
use Rattle.disk_model.proofs.Calls.{passed_none, passed_then, fails_within_then, fails_within_more, passes_within_then, passes_within}

pub where_by : (arming : Option Arming) (told : Option Content) (fact : Content → Type 0) → ((a : Arming) (c : Content) → arming ≡ Some a → told ≡ Some c → fact c) → IfSome arming (λ _. Tells told fact)
where_by None told fact shown = tt
where_by (Some a) None fact shown = tt
where_by (Some a) (Some c) fact shown = shown a c refl refl

pub where_at : (arming : Option Arming) (told : Option Content) (fact : Content → Type 0) (a : Arming) (c : Content) → arming ≡ Some a → told ≡ Some c → IfSome arming (λ _. Tells told fact) → fact c
where_at None told fact a c is tells has = absurd (cc)
where_at (Some b) None fact a c is tells has = absurd (cc)
where_at (Some b) (Some d) fact a c is tells has = let same : d ≡ c = cc in subst fact same has

still_armed : (calls : ℕ) (old now : Fuse) (a : Arming) → CallsPassed calls old now → old.arming ≡ Some a → now.arming ≡ Some (arming_after_calls calls a)
still_armed calls old now a passed is = passed.arming ∙ ap (λ o. option_map (arming_after_calls calls) o) is

times_more : (calls : ℕ) → (calls + 1) * 65536 ≡ calls * 65536 + 65536
times_more calls = omega arith

-- the last piece was begun, and the reading has come to its end
reads_done : (size calls : ℕ) → size ≤ calls * 65536 → calls * 65536 < size + 65536 → calls ≡ reads_of size
reads_done size calls enough begun =
    let bounds = div_ceil_times size 65536 (omega arith) in
    omega (arith, bounds.0, bounds.1, enough, begun)

reads_left : (size calls : ℕ) → calls * 65536 < size → calls + 1 ≤ reads_of size
reads_left size calls less =
    let bounds = div_ceil_times size 65536 (omega arith) in
    omega (arith, bounds.0, less)

pub reads_start : (size : ℕ) (fuse : Fuse) → HasRead size 0 fuse fuse
reads_start size fuse = record { calls = 0; passed = passed_none fuse; got_is = omega arith; begun = omega arith }

module _ (start now next : Fuse) (told at : Option Content) (place size got : ℕ) (same : at ≡ told) (less : got < size) (counted : WhereArmed start told (λ c. place + size ≤ length c.seen → HasRead size got start now)) where
  Fits : Content → Type 0
  Fits c = place + size ≤ length c.seen

  -- one read more
  pub reads_on : (count room left from : ℕ) → room ≡ 65536 → left ≡ size - got → from ≡ place + got → CallsPassed 1 now next → WhereArmed now at (λ c. count ≡ min (min room left) (length (drop from c.seen))) → WhereArmed start told (λ c. place + size ≤ length c.seen → HasRead size (got + count) start next)
  reads_on count room left from room_is left_is from_is passed fills = where_by start.arming told _ (λ a c armed tells fits.
      let has = where_at start.arming told (λ c. place + size ≤ length c.seen → HasRead size got start now) a c armed tells counted fits in
      let filled = where_at now.arming at (λ c. count ≡ min (min room left) (length (drop from c.seen))) _ c (still_armed has.calls start now a has.passed armed) (same ∙ tells) fills in
      let got_is : got ≡ min (has.calls * 65536) size = has.got_is in
      let begun : has.calls * 65536 < size + 65536 = has.begun in
      record {
        calls = has.calls + 1;
        passed = passed_then has.calls 1 start now next has.passed passed;
        got_is = omega (arith, less, got_is, filled, room_is, left_is, from_is, fits, length-drop from c.seen, times_more has.calls);
        begun = omega (arith, less, got_is, times_more has.calls);
      })

  -- a read gives something while something is left
  pub reads_end : (count room left from : ℕ) → room ≡ 65536 → left ≡ size - got → from ≡ place + got → count ≡ 0 → WhereArmed now at (λ c. count ≡ min (min room left) (length (drop from c.seen))) → WhereArmed start told (λ c. place + size ≤ length c.seen → CallsPassed (reads_of size) start next)
  reads_end count room left from room_is left_is from_is none fills = where_by start.arming told _ (λ a c armed tells fits.
      let has = where_at start.arming told (λ c. place + size ≤ length c.seen → HasRead size got start now) a c armed tells counted fits in
      let filled = where_at now.arming at (λ c. count ≡ min (min room left) (length (drop from c.seen))) _ c (still_armed has.calls start now a has.passed armed) (same ∙ tells) fills in
      absurd (omega (arith, less, none, filled, room_is, left_is, from_is, fits, length-drop from c.seen)))

  -- one read more failed
  pub reads_fail : FailsWithin 1 now next → WhereArmed start told (λ c. place + size ≤ length c.seen → FailsWithin (reads_of size) start next)
  reads_fail fails = where_by start.arming told _ (λ a c armed tells fits.
      let has = where_at start.arming told (λ c. place + size ≤ length c.seen → HasRead size got start now) a c armed tells counted fits in
      let got_is : got ≡ min (has.calls * 65536) size = has.got_is in
      fails_within_more (has.calls + 1) (reads_of size) start next (reads_left size has.calls (omega (arith, less, got_is))) (fails_within_then has.calls 1 start now next has.passed fails))

  -- or memory was wanting
  pub reads_starve : PassesWithin 1 now next → WhereArmed start told (λ c. place + size ≤ length c.seen → PassesWithin (reads_of size) start next)
  reads_starve passes = where_by start.arming told _ (λ a c armed tells fits.
      let has = where_at start.arming told (λ c. place + size ≤ length c.seen → HasRead size got start now) a c armed tells counted fits in
      let got_is : got ≡ min (has.calls * 65536) size = has.got_is in
      let more = passes_within_then has.calls 1 start now next has.passed passes in
      passes_within more.made (reads_of size) start next (omega (arith, more.within, reads_left size has.calls (omega (arith, less, got_is)))) more.passed)

pub reading_then : {T : Type 0} (n m : ℕ) (old mid new : Fuse) (result : Result T ReadFault) → CallsPassed n old mid → ReadingEnds m mid new result → ReadingEnds (n + m) old new result
reading_then n m old mid new (Ok value) passed ends = passed_then n m old mid new passed ends
reading_then n m old mid new (Err Failed) passed ends = fails_within_then n m old mid new passed ends
reading_then n m old mid new (Err NoMemory) passed ends = passes_within_then n m old mid new passed ends

-- a part that begins at the start and is as long as the disk, behind a call for the length
pub reading_whole : {T : Type 0} (start now next : Fuse) (told at : Option Content) (size : ℕ) (result : Result T ReadFault) → at ≡ told → Tells told (λ c. size ≡ length c.seen) → CallsPassed 1 start now → WhereArmed now at (λ c. 0 + size ≤ length c.seen → ReadingEnds (reads_of size) now next result) → WhereArmed start told (λ c. ReadingEnds (1 + reads_of (length c.seen)) start next result)
reading_whole start now next told at size result same sized passed ends = where_by start.arming told _ (λ a c armed tells.
    let size_is : size ≡ length c.seen = subst (λ o. Tells o (λ d. size ≡ length d.seen)) tells sized in
    let part = where_at now.arming at (λ c. 0 + size ≤ length c.seen → ReadingEnds (reads_of size) now next result) _ c (still_armed 1 start now a passed armed) (same ∙ tells) ends (omega (arith, size_is)) in
    subst (λ n. ReadingEnds (1 + reads_of n) start next result) size_is (reading_then 1 (reads_of size) start now next result passed part))

pub reads_whole : (start now : Fuse) (told : Option Content) (place size got : ℕ) → size ≤ got → WhereArmed start told (λ c. place + size ≤ length c.seen → HasRead size got start now) → WhereArmed start told (λ c. place + size ≤ length c.seen → CallsPassed (reads_of size) start now)
reads_whole start now told place size got enough counted = where_by start.arming told _ (λ a c armed tells fits.
    let has = where_at start.arming told (λ c. place + size ≤ length c.seen → HasRead size got start now) a c armed tells counted fits in
    let got_is : got ≡ min (has.calls * 65536) size = has.got_is in
    let begun : has.calls * 65536 < size + 65536 = has.begun in
    subst (λ n. CallsPassed n start now) (reads_done size has.calls (omega (arith, enough, got_is)) begun) has.passed)

-- one read more failed, or memory was wanting
pub reads_stop : (S T : Type 0) (start now next : Fuse) (told at : Option Content) (place size got : ℕ) (fault : ReadFault) → at ≡ told → got < size → WhereArmed start told (λ c. place + size ≤ length c.seen → HasRead size got start now) → ReadingEnds {T = S} 1 now next (Err fault) → WhereArmed start told (λ c. place + size ≤ length c.seen → ReadingEnds {T = T} (reads_of size) start next (Err fault))
reads_stop S T start now next told at place size got Failed same less counted ends = reads_fail start now next told at place size got same less counted ends
reads_stop S T start now next told at place size got NoMemory same less counted ends = reads_starve start now next told at place size got same less counted ends

pub reads_stop_as : (S T : Type 0) (start now next : Fuse) (told at : Option Content) (place size got : ℕ) (fault : ReadFault) (result : Result T ReadFault) → at ≡ told → got < size → WhereArmed start told (λ c. place + size ≤ length c.seen → HasRead size got start now) → ReadingEnds {T = S} 1 now next (Err fault) → IsErrAnd result (λ e. e ≡ fault) → WhereArmed start told (λ c. place + size ≤ length c.seen → ReadingEnds (reads_of size) start next result)
reads_stop_as S T start now next told at place size got fault (Ok value) same less counted ends is = absurd is
reads_stop_as S T start now next told at place size got fault (Err e) same less counted ends is =
    subst (λ f. WhereArmed start told (λ c. place + size ≤ length c.seen → ReadingEnds {T = T} (reads_of size) start next (Err f))) (sym is) (reads_stop S T start now next told at place size got fault same less counted ends)

-- no read was made
pub reads_none : (fuse : Fuse) (told : Option Content) (place size : ℕ) → WhereArmed fuse told (λ c. place + size ≤ length c.seen → PassesWithin (reads_of size) fuse fuse)
reads_none fuse told place size = where_by fuse.arming told _ (λ a c armed tells fits. passes_within 0 (reads_of size) fuse fuse (omega arith) (passed_none fuse))

pub read_as : (start now : Fuse) (told : Option Content) (place size got sum : ℕ) → got ≡ sum → WhereArmed start told (λ c. place + size ≤ length c.seen → HasRead size sum start now) → WhereArmed start told (λ c. place + size ≤ length c.seen → HasRead size got start now)
read_as start now told place size got sum is counted = subst (λ n. WhereArmed start told (λ c. place + size ≤ length c.seen → HasRead size n start now)) (sym is) counted
