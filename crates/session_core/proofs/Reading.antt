-- What is read goes on: a piece is taken in, and the source comes to its end.
use Rattle.std.proofs.Common.{◌≡◌, ◌⊎◌, inl, inr, ℕ, ◌+◌, ◌<◌, ◌≤◌, List, [], ◌∷◌, ◌++◌, length, take, drop, length-append, length-take, refl, sym, ap, ◌∙◌, subst, append-nil, arith, Option, Some, None, Ok, Err}
use Rattle.std.proofs.lemmas.Bool.{cases_lt}
use Rattle.std.proofs.lemmas.List.{drop_all}
use Rattle.environment.specs.Input.{Input as Source, Read, ReadsFront, input_with_fault}
use Rattle.environment.proofs.Pieces.{Read-trans}
use Rattle.h2_frame.specs.Frames.{Frame}
use Rattle.h2_frame.specs.ErrorCodes.{protocol_error}
use Rattle.h2_events.specs.declared.event.RecvEvent.{RecvEvent}
use Rattle.h2_events.specs.declared.event.RecvFault.TheVariants as fault
use Rattle.h2_streams.specs.Calls.{Moment, read, ended, AreRead, frames_of, events_of, new_peer}
use Rattle.h2_recv.specs.declared.reader.Reader.{Reader}
use Rattle.h2_recv.specs.Receiving.{State, preface, share, GoesOn, Opens, Reads, Faults, Astray, ReadsWithEnds, FaultsWithEnds, EndsFrame, Fed, new_reader}
use Rattle.h2_recv.proofs.RunLemmas.{part_of_nothing}
use Rattle.h2_recv.proofs.PieceLemmas.{read_with_ends, fault_with_ends, ends_read_on, ends_fault_on}
use Rattle.h2_recv.proofs.JoinLemmas.{astray_on}
use Rattle.h2_send.specs.Inputs.{Input}
use Rattle.session_core.specs.declared.how.How.{How}
use Rattle.session_core.specs.declared.how.How.TheVariants as hows
use Rattle.session_core.specs.declared.incoming.Next.{Next}
use Rattle.session_core.specs.declared.incoming.Next.TheVariants as nexts
use Rattle.session_core.specs.Reading.{most_octets, Departs, IsReadPartly, IsMadeOf}
use Rattle.session_core.specs.inner.Steps.{Makes, IsNextOf, EndsSo, HasRead, Comes}

-- ---- one piece

-- at most one frame is made of it
at_most_one : (moments : List Moment) → AreRead moments → length (frames_of moments) ≤ 1 → (moments ≡ []) ⊎ ((frame : Frame) × (event : Option RecvEvent) × (moments ≡ read frame event ∷ []))
at_most_one [] are few = inl refl
at_most_one (read frame event ∷ []) are few = inr (frame, event, refl)
at_most_one (read frame event ∷ read other more ∷ moments) are few = absurd (omega arith)
at_most_one (read frame event ∷ ended stream ∷ moments) are few = absurd are
at_most_one (ended stream ∷ moments) are few = absurd are

pub few_events : (moments : List Moment) → AreRead moments → length (frames_of moments) ≤ 1 → length (events_of moments) ≤ 1
few_events [] are few = omega arith
few_events (read frame (Some event) ∷ []) are few = omega arith
few_events (read frame None ∷ []) are few = omega arith
few_events (read frame event ∷ read other more ∷ moments) are few = absurd (omega arith)
few_events (read frame event ∷ ended stream ∷ moments) are few = absurd are
few_events (ended stream ∷ moments) are few = absurd are

made_one : (old now : Reader) (piece : List ℕ) (frame : Frame) (event : Option RecvEvent) (next : Next) (recv : State) → Reads old piece (read frame event ∷ []) now → recv ≡ Ok now
    → IsNextOf (events_of (read frame event ∷ [])) next → Makes old piece next recv
made_one old now piece frame (Some event) (nexts.Event other) recv reads is next =
    let e : event ≡ other = cc in
    (frame, now, subst (λ (x : RecvEvent). Reads old piece (read frame (Some x) ∷ []) now) e reads, is)
made_one old now piece frame (Some event) nexts.Nothing recv reads is next = absurd cc
made_one old now piece frame (Some event) (nexts.Ends how) recv reads is next = absurd next
made_one old now piece frame None (nexts.Event other) recv reads is next = absurd cc
made_one old now piece frame None nexts.Nothing recv reads is next = (read frame None ∷ [], now, reads, refl, is)
made_one old now piece frame None (nexts.Ends how) recv reads is next = absurd next

made_none : (old now : Reader) (piece : List ℕ) (next : Next) (recv : State) → Reads old piece [] now → recv ≡ Ok now → IsNextOf [] next → Makes old piece next recv
made_none old now piece (nexts.Event event) recv reads is next = absurd cc
made_none old now piece nexts.Nothing recv reads is next = ([], now, reads, refl, is)
made_none old now piece (nexts.Ends how) recv reads is next = absurd next

made_of : (old now : Reader) (piece : List ℕ) (moments : List Moment) (next : Next) (recv : State) → Reads old piece moments now → recv ≡ Ok now
    → (moments ≡ []) ⊎ ((frame : Frame) × (event : Option RecvEvent) × (moments ≡ read frame event ∷ [])) → IsNextOf (events_of moments) next → Makes old piece next recv
made_of old now piece moments next recv reads is (inl none) of =
    made_none old now piece next recv (subst (λ (ms : List Moment). Reads old piece ms now) none reads) is (subst (λ (ms : List Moment). IsNextOf (events_of ms) next) none of)
made_of old now piece moments next recv reads is (inr (frame, event, one)) of =
    made_one old now piece frame event next recv (subst (λ (ms : List Moment). Reads old piece ms now) one reads) is (subst (λ (ms : List Moment). IsNextOf (events_of ms) next) one of)

pub taken_in : (state : State) (old : Reader) (piece : List ℕ) (before events : List RecvEvent) (next : Next) (recv : State) → state ≡ Ok old → before ≡ [] → Fed state piece before (Ok tt) recv events
    → ((moments : List Moment) (now : Reader) → Reads old piece moments now → length (frames_of moments) ≤ 1)
    → (length events ≤ 1 → IsNextOf events next) → Makes old piece next recv
taken_in state old piece before events next recv at none fed few gives =
    let (moments, now, reads, is, all) = subst (λ (s : State). Fed s piece before (Ok tt) recv events) at fed in
    let events_are : events ≡ events_of moments = all ∙ ap (λ (es : List RecvEvent). es ++ events_of moments) none in
    let are = reads.reaches.read in
    let one = few moments now reads in
    let of = gives (subst (λ (es : List RecvEvent). length es ≤ 1) (sym events_are) (few_events moments are one)) in
    made_of old now piece moments next recv reads is (at_most_one moments are one) (subst (λ (es : List RecvEvent). IsNextOf es next) events_are of)

pub faulted : (state : State) (old : Reader) (piece : List ℕ) (before events : List RecvEvent) (code : ℕ) (recv : State) → state ≡ Ok old → Fed state piece before (Err (fault.Protocol code)) recv events
    → ((moments : List Moment) → Faults old piece moments code → moments ≡ []) → Faults old piece [] code ⊎ Astray old piece [] code
faulted state old piece before events code recv at fed none =
    let (moments, either, is, events_are) = subst (λ (s : State). Fed s piece before (Err (fault.Protocol code)) recv events) at fed in
    by_fault moments either where
      by_fault : (moments : List Moment) → Faults old piece moments code ⊎ Astray old piece moments code → Faults old piece [] code ⊎ Astray old piece [] code
      by_fault moments (inl faults) = inl (subst (λ (ms : List Moment). Faults old piece ms code) (none moments faults) faults)
      by_fault moments (inr astray) = inr (subst (λ (ms : List Moment). Astray old piece ms code) astray.none astray)

-- ---- another preface

-- a receiver that has come as far within the preface, and no further
abbrev within : ℕ → Reader
within begun = record { begun = begun; rest = []; peer = new_peer }

reads_within : (octets : List ℕ) (begun : ℕ) (behind : List ℕ) → length octets < length preface → Opens 0 octets begun behind → Reads new_reader octets [] (within begun)
reads_within octets begun behind lt opens = record {
  reaches = record {
    behind = [];
    opened = record { goes_on = opens.goes_on; now_is = opens.now_is; behind_is = sym (drop_all (share 0 octets) octets (omega arith)) };
    leading = refl;
    calls = refl;
    read = tt;
  };
  part = part_of_nothing;
}

departs_in : (octets piece : List ℕ) (begun : ℕ) (behind : List ℕ) → Opens 0 octets begun behind → (GoesOn begun piece → ⊥)
    → (length octets < length preface) ⊎ (length preface ≤ length octets) → GoesOn 0 (octets ++ piece) → ⊥
departs_in octets piece begun behind opens departs (inl lt) =
    let astray : Astray (within begun) piece [] protocol_error = record { departs = departs; none = refl; code_is = refl } in
    let all = astray_on new_reader (within begun) octets piece [] [] protocol_error part_of_nothing (reads_within octets begun behind lt opens) astray in
    all.departs
departs_in octets piece begun behind opens departs (inr le) =
    let now : length preface ≤ begun = omega (arith, opens.now_is) in
    let none : share begun piece ≡ 0 = omega (arith, now) in
    absurd (departs (subst (λ (k : ℕ). take k piece ≡ take k (drop begun preface)) (sym none) refl))

departs_then : (octets piece : List ℕ) (moments : List Moment) (reader : Reader) (code : ℕ) → ReadsWithEnds new_reader octets moments reader → Astray reader piece [] code → Departs (octets ++ piece) code
departs_then octets piece moments reader code reads astray =
    let r = reads.reaches in
    (departs_in octets piece reader.begun r.behind r.opened astray.departs (cases_lt (length octets) (length preface)), astray.code_is)

-- ---- the source goes on

grown : (start old new : Source) (octets buffer : List ℕ) (n : ℕ) → Read octets start old → ReadsFront n buffer old new → Read (octets ++ take n buffer) start new
grown start old new octets buffer n all front = Read-trans start old new octets (take n buffer) all front.read

counted_on : (octets buffer : List ℕ) (n count : ℕ) → count ≡ length octets → n ≤ length buffer → count + n ≡ length (octets ++ take n buffer)
counted_on octets buffer n count is bound = omega (arith, is, bound, length-append octets (take n buffer), length-take n buffer)

no_more : (octets : List ℕ) (moments : List Moment) (reader : Reader) (piece : List ℕ) (more : List Moment) (now : Reader) → ReadsWithEnds new_reader octets moments reader → Reads reader piece more now
    → ReadsWithEnds new_reader (octets ++ piece) (moments ++ more) now
no_more octets moments reader piece more now frames reads = ends_read_on new_reader reader now octets piece moments more frames (read_with_ends reader now piece more reads)

pub partly_read : (octets piece : List ℕ) (moments : List Moment) (reader : Reader) → ReadsWithEnds new_reader octets moments reader → IsReadPartly (octets ++ piece) moments
partly_read octets piece moments reader frames = record { front = octets; behind = piece; joined = refl; frames = (reader, frames) }

pub wholly_read : (octets : List ℕ) (moments : List Moment) (reader : Reader) → ReadsWithEnds new_reader octets moments reader → IsReadPartly octets moments
wholly_read octets moments reader frames = record { front = octets; behind = []; joined = sym (append-nil octets); frames = (reader, frames) }

pub read_on : (start old new : Source) (octets buffer : List ℕ) (moments : List Moment) (n count later : ℕ) (before recv : State) (next : Next)
    → HasRead start octets moments old before count → ReadsFront n buffer old new → later ≡ count + n
    → ((reader : Reader) → before ≡ Ok reader → Makes reader (take n buffer) next recv)
    → Comes start octets moments next new recv later
read_on start old new octets buffer moments n count later before recv (nexts.Event event) has front is makes =
    let (frame, now, reads, recv_is) = makes has.reader has.recv_is in (
      take n buffer,
      frame,
      record {
        all = grown start old new octets buffer n has.all front;
        counted = is ∙ counted_on octets buffer n count has.counted front.bound;
        reader = now;
        recv_is = recv_is;
        frames = no_more octets moments has.reader (take n buffer) (read frame (Some event) ∷ []) now has.frames reads;
      },
    )
read_on start old new octets buffer moments n count later before recv nexts.Nothing has front is makes =
    let (more, now, reads, silent, recv_is) = makes has.reader has.recv_is in (
      take n buffer,
      more,
      silent,
      record {
        all = grown start old new octets buffer n has.all front;
        counted = is ∙ counted_on octets buffer n count has.counted front.bound;
        reader = now;
        recv_is = recv_is;
        frames = no_more octets moments has.reader (take n buffer) more now has.frames reads;
      },
    )
read_on start old new octets buffer moments n count later before recv (nexts.Ends (hows.Protocol code)) has front is makes =
    (take n buffer, grown start old new octets buffer n has.all front, λ inputs. by_fault (makes has.reader has.recv_is)) where
      by_fault : {inputs : List Input} → Faults has.reader (take n buffer) [] code ⊎ Astray has.reader (take n buffer) [] code → IsMadeOf (hows.Protocol code) (octets ++ take n buffer) moments inputs
      by_fault (inl faults) =
          inr (inl (subst (λ (ms : List Moment). FaultsWithEnds new_reader (octets ++ take n buffer) ms code) (append-nil moments)
          (ends_fault_on new_reader has.reader octets (take n buffer) moments [] code has.frames (fault_with_ends has.reader (take n buffer) [] code faults))))
      by_fault (inr astray) = inl (departs_then octets (take n buffer) moments has.reader code has.frames astray)
read_on start old new octets buffer moments n count later before recv (nexts.Ends hows.NoMemory) has front is makes =
    (take n buffer, grown start old new octets buffer n has.all front, λ inputs. partly_read octets (take n buffer) moments has.reader has.frames)
read_on start old new octets buffer moments n count later before recv (nexts.Ends hows.Closed) has front is makes = absurd (makes has.reader has.recv_is)
read_on start old new octets buffer moments n count later before recv (nexts.Ends hows.Cut) has front is makes = absurd (makes has.reader has.recv_is)
read_on start old new octets buffer moments n count later before recv (nexts.Ends hows.ReadFault) has front is makes = absurd (makes has.reader has.recv_is)
read_on start old new octets buffer moments n count later before recv (nexts.Ends hows.WriteFault) has front is makes = absurd (makes has.reader has.recv_is)
read_on start old new octets buffer moments n count later before recv (nexts.Ends hows.Spent) has front is makes = absurd (makes has.reader has.recv_is)

-- ---- and comes to an end

at_end : (octets : List ℕ) (moments : List Moment) (reader : Reader) → ReadsWithEnds new_reader octets moments reader → ReadsWithEnds new_reader (octets ++ []) moments reader
at_end octets moments reader frames = subst (λ (o : List ℕ). ReadsWithEnds new_reader o moments reader) (sym (append-nil octets)) frames

nothing_read : (start new : Source) (octets : List ℕ) → Read octets start new → Read (octets ++ []) start new
nothing_read start new octets all = subst (λ (o : List ℕ). Read o start new) (sym (append-nil octets)) all

fewer : (octets : List ℕ) (room count : ℕ) → count ≡ length octets → count + room ≤ most_octets → 0 < room → length (octets ++ []) < most_octets
fewer octets room count counted within some = subst (λ (n : ℕ). n < most_octets) (counted ∙ ap length (sym (append-nil octets))) (omega (arith, within, some))

pub source_ends : (start old new : Source) (octets buffer : List ℕ) (moments : List Moment) (n count later : ℕ) (recv : State) (how : How)
    → HasRead start octets moments old recv count → count + length buffer ≤ most_octets → ReadsFront n buffer old new → 0 < length buffer → n ≡ 0 → EndsSo how recv
    → Comes start octets moments (nexts.Ends how) new recv later
source_ends start old new octets buffer moments n count later recv hows.Closed has within front room none ends =
    let found = front.at_end room none in
    let all : Read (octets ++ []) start new = subst (λ (k : ℕ). Read (octets ++ take k buffer) start new) none (grown start old new octets buffer n has.all front) in
    ([], record { all = all; ended = found; few = fewer octets (length buffer) count has.counted within room }, λ inputs. (has.reader, at_end octets moments has.reader has.frames, subst (λ (s : State). EndsFrame s) has.recv_is ends))
source_ends start old new octets buffer moments n count later recv hows.Cut has within front room none ends =
    let found = front.at_end room none in
    let all : Read (octets ++ []) start new = subst (λ (k : ℕ). Read (octets ++ take k buffer) start new) none (grown start old new octets buffer n has.all front) in
    ([], record { all = all; ended = found; few = fewer octets (length buffer) count has.counted within room }, λ inputs. (has.reader, at_end octets moments has.reader has.frames, subst (λ (s : State). EndsFrame s → ⊥) has.recv_is ends))
source_ends start old new octets buffer moments n count later recv (hows.Protocol code) has within front room none ends = absurd ends
source_ends start old new octets buffer moments n count later recv hows.ReadFault has within front room none ends = absurd ends
source_ends start old new octets buffer moments n count later recv hows.WriteFault has within front room none ends = absurd ends
source_ends start old new octets buffer moments n count later recv hows.Spent has within front room none ends = absurd ends
source_ends start old new octets buffer moments n count later recv hows.NoMemory has within front room none ends = absurd ends

pub source_fails : (start old new : Source) (octets buffer : List ℕ) (moments : List Moment) (count later : ℕ) (recv : State)
    → HasRead start octets moments old recv count → count + length buffer ≤ most_octets → 0 < length buffer → new ≡ input_with_fault old
    → Comes start octets moments (nexts.Ends hows.ReadFault) new recv later
source_fails start old new octets buffer moments count later recv has within room is =
    ([], record { failed = (old, nothing_read start old octets has.all, is); few = fewer octets (length buffer) count has.counted within room }, λ inputs. (has.reader, at_end octets moments has.reader has.frames))

pub source_spent : (start source : Source) (octets : List ℕ) (moments : List Moment) (count later : ℕ) (recv : State)
    → HasRead start octets moments source recv count → count ≡ most_octets
    → Comes start octets moments (nexts.Ends hows.Spent) source recv later
source_spent start source octets moments count later recv has is =
    let all : length (octets ++ []) ≡ most_octets = ap length (append-nil octets) ∙ sym has.counted ∙ is in
    ([], nothing_read start source octets has.all, λ inputs. (all, (has.reader, at_end octets moments has.reader has.frames)))
