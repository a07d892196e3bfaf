-- On which streams something can be said.
use Rattle.std.proofs.Common.{◌≡◌, ℕ, Bool, true, false, cond, not, List, [], ◌∷◌, ℤ, pos, ◌-ℤ◌, refl, ap, ◌∙◌}
use Rattle.std.specs.Prelude.{◌&&◌, ◌||◌, if◌then◌else◌}
use Rattle.std.specs.List.{list_any}
use Rattle.h2_windows.specs.Shares.{share}
use Rattle.h2_windows.specs.Sending.{sent}
use Rattle.h2_windows.specs.Streams.{is_stream, without}
use Rattle.h2_windows.specs.declared.stream.Stream.{Stream}
use Rattle.h2_events.specs.declared.port.Ready.TheVariants.{Free, Busy, Gone}
use Rattle.h2_events.specs.declared.said.Said.{Said}
use Rattle.h2_events.specs.declared.said.Said.TheVariants.{Message, Finish, Status}
use Rattle.grpc_core.specs.Messages.{framed}
use Rattle.h2_send.specs.Inputs.{Speech}
use Rattle.h2_send.specs.Lines.{Line}
use Rattle.h2_send.specs.Offers.{ready_on, waits, loaded, with_octets}
use Rattle.h2_send.specs.Acting.{spoken, handled}

abbrev pub there : ℕ → List Stream → Bool
there id streams = list_any (is_stream id) streams

waits_if : (a b c d : Bool) → (a || c) ≡ false → (c ≡ false → d ≡ false) → ((a && b) || d) ≡ false
waits_if true b c d is rest = absurd cc
waits_if false b c d is rest = rest is

or_second : (a b : Bool) → (a || b) ≡ false → b ≡ false
or_second true b is = absurd cc
or_second false b is = is

or_first : (a b : Bool) → (a || b) ≡ false → a ≡ false
or_first true b is = is
or_first false b is = refl

or_none : (a b : Bool) → a ≡ false → b ≡ false → (a || b) ≡ false
or_none true b first second = absurd cc
or_none false b first second = second

none_waits : (id : ℕ) (streams : List Stream) → there id streams ≡ false → list_any (λ s. is_stream id s && waits s) streams ≡ false
none_waits id [] is = refl
none_waits id (s ∷ streams) is = waits_if (is_stream id s) (waits s) (there id streams) (list_any (λ s. is_stream id s && waits s) streams) is (none_waits id streams)

gone_if : (w t : Bool) → w ≡ false → t ≡ false → (if w then Busy else if t then Free else Gone) ≡ Gone
gone_if true t one other = absurd cc
gone_if false true one other = absurd cc
gone_if false false one other = refl

not_if : (w t : Bool) → (if w then Busy else if t then Free else Gone) ≡ Gone → t ≡ false
not_if true t is = absurd cc
not_if false true is = absurd cc
not_if false false is = refl

-- Nothing can be said on a stream exactly where it isn't there.
pub gone_of : (id : ℕ) (streams : List Stream) → there id streams ≡ false → ready_on id streams ≡ Gone
gone_of id streams is = gone_if (list_any (λ s. is_stream id s && waits s) streams) (there id streams) (none_waits id streams is) is

pub not_there : (id : ℕ) (streams : List Stream) → ready_on id streams ≡ Gone → there id streams ≡ false
not_there id streams is = not_if (list_any (λ s. is_stream id s && waits s) streams) (there id streams) is

-- ---- the same streams are there

pub sent_there : (id initial : ℕ) (window : ℤ) (streams : List Stream) → there id (sent initial window streams).streams ≡ there id streams
sent_there id initial window [] = refl
sent_there id initial window (s ∷ streams) = ap (λ b. is_stream id s || b) (sent_there id initial (window -ℤ pos (share initial window s)) streams)

loaded_if : (is : Bool) (on : ℕ) (octets : List ℕ) (s : Stream) (streams others : List Stream) → there on others ≡ there on streams → there on (if is then with_octets octets s ∷ streams else s ∷ others) ≡ (is_stream on s || there on streams)
loaded_if true on octets s streams others same = refl
loaded_if false on octets s streams others same = ap (λ b. is_stream on s || b) same

pub loaded_there : (on id : ℕ) (octets : List ℕ) (streams : List Stream) → there on (loaded id octets streams) ≡ there on streams
loaded_there on id octets [] = refl
loaded_there on id octets (s ∷ streams) = loaded_if (is_stream id s) on octets s streams (loaded id octets streams) (loaded_there on id octets streams)

kept_if : (is : Bool) (on : ℕ) (s : Stream) (streams others : List Stream) → (is_stream on s || there on streams) ≡ false → (there on streams ≡ false → there on others ≡ false) → there on (cond is (s ∷ others) others) ≡ false
kept_if true on s streams others none rest = or_none (is_stream on s) (there on others) (or_first (is_stream on s) (there on streams) none) (rest (or_second (is_stream on s) (there on streams) none))
kept_if false on s streams others none rest = rest (or_second (is_stream on s) (there on streams) none)

without_there : (on id : ℕ) (streams : List Stream) → there on streams ≡ false → there on (without id streams) ≡ false
without_there on id [] none = refl
without_there on id (s ∷ streams) none = kept_if (not (is_stream id s)) on s streams (without id streams) none (without_there on id streams)

own_if : (is : Bool) (id : ℕ) (s : Stream) (others : List Stream) → is_stream id s ≡ is → there id others ≡ false → there id (cond (not is) (s ∷ others) others) ≡ false
own_if true id s others same none = none
own_if false id s others same none = or_none (is_stream id s) (there id others) same none

without_own : (id : ℕ) (streams : List Stream) → there id (without id streams) ≡ false
without_own id [] = refl
without_own id (s ∷ streams) = own_if (is_stream id s) id s (without id streams) refl (without_own id streams)

spoken_there : (on id : ℕ) (said : Said) (line : Line) → there on line.streams ≡ false → there on (spoken id said line).streams ≡ false
spoken_there on id (Message octets) line none = loaded_there on id (framed octets) line.streams ∙ none
spoken_there on id (Finish refusal) line none = without_there on id line.streams none
spoken_there on id (Status status) line none = without_there on id line.streams none

-- What is said opens no stream,
pub stays_gone : (on id : ℕ) (said : Said) (line : Line) → ready_on on line.streams ≡ Gone → ready_on on (handled (Speech id said) line).line.streams ≡ Gone
stays_gone on id said line gone =
    let l = spoken id said line in
    gone_of on (sent l.initial l.window l.streams).streams (sent_there on l.initial l.window l.streams ∙ spoken_there on id said line (not_there on line.streams gone))

-- and what comes last on a stream ends it.
pub ended_gone : (id initial : ℕ) (window : ℤ) (streams : List Stream) → ready_on id (sent initial window (without id streams)).streams ≡ Gone
ended_gone id initial window streams = gone_of id (sent initial window (without id streams)).streams (sent_there id initial window (without id streams) ∙ without_own id streams)
