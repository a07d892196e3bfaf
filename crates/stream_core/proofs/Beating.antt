-- The beats of groups, as they are found.
use Rattle.std.proofs.Common.{◌≡◌, ℕ, zero, suc, ◌+◌, ◌<◌, List, [], ◌∷◌, ◌++◌, length, take, drop, get_or, set, length-set, refl, sym, ap, ◌∙◌, arith, add-one, slice_get}
use Rattle.std.proofs.lemmas.Option.{get_or_from_slice_get}
use Rattle.std.proofs.lemmas.List.{take_more_set, drop_more, drop-set-lt}
use Rattle.stream_laws.specs.declared.kinds.Beat.{Beat}
use Rattle.stream_laws.specs.declared.kinds.GroupState.{GroupState}
use Rattle.stream_laws.specs.Beats.{TurnInput, differs, has_rows, beat, beat_by, beats_from, moved_on, groups_from}
use Rattle.stream_core.specs.declared.walk.Found.{Found}
use Rattle.stream_core.specs.inner.Kept.{moved_all}
use Rattle.stream_core.specs.inner.Walks.{found_all}
use Rattle.stream_core.proofs.Walking.{walks_find}

-- the beat by what the walks found of the group
pub beat_found : (turn : TurnInput) (n : ℕ) (before found : List Found) (any : Found) (state : GroupState) → n < length before → found ≡ found_all turn.lines turn.sent turn.rows before → beat_by state turn.time (get_or found n any).differs (get_or found n any).some ≡ beat turn n state
beat_found turn n before found any state inside is =
    ap (λ one. beat_by state turn.time one.differs one.some)
    (get_or_from_slice_get found n (record { differs = differs turn n; some = has_rows turn n }) any (ap (λ xs. slice_get xs n) is ∙ walks_find turn n before inside))

-- one group more
one_more : (turn_input : TurnInput) (from place : ℕ) (states : List GroupState) (n : ℕ) (state : GroupState) → from + n ≡ place → n < length states → beats_from turn_input from (take (suc n) states) ≡ beats_from turn_input from (take n states) ++ beat turn_input place (get_or states n state) ∷ []
one_more turn_input from place [] n state sum within = absurd (omega arith)
one_more turn_input from place (first ∷ states) zero state sum within = let same : from ≡ place = omega (arith, sum) in ap (λ k. beat turn_input k first ∷ []) same
one_more turn_input from place (first ∷ states) (suc n) state sum within = ap (λ rest. beat turn_input from first ∷ rest) (one_more turn_input (from + 1) place states n state (omega (arith, sum)) (omega arith))

pub beat_written : (turn_input : TurnInput) (states : List GroupState) (all : List Beat) (n : ℕ) (state : GroupState) (one : Beat) → length all ≡ length states → n < length states → take n all ≡ beats_from turn_input 0 (take n states) → one ≡ beat turn_input n (get_or states n state) → take (n + 1) (set all n one) ≡ beats_from turn_input 0 (take (n + 1) states)
beat_written turn_input states all n state one room within found is =
    take_more_set all n one (omega (arith, room, within)) ∙ ap (λ front. front ++ one ∷ []) found ∙ ap (λ b. beats_from turn_input 0 (take n states) ++ b ∷ []) is ∙ rw add-one (sym (one_more turn_input 0 n states n state (omega arith) within))

-- ---- the groups that move on

moved_more : (time : ℕ) (old : List GroupState) (all : List Beat) (n : ℕ) (state : GroupState) (one : Beat) → n < length old → n < length all → moved_all time (take (suc n) old) (take (suc n) all) ≡ moved_all time (take n old) (take n all) ++ moved_on time (get_or all n one) (get_or old n state) ∷ []
moved_more time [] all n state one within inside = absurd (omega arith)
moved_more time (first ∷ old) [] n state one within inside = absurd (omega arith)
moved_more time (first ∷ old) (beat ∷ all) zero state one within inside = refl
moved_more time (first ∷ old) (beat ∷ all) (suc n) state one within inside = ap (λ rest. moved_on time beat first ∷ rest) (moved_more time old all n state one (omega arith) (omega arith))

pub record IsMoved (time : ℕ) (old states : List GroupState) (all : List Beat) (n : ℕ) : Type 0 where
  pub room : length all ≡ length states
  pub front : take n states ≡ moved_all time (take n old) (take n all)
  pub behind : drop n states ≡ drop n old

pub moved_written : (time : ℕ) (old states : List GroupState) (all : List Beat) (n : ℕ) (state moved : GroupState) (one : Beat) → n < length all → length states ≡ length old → IsMoved time old states all n → moved ≡ moved_on time (get_or all n one) (get_or states n state) → IsMoved time old (set states n moved) all (n + 1)
moved_written time old states all n state moved one within kept is made =
    let room = is.room in
    let inside : n < length states = omega (arith, within, room) in
    let older : n < length old = omega (arith, inside, kept) in
    let heads : get_or states n state ∷ drop (n + 1) states ≡ get_or old n state ∷ drop (n + 1) old = sym (drop_more states n state inside) ∙ is.behind ∙ drop_more old n state older in
    let here : get_or states n state ≡ get_or old n state = cc heads in
    let rest : drop (n + 1) states ≡ drop (n + 1) old = cc heads in
    record {
      room = room ∙ sym (length-set states n moved);
      front = take_more_set states n moved inside ∙ ap (λ xs. xs ++ moved ∷ []) is.front ∙ ap (λ x. moved_all time (take n old) (take n all) ++ x ∷ []) (made ∙ ap (moved_on time (get_or all n one)) here) ∙ rw add-one (sym (moved_more time old all n state one older within));
      behind = drop-set-lt (n + 1) states n moved (omega arith) ∙ rest;
    }

-- what all groups are after their beats
pub moved_from : (turn_input : TurnInput) (from : ℕ) (states : List GroupState) → moved_all turn_input.time states (beats_from turn_input from states) ≡ groups_from turn_input from states
moved_from turn_input from [] = refl
moved_from turn_input from (state ∷ states) = ap (λ rest. moved_on turn_input.time (beat turn_input from state) state ∷ rest) (moved_from turn_input (from + 1) states)

pub beats_length : (turn_input : TurnInput) (from : ℕ) (states : List GroupState) → length (beats_from turn_input from states) ≡ length states
beats_length turn_input from [] = refl
beats_length turn_input from (state ∷ states) = ap suc (beats_length turn_input (from + 1) states)

pub moved_none : (time : ℕ) (states : List GroupState) (all : List Beat) → length all ≡ length states → IsMoved time states states all 0
moved_none time states all room = record { room = room; front = refl; behind = refl }
