-- What each step on the table owes.
use Rattle.std.proofs.Common.{◌≡◌, ◌≢◌, ℕ, ◌+◌, ◌%◌, ◌^◌, ◌<◌, ◌≤◌, max, leb, if◌then◌else◌, eqb, true, false, List, [], ◌∷◌, ◌++◌, map, length, get_or, set, sym, refl, ap, ◌∙◌, subst, arith, Option, Some, None, eq-eqb, ne_eqb, length-set, get_or-set_other, get_or-set_same, drop}
use Rattle.std.proofs.lemmas.Option.{same_Some, none-some}
use Rattle.std.proofs.lemmas.Bool.{both_ways}
use mathlib.Core.Logic.{dite}
use mathlib.Core.Option.{none, some, some-injective, some-ne-none}
use Rattle.std.proofs.lemmas.List.{append-nil}
use Rattle.std.proofs.Math.Seq.{drop-append_seam}
use Rattle.turn_lock.proofs.Counts.{census_at, times_hit, times_miss}
use mathlib.Core.Option as maybe
use mathlib.Core.List.{IsPrefix, map-append}
use native.Mathlib.Decide.{ℕ_discrete}
use lib.ListN.{get_elem?}
use lib.Seq.{set-get_or, map-set}
use prog.Atomic.{either}
use Rattle.atomic_table.specs.Table.{State, Me, step, keeps, takes, gives, Allows, Splits, Joins, put_back, opening}
use Rattle.atomic_table.proofs.Lists.{set_again, set_else, at_map}
use Rattle.turn_lock.specs.declared.view.View.{View}
use Rattle.turn_lock.specs.declared.view.Turn.{Turn}
use Rattle.turn_lock.specs.inner.Turns.{ticket_modulus, KeepsTurns, turn_outside}
use Rattle.turn_lock.specs.Chronicles.{entries_by, entries_past, AreBy}
use Rattle.turn_lock.specs.inner.Rule.{KeepsLists, KeepsNumbers, HasSeen, OwnsEntries, SeesItsEntries, turn_of, KeepsRule}
use Rattle.turn_lock.specs.inner.Steps.{AfterDraw, AfterLook, AfterFind, AfterNote, AfterServe, AfterTake, AfterCensus, AfterCount, AfterEnrol, AfterKnow, spent_view}
use Rattle.turn_lock.specs.Passes.{opening_view, split_view, joined_view, HasJust, HasEnded, OwnsItsEntries}
use Rattle.turn_lock.proofs.Seats.{stay, set_at}
use Rattle.turn_lock.proofs.Prefixes.{prefix_self, past_longer, past_prefix}
use Rattle.turn_lock.proofs.TurnsKept.{draws, looks, at_home, finds, ends, refits, rewords, renumbers, arrives, only_owner, opens, starts}
use Rattle.turn_lock.proofs.ListsKept as lists
use Rattle.turn_lock.proofs.NumbersKept as numbers
use Rattle.turn_lock.proofs.SeenKept as seen

abbrev held_or : {S : Type 0} → S → List (ℕ × S) → S
held_or d [] = d
held_or d (x ∷ xs) = x.1

abbrev SeatState : Type 0 → Type 0 → Type 0
SeatState V E = Me (Option V) (View E)

none_within : {a b : ℕ} → b ≡ 0 → a ≤ b → a ≡ 0
none_within above one = omega (arith, above, one)

module _ {V E : Type 0} (entries : V → List E) (author : E → ℕ) (first : List E) where
  abbrev Rule : State (Option V) (View E) → Type 0
  Rule = KeepsRule entries author first

  abbrev Homes : Type 0
  Homes = List (maybe.Option (Option V))

  -- a load changes no word
  loaded : (ws : List ℕ) (i : ℕ) (hs : Homes) (vs : List (View E)) → Rule record { words = ws; homes = hs; views = vs } → Rule record { words = set ws i (get_or ws i 0); homes = hs; views = vs }
  loaded ws i hs vs = subst (λ (z : List ℕ). Rule record { words = z; homes = hs; views = vs }) (sym (set-get_or ws i 0))

  -- a step that makes and sees nothing
  restages : (s : State (Option V) (View E)) (r : Rule s) (ws : List ℕ) (hs : Homes) (id : ℕ) (v : View E) (t : Turn) (known : ℕ) → get_elem? s.views id ≡ some v → get_or ws 2 0 ≡ get_or s.words 2 0 → get_or ws 3 0 ≡ get_or s.words 3 0
      → t.number ≡ v.turn.number → (t.found ≡ true → v.turn.found ≡ true) → known ≤ get_or s.words 3 0 → KeepsTurns (λ x. entries x ≡ r.log) ws hs (set (map turn_of s.views) id t)
      → Rule record { words = ws; homes = hs; views = set s.views id (record v { turn = t; known = known }) }
  restages s r ws hs id v t known at two three same no_more few turns = let w : View E = record v { turn = t; known = known } in record {
    log = r.log;
    turns = subst (KeepsTurns (λ x. entries x ≡ r.log) ws hs) (sym (map-set turn_of s.views id w)) turns;
    lists = subst (λ n. KeepsLists first r.log n (set s.views id w)) (sym two) (lists.unseen first r.log _ s.views r.lists id v at t v.made v.ended known no_more);
    numbers = subst (λ n. KeepsNumbers author (entries_past first r.log) n (set s.views id w)) (sym three) (numbers.stays author (entries_past first r.log) _ s.views r.numbers id v at w same refl refl few);
    sees = stay (λ j d. d.live ≡ true → SeesItsEntries author first d) s.views id w (λ live. seen.restaged author first v t known same (r.sees id v at live)) (λ j d _. r.sees j d);
  }

  -- what a live view with a number knows
  knows : (s : State (Option V) (View E)) (r : Rule s) (id : ℕ) (v : View E) → get_elem? s.views id ≡ some v → v.live ≡ true → 0 < v.turn.number → OwnsItsEntries author v
  knows s r id v at live pos = let k = r.sees id v at live in let same : first ≡ v.first = sym (r.lists.each id v at live).first_is in record {
    own = subst (λ l. HasJust author l v.start v.seen v.turn.number v.made) same (k.own pos);
    others = λ i e x. subst (λ l. HasEnded author l v.seen e) same (k.others i e x);
    differ = λ n some. let o = r.numbers.once n some in let c = numbers.census_of author (entries_past first r.log) _ s.views r.numbers n id v at in omega arith;
  }

  pub may_draw : (slots id : ℕ) (me : SeatState V E) → me.0.turn.ticket ≡ None → me.0.turn.own ≡ false → me.0.turn.found ≡ false → 0 < me.0.turn.number
      → Allows Rule slots id me 0 (λ n. (n + 1) % 2 ^ 64) (AfterDraw (step slots 0 1 0 none) me)
  may_draw slots id me a b c d s r _ at _ = let there = at_map turn_of s.views id me.0 at in let t : Turn = record me.0.turn { ticket = Some r.turns.drawn } in let x : ℕ = (get_or s.words 0 0 + 1) % ticket_modulus in (
    record me.0 { turn = t },
    keeps,
    tt,
    restages s r (set s.words 0 x) s.homes id me.0 t me.0.known at (get_or-set_other s.words 0 2 x 0 (λ e. omega arith)) (get_or-set_other s.words 0 3 x 0 (λ e. omega arith)) refl (λ e. e) (r.numbers.each id me.0 at).known
        (draws (λ x. entries x ≡ r.log) s.words s.homes (map turn_of s.views) r.turns id me.0.turn there a b c d),
    (r.turns.drawn, r.turns.next, refl),
  )

  pub may_look : (slots id : ℕ) (me : SeatState V E) (t : ℕ) → me.0.turn.ticket ≡ Some t → Allows Rule slots id me 1 (λ n. n) (AfterLook (step slots 1 0 0 none) me)
  may_look slots id me t is s r _ at _ = let there = at_map turn_of s.views id me.0 at in dite (ℕ_discrete (get_or s.words 1 0) (t % ticket_modulus))
      (λ e. let w : Turn = record me.0.turn { own = true } in (
        record me.0 { turn = w },
        keeps,
        tt,
        loaded s.words 1 s.homes (set s.views id (record me.0 { turn = w })) (restages s r s.words s.homes id me.0 w me.0.known at refl refl refl (λ e. e) (r.numbers.each id me.0 at).known
            (looks (λ x. entries x ≡ r.log) s.words s.homes (map turn_of s.views) r.turns id me.0.turn there (numbers.turns_apart author (entries_past first r.log) _ s.views r.numbers) (numbers.turns_small author (entries_past first r.log) _ s.views r.numbers) t is e)),
        λ u v. ((λ _. refl), λ ne. absurd (ne (e ∙ ap (λ (z : ℕ). z % ticket_modulus) (same_Some t u (sym is ∙ v))))),
      ))
      (λ miss. (
        me.0,
        keeps,
        tt,
        loaded s.words 1 s.homes (set s.views id me.0) (subst (λ (z : List (View E)). Rule record { words = s.words; homes = s.homes; views = z }) (sym (set_again s.views id me.0 at)) r),
        λ u v. ((λ e. absurd (miss (e ∙ ap (λ (z : ℕ). z % ticket_modulus) (same_Some u t (sym v ∙ is))))), λ _. refl),
      ))

  -- a view whose turn it is has a number
  numbered : (s : State (Option V) (View E)) (r : Rule s) (id : ℕ) (v : View E) → get_elem? s.views id ≡ some v → v.turn.own ≡ true → 0 < v.turn.number
  numbered s r id v at own = let k = r.turns.each_seat id v.turn (at_map turn_of s.views id v at) in dite (ℕ_discrete v.turn.number 0)
      (λ e. absurd (none-some r.turns.served (sym (k.unnumbered e) ∙ k.turn own))) (λ ne. omega arith)

  pub may_find : (slots id : ℕ) (me : SeatState V E) → me.0.live ≡ true → me.0.turn.own ≡ true → me.0.turn.found ≡ false → Allows Rule slots id me 2 (λ n. n) (AfterFind entries author (step slots 2 0 0 none) me)
  may_find slots id me live own not_yet s r _ at _ = let there = at_map turn_of s.views id me.0 at in let sees = r.lists.each id me.0 at live in let owns = r.numbers.each id me.0 at in
      let h = at_home (λ x. entries x ≡ r.log) s.words s.homes (map turn_of s.views) r.turns id me.0.turn there own not_yet in
      let t : Turn = record me.0.turn { found = true } in let finds_then : List (List E) = me.0.finds ++ entries h.0 ∷ [] in let w : View E = record me.0 { turn = t; seen = entries h.0; finds = finds_then } in
      let numbers_then : KeepsNumbers author (entries_past first r.log) (get_or s.words 3 0) (set s.views id w) = numbers.stays author (entries_past first r.log) _ s.views r.numbers id me.0 at w refl refl refl owns.known in
      let after : Rule record { words = s.words; homes = set s.homes 0 none; views = set s.views id w } = record {
        log = r.log;
        turns = subst (KeepsTurns (λ x. entries x ≡ r.log) s.words (set s.homes 0 none)) (sym (map-set turn_of s.views id w)) (finds (λ x. entries x ≡ r.log) s.words s.homes (map turn_of s.views) r.turns id me.0.turn there own not_yet);
        lists = subst (λ (l : List E). KeepsLists first r.log (get_or s.words 2 0) (set s.views id (record me.0 { turn = t; seen = l; finds = me.0.finds ++ l ∷ [] }))) (sym h.2) (lists.sees_all first r.log _ s.views r.lists id me.0 at t live);
        numbers = numbers_then;
        sees = stay (λ j d. d.live ≡ true → SeesItsEntries author first d) s.views id w (λ _. seen.whole_sees author first r.log (get_or s.words 3 0) me.0 t finds_then me.0.made (entries h.0) refl h.2 sees.from_start sees.since_start sees.so_far (r.sees id me.0 at live) (numbers_then.each id w (set_at s.views id w me.0 at))) (λ j d _. r.sees j d);
      } in (
        w,
        takes 0 (Some h.0),
        ap (λ (z : Homes). get_elem? z 0) h.1,
        loaded s.words 2 (set s.homes 0 none) (set s.views id w) after,
        (
          h.0,
          refl,
          subst (IsPrefix me.0.seen) (sym h.2) sees.so_far,
          knows (record { words = s.words; homes = set s.homes 0 none; views = set s.views id w }) after id w (set_at s.views id w me.0 at) live (numbered s r id me.0 at own),
        ),
      )

  pub may_note : (slots id : ℕ) (me : SeatState V E) (x : V) (count : ℕ) → me.0.live ≡ true → me.0.turn.own ≡ true → me.0.turn.found ≡ true → me.1 ≡ (0, Some x) ∷ [] → count ≡ length (entries x)
      → IsPrefix me.0.seen (entries x) → AreBy author me.0.turn.number (entries_past me.0.seen (entries x)) → Allows Rule slots id me 2 (λ _. count) (λ _. AfterNote entries author (step slots 2 count 0 none) me count)
  may_note slots id me x count live own here carried long more all s r _ at _ = let there = at_map turn_of s.views id me.0 at in let sees = r.lists.each id me.0 at live in let owns = r.numbers.each id me.0 at in
      let whole : me.0.seen ≡ r.log = sees.whole here in let new : List E = entries_past me.0.seen (entries x) in let made : List E = me.0.made ++ entries_by author me.0.turn.number new in
      let w : View E = record me.0 { seen = entries x; made = made } in let wide = r.turns.wide in
      let later : entries_past first r.log ++ new ≡ entries_past first (entries x) = sym (past_longer first r.log new r.lists.grows) ∙ ap (entries_past first) (ap (λ l. l ++ new) (sym whole) ∙ past_prefix me.0.seen (entries x) more) in
      let numbers_then : KeepsNumbers author (entries_past first (entries x)) (get_or (set s.words 2 count) 3 0) (set s.views id w) =
      subst (λ (z : ℕ × List E). KeepsNumbers author z.1 z.0 (set s.views id w)) (λ i. (sym (get_or-set_other s.words 2 3 count 0 (λ e. omega arith)) i, later i))
      (numbers.writes author (entries_past first r.log) _ s.views r.numbers id me.0 at w new (numbered s r id me.0 at own) all refl refl refl owns.known) in (
        w,
        keeps,
        tt,
        record {
          log = entries x;
          turns = subst (KeepsTurns (λ y. entries y ≡ entries x) (set s.words 2 count) s.homes) (sym (map-set turn_of s.views id w ∙ set_again (map turn_of s.views) id me.0.turn there))
              (refits (λ y. entries y ≡ r.log) s.words s.homes (map turn_of s.views) r.turns id me.0.turn there (λ y. entries y ≡ entries x) (set s.words 2 count) (length-set s.words 2 count) (get_or-set_other s.words 2 0 count 0 (λ e. omega arith)) (get_or-set_other s.words 2 1 count 0 (λ e. omega arith)) here);
          lists = lists.notes first r.log _ s.views r.lists id me.0 at (entries x) made _ live (subst (λ (l : List E). IsPrefix l (entries x)) whole more) (get_or-set_same s.words 2 count 0 (omega arith) ∙ long)
              (λ j d other e. not_found s r id me.0 at own j d other e d.turn.found refl);
          numbers = numbers_then;
          sees = stay (λ j d. d.live ≡ true → SeesItsEntries author first d) s.views id w (λ _. seen.whole_sees author first (entries x) (get_or (set s.words 2 count) 3 0) me.0 me.0.turn me.0.finds made (entries x) refl refl sees.from_start sees.since_start more (r.sees id me.0 at live) (numbers_then.each id w (set_at s.views id w me.0 at))) (λ j d _. r.sees j d);
        },
        λ y is. ap (λ (z : V). (let u : View E = record me.0 { seen = entries z; made = me.0.made ++ entries_by author me.0.turn.number (entries_past me.0.seen (entries z)) } in u, me.1)) (same_Some x y (ap (held_or None) (sym carried ∙ is))),
      )
    where
      not_found : (s : State (Option V) (View E)) (r : Rule s) (id : ℕ) (v : View E) → get_elem? s.views id ≡ some v → v.turn.own ≡ true → (j : ℕ) (d : View E) → j ≢ id → get_elem? s.views j ≡ some d → (b : Rattle.std.proofs.Common.Bool) → d.turn.found ≡ b → d.turn.found ≡ false
      not_found s r id v at own j d other e false is = is
      not_found s r id v at own j d other e true is = absurd (other (only_owner (λ y. entries y ≡ r.log) s.words s.homes (map turn_of s.views) r.turns id v.turn (at_map turn_of s.views id v at) own j d.turn (at_map turn_of s.views j d e)
          ((r.turns.each_seat j d.turn (at_map turn_of s.views j d e)).inside is)))

  pub may_end : (slots id : ℕ) (me : SeatState V E) (x : V) → me.0.live ≡ true → me.0.turn.own ≡ true → me.0.turn.found ≡ true → me.1 ≡ (0, Some x) ∷ [] → me.0.seen ≡ entries x
      → Allows Rule slots id me 1 (λ n. (n + 1) % 2 ^ 64) (AfterServe author (step slots 1 1 0 none) me)
  may_end slots id me x live own here carried is s r _ at _ = let there = at_map turn_of s.views id me.0 at in let sees = r.lists.each id me.0 at live in let t : Turn = turn_outside me.0.turn.number in let n : ℕ = (get_or s.words 1 0 + 1) % ticket_modulus in (
    record me.0 { turn = t },
    gives,
    tt,
    restages s r (set s.words 1 n) (put_back s.homes me.1) id me.0 t me.0.known at (get_or-set_other s.words 1 2 n 0 (λ e. omega arith)) (get_or-set_other s.words 1 3 n 0 (λ e. omega arith)) refl (λ e. absurd (both_ways false refl e)) (r.numbers.each id me.0 at).known
        (subst (λ (z : List (ℕ × Option V)). KeepsTurns (λ x. entries x ≡ r.log) (set s.words 1 n) (put_back s.homes z) (set (map turn_of s.views) id t)) (sym carried)
        (ends (λ x. entries x ≡ r.log) s.words s.homes (map turn_of s.views) r.turns id me.0.turn there x (sym is ∙ sees.whole here) own)),
    (refl, (let k = knows s r id me.0 at live (numbered s r id me.0 at own) in record { own = k.own; others = k.others; differ = k.differ })),
  )

  pub may_know : (slots id : ℕ) (me : SeatState V E) → me.0.live ≡ true → 0 < me.0.turn.number → Allows Rule slots id me 2 (λ n. n) (AfterKnow author (step slots 2 0 0 none) me)
  may_know slots id me live pos s r _ at _ = (
    me.0,
    keeps,
    tt,
    loaded s.words 2 s.homes (set s.views id me.0) (subst (λ (z : List (View E)). Rule record { words = s.words; homes = s.homes; views = z }) (sym (set_again s.views id me.0 at)) r),
    (refl, knows s r id me.0 at live pos),
  )

  pub may_count : (slots id : ℕ) (me : SeatState V E) → Allows Rule slots id me 3 (λ n. n) (AfterCount author (step slots 3 0 0 none) me)
  may_count slots id me s r _ at _ = let n : ℕ = get_or s.words 3 0 in let there = at_map turn_of s.views id me.0 at in (
    record me.0 { known = n },
    keeps,
    tt,
    loaded s.words 3 s.homes (set s.views id (record me.0 { known = n })) (restages s r s.words s.homes id me.0 me.0.turn n at refl refl refl (λ e. e) (omega arith)
        (subst (KeepsTurns (λ x. entries x ≡ r.log) s.words s.homes) (sym (set_again (map turn_of s.views) id me.0.turn there)) r.turns)),
    (refl, (r.numbers.each id me.0 at).known, r.numbers.limit, λ live. seen.seen_up_to author first r.log n me.0 (r.lists.each id me.0 at live) r.numbers.unwritten),
  )

  pub may_census : (slots id : ℕ) (me : SeatState V E) → Allows Rule slots id me 3 (λ n. n) (AfterCensus author (step slots 3 0 0 none) me)
  may_census slots id me s r homes at wide = let counted = may_count slots id me s r homes at wide in (
    counted.0,
    counted.1,
    counted.2,
    counted.3,
    (counted.4, λ n more. let above = r.numbers.none_above n more in let one = census_at n s.views id me.0 at in none_within above one),
  )

  pub may_enrol : (slots id : ℕ) (me : SeatState V E) (a b : ℕ) → b ≡ a + 1 → a < 4294967295 → a ≡ me.0.known → me.0.turn ≡ turn_outside 0 → me.0.live ≡ true → Allows Rule slots id me 3 (λ n. either (eqb n a) b n) (AfterEnrol author (step slots 3 a b none) me)
  may_enrol slots id me a b up room known_is new live s r _ at _ = let n : ℕ = get_or s.words 3 0 in let there = at_map turn_of s.views id me.0 at in let wide = r.turns.wide in dite (ℕ_discrete n a)
      (λ hit. let t : Turn = turn_outside (a + 1) in let w : View E = record me.0 { turn = t; known = a + 1 } in
      let none : me.0.turn.number ≡ 0 = ap (λ (z : Turn). z.number) new in
      let then_ : Rule record { words = set s.words 3 b; homes = s.homes; views = set s.views id w } = record {
        log = r.log;
        turns = subst (KeepsTurns (λ x. entries x ≡ r.log) (set s.words 3 b) s.homes) (sym (map-set turn_of s.views id w))
            (renumbers (λ x. entries x ≡ r.log) (set s.words 3 b) s.homes (map turn_of s.views)
            (rewords (λ x. entries x ≡ r.log) s.words s.homes (map turn_of s.views) r.turns id me.0.turn there (set s.words 3 b) (length-set s.words 3 b) (get_or-set_other s.words 3 0 b 0 (λ e. omega arith)) (get_or-set_other s.words 3 1 b 0 (λ e. omega arith)))
            id me.0.turn there (a + 1) (ap (λ (z : Turn). z.ticket) new) (ap (λ (z : Turn). z.found) new));
        lists = subst (λ z. KeepsLists first r.log z (set s.views id w)) (sym (get_or-set_other s.words 3 2 b 0 (λ e. omega arith))) (lists.unseen first r.log _ s.views r.lists id me.0 at t me.0.made me.0.ended (a + 1) (λ e. absurd (both_ways false refl e)));
        numbers = subst (λ z. KeepsNumbers author (entries_past first r.log) z (set s.views id w)) (ap (λ z. z + 1) hit ∙ (sym up ∙ sym (get_or-set_same s.words 3 b 0 (omega arith))))
            (numbers.enrols author (entries_past first r.log) n s.views r.numbers id me.0 at w none (omega arith) (ap (λ z. z + 1) (sym hit)) refl refl (ap (λ z. z + 1) (sym hit)));
        sees = stay (λ j d. d.live ≡ true → SeesItsEntries author first d) s.views id w
            (λ _. seen.enrolled author first r.log n (a + 1) me.0 t (a + 1) (r.numbers.each id me.0 at) none refl (r.numbers.unwritten (a + 1) (omega arith)) (r.lists.each id me.0 at live) (r.sees id me.0 at live))
            (λ j d _. r.sees j d);
      } in (
        w,
        keeps,
        tt,
        subst (λ z. Rule record { words = set s.words 3 (either z b n); homes = s.homes; views = set s.views id w }) (sym (eq-eqb n a hit)) then_,
        ((λ _. (refl, knows (record { words = set s.words 3 b; homes = s.homes; views = set s.views id w }) then_ id w (set_at s.views id w me.0 at) live (omega arith))), λ ne. absurd (ne hit)),
      ))
      (λ miss. (
        record me.0 { known = n },
        keeps,
        tt,
        subst (λ z. Rule record { words = set s.words 3 (either z b n); homes = s.homes; views = set s.views id (record me.0 { known = n }) }) (sym (ne_eqb n a miss))
            (loaded s.words 3 s.homes (set s.views id (record me.0 { known = n })) (restages s r s.words s.homes id me.0 me.0.turn n at refl refl refl (λ e. e) (omega arith)
            (subst (KeepsTurns (λ x. entries x ≡ r.log) s.words s.homes) (sym (set_again (map turn_of s.views) id me.0.turn there)) r.turns))),
        ((λ hit. absurd (miss hit)), λ _. (refl, (r.numbers.each id me.0 at).known, r.numbers.limit)),
      ))

  pub may_split : (id : ℕ) (v : View E) → v.live ≡ true → Splits Rule id v v (split_view v)
  may_split id v live s r at = subst (λ (z : List (View E)). Rule record { words = s.words; homes = s.homes; views = z ++ split_view v ∷ [] }) (sym (set_again s.views id v at)) (record {
    log = r.log;
    turns = subst (KeepsTurns (λ x. entries x ≡ r.log) s.words s.homes) (sym (map-append turn_of s.views (split_view v ∷ []))) (arrives (λ x. entries x ≡ r.log) s.words s.homes (map turn_of s.views) r.turns id v.turn (at_map turn_of s.views id v at));
    lists = lists.splits first r.log _ s.views r.lists id v at live;
    numbers = numbers.splits author (entries_past first r.log) _ s.views r.numbers (split_view v) refl refl refl (r.numbers.each id v at).known;
    sees = seen.splits author first s.views v r.sees;
  })

  pub may_join : (id : ℕ) (v : View E) (other : ℕ) (u : View E) → v.live ≡ true → u.live ≡ true → v.turn.found ≡ false → u.turn.ticket ≡ None → u.turn.found ≡ false → Joins Rule id v other u (joined_view v u) spent_view
  may_join id v other u live live' not_found none_yet not_found' s r at ne there' = let there : get_elem? s.views other ≡ some u = sym (set_else s.views id other (joined_view v u) ne) ∙ there' in
      let mv = at_map turn_of s.views id v at in let mu = at_map turn_of s.views other u there in record {
        log = r.log;
        turns = subst (KeepsTurns (λ x. entries x ≡ r.log) s.words s.homes) (sym (map-set turn_of (set s.views id (joined_view v u)) other spent_view ∙ ap (λ z. set z other (turn_outside 0)) (map-set turn_of s.views id (joined_view v u) ∙ set_again (map turn_of s.views) id v.turn mv)))
            (renumbers (λ x. entries x ≡ r.log) s.words s.homes (map turn_of s.views) r.turns other u.turn mu 0 none_yet not_found');
        lists = lists.joins first r.log _ s.views r.lists id v at other u ne there live live' not_found;
        numbers = numbers.joins author (entries_past first r.log) _ s.views r.numbers id v at other u (joined_view v u) spent_view ne there refl refl refl (let a = (r.numbers.each id v at).known in let b = (r.numbers.each other u there).known in omega arith) refl refl refl (omega arith);
        sees = seen.joins author first r.log _ _ s.views r.lists r.numbers r.sees id v at other u there live live';
      }

  pub may_take : (slots id : ℕ) (me : SeatState V E) → me.0.turn.hollow ≡ true → Allows Rule slots id me 2 (λ n. n) (AfterTake (step slots 2 0 0 none) me)
  may_take slots id me h s r _ at _ = let there = at_map turn_of s.views id me.0 at in let t : Turn = record me.0.turn { hollow = false } in let o = r.turns.hollow id me.0.turn there h in (
    record me.0 { turn = t },
    takes 0 None,
    ap (λ (z : Homes). get_elem? z 0) o.1,
    loaded s.words 2 (set s.homes 0 none) (set s.views id (record me.0 { turn = t })) (restages s r s.words (set s.homes 0 none) id me.0 t me.0.known at refl refl refl (λ e. e) (r.numbers.each id me.0 at).known
        (opens (λ x. entries x ≡ r.log) s.words s.homes (map turn_of s.views) r.turns id me.0.turn there h)),
    refl,
  )

  pub may_start : (count : ℕ) → count ≡ length first → Rule (opening (1 ∷ 0 ∷ count ∷ 1 ∷ []) (None ∷ []) (opening_view first))
  may_start count long = record {
    log = first;
    turns = starts (λ y. entries y ≡ first) count 1;
    lists = record {
      counted = long;
      grows = prefix_self first;
      each = λ j v e _. subst (HasSeen first first) (only j v e) (record {
        first_is = refl;
        from_first = prefix_self first;
        from_start = prefix_self first;
        since_start = prefix_self first;
        so_far = prefix_self first;
        each_find = λ i f h. absurd (some-ne-none f (sym h));
        rising = λ i l f g _ h _. absurd (some-ne-none f (sym h));
        whole = λ _. refl;
      });
    };
    numbers = record {
      limit = omega arith;
      once = λ n pos. dite (ℕ_discrete 1 n) (λ e. let h = times_hit n 1 [] e in omega arith) (λ ne. let h = times_miss n 1 [] ne in omega arith);
      none_above = λ n l. let h = times_miss n 1 [] (λ e. omega arith) in omega arith;
      unwritten = λ n l. none_by n;
      each = λ j v e. subst (OwnsEntries author (entries_past first first) 1) (only j v e) (record {
        mine = λ _. none_by 1;
        none_made = λ _. refl;
        others = λ i f h. absurd (some-ne-none f (sym h));
        known = omega arith;
      });
    };
    sees = λ j v e _. subst (SeesItsEntries author first) (only j v e) (record {
      own = λ _. record { from_first = prefix_self first; since_start = prefix_self first; none_before = none_by 1; just = none_by 1 };
      others = λ i f h. absurd (some-ne-none f (sym h));
    });
  }
    where
      only : (j : ℕ) (v : View E) → get_elem? (opening_view first ∷ []) j ≡ some v → opening_view first ≡ v
      only Rattle.std.proofs.Common.zero v e = some-injective (opening_view first) v e
      only (Rattle.std.proofs.Common.suc j) v e = absurd (some-ne-none v (sym e))

      none_by : (n : ℕ) → entries_by author n (entries_past first first) ≡ []
      none_by n = ap (entries_by author n) (ap (λ z. drop (length first) z) (sym (append-nil first)) ∙ drop-append_seam first [])

-- what a pass knows after a newcomer of its own came back
pub met_newcomer : {E : Type 0} (v : View E) (k : ℕ) → v.known ≤ k → joined_view v (record (split_view v) { known = k }) ≡ record v { known = k }
met_newcomer v k le i = record v { seen = same (leb (length v.seen) (length v.seen)) i; ended = append-nil v.ended i; known = most i }
  where
    same : (b : Rattle.std.proofs.Common.Bool) → (if b then v.seen else v.seen) ≡ v.seen
    same true = refl
    same false = refl

    most : max v.known k ≡ k
    most = omega arith
