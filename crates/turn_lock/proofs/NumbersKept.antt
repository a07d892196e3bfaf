-- Each step keeps the rule of the numbers.
use Rattle.std.proofs.Common.{◌≡◌, ◌≢◌, ℕ, ◌+◌, ◌<◌, ◌≤◌, ◌==◌, ◌⊎◌, true, false, List, [], ◌∷◌, ◌++◌, map, length, set, sym, refl, ap, ◌∙◌, subst, ⊎_elim, inl, inr, arith, if◌then◌else◌, eq-eqb, ne_eqb}
use Rattle.std.proofs.lemmas.List.{append-nil}
use mathlib.Core.Logic.{dite}
use mathlib.Core.Option.{some, some-injective, some-ne-none}
use mathlib.Core.List.{map-append}
use native.Mathlib.Decide.{ℕ_discrete, dec_le}
use lib.ListN.{get_elem?}
use Rattle.atomic_table.proofs.Lists.{at_snoc, set_else}
use Rattle.turn_lock.specs.declared.view.View.{View}
use Rattle.turn_lock.specs.declared.view.Ended.{Ended}
use Rattle.turn_lock.specs.declared.view.Turn.{Turn}
use Rattle.turn_lock.specs.inner.Turns.{NumbersDiffer, NumbersAreSmall}
use Rattle.turn_lock.specs.Chronicles.{entries_by, AreBy}
use Rattle.turn_lock.specs.Passes.{occurrences, numbers_of, ended_number, joined_passes, ended_pass}
use Rattle.turn_lock.specs.inner.Rule.{occurrences_in_views, OwnsEntries, KeepsNumbers, turn_of}
use Rattle.turn_lock.proofs.Seats.{stay, same_at, un_map, at_append}
use Rattle.turn_lock.proofs.Counts.{times_hit, times_miss, times_append, times_none, times_ended, census_set, census_snoc, census_at, census_two, by_append, by_others}

module _ {E : Type 0} (author : E → ℕ) (later : List E) (a : ℕ) (views : List (View E)) (r : KeepsNumbers author later a views) where
  pub small_at : (j : ℕ) (v : View E) → get_elem? views j ≡ some v → v.turn.number ≤ a
  small_at j v e = go (dec_le v.turn.number a)
    where
      go : Dec (v.turn.number ≤ a) → v.turn.number ≤ a
      go (yes h) = h
      go (no h) = let n : ℕ = v.turn.number in let none = r.none_above n (omega arith) in let one = times_hit n n (map ended_number v.ended) refl in let most = census_at n views j v e in absurd (omega arith)

  pub apart_at : (j k : ℕ) (v w : View E) → get_elem? views j ≡ some v → get_elem? views k ≡ some w → v.turn.number ≡ w.turn.number → 0 < v.turn.number → j ≡ k
  apart_at j k v w p q same pos = dite (ℕ_discrete j k) (λ e. e) (λ ne. let n : ℕ = v.turn.number in
      let x = times_hit n n (map ended_number v.ended) refl in let y = times_hit n w.turn.number (map ended_number w.ended) (sym same) in
      let both = census_two n views j k v w ne p q in let most = r.once n pos in absurd (omega arith))

  -- no pass that was joined into a view has the number of another view, or of this one
  pub apart_ended : (j k i : ℕ) (v w : View E) (e : Ended E) → get_elem? views j ≡ some v → get_elem? views k ≡ some w → get_elem? w.ended i ≡ some e → 0 < v.turn.number → e.number ≢ v.turn.number
  apart_ended j k i v w e p q h pos is = let n : ℕ = v.turn.number in let most = r.once n pos in
      let t = times_ended w.ended i e h in let t' : 1 ≤ occurrences n (map ended_number w.ended) = subst (λ z. 1 ≤ occurrences z (map ended_number w.ended)) is t in
      let x = times_hit n n (map ended_number v.ended) refl in
      dite (ℕ_discrete j k)
      (λ same. let v_is : v ≡ w = same_at views k v w (ap (get_elem? views) (sym same) ∙ p) q in
      let y : occurrences n (numbers_of w) ≡ 1 + occurrences n (map ended_number w.ended) = times_hit n w.turn.number (map ended_number w.ended) (ap (λ (z : View E). z.turn.number) (sym v_is)) in
      let m = census_at n views k w q in absurd (omega arith))
      (λ ne. let both = census_two n views j k v w ne p q in let y : occurrences n (map ended_number w.ended) ≤ occurrences n (numbers_of w) = more n w.turn.number (map ended_number w.ended) in absurd (omega arith))
    where
      more : (n x : ℕ) (xs : List ℕ) → occurrences n xs ≤ occurrences n (x ∷ xs)
      more n x xs = dite (ℕ_discrete x n) (λ s. let h = times_hit n x xs s in omega arith) (λ s. let h = times_miss n x xs s in omega arith)

  pub census_of : (n : ℕ) (j : ℕ) (v : View E) → get_elem? views j ≡ some v → occurrences n (numbers_of v) ≤ occurrences_in_views n views
  census_of n j v e = census_at n views j v e

  pub turns_apart : NumbersDiffer (map turn_of views)
  turns_apart j k s t p q same pos = let v = un_map turn_of views j s p in let w = un_map turn_of views k t q in
      let sv = ap (λ (z : Turn). z.number) v.2 in let tw = ap (λ (z : Turn). z.number) w.2 in apart_at j k v.0 w.0 v.1 w.1 (sv ∙ (same ∙ sym tw)) (omega arith)

  pub turns_small : NumbersAreSmall (map turn_of views)
  turns_small j s p = let v = un_map turn_of views j s p in let sv = ap (λ (z : Turn). z.number) v.2 in let b = small_at j v.0 v.1 in let l = r.limit in omega arith

  -- a new view with no number
  pub splits : (w : View E) → w.turn.number ≡ 0 → w.made ≡ [] → w.ended ≡ [] → w.known ≤ a → KeepsNumbers author later a (views ++ w ∷ [])
  splits w none made ended known = record {
    limit = r.limit;
    once = λ n pos. let c = census_snoc n views w in let z = blank n pos in let o = r.once n pos in omega arith;
    none_above = λ n l. let c = census_snoc n views w in let z = blank n (omega arith) in let o = r.none_above n l in omega arith;
    unwritten = r.unwritten;
    each = λ j d e. ⊎_elim (r.each j d) (λ (t : w ≡ d). subst (OwnsEntries author later a) t mine) (at_snoc views w d j e);
  }
    where
      blank : (n : ℕ) → 0 < n → occurrences n (numbers_of w) ≡ 0
      blank n pos = ap (λ (z : ℕ × List (Ended E)). occurrences n (z.0 ∷ map ended_number z.1)) (λ i. (none i, ended i)) ∙ times_none n pos

      mine : OwnsEntries author later a w
      mine = record {
        mine = λ pos. absurd (omega arith);
        none_made = λ _. made;
        others = λ i e h. absurd (some-ne-none e (sym (ap (λ z. get_elem? z i) (sym ended) ∙ h)));
        known = known;
      }

module _ {E : Type 0} (author : E → ℕ) (later : List E) (a : ℕ) (views : List (View E)) (r : KeepsNumbers author later a views) (id : ℕ) (v : View E) (at : get_elem? views id ≡ some v) where
  same_census : (w : View E) → w.turn.number ≡ v.turn.number → w.ended ≡ v.ended → (n : ℕ) → occurrences_in_views n (set views id w) ≡ occurrences_in_views n views
  same_census w p q n = let c = census_set n views id v w at in let h : occurrences n (numbers_of w) ≡ occurrences n (numbers_of v) = ap (λ (z : ℕ × List (Ended E)). occurrences n (z.0 ∷ map ended_number z.1)) (λ i. (p i, q i)) in omega arith

  -- a step that makes no entry and no number
  pub stays : (w : View E) → w.turn.number ≡ v.turn.number → w.ended ≡ v.ended → w.made ≡ v.made → w.known ≤ a → KeepsNumbers author later a (set views id w)
  stays w p q m known = let k = r.each id v at in record {
    limit = r.limit;
    once = λ n pos. let c = same_census w p q n in let o = r.once n pos in omega arith;
    none_above = λ n l. same_census w p q n ∙ r.none_above n l;
    unwritten = r.unwritten;
    each = stay (λ j d. OwnsEntries author later a d) views id w
        (record {
          mine = λ pos. subst (λ (z : ℕ). entries_by author z later ≡ w.made) (sym p) (k.mine (omega arith) ∙ sym m);
          none_made = λ z. m ∙ k.none_made (sym p ∙ z);
          others = λ i e h. k.others i e (ap (λ z. get_elem? z i) (sym q) ∙ h);
          known = known;
        })
        (λ j d _. r.each j d);
  }

  -- the entries `new`, by this view or by 0
  pub writes : (w : View E) (new : List E) → 0 < v.turn.number → AreBy author v.turn.number new → w.turn.number ≡ v.turn.number → w.ended ≡ v.ended → w.made ≡ v.made ++ entries_by author v.turn.number new → w.known ≤ a
      → KeepsNumbers author (later ++ new) a (set views id w)
  writes w new pos all p q m known = let k = r.each id v at in record {
    limit = r.limit;
    once = λ n z. let c = same_census w p q n in let o = r.once n z in omega arith;
    none_above = λ n l. same_census w p q n ∙ r.none_above n l;
    unwritten = λ n l. let b = small_at author later a views r id v at in same_by n [] (λ e. omega arith) (omega arith) (r.unwritten n l);
    each = stay (λ j d. OwnsEntries author (later ++ new) a d) views id w
        (record {
          mine = λ _. subst (λ (z : ℕ). entries_by author z (later ++ new) ≡ w.made) (sym p) (by_append author v.turn.number later new ∙ (ap (λ z. z ++ entries_by author v.turn.number new) (k.mine pos) ∙ sym m));
          none_made = λ z. absurd (omega arith);
          others = λ i e h. let h' = ap (λ z. get_elem? z i) (sym q) ∙ h in let o = k.others i e h' in (o.0, same_by e.number e.made (apart_ended author later a views r id id i v v e at at h' pos) o.0 o.1);
          known = known;
        })
        (λ j d other e. let kd = r.each j d e in record {
          mine = λ z. same_by d.turn.number d.made (λ is. other (apart_at author later a views r j id d v e at is z)) z (kd.mine z);
          none_made = kd.none_made;
          others = λ i x h. let o = kd.others i x h in (o.0, same_by x.number x.made (apart_ended author later a views r id j i v d x at e h pos) o.0 o.1);
          known = kd.known;
        });
  }
    where
      same_by : (n : ℕ) (made : List E) → n ≢ v.turn.number → 0 < n → entries_by author n later ≡ made → entries_by author n (later ++ new) ≡ made
      same_by n made ne z is = by_append author n later new ∙ (ap (λ y. entries_by author n later ++ y) (by_others author v.turn.number n new ne z all) ∙ (append-nil (entries_by author n later) ∙ is))

  -- a new number
  pub enrols : (w : View E) → v.turn.number ≡ 0 → a < 4294967295 → w.turn.number ≡ a + 1 → w.ended ≡ v.ended → w.made ≡ v.made → w.known ≡ a + 1 → KeepsNumbers author later (a + 1) (set views id w)
  enrols w none room p q m known = let k = r.each id v at in record {
    limit = omega arith;
    once = λ n pos. go n pos (ℕ_discrete n (a + 1));
    none_above = λ n l. let c = count_other n (λ e. omega arith) (omega arith) in let o = r.none_above n (omega arith) in omega arith;
    unwritten = λ n l. r.unwritten n (omega arith);
    each = stay (λ j d. OwnsEntries author later (a + 1) d) views id w
        (record {
          mine = λ _. subst (λ (z : ℕ). entries_by author z later ≡ w.made) (sym p) (r.unwritten (a + 1) (omega arith) ∙ (sym (k.none_made none) ∙ sym m));
          none_made = λ z. absurd (omega arith);
          others = λ i e h. k.others i e (ap (λ z. get_elem? z i) (sym q) ∙ h);
          known = omega arith;
        })
        (λ j d _ e. let kd = r.each j d e in let b = kd.known in record { mine = kd.mine; none_made = kd.none_made; others = kd.others; known = omega arith });
  }
    where
      before : (n : ℕ) → 0 < n → occurrences n (numbers_of v) ≡ occurrences n (map ended_number v.ended)
      before n pos = times_miss n v.turn.number (map ended_number v.ended) (λ e. omega arith)

      after : (n : ℕ) → occurrences n (numbers_of w) ≡ occurrences n ((a + 1) ∷ map ended_number v.ended)
      after n = ap (λ (z : ℕ × List (Ended E)). occurrences n (z.0 ∷ map ended_number z.1)) (λ i. (p i, q i))

      count_other : (n : ℕ) → n ≢ a + 1 → 0 < n → occurrences_in_views n (set views id w) ≡ occurrences_in_views n views
      count_other n ne pos = let c = census_set n views id v w at in let b = before n pos in let f = after n in let g = times_miss n (a + 1) (map ended_number v.ended) (λ e. ne (sym e)) in omega arith

      go : (n : ℕ) → 0 < n → Dec (n ≡ a + 1) → occurrences_in_views n (set views id w) ≤ 1
      go n pos (yes e) = let c = census_set n views id v w at in let b = before n pos in let f = after n in let g = times_hit n (a + 1) (map ended_number v.ended) (sym e) in let z = r.none_above n (omega arith) in
          let least = census_at n views id v at in omega arith
      go n pos (no ne) = let c = count_other n ne pos in let o = r.once n pos in omega arith

  -- this view takes in another's numbers, and the other has none left
  pub joins : (other : ℕ) (u w s : View E) → other ≢ id → get_elem? views other ≡ some u
      → w.turn.number ≡ v.turn.number → w.ended ≡ v.ended ++ joined_passes v u → w.made ≡ v.made → w.known ≤ a → s.turn.number ≡ 0 → s.ended ≡ [] → s.made ≡ [] → s.known ≤ a
      → KeepsNumbers author later a (set (set views id w) other s)
  joins other u w s ne there p q m known p' q' m' known' = let k = r.each id v at in let ku = r.each other u there in record {
    limit = r.limit;
    once = λ n pos. let c = count n pos in let o = r.once n pos in omega arith;
    none_above = λ n l. let c = count n (omega arith) in let o = r.none_above n l in omega arith;
    unwritten = r.unwritten;
    each = stay (λ j d. OwnsEntries author later a d) (set views id w) other s
        (record { mine = λ pos. absurd (omega arith); none_made = λ _. m'; others = λ i e h. absurd (some-ne-none e (sym (ap (λ z. get_elem? z i) (sym q') ∙ h))); known = known' })
        (λ j d _ e. stay (λ j d. OwnsEntries author later a d) views id w
        (record {
          mine = λ pos. subst (λ (z : ℕ). entries_by author z later ≡ w.made) (sym p) (k.mine (omega arith) ∙ sym m);
          none_made = λ z. m ∙ k.none_made (sym p ∙ z);
          others = λ i x h. ⊎_elim (λ (g : get_elem? v.ended i ≡ some x). k.others i x g) (λ (g : (l : ℕ) × (get_elem? (joined_passes v u) l ≡ some x)). from_added x g.0 g.1) (at_append v.ended (joined_passes v u) i x (ap (λ z. get_elem? z i) (sym q) ∙ h));
          known = known;
        }) (λ j d _. r.each j d) j d e);
  }
    where
      zero_added : u.turn.number ≡ 0 → joined_passes v u ≡ u.ended
      zero_added e = ap (λ b. if b then u.ended else ended_pass v u ∷ u.ended) (eq-eqb u.turn.number 0 e)

      some_added : u.turn.number ≢ 0 → joined_passes v u ≡ ended_pass v u ∷ u.ended
      some_added n = ap (λ b. if b then u.ended else ended_pass v u ∷ u.ended) (ne_eqb u.turn.number 0 n)

      added_times : (n : ℕ) → 0 < n → occurrences n (map ended_number (joined_passes v u)) ≡ occurrences n (numbers_of u)
      added_times n pos = dite (ℕ_discrete u.turn.number 0)
          (λ e. ap (λ z. occurrences n (map ended_number z)) (zero_added e) ∙ sym (times_miss n u.turn.number (map ended_number u.ended) (λ is. omega arith)))
          (λ ne. ap (λ z. occurrences n (map ended_number z)) (some_added ne))

      from_added : (x : Ended E) (l : ℕ) → get_elem? (joined_passes v u) l ≡ some x → (0 < x.number) × (entries_by author x.number later ≡ x.made)
      from_added x l h = dite (ℕ_discrete u.turn.number 0)
          (λ e. (r.each other u there).others l x (ap (λ z. get_elem? z l) (sym (zero_added e)) ∙ h))
          (λ nz. in_list nz l (ap (λ z. get_elem? z l) (sym (some_added nz)) ∙ h))
        where
          in_list : u.turn.number ≢ 0 → (l : ℕ) → get_elem? (ended_pass v u ∷ u.ended) l ≡ some x → (0 < x.number) × (entries_by author x.number later ≡ x.made)
          in_list nz Rattle.std.proofs.Common.zero g = subst (λ (z : Ended E). (0 < z.number) × (entries_by author z.number later ≡ z.made)) (some-injective (ended_pass v u) x g) (omega arith, (r.each other u there).mine (omega arith))
          in_list nz (Rattle.std.proofs.Common.suc l) g = (r.each other u there).others l x g

      count : (n : ℕ) → 0 < n → occurrences_in_views n (set (set views id w) other s) ≡ occurrences_in_views n views
      count n pos = let c = census_set n views id v w at in let d = census_set n (set views id w) other u s (set_else views id other w ne ∙ there) in
          let blank : occurrences n (numbers_of s) ≡ 0 = ap (λ (z : ℕ × List (Ended E)). occurrences n (z.0 ∷ map ended_number z.1)) (λ i. (p' i, q' i)) ∙ times_none n pos in
          let wide : occurrences n (numbers_of w) ≡ occurrences n (numbers_of v) + occurrences n (map ended_number (joined_passes v u)) =
          ap (λ (z : ℕ × List (Ended E)). occurrences n (z.0 ∷ map ended_number z.1)) (λ i. (p i, q i)) ∙ (ap (λ z. occurrences n (v.turn.number ∷ z)) (map-append ended_number v.ended (joined_passes v u)) ∙ times_append n (numbers_of v) (map ended_number (joined_passes v u))) in
          let t = added_times n pos in omega arith
