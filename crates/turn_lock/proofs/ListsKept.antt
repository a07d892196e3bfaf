-- Each step keeps the rule of the chronicle.
use Rattle.std.proofs.Common.{◌≡◌, ◌≢◌, ℕ, ◌<◌, ◌≤◌, true, false, List, [], ◌∷◌, ◌++◌, length, set, sym, refl, subst, ⊎_elim, arith, leb, if◌then◌else◌}
use Rattle.std.proofs.lemmas.Bool.{both_ways}
use Rattle.std.proofs.lemmas.Bool.Decides.{leb_tells}
use mathlib.Core.Option.{some, some-ne-none}
use mathlib.Core.List.{IsPrefix}
use lib.ListN.{get_elem?}
use Rattle.atomic_table.proofs.Lists.{at_snoc}
use Rattle.turn_lock.specs.declared.view.View.{View}
use Rattle.turn_lock.specs.declared.view.Ended.{Ended}
use Rattle.turn_lock.specs.declared.view.Turn.{Turn}
use Rattle.turn_lock.specs.inner.Rule.{HasSeen, KeepsLists}
use Rattle.turn_lock.specs.Passes.{longer, split_view, joined_view}
use Rattle.turn_lock.specs.inner.Steps.{spent_view}
use Rattle.turn_lock.proofs.Seats.{stay, at_below, at_snoc_place}
use Rattle.turn_lock.proofs.Prefixes.{prefix_self, prefix_trans, prefix_shorter}

module _ {E : Type 0} where
  sees_more : (first log log' : List E) (v : View E) → IsPrefix log log' → v.turn.found ≡ false → HasSeen first log v → HasSeen first log' v
  sees_more first log log' v more none k = record {
    first_is = k.first_is;
    from_first = k.from_first;
    from_start = k.from_start;
    since_start = k.since_start;
    so_far = prefix_trans v.seen log log' k.so_far more;
    each_find = k.each_find;
    rising = k.rising;
    whole = λ e. absurd (both_ways v.turn.found none e);
  }

module _ {E : Type 0} (first log : List E) (count : ℕ) (views : List (View E)) (r : KeepsLists first log count views) (id : ℕ) (v : View E) (at : get_elem? views id ≡ some v) where
  -- a step that sees nothing new
  pub unseen : (t : Turn) (made : List E) (ended : List (Ended E)) (known : ℕ) → (t.found ≡ true → v.turn.found ≡ true)
      → KeepsLists first log count (set views id (record v { turn = t; made = made; ended = ended; known = known }))
  unseen t made ended known no_more = let w : View E = record v { turn = t; made = made; ended = ended; known = known } in record {
    counted = r.counted;
    grows = r.grows;
    each = stay (λ j d. d.live ≡ true → HasSeen first log d) views id w
        (λ live. let k = r.each id v at live in record { first_is = k.first_is; from_first = k.from_first; from_start = k.from_start; since_start = k.since_start; so_far = k.so_far; each_find = k.each_find; rising = k.rising; whole = λ e. k.whole (no_more e) })
        (λ j d _. r.each j d);
  }

  pub sees_all : (t : Turn) → v.live ≡ true → KeepsLists first log count (set views id (record v { turn = t; seen = log; finds = v.finds ++ log ∷ [] }))
  sees_all t live = let w : View E = record v { turn = t; seen = log; finds = v.finds ++ log ∷ [] } in let k = r.each id v at live in record {
    counted = r.counted;
    grows = r.grows;
    each = stay (λ j d. d.live ≡ true → HasSeen first log d) views id w
        (λ _. record {
          first_is = k.first_is;
          from_first = r.grows;
          from_start = k.from_start;
          since_start = prefix_trans v.start v.seen log k.since_start k.so_far;
          so_far = prefix_self log;
          each_find = λ i f e. ⊎_elim (λ (h : get_elem? v.finds i ≡ some f). prefix_trans f v.seen log (k.each_find i f h) k.so_far) (λ (h : log ≡ f). subst (λ z. IsPrefix z log) h (prefix_self log)) (at_snoc v.finds log f i e);
          rising = λ i j f g le p q. ⊎_elim
              (λ (a : get_elem? v.finds i ≡ some f). ⊎_elim
              (λ (b : get_elem? v.finds j ≡ some g). k.rising i j f g le a b)
              (λ (b : (j ≡ length v.finds) × (log ≡ g)). subst (IsPrefix f) b.1 (prefix_trans f v.seen log (k.each_find i f a) k.so_far))
              (at_snoc_place v.finds log g j q))
              (λ (a : (i ≡ length v.finds) × (log ≡ f)). ⊎_elim
              (λ (b : get_elem? v.finds j ≡ some g). let l = at_below v.finds j g b in let s = a.0 in absurd (omega arith))
              (λ (b : (j ≡ length v.finds) × (log ≡ g)). subst (λ z. IsPrefix z g) a.1 (subst (IsPrefix log) b.1 (prefix_self log)))
              (at_snoc_place v.finds log g j q))
              (at_snoc_place v.finds log f i p);
          whole = λ _. refl;
        })
        (λ j d _. r.each j d);
  }

  pub notes : (log' made : List E) (count' : ℕ) → v.live ≡ true → IsPrefix log log' → count' ≡ length log' → ((j : ℕ) (d : View E) → j ≢ id → get_elem? views j ≡ some d → d.turn.found ≡ false)
      → KeepsLists first log' count' (set views id (record v { seen = log'; made = made }))
  notes log' made count' live more counted others = let w : View E = record v { seen = log'; made = made } in let k = r.each id v at live in record {
    counted = counted;
    grows = prefix_trans first log log' r.grows more;
    each = stay (λ j d. d.live ≡ true → HasSeen first log' d) views id w
        (λ _. record {
          first_is = k.first_is;
          from_first = prefix_trans first log log' r.grows more;
          from_start = k.from_start;
          since_start = prefix_trans v.start log log' (prefix_trans v.start v.seen log k.since_start k.so_far) more;
          so_far = prefix_self log';
          each_find = λ i f e. prefix_trans f log log' (prefix_trans f v.seen log (k.each_find i f e) k.so_far) more;
          rising = k.rising;
          whole = λ _. refl;
        })
        (λ j d other e is. sees_more first log log' d more (others j d other e) (r.each j d e is));
  }

  pub splits : v.live ≡ true → KeepsLists first log count (views ++ split_view v ∷ [])
  splits live = let k = r.each id v at live in record {
    counted = r.counted;
    grows = r.grows;
    each = λ j d e. ⊎_elim (r.each j d) (λ (t : split_view v ≡ d). subst (λ (z : View E). z.live ≡ true → HasSeen first log z) t (λ _. record {
      first_is = k.first_is;
      from_first = k.from_first;
      from_start = k.from_first;
      since_start = prefix_self v.seen;
      so_far = k.so_far;
      each_find = λ i f h. absurd (some-ne-none f (sym h));
      rising = λ i l f g _ h _. absurd (some-ne-none f (sym h));
      whole = λ h. absurd (both_ways false refl h);
    })) (at_snoc views (split_view v) d j e);
  }

  pub joins : (other : ℕ) (u : View E) → other ≢ id → get_elem? views other ≡ some u → v.live ≡ true → u.live ≡ true → v.turn.found ≡ false → KeepsLists first log count (set (set views id (joined_view v u)) other spent_view)
  joins other u ne there live live' outside = let k = r.each id v at live in let ku = r.each other u there live' in record {
    counted = r.counted;
    grows = r.grows;
    each = stay (λ j d. d.live ≡ true → HasSeen first log d) (set views id (joined_view v u)) other spent_view (λ e. absurd (both_ways false refl e))
        (λ j d _ e. stay (λ j d. d.live ≡ true → HasSeen first log d) views id (joined_view v u)
        (λ _. record {
          first_is = k.first_is;
          from_first = which (λ z. IsPrefix first z) (λ _. ku.from_first) (λ _. k.from_first);
          from_start = k.from_start;
          since_start = which (λ z. IsPrefix v.start z) (λ le. prefix_trans v.start v.seen u.seen k.since_start (prefix_shorter v.seen u.seen log k.so_far ku.so_far le)) (λ _. k.since_start);
          so_far = which (λ z. IsPrefix z log) (λ _. ku.so_far) (λ _. k.so_far);
          each_find = λ i f h. which (λ z. IsPrefix f z) (λ le. prefix_trans f v.seen u.seen (k.each_find i f h) (prefix_shorter v.seen u.seen log k.so_far ku.so_far le)) (λ _. k.each_find i f h);
          rising = k.rising;
          whole = λ h. absurd (both_ways v.turn.found outside h);
        }) (λ j d _. r.each j d) j d e);
  }
    where
      which : (P : List E → Type 0) → (length v.seen ≤ length u.seen → P u.seen) → (length u.seen < length v.seen → P v.seen) → P (longer v.seen u.seen)
      which P yes_it no_it = ⊎_elim
          (λ (t : (leb (length v.seen) (length u.seen) ≡ true) × (length v.seen ≤ length u.seen)). subst (λ b. P (if b then u.seen else v.seen)) (sym t.0) (yes_it t.1))
          (λ (t : (leb (length v.seen) (length u.seen) ≡ false) × (length u.seen < length v.seen)). subst (λ b. P (if b then u.seen else v.seen)) (sym t.0) (no_it t.1))
          (leb_tells (length v.seen) (length u.seen))
