-- Each step keeps what is seen of the entries of each number.
use Rattle.std.proofs.Common.{◌≡◌, ◌≢◌, ℕ, ◌+◌, ◌<◌, ◌≤◌, true, false, List, [], ◌∷◌, ◌++◌, map, length, set, sym, refl, ap, ◌∙◌, subst, ⊎_elim, arith, leb, if◌then◌else◌, eq-eqb, ne_eqb}
use Rattle.std.proofs.lemmas.Bool.{both_ways}
use Rattle.std.proofs.lemmas.Bool.Decides.{leb_tells}
use mathlib.Core.Logic.{dite}
use mathlib.Core.Option.{some, some-injective, some-ne-none}
use mathlib.Core.List.{IsPrefix}
use native.Mathlib.Decide.{ℕ_discrete}
use lib.ListN.{get_elem?}
use Rattle.atomic_table.proofs.Lists.{at_snoc}
use Rattle.turn_lock.specs.declared.view.View.{View}
use Rattle.turn_lock.specs.declared.view.Ended.{Ended}
use Rattle.turn_lock.specs.declared.view.Turn.{Turn}
use Rattle.turn_lock.specs.Chronicles.{AreUpTo, entries_by, entries_past}
use Rattle.turn_lock.specs.Passes.{longer, split_view, joined_view, joined_passes, ended_pass, HasJust, HasEnded}
use Rattle.turn_lock.specs.inner.Rule.{HasSeen, KeepsLists, OwnsEntries, KeepsNumbers, SeesItsEntries, EachSeesItsEntries}
use Rattle.turn_lock.specs.inner.Steps.{spent_view}
use Rattle.turn_lock.proofs.Seats.{stay, at_append}
use Rattle.turn_lock.proofs.Counts.{by_append, up_to}
use Rattle.turn_lock.proofs.Prefixes.{prefix_self, prefix_trans, prefix_shorter, prefix_whole, prefix_length, past_longer}

module _ {E : Type 0} (author : E → ℕ) (first : List E) where
  -- a part of a list has no more entries of a number than the whole
  pub front_by : (n : ℕ) (part whole : List E) → IsPrefix first part → IsPrefix part whole → IsPrefix (entries_by author n (entries_past first part)) (entries_by author n (entries_past first whole))
  front_by n part whole p q = (entries_by author n q.0, sym (by_append author n (entries_past first part) q.0) ∙ ap (entries_by author n) (sym (past_longer first part q.0 p) ∙ ap (entries_past first) q.1))

  pub none_by : (n : ℕ) (part whole : List E) → IsPrefix first part → IsPrefix part whole → entries_by author n (entries_past first whole) ≡ [] → entries_by author n (entries_past first part) ≡ []
  none_by n part whole p q none = prefix_whole (entries_by author n (entries_past first part)) [] (subst (IsPrefix (entries_by author n (entries_past first part))) none (front_by n part whole p q)) (omega arith)

  -- a part between two that have the same ones has them too
  between : (n : ℕ) (made short mid whole : List E) → IsPrefix first short → IsPrefix short mid → IsPrefix mid whole → entries_by author n (entries_past first short) ≡ made → entries_by author n (entries_past first whole) ≡ made → entries_by author n (entries_past first mid) ≡ made
  between n made short mid whole p q l low high =
      let has : List E = entries_by author n (entries_past first mid) in
      let above : IsPrefix has made = subst (IsPrefix has) high (front_by n mid whole (prefix_trans first short mid p q) l) in
      let below : IsPrefix made has = subst (λ z. IsPrefix z has) low (front_by n short mid p q) in
      prefix_whole has made above (prefix_length made has below)

  -- what is just a number's up to one list is so up to a longer one that has no more of its entries
  pub just_later : (start seen later whole : List E) (n : ℕ) (made : List E) → IsPrefix seen later → IsPrefix later whole → entries_by author n (entries_past first whole) ≡ made → HasJust author first start seen n made → HasJust author first start later n made
  just_later start seen later whole n made more within all k = record {
    from_first = k.from_first;
    since_start = prefix_trans start seen later k.since_start more;
    none_before = k.none_before;
    just = between n made seen later whole (prefix_trans first start seen k.from_first k.since_start) more within k.just all;
  }

  pub ended_later : (seen later whole : List E) (e : Ended E) → IsPrefix seen later → IsPrefix later whole → entries_by author e.number (entries_past first whole) ≡ e.made → HasEnded author first seen e → HasEnded author first later e
  ended_later seen later whole e more within all k = record {
    some = k.some;
    its = just_later e.start seen later whole e.number e.made more within all k.its;
    within = prefix_trans e.seen seen later k.within more;
    host_within = prefix_trans e.host_seen seen later k.host_within more;
  }

  -- who sees the whole list
  pub whole_sees : (log : List E) (a : ℕ) (v : View E) (t : Turn) (finds : List (List E)) (made seen : List E) → t.number ≡ v.turn.number → seen ≡ log → IsPrefix first v.start → IsPrefix v.start v.seen → IsPrefix v.seen log → SeesItsEntries author first v
      → (let w : View E = record v { turn = t; seen = seen; finds = finds; made = made } in OwnsEntries author (entries_past first log) a w → SeesItsEntries author first w)
  whole_sees log a v t finds made seen same is from since within k owns =
      let more : IsPrefix v.seen seen = subst (IsPrefix v.seen) (sym is) within in
      let past : entries_past first log ≡ entries_past first seen = ap (entries_past first) (sym is) in record {
        own = λ pos. record {
          from_first = from;
          since_start = prefix_trans v.start v.seen seen since more;
          none_before = subst (λ (n : ℕ). entries_by author n (entries_past first v.start) ≡ []) (sym same) (k.own (omega arith)).none_before;
          just = subst (λ l. entries_by author t.number l ≡ made) past (owns.mine pos);
        };
        others = λ i e h. ended_later v.seen seen seen e more (prefix_self seen) (subst (λ l. entries_by author e.number l ≡ e.made) past (owns.others i e h).1) (k.others i e h);
      }

  pub restaged : (v : View E) (t : Turn) (known : ℕ) → t.number ≡ v.turn.number → SeesItsEntries author first v → SeesItsEntries author first (record v { turn = t; known = known })
  restaged v t known same k = record {
    own = λ pos. subst (λ (n : ℕ). HasJust author first v.start v.seen n v.made) (sym same) (k.own (omega arith));
    others = k.others;
  }

  pub enrolled : (log : List E) (a n : ℕ) (v : View E) (t : Turn) (known : ℕ) → OwnsEntries author (entries_past first log) a v → v.turn.number ≡ 0 → t.number ≡ n → entries_by author n (entries_past first log) ≡ [] → HasSeen first log v → SeesItsEntries author first v → SeesItsEntries author first (record v { turn = t; known = known })
  enrolled log a n v t known owns none is unwritten seen k = record {
    own = λ pos. subst (λ (m : ℕ). HasJust author first v.start v.seen m v.made) (sym is) (record {
      from_first = seen.from_start;
      since_start = seen.since_start;
      none_before = none_by n v.start log seen.from_start (prefix_trans v.start v.seen log seen.since_start seen.so_far) unwritten;
      just = none_by n v.seen log seen.from_first seen.so_far unwritten ∙ sym (owns.none_made none);
    });
    others = k.others;
  }

  -- no entry that is seen has an author above the last number that is given out
  pub seen_up_to : (log : List E) (most : ℕ) (v : View E) → HasSeen first log v → ((n : ℕ) → most < n → entries_by author n (entries_past first log) ≡ []) → AreUpTo author most (entries_past v.first v.seen)
  seen_up_to log most v seen unwritten = subst (λ l. AreUpTo author most (entries_past l v.seen)) (sym seen.first_is)
      (up_to author most (entries_past first v.seen) (λ n above. none_by n v.seen log seen.from_first seen.so_far (unwritten n above)))

  pub splits : (views : List (View E)) (v : View E) → EachSeesItsEntries author first views → EachSeesItsEntries author first (views ++ split_view v ∷ [])
  splits views v sees j d e = ⊎_elim (sees j d) (λ (t : split_view v ≡ d). subst (λ (z : View E). z.live ≡ true → SeesItsEntries author first z) t (λ _. record {
    own = λ pos. absurd (omega arith);
    others = λ i e h. absurd (some-ne-none e (sym h));
  })) (at_snoc views (split_view v) d j e)

-- of each of the passes that another brings
from_joined : {E : Type 0} (v u : View E) (P : Ended E → Type 0) → (0 < u.turn.number → P (ended_pass v u)) → ((l : ℕ) (x : Ended E) → get_elem? u.ended l ≡ some x → P x) → (l : ℕ) (x : Ended E) → get_elem? (joined_passes v u) l ≡ some x → P x
from_joined {E} v u P own ended l x h = dite (ℕ_discrete u.turn.number 0)
    (λ e. ended l x (ap (λ z. get_elem? z l) (sym (ap (λ b. if b then u.ended else ended_pass v u ∷ u.ended) (eq-eqb u.turn.number 0 e))) ∙ h))
    (λ ne. in_list ne l (ap (λ z. get_elem? z l) (sym (ap (λ b. if b then u.ended else ended_pass v u ∷ u.ended) (ne_eqb u.turn.number 0 ne))) ∙ h))
  where
    in_list : u.turn.number ≢ 0 → (l : ℕ) → get_elem? (ended_pass v u ∷ u.ended) l ≡ some x → P x
    in_list ne Rattle.std.proofs.Common.zero g = subst P (some-injective (ended_pass v u) x g) (own (omega arith))
    in_list ne (Rattle.std.proofs.Common.suc l) g = ended l x g

module _ {E : Type 0} (author : E → ℕ) (first log : List E) (count a : ℕ) (views : List (View E)) (lists : KeepsLists first log count views) (numbers : KeepsNumbers author (entries_past first log) a views) (sees : EachSeesItsEntries author first views) (id : ℕ) (v : View E) (at : get_elem? views id ≡ some v) (other : ℕ) (u : View E) (there : get_elem? views other ≡ some u) (live : v.live ≡ true) (live' : u.live ≡ true) where
  which : (P : List E → Type 0) → (length v.seen ≤ length u.seen → P u.seen) → (length u.seen < length v.seen → P v.seen) → P (longer v.seen u.seen)
  which P yes_it no_it = ⊎_elim
      (λ (t : (leb (length v.seen) (length u.seen) ≡ true) × (length v.seen ≤ length u.seen)). subst (λ b. P (if b then u.seen else v.seen)) (sym t.0) (yes_it t.1))
      (λ (t : (leb (length v.seen) (length u.seen) ≡ false) × (length u.seen < length v.seen)). subst (λ b. P (if b then u.seen else v.seen)) (sym t.0) (no_it t.1))
      (leb_tells (length v.seen) (length u.seen))

  kv : HasSeen first log v
  kv = lists.each id v at live

  ku : HasSeen first log u
  ku = lists.each other u there live'

  abbrev both : List E
  both = longer v.seen u.seen

  within : IsPrefix both log
  within = which (λ z. IsPrefix z log) (λ _. ku.so_far) (λ _. kv.so_far)

  has_first : IsPrefix v.seen both
  has_first = which (IsPrefix v.seen) (λ le. prefix_shorter v.seen u.seen log kv.so_far ku.so_far le) (λ _. prefix_self v.seen)

  has_second : IsPrefix u.seen both
  has_second = which (IsPrefix u.seen) (λ _. prefix_self u.seen) (λ less. prefix_shorter u.seen v.seen log ku.so_far kv.so_far (omega arith))

  joined_sees : SeesItsEntries author first (joined_view v u)
  joined_sees = let nv = numbers.each id v at in let nu = numbers.each other u there in let sv = sees id v at live in let su = sees other u there live' in record {
    own = λ pos. just_later author first v.start v.seen both log v.turn.number v.made has_first within (nv.mine pos) (sv.own pos);
    others = λ i x h. ⊎_elim
        (λ (g : get_elem? v.ended i ≡ some x). ended_later author first v.seen both log x has_first within (nv.others i x g).1 (sv.others i x g))
        (λ (g : (l : ℕ) × (get_elem? (joined_passes v u) l ≡ some x)). from_joined v u (HasEnded author first both)
        (λ pos. record {
          some = pos;
          its = just_later author first u.start u.seen both log u.turn.number u.made has_second within (nu.mine pos) (su.own pos);
          within = has_second;
          host_within = has_first;
        })
        (λ l e k. ended_later author first u.seen both log e has_second within (nu.others l e k).1 (su.others l e k))
        g.0 x g.1)
        (at_append v.ended (joined_passes v u) i x h);
  }

  pub joins : EachSeesItsEntries author first (set (set views id (joined_view v u)) other spent_view)
  joins = stay (λ j d. d.live ≡ true → SeesItsEntries author first d) (set views id (joined_view v u)) other spent_view (λ e. absurd (both_ways false refl e))
      (λ j d _ e. stay (λ j d. d.live ≡ true → SeesItsEntries author first d) views id (joined_view v u) (λ _. joined_sees) (λ j d _. sees j d) j d e)
