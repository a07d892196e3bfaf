-- Each step keeps the rule of the tickets.
use Rattle.std.proofs.Common.{Bool, ◌≡◌, ◌≢◌, ℕ, zero, suc, ◌+◌, ◌-◌, ◌%◌, ◌<◌, ◌≤◌, true, false, List, [], ◌∷◌, ◌++◌, length, get_or, set, sym, refl, ap, ◌∙◌, subst, ⊎_elim, arith, Option, Some, None, length-set, get_or-set_other, get_or-set_same}
use Rattle.std.proofs.lemmas.Option.{none-some, same_Some}
use Rattle.std.proofs.lemmas.Bool.{both_ways}
use Rattle.std.proofs.Math.Nat.{mod-add-mod}
use mathlib.Core.Logic.{dite}
use mathlib.Core.Option.{some, some-injective, some-ne-none}
use mathlib.Core.Option as maybe
use native.Mathlib.Decide.{ℕ_discrete}
use lib.ListN.{get_elem?}
use Rattle.atomic_table.proofs.Lists.{set_else, at_longer, at_snoc, one_turn}
use Rattle.turn_lock.specs.declared.view.Turn.{Turn}
use Rattle.turn_lock.specs.inner.Turns.{ticket_modulus, SeatKnows, NumbersDiffer, NumbersAreSmall, NoneFound, HasTicket, KeepsTurns, turn_outside, opening_turn}
use Rattle.turn_lock.proofs.Pigeon.{pigeon}
use Rattle.turn_lock.proofs.Seats.{set_at, same_at, stay}

abbrev pick : {P : Type 0} → Dec P → ℕ → ℕ → ℕ
pick (yes _) a b = a
pick (no _) a b = b

put : (ℕ → ℕ) → ℕ → ℕ → ℕ → ℕ
put f i c j = pick (ℕ_discrete j i) c (f j)

put_here : (f : ℕ → ℕ) (i c : ℕ) → put f i c i ≡ c
unfolding put
put_here f i c = go (ℕ_discrete i i)
  where
    go : (d : Dec (i ≡ i)) → pick d c (f i) ≡ c
    go (yes _) = refl
    go (no n) = absurd (n refl)

put_else : (f : ℕ → ℕ) (i c j : ℕ) → j ≢ i → put f i c j ≡ f j
unfolding put
put_else f i c j other = go (ℕ_discrete j i)
  where
    go : (d : Dec (j ≡ i)) → pick d c (f j) ≡ f j
    go (yes e) = absurd (other e)
    go (no _) = refl

number_at : List Turn → ℕ → ℕ
number_at [] j = 0
number_at (x ∷ xs) zero = x.number
number_at (x ∷ xs) (suc j) = number_at xs j

number_is : (vs : List Turn) (j : ℕ) (v : Turn) → get_elem? vs j ≡ some v → number_at vs j ≡ v.number
unfolding number_at
number_is [] j v e = absurd (some-ne-none v (sym e))
number_is (x ∷ xs) zero v e = ap (λ (y : Turn). y.number) (some-injective x v e)
number_is (x ∷ xs) (suc j) v e = number_is xs j v e

-- one more, modulo n
wraps : (a n : ℕ) → (a % n + 1) % n ≡ (a + 1) % n
wraps a n = mod-add-mod a n 1

unticketed : (served drawn : ℕ) (owner : ℕ → ℕ) (j n : ℕ) → SeatKnows served drawn owner j (turn_outside n)
unticketed served drawn owner j n = record { ticket = λ t e. absurd (none-some t e); turn = λ e. absurd (both_ways false refl e); inside = λ e. absurd (both_ways false refl e); unnumbered = λ _. refl }

none_found : (vs : List Turn) (me : ℕ) (v w : Turn) → get_elem? vs me ≡ some v → w.found ≡ v.found → NoneFound (set vs me w) → NoneFound vs
none_found vs me v w at same none j d e = dite (ℕ_discrete j me)
    (λ is. let here : get_elem? vs me ≡ some d = ap (get_elem? vs) (sym is) ∙ e in ap (λ (z : Turn). z.found) (same_at vs me d v here at) ∙ (sym same ∙ none me w (set_at vs me w v at)))
    (λ other. none j d (set_else vs me j w other ∙ e))

ticket_stays : (vs : List Turn) (me : ℕ) (w : Turn) (j t : ℕ) → j ≢ me → HasTicket vs j t → HasTicket (set vs me w) j t
ticket_stays vs me w j t other h = (h.0, set_else vs me j w other ∙ h.1, h.2)

module _ {V : Type 0} (Fits : V → Type 0) (words : List ℕ) (homes : List (maybe.Option (Option V))) (vs : List Turn) (r : KeepsTurns Fits words homes vs) (id : ℕ) (v : Turn) (at : get_elem? vs id ≡ some v) where
  pub draws : v.ticket ≡ None → v.own ≡ false → v.found ≡ false → 0 < v.number
      → KeepsTurns Fits (set words 0 ((get_or words 0 0 + 1) % ticket_modulus)) homes (set vs id (record v { ticket = Some r.drawn }))
  draws none_yet not_own not_found numbered = let w : Turn = record v { ticket = Some r.drawn } in let wide = r.wide in let known = r.each_seat id v at in let order = r.order in record {
    served = r.served;
    drawn = r.drawn + 1;
    owner = put r.owner r.drawn id;
    wide = length-set words 0 ((get_or words 0 0 + 1) % ticket_modulus) ∙ r.wide;
    next = get_or-set_same words 0 ((get_or words 0 0 + 1) % ticket_modulus) 0 (omega arith) ∙ (ap (λ (z : ℕ). (z + 1) % ticket_modulus) r.next ∙ wraps r.drawn ticket_modulus);
    serving = get_or-set_other words 0 1 ((get_or words 0 0 + 1) % ticket_modulus) 0 (λ e. omega arith) ∙ r.serving;
    order = omega arith;
    each_ticket = λ t a b. dite (ℕ_discrete t r.drawn)
        (λ e. subst (λ (z : ℕ × ℕ). HasTicket (set vs id w) z.0 z.1) (λ i. ((sym (put_here r.owner r.drawn id) ∙ ap (put r.owner r.drawn id) (sym e)) i, sym e i)) (w, set_at vs id w v at, refl))
        (λ other. let h = r.each_ticket t a (omega arith) in subst (λ (j : ℕ). HasTicket (set vs id w) j t) (sym (put_else r.owner r.drawn id t other))
        (ticket_stays vs id w (r.owner t) t (λ is. none-some t (sym none_yet ∙ (ap (λ (z : Turn). z.ticket) (same_at vs id v h.0 at (ap (get_elem? vs) (sym is) ∙ h.1)) ∙ h.2))) h));
    each_seat = stay (SeatKnows r.served (r.drawn + 1) (put r.owner r.drawn id)) vs id w
        (record {
          ticket = λ t e. let same : r.drawn ≡ t = same_Some r.drawn t e in (omega arith, omega arith, ap (put r.owner r.drawn id) (sym same) ∙ put_here r.owner r.drawn id);
          turn = λ e. absurd (both_ways v.own not_own e);
          inside = known.inside;
          unnumbered = λ e. absurd (omega arith);
        })
        (λ j d other e. let k = r.each_seat j d e in record {
          ticket = λ t h. let b = k.ticket t h in let c : t < r.drawn = b.1 in (b.0, omega arith, put_else r.owner r.drawn id t (λ is. omega arith) ∙ b.2);
          turn = k.turn;
          inside = k.inside;
          unnumbered = k.unnumbered;
        });
    single = r.single;
    hollow = stay (λ j d. d.hollow ≡ true → (d.found ≡ true) × (homes ≡ some None ∷ [])) vs id w (r.hollow id v at) (λ j d _. r.hollow j d);
    home = λ none. r.home (none_found vs id v w at refl none);
  }

  -- fewer than 2 to the 32 tickets are out
  pub bounded : NumbersDiffer vs → NumbersAreSmall vs → r.drawn ≤ r.served + 4294967295
  bounded apart small = let order = r.order in let p : r.drawn - r.served ≤ 4294967295 = pigeon (r.drawn - r.served) 4294967295 (λ i. number_at vs (r.owner (r.served + i)) - 1)
      (λ i l. let h = holder i l in let k = small _ h.0 h.1 in let n = number_is vs (r.owner (r.served + i)) h.0 h.1 in omega arith)
      (λ i j l k e. let a = holder i l in let b = holder j k in let p = number_is vs (r.owner (r.served + i)) a.0 a.1 in let q = number_is vs (r.owner (r.served + j)) b.0 b.1 in
      let pa = positive i l in let pb = positive j k in let same : a.0.number ≡ b.0.number = omega arith in
      let seat : r.owner (r.served + i) ≡ r.owner (r.served + j) = apart _ _ a.0 b.0 a.1 b.1 same pa in
      let view : a.0 ≡ b.0 = same_at vs (r.owner (r.served + j)) a.0 b.0 (ap (get_elem? vs) (sym seat) ∙ a.1) b.1 in
      let t : r.served + i ≡ r.served + j = same_Some (r.served + i) (r.served + j) (sym a.2 ∙ (ap (λ (z : Turn). z.ticket) view ∙ b.2)) in omega arith) in omega arith
    where
      holder : (i : ℕ) → i < r.drawn - r.served → HasTicket vs (r.owner (r.served + i)) (r.served + i)
      holder i l = r.each_ticket (r.served + i) (omega arith) (omega arith)

      positive : (i : ℕ) (l : i < r.drawn - r.served) → 0 < (holder i l).0.number
      positive i l = let h = holder i l in let k = r.each_seat _ h.0 h.1 in dite (ℕ_discrete h.0.number 0) (λ e. absurd (none-some (r.served + i) (sym (k.unnumbered e) ∙ h.2))) (λ ne. omega arith)

  -- a ticket that is out and has the number served is the one whose turn it is
  pub is_served : NumbersDiffer vs → NumbersAreSmall vs → (t : ℕ) → v.ticket ≡ Some t → get_or words 1 0 ≡ t % ticket_modulus → t ≡ r.served
  is_served apart small t e same = let k = (r.each_seat id v at).ticket t e in let b = bounded apart small in let c = k.1 in sym (one_turn r.served t ticket_modulus k.0 (omega arith) (sym r.serving ∙ same))

  pub looks : NumbersDiffer vs → NumbersAreSmall vs → (t : ℕ) → v.ticket ≡ Some t → get_or words 1 0 ≡ t % ticket_modulus → KeepsTurns Fits words homes (set vs id (record v { own = true }))
  looks apart small t e same = let w : Turn = record v { own = true } in let known = r.each_seat id v at in record {
    served = r.served;
    drawn = r.drawn;
    owner = r.owner;
    wide = r.wide;
    next = r.next;
    serving = r.serving;
    order = r.order;
    each_ticket = λ u a b. let h = r.each_ticket u a b in dite (ℕ_discrete (r.owner u) id)
        (λ is. let here : v ≡ h.0 = same_at vs id v h.0 at (ap (get_elem? vs) (sym is) ∙ h.1) in subst (λ (j : ℕ). HasTicket (set vs id w) j u) (sym is) (w, set_at vs id w v at, ap (λ (z : Turn). z.ticket) here ∙ h.2))
        (λ other. ticket_stays vs id w (r.owner u) u other h);
    each_seat = stay (SeatKnows r.served r.drawn r.owner) vs id w
        (record { ticket = known.ticket; turn = λ _. e ∙ ap (λ (z : ℕ). Some z) (is_served apart small t e same); inside = λ _. refl; unnumbered = known.unnumbered })
        (λ j d _. r.each_seat j d);
    single = r.single;
    hollow = stay (λ j d. d.hollow ≡ true → (d.found ≡ true) × (homes ≡ some None ∷ [])) vs id w (r.hollow id v at) (λ j d _. r.hollow j d);
    home = λ none. r.home (none_found vs id v w at refl none);
  }

  pub only_owner : v.own ≡ true → (j : ℕ) (d : Turn) → get_elem? vs j ≡ some d → d.own ≡ true → j ≡ id
  only_owner mine j d e own = let a = ((r.each_seat id v at).ticket r.served ((r.each_seat id v at).turn mine)).2 in let b = ((r.each_seat j d e).ticket r.served ((r.each_seat j d e).turn own)).2 in sym b ∙ a

  -- where the turn is its own and it has not found, the slot is at home with a value
  pub at_home : v.own ≡ true → v.found ≡ false → (x : V) × (homes ≡ some (Some x) ∷ []) × Fits x
  at_home mine not_yet = r.home (λ j d e. none j d e d.found refl)
    where
      none : (j : ℕ) (d : Turn) → get_elem? vs j ≡ some d → (b : Bool) → d.found ≡ b → d.found ≡ false
      none j d e false is = is
      none j d e true is = let same : j ≡ id = only_owner mine j d e ((r.each_seat j d e).inside is) in
          absurd (both_ways v.found not_yet (ap (λ (z : Turn). z.found) (same_at vs id v d at (ap (get_elem? vs) (sym same) ∙ e)) ∙ is))

  pub finds : v.own ≡ true → v.found ≡ false → KeepsTurns Fits words (set homes 0 maybe.none) (set vs id (record v { found = true }))
  finds mine not_yet = let w : Turn = record v { found = true } in let known = r.each_seat id v at in record {
    served = r.served;
    drawn = r.drawn;
    owner = r.owner;
    wide = r.wide;
    next = r.next;
    serving = r.serving;
    order = r.order;
    each_ticket = λ u a b. let h = r.each_ticket u a b in dite (ℕ_discrete (r.owner u) id)
        (λ is. let here : v ≡ h.0 = same_at vs id v h.0 at (ap (get_elem? vs) (sym is) ∙ h.1) in subst (λ (j : ℕ). HasTicket (set vs id w) j u) (sym is) (w, set_at vs id w v at, ap (λ (z : Turn). z.ticket) here ∙ h.2))
        (λ other. ticket_stays vs id w (r.owner u) u other h);
    each_seat = stay (SeatKnows r.served r.drawn r.owner) vs id w
        (record { ticket = known.ticket; turn = known.turn; inside = λ _. mine; unnumbered = known.unnumbered })
        (λ j d _. r.each_seat j d);
    single = length-set homes 0 maybe.none ∙ r.single;
    hollow = λ j d e h. absurd (out_of j d e h);
    home = λ none. absurd (both_ways true (none id w (set_at vs id w v at)) refl);
  }
    where
      out_of : (j : ℕ) (d : Turn) → get_elem? (set vs id (let z : Turn = record v { found = true } in z)) j ≡ some d → d.hollow ≡ true → ⊥
      out_of = stay (λ j d. d.hollow ≡ true → ⊥) vs id (let z : Turn = record v { found = true } in z) (λ h. both_ways v.found not_yet (r.hollow id v at h).0)
          (λ j d other e h. other (only_owner mine j d e ((r.each_seat j d e).inside (r.hollow j d e h).0)))

  -- the pass that opened the lock takes the slot, which is empty
  pub opens : v.hollow ≡ true → KeepsTurns Fits words (set homes 0 maybe.none) (set vs id (record v { hollow = false }))
  opens h = let w : Turn = record v { hollow = false } in let known = r.each_seat id v at in let out = (r.hollow id v at h).0 in record {
    served = r.served;
    drawn = r.drawn;
    owner = r.owner;
    wide = r.wide;
    next = r.next;
    serving = r.serving;
    order = r.order;
    each_ticket = λ u a b. let h = r.each_ticket u a b in dite (ℕ_discrete (r.owner u) id)
        (λ is. let here : v ≡ h.0 = same_at vs id v h.0 at (ap (get_elem? vs) (sym is) ∙ h.1) in subst (λ (j : ℕ). HasTicket (set vs id w) j u) (sym is) (w, set_at vs id w v at, ap (λ (z : Turn). z.ticket) here ∙ h.2))
        (λ other. ticket_stays vs id w (r.owner u) u other h);
    each_seat = stay (SeatKnows r.served r.drawn r.owner) vs id w (record { ticket = known.ticket; turn = known.turn; inside = known.inside; unnumbered = known.unnumbered }) (λ j d _. r.each_seat j d);
    single = length-set homes 0 maybe.none ∙ r.single;
    hollow = stay (λ j d. d.hollow ≡ true → (d.found ≡ true) × (set homes 0 maybe.none ≡ some None ∷ [])) vs id w (λ e. absurd (both_ways false refl e))
        (λ j d other e g. absurd (other (only_owner (known.inside out) j d e ((r.each_seat j d e).inside (r.hollow j d e g).0))));
    home = λ none. absurd (both_ways v.found (none id w (set_at vs id w v at)) out);
  }

  pub ends : (x : V) → Fits x → v.own ≡ true → KeepsTurns Fits (set words 1 ((get_or words 1 0 + 1) % ticket_modulus)) (set homes 0 (some (Some x))) (set vs id (turn_outside v.number))
  ends x fits mine = let w : Turn = turn_outside v.number in let wide = r.wide in let known = r.each_seat id v at in let ticket : v.ticket ≡ Some r.served = known.turn mine in let k = known.ticket r.served ticket in let below : r.served < r.drawn = k.1 in record {
    served = r.served + 1;
    drawn = r.drawn;
    owner = r.owner;
    wide = length-set words 1 ((get_or words 1 0 + 1) % ticket_modulus) ∙ r.wide;
    next = get_or-set_other words 1 0 ((get_or words 1 0 + 1) % ticket_modulus) 0 (λ e. omega arith) ∙ r.next;
    serving = get_or-set_same words 1 ((get_or words 1 0 + 1) % ticket_modulus) 0 (omega arith) ∙ (ap (λ (z : ℕ). (z + 1) % ticket_modulus) r.serving ∙ wraps r.served ticket_modulus);
    order = omega arith;
    each_ticket = λ t a b. let h = r.each_ticket t (omega arith) b in ticket_stays vs id w (r.owner t) t
        (λ is. let here : v ≡ h.0 = same_at vs id v h.0 at (ap (get_elem? vs) (sym is) ∙ h.1) in let same : r.served ≡ t = same_Some r.served t (sym ticket ∙ (ap (λ (z : Turn). z.ticket) here ∙ h.2)) in omega arith) h;
    each_seat = stay (SeatKnows (r.served + 1) r.drawn r.owner) vs id w
        (record { ticket = λ t e. absurd (none-some t e); turn = λ e. absurd (both_ways false refl e); inside = λ e. absurd (both_ways false refl e); unnumbered = λ _. refl })
        (λ j d other e. let q = r.each_seat j d e in let not_own : d.own ≡ true → ⊥ = λ own. other (only_owner mine j d e own) in record {
          ticket = λ t h. let b = q.ticket t h in let c : r.served ≤ t = b.0 in let ne : t ≢ r.served = λ is. other (sym b.2 ∙ (ap r.owner is ∙ k.2)) in (omega arith, b.1, b.2);
          turn = λ own. absurd (not_own own);
          inside = q.inside;
          unnumbered = q.unnumbered;
        });
    single = length-set homes 0 (some (Some x)) ∙ r.single;
    hollow = stay (λ j d. d.hollow ≡ true → (d.found ≡ true) × (set homes 0 (some (Some x)) ≡ some None ∷ [])) vs id w (λ e. absurd (both_ways false refl e)) (λ j d other e h. absurd (other (only_owner mine j d e ((r.each_seat j d e).inside (r.hollow j d e h).0))));
    home = λ _. (x, back homes r.single, fits);
  }
    where
      back : (hs : List (maybe.Option (Option V))) → length hs ≡ 1 → set hs 0 (some (Some x)) ≡ some (Some x) ∷ []
      back [] e = absurd (omega arith)
      back (h ∷ []) e = refl
      back (h ∷ g ∷ gs) e = absurd (omega arith)

  -- the value may change while it is out
  pub refits : (Fits' : V → Type 0) (words' : List ℕ) → length words' ≡ length words → get_or words' 0 0 ≡ get_or words 0 0 → get_or words' 1 0 ≡ get_or words 1 0 → v.found ≡ true → KeepsTurns Fits' words' homes vs
  refits Fits' words' long first second out = record {
    served = r.served;
    drawn = r.drawn;
    owner = r.owner;
    wide = long ∙ r.wide;
    next = first ∙ r.next;
    serving = second ∙ r.serving;
    order = r.order;
    each_ticket = r.each_ticket;
    each_seat = r.each_seat;
    single = r.single;
    hollow = r.hollow;
    home = λ none. absurd (both_ways v.found (none id v at) out);
  }

  pub rewords : (words' : List ℕ) → length words' ≡ length words → get_or words' 0 0 ≡ get_or words 0 0 → get_or words' 1 0 ≡ get_or words 1 0 → KeepsTurns Fits words' homes vs
  rewords words' long first second = record {
    served = r.served;
    drawn = r.drawn;
    owner = r.owner;
    wide = long ∙ r.wide;
    next = first ∙ r.next;
    serving = second ∙ r.serving;
    order = r.order;
    each_ticket = r.each_ticket;
    each_seat = r.each_seat;
    single = r.single;
    hollow = r.hollow;
    home = r.home;
  }

  -- while it has no ticket its number may change
  pub renumbers : (n : ℕ) → v.ticket ≡ None → v.found ≡ false → KeepsTurns Fits words homes (set vs id (turn_outside n))
  renumbers n none_yet not_found = let w : Turn = turn_outside n in record {
    served = r.served;
    drawn = r.drawn;
    owner = r.owner;
    wide = r.wide;
    next = r.next;
    serving = r.serving;
    order = r.order;
    each_ticket = λ t a b. let h = r.each_ticket t a b in ticket_stays vs id w (r.owner t) t (λ is. none-some t (sym none_yet ∙ (ap (λ (z : Turn). z.ticket) (same_at vs id v h.0 at (ap (get_elem? vs) (sym is) ∙ h.1)) ∙ h.2))) h;
    each_seat = stay (SeatKnows r.served r.drawn r.owner) vs id w (unticketed r.served r.drawn r.owner id n) (λ j d _. r.each_seat j d);
    single = r.single;
    hollow = stay (λ j d. d.hollow ≡ true → (d.found ≡ true) × (homes ≡ some None ∷ [])) vs id w (λ e. absurd (both_ways false refl e)) (λ j d _. r.hollow j d);
    home = λ none. r.home (none_found vs id v w at (sym not_found) none);
  }

  pub arrives : KeepsTurns Fits words homes (vs ++ turn_outside 0 ∷ [])
  arrives = record {
    served = r.served;
    drawn = r.drawn;
    owner = r.owner;
    wide = r.wide;
    next = r.next;
    serving = r.serving;
    order = r.order;
    each_ticket = λ t a b. let h = r.each_ticket t a b in (h.0, at_longer vs (turn_outside 0 ∷ []) (r.owner t) h.0 h.1, h.2);
    each_seat = λ j d e. ⊎_elim (r.each_seat j d) (λ (t : turn_outside 0 ≡ d). subst (λ (z : Turn). SeatKnows r.served r.drawn r.owner j z) t (unticketed r.served r.drawn r.owner j 0)) (at_snoc vs (turn_outside 0) d j e);
    single = r.single;
    hollow = λ j d e. ⊎_elim (r.hollow j d) (λ (t : turn_outside 0 ≡ d) h. absurd (both_ways d.hollow (ap (λ (z : Turn). z.hollow) (sym t)) h)) (at_snoc vs (turn_outside 0) d j e);
    home = λ none. r.home (λ j d e. none j d (at_longer vs (turn_outside 0 ∷ []) j d e));
  }

pub starts : {V : Type 0} (Fits : V → Type 0) (a b : ℕ) → KeepsTurns Fits (1 ∷ 0 ∷ a ∷ b ∷ []) (some None ∷ []) (opening_turn ∷ [])
starts Fits a b = record {
  served = 0;
  drawn = 1;
  owner = λ _. 0;
  wide = refl;
  next = refl;
  serving = refl;
  order = omega arith;
  each_ticket = λ t l m. (opening_turn, refl, ap (λ (z : ℕ). Some z) (omega arith));
  each_seat = λ j v e. subst (λ (z : ℕ × Turn). SeatKnows 0 1 (λ _. 0) z.0 z.1) (λ i. (sym (only j v e).0 i, (only j v e).1 i))
      (record { ticket = λ t e. let s : 0 ≡ t = same_Some 0 t e in (omega arith, omega arith, refl); turn = λ _. refl; inside = λ _. refl; unnumbered = λ e. absurd (omega arith) });
  single = refl;
  hollow = λ j v e h. (ap (λ (z : Turn). z.found) (sym (only j v e).1), refl);
  home = λ none. absurd (both_ways true (none 0 opening_turn refl) refl);
}
  where
    only : (j : ℕ) (v : Turn) → get_elem? (opening_turn ∷ []) j ≡ some v → (j ≡ 0) × (opening_turn ≡ v)
    only zero v e = (refl, some-injective opening_turn v e)
    only (suc j) v e = absurd (some-ne-none v (sym e))
