-- Two passes that are joined, a new one, and the first, as what their ports show.
use Rattle.std.proofs.Common.{◌≡◌, ◌⊎◌, inl, inr, ℕ, ◌<◌, ◌≤◌, List, [], ◌∷◌, ◌++◌, Bool, false, true, length, map, leb, None, refl, sym, ap, ◌∙◌, subst, arith, if◌then◌else◌, ne_eqb}
use Rattle.std.proofs.lemmas.List.{map-append}
use mathlib.Core.Option.{some}
use mathlib.Core.List.{IsPrefix}
use lib.ListN.{get_elem?}
use Rattle.atomic_table.specs.Seated.{TableId}
use Rattle.book_port.specs.Ports.{HasJustMade, Meets, IsTwin}
use Rattle.book_core.specs.Views.{BookView}
use Rattle.turn_lock.specs.Passes.{HasEnded, OwnsItsEntries, ended_pass, joined_passes, joined_view, longer}
use Rattle.turn_lock.specs.declared.view.Ended.{Ended}
use Rattle.turn_lock.specs.declared.view.View.{View}
use Rattle.shared_book.specs.declared.item.SharedItem.{SharedItem}
use Rattle.shared_book.specs.Items.{opened_item, happened_items, items_of, item_author, history_shared, marks_shared, opened_in}
use Rattle.shared_book.specs.Visits.{book_name, ended_port, port_of, IsFirstPort}
use Rattle.shared_book.specs.inner.Keeping.{KeepsBook}
use Rattle.shared_book.proofs.Lists.{history_items}
use Rattle.shared_book.proofs.Owning.{shows_made, went_on, each_met, authors_differ}

at_seam : {A : Type 0} (xs ys : List A) (y : A) → get_elem? (xs ++ y ∷ ys) (length xs) ≡ some y
at_seam [] ys y = refl
at_seam (x ∷ xs) ys y = at_seam xs ys y

module _ (table other_table : TableId) (v u : View SharedItem) (kv : KeepsBook v) (ku : KeepsBook u) (owner : OwnsItsEntries item_author (joined_view v u)) where
  brought : joined_passes v u ≡ ended_pass v u ∷ u.ended
  brought = ap (λ b. if b then u.ended else ended_pass v u ∷ u.ended) (ne_eqb u.turn.number 0 (λ is. let pos = ku.some in omega (arith, pos, is)))

  abbrev both : List SharedItem
  both = longer v.seen u.seen

  other : HasEnded item_author v.first both (ended_pass v u)
  other = owner.others (length v.ended) (ended_pass v u) (ap (λ l. get_elem? (v.ended ++ l) (length v.ended)) brought ∙ at_seam v.ended u.ended (ended_pass v u))

  one_of_both : (b : Bool) → (history_shared (if b then u.seen else v.seen) ≡ history_shared v.seen) ⊎ (history_shared (if b then u.seen else v.seen) ≡ history_shared u.seen)
  one_of_both true = inr refl
  one_of_both false = inl refl

  abbrev self : Ended SharedItem
  self = record { number = v.turn.number; start = v.start; seen = both; finds = v.finds; made = v.made; host_seen = [] }

  pub meets : Meets (port_of table v) (port_of other_table u) (port_of table (joined_view v u))
  meets = record {
    seen = one_of_both (leb (length v.seen) (length u.seen));
    has_own = went_on v.first v.first v.start v.seen both v.turn.number v.made kv.some kv.owner.own owner.own other.host_within;
    has_other = went_on u.first v.first u.start u.seen both u.turn.number u.made ku.some ku.owner.own other.its other.within;
    has_made = (
      shows_made v.first self both kv.some owner.own,
      each_met (HasJustMade (history_shared both)) (v.ended ++ joined_passes v u) (λ i e h. let k = owner.others i e h in shows_made v.first e both k.some k.its),
    );
    differ = authors_differ self (v.ended ++ joined_passes v u) kv.some (λ i e h. (owner.others i e h).some) owner.differ;
    new_is = λ i. record (port_of table (joined_view v u)) { met = (map-append ended_port v.ended (joined_passes v u) ∙ ap (λ l. map ended_port v.ended ++ map ended_port l) brought) i };
  }

-- a pass that learns of more numbers still keeps the book
pub still_kept : (v : View SharedItem) (known : ℕ) → v.turn.number ≤ known → KeepsBook v → KeepsBook (record v { known = known })
still_kept v known counted k = record { some = k.some; counted = counted; opened = k.opened; owner = record { own = k.owner.own; others = k.owner.others; differ = k.owner.differ } }

-- so does one that was joined into
pub joined_kept : (v u : View SharedItem) → KeepsBook v → OwnsItsEntries item_author (joined_view v u) → KeepsBook (joined_view v u)
joined_kept v u k owner = let counted = k.counted in record { some = k.some; counted = omega (arith, counted); opened = k.opened; owner = owner }

-- and one that took a turn
pub turned_kept : (before after : View SharedItem) → KeepsBook before → after.turn.number ≡ before.turn.number → after.first ≡ before.first → after.known ≡ before.known → OwnsItsEntries item_author after → KeepsBook after
turned_kept before after k number first known owner = let some = k.some in let counted = k.counted in record {
  some = omega (arith, number, some);
  counted = omega (arith, number, known, counted);
  opened = subst (λ (l : List SharedItem). IsPrefix (opened_item (opened_in l) ∷ []) l) (sym first) k.opened;
  owner = owner;
}

-- a new pass
pub new_kept : (v q : View SharedItem) → KeepsBook v → 0 < q.turn.number → q.first ≡ v.first → q.known ≡ q.turn.number → OwnsItsEntries item_author q → KeepsBook q
new_kept v q k pos first known owner = record {
  some = pos;
  counted = omega (arith, known);
  opened = subst (λ (l : List SharedItem). IsPrefix (opened_item (opened_in l) ∷ []) l) (sym first) k.opened;
  owner = owner;
}

pub is_twin : (table twin_table : TableId) (v q : View SharedItem) (known : ℕ) → KeepsBook v → twin_table ≡ table → 0 < q.turn.number → q.first ≡ v.first → q.start ≡ v.seen → q.seen ≡ v.seen → q.finds ≡ [] → q.made ≡ [] → q.ended ≡ [] → q.known ≡ q.turn.number → v.known < q.known → q.known ≤ known → IsTwin (port_of table v) (port_of table (record v { known = known })) (port_of twin_table q)
is_twin table twin_table v q known k same pos first start seen finds made ended is later given = let counted = k.counted in record {
  new_is = refl;
  other = λ e. omega (arith, e, counted, later, is);
  later = omega (arith, later, is);
  given_out = omega (arith, given, is);
  own = k.some;
  some = pos;
  twin_is = λ i. record {
    opened = opened_in (first i);
    book = book_name (same i);
    author = q.turn.number;
    is_alone = false;
    start = history_shared (start i);
    seen = history_shared (seen i);
    finds = map history_shared (finds i);
    made = history_shared (made i);
    marks = marks_shared (made i);
    met = map ended_port (ended i);
    known = is i;
    faults = None;
  };
}

-- the pass of the lock's first port
pub first_kept : {D : Type 0} (after : View SharedItem) (book : BookView D) → after.first ≡ items_of book → after.turn.number ≡ 1 → after.known ≡ 1 → OwnsItsEntries item_author after → KeepsBook after
first_kept after book first number known owner = record {
  some = omega (arith, number);
  counted = omega (arith, number, known);
  opened = subst (λ (l : List SharedItem). IsPrefix (opened_item (opened_in l) ∷ []) l) (sym first) (happened_items book.chronicle, refl);
  owner = owner;
}

pub first_port : {D : Type 0} (table : TableId) (after : View SharedItem) (book : BookView D) → after.first ≡ items_of book → after.start ≡ items_of book → after.seen ≡ items_of book → after.turn.number ≡ 1 → after.finds ≡ [] → after.made ≡ [] → after.ended ≡ [] → after.known ≡ 1 → IsFirstPort book (port_of table after)
first_port table after book first start seen number finds made ended known i = record {
  opened = opened_in (first i);
  book = book_name table;
  author = number i;
  is_alone = false;
  start = (ap history_shared start ∙ history_items book) i;
  seen = (ap history_shared seen ∙ history_items book) i;
  finds = map history_shared (finds i);
  made = history_shared (made i);
  marks = marks_shared (made i);
  met = map ended_port (ended i);
  known = known i;
  faults = None;
}
