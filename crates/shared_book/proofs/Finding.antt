-- What a pass finds, as what its port shows.
use Rattle.std.proofs.Common.{◌≡◌, [], ◌∷◌, map, refl, sym, ap, ◌∙◌, subst}
use Rattle.std.specs.List.{AllByRecursion}
use mathlib.Core.List.{IsPrefix}
use Rattle.atomic_table.specs.Seated.{TableId}
use Rattle.book_port.specs.Follows.{OthersWentOn}
use Rattle.book_port.specs.Ports.{HasJustMade, end_of}
use Rattle.book_core.specs.Views.{BookView, history_in}
use Rattle.turn_lock.specs.Passes.{OwnsItsEntries}
use Rattle.turn_lock.specs.declared.view.View.{View}
use Rattle.turn_lock.specs.declared.view.Ended.{Ended}
use Rattle.turn_lock.proofs.Prefixes.{prefix_trans}
use Rattle.shared_book.specs.declared.item.SharedItem.{SharedItem}
use Rattle.shared_book.specs.Items.{opened_item, items_of, item_author, history_shared, opened_in}
use Rattle.shared_book.specs.Visits.{ended_port, port_of, HasMarks, GivesBack}
use Rattle.shared_book.specs.inner.Keeping.{KeepsBook}
use Rattle.shared_book.proofs.Lists.{history_items, opened_longer}
use Rattle.shared_book.proofs.Owning.{shows_made, went_on, each_met, shows_marks, authors_differ}

-- what is known of a pass is known of one that shows the same
pub same_owner : (p q : View SharedItem) → q.turn.number ≡ p.turn.number → q.first ≡ p.first → q.start ≡ p.start → q.seen ≡ p.seen → q.made ≡ p.made → q.ended ≡ p.ended → OwnsItsEntries item_author p → OwnsItsEntries item_author q
same_owner p q number first start seen made ended k =
    let is : OwnsItsEntries item_author (record q { turn = record q.turn { number = p.turn.number }; first = p.first; start = p.start; seen = p.seen; made = p.made; ended = p.ended }) = record { own = k.own; others = k.others; differ = k.differ } in
    subst (λ (v : View SharedItem). OwnsItsEntries item_author v) (λ i. record q { turn = record q.turn { number = sym number i }; first = sym first i; start = sym start i; seen = sym seen i; made = sym made i; ended = sym ended i }) is

-- The pass before its turn, as it is when the book is found, and the book.
module _ {D : Type 0} (table : TableId) (before after : View SharedItem) (book : BookView D)
    (kept : KeepsBook before) (number : after.turn.number ≡ before.turn.number) (first : after.first ≡ before.first) (start : after.start ≡ before.start) (ended : after.ended ≡ before.ended) (made : after.made ≡ before.made)
    (book_is : items_of book ≡ after.seen) (more : IsPrefix before.seen after.seen) (owner : OwnsItsEntries item_author after) where
  pub shown : history_shared after.seen ≡ history_in book
  shown = ap history_shared (sym book_is) ∙ history_items book

  -- the book is the one that was opened so
  pub found_opened : book.opened ≡ opened_in before.first
  found_opened =
      let all : IsPrefix before.first before.seen = prefix_trans before.first before.start before.seen kept.owner.own.from_first kept.owner.own.since_start in
      let front : IsPrefix (opened_item (opened_in before.first) ∷ []) after.seen = prefix_trans (opened_item (opened_in before.first) ∷ []) before.seen after.seen (prefix_trans (opened_item (opened_in before.first) ∷ []) before.first before.seen kept.opened all) more in
      ap opened_in book_is ∙ opened_longer (opened_in before.first) after.seen front

  its_owner : OwnsItsEntries item_author (record before { seen = after.seen })
  its_owner = same_owner after (record before { seen = after.seen }) (sym number) (sym first) (sym start) refl (sym made) (sym ended) owner

  -- the pass itself, as one that is joined
  abbrev self : Ended SharedItem
  self = record { number = before.turn.number; start = before.start; seen = before.seen; finds = before.finds; made = before.made; host_seen = [] }

  pub went_on_so : OthersWentOn before.turn.number (history_shared before.seen) (history_in book)
  went_on_so = subst (OthersWentOn before.turn.number (history_shared before.seen)) shown (went_on before.first before.first before.start before.seen after.seen before.turn.number before.made kept.some kept.owner.own its_owner.own more)

  pub has_made : AllByRecursion (HasJustMade (history_in book)) (end_of (port_of table before) ∷ map ended_port before.ended)
  has_made = subst (λ h. AllByRecursion (HasJustMade h) (end_of (port_of table before) ∷ map ended_port before.ended)) shown (
    shows_made before.first self after.seen kept.some its_owner.own,
    each_met (HasJustMade (history_shared after.seen)) before.ended (λ i e h. let k = its_owner.others i e h in shows_made before.first e after.seen k.some k.its),
  )

  has_marks : AllByRecursion (HasMarks book) (end_of (port_of table before) ∷ map ended_port before.ended)
  has_marks = let all : OwnsItsEntries item_author (record before { seen = items_of book }) = same_owner after (record before { seen = items_of book }) (sym number) (sym first) (sym start) book_is (sym made) (sym ended) owner in (
    shows_marks book before.first self kept.some all.own,
    each_met (HasMarks book) before.ended (λ i e h. let k = all.others i e h in shows_marks book before.first e k.some k.its),
  )

  -- so for the book that is given back
  pub gives_back : GivesBack (port_of table before) book
  gives_back = record {
    opened = found_opened;
    begins = went_on_so;
    has_made = has_made;
    has_marks = has_marks;
    differ = authors_differ self before.ended kept.some (λ i e h. (its_owner.others i e h).some) its_owner.differ;
  }
