use Rattle.std.proofs.Common.{rules, ◌≡◌, List, [], ◌++◌, sym, ap, ◌∙◌}
use Rattle.std.proofs.lemmas.List.{append-nil}
use Rattle.std.proofs.Math.Seq.{drop-append_seam}
use Rattle.turn_lock.specs.Chronicles.{entries_by, entries_past}
use Rattle.shared_book.specs.Items.{items_of, item_author}
use Rattle.shared_book.proofs.Meeting.{first_kept, first_port}
use Rattle.shared_book.proofs.visit.Visit.make.Goals as goal

none_past : {E : Type 0} (l : List E) → entries_past l l ≡ []
none_past l = ap (entries_past l) (sym (append-nil l)) ∙ drop-append_seam l []

pub invariant_of-result : goal.invariant_of-result
invariant_of-result g c = let v = c.in-Ok.ensures.2 in let same = c.leave.ensures.pass.0 in (
  search rules,
  c.leave.ensures.pass.1,
  first_kept c.leave.new.pass.seat.me.0 c.args.book (same.3 ∙ ap (λ z. z.first) v) (same.2 ∙ ap (λ z. z.turn.number) v) (same.6 ∙ ap (λ z. z.known) v) c.leave.ensures.owner,
)

pub returns-in-Ok-new-clause-ok : goal.returns-in-Ok-new-clause-ok
returns-in-Ok-new-clause-ok g c = let v = c.in-Ok.ensures.2 in let same = c.leave.ensures.pass.0 in let l = items_of c.args.book in
    first_port c.leave.new.pass.seat.table_id c.leave.new.pass.seat.me.0 c.args.book (same.3 ∙ ap (λ z. z.first) v) (same.4 ∙ ap (λ z. z.start) v) c.leave.ensures.seen (same.2 ∙ ap (λ z. z.turn.number) v)
    (c.leave.ensures.pass.2 ∙ ap (λ z. z.finds) v)
    (c.leave.ensures.made ∙ ((λ i. (v i).made ++ entries_by item_author (v i).turn.number (entries_past (v i).seen l)) ∙ ap (entries_by item_author 1) (none_past l)))
    (same.5 ∙ ap (λ z. z.ended) v) (same.6 ∙ ap (λ z. z.known) v)
