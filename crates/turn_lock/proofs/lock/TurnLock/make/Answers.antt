use Rattle.std.proofs.Common.{◌≡◌, List, [], ◌++◌, sym, ap, ◌∙◌}
use Rattle.std.proofs.lemmas.List.{append-nil}
use Rattle.std.proofs.Math.Seq.{drop-append_seam}
use Rattle.turn_lock.specs.Chronicles.{entries_by, entries_past}
use Rattle.turn_lock.proofs.lock.TurnLock.make.Goals as goal

none_past : {E : Type 0} (l : List E) → entries_past l l ≡ []
none_past l = ap (entries_past l) (sym (append-nil l)) ∙ drop-append_seam l []

pub returns-clause-ok : goal.returns-clause-ok
returns-clause-ok g c = let e = c.in-Ok.ensures in let v = e.2 in let same = c.leave.ensures.pass.0 in let l = g.V.Chronicle.entries c.args.value in (
  same.0 ∙ e.0,
  (
    c.leave.ensures.pass.1,
    same.2 ∙ ap (λ z. z.turn.number) v,
    same.3 ∙ ap (λ z. z.first) v,
    same.4 ∙ ap (λ z. z.start) v,
    c.leave.ensures.seen,
    c.leave.ensures.pass.2 ∙ ap (λ z. z.finds) v,
    c.leave.ensures.made ∙ ((λ i. (v i).made ++ entries_by g.V.Chronicle.author (v i).turn.number (entries_past (v i).seen l)) ∙ ap (entries_by g.V.Chronicle.author 1) (none_past l)),
    same.5 ∙ ap (λ z. z.ended) v,
    same.6 ∙ ap (λ z. z.known) v,
  ),
)
