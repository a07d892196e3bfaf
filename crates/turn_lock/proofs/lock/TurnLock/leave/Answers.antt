use Rattle.std.proofs.Common.{rules, ◌≡◌, sym, subst}
use mathlib.Core.List.{IsPrefix}
use Rattle.turn_lock.specs.declared.view.View.{View}
use Rattle.turn_lock.specs.Chronicles.{entries_past, AreBy}
use Rattle.turn_lock.proofs.AllowedSteps.{may_note, may_end}
use Rattle.turn_lock.proofs.lock.TurnLock.leave.Goals as goal

pub store-requires : goal.store-requires
store-requires g c = let same : c.exchange-empty.new.seat.me.0 ≡ c.args.pass.now.seat.me.0 = search rules in
    let e = subst (λ (v : View g.row.V-Entry.Denot). IsPrefix v.seen (g.V.Chronicle.entries c.args.value) × AreBy g.V.Chronicle.author v.turn.number (entries_past v.seen (g.V.Chronicle.entries c.args.value))) (sym same) c.requires.extends in
    (search rules, search rules, may_note _ _ _ _ _ _ c.args.value _ (search rules) (search rules) (search rules) (search rules) (search rules) e.0 e.1)

pub fetch_add-requires : goal.fetch_add-requires
fetch_add-requires g c = (search rules, search rules, may_end _ _ _ _ _ _ c.args.value (search rules) (search rules) (search rules) (search rules) (search rules))
