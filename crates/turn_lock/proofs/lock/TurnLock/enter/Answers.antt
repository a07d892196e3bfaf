use Rattle.std.proofs.Common.{rules, arith, ◌∷◌, ap, sym, ◌∙◌, Some}
use Rattle.atomic_table.specs.Table.{rest}
use Rattle.turn_lock.proofs.AllowedSteps.{may_draw, may_find}
use Rattle.turn_lock.proofs.lock.TurnLock.enter.Goals as goal

pub fetch_add-ticket-requires : goal.fetch_add-ticket-requires
fetch_add-ticket-requires g c = let o = c.requires.outside in let n = c.args.pass.now.numbered in let p = c.args.pass.now.some in (search rules, search rules, may_draw _ _ _ _ _ _ o.1 o.2 o.3 (omega arith))

pub load-requires : goal.load-requires
load-requires g c = let t = c.wait.ensures.turn in let d = c.fetch_add-ticket.ensures.2 in let o = c.requires.outside in
    (search rules, search rules, may_find _ _ _ _ _ _ (ap (λ m. m.0.live) t ∙ (ap (λ m. m.0.live) d.2 ∙ o.0)) (ap (λ m. m.0.turn.own) t) (ap (λ m. m.0.turn.found) t ∙ (ap (λ m. m.0.turn.found) d.2 ∙ o.3)))

pub exchange-requires : goal.exchange-requires
exchange-requires g c = let d = c.load.ensures.2 in let e = ap (λ m. m.1) d.1 in (search rules, (Some d.0, e ∙ ap (λ cs. (0, Some d.0) ∷ rest cs) (sym e)))
