use Rattle.std.proofs.Common.{List, ◌∷◌, ◌++◌, [], Option, subst, sym}
use Rattle.session_core.specs.declared.served.Served.{Served}
use Rattle.session_core.proofs.Laters.{IsFoundIn, not_here, differs}
use Rattle.session_core.proofs.later.find.Goals as goal

pub loop-served-preserved : goal.loop-served-preserved
loop-served-preserved c =
    let l = c.loop-served in
    let none = subst (λ (at : Option Served). IsFoundIn c.args.stream l.before at l.after l.served-iterator.rest.items c.args.calls) c.in-None-at.is l.invariant in
    let next = not_here c.args.stream l.before l.after l.served-iterator.rest.items c.next.new.self.rest.items c.args.calls c.in-Some.served c.in-Some.ensures.steps.0 (differs c.in-Some.served.stream c.args.stream c.if-served-stream.false) none in
    subst (λ (before : List Served). IsFoundIn c.args.stream before l.at l.after c.next.new.self.rest.items c.args.calls) (sym c.in_ok-push-in-None-at.ensures.ok)
    (subst (λ (at : Option Served). IsFoundIn c.args.stream (l.before ++ c.in-Some.served ∷ []) at l.after c.next.new.self.rest.items c.args.calls) (sym c.in-None-at.is) next)
