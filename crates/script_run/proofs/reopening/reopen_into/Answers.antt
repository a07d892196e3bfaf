use Rattle.std.proofs.Common.{Option, Some, subst, sym}
use Rattle.book_core.specs.Views.{BookView}
use Rattle.memory_disks.specs.Fuses.{FuseView}
use Rattle.script_run.specs.inner.ScriptBooks.{MayStand, RestartsOn}
use Rattle.script_run.proofs.Restarting.{opened_stands}
use Rattle.script_run.proofs.reopening.reopen_into.Goals as goal

pub returns-in-Some-clause-may_stand : goal.returns-in-Some-clause-may_stand
returns-in-Some-clause-may_stand c =
    let restarts = subst (λ (o : Option (BookView FuseView)). RestartsOn c.args.schema.now c.args.reading c.args.disk c.args.out.now c.reopen.new.out o) c.in-Some.is c.in_ok-opened.ensures in
    subst MayStand (sym c.replace.ensures.after)
    (opened_stands c.args.schema.now c.args.reading c.args.disk c.args.out.now c.reopen.new.out c.in-Some.opened c.requires.reopenable restarts)

pub returns-in-Some-clause-restarts : goal.returns-in-Some-clause-restarts
returns-in-Some-clause-restarts c =
    subst (λ (b : BookView FuseView). RestartsOn c.args.schema.now c.args.reading c.args.disk c.args.out.now c.reopen.new.out (Some b)) (sym c.replace.ensures.after)
    (subst (λ (o : Option (BookView FuseView)). RestartsOn c.args.schema.now c.args.reading c.args.disk c.args.out.now c.reopen.new.out o) c.in-Some.is c.in_ok-opened.ensures)

pub returns-in-None-clause-restarts : goal.returns-in-None-clause-restarts
returns-in-None-clause-restarts c =
    subst (λ (o : Option (BookView FuseView)). RestartsOn c.args.schema.now c.args.reading c.args.disk c.args.out.now c.reopen.new.out o) c.in-None.is c.in_ok-opened.ensures
