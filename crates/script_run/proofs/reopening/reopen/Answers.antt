use Rattle.std.proofs.Common.{◌≡◌, List, ◌∷◌, ◌++◌, [], Option, Some, Result, Ok, Err, codes, length, refl, sym, subst}
use Rattle.std.specs.Prelude.{ℕ, IfOk, OnOk}
use Rattle.std.specs.Fmt.{decimal}
use Rattle.base_kinds.specs.Schema.{SchemaNode}
use Rattle.book_core.specs.Views.{BookView}
use Rattle.memory_disks.specs.Fuses.{FuseView}
use Rattle.script_run.specs.declared.reopening.Reopening.{Reopening}
use Rattle.script_run.specs.inner.ScriptBooks.{HasFewerStops, Reopens, RestartsOn}
use Rattle.script_run.proofs.Restarting.{begins, goes_on, next_reopenable, ready_restarts, failed_restarts}
use Rattle.script_run.proofs.reopening.reopen.Goals as goal

pub openings-init : goal.openings-init
openings-init c = record { reopenable = c.requires; leads = begins c.args.reading c.args.disk c.args.out.now }

pub reopen_once-requires : goal.reopen_once-requires
reopen_once-requires c = c.openings.invariant.reopenable

said : {E : Type 0} (schema : List SchemaNode) (now : ℕ) (first : FuseView) (before grown last : List ℕ) (book : BookView FuseView) (answer : Result (Option (BookView FuseView)) E) → IfOk answer (λ opened. opened ≡ Some book) → OnOk answer (last ≡ grown ++ (codes "reopened " ++ (decimal (length book.chronicle) ++ 10 ∷ [])))
    → (last ≡ grown ++ (codes "reopened " ++ (decimal (length book.chronicle) ++ 10 ∷ [])) → RestartsOn schema now first before last (Some book)) → IfOk answer (RestartsOn schema now first before last)
said schema now first before grown last book (Ok opened) is line restarts = subst (λ (o : Option (BookView FuseView)). RestartsOn schema now first before last o) (sym is) (restarts line)
said schema now first before grown last book (Err fault) is line restarts = tt

pub returns-in-Ready : goal.returns-in-Ready
returns-in-Ready c =
    let ready = subst (λ (o : Reopening). Reopens c.args.schema.now c.args.reading c.openings.disk o) c.in-Ready.is c.in_ok-book.ensures.opens in
    said c.args.schema.now c.args.reading c.args.disk c.args.out.now c.reopen_once.new.out c.say_reopened.new.out c.in-Ready.book c.say_reopened.result c.say_reopened.ensures.book c.say_reopened.ensures.line
    (λ line. ready_restarts c.args.schema.now c.args.reading c.args.disk c.args.out.now c.openings.disk c.openings.out c.reopen_once.new.out c.say_reopened.new.out c.in-Ready.book (length c.in-Ready.book.chronicle) c.openings.invariant.leads ready c.in_ok-book.ensures.line refl line)

pub openings-smaller : goal.openings-smaller
openings-smaller c = subst (λ (o : Reopening). HasFewerStops c.openings.disk o) c.in-Stopped.is c.in_ok-book.ensures.fewer

pub openings-preserved : goal.openings-preserved
openings-preserved c =
    let stops = subst (λ (o : Reopening). Reopens c.args.schema.now c.args.reading c.openings.disk o) c.in-Stopped.is c.in_ok-book.ensures.opens in
    record {
      reopenable = next_reopenable c.args.schema.now c.args.reading c.openings.disk c.in-Stopped.next c.openings.invariant.reopenable stops;
      leads = goes_on c.args.schema.now c.args.reading c.args.disk c.args.out.now c.openings.disk c.in-Stopped.next c.openings.out c.reopen_once.new.out c.openings.invariant.leads stops c.in_ok-book.ensures.line;
    }

pub returns-in-Failed : goal.returns-in-Failed
returns-in-Failed c =
    let fails = subst (λ (o : Reopening). Reopens c.args.schema.now c.args.reading c.openings.disk o) c.in-Failed.is c.in_ok-book.ensures.opens in
    failed_restarts c.args.schema.now c.args.reading c.args.disk c.args.out.now c.openings.disk c.openings.out c.reopen_once.new.out c.openings.invariant.leads fails c.in_ok-book.ensures.line
