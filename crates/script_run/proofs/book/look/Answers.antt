use Rattle.std.proofs.Common.{◌≢◌, Ok, Err, Some, sym, ◌∙◌, subst}
use Rattle.base_kinds.specs.declared.entry.View.{View}
use Rattle.base_kinds.specs.declared.operation.Row.{Row}
use Rattle.base_kinds.specs.declared.refusal.Refusal.TheVariants.{NoMemory}
use Rattle.base_kinds.specs.History.{world_of}
use Rattle.base_kinds.specs.Parts.{is_covered}
use Rattle.base_kinds.specs.Rising.{IsRising}
use Rattle.book_core.specs.Views.{history_in}
use Rattle.history_laws.proofs.States.{rising_world}
use Rattle.stream_laws.proofs.Kept.{rising_filter}
use Rattle.script_run.specs.inner.ScriptBooks.{IsLeft, left_by_look, looked_at}
use Rattle.script_run.proofs.Books.{Looks, shown_leaves, shown_view, fault_leaves, fault_view, on_ok, if_ok}
use Rattle.script_run.proofs.book.look.Goals as goal

pub returns-in-Ok-clause-left : goal.returns-in-Ok-clause-left
returns-in-Ok-clause-left c =
    let look : Looks c.args.book.now c.look-seen.new.self c.args.reading c.args.patterns.now (Ok c.in-Ok.view) = record { opened = c.in-Ok.ensures.opened; fed = sym c.starved.ensures ∙ c.if-starved.false; answer = c.in-Ok.ensures.answer; settled = c.in-Ok.ensures.settled; calls = c.in-Ok.ensures.calls } in
    shown_leaves c.args.book.now c.args.reading c.args.patterns.now c.look-seen.new.self c.in-Ok.view look

pub returns-in-Ok-clause-view : goal.returns-in-Ok-clause-view
returns-in-Ok-clause-view c =
    let look : Looks c.args.book.now c.look-seen.new.self c.args.reading c.args.patterns.now (Ok c.in-Ok.view) = record { opened = c.in-Ok.ensures.opened; fed = sym c.starved.ensures ∙ c.if-starved.false; answer = c.in-Ok.ensures.answer; settled = c.in-Ok.ensures.settled; calls = c.in-Ok.ensures.calls } in
    shown_view c.args.book.now c.args.reading c.args.patterns.now c.look-seen.new.self c.in-Ok.view look

pub returns-in-Ok-clause-rows : goal.returns-in-Ok-clause-rows
returns-in-Ok-clause-rows c =
    let left = history_in c.look-seen.new.self in
    subst (λ (v : View). IsRising v.rows) (sym c.in-Ok.ensures.answer.0)
    (rising_filter (λ (row : Row). is_covered c.args.patterns.now row.path) (world_of left).tree (rising_world left))

pub returns-in-Err-clause-left : goal.returns-in-Err-clause-left
returns-in-Err-clause-left c =
    let look : Looks c.args.book.now c.look-seen.new.self c.args.reading c.args.patterns.now (Err c.in-Err.refusal) = record { opened = c.in-Err.ensures.opened; fed = sym c.starved.ensures ∙ c.if-starved.false; answer = c.in-Err.ensures.answer; settled = c.in-Err.ensures.settled; calls = c.in-Err.ensures.calls } in
    on_ok c.unless_memory.result (c.in-Err.refusal ≢ NoMemory) (IsLeft (left_by_look (Some c.args.patterns.now) c.args.reading c.args.book.now) c.args.book.now c.look-seen.new.self) c.unless_memory.ensures.no_memory
    (λ other. fault_leaves c.args.book.now c.args.reading c.args.patterns.now c.look-seen.new.self c.in-Err.refusal other look)

pub returns-in-Err-clause-view : goal.returns-in-Err-clause-view
returns-in-Err-clause-view c =
    let look : Looks c.args.book.now c.look-seen.new.self c.args.reading c.args.patterns.now (Err c.in-Err.refusal) = record { opened = c.in-Err.ensures.opened; fed = sym c.starved.ensures ∙ c.if-starved.false; answer = c.in-Err.ensures.answer; settled = c.in-Err.ensures.settled; calls = c.in-Err.ensures.calls } in
    if_ok c.unless_memory.result (Err c.in-Err.refusal) (looked_at (Some c.args.patterns.now) c.args.reading c.args.book.now) (c.in-Err.refusal ≢ NoMemory) c.unless_memory.ensures.reply c.unless_memory.ensures.no_memory
    (λ other. fault_view c.args.book.now c.args.reading c.args.patterns.now c.look-seen.new.self c.in-Err.refusal other look)
