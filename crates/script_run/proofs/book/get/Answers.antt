use Rattle.std.proofs.Common.{◌≡◌, ◌≢◌, [], ◌∷◌, ◌++◌, false, Ok, Err, refl, sym, ap, ◌∙◌, subst, arith, true≢false}
use Rattle.std.proofs.lemmas.Bool.Decides.{nat_tests}
use Rattle.base_kinds.specs.declared.refusal.Refusal.TheVariants.{NoMemory}
use Rattle.base_kinds.specs.Events.{is_long, get_answer}
use Rattle.book_core.specs.Views.{history_in}
use Rattle.book_port.specs.Answers.{AnswersLook}
use Rattle.script_run.specs.inner.ScriptBooks.{IsLeft, left_by, read_event}
use Rattle.script_run.specs.Turns.{unless_failed}
use Rattle.script_run.proofs.Books.{Look, seen_leaves, refused_leaves, refused_replies, none_replies, view_replies, on_ok, if_ok}
use Rattle.script_run.proofs.book.get.Goals as goal

pub returns-then-is_empty-clause-left : goal.returns-then-is_empty-clause-left
returns-then-is_empty-clause-left c =
    let short : is_long c.args.pattern ≡ false = grind (arith, nat_tests, c.len.ensures, c.if-len-gt-MOST_ELEMENTS.false) in
    let one = c.in_ok-push.ensures.ok ∙ ap (λ before. before ++ c.args.pattern ∷ []) c.empty-patterns.ensures in
    let answer = subst (λ ps. AnswersLook (history_in c.args.book.now) c.args.reading ps (Ok c.in-Ok.view) (history_in c.look-seen.new.self)) one c.in-Ok.ensures.answer in
    let look : Look c.args.book.now c.look-seen.new.self c.args.reading c.args.pattern (Ok c.in-Ok.view) = record { opened = c.in-Ok.ensures.opened; fed = sym c.starved.ensures ∙ c.if-starved.false; answer = answer; settled = c.in-Ok.ensures.settled; calls = c.in-Ok.ensures.calls } in
    seen_leaves c.args.book.now c.args.reading c.args.author c.args.pattern c.look-seen.new.self c.in-Ok.view short look

pub returns-then-is_empty-clause-view : goal.returns-then-is_empty-clause-view
returns-then-is_empty-clause-view c =
    let short : is_long c.args.pattern ≡ false = grind (arith, nat_tests, c.len.ensures, c.if-len-gt-MOST_ELEMENTS.false) in
    let one = c.in_ok-push.ensures.ok ∙ ap (λ before. before ++ c.args.pattern ∷ []) c.empty-patterns.ensures in
    let answer = subst (λ ps. AnswersLook (history_in c.args.book.now) c.args.reading ps (Ok c.in-Ok.view) (history_in c.look-seen.new.self)) one c.in-Ok.ensures.answer in
    let look : Look c.args.book.now c.look-seen.new.self c.args.reading c.args.pattern (Ok c.in-Ok.view) = record { opened = c.in-Ok.ensures.opened; fed = sym c.starved.ensures ∙ c.if-starved.false; answer = answer; settled = c.in-Ok.ensures.settled; calls = c.in-Ok.ensures.calls } in
    none_replies c.args.book.now c.args.reading c.args.author c.args.pattern c.look-seen.new.self c.in-Ok.view short look (c.if-is_empty.ensures.0 refl)

pub returns-in-Ok-clause-left : goal.returns-in-Ok-clause-left
returns-in-Ok-clause-left c =
    let short : is_long c.args.pattern ≡ false = grind (arith, nat_tests, c.len.ensures, c.if-len-gt-MOST_ELEMENTS.false) in
    let one = c.in_ok-push.ensures.ok ∙ ap (λ before. before ++ c.args.pattern ∷ []) c.empty-patterns.ensures in
    let answer = subst (λ ps. AnswersLook (history_in c.args.book.now) c.args.reading ps (Ok c.in-Ok.view) (history_in c.look-seen.new.self)) one c.in-Ok.ensures.answer in
    let look : Look c.args.book.now c.look-seen.new.self c.args.reading c.args.pattern (Ok c.in-Ok.view) = record { opened = c.in-Ok.ensures.opened; fed = sym c.starved.ensures ∙ c.if-starved.false; answer = answer; settled = c.in-Ok.ensures.settled; calls = c.in-Ok.ensures.calls } in
    seen_leaves c.args.book.now c.args.reading c.args.author c.args.pattern c.look-seen.new.self c.in-Ok.view short look

pub returns-in-Ok-clause-view : goal.returns-in-Ok-clause-view
returns-in-Ok-clause-view c =
    let short : is_long c.args.pattern ≡ false = grind (arith, nat_tests, c.len.ensures, c.if-len-gt-MOST_ELEMENTS.false) in
    let one = c.in_ok-push.ensures.ok ∙ ap (λ before. before ++ c.args.pattern ∷ []) c.empty-patterns.ensures in
    let answer = subst (λ ps. AnswersLook (history_in c.args.book.now) c.args.reading ps (Ok c.in-Ok.view) (history_in c.look-seen.new.self)) one c.in-Ok.ensures.answer in
    let look : Look c.args.book.now c.look-seen.new.self c.args.reading c.args.pattern (Ok c.in-Ok.view) = record { opened = c.in-Ok.ensures.opened; fed = sym c.starved.ensures ∙ c.if-starved.false; answer = answer; settled = c.in-Ok.ensures.settled; calls = c.in-Ok.ensures.calls } in
    view_replies c.args.book.now c.args.reading c.args.author c.args.pattern c.look-seen.new.self c.in-Ok.view short look (λ is. true≢false (sym (c.if-is_empty.ensures.1 is)))

pub returns-clause-left : goal.returns-clause-left
returns-clause-left c =
    let short : is_long c.args.pattern ≡ false = grind (arith, nat_tests, c.len.ensures, c.if-len-gt-MOST_ELEMENTS.false) in
    let one = c.in_ok-push.ensures.ok ∙ ap (λ before. before ++ c.args.pattern ∷ []) c.empty-patterns.ensures in
    let answer = subst (λ ps. AnswersLook (history_in c.args.book.now) c.args.reading ps (Err c.in-Err.refusal) (history_in c.look-seen.new.self)) one c.in-Err.ensures.answer in
    let look : Look c.args.book.now c.look-seen.new.self c.args.reading c.args.pattern (Err c.in-Err.refusal) = record { opened = c.in-Err.ensures.opened; fed = sym c.starved.ensures ∙ c.if-starved.false; answer = answer; settled = c.in-Err.ensures.settled; calls = c.in-Err.ensures.calls } in
    on_ok c.unless_memory.result (c.in-Err.refusal ≢ NoMemory) (IsLeft (left_by (read_event c.args.reading c.args.author c.args.pattern) c.args.book.now) c.args.book.now c.look-seen.new.self) c.unless_memory.ensures.no_memory
    (λ other. refused_leaves c.args.book.now c.args.reading c.args.author c.args.pattern c.look-seen.new.self c.in-Err.refusal other short look)

pub returns-clause-view : goal.returns-clause-view
returns-clause-view c =
    let short : is_long c.args.pattern ≡ false = grind (arith, nat_tests, c.len.ensures, c.if-len-gt-MOST_ELEMENTS.false) in
    let one = c.in_ok-push.ensures.ok ∙ ap (λ before. before ++ c.args.pattern ∷ []) c.empty-patterns.ensures in
    let answer = subst (λ ps. AnswersLook (history_in c.args.book.now) c.args.reading ps (Err c.in-Err.refusal) (history_in c.look-seen.new.self)) one c.in-Err.ensures.answer in
    let look : Look c.args.book.now c.look-seen.new.self c.args.reading c.args.pattern (Err c.in-Err.refusal) = record { opened = c.in-Err.ensures.opened; fed = sym c.starved.ensures ∙ c.if-starved.false; answer = answer; settled = c.in-Err.ensures.settled; calls = c.in-Err.ensures.calls } in
    let reply = unless_failed (left_by (read_event c.args.reading c.args.author c.args.pattern) c.args.book.now).failed (get_answer (history_in c.args.book.now) c.args.reading (c.args.pattern ∷ [])) in
    if_ok c.unless_memory.result (Err c.in-Err.refusal) reply (c.in-Err.refusal ≢ NoMemory) c.unless_memory.ensures.reply c.unless_memory.ensures.no_memory
    (λ other. refused_replies c.args.book.now c.args.reading c.args.author c.args.pattern c.look-seen.new.self c.in-Err.refusal other short look)
