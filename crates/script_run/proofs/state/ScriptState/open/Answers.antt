use Rattle.std.proofs.Common.{◌≡◌, Some, [], ap, ◌∙◌, subst}
use Rattle.script_run.specs.inner.Replies.{line_of_opening, reply_at}
use Rattle.script_run.specs.inner.ScriptBooks.{IsLeft, left_by_look, looked_at}
use Rattle.script_run.specs.ScriptStates.{ScriptState, state_after}
use Rattle.script_run.specs.Subscribing.{step_with, open_look, open_step}
use Rattle.script_run.specs.declared.answer_lines.Reply.TheVariants as replies
use Rattle.script_run.proofs.Books.{state_seen}
use Rattle.script_run.proofs.Subscribed.{opened, opened_reply}
use Rattle.script_run.proofs.state.ScriptState.open.Goals as goal

pub returns-clause-state : goal.returns-clause-state
returns-clause-state c =
    let inside = c.self.inside in
    let asked = c.args.asked in
    let subs = c.replace-subs.ensures.value in
    let left = subst (λ all. IsLeft (left_by_look (open_look asked.name asked.mode asked.only all inside.calls.items) inside.reading inside.book) inside.book c.open.new.book) subs c.in_ok-reply.ensures.left in
    let step = subst (λ all. step_with c.in_ok-reply.reply c.open.new.calls.items ≡ open_step asked.author asked.name asked.mode asked.only all inside.reading (looked_at (open_look asked.name asked.mode asked.only all inside.calls.items) inside.reading inside.book) inside.calls.items) subs c.in_ok-reply.ensures.step in
    let none = c.replace-subs.ensures.after ∙ c.empty.ensures in
    ap (λ all. state_seen c.open.new.book inside.reading inside.pending all c.open.new.calls.items) none
    ∙ subst (λ (s : ScriptState). state_seen c.open.new.book inside.reading inside.pending [] c.open.new.calls.items ≡ state_after (line_of_opening asked) s) c.self.view_is
    (opened inside.book inside.reading inside.pending inside.subs inside.calls.items asked.author asked.name asked.mode asked.only c.open.new.book c.in_ok-reply.reply c.open.new.calls.items left step)

pub returns-clause-reply : goal.returns-clause-reply
returns-clause-reply c =
    let inside = c.self.inside in
    let asked = c.args.asked in
    let subs = c.replace-subs.ensures.value in
    let step = subst (λ all. step_with c.in_ok-reply.reply c.open.new.calls.items ≡ open_step asked.author asked.name asked.mode asked.only all inside.reading (looked_at (open_look asked.name asked.mode asked.only all inside.calls.items) inside.reading inside.book) inside.calls.items) subs c.in_ok-reply.ensures.step in
    subst (λ (s : ScriptState). Some (replies.Call c.in_ok-reply.reply) ≡ reply_at (line_of_opening asked) s) c.self.view_is
    (ap (λ r. Some (replies.Call r)) (opened_reply inside.book inside.reading inside.pending inside.subs inside.calls.items asked.author asked.name asked.mode asked.only c.in_ok-reply.reply c.open.new.calls.items step))
