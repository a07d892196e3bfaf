use Rattle.std.proofs.Common.{◌≡◌, Some, ap, ◌∙◌, subst}
use Rattle.script_run.specs.Requests.{unresolved_set}
use Rattle.script_run.specs.ScriptStates.{ScriptState}
use Rattle.script_run.specs.declared.answer_lines.Reply.TheVariants as replies
use Rattle.script_run.proofs.Books.{replied, set_reply}
use Rattle.script_run.proofs.state.ScriptState.set.Goals as goal

pub returns-clause-reply : goal.returns-clause-reply
returns-clause-reply c =
    let inside = c.self.inside in
    let reply = c.in_ok-reply.reply in
    let asked = c.in_ok-request.ensures ∙ ap (unresolved_set c.args.action) c.replace-pending.ensures.value in
    let is = replied inside.book inside.reading inside.pending inside.subs inside.calls.items c.args.author c.args.action c.in_ok-request.request reply asked c.in_ok-reply.ensures.reply in
    ap (λ r. Some (replies.Set r)) (subst (λ (s : ScriptState). reply ≡ set_reply s c.args.author c.args.action) c.self.view_is is)
