use Rattle.std.proofs.Common.{sym, ap, ◌∙◌, Some}
use Rattle.gnmi_set_msg.specs.inner.Actions.{with_commit}
use Rattle.gnmi_set_msg.proofs.Actions.{commit_met, other_met}
use Rattle.gnmi_set_msg.proofs.asking.action_of.Goals as goal

pub loop-extension-preserved-in-Commit : goal.loop-extension-preserved-in-Commit
loop-extension-preserved-in-Commit c =
    ap Some (c.with_commit.ensures ∙ ap (λ before. with_commit before c.in-Commit.action) c.loop-extension.invariant)
    ∙ sym (commit_met c.loop-extension.yielded c.in-Some.extension c.in-Commit.action c.in-Commit.is)

pub loop-extension-preserved : goal.loop-extension-preserved
loop-extension-preserved c =
    c.loop-extension.invariant ∙ sym (other_met c.loop-extension.yielded c.in-Some.extension c.in_default.not-Commit)
