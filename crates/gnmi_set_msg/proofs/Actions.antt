-- The action of the commits so far.
use Rattle.std.proofs.Common.{◌≡◌, List, [], ◌∷◌, ◌++◌, Some, refl, ap, ◌∙◌, append-nil}
use Rattle.std.specs.Prelude.{unwrap_or}
use Rattle.std.specs.List.{filter_map}
use Rattle.std.proofs.lemmas.List.Elements.{filter_map-append}
use Rattle.base_kinds.specs.declared.request.Action.{Action}
use Rattle.base_kinds.specs.declared.request.Action.TheVariants as actions
use Rattle.gnmi_ext_msg.specs.declared.extension.Extension.{Extension}
use Rattle.gnmi_ext_msg.specs.declared.extension.Extension.TheVariants as extensions
use Rattle.gnmi_set_msg.specs.Asks.{commit_in, one_action}
use Rattle.gnmi_set_msg.specs.inner.Actions.{with_commit, asked}

asked_more : (commits : List Action) (action : Action) → asked (commits ++ action ∷ []) ≡ Some (with_commit (asked commits) action)
asked_more [] action = refl
asked_more (one ∷ []) action = refl
asked_more (one ∷ other ∷ others) action = refl

pub asked_whole : (commits : List Action) → unwrap_or (asked commits) actions.Plain ≡ one_action commits
asked_whole [] = refl
asked_whole (one ∷ []) = refl
asked_whole (one ∷ other ∷ others) = refl

pub commit_met : (before : List Extension) (extension : Extension) (action : Action) → extension ≡ extensions.Commit action
    → asked (filter_map commit_in (before ++ extension ∷ [])) ≡ Some (with_commit (asked (filter_map commit_in before)) action)
commit_met before extension action is =
    ap (λ (e : Extension). asked (filter_map commit_in (before ++ e ∷ []))) is
    ∙ ap asked (filter_map-append commit_in before (extensions.Commit action ∷ []))
    ∙ asked_more (filter_map commit_in before) action

pub other_met : (before : List Extension) (extension : Extension) → ((action : Action) → extension ≡ extensions.Commit action → ⊥)
    → asked (filter_map commit_in (before ++ extension ∷ [])) ≡ asked (filter_map commit_in before)
other_met before (extensions.Commit action) none = absurd (none action refl)
other_met before extensions.Other none =
    ap asked (filter_map-append commit_in before (extensions.Other ∷ []) ∙ append-nil (filter_map commit_in before))
