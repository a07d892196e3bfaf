use Rattle.std.proofs.Common.{◌≡◌, ◌+◌, ◌∷◌, drop, refl, sym, ap, ◌∙◌, arith}
use Rattle.std.proofs.lemmas.List.{drop_more}
use Rattle.set_request.specs.KeyLeaves.{key_leaves_from}
use Rattle.set_request.proofs.Traversals.{way_more, way_refused, refused_so}
use Rattle.set_request.proofs.key_leaves.push_elems.Goals as goal

pub loop-elem-preserved : goal.loop-elem-preserved
loop-elem-preserved c =
    let elems = c.args.elems.now in
    let at = c.loop-elem.elem-index in
    let elem = c.elem-item.result in
    let schema = c.args.schema.now in
    let rest = drop (at + 1) elems in
    let here : drop at elems ≡ elem ∷ rest = drop_more elems at elem (omega arith) ∙ ap (λ first. first ∷ rest) (sym c.elem-item.is) in
    way_more schema c.loop-elem.entry c.push_copy.new.self c.loop-elem.rows c.push_elem.new.rows elem elem rest (drop at elems) here c.in_ok-push_copy.ensures.ok refl c.in-Ok.ensures.ok
    ∙ c.loop-elem.invariant

pub returns-in-Err-clause-refused : goal.returns-in-Err-clause-refused
returns-in-Err-clause-refused c known =
    let elems = c.args.elems.now in
    let at = c.loop-elem.elem-index in
    let elem = c.elem-item.result in
    let schema = c.args.schema.now in
    let rest = drop (at + 1) elems in
    let here : drop at elems ≡ elem ∷ rest = drop_more elems at elem (omega arith) ∙ ap (λ first. first ∷ rest) (sym c.elem-item.is) in
    refused_so c.args.rows.now (key_leaves_from schema c.args.entry.now elems) c.in-Err.refusal
    (sym c.loop-elem.invariant
    ∙ way_refused schema c.loop-elem.entry c.push_copy.new.self c.loop-elem.rows elem elem rest (drop at elems) c.in-Err.refusal here c.in_ok-push_copy.ensures.ok refl (c.in-Err.ensures.refused known))
