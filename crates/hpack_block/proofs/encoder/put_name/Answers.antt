use Rattle.std.proofs.Common.{◌≡◌, None, [], ◌∷◌, sym, ap, ◌∙◌}
use Rattle.hpack_block.specs.Written.{place_of_name, name_with, name_of, string_of}
use Rattle.base_lists.proofs.Fronts.{AppendsFront-more, OnErr-map}
use Rattle.hpack_block.proofs.encoder.put_name.Goals as goal

pub returns-in_ok-push-in-None-clause-err : goal.returns-in_ok-push-in-None-clause-err
returns-in_ok-push-in-None-clause-err c =
    let none : None ≡ place_of_name c.args.name.now = c.in-None.ensures.value ∙ ap place_of_name c.items.ensures in
    OnErr-map c.put_string.result
    (AppendsFront-more c.args.out.now c.push.new.self c.put_string.new.out (0 ∷ []) (string_of c.args.name.now) (name_of c.args.name.now)
    c.in_ok-push-in-None.ensures.ok (ap (name_with c.args.name.now) (sym none)))
    c.put_string.ensures.err
