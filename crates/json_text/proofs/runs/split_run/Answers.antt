use Rattle.std.proofs.Common.{◌≡◌, drop, get_or, ap, ◌∙◌}
use Rattle.std.proofs.lemmas.List.{take_rest}
use Rattle.json_text.specs.inner.Splits.{run_length, shares}
use Rattle.json_text.proofs.Cuts.{first_run}
use Rattle.json_text.proofs.runs.split_run.Goals as goal

pub returns-clause-cut : goal.returns-clause-cut
returns-clause-cut c =
    let same = shares c.args.shared c.args.depth in
    let rows = c.args.rows.now in
    let first = c.index-rows-0.result in
    let length_is : c.run_length-count.result ≡ run_length same (get_or rows 0 first) (drop 1 rows) =
    c.run_length-count.ensures.value ∙ ap (run_length same first) (take_rest rows 1) ∙ ap (λ row. run_length same row (drop 1 rows)) c.index-rows-0.is in
    rw (c.split_at.ensures.front, c.split_at.ensures.back) (first_run same rows first c.run_length-count.result c.requires length_is)
