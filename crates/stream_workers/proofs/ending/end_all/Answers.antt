use Rattle.std.proofs.Common.{sym, subst, ◌∙◌}
use Rattle.stream_workers.proofs.Jobs.{GoesToEnd, all_ended, begin, next_is_of, one_ended, one_less}
use Rattle.stream_workers.proofs.ending.end_all.Goals as goal

pub loop-next-init : goal.loop-next-init
loop-next-init g c =
    let port = g.P.BookPort.port in
    subst (λ left. GoesToEnd port c.args.running.items left (port c.args.book.now) (port c.args.book.now) c.args.wire.now c.args.wire.now) (sym c.from_vec-left.ensures.items)
    (begin port c.args.running.items (port c.args.book.now) c.args.wire.now c.requires.shared c.requires.all)

pub end_one-requires-clause-shared : goal.end_one-requires-clause-shared
end_one-requires-clause-shared g c = c.loop-next.invariant.shared

pub end_one-requires-clause-its : goal.end_one-requires-clause-its
end_one-requires-clause-its g c = next_is_of g.P.BookPort.port _ _ _ _ _ _ _ _ c.in-Some.ensures.items c.loop-next.invariant

pub loop-next-smaller : goal.loop-next-smaller
loop-next-smaller g c = one_less _ _ _ c.in-Some.ensures.items

pub loop-next-preserved : goal.loop-next-preserved
loop-next-preserved g c = one_ended g.P.BookPort.port _ _ _ _ _ _ _ _ _ _ c.in-Some.ensures.items c.loop-next.invariant c.end_one.ensures.name c.end_one.ensures.alone c.end_one.ensures.lock c.end_one.ensures.ends

pub destroy_empty-requires : goal.destroy_empty-requires
destroy_empty-requires g c = c.in_default.ensures.cases.1

pub returns : goal.returns
returns g c = all_ended g.P.BookPort.port _ _ _ _ _ _ (sym c.loop-next.left.ok.0 ∙ c.in_default.ensures.cases.0) c.loop-next.invariant
