use Rattle.std.proofs.Common.{[], ◌++◌, arith, refl, ap, ◌∙◌}
use Rattle.std.proofs.lemmas.Result.{err_from_is_err_and}
use Rattle.h2_windows.specs.Written.{spelled}
use Rattle.h2_windows.proofs.Fronts.{wrote_both, wrote_nothing}
use Rattle.grpc_client.specs.declared.connection.Connection.{Connection}
use Rattle.grpc_client.specs.Exchanges.{at, data_frame}
use Rattle.grpc_client.proofs.Steps.{did_nothing}
use Rattle.grpc_client.proofs.Joining.{flush_step, flush_fails}
use Rattle.grpc_client.proofs.connection.Connection.flush.Goals as goal

pub loop-count-init : goal.loop-count-init
loop-count-init g c =
    record {
      went = [];
      did = did_nothing (at c.args.self.now);
      wrote = wrote_nothing _ _ refl;
      left = refl;
      unsent = c.share-count.ensures.unsent;
      payload = c.share-count.ensures.payload;
      own = c.share-count.ensures.own;
      connection = c.share-count.ensures.connection;
      none = c.share-count.ensures.none;
    }

pub put_data-requires : goal.put_data-requires
put_data-requires g c = record { there = c.loop-count.invariant.unsent; small = c.loop-count.invariant.payload }

pub loop-count-preserved : goal.loop-count-preserved
loop-count-preserved g c =
    let i = c.loop-count.invariant in
    let n = c.loop-count.count in
    let frame = data_frame n c.loop-count.self in
    record {
      went = i.went ++ spelled frame;
      did = flush_step (at c.args.self.now) c.loop-count.self c.spend.new.self i.went n i.did c.loop-count-test.true i.unsent i.payload i.own i.connection c.spend.ensures;
      wrote = wrote_both _ _ _ i.went (spelled frame) _ refl i.wrote c.in_ok-put_data.ensures;
      left = ap (λ (x : Connection). x.left) c.spend.ensures ∙ i.left;
      unsent = c.share-count-in-loop-count.ensures.unsent;
      payload = c.share-count-in-loop-count.ensures.payload;
      own = c.share-count-in-loop-count.ensures.own;
      connection = c.share-count-in-loop-count.ensures.connection;
      none = c.share-count-in-loop-count.ensures.none;
    }

pub returns-in_err-put_data-clause-err : goal.returns-in_err-put_data-clause-err
returns-in_err-put_data-clause-err g c =
    let i = c.loop-count.invariant in
    let p = err_from_is_err_and c.from_residual.result c.from_residual.ensures.1 in
    rw p.1 (flush_fails c.args.self.now c.loop-count.self i.went c.loop-count.count _ _ _ i.did i.wrote c.loop-count-test.true i.unsent i.payload i.own i.connection c.in_err-put_data.ensures)

pub returns : goal.returns
returns g c =
    let i = c.loop-count.invariant in
    record {
      ok = record { went = i.went; did = i.did; wrote = i.wrote; paced = i.none (omega arith) };
      err = tt;
      left = i.left;
    }
