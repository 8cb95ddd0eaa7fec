use Rattle.std.proofs.Common.{drop, take, suc}
use Rattle.std.specs.List.{flat_map}
use Rattle.p10_cert.proofs.Written.{on_err, front_after, flat_map_at}
use Rattle.p10_cert.proofs.writing.put_all.Goals as goal

pub returns-in_err-put-clause-front : goal.returns-in_err-put-clause-front
returns-in_err-put-clause-front g c =
    let i = c.loop-item.item-index in
    on_err c.from_residual.result _
    (front_after (g.O.Sink.taken c.args.out.now) (g.O.Sink.taken c.loop-item.out) (g.O.Sink.taken c.put.new.out)
    (flat_map g.T.Text.text (take i c.args.items.now)) (g.T.Text.text c.item-item.result) (flat_map g.T.Text.text (drop (suc i) c.args.items.now)) _
    c.loop-item.invariant.wrote c.in_err-put.ensures.front (flat_map_at g.T.Text.text c.args.items.now i c.item-item.result c.loop-item-test.true c.item-item.is))
