use Rattle.p10_cert.proofs.PieceTexts.{on_ok, on_front, total_is}
use Rattle.p10_cert.proofs.writing.put_total.Goals as goal

pub returns-clause-ok : goal.returns-clause-ok
returns-clause-ok g c = on_ok c.put_all.result (g.O.Sink.taken c.args.out.now) (g.O.Sink.taken c.put_all.new.out) _ _ (total_is c.args.total.now) c.put_all.ensures.ok

pub returns-clause-front : goal.returns-clause-front
returns-clause-front g c = on_front c.put_all.result (g.O.Sink.taken c.args.out.now) (g.O.Sink.taken c.put_all.new.out) _ _ (total_is c.args.total.now) c.put_all.ensures.front
