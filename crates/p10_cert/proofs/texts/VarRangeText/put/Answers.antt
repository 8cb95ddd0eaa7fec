use Rattle.p10_cert.specs.Claims.{var_of}
use Rattle.p10_cert.proofs.PieceTexts.{on_ok, on_front, var_is}
use Rattle.p10_cert.proofs.texts.VarRangeText.put.Goals as goal

pub returns-clause-ok : goal.returns-clause-ok
returns-clause-ok g c = on_ok c.put_all.result (g.O.Sink.taken c.args.out.now) (g.O.Sink.taken c.put_all.new.out) _ _ (var_is (var_of c.args.self.now)) c.put_all.ensures.ok

pub returns-clause-front : goal.returns-clause-front
returns-clause-front g c = on_front c.put_all.result (g.O.Sink.taken c.args.out.now) (g.O.Sink.taken c.put_all.new.out) _ _ (var_is (var_of c.args.self.now)) c.put_all.ensures.front
