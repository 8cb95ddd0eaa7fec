use Rattle.p10_cert.specs.Certificate.{func_head}
use Rattle.p10_cert.specs.Claims.{func_of}
use Rattle.p10_cert.proofs.PieceTexts.{on_ok, on_front, head_is}
use Rattle.p10_cert.proofs.texts.put_head.Goals as goal

pub returns-clause-ok : goal.returns-clause-ok
returns-clause-ok g c = on_ok c.put_all.result (g.O.Sink.taken c.args.out.now) (g.O.Sink.taken c.put_all.new.out) _ _ (head_is (func_head (func_of c.args.func.now))) c.put_all.ensures.ok

pub returns-clause-front : goal.returns-clause-front
returns-clause-front g c = on_front c.put_all.result (g.O.Sink.taken c.args.out.now) (g.O.Sink.taken c.put_all.new.out) _ _ (head_is (func_head (func_of c.args.func.now))) c.put_all.ensures.front
