use Rattle.p10_cert.specs.Certificate.{loop_head}
use Rattle.p10_cert.specs.Claims.{loop_of}
use Rattle.p10_cert.proofs.PieceTexts.{on_ok, on_front, up_is, down_is, one_is, task_is}
use Rattle.p10_cert.proofs.texts.put_start.Goals as goal

pub returns-in-Up-clause-ok : goal.returns-in-Up-clause-ok
returns-in-Up-clause-ok g c = on_ok c.put_all.result (g.O.Sink.taken c.args.out.now) (g.O.Sink.taken c.put_all.new.out) _ _ (up_is (loop_head (loop_of c.args.claim.now)) c.in-Up.var c.in-Up.bound c.in-Up.is) c.put_all.ensures.ok

pub returns-in-Up-clause-front : goal.returns-in-Up-clause-front
returns-in-Up-clause-front g c = on_front c.put_all.result (g.O.Sink.taken c.args.out.now) (g.O.Sink.taken c.put_all.new.out) _ _ (up_is (loop_head (loop_of c.args.claim.now)) c.in-Up.var c.in-Up.bound c.in-Up.is) c.put_all.ensures.front

pub returns-in-Down-clause-ok : goal.returns-in-Down-clause-ok
returns-in-Down-clause-ok g c = on_ok c.put_all-in-Down.result (g.O.Sink.taken c.args.out.now) (g.O.Sink.taken c.put_all-in-Down.new.out) _ _ (down_is (loop_head (loop_of c.args.claim.now)) c.in-Down.var c.in-Down.bound c.in-Down.is) c.put_all-in-Down.ensures.ok

pub returns-in-Down-clause-front : goal.returns-in-Down-clause-front
returns-in-Down-clause-front g c = on_front c.put_all-in-Down.result (g.O.Sink.taken c.args.out.now) (g.O.Sink.taken c.put_all-in-Down.new.out) _ _ (down_is (loop_head (loop_of c.args.claim.now)) c.in-Down.var c.in-Down.bound c.in-Down.is) c.put_all-in-Down.ensures.front

pub returns-in-One-clause-ok : goal.returns-in-One-clause-ok
returns-in-One-clause-ok g c = on_ok c.put_all-in-One.result (g.O.Sink.taken c.args.out.now) (g.O.Sink.taken c.put_all-in-One.new.out) _ _ (one_is (loop_head (loop_of c.args.claim.now)) c.in-One.is) c.put_all-in-One.ensures.ok

pub returns-in-One-clause-front : goal.returns-in-One-clause-front
returns-in-One-clause-front g c = on_front c.put_all-in-One.result (g.O.Sink.taken c.args.out.now) (g.O.Sink.taken c.put_all-in-One.new.out) _ _ (one_is (loop_head (loop_of c.args.claim.now)) c.in-One.is) c.put_all-in-One.ensures.front

pub returns-in-Task-clause-ok : goal.returns-in-Task-clause-ok
returns-in-Task-clause-ok g c = on_ok c.put_all-in-Task.result (g.O.Sink.taken c.args.out.now) (g.O.Sink.taken c.put_all-in-Task.new.out) _ _ (task_is (loop_head (loop_of c.args.claim.now)) c.in-Task.is) c.put_all-in-Task.ensures.ok

pub returns-in-Task-clause-front : goal.returns-in-Task-clause-front
returns-in-Task-clause-front g c = on_front c.put_all-in-Task.result (g.O.Sink.taken c.args.out.now) (g.O.Sink.taken c.put_all-in-Task.new.out) _ _ (task_is (loop_head (loop_of c.args.claim.now)) c.in-Task.is) c.put_all-in-Task.ensures.front
