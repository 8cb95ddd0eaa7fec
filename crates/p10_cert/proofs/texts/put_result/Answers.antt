use Rattle.p10_cert.proofs.PieceTexts.{on_ok, on_front, result_is, result_pointer, result_void}
use Rattle.p10_cert.proofs.texts.put_result.Goals as goal

pub returns-in-Ints-clause-ok : goal.returns-in-Ints-clause-ok
returns-in-Ints-clause-ok g c = on_ok c.put_all.result (g.O.Sink.taken c.args.out.now) (g.O.Sink.taken c.put_all.new.out) _ _ (result_is c.args.value.now c.in-Ints.range c.in-Ints.is) c.put_all.ensures.ok

pub returns-in-Ints-clause-front : goal.returns-in-Ints-clause-front
returns-in-Ints-clause-front g c = on_front c.put_all.result (g.O.Sink.taken c.args.out.now) (g.O.Sink.taken c.put_all.new.out) _ _ (result_is c.args.value.now c.in-Ints.range c.in-Ints.is) c.put_all.ensures.front

pub returns-in-Pointer-clause-ok : goal.returns-in-Pointer-clause-ok
returns-in-Pointer-clause-ok g c = on_ok c.put.result (g.O.Sink.taken c.args.out.now) (g.O.Sink.taken c.put.new.self) _ _ (result_pointer c.args.value.now c.in-Pointer.is) c.put.ensures.ok

pub returns-in-Pointer-clause-front : goal.returns-in-Pointer-clause-front
returns-in-Pointer-clause-front g c = on_front c.put.result (g.O.Sink.taken c.args.out.now) (g.O.Sink.taken c.put.new.self) _ _ (result_pointer c.args.value.now c.in-Pointer.is) c.put.ensures.front

pub returns-in-Void-clause-ok : goal.returns-in-Void-clause-ok
returns-in-Void-clause-ok g c = on_ok c.put-in-Void.result (g.O.Sink.taken c.args.out.now) (g.O.Sink.taken c.put-in-Void.new.self) _ _ (result_void c.args.value.now c.in-Void.is) c.put-in-Void.ensures.ok

pub returns-in-Void-clause-front : goal.returns-in-Void-clause-front
returns-in-Void-clause-front g c = on_front c.put-in-Void.result (g.O.Sink.taken c.args.out.now) (g.O.Sink.taken c.put-in-Void.new.self) _ _ (result_void c.args.value.now c.in-Void.is) c.put-in-Void.ensures.front
