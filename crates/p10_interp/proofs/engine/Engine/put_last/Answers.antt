-- What waits is put at the end.
use Rattle.std.proofs.Common.{refl, arith}
use Rattle.p10_interp.specs.private.Serving.{moment_of}
use Rattle.p10_interp.specs.private.Parts.{stage_of}
use Rattle.p10_interp.proofs.Served.{serves_then, serves_loses, loses_front}
use Rattle.p10_interp.proofs.Traded.{serves_put, stage_goes_on}
use Rattle.p10_interp.proofs.engine.Engine.put_last.Goals as goal

pub returns-in-Ok-clause-settles : goal.returns-in-Ok-clause-settles
returns-in-Ok-clause-settles g c = λ from old left frame s. record {
  serves =
      serves_then from (stage_of c.args.ended frame) (stage_of c.args.ended frame) old (moment_of c.args.self.now left (g.O.Sink.taken c.args.out.now))
      (moment_of (record c.args.self.now { outside = record c.args.self.now.outside { waiting = c.put_waiting.new.waiting } }) left (g.O.Sink.taken c.put_waiting.new.out)) s
      (serves_put (stage_of c.args.ended frame) c.args.self.now.outside (record c.args.self.now.outside { waiting = c.put_waiting.new.waiting }) c.args.self.now.ended left (g.O.Sink.taken c.args.out.now) (g.O.Sink.taken c.put_waiting.new.out) (λ input output. refl) refl c.in-Ok.ensures.ok.0 c.in-Ok.ensures.ok.1);
  empty = c.in-Ok.ensures.ok.0;
}

pub returns-in-Err-clause-settles : goal.returns-in-Err-clause-settles
returns-in-Err-clause-settles g c = λ from old left frame s.
    serves_loses from (stage_of c.args.ended frame) old (moment_of c.args.self.now left (g.O.Sink.taken c.args.out.now)) left (g.O.Sink.taken c.put_waiting.new.out) s
    (loses_front (stage_of c.args.ended frame) c.args.self.now.outside.left (moment_of c.args.self.now left (g.O.Sink.taken c.args.out.now)) (g.O.Sink.taken c.put_waiting.new.out) (stage_goes_on c.args.self.now.outside.left c.args.ended frame) (omega arith) c.in-Err.ensures.front)
