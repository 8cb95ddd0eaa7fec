use Rattle.std.proofs.Common.{arith, ap, length}
use Rattle.p10_cert.specs.Vars.{var_of}
use Rattle.p10_cert.proofs.VarTexts.{none_written, one_written, one_stopped, all_written}
use Rattle.p10_cert.proofs.Written.{on_err}
use Rattle.p10_cert.proofs.texts.put_vars.Goals as goal

pub loop-line-init : goal.loop-line-init
loop-line-init g c = record {
  wrote = none_written (g.O.Sink.taken c.args.out.now) c.args.ranges.now c.reader-left.result c.reader-left.ensures;
  count = omega arith;
}

pub loop-line-smaller : goal.loop-line-smaller
loop-line-smaller g c = omega (arith, ap length c.in-Some.ensures)

pub loop-line-preserved : goal.loop-line-preserved
loop-line-preserved g c = record {
  wrote = one_written (g.O.Sink.taken c.args.out.now) (g.O.Sink.taken c.loop-line.out) (g.O.Sink.taken c.put.new.out) c.args.ranges.now c.loop-line.left c.next.new.self (var_of c.in-Some.line) c.loop-line.invariant.wrote c.in-Some.ensures c.in_ok-put.ensures.ok;
  count = omega (arith, c.loop-line.invariant.count, c.in_ok-put.ensures.count);
}

pub returns-in_err-put-clause-front : goal.returns-in_err-put-clause-front
returns-in_err-put-clause-front g c =
    on_err c.from_residual.result _
    (one_stopped (g.O.Sink.taken c.args.out.now) (g.O.Sink.taken c.loop-line.out) (g.O.Sink.taken c.put.new.out) c.args.ranges.now c.loop-line.left c.next.new.self (var_of c.in-Some.line) c.loop-line.invariant.wrote c.in-Some.ensures c.in_err-put.ensures.front)

pub returns-clause-ok : goal.returns-clause-ok
returns-clause-ok g c = all_written (g.O.Sink.taken c.args.out.now) (g.O.Sink.taken c.loop-line.out) c.args.ranges.now c.loop-line.left c.loop-line.invariant.wrote c.in_default.ensures.0
