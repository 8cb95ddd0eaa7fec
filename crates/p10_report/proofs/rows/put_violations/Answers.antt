use Rattle.std.proofs.Common.{[], ap, arith, refl}
use Rattle.std.proofs.KnownBytes.{Appends-nil}
use Rattle.std.proofs.lemmas.Option.{MatchOption-at_some}
use Rattle.p10_report.specs.Violations.{violation_line, violation_lines}
use Rattle.p10_report.proofs.Written.{more_written, on_err, stopped_writing}
use Rattle.p10_report.proofs.rows.put_violations.Goals as goal

pub loop-violation-smaller : goal.loop-violation-smaller
loop-violation-smaller g c = omega (arith, (MatchOption-at_some _ _ _ c.in-Some.is c.split_first.ensures.cases).1)

pub loop-violation-init : goal.loop-violation-init
loop-violation-init g c = record {
  written = record { done = []; parts = refl; taken = Appends-nil (g.O.Sink.taken c.args.out.now) };
  count = omega arith;
  counted = c.beginning-counted.ensures.counted c.args.s.now;
}

pub loop-violation-preserved : goal.loop-violation-preserved
loop-violation-preserved g c = record {
  written = more_written (g.O.Sink.taken c.args.out.now) (g.O.Sink.taken c.loop-violation.out) (g.O.Sink.taken c.put_counted_violation.new.out) _ _ (violation_line c.args.s.now c.in-Some.violation.now) _ c.loop-violation.invariant.written
      (ap (violation_lines c.args.s.now) (MatchOption-at_some _ _ _ c.in-Some.is c.split_first.ensures.cases).0) c.in_ok-put_counted_violation.ensures.ok;
  count = omega (arith, c.loop-violation.invariant.count, c.put_counted_violation.ensures.count);
  counted = c.next-counted.ensures.counted;
}

pub returns-in_err-put_counted_violation-clause-stopped : goal.returns-in_err-put_counted_violation-clause-stopped
returns-in_err-put_counted_violation-clause-stopped g c =
    on_err c.from_residual.result _
    (stopped_writing (g.O.Sink.taken c.args.out.now) (g.O.Sink.taken c.loop-violation.out) (g.O.Sink.taken c.put_counted_violation.new.out) _ _ (violation_line c.args.s.now c.in-Some.violation.now) (violation_lines c.args.s.now c.in-Some.others.now)
    c.loop-violation.invariant.written (ap (violation_lines c.args.s.now) (MatchOption-at_some _ _ _ c.in-Some.is c.split_first.ensures.cases).0) c.in_err-put_counted_violation.ensures.stopped)
