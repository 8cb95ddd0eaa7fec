use Rattle.std.proofs.Common.{◌++◌, ap, sym}
use Rattle.p10_report.specs.Violations.{violation_lines}
use Rattle.p10_report.proofs.Stopping.{TakesFront-stop}
use Rattle.p10_check_command.specs.Texts.{refusal_lines, report_lines}
use Rattle.p10_check_command.proofs.Written.{both_taken, front_before, on_err, stopped_after}
use Rattle.p10_check_command.proofs.tell.put_report.Goals as goal

pub returns-in_err-put_violations-clause-front : goal.returns-in_err-put_violations-clause-front
unfolding report_lines
returns-in_err-put_violations-clause-front g c =
    on_err c.from_residual.result _
    (front_before (g.O.Sink.taken c.args.out.now) (g.O.Sink.taken c.put_violations.new.out) (violation_lines c.args.sources.now c.as_slice.result.now) (refusal_lines c.args.sources.now c.args.report.now.refusal) _
    (TakesFront-stop _ _ _ c.in_err-put_violations.ensures.stopped) (ap (λ vs. violation_lines c.args.sources.now vs ++ refusal_lines c.args.sources.now c.args.report.now.refusal) (sym c.as_slice.ensures)))

pub returns-clause-ok : goal.returns-clause-ok
unfolding report_lines
returns-clause-ok g c =
    both_taken c.put_refusal_line.result (g.O.Sink.taken c.args.out.now) (g.O.Sink.taken c.put_violations.new.out) (g.O.Sink.taken c.put_refusal_line.new.out)
    (violation_lines c.args.sources.now c.as_slice.result.now) (refusal_lines c.args.sources.now c.args.report.now.refusal) _
    c.in_ok-put_violations.ensures.ok (ap (λ vs. violation_lines c.args.sources.now vs ++ refusal_lines c.args.sources.now c.args.report.now.refusal) (sym c.as_slice.ensures)) c.put_refusal_line.ensures.ok

pub returns-clause-front : goal.returns-clause-front
unfolding report_lines
returns-clause-front g c =
    stopped_after c.put_refusal_line.result (g.O.Sink.taken c.args.out.now) (g.O.Sink.taken c.put_violations.new.out) (g.O.Sink.taken c.put_refusal_line.new.out)
    (violation_lines c.args.sources.now c.as_slice.result.now) (refusal_lines c.args.sources.now c.args.report.now.refusal) _
    c.in_ok-put_violations.ensures.ok (ap (λ vs. violation_lines c.args.sources.now vs ++ refusal_lines c.args.sources.now c.args.report.now.refusal) (sym c.as_slice.ensures)) c.put_refusal_line.ensures.front
