use Rattle.p10_cert.proofs.Built.{mapped_none}
use Rattle.p10_cert.proofs.SectionCollecting.{one_line, no_line_more}
use Rattle.p10_cert.proofs.sections.push_bodies.Goals as goal

pub loop-bytes-smaller : goal.loop-bytes-smaller
loop-bytes-smaller c =
    (one_line c.loop-bytes.lines c.push_line.new.lines c.args.lines.now c.loop-bytes.left _ c.loop-bytes.rest.now c.in-Some.after.now c.in-Some.bytes.now c.args.count c.args.text.now
    c.loop-bytes.invariant c.in-Some.ensures c.in_ok-push_line.ensures c.saturating_sub-left.ensures).1

pub loop-bytes-preserved : goal.loop-bytes-preserved
loop-bytes-preserved c =
    (one_line c.loop-bytes.lines c.push_line.new.lines c.args.lines.now c.loop-bytes.left _ c.loop-bytes.rest.now c.in-Some.after.now c.in-Some.bytes.now c.args.count c.args.text.now
    c.loop-bytes.invariant c.in-Some.ensures c.in_ok-push_line.ensures c.saturating_sub-left.ensures).0

pub returns-clause-pushed : goal.returns-clause-pushed
returns-clause-pushed c =
    let none = mapped_none c.next_body.result _ _ c.in_default.not-Some c.next_body.ensures in
    (no_line_more c.loop-bytes.lines c.args.lines.now c.loop-bytes.left c.loop-bytes.rest.now c.args.count c.args.text.now c.loop-bytes.invariant none).0

pub returns-clause-rest : goal.returns-clause-rest
returns-clause-rest c =
    let none = mapped_none c.next_body.result _ _ c.in_default.not-Some c.next_body.ensures in
    (no_line_more c.loop-bytes.lines c.args.lines.now c.loop-bytes.left c.loop-bytes.rest.now c.args.count c.args.text.now c.loop-bytes.invariant none).1
