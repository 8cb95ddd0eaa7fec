use Rattle.std.proofs.Common.{codes}
use Rattle.std.proofs.lemmas.Slice.{pushed}
use Rattle.p10_report.proofs.Values.{row_is}
use Rattle.p10_report.proofs.json_report.row_string.Goals as goal

pub returns : goal.returns
returns c =
    row_is c.args.sub _ c.format.result.now c.format-2.result.now
    (pushed c.format-2.result.now (pushed (codes ".") c.in_ok-text.ensures.ok c.in_ok-push_str.was c.push_str.ensures.bytes) c.in_ok-push_str-2.was c.push_str-2.ensures.bytes)
    c.format.ensures.text c.format-2.ensures.text
