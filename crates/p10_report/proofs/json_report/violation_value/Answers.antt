use Rattle.p10_report.proofs.Values.{violation_is}
use Rattle.p10_report.proofs.json_report.violation_value.Goals as goal

pub returns : goal.returns
returns c =
    violation_is c.args.s.now c.args.violation.now _ _ _ _ _ _ c.requires.line c.requires.column c.file_name-file.ensures c.in_ok-rule.ensures c.text-text.ensures
    c.violation_object.ensures
