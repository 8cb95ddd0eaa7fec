use Rattle.p10_report.proofs.Values.{json_is}
use Rattle.p10_report.proofs.json_report.json.Goals as goal

pub returns : goal.returns
returns c = json_is c.args.s.now c.args.v.now c.args.r _ _ _ c.to_string.result c.in_ok-refusal.ensures c.in_ok-violations.ensures c.in_ok-report.ensures c.to_string.ensures.text
