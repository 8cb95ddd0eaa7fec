use Rattle.p10_report.proofs.Values.{refused_value, unrefused_value}
use Rattle.p10_report.proofs.json_report.refusal_value.Goals as goal

pub returns-in_ok-refusal_string-in-Some : goal.returns-in_ok-refusal_string-in-Some
returns-in_ok-refusal_string-in-Some c = refused_value c.args.s.now c.args.r c.in-Some.refusal c.in_ok-refusal_string-in-Some.field-0 c.in-Some.is c.in_ok-refusal_string-in-Some.ensures

pub returns-in-None : goal.returns-in-None
returns-in-None c = unrefused_value c.args.s.now c.args.r c.in-None.is
