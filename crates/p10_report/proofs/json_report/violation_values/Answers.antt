use Rattle.std.proofs.Common.{ap, map}
use Rattle.serde_json.specs.View.{view}
use Rattle.p10_report.proofs.json_report.violation_values.Goals as goal

pub loop-violation-init : goal.loop-violation-init
loop-violation-init c = record {
  values = ap (map view) c.new-values.ensures.items;
  counted = c.beginning-counted.ensures.counted c.args.s.now;
}
