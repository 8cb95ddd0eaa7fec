use Rattle.std.proofs.Common.{◌≡◌, map, take}
use Rattle.serde_json.specs.View.{view}
use Rattle.p10_report.specs.Json.{violation_data}
use Rattle.p10_report.specs.private.Counted.{IsCounted}
use Rattle.p10_report.proofs.json_report.violation_values.Given as goal

abbrev pub invariant-loop-violation : goal.invariant-loop-violation
invariant-loop-violation l = record {
  values : map view l.values.items ≡ map (violation_data l.s) (take l.violation-index l.violations);
  counted : IsCounted l.s l.counted;
}
