use Rattle.std.proofs.Common.{◌≡◌, ◌+◌, ◌≤◌, map, drop}
use Rattle.std.specs.Prelude.{sum}
use Rattle.p10_base.specs.declared.report.TheConstants.Limit.{MOST_STATIC_BYTES}
use Rattle.p10_core.specs.Views.{plain_object}
use Rattle.p10_whole.proofs.objects.are_few_bytes.Given as goal

abbrev pub invariant-loop-object : goal.invariant-loop-object
invariant-loop-object l = record {
  within : l.total ≤ MOST_STATIC_BYTES;
  all : sum (map (λ o. o.bytes) (map plain_object l.all)) ≡ l.total + sum (map (λ o. o.bytes) (map plain_object (drop l.object-index l.all)));
}
