use Rattle.std.proofs.Common.{◌≤◌, map, drop, length}
use Rattle.std.specs.List.{All}
use Rattle.p10_base.specs.declared.report.TheConstants.Limit.{MOST_OBJECT_BYTES}
use Rattle.p10_core.specs.Views.{plain_literal}
use Rattle.p10_whole.proofs.objects.are_small_literals.Given as goal

abbrev pub invariant-loop-literal : goal.invariant-loop-literal
invariant-loop-literal l = All (λ x. length x.bytes ≤ MOST_OBJECT_BYTES) (map plain_literal (drop l.literal-index l.all)) → All (λ x. length x.bytes ≤ MOST_OBJECT_BYTES) (map plain_literal l.all)
