use Rattle.std.proofs.Common.{◌≡◌, nat_le, sum, map, drop}
use Rattle.p10_core.specs.Views.{plain_object}
use Rattle.p10_program.proofs.sizes.fit_together.Given as goal

abbrev pub invariant-loop-object : goal.invariant-loop-object
invariant-loop-object l = nat_le (sum (map (λ o. o.bytes) (map plain_object (drop l.object-index l.objects)))) l.left ≡ nat_le (sum (map (λ o. o.bytes) (map plain_object l.objects))) l.most
