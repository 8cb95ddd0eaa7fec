use Rattle.std.proofs.Common.{◌≡◌, map, drop}
use Rattle.p10_core.specs.Views.{plain_object}
use Rattle.p10_program.specs.Limits.{is_over}
use Rattle.p10_program.proofs.sizes.has_large_object.Given as goal

abbrev pub invariant-loop-object : goal.invariant-loop-object
invariant-loop-object l = is_over (map (λ o. o.bytes) (map plain_object (drop l.object-index l.objects))) ≡ is_over (map (λ o. o.bytes) (map plain_object l.objects))
