use Rattle.std.proofs.Common.{◌≡◌, drop}
use Rattle.p10_core.specs.Views.{plain_types}
use Rattle.p10_linkage.specs.Compatible.{parameters_compatible}
use Rattle.p10_linkage.specs.Linkage.{parameters_of}
use Rattle.p10_linkage.specs.LinkedViews.{plain_kind}
use Rattle.p10_linkage.proofs.compatible.parameters_compatible.Given as goal

abbrev pub invariant-loop-place : goal.invariant-loop-place
invariant-loop-place l =
    parameters_compatible (plain_types l.types) (drop l.place (parameters_of (plain_kind l.one))) (drop l.place (parameters_of (plain_kind l.other)))
    ≡ parameters_compatible (plain_types l.types) (parameters_of (plain_kind l.one)) (parameters_of (plain_kind l.other))
