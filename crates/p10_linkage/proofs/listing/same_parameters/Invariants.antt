use Rattle.std.proofs.Common.{◌≡◌, drop}
use Rattle.p10_linkage.specs.Linkage.{parameters_of, same_parameters}
use Rattle.p10_linkage.specs.LinkedViews.{plain_kind}
use Rattle.p10_linkage.proofs.listing.same_parameters.Given as goal

abbrev pub invariant-loop-place : goal.invariant-loop-place
invariant-loop-place l =
    same_parameters (drop l.place (parameters_of (plain_kind l.one))) (drop l.place (parameters_of (plain_kind l.other)))
    ≡ same_parameters (parameters_of (plain_kind l.one)) (parameters_of (plain_kind l.other))
