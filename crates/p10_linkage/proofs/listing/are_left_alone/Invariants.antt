use Rattle.std.proofs.Common.{◌≡◌, drop}
use Rattle.p10_linkage.specs.Linkage.{parameters_of, are_left_alone}
use Rattle.p10_linkage.specs.LinkedViews.{plain_kind}
use Rattle.p10_linkage.proofs.listing.are_left_alone.Given as goal

abbrev pub invariant-loop-place : goal.invariant-loop-place
invariant-loop-place l = are_left_alone (drop l.place (parameters_of (plain_kind l.kind))) ≡ are_left_alone (parameters_of (plain_kind l.kind))
