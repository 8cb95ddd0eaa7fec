-- What is found for small programs, by computation.
use Rattle.std.proofs.Common.{refl}
use Rattle.p10_core.specs.Sizes.{layout_of}
use Rattle.p10_range.specs.Rows.{fitted_interval, quotients, remainders, disjunctions}
use Rattle.p10_finder.specs.Worked.{WorkedClaims}
use Rattle.p10_finder.specs.Edges.{BoundsAtEdges}

pub worked_claims : WorkedClaims
unfolding layout_of fitted_interval quotients remainders disjunctions
worked_claims = record {
  counted = refl;
  never = refl;
  by_parameter = refl;
  to_the_last = refl;
  by_halves = refl;
  task = refl;
  chosen = refl;
  handed_on = refl;
}

pub bounds_at_edges : BoundsAtEdges
unfolding fitted_interval quotients remainders disjunctions
bounds_at_edges = record {
  wraps = refl;
  narrow = refl;
  asserted = refl;
  continued = refl;
  at_the_end = refl;
  turned_round = refl;
  at_most = refl;
  first = refl;
  third = refl;
  fifth = refl;
  either = refl;
  signed = refl;
  unsigned = refl;
  plain = refl;
  once = refl;
  unreached = refl;
  inner = refl;
  after = refl;
  in_switch = refl;
}
