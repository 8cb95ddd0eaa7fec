use Rattle.std.proofs.Common.{pos, ◌≤ℤ◌, rules, FitsSigned, arith}
use Rattle.std.proofs.lemmas.Int.{ints}
use Rattle.std.specs.Int.{w128}
use Rattle.p10_range.proofs.Carried.{both, back_double, le_by, double_fits}
use Rattle.p10_range.proofs.Corners.{doubled_le}
use Rattle.p10_range.proofs.shifts.shifted.Goals as goal

pub invariant_of-result : goal.invariant_of-result
invariant_of-result c =
    let al : FitsSigned w128 c.args.a.lo = search rules in
    let ah : FitsSigned w128 c.args.a.hi = search rules in
    let nl : FitsSigned w128 c.args.n.lo = search rules in
    let nh : FitsSigned w128 c.args.n.hi = search rules in
    let p : pos 0 ≤ℤ c.power.result = omega (arith, ints, c.power.ensures.value) in
    let q : pos 0 ≤ℤ c.power-2.result = omega (arith, ints, c.power-2.ensures.value) in
    record {
      ordered = le_by _ _ _ _
          (back_double c.args.a.lo c.power.result c.args.n.lo al (record { sfits = c.power.type_inv }) nl
          (double_fits c.args.a.lo c.power.result c.requires.natural (omega (arith, ints)) p c.power.ensures.small) c.power.ensures.value)
          (back_double c.args.a.hi c.power-2.result c.args.n.hi ah (record { sfits = c.power-2.type_inv }) nh
          (double_fits c.args.a.hi c.power-2.result (omega (arith, ints)) c.requires.small.small_high q c.power-2.ensures.small) c.power-2.ensures.value)
          (doubled_le c.args.a.lo c.args.a.hi c.args.n.lo c.args.n.hi c.requires.natural c.args.a.ordered c.requires.low c.args.n.ordered);
    }

pub returns : goal.returns
returns c =
    let al : FitsSigned w128 c.args.a.lo = search rules in
    let ah : FitsSigned w128 c.args.a.hi = search rules in
    let nl : FitsSigned w128 c.args.n.lo = search rules in
    let nh : FitsSigned w128 c.args.n.hi = search rules in
    let p : pos 0 ≤ℤ c.power.result = omega (arith, ints, c.power.ensures.value) in
    let q : pos 0 ≤ℤ c.power-2.result = omega (arith, ints, c.power-2.ensures.value) in
    both _ _ _ _
    (back_double c.args.a.lo c.power.result c.args.n.lo al (record { sfits = c.power.type_inv }) nl
    (double_fits c.args.a.lo c.power.result c.requires.natural (omega (arith, ints)) p c.power.ensures.small) c.power.ensures.value)
    (back_double c.args.a.hi c.power-2.result c.args.n.hi ah (record { sfits = c.power-2.type_inv }) nh
    (double_fits c.args.a.hi c.power-2.result (omega (arith, ints)) c.requires.small.small_high q c.power-2.ensures.small) c.power-2.ensures.value)
