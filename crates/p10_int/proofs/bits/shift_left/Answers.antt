use Rattle.std.proofs.Common.{arith, sym, FitsSigned}
use Rattle.std.proofs.lemmas.Int.{to_z-of_z}
use Rattle.std.specs.Int.{w128}
use Rattle.p10_int.proofs.Shifts.{shifted_fits, carried_shift}
use Rattle.p10_int.proofs.bits.shift_left.Goals as goal

pub overflow_mul-a : goal.overflow_mul-a
overflow_mul-a c =
    let f : FitsSigned w128 c.power.result = record { sfits = omega (arith, c.power.type_inv) } in
    rw (to_z-of_z w128 c.args.a c.ranges.a, to_z-of_z w128 c.power.result f)
    (shifted_fits c.args.t c.args.a c.power.result _ c.requires c.power.ensures.value c.power.ensures.small)

pub returns : goal.returns
returns c =
    let f : FitsSigned w128 c.power.result = record { sfits = omega (arith, c.power.type_inv) } in
    carried_shift c.args.t c.args.a c.args.n c.power.result _ c.ranges.a f c.requires c.power.ensures.small
    (sym (rw (to_z-of_z w128 c.args.n c.ranges.n) at c.if-not-is_count.ensures.value))
    (rw (to_z-of_z w128 c.args.a c.ranges.a) at c.if-a-lt0.false)
    (rw (to_z-of_z w128 c.args.n c.ranges.n) at c.power.ensures.value)
    c.fit.ensures
