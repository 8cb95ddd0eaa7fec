use Rattle.std.proofs.Common.{◌≡◌, ◌∙◌, ap, arith, to_z, of_z, FitsSigned}
use Rattle.std.proofs.lemmas.Int.{to_z-of_z}
use Rattle.std.specs.Int.{w128}
use Rattle.p10_int.specs.Conversion.{reduced}
use Rattle.p10_int.proofs.Conversions.{converted_other, reduced_in}
use Rattle.p10_int.proofs.conversion.convert.Goals as goal

pub returns-in_default : goal.returns-in_default
returns-in_default c =
    let f : FitsSigned w128 c.reduce.result = record { sfits = omega (arith, c.reduce.type_inv) } in
    let same : to_z w128 (of_z w128 c.reduce.result) ≡ reduced c.args.t c.args.v =
    to_z-of_z w128 c.reduce.result f ∙ c.reduce.ensures ∙ ap (reduced c.args.t) (to_z-of_z w128 c.args.v c.ranges.v) in
    record {
      value = same ∙ converted_other c.args.t c.args.v c.in_default.not-Bool;
      within = rw same (reduced_in c.args.t c.args.v);
    }
