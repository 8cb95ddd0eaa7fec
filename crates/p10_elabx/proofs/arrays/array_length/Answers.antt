use Rattle.std.proofs.Common.{◌≡◌, arith, to_z, of_z}
use Rattle.std.proofs.lemmas.Int.{ints, to_z-of_z}
use Rattle.std.specs.Int.{w128}
use Rattle.p10_elabx.proofs.Lengths.{too_few, too_many, counts}
use Rattle.p10_elabx.proofs.arrays.array_length.Goals as goal

pub returns-then-length-lt1 : goal.returns-then-length-lt1
returns-then-length-lt1 c =
    let same : to_z w128 (of_z w128 c.args.length) ≡ c.args.length = to_z-of_z w128 c.args.length c.ranges.length in
    too_few c.args.length (omega (arith, ints, same, c.if-length-lt1.true))

pub returns-then-length-gt-MOST_ELEMENTS : goal.returns-then-length-gt-MOST_ELEMENTS
returns-then-length-gt-MOST_ELEMENTS c =
    let same : to_z w128 (of_z w128 c.args.length) ≡ c.args.length = to_z-of_z w128 c.args.length c.ranges.length in
    too_many c.args.length (omega (arith, ints, same, c.if-length-gt-MOST_ELEMENTS.true))

pub returns : goal.returns
returns c =
    let same : to_z w128 (of_z w128 c.args.length) ≡ c.args.length = to_z-of_z w128 c.args.length c.ranges.length in
    counts c.args.length c.ranges.length (omega (arith, ints, same, c.if-length-lt1.false)) (omega (arith, ints, same, c.if-length-gt-MOST_ELEMENTS.false))
