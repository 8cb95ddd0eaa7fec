use Rattle.std.proofs.Common.{length, refl, ap, arith}
use Rattle.p10_macros.proofs.Blocks.{one_alone, one_in_front, one_here, one_below, bits_of_one, bits_of_both, bits_of_part}
use Rattle.p10_macros.proofs.Results.{if_ok_so}
use Rattle.p10_macros.proofs.sets.+with_number.Goals as goal

pub returns-in_default-clause-one : goal.returns-in_default-clause-one
returns-in_default-clause-one t c =
    if_ok_so c.put.result c.put.ensures.part
    (λ set' part. one_alone _ _ _ c.args.set c.args.number set' c.as_slice.ensures.value c.bit.result c.bit.ensures c.in_default.ensures.none (part (omega arith)))

pub returns-then-part-block-clause-one : goal.returns-then-part-block-clause-one
returns-then-part-block-clause-one t c =
    if_ok_so c.put-then-part-block.result c.put-then-part-block.ensures.part
    (λ set' part. one_in_front _ _ _ c.args.set c.args.number set' c.as_slice.ensures.value _ _ _ c.in-Some.ensures.some
    c.bit-then-part-block.result c.bit-then-part-block.ensures c.if-part-block.true c.put-then-part-block.ensures.grown (part (omega (arith, c.in-Some.ensures.some.known, ap length c.as_slice.ensures.value))))

pub returns-then-part-block-2-clause-one : goal.returns-then-part-block-2-clause-one
returns-then-part-block-2-clause-one t c =
    if_ok_so c.put_over.result c.put_over.ensures.part
    (λ set' put. one_here _ _ _ c.args.set c.args.number set' c.as_slice.ensures.value _ _ _ c.in-Some.ensures.some
    c.bit-then-part-block-2.result c.bit-then-part-block-2.ensures c.if-part-block-2.true c.put_over.ensures.grown put)

pub returns-clause-one : goal.returns-clause-one
returns-clause-one t c =
    if_ok_so c.put_over-2.result c.put_over-2.ensures.part
    (λ set' put. one_below _ _ _ c.args.set c.args.number set' c.as_slice.ensures.value _ _ _ c.in-Some.ensures.some
    _ c.in_ok-lower.lower (omega (arith, c.if-part-block.false, c.if-part-block-2.false)) c.in_ok-lower.ensures.grown c.put_over-2.ensures.grown c.in_ok-lower.ensures.one put)

pub returns-in_default-clause-below : goal.returns-in_default-clause-below
returns-in_default-clause-below t c = λ bound below less. c.put.ensures.below bound below (bits_of_one c.args.number c.bit.result bound _ c.bit.ensures refl less)

pub returns-then-part-block-clause-below : goal.returns-then-part-block-clause-below
returns-then-part-block-clause-below t c = λ bound below less.
    c.put-then-part-block.ensures.below bound below (bits_of_one c.args.number c.bit-then-part-block.result bound _ c.bit-then-part-block.ensures refl less)

pub returns-then-part-block-2-clause-below : goal.returns-then-part-block-2-clause-below
returns-then-part-block-2-clause-below t c = λ bound below less.
    c.put_over.ensures.below bound below
    (bits_of_both _ _ bound _ (bits_of_part _ _ c.args.set _ _ _ bound c.as_slice.ensures.value c.in-Some.ensures.some below)
    (bits_of_one c.args.number c.bit-then-part-block-2.result bound _ c.bit-then-part-block-2.ensures c.if-part-block-2.true less))

pub returns-clause-below : goal.returns-clause-below
returns-clause-below t c = λ bound below less.
    c.put_over-2.ensures.below bound (c.in_ok-lower.ensures.below bound below less) (bits_of_part _ _ c.args.set _ _ _ bound c.as_slice.ensures.value c.in-Some.ensures.some below)
