use Rattle.p10_macros.proofs.Blocks.{all_over_second, all_over_first, all_over_both, all_is_second, bits_of_both, bits_of_part, bits_in}
use Rattle.p10_macros.proofs.Results.{if_ok_so}
use Rattle.p10_macros.proofs.sets.+unite.Goals as goal

pub returns-then-that-this-clause-both : goal.returns-then-that-this-clause-both
returns-then-that-this-clause-both t c =
    if_ok_so c.put_over.result c.put_over.ensures.part
    (λ set put. λ known known'. all_over_second _ _ _ _ _ c.args.these c.args.those _ _ _ _ _ _ c.in_ok-lower.lower set c.as_slice.ensures.value c.as_slice-2.ensures.value
    c.in-Some.ensures.some c.in-Some-part_at.ensures.some c.in_ok-lower.ensures.grown c.put_over.ensures.grown c.if-that-this.true c.in_ok-lower.ensures.both put)

pub returns-then-this-that-clause-both : goal.returns-then-this-that-clause-both
returns-then-this-that-clause-both t c =
    if_ok_so c.put_over-then-this-that.result c.put_over-then-this-that.ensures.part
    (λ set put. λ known known'. all_over_first _ _ _ _ _ c.args.these c.args.those _ _ _ _ _ _ c.in_ok-lower-2.lower set c.as_slice.ensures.value c.as_slice-2.ensures.value
    c.in-Some.ensures.some c.in-Some-part_at.ensures.some c.in_ok-lower-2.ensures.grown c.put_over-then-this-that.ensures.grown c.if-this-that.true c.in_ok-lower-2.ensures.both put)

pub returns-then-lower-that-clause-both : goal.returns-then-lower-that-clause-both
returns-then-lower-that-clause-both t c = λ known known'.
    all_is_second _ _ _ _ c.args.these c.args.those _ _ _ _ _ _ c.in_ok-lower-3.lower c.as_slice.ensures.value c.as_slice-2.ensures.value
    c.in-Some.ensures.some c.in-Some-part_at.ensures.some c.in_ok-lower-3.ensures.grown c.if-that-this.false c.if-this-that.false c.if-bits-that.true c.if-lower-that.true c.in_ok-lower-3.ensures.both

pub returns-clause-both : goal.returns-clause-both
returns-clause-both t c =
    if_ok_so c.put_over-2.result c.put_over-2.ensures.part
    (λ set put. λ known known'. all_over_both _ _ _ _ _ c.args.these c.args.those _ _ _ _ _ _ c.in_ok-lower-3.lower set c.as_slice.ensures.value c.as_slice-2.ensures.value
    c.in-Some.ensures.some c.in-Some-part_at.ensures.some c.in_ok-lower-3.ensures.grown c.put_over-2.ensures.grown c.if-that-this.false c.if-this-that.false c.in_ok-lower-3.ensures.both put)

pub returns-then-that-this-clause-below : goal.returns-then-that-this-clause-below
returns-then-that-this-clause-below t c = λ bound below.
    c.put_over.ensures.below bound (c.in_ok-lower.ensures.below bound below) (bits_of_part _ _ c.args.these _ _ _ bound c.as_slice.ensures.value c.in-Some.ensures.some below)

pub returns-then-this-that-clause-below : goal.returns-then-this-that-clause-below
returns-then-this-that-clause-below t c = λ bound below.
    c.put_over-then-this-that.ensures.below bound (c.in_ok-lower-2.ensures.below bound below)
    (bits_of_part _ _ c.args.those _ _ _ bound c.as_slice-2.ensures.value c.in-Some-part_at.ensures.some below)

pub returns-clause-below : goal.returns-clause-below
returns-clause-below t c = λ bound below.
    c.put_over-2.ensures.below bound (c.in_ok-lower-3.ensures.below bound below)
    (bits_of_both _ _ bound _ (bits_of_part _ _ c.args.these _ _ _ bound c.as_slice.ensures.value c.in-Some.ensures.some below)
    (bits_in _ _ _ bound c.if-that-this.false c.if-this-that.false (bits_of_part _ _ c.args.those _ _ _ bound c.as_slice-2.ensures.value c.in-Some-part_at.ensures.some below)))
