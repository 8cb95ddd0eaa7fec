use Rattle.std.proofs.Common.{◌∙◌, arith}
use Rattle.p10_linkage.proofs.Reaching.{none_on, swapped_turn, swapped_end}
use Rattle.p10_linkage.proofs.reaches.swap_within.Goals as goal

pub loop-place-init : goal.loop-place-init
loop-place-init c = record { low = omega arith; same = none_on c.args.part.first c.args.old c.args.new c.args.numbers.now.items }

pub loop-place-preserved : goal.loop-place-preserved
loop-place-preserved c = record {
  low = omega (arith, c.loop-place.invariant.low);
  same = c.swap_at.ensures ∙ swapped_turn c.args.part.first c.loop-place.place c.args.old c.args.new c.loop-place.numbers.items c.args.numbers.now.items c.loop-place.invariant.low c.loop-place.invariant.same;
}

pub returns : goal.returns
returns c =
    swapped_end c.args.part.first c.args.part.past c.loop-place.place c.args.old c.args.new c.loop-place.numbers.items c.args.numbers.now.items (omega (arith, c.loop-place-test.false)) c.loop-place.invariant.same c.requires
