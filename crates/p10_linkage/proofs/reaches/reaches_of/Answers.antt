use Rattle.std.proofs.Common.{arith}
use Rattle.std.proofs.lemmas.Option.{slice_get_within}
use Rattle.p10_linkage.proofs.Reaching.{reached_turn}
use Rattle.p10_linkage.proofs.reaches.reaches_of.Goals as goal

pub loop-place-preserved : goal.loop-place-preserved
loop-place-preserved c =
    reached_turn c.args.numbers.now c.loop-place.reaches.items c.widen.new.reaches.items c.loop-place.place (omega (arith, c.loop-place-test.true)) c.loop-place.invariant c.widen.ensures

pub returns : goal.returns
returns c = λ p n there. c.loop-place.invariant p n (omega (arith, c.loop-place-test.false, slice_get_within c.args.numbers.now p n there)) there
