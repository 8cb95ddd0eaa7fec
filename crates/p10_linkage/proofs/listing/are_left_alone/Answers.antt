use Rattle.std.proofs.Common.{true, false, ◌∙◌, ap, arith}
use Rattle.p10_linkage.specs.Linkage.{is_left_alone, parameters_of}
use Rattle.p10_linkage.specs.LinkedViews.{plain_kind}
use Rattle.p10_linkage.proofs.LinkedTypes.{alone_turn, alone_done}
use Rattle.p10_linkage.proofs.listing.are_left_alone.Goals as goal

pub returns-then-not-is_left_alone : goal.returns-then-not-is_left_alone
returns-then-not-is_left_alone c =
    alone_turn (parameters_of (plain_kind c.args.kind.now)) c.loop-place.place c.is_left_alone.result false _ (omega (arith, c.loop-place-test.true, c.count_of-place-end.ensures))
    (c.is_left_alone.ensures ∙ ap is_left_alone c.parameter_at.ensures) c.if-not-is_left_alone.true c.loop-place.invariant

pub loop-place-preserved : goal.loop-place-preserved
loop-place-preserved c =
    alone_turn (parameters_of (plain_kind c.args.kind.now)) c.loop-place.place c.is_left_alone.result true _ (omega (arith, c.loop-place-test.true, c.count_of-place-end.ensures))
    (c.is_left_alone.ensures ∙ ap is_left_alone c.parameter_at.ensures) c.if-not-is_left_alone.false c.loop-place.invariant

pub returns : goal.returns
returns c = alone_done (parameters_of (plain_kind c.args.kind.now)) c.loop-place.place _ (omega (arith, c.loop-place-test.false, c.count_of-place-end.ensures)) c.loop-place.invariant
