use Rattle.std.proofs.Common.{true, false, ◌∙◌, sym, arith}
use Rattle.p10_linkage.specs.Linkage.{same_known, parameters_of}
use Rattle.p10_linkage.specs.LinkedViews.{plain_kind}
use Rattle.p10_linkage.proofs.LinkedTypes.{parameters_differ, same_turn, same_done}
use Rattle.p10_linkage.proofs.listing.same_parameters.Goals as goal

pub returns-then-count-count_of : goal.returns-then-count-count_of
returns-then-count-count_of c =
    sym (parameters_differ (parameters_of (plain_kind c.args.one.now)) (parameters_of (plain_kind c.args.other.now))
    (λ e. c.if-count-count_of.true (c.count_of-count.ensures ∙ e ∙ sym c.count_of.ensures)))

pub returns-then-not-same_known : goal.returns-then-not-same_known
returns-then-not-same_known c =
    same_turn (parameters_of (plain_kind c.args.one.now)) (parameters_of (plain_kind c.args.other.now)) c.loop-place.place c.same_known.result false _
    (omega (arith, c.loop-place-test.true, c.count_of-count.ensures)) (omega (arith, c.loop-place-test.true, c.count_of-count.ensures, c.count_of.ensures, c.if-count-count_of.false))
    (c.same_known.ensures ∙ (λ i. same_known (c.parameter_at.ensures i) (c.parameter_at-in-loop-place.ensures i))) c.if-not-same_known.true c.loop-place.invariant

pub loop-place-preserved : goal.loop-place-preserved
loop-place-preserved c =
    same_turn (parameters_of (plain_kind c.args.one.now)) (parameters_of (plain_kind c.args.other.now)) c.loop-place.place c.same_known.result true _
    (omega (arith, c.loop-place-test.true, c.count_of-count.ensures)) (omega (arith, c.loop-place-test.true, c.count_of-count.ensures, c.count_of.ensures, c.if-count-count_of.false))
    (c.same_known.ensures ∙ (λ i. same_known (c.parameter_at.ensures i) (c.parameter_at-in-loop-place.ensures i))) c.if-not-same_known.false c.loop-place.invariant

pub returns : goal.returns
returns c =
    same_done (parameters_of (plain_kind c.args.one.now)) (parameters_of (plain_kind c.args.other.now)) c.loop-place.place _
    (omega (arith, c.loop-place-test.false, c.count_of-count.ensures)) (omega (arith, c.loop-place-test.false, c.count_of-count.ensures, c.count_of.ensures, c.if-count-count_of.false)) c.loop-place.invariant
