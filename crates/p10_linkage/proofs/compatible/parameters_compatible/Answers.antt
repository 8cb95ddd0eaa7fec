use Rattle.std.proofs.Common.{true, false, ◌∙◌, sym, arith}
use Rattle.p10_core.specs.Views.{plain_types}
use Rattle.p10_linkage.specs.Linkage.{parameters_of}
use Rattle.p10_linkage.specs.LinkedViews.{plain_kind}
use Rattle.p10_linkage.specs.Compatible.{known_compatible}
use Rattle.p10_linkage.proofs.Comparisons.{compatible_uneven, compatible_turn, compatible_done}
use Rattle.p10_linkage.proofs.compatible.parameters_compatible.Goals as goal

pub returns-then-count-count_of : goal.returns-then-count-count_of
returns-then-count-count_of c =
    sym (compatible_uneven (plain_types c.args.types.now) (parameters_of (plain_kind c.args.one.now)) (parameters_of (plain_kind c.args.other.now))
    (λ e. c.if-count-count_of.true (c.count_of-count.ensures ∙ e ∙ sym c.count_of.ensures)))

pub returns-then-not-alike : goal.returns-then-not-alike
returns-then-not-alike c =
    compatible_turn (plain_types c.args.types.now) (parameters_of (plain_kind c.args.one.now)) (parameters_of (plain_kind c.args.other.now)) c.loop-place.place c.in_ok-alike.alike false _
    (omega (arith, c.loop-place-test.true, c.count_of-count.ensures)) (omega (arith, c.loop-place-test.true, c.count_of-count.ensures, c.count_of.ensures, c.if-count-count_of.false))
    (c.in_ok-alike.ensures ∙ (λ i. known_compatible (plain_types c.args.types.now) (c.parameter_at-these.ensures i) (c.parameter_at-those.ensures i))) c.if-not-alike.true c.loop-place.invariant

pub loop-place-preserved : goal.loop-place-preserved
loop-place-preserved c =
    compatible_turn (plain_types c.args.types.now) (parameters_of (plain_kind c.args.one.now)) (parameters_of (plain_kind c.args.other.now)) c.loop-place.place c.in_ok-alike.alike true _
    (omega (arith, c.loop-place-test.true, c.count_of-count.ensures)) (omega (arith, c.loop-place-test.true, c.count_of-count.ensures, c.count_of.ensures, c.if-count-count_of.false))
    (c.in_ok-alike.ensures ∙ (λ i. known_compatible (plain_types c.args.types.now) (c.parameter_at-these.ensures i) (c.parameter_at-those.ensures i))) c.if-not-alike.false c.loop-place.invariant

pub returns : goal.returns
returns c =
    compatible_done (plain_types c.args.types.now) (parameters_of (plain_kind c.args.one.now)) (parameters_of (plain_kind c.args.other.now)) c.loop-place.place _
    (omega (arith, c.loop-place-test.false, c.count_of-count.ensures)) (omega (arith, c.loop-place-test.false, c.count_of-count.ensures, c.count_of.ensures, c.if-count-count_of.false)) c.loop-place.invariant
