use Rattle.std.proofs.Common.{◌∙◌, ◌+◌, drop, if◌then◌else◌, List, Option, None, sym, ap, arith}
use Rattle.p10_core.specs.Types.{PlainType, PlainStructure}
use Rattle.p10_core.specs.Views.{plain_types}
use Rattle.p10_core.specs.Representing.{represented}
use Rattle.p10_linkage.specs.Linkage.{parameters_of}
use Rattle.p10_linkage.specs.LinkedViews.{plain_kind}
use Rattle.p10_linkage.specs.Between.{known_united, parameters_united}
use Rattle.p10_linkage.proofs.Turns.{parameters_apart, parameters_turn, parameters_done}
use Rattle.p10_linkage.proofs.agreeing.unite_parameters.Goals as goal

pub returns-then-count-count_of-clause-united : goal.returns-then-count-count_of-clause-united
returns-then-count-count_of-clause-united c =
    sym (parameters_apart (parameters_of (plain_kind c.args.one.now)) (parameters_of (plain_kind c.args.other.now)) (represented (plain_types c.args.types.now) c.args.stands.now.numbers.items)
    (λ e. c.if-count-count_of.true (c.count_of-count.ensures ∙ e ∙ sym c.count_of.ensures)))

pub returns-then-not-unite_known-clause-united : goal.returns-then-not-unite_known-clause-united
returns-then-not-unite_known-clause-united c =
    let ts : List (Option PlainType) = parameters_of (plain_kind c.args.one.now) in
    let us : List (Option PlainType) = parameters_of (plain_kind c.args.other.now) in
    let ss : List PlainStructure = represented (plain_types c.args.types.now) c.loop-place.stands.numbers.items in
    let rs : List PlainStructure = represented (plain_types c.args.types.now) c.unite_known.new.stands.numbers.items in
    sym (ap (λ t. if t then parameters_united (drop (c.loop-place.place + 1) ts) (drop (c.loop-place.place + 1) us) rs else None) c.if-not-unite_known.true)
    ∙ sym (parameters_turn ts us c.loop-place.place ss rs c.unite_known.result
    (omega (arith, c.loop-place-test.true, c.count_of-count.ensures)) (omega (arith, c.loop-place-test.true, c.count_of-count.ensures, c.count_of.ensures, c.if-count-count_of.false))
    (c.unite_known.ensures.united ∙ (λ i. known_united (c.parameter_at-these.ensures i) (c.parameter_at-those.ensures i) ss)))
    ∙ c.loop-place.invariant.same

pub loop-place-preserved : goal.loop-place-preserved
loop-place-preserved c =
    let ts : List (Option PlainType) = parameters_of (plain_kind c.args.one.now) in
    let us : List (Option PlainType) = parameters_of (plain_kind c.args.other.now) in
    let ss : List PlainStructure = represented (plain_types c.args.types.now) c.loop-place.stands.numbers.items in
    let rs : List PlainStructure = represented (plain_types c.args.types.now) c.unite_known.new.stands.numbers.items in
    record {
      long = c.unite_known.ensures.as_many ∙ c.loop-place.invariant.long;
      same =
          sym (ap (λ t. if t then parameters_united (drop (c.loop-place.place + 1) ts) (drop (c.loop-place.place + 1) us) rs else None) c.if-not-unite_known.false)
          ∙ sym (parameters_turn ts us c.loop-place.place ss rs c.unite_known.result
          (omega (arith, c.loop-place-test.true, c.count_of-count.ensures)) (omega (arith, c.loop-place-test.true, c.count_of-count.ensures, c.count_of.ensures, c.if-count-count_of.false))
          (c.unite_known.ensures.united ∙ (λ i. known_united (c.parameter_at-these.ensures i) (c.parameter_at-those.ensures i) ss)))
          ∙ c.loop-place.invariant.same;
    }

pub returns-clause-united : goal.returns-clause-united
returns-clause-united c =
    sym (parameters_done (parameters_of (plain_kind c.args.one.now)) (parameters_of (plain_kind c.args.other.now)) c.loop-place.place (represented (plain_types c.args.types.now) c.loop-place.stands.numbers.items)
    (omega (arith, c.loop-place-test.false, c.count_of-count.ensures)) (omega (arith, c.loop-place-test.false, c.count_of-count.ensures, c.count_of.ensures, c.if-count-count_of.false)))
    ∙ c.loop-place.invariant.same
