use Rattle.std.proofs.Common.{arith, rules, subst}
use Rattle.std.proofs.lemmas.Result.{err_from_is_err_and}
use Rattle.p10_expand.specs.private.Standing.{Stands}
use Rattle.p10_expand.proofs.Searching.{absent_more, keeps_on, none_found, turn_fails, turn_finds, turn_goes_on}
use Rattle.p10_expand.proofs.walk.first_present.Goals as goal

pub returns-in_err-number-clause-cause : goal.returns-in_err-number-clause-cause
returns-in_err-number-clause-cause g c =
    let p = err_from_is_err_and c.from_residual.result c.from_residual.ensures.1 in
    rw (p.1, p.2) (turn_fails (g.F.Files.held c.loop-place.files) (g.F.Files.held c.args.files.now) c.args.state.now c.loop-place.state c.locate.new.state c.args.places.now c.loop-place.place-index c.place-item.result c.in_err-number.field-0.0
    c.loop-place.invariant.held c.loop-place-test.true c.place-item.is c.loop-place.invariant.keeps c.loop-place.invariant.none c.in_err-number.ensures.cause)

pub returns-in-Some-clause-found : goal.returns-in-Some-clause-found
returns-in-Some-clause-found g c =
    turn_finds (g.F.Files.held c.loop-place.files) (g.F.Files.held c.args.files.now) c.args.state.now c.loop-place.state c.locate.new.state c.args.places.now c.loop-place.place-index c.place-item.result c.args.depth c.in_ok-number.field-0 c.in-Some.number
    c.loop-place.invariant.held c.loop-place-test.true c.place-item.is c.loop-place.invariant.keeps c.loop-place.invariant.none c.in_ok-number.ensures.found c.in-Some.is

pub loop-place-preserved : goal.loop-place-preserved
loop-place-preserved g c =
    let found = turn_goes_on (g.F.Files.held c.loop-place.files) (g.F.Files.held c.args.files.now) c.loop-place.state c.locate.new.state c.place-item.result c.args.depth c.in_ok-number.field-0 c.loop-place.invariant.held c.in_ok-number.ensures.found c.in_default.is in
    record {
      stands = subst (λ h. Stands h c.locate.new.state) c.loop-place.invariant.held c.in_ok-number.ensures.stands;
      keeps = keeps_on c.args.state.now c.loop-place.state c.locate.new.state c.loop-place.invariant.keeps found.1;
      none = absent_more _ c.args.places.now c.loop-place.place-index c.place-item.result c.loop-place-test.true c.place-item.is c.loop-place.invariant.none found.0;
      held = search rules;
      count = search rules;
    }

pub returns-clause-found : goal.returns-clause-found
returns-clause-found g c = (none_found _ _ c.loop-place.place-index (omega (arith, c.loop-place-test.false)) c.loop-place.invariant.none, c.loop-place.invariant.keeps)
