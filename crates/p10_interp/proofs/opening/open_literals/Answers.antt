-- The next literal is opened.
use Rattle.std.proofs.Common.{◌+◌, map, refl, arith}
use Rattle.p10_core.specs.Views.{plain_literal}
use Rattle.std.proofs.lemmas.List.{length-map}
use Rattle.p10_interp.proofs.Items.{item_there}
use Rattle.p10_interp.proofs.Statics.{literal_next, literals_all}
use Rattle.p10_interp.proofs.opening.open_literals.Goals as goal

pub loop-place-preserved : goal.loop-place-preserved
loop-place-preserved c = (
  literal_next c.args.store.now.objects c.args.store.now.opened (map plain_literal c.args.literals.now) c.loop-place.place (c.loop-place.place + 1) (plain_literal c.index-literals-place.result) c.loop-place.store.objects c.open_literal.new.store.objects c.loop-place.store.opened
      (item_there plain_literal c.args.literals.now c.loop-place.place c.index-literals-place.result c.loop-place-test.true c.index-literals-place.is) refl c.loop-place.invariant.1 c.loop-place.invariant.0 c.in_ok-open_literal.ensures.objects,
  omega (arith, c.loop-place.invariant.1, c.in_ok-open_literal.ensures.opened),
  omega (arith, c.loop-place-test.true),
)

pub returns-clause-objects : goal.returns-clause-objects
returns-clause-objects c = literals_all c.args.store.now.objects c.args.store.now.opened (map plain_literal c.args.literals.now) c.loop-place.place c.loop-place.store.objects (let d = length-map c.args.literals.now plain_literal in omega (arith, d, c.loop-place-test.false)) c.loop-place.invariant.0

pub returns-clause-opened : goal.returns-clause-opened
returns-clause-opened c = omega (arith, c.loop-place.invariant.1, c.loop-place.invariant.2, c.loop-place-test.false)
