-- The next item is looked at.
use Rattle.std.proofs.Common.{◌+◌, drop, map, ◌∙◌, ap, sym, arith}
use Rattle.p10_core.specs.Views.{plain_item}
use Rattle.p10_interp.specs.private.Operations.{scalars_of_items}
use Rattle.p10_interp.specs.private.Listing.{first_listed}
use Rattle.p10_interp.proofs.Filled.{item_looked, item_found, none_listed}
use Rattle.p10_interp.proofs.listed.find_among.Goals as goal

pub loop-place-preserved : goal.loop-place-preserved
loop-place-preserved c = (
  omega (arith, c.loop-place.invariant.0, c.count_taken-used.ensures.most),
  item_looked c.args.listed.items.now c.args.listed.values.now c.loop-place.place c.loop-place.used (c.loop-place.used + c.count_taken-used.result) c.args.number c.index-items-place.result _ c.loop-place-test.true c.index-items-place.is c.loop-place.invariant.1
      (c.in-None.ensures (λ xs. scalars_of_items (map plain_item (drop (c.loop-place.place + 1) c.args.listed.items.now)) xs) ∙
      ap (λ r. first_listed c.args.number (scalars_of_items (map plain_item (drop (c.loop-place.place + 1) c.args.listed.items.now)) (drop (c.loop-place.used + r) c.args.listed.values.now))) (sym c.count_taken-used.ensures.taken)),
)

pub returns-in-Some : goal.returns-in-Some
returns-in-Some c =
    item_found c.args.listed.items.now c.args.listed.values.now c.loop-place.place c.loop-place.used c.args.number c.index-items-place.result c.in-Some.x _ c.loop-place-test.true c.index-items-place.is c.loop-place.invariant.1
    (c.in-Some.ensures (λ xs. scalars_of_items (map plain_item (drop (c.loop-place.place + 1) c.args.listed.items.now)) xs))

pub returns : goal.returns
returns c = none_listed c.args.listed.items.now c.args.listed.values.now c.loop-place.place c.loop-place.used c.args.number _ (omega (arith, c.loop-place-test.false)) c.loop-place.invariant.1
