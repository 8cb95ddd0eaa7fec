-- The next item gives the scalar, or none does.
use Rattle.std.proofs.Common.{◌+◌, drop, map, ap, get_or, arith}
use Rattle.p10_core.specs.Views.{plain_item}
use Rattle.p10_interp.specs.private.Operations.{scalars_of_items}
use Rattle.p10_interp.proofs.Ordered.{none_there, next_gives}
use Rattle.p10_interp.proofs.listed.find_listed.Goals as goal

pub returns-then-place-listed : goal.returns-then-place-listed
returns-then-place-listed c = none_there c.args.number c.args.listed.items.now c.args.listed.values.now c.args.listed.ordered c.args.listed.place c.args.listed.used (omega (arith, c.if-place-listed.true)) c.requires.list

pub returns : goal.returns
returns c =
    next_gives c.args.number c.args.listed.items.now c.args.listed.values.now c.args.listed.ordered c.args.listed.place c.args.listed.used (get_or c.args.listed.items.now c.args.listed.place c.index-listed-place.result) c.scalar_in.result (omega (arith, c.if-place-listed.false)) (ap (λ d. get_or c.args.listed.items.now c.args.listed.place d) c.index-listed-place.is) c.if-not-listed.false c.requires.list c.requires.ahead
    (c.scalar_in.ensures (λ xs. scalars_of_items (drop (c.args.listed.place + 1) (map plain_item c.args.listed.items.now)) xs))
