-- An item that ends before the number is passed.
use Rattle.std.proofs.Common.{ap, get_or, arith}
use Rattle.p10_interp.proofs.Ordered.{passes_one, ahead_none, ahead_some}
use Rattle.p10_interp.proofs.listed.next_past.Goals as goal

pub returns-then-place-listed : goal.returns-then-place-listed
returns-then-place-listed c = ahead_none c.args.number c.args.listed.items.now c.args.place (omega (arith, c.if-place-listed.true))

pub returns-then-number-past_item : goal.returns-then-number-past_item
returns-then-number-past_item c =
    ahead_some c.args.number c.args.listed.items.now c.args.place c.past_item.result (get_or c.args.listed.items.now c.args.place c.index-listed-place.result) (omega (arith, c.if-place-listed.false)) (ap (λ d. get_or c.args.listed.items.now c.args.place d) c.index-listed-place.is) c.if-number-past_item.true c.past_item.ensures

pub returns : goal.returns
returns c =
    passes_one c.args.number c.args.listed.items.now c.args.listed.values.now c.args.place c.args.used c.count_taken-taken.result c.past_item.result (get_or c.args.listed.items.now c.args.place c.index-listed-place.result) (omega (arith, c.if-place-listed.false)) (ap (λ d. get_or c.args.listed.items.now c.args.place d) c.index-listed-place.is) c.requires (omega (arith, c.if-number-past_item.false)) c.past_item.ensures
    c.count_taken-taken.ensures.taken c.count_taken-taken.ensures.most
