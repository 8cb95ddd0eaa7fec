-- The next item gives the scalar, or none does.
use Rattle.std.proofs.Common.{◌+◌, drop, map, ap, get_or, arith}
use Rattle.p10_core.specs.Views.{plain_item, plain_written}
use Rattle.p10_code.specs.Machine.{item_slots, listed_in}
use Rattle.p10_machine.specs.Views.{slot_of}
use Rattle.p10_machine.proofs.Filled.{none_there, next_gives}
use Rattle.p10_machine.proofs.listed.find_listed.Goals as goal

pub returns-then-place-listed : goal.returns-then-place-listed
returns-then-place-listed c = none_there c.args.number c.args.listed.items.now (slot_of c.args.m.now) c.args.listed.slot c.args.cursor.place c.args.cursor.slot (omega (arith, c.if-place-listed.true)) c.requires.passed

pub returns : goal.returns
returns c =
    next_gives c.args.number c.args.listed.items.now (slot_of c.args.m.now) c.args.listed.slot c.args.cursor.place c.args.cursor.slot (get_or c.args.listed.items.now c.args.cursor.place c.index-listed-place.result) c.scalar_in.result (omega (arith, c.if-place-listed.false)) (ap (λ d. get_or c.args.listed.items.now c.args.cursor.place d) c.index-listed-place.is) (c.requires.order c.if-not-listed.false) c.requires.passed c.requires.ahead
    (c.scalar_in.ensures (listed_in (c.args.cursor.slot + item_slots (plain_written (get_or c.args.listed.items.now c.args.cursor.place c.index-listed-place.result).written)) (drop (c.args.cursor.place + 1) (map plain_item c.args.listed.items.now)) (slot_of c.args.m.now)))
