-- The next item is looked at.
use Rattle.std.proofs.Common.{◌+◌, drop, map, arith}
use Rattle.p10_core.specs.Views.{plain_item, plain_written}
use Rattle.p10_code.specs.Machine.{item_slots, listed_in}
use Rattle.p10_machine.specs.Views.{slot_of}
use Rattle.p10_machine.proofs.Filled.{item_looked, item_found, none_listed}
use Rattle.p10_machine.proofs.listed.find_among.Goals as goal

pub loop-place-preserved : goal.loop-place-preserved
loop-place-preserved c =
    item_looked c.args.listed.items.now (slot_of c.args.m.now) c.loop-place.place c.loop-place.slot c.in-Some-slot_past.next c.args.number c.index-items-place.result _ c.loop-place-test.true c.index-items-place.is c.in-Some-slot_past.ensures c.loop-place.invariant
    (c.in-None.ensures (listed_in c.in-Some-slot_past.next (map plain_item (drop (c.loop-place.place + 1) c.args.listed.items.now)) (slot_of c.args.m.now)))

pub returns-in-Some : goal.returns-in-Some
returns-in-Some c =
    item_found c.args.listed.items.now (slot_of c.args.m.now) c.loop-place.place c.loop-place.slot c.args.number c.index-items-place.result c.in-Some.x _ c.loop-place-test.true c.index-items-place.is c.loop-place.invariant
    (c.in-Some.ensures (listed_in (c.loop-place.slot + item_slots (plain_written c.index-items-place.result.written)) (map plain_item (drop (c.loop-place.place + 1) c.args.listed.items.now)) (slot_of c.args.m.now)))

pub returns : goal.returns
returns c = none_listed c.args.listed.items.now (slot_of c.args.m.now) c.loop-place.place c.loop-place.slot c.args.number _ (omega (arith, c.loop-place-test.false)) c.loop-place.invariant
