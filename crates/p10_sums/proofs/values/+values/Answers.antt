use Rattle.std.proofs.Common.{option_map, option_copied}
use Rattle.p10_cert.specs.Claims.{func_of}
use Rattle.p10_sums.specs.private.Tallies.{counting_by}
use Rattle.p10_sums.proofs.CallTallies.{call_counted, built_in_counted}
use Rattle.p10_sums.proofs.Rows.{started, counted_on, values_start, values_next, values_end}
use Rattle.p10_sums.proofs.values.+values.Goals as goal

pub value_tally-returns-in-Call : goal.value_tally-returns-in-Call
value_tally-returns-in-Call t c =
    call_counted c.args.basis.now c.args.v.now.form c.in-Call.field-0 c.in-Call.function c.in-Call.arguments c.as_slice.result.now (option_map func_of (option_copied c.claim_at.result))
    c.values_tally-given.result c.of_callee.result c.in_turn-in-Call.result c.paying-in-Call.result
    c.in-Call.is c.as_slice.ensures c.values_tally-given.ensures c.claim_at.ensures c.of_callee.ensures c.in_turn-in-Call.ensures c.paying-in-Call.ensures

pub value_tally-returns-in-Builtin : goal.value_tally-returns-in-Builtin
value_tally-returns-in-Builtin t c =
    built_in_counted c.args.basis.now c.args.v.now.form c.in-Builtin.field-0 c.in-Builtin.library c.in-Builtin.arguments c.as_slice-in-Builtin.result.now
    c.values_tally-given-in-Builtin.result c.of_library.result c.in_turn-in-Builtin.result
    c.in-Builtin.is c.as_slice-in-Builtin.ensures c.values_tally-given-in-Builtin.ensures c.of_library.ensures c.in_turn-in-Builtin.ensures

pub values_tally-loop-v-init : goal.values_tally-loop-v-init
values_tally-loop-v-init t c = started _ _ _ c.no_tally-total.ensures (values_start (counting_by c.args.basis.now) c.args.all.now)

pub values_tally-loop-v-preserved : goal.values_tally-loop-v-preserved
values_tally-loop-v-preserved t c = counted_on _ _ _ _ _ _ c.in_turn-total.ensures c.value_tally.ensures
    (values_next (counting_by c.args.basis.now) _ _ c.args.all.now c.loop-v.v-index c.v-item.result c.loop-v-test.true c.v-item.is c.loop-v.invariant)

pub values_tally-returns : goal.values_tally-returns
values_tally-returns t c = values_end (counting_by c.args.basis.now) _ _ c.args.all.now c.loop-v.v-index c.loop-v-test.false c.loop-v.invariant
