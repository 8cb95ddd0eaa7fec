-- The arguments of calls stand in a list.
use Rattle.p10_compile.proofs.Calls.{call_height, built_in_height}
use Rattle.p10_compile.proofs.heights.+heights.Goals as goal

pub height-returns-in-Call : goal.height-returns-in-Call
height-returns-in-Call t c =
    call_height c.args.v.now.form c.in-Call.field-0 c.in-Call.field-1 c.in-Call.arguments c.as_slice.result.now c.values_height.result c.in-Call.is c.as_slice.ensures c.values_height.ensures

pub height-returns-in-Builtin : goal.height-returns-in-Builtin
height-returns-in-Builtin t c =
    built_in_height c.args.v.now.form c.in-Builtin.field-0 c.in-Builtin.field-1 c.in-Builtin.arguments c.as_slice-in-Builtin.result.now c.values_height-in-Builtin.result c.in-Builtin.is c.as_slice-in-Builtin.ensures c.values_height-in-Builtin.ensures
