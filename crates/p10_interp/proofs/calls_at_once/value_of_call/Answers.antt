-- A step, and the call.
use Rattle.std.specs.Int.{w128}
use Rattle.std.proofs.lemmas.Int.{to_z-of_z}
use Rattle.p10_core.specs.Views.{plain_program, plain_values}
use Rattle.p10_interp.specs.private.OpenCalls.{calls_in, calls_deep}
use Rattle.p10_interp.proofs.AtOnce.{paid}
use Rattle.p10_interp.proofs.CalledAtOnce.{value_called, value_same}
use Rattle.p10_interp.proofs.calls_at_once.value_of_call.Goals as goal

pub returns : goal.returns
returns c =
    value_same (plain_program c.args.caller.now.p.now) c.args.made.0 (plain_values c.args.made.1.now) (calls_in c.args.caller.now.calls.now) c.args.caller.now.store.now.objects c.args.left.now c.call_at_once.new.left (calls_deep c.call_at_once.new.reached) c.call_at_once.result _ (to_z-of_z w128 c.call_at_once.result (record { sfits = c.call_at_once.type_inv }))
    (value_called (plain_program c.args.caller.now.p.now) c.args.made.0 (plain_values c.args.made.1.now) (calls_in c.args.caller.now.calls.now) c.args.caller.now.store.now.objects c.args.left.now c.pays.new.left c.call_at_once.new.left (calls_deep c.call_at_once.new.reached) c.call_at_once.result (paid _ _ _ c.pays.ensures c.if-not-pays.false) c.call_at_once.ensures)
