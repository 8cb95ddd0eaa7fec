-- The function is known by its number.
use Rattle.std.proofs.Common.{◌≡◌, sym, subst, List, map, Some, slice_get}
use Rattle.std.specs.Int.{w128}
use Rattle.std.proofs.lemmas.Int.{to_z-of_z}
use Rattle.p10_core.specs.declared.program.Func.{Func}
use Rattle.p10_core.specs.Views.{plain_program, plain_function, plain_values}
use Rattle.p10_interp.specs.private.OpenCalls.{calls_in, calls_deep}
use Rattle.p10_interp.proofs.CalledAtOnce.{called_same}
use Rattle.p10_interp.proofs.calls_at_once.call_at_once.Goals as goal

pub returns-in-Some : goal.returns-in-Some
returns-in-Some c =
    called_same (plain_program c.args.caller.now.p.now) c.args.function (plain_values c.args.arguments.now) (calls_in c.args.caller.now.calls.now) c.args.caller.now.store.now.objects c.args.left.now c.enter_at_once.new.left (calls_deep c.enter_at_once.new.reached) c.enter_at_once.result _ (to_z-of_z w128 c.enter_at_once.result (record { sfits = c.enter_at_once.type_inv }))
    (c.enter_at_once.ensures c.args.function (subst (λ (fs : List Func). slice_get (map plain_function fs) c.args.function ≡ Some (plain_function c.in-Some.called.now)) c.as_slice.ensures (sym c.in-Some.ensures)))
