-- The variable holds what the call comes to.
use Rattle.std.proofs.Common.{refl, arith, map}
use Rattle.std.specs.Int.{w128}
use Rattle.std.proofs.lemmas.Int.{to_z-of_z}
use Rattle.p10_core.specs.Views.{plain_program, plain_values}
use Rattle.p10_interp.specs.private.Standing.{held_of}
use Rattle.p10_interp.specs.private.OpenCalls.{calls_in, calls_deep}
use Rattle.p10_interp.specs.private.Machines.{state_of}
use Rattle.p10_interp.proofs.AtOnce.{paid}
use Rattle.p10_interp.proofs.Executed.{variable_called}
use Rattle.p10_interp.proofs.statements_at_once.set_by_call.Goals as goal

pub returns-clause-done : goal.returns-clause-done
returns-clause-done c = λ place_at value_at own t name io f around e.
    variable_called (plain_program c.args.p.now) place_at value_at own t name c.args.made.0 (plain_values c.args.made.1.now) c.args.number f around (calls_in c.args.calls.now) (calls_in c.set_held.new.self) (state_of c.args.outside.now io) _ (state_of c.raise.new.outside io) c.pays.new.left c.value_of_call-found.new.left
    (calls_deep c.value_of_call-found.new.reached) c.value_of_call-found.result _ (held_of c.holding_number.result) (map held_of c.standing.result.now) c.standing.ensures e (c.is_frame_variable.ensures c.if-not-is_frame_variable.false) (paid _ _ _ c.pays.ensures c.if-not-pays.false) c.value_of_call-found.ensures (omega arith) (to_z-of_z w128 c.value_of_call-found.result (record { sfits = c.value_of_call-found.type_inv })) c.holding_number.ensures (c.set_held.ensures f around e) (c.raise.ensures io) refl

pub returns-clause-fewer : goal.returns-clause-fewer
returns-clause-fewer c = λ t. omega (arith, c.if-left-outside.false)
