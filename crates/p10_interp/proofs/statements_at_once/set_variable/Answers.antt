-- The variable holds what the value comes to.
use Rattle.std.proofs.Common.{arith, map}
use Rattle.std.specs.Int.{w128}
use Rattle.std.proofs.lemmas.Int.{to_z-of_z}
use Rattle.p10_core.specs.Views.{plain_program, plain_value}
use Rattle.p10_interp.specs.private.Standing.{held_of}
use Rattle.p10_interp.specs.private.OpenCalls.{calls_in}
use Rattle.p10_interp.specs.private.Machines.{state_of}
use Rattle.p10_interp.proofs.AtOnce.{paid}
use Rattle.p10_interp.proofs.Executed.{variable_executed}
use Rattle.p10_interp.proofs.statements_at_once.set_variable.Goals as goal

pub returns-clause-done : goal.returns-clause-done
returns-clause-done c = λ at t io f around e.
    variable_executed (plain_program c.args.p.now) at t (plain_value c.args.value.now) c.args.number f around (calls_in c.args.calls.now) (calls_in c.set_held.new.self) (state_of c.args.outside.now io) c.pays.new.left c.number_in_call-x.new.left c.number_in_call-x.result _ (held_of c.holding_number.result) (map held_of c.standing.result.now)
    c.standing.ensures e (c.is_frame_variable.ensures c.if-not-is_frame_variable.false) (paid _ _ _ c.pays.ensures c.if-not-pays.false) (λ s same. c.number_in_call-x.ensures.found s f around same e) (omega arith) (to_z-of_z w128 c.number_in_call-x.result (record { sfits = c.number_in_call-x.type_inv })) c.holding_number.ensures (c.set_held.ensures f around e)

pub returns-clause-fewer : goal.returns-clause-fewer
returns-clause-fewer c = λ t. omega (arith, paid _ _ _ c.pays.ensures c.if-not-pays.false, c.number_in_call-x.ensures.fewer)
