-- The variable holds what the operator gives.
use Rattle.std.proofs.Common.{arith, map}
use Rattle.std.specs.Int.{w128}
use Rattle.std.proofs.lemmas.Int.{to_z-of_z}
use Rattle.p10_core.specs.Types.{plain_type}
use Rattle.p10_core.specs.Views.{plain_program, plain_value}
use Rattle.p10_interp.specs.private.Standing.{held_of}
use Rattle.p10_interp.specs.private.OpenCalls.{calls_in}
use Rattle.p10_interp.specs.private.Machines.{state_of}
use Rattle.p10_interp.proofs.AtOnce.{paid}
use Rattle.p10_interp.proofs.Executed.{variable_updated_by, updated_fewer}
use Rattle.p10_interp.proofs.statements_at_once.update_variable.Goals as goal

pub returns-clause-done : goal.returns-clause-done
returns-clause-done c = λ kind at io f around e.
    variable_updated_by (plain_program c.args.p.now) kind c.args.applied.0 (plain_type c.args.applied.1.now) (plain_type c.args.parts.1.now) at (plain_value c.args.parts.2.now) c.args.parts.0 f around (calls_in c.args.calls.now) (calls_in c.set_held.new.self) (state_of c.args.outside.now io)
    c.pays.new.left c.pays-2.new.left c.number_held-old.new.left c.convert_number-x.new.left c.number_in_call-y.new.left c.pays-3.new.left c.apply_to_numbers-z.new.left c.convert_number-new.new.left c.number_held-old.result c.convert_number-x.result c.number_in_call-y.result c.apply_to_numbers-z.result c.convert_number-new.result _ _ _ _ _ (held_of c.holding_number.result) (map held_of c.standing.result.now)
    c.standing.ensures e (to_z-of_z w128 c.number_held-old.result (record { sfits = c.number_held-old.type_inv })) (to_z-of_z w128 c.convert_number-x.result (record { sfits = c.convert_number-x.type_inv })) (to_z-of_z w128 c.number_in_call-y.result (record { sfits = c.number_in_call-y.type_inv })) (to_z-of_z w128 c.apply_to_numbers-z.result (record { sfits = c.apply_to_numbers-z.type_inv })) (to_z-of_z w128 c.convert_number-new.result (record { sfits = c.convert_number-new.type_inv })) (paid _ _ _ c.pays.ensures c.if-not-pays.false) (paid _ _ _ c.pays-2.ensures c.if-not-pays-2.false) c.number_held-old.ensures c.convert_number-x.ensures (omega arith) (λ s same. c.number_in_call-y.ensures.found s f around same e) (omega arith) (paid _ _ _ c.pays-3.ensures c.if-not-pays-3.false) c.apply_to_numbers-z.ensures c.convert_number-new.ensures (omega arith) c.holding_number.ensures (c.set_held.ensures f around e)

pub returns-clause-fewer : goal.returns-clause-fewer
returns-clause-fewer c = λ t.
    updated_fewer c.args.applied.0 (plain_type c.args.applied.1.now) (plain_type c.args.parts.1.now) c.args.parts.0 (map held_of c.standing.result.now) c.args.outside.now.left c.pays.new.left c.pays-2.new.left c.number_held-old.new.left c.convert_number-x.new.left c.number_in_call-y.new.left c.pays-3.new.left c.apply_to_numbers-z.new.left c.convert_number-new.new.left
    c.number_held-old.result c.convert_number-x.result c.apply_to_numbers-z.result c.convert_number-new.result _ _ _ _ (paid _ _ _ c.pays.ensures c.if-not-pays.false) (paid _ _ _ c.pays-2.ensures c.if-not-pays-2.false) c.number_held-old.ensures c.convert_number-x.ensures (omega arith) c.number_in_call-y.ensures.fewer (paid _ _ _ c.pays-3.ensures c.if-not-pays-3.false)
    c.apply_to_numbers-z.ensures c.convert_number-new.ensures (omega arith)
