-- What the call comes to is on top.
use Rattle.std.proofs.Common.{refl, sym, ap, ◌∙◌, arith, to_z, of_z}
use Rattle.std.specs.Int.{w128}
use Rattle.std.proofs.lemmas.Int.{to_z-of_z}
use Rattle.p10_core.specs.Typed.{value, call}
use Rattle.p10_core.specs.Views.{plain_program, plain_values}
use Rattle.p10_meaning.specs.declared.pointers.Scalar.TheVariants.{Int}
use Rattle.p10_meaning.specs.States.{State, gives}
use Rattle.p10_meaning.specs.Calling.{raised}
use Rattle.p10_interp.specs.private.Views.{tasks_in}
use Rattle.p10_interp.specs.private.OpenCalls.{calls_in, calls_deep}
use Rattle.p10_interp.specs.private.Machines.{state_of}
use Rattle.p10_interp.specs.private.Turning.{rig_at}
use Rattle.p10_interp.proofs.TurnedAtOnce.{value_is_done}
use Rattle.p10_interp.proofs.doing_at_once.evaluate_call.Goals as goal

pub returns-clause-ok : goal.returns-clause-ok
returns-clause-ok c = λ at t name io f around e.
    value_is_done (plain_program c.args.p.now) (value at t (call name c.args.made.0 (plain_values c.args.made.1.now))) c.args.stacks.now _ f around (state_of c.args.outside.now io) _ (to_z w128 (of_z w128 c.value_of_call-number.result)) e (ap (λ operands. rig_at (tasks_in c.args.stacks.now.tasks) operands (calls_in c.args.stacks.now.calls)) c.in_ok-push.ensures.ok) (omega (arith, c.if-left-outside.false))
    (λ n few. c.value_of_call-number.ensures at t name n f around (state_of c.args.outside.now io) few (omega arith) e (omega arith) refl ∙
    (ap (λ z. gives (Int z) (record (raised (calls_deep c.value_of_call-number.new.reached) (state_of c.args.outside.now io)) { left = c.value_of_call-number.new.left })) (sym (to_z-of_z w128 c.value_of_call-number.result (record { sfits = c.value_of_call-number.type_inv }))) ∙
    ap (λ (w : State). gives (Int (to_z w128 (of_z w128 c.value_of_call-number.result))) (record w { left = c.value_of_call-number.new.left })) (sym (c.raise.ensures io))))
