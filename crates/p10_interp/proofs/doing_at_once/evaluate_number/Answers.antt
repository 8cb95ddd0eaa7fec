-- The number is on top.
use Rattle.std.proofs.Common.{refl, sym, ap, ◌∙◌, arith, to_z, of_z}
use Rattle.std.specs.Int.{w128}
use Rattle.std.proofs.lemmas.Int.{to_z-of_z}
use Rattle.p10_core.specs.Views.{plain_program, plain_value}
use Rattle.p10_meaning.specs.declared.pointers.Scalar.TheVariants.{Int}
use Rattle.p10_meaning.specs.States.{gives}
use Rattle.p10_interp.specs.private.Views.{tasks_in}
use Rattle.p10_interp.specs.private.OpenCalls.{calls_in}
use Rattle.p10_interp.specs.private.Machines.{state_of}
use Rattle.p10_interp.specs.private.Resuming.{setting_in}
use Rattle.p10_interp.specs.private.Turning.{rig_at}
use Rattle.p10_interp.proofs.TurnedAtOnce.{value_is_done}
use Rattle.p10_interp.proofs.doing_at_once.evaluate_number.Goals as goal

pub returns-clause-ok : goal.returns-clause-ok
returns-clause-ok c = λ io f around e.
    value_is_done (plain_program c.args.p.now) (plain_value c.args.value.now) c.args.stacks.now _ f around (state_of c.args.outside.now io) _ (to_z w128 (of_z w128 c.number_in_call-number.result)) e (ap (λ operands. rig_at (tasks_in c.args.stacks.now.tasks) operands (calls_in c.args.stacks.now.calls)) c.in_ok-push.ensures.ok) (omega (arith, c.if-left-outside.false))
    (λ n few. c.number_in_call-number.ensures.found (setting_in (plain_program c.args.p.now) n f) f around refl e (omega arith) (state_of c.args.outside.now io) refl ∙ ap (λ z. gives (Int z) (record (state_of c.args.outside.now io) { left = c.number_in_call-number.new.left })) (sym (to_z-of_z w128 c.number_in_call-number.result (record { sfits = c.number_in_call-number.type_inv }))))
