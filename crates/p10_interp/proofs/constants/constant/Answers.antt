-- What the machine gives is the value, or there is none.
use Rattle.std.proofs.Common.{sym, ◌∙◌, refl, arith}
use Rattle.p10_core.specs.Views.{plain_program, plain_value}
use Rattle.p10_interp.specs.private.Tasks.{evaluate_value}
use Rattle.p10_interp.specs.private.Views.{tasks_in}
use Rattle.p10_interp.specs.private.OpenCalls.{calls_in}
use Rattle.p10_interp.specs.private.Machines.{state_of}
use Rattle.p10_interp.specs.private.Constants.{nothing_around}
use Rattle.p10_interp.proofs.GivenConstants.{rig_is, constant_from, value_comes, value_ends, ended_early}
use Rattle.p10_interp.proofs.constants.constant.Goals as goal

pub returns-in-Some-clause-value : goal.returns-in-Some-clause-value
returns-in-Some-clause-value c =
    (value_comes (plain_program c.args.p.now) 18446744073709551615 c.in_ok-stacks.ensures.function c.in_ok-stacks.ensures.depth (plain_value c.args.value.now) _ _ _ _ c.in-Some.x
    (rig_is (evaluate_value (plain_value c.args.value.now)) (tasks_in c.in_ok-stacks.stacks.tasks) (tasks_in c.push.new.self) c.in_ok-stacks.stacks.operands (calls_in c.in_ok-stacks.stacks.calls) c.in_ok-stacks.ensures c.in_ok-push.ensures.ok)
    c.requires.constant (constant_from (plain_program c.args.p.now) (state_of c.args.outside.now nothing_around) 18446744073709551615 c.requires.zero) refl (c.in-Ok.ensures nothing_around 18446744073709551615 (omega arith)) (sym c.in-Some.ensures.found)).value

pub returns-in-Some-clause-zero : goal.returns-in-Some-clause-zero
returns-in-Some-clause-zero c =
    (value_comes (plain_program c.args.p.now) 18446744073709551615 c.in_ok-stacks.ensures.function c.in_ok-stacks.ensures.depth (plain_value c.args.value.now) _ _ _ _ c.in-Some.x
    (rig_is (evaluate_value (plain_value c.args.value.now)) (tasks_in c.in_ok-stacks.stacks.tasks) (tasks_in c.push.new.self) c.in_ok-stacks.stacks.operands (calls_in c.in_ok-stacks.stacks.calls) c.in_ok-stacks.ensures c.in_ok-push.ensures.ok)
    c.requires.constant (constant_from (plain_program c.args.p.now) (state_of c.args.outside.now nothing_around) 18446744073709551615 c.requires.zero) refl (c.in-Ok.ensures nothing_around 18446744073709551615 (omega arith)) (sym c.in-Some.ensures.found)).zero

pub returns-then-is_ended-clause-value : goal.returns-then-is_ended-clause-value
returns-then-is_ended-clause-value c =
    (value_ends (plain_program c.args.p.now) 18446744073709551615 c.in_ok-stacks.ensures.function c.in_ok-stacks.ensures.depth (plain_value c.args.value.now) _ _ (state_of c.run.new.outside nothing_around)
    (rig_is (evaluate_value (plain_value c.args.value.now)) (tasks_in c.in_ok-stacks.stacks.tasks) (tasks_in c.push.new.self) c.in_ok-stacks.stacks.operands (calls_in c.in_ok-stacks.stacks.calls) c.in_ok-stacks.ensures c.in_ok-push.ensures.ok)
    c.requires.constant (constant_from (plain_program c.args.p.now) (state_of c.args.outside.now nothing_around) 18446744073709551615 c.requires.zero) refl
    (ended_early _ c.in-Err.halt c.run.new.stacks (state_of c.run.new.outside nothing_around) (sym c.is_ended.ensures ∙ c.if-is_ended.true) (c.in-Err.ensures nothing_around 18446744073709551615 (omega arith)))).value

pub returns-then-is_ended-clause-zero : goal.returns-then-is_ended-clause-zero
returns-then-is_ended-clause-zero c =
    (value_ends (plain_program c.args.p.now) 18446744073709551615 c.in_ok-stacks.ensures.function c.in_ok-stacks.ensures.depth (plain_value c.args.value.now) _ _ (state_of c.run.new.outside nothing_around)
    (rig_is (evaluate_value (plain_value c.args.value.now)) (tasks_in c.in_ok-stacks.stacks.tasks) (tasks_in c.push.new.self) c.in_ok-stacks.stacks.operands (calls_in c.in_ok-stacks.stacks.calls) c.in_ok-stacks.ensures c.in_ok-push.ensures.ok)
    c.requires.constant (constant_from (plain_program c.args.p.now) (state_of c.args.outside.now nothing_around) 18446744073709551615 c.requires.zero) refl
    (ended_early _ c.in-Err.halt c.run.new.stacks (state_of c.run.new.outside nothing_around) (sym c.is_ended.ensures ∙ c.if-is_ended.true) (c.in-Err.ensures nothing_around 18446744073709551615 (omega arith)))).zero
