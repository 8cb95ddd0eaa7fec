-- What the machine gives are the values, or there are none.
use Rattle.std.proofs.Common.{map, sym, ◌∙◌, refl, arith}
use Rattle.p10_core.specs.Views.{plain_program, plain_item}
use Rattle.p10_interp.specs.private.Tasks.{evaluate_items}
use Rattle.p10_interp.specs.private.Views.{tasks_in}
use Rattle.p10_interp.specs.private.OpenCalls.{calls_in}
use Rattle.p10_interp.specs.private.Machines.{state_of}
use Rattle.p10_interp.specs.private.Constants.{nothing_around}
use Rattle.p10_interp.proofs.GivenConstants.{rig_is, constant_from, list_comes, list_ends, ended_early}
use Rattle.p10_interp.proofs.constants.constants.Goals as goal

pub returns-in-Ok-clause-values : goal.returns-in-Ok-clause-values
returns-in-Ok-clause-values c =
    (list_comes (plain_program c.args.p.now) 18446744073709551615 c.in_ok-stacks.ensures.function c.in_ok-stacks.ensures.depth (map plain_item c.args.items.now) _ _ _ _ c.count_of_items.result c.take_arguments.new.arguments c.take_arguments.new.operands
    (rig_is (evaluate_items (map plain_item c.args.items.now)) (tasks_in c.in_ok-stacks.stacks.tasks) (tasks_in c.push.new.self) c.in_ok-stacks.stacks.operands (calls_in c.in_ok-stacks.stacks.calls) c.in_ok-stacks.ensures c.in_ok-push.ensures.ok)
    c.requires.constant (constant_from (plain_program c.args.p.now) (state_of c.args.outside.now nothing_around) 18446744073709551615 c.requires.zero) refl (c.in-Ok.ensures nothing_around 18446744073709551615 (omega arith)) c.count_of_items.ensures c.in_ok-take_arguments-in-Ok.ensures).value

pub returns-in-Ok-clause-zero : goal.returns-in-Ok-clause-zero
returns-in-Ok-clause-zero c =
    (list_comes (plain_program c.args.p.now) 18446744073709551615 c.in_ok-stacks.ensures.function c.in_ok-stacks.ensures.depth (map plain_item c.args.items.now) _ _ _ _ c.count_of_items.result c.take_arguments.new.arguments c.take_arguments.new.operands
    (rig_is (evaluate_items (map plain_item c.args.items.now)) (tasks_in c.in_ok-stacks.stacks.tasks) (tasks_in c.push.new.self) c.in_ok-stacks.stacks.operands (calls_in c.in_ok-stacks.stacks.calls) c.in_ok-stacks.ensures c.in_ok-push.ensures.ok)
    c.requires.constant (constant_from (plain_program c.args.p.now) (state_of c.args.outside.now nothing_around) 18446744073709551615 c.requires.zero) refl (c.in-Ok.ensures nothing_around 18446744073709551615 (omega arith)) c.count_of_items.ensures c.in_ok-take_arguments-in-Ok.ensures).zero

pub returns-then-is_ended-clause-values : goal.returns-then-is_ended-clause-values
returns-then-is_ended-clause-values c =
    (list_ends (plain_program c.args.p.now) 18446744073709551615 c.in_ok-stacks.ensures.function c.in_ok-stacks.ensures.depth (map plain_item c.args.items.now) _ _ (state_of c.run.new.outside nothing_around) c.args.values.now
    (rig_is (evaluate_items (map plain_item c.args.items.now)) (tasks_in c.in_ok-stacks.stacks.tasks) (tasks_in c.push.new.self) c.in_ok-stacks.stacks.operands (calls_in c.in_ok-stacks.stacks.calls) c.in_ok-stacks.ensures c.in_ok-push.ensures.ok)
    c.requires.constant (constant_from (plain_program c.args.p.now) (state_of c.args.outside.now nothing_around) 18446744073709551615 c.requires.zero) refl
    (ended_early _ c.in-Err.halt c.run.new.stacks (state_of c.run.new.outside nothing_around) (sym c.is_ended.ensures ∙ c.if-is_ended.true) (c.in-Err.ensures nothing_around 18446744073709551615 (omega arith)))).value

pub returns-then-is_ended-clause-zero : goal.returns-then-is_ended-clause-zero
returns-then-is_ended-clause-zero c =
    (list_ends (plain_program c.args.p.now) 18446744073709551615 c.in_ok-stacks.ensures.function c.in_ok-stacks.ensures.depth (map plain_item c.args.items.now) _ _ (state_of c.run.new.outside nothing_around) c.args.values.now
    (rig_is (evaluate_items (map plain_item c.args.items.now)) (tasks_in c.in_ok-stacks.stacks.tasks) (tasks_in c.push.new.self) c.in_ok-stacks.stacks.operands (calls_in c.in_ok-stacks.stacks.calls) c.in_ok-stacks.ensures c.in_ok-push.ensures.ok)
    c.requires.constant (constant_from (plain_program c.args.p.now) (state_of c.args.outside.now nothing_around) 18446744073709551615 c.requires.zero) refl
    (ended_early _ c.in-Err.halt c.run.new.stacks (state_of c.run.new.outside nothing_around) (sym c.is_ended.ensures ∙ c.if-is_ended.true) (c.in-Err.ensures nothing_around 18446744073709551615 (omega arith)))).zero
