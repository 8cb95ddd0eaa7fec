-- The items before the loop come next.
use Rattle.std.proofs.Common.{◌∙◌, ap, take}
use Rattle.p10_core.specs.Typed.{statements_list, statements_of_list}
use Rattle.p10_core.specs.Views.{plain_function, plain_statements}
use Rattle.p10_meaning.specs.Statements.{normal}
use Rattle.p10_interp.specs.private.Views.{tasks_in}
use Rattle.p10_interp.specs.private.OpenCalls.{calls_in}
use Rattle.p10_interp.specs.private.Machines.{rig_of}
use Rattle.p10_interp.proofs.Entered.{on_ok, entry_left, main_entered}
use Rattle.p10_interp.proofs.engine.Engine.enter_main.Goals as goal

pub returns-in-Ok-clause-ok : goal.returns-in-Ok-clause-ok
returns-in-Ok-clause-ok c =
    main_entered (plain_function c.args.function.now) c.args.place (plain_statements c.items_before-items.result.now) (calls_in c.open_frame.new.calls) (rig_of normal c.put_on.new.stacks) c.put_on.result c.args.self.now.outside c.open_frame.new.outside
    c.args.self.now.stacks.arguments (calls_in c.args.self.now.stacks.calls) (tasks_in c.args.self.now.stacks.tasks) c.args.self.now.stacks.operands c.requires.arguments c.requires.calls c.requires.tasks c.requires.operands (c.items_before-items.ensures ∙ ap (λ xs. statements_of_list (take c.args.place (statements_list (plain_statements xs)))) c.as_slice.ensures) c.in-Ok.ensures.ok c.put_on.ensures.ok

pub returns-in-Ok-clause-left : goal.returns-in-Ok-clause-left
returns-in-Ok-clause-left c =
    on_ok c.put_on.result (entry_left (plain_function c.args.function.now) c.args.self.now.stacks.arguments (calls_in c.args.self.now.stacks.calls) (calls_in c.open_frame.new.calls) c.args.self.now.outside c.open_frame.new.outside c.in-Ok.ensures.ok)
