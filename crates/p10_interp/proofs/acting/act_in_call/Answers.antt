-- Each piece of work is done by its own act.
use Rattle.std.proofs.Common.{◌∷◌, Ok}
use Rattle.p10_core.specs.Views.{plain_program}
use Rattle.p10_meaning.specs.Statements.{normal}
use Rattle.p10_interp.specs.declared.work.Flow.TheVariants.{Normal}
use Rattle.p10_interp.specs.private.Views.{tasks_in}
use Rattle.p10_interp.specs.private.Machines.{state_of}
use Rattle.p10_interp.proofs.Passed.{acted_as}
use Rattle.p10_interp.proofs.acting.act_in_call.Goals as goal

pub returns-in-Value : goal.returns-in-Value
returns-in-Value c = λ io f calls e.
    acted_as (plain_program c.args.p.now) c.args.work _ (tasks_in c.args.stacks.now.tasks) c.args.stacks.now.operands (f ∷ calls) (state_of c.args.outside.now io) (state_of c.act_on_value.new.outside io) c.normally.result c.act_on_value.new.stacks c.in-Value.is
    (c.normally.ensures c.act_on_value.new.stacks _ _ (c.act_on_value.ensures io f calls e))

pub returns-in-LocatePlace : goal.returns-in-LocatePlace
returns-in-LocatePlace c = λ io f calls e.
    acted_as (plain_program c.args.p.now) c.args.work _ (tasks_in c.args.stacks.now.tasks) c.args.stacks.now.operands (f ∷ calls) (state_of c.args.outside.now io) (state_of c.seek.new.outside io) c.normally-in-LocatePlace.result c.seek.new.stacks c.in-LocatePlace.is
    (c.normally-in-LocatePlace.ensures c.seek.new.stacks _ _ (c.seek.ensures io f calls e))

pub returns-in-EvaluateValues : goal.returns-in-EvaluateValues
returns-in-EvaluateValues c = λ io f calls e.
    acted_as (plain_program c.args.p.now) c.args.work _ (tasks_in c.args.stacks.now.tasks) c.args.stacks.now.operands (f ∷ calls) (state_of c.args.outside.now io) (state_of c.begin_values.new.outside io) c.normally-in-EvaluateValues.result c.begin_values.new.stacks c.in-EvaluateValues.is
    (c.normally-in-EvaluateValues.ensures c.begin_values.new.stacks _ _ (c.begin_values.ensures io f calls e))

pub returns-in-EvaluateItems : goal.returns-in-EvaluateItems
returns-in-EvaluateItems c = λ io f calls e.
    acted_as (plain_program c.args.p.now) c.args.work _ (tasks_in c.args.stacks.now.tasks) c.args.stacks.now.operands (f ∷ calls) (state_of c.args.outside.now io) (state_of c.begin_items.new.outside io) c.normally-in-EvaluateItems.result c.begin_items.new.stacks c.in-EvaluateItems.is
    (c.normally-in-EvaluateItems.ensures c.begin_items.new.stacks _ _ (c.begin_items.ensures io f calls e))

pub returns-in-Statement : goal.returns-in-Statement
returns-in-Statement c = λ io f calls e.
    acted_as (plain_program c.args.p.now) c.args.work _ (tasks_in c.args.stacks.now.tasks) c.args.stacks.now.operands (f ∷ calls) (state_of c.args.outside.now io) (state_of c.act_on_statement.new.outside io) c.act_on_statement.result c.act_on_statement.new.stacks c.in-Statement.is
    (c.act_on_statement.ensures io f calls e)

pub returns-in-ExecuteStatements : goal.returns-in-ExecuteStatements
returns-in-ExecuteStatements c = λ io f calls e.
    acted_as (plain_program c.args.p.now) c.args.work _ (tasks_in c.args.stacks.now.tasks) c.args.stacks.now.operands (f ∷ calls) (state_of c.args.outside.now io) (state_of c.begin_statements.new.outside io) c.begin_statements.result c.begin_statements.new.stacks c.in-ExecuteStatements.is
    (c.begin_statements.ensures io f calls e)

pub returns-in-CopyInto : goal.returns-in-CopyInto
returns-in-CopyInto c = λ io f calls e.
    acted_as (plain_program c.args.p.now) c.args.work _ (tasks_in c.args.stacks.now.tasks) c.args.stacks.now.operands (f ∷ calls) (state_of c.args.outside.now io) (state_of c.begin_copy_into.new.outside io) c.normally-in-CopyInto.result c.begin_copy_into.new.stacks c.in-CopyInto.is
    (c.normally-in-CopyInto.ensures c.begin_copy_into.new.stacks _ _ (c.begin_copy_into.ensures io f calls e))

pub returns-in-EndBlock : goal.returns-in-EndBlock
returns-in-EndBlock c = λ io f calls e.
    acted_as (plain_program c.args.p.now) c.args.work _ (tasks_in c.args.stacks.now.tasks) c.args.stacks.now.operands (f ∷ calls) (state_of c.args.outside.now io) (state_of c.end_block.new.outside io) (Ok Normal) c.end_block.new.stacks c.in-EndBlock.is
    (c.end_block.ensures io normal f calls e)

pub returns-in-EndCall : goal.returns-in-EndCall
returns-in-EndCall c = λ io f calls e.
    acted_as (plain_program c.args.p.now) c.args.work _ (tasks_in c.args.stacks.now.tasks) c.args.stacks.now.operands (f ∷ calls) (state_of c.args.outside.now io) (state_of c.end_call.new.outside io) c.normally-in-EndCall.result c.end_call.new.stacks c.in-EndCall.is
    (c.normally-in-EndCall.ensures c.end_call.new.stacks _ _ (c.end_call.ensures io f calls e))

pub returns-in-Operate : goal.returns-in-Operate
returns-in-Operate c = λ io f calls e.
    acted_as (plain_program c.args.p.now) c.args.work _ (tasks_in c.args.stacks.now.tasks) c.args.stacks.now.operands (f ∷ calls) (state_of c.args.outside.now io) (state_of c.operate.new.outside io) c.operate.result c.operate.new.stacks c.in-Operate.is
    (c.operate.ensures io f calls e)
