-- What is done with a statement.
use Rattle.std.proofs.Common.{◌∷◌}
use Rattle.p10_core.specs.Views.{plain_program, plain_statement}
use Rattle.p10_interp.specs.private.Views.{tasks_in}
use Rattle.p10_interp.specs.private.Machines.{state_of}
use Rattle.p10_interp.proofs.Passed.{statement_acted}
use Rattle.p10_interp.proofs.acting.act_on_statement.Goals as goal

pub returns-in-Execute : goal.returns-in-Execute
returns-in-Execute c = λ io f calls e.
    statement_acted (plain_program c.args.p.now) c.args.step _ (plain_statement c.args.statement.now) (tasks_in c.args.stacks.now.tasks) c.args.stacks.now.operands (f ∷ calls) (state_of c.args.outside.now io) (state_of c.begin_statement.new.outside io) c.begin_statement.result c.begin_statement.new.stacks c.in-Execute.is
    (c.begin_statement.ensures io f calls e)

pub returns-in-Branch : goal.returns-in-Branch
returns-in-Branch c = λ io f calls e.
    statement_acted (plain_program c.args.p.now) c.args.step _ (plain_statement c.args.statement.now) (tasks_in c.args.stacks.now.tasks) c.args.stacks.now.operands (f ∷ calls) (state_of c.args.outside.now io) (state_of c.args.outside.now io) c.normally.result c.branch-statement.new.stacks c.in-Branch.is
    (c.normally.ensures c.branch-statement.new.stacks _ _ (c.branch-statement.ensures (plain_program c.args.p.now) (state_of c.args.outside.now io) f calls e))

pub returns-in-BeginLoop : goal.returns-in-BeginLoop
returns-in-BeginLoop c = λ io f calls e.
    statement_acted (plain_program c.args.p.now) c.args.step _ (plain_statement c.args.statement.now) (tasks_in c.args.stacks.now.tasks) c.args.stacks.now.operands (f ∷ calls) (state_of c.args.outside.now io) (state_of c.start.new.outside io) c.normally-in-BeginLoop.result c.start.new.stacks c.in-BeginLoop.is
    (c.normally-in-BeginLoop.ensures c.start.new.stacks _ _ (c.start.ensures io f calls e))

pub returns-in-TestLoop : goal.returns-in-TestLoop
returns-in-TestLoop c = λ io f calls e.
    statement_acted (plain_program c.args.p.now) c.args.step _ (plain_statement c.args.statement.now) (tasks_in c.args.stacks.now.tasks) c.args.stacks.now.operands (f ∷ calls) (state_of c.args.outside.now io) (state_of c.test.new.outside io) c.normally-in-TestLoop.result c.test.new.stacks c.in-TestLoop.is
    (c.normally-in-TestLoop.ensures c.test.new.stacks _ _ (c.test.ensures io f calls e))

pub returns-in-EnterTurn : goal.returns-in-EnterTurn
returns-in-EnterTurn c = λ io f calls e.
    statement_acted (plain_program c.args.p.now) c.args.step _ (plain_statement c.args.statement.now) (tasks_in c.args.stacks.now.tasks) c.args.stacks.now.operands (f ∷ calls) (state_of c.args.outside.now io) (state_of c.args.outside.now io) c.normally-in-EnterTurn.result c.enter_turn.new.stacks c.in-EnterTurn.is
    (c.normally-in-EnterTurn.ensures c.enter_turn.new.stacks _ _ (c.enter_turn.ensures (plain_program c.args.p.now) (state_of c.args.outside.now io) f calls e))

pub returns-in-EndTurn : goal.returns-in-EndTurn
returns-in-EndTurn c = λ io f calls e.
    statement_acted (plain_program c.args.p.now) c.args.step _ (plain_statement c.args.statement.now) (tasks_in c.args.stacks.now.tasks) c.args.stacks.now.operands (f ∷ calls) (state_of c.args.outside.now io) (state_of c.args.outside.now io) c.normally-in-EndTurn.result c.end_turn.new.stacks c.in-EndTurn.is
    (c.normally-in-EndTurn.ensures c.end_turn.new.stacks _ _ (c.end_turn.ensures (plain_program c.args.p.now) (state_of c.args.outside.now io) f calls e))

pub returns-in-Select : goal.returns-in-Select
returns-in-Select c = λ io f calls e.
    statement_acted (plain_program c.args.p.now) c.args.step _ (plain_statement c.args.statement.now) (tasks_in c.args.stacks.now.tasks) c.args.stacks.now.operands (f ∷ calls) (state_of c.args.outside.now io) (state_of c.args.outside.now io) c.normally-in-Select.result c.select.new.stacks c.in-Select.is
    (c.normally-in-Select.ensures c.select.new.stacks _ _ (c.select.ensures (plain_program c.args.p.now) (state_of c.args.outside.now io) f calls e))
