-- The value on top is the truth of the test.
use Rattle.p10_core.specs.Views.{plain_program, plain_statement}
use Rattle.p10_interp.proofs.Parted.{tested_false, tested_goes, tested_true}
use Rattle.p10_interp.proofs.Served.{comes_as, loses_still, serves_by}
use Rattle.p10_interp.specs.declared.ended.Ended.TheVariants.{Returned}
use Rattle.p10_interp.specs.private.OpenCalls.{calls_in}
use Rattle.p10_interp.specs.private.Operations.{below, first_value}
use Rattle.p10_interp.specs.private.Parts.{body_stage, frame_in, stage_of, tested_stage}
use Rattle.p10_interp.specs.private.Serving.{moment_of, state_at}
use Rattle.std.proofs.Common.{pos, sym, ◌∙◌}
use Rattle.p10_interp.proofs.engine.Engine.run_tested.Goals as goal

pub returns-then-is_true-clause-comes : goal.returns-then-is_true-clause-comes
returns-then-is_true-clause-comes g c = λ n few.
    comes_as (tested_stage (plain_program c.args.p.now) n (plain_statement c.args.body.now) (first_value c.args.self.now.stacks.operands) (below c.args.self.now.stacks.operands) (calls_in c.args.self.now.stacks.calls)) (body_stage (plain_program c.args.p.now) n (plain_statement c.args.body.now) c.pop_value.new.self (calls_in c.args.self.now.stacks.calls))
    (tested_true (plain_program c.args.p.now) n (plain_statement c.args.body.now) (first_value c.args.self.now.stacks.operands) c.in-Some.x (below c.args.self.now.stacks.operands) c.pop_value.new.self (calls_in c.args.self.now.stacks.calls) c.in-Some.ensures.found (sym c.is_true.ensures ∙ c.if-is_true.true) c.in-Some.ensures.rest)
    (moment_of c.args.self.now (g.I.Source.left c.args.input.now) (g.O.Sink.taken c.args.out.now)) (moment_of c.run_body.new.self (g.I.Source.left c.run_body.new.input) (g.O.Sink.taken c.run_body.new.out)) c.run_body.result (λ ended. stage_of ended (frame_in (calls_in c.run_body.new.self.stacks.calls))) (c.run_body.ensures.comes n few)

pub returns-else-is_true-clause-comes : goal.returns-else-is_true-clause-comes
returns-else-is_true-clause-comes g c = λ n few.
    serves_by (tested_stage (plain_program c.args.p.now) n (plain_statement c.args.body.now) (first_value c.args.self.now.stacks.operands) (below c.args.self.now.stacks.operands) (calls_in c.args.self.now.stacks.calls)) (stage_of (Returned (pos 0)) (frame_in (calls_in c.args.self.now.stacks.calls))) c.args.self.now.outside c.args.self.now.outside c.args.self.now.ended (g.I.Source.left c.args.input.now) (g.O.Sink.taken c.args.out.now)
    (λ rest earlier. tested_false (plain_program c.args.p.now) n (plain_statement c.args.body.now) (first_value c.args.self.now.stacks.operands) c.in-Some.x (below c.args.self.now.stacks.operands) (calls_in c.args.self.now.stacks.calls) c.in-Some.ensures.found (sym c.is_true.ensures ∙ c.if-is_true.false) (state_at c.args.self.now.outside rest earlier))

pub returns-in-None-clause-comes : goal.returns-in-None-clause-comes
returns-in-None-clause-comes g c = λ n few. loses_still (tested_stage (plain_program c.args.p.now) n (plain_statement c.args.body.now) (first_value c.args.self.now.stacks.operands) (below c.args.self.now.stacks.operands) (calls_in c.args.self.now.stacks.calls)) n (moment_of c.args.self.now (g.I.Source.left c.args.input.now) (g.O.Sink.taken c.args.out.now)) (tested_goes (plain_program c.args.p.now) n (plain_statement c.args.body.now) (first_value c.args.self.now.stacks.operands) (below c.args.self.now.stacks.operands) (calls_in c.args.self.now.stacks.calls)) few
