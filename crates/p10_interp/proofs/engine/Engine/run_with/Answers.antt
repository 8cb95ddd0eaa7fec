-- The test comes first, where there is one.
use Rattle.p10_core.specs.Views.{plain_program, plain_statement, plain_value}
use Rattle.p10_interp.proofs.Parted.{turn_tested, turn_untested}
use Rattle.p10_interp.proofs.Served.{comes_as}
use Rattle.p10_interp.specs.private.OpenCalls.{calls_in}
use Rattle.p10_interp.specs.private.Parts.{after_test, body_stage, frame_in, part_of_turn, stage_of}
use Rattle.p10_interp.specs.private.Resuming.{proceed}
use Rattle.p10_interp.specs.private.Serving.{Comes, moment_of}
use Rattle.p10_interp.specs.private.Tasks.{evaluate_value}
use Rattle.p10_meaning.specs.Statements.{normal}
use Rattle.p10_meaning.specs.States.{and_then}
use Rattle.std.proofs.Common.{None, Some, [], option_map, subst, sym, ◌∷◌}
use Rattle.p10_interp.proofs.engine.Engine.run_with.Goals as goal

pub returns-in-Some-clause-comes : goal.returns-in-Some-clause-comes
returns-in-Some-clause-comes g c = λ n few.
    subst (λ tested. Comes (part_of_turn (plain_program c.args.p.now) n (Some (record { tested = option_map plain_value tested; body = (plain_statement c.args.body.now) })) (calls_in c.args.self.now.stacks.calls)) (moment_of c.args.self.now (g.I.Source.left c.args.input.now) (g.O.Sink.taken c.args.out.now)) c.run_test.result (λ ended. stage_of ended (frame_in (calls_in c.run_test.new.self.stacks.calls))) (moment_of c.run_test.new.self (g.I.Source.left c.run_test.new.input) (g.O.Sink.taken c.run_test.new.out))) (sym c.in-Some.is)
    (comes_as (part_of_turn (plain_program c.args.p.now) n (Some (record { tested = Some (plain_value c.in-Some.value); body = (plain_statement c.args.body.now) })) (calls_in c.args.self.now.stacks.calls)) (λ w. and_then (proceed (plain_program c.args.p.now) n (record { flow = normal; tasks = evaluate_value (plain_value c.in-Some.value) ∷ []; operands = c.args.self.now.stacks.operands; calls = (calls_in c.args.self.now.stacks.calls) }) w) (after_test (plain_program c.args.p.now) n (plain_statement c.args.body.now)))
    (turn_tested (plain_program c.args.p.now) n (plain_value c.in-Some.value) (plain_statement c.args.body.now) c.args.self.now.stacks.operands (calls_in c.args.self.now.stacks.calls)) (moment_of c.args.self.now (g.I.Source.left c.args.input.now) (g.O.Sink.taken c.args.out.now)) (moment_of c.run_test.new.self (g.I.Source.left c.run_test.new.input) (g.O.Sink.taken c.run_test.new.out)) c.run_test.result (λ ended. stage_of ended (frame_in (calls_in c.run_test.new.self.stacks.calls))) (c.run_test.ensures.comes n few))

pub returns-in-None-clause-comes : goal.returns-in-None-clause-comes
returns-in-None-clause-comes g c = λ n few.
    subst (λ tested. Comes (part_of_turn (plain_program c.args.p.now) n (Some (record { tested = option_map plain_value tested; body = (plain_statement c.args.body.now) })) (calls_in c.args.self.now.stacks.calls)) (moment_of c.args.self.now (g.I.Source.left c.args.input.now) (g.O.Sink.taken c.args.out.now)) c.run_body.result (λ ended. stage_of ended (frame_in (calls_in c.run_body.new.self.stacks.calls))) (moment_of c.run_body.new.self (g.I.Source.left c.run_body.new.input) (g.O.Sink.taken c.run_body.new.out))) (sym c.in-None.is)
    (comes_as (part_of_turn (plain_program c.args.p.now) n (Some (record { tested = None; body = (plain_statement c.args.body.now) })) (calls_in c.args.self.now.stacks.calls)) (body_stage (plain_program c.args.p.now) n (plain_statement c.args.body.now) c.args.self.now.stacks.operands (calls_in c.args.self.now.stacks.calls))
    (turn_untested (plain_program c.args.p.now) n (plain_statement c.args.body.now) c.args.self.now.stacks.operands (calls_in c.args.self.now.stacks.calls)) (moment_of c.args.self.now (g.I.Source.left c.args.input.now) (g.O.Sink.taken c.args.out.now)) (moment_of c.run_body.new.self (g.I.Source.left c.run_body.new.input) (g.O.Sink.taken c.run_body.new.out)) c.run_body.result (λ ended. stage_of ended (frame_in (calls_in c.run_body.new.self.stacks.calls))) (c.run_body.ensures.comes n few))
