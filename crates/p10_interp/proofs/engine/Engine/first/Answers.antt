-- The part is run, and then settled.
use Rattle.p10_core.specs.Views.{plain_program}
use Rattle.p10_interp.specs.Stages.{first_stage}
use Rattle.p10_interp.specs.declared.ended.Ended.TheVariants.{AtLoop}
use Rattle.p10_interp.specs.private.OpenCalls.{calls_in}
use Rattle.p10_interp.specs.private.Parts.{frame_in}
use Rattle.p10_interp.specs.private.Serving.{moment_of}
use Rattle.p10_interp.specs.private.Settling.{Settles}
use Rattle.std.proofs.Common.{subst, sym}
use Rattle.p10_interp.proofs.engine.Engine.first.Goals as goal

pub returns-clause-settles : goal.returns-clause-settles
returns-clause-settles g c = λ n few.
    subst (λ stacks. Settles (first_stage (plain_program c.args.p.now) n) (moment_of c.args.self.now (g.I.Source.left c.args.input.now) (g.O.Sink.taken c.args.out.now)) c.settle.result (frame_in (calls_in stacks.calls)) (moment_of c.settle.new.self (g.I.Source.left c.run_first-came.new.input) (g.O.Sink.taken c.settle.new.out))) (sym c.settle.ensures.stacks)
    (c.settle.ensures.settles (first_stage (plain_program c.args.p.now) n) (moment_of c.args.self.now (g.I.Source.left c.args.input.now) (g.O.Sink.taken c.args.out.now)) (g.I.Source.left c.run_first-came.new.input) (frame_in (calls_in c.run_first-came.new.self.stacks.calls)) (c.run_first-came.ensures.comes n few))

pub returns-clause-answer : goal.returns-clause-answer
returns-clause-answer g c = c.settle.ensures.answer AtLoop c.run_first-came.ensures.answer
