-- The answer is what the first part comes to.
use Rattle.std.proofs.Common.{arith}
use Rattle.p10_core.specs.Views.{plain_program}
use Rattle.p10_interp.specs.Stages.{first_stage}
use Rattle.p10_interp.specs.declared.place.Place.TheVariants.{Finished}
use Rattle.p10_interp.specs.declared.ended.Ended.TheVariants.{AtLoop}
use Rattle.p10_interp.specs.private.OpenCalls.{calls_in}
use Rattle.p10_interp.specs.private.Parts.{frame_in}
use Rattle.p10_interp.specs.private.Placing.{position_of}
use Rattle.p10_interp.proofs.Settled.{runs_from, gives_up_from}
use Rattle.p10_interp.proofs.machine.Machine.run_main.Goals as goal

pub returns-in-Ok-clause-ended : goal.returns-in-Ok-clause-ended
returns-in-Ok-clause-ended g c =
    runs_from (first_stage (plain_program c.args.self.now.p.now) c.args.steps) c.args.steps (plain_program c.args.self.now.p.now) (plain_program c.args.self.now.p.now) (position_of c.args.self.now.place (calls_in c.args.self.now.engine.stacks.calls)) (position_of c.after-self.result (calls_in c.first.new.self.stacks.calls)) c.args.self.now.engine.outside c.first.new.self.outside c.args.self.now.engine.ended c.first.new.self.ended c.args.self.now.turns c.args.self.now.turns (g.I.Source.left c.args.input.now) (g.I.Source.left c.first.new.input) (g.O.Sink.taken c.args.out.now) (g.O.Sink.taken c.first.new.out)
    AtLoop c.in-Ok.ended (frame_in (calls_in c.first.new.self.stacks.calls)) (c.after-self.ensures (calls_in c.first.new.self.stacks.calls)) c.in-Ok.ensures.answer (c.in-Ok.ensures.settles c.args.steps (omega arith))

pub returns-in-Err-clause-given_up : goal.returns-in-Err-clause-given_up
returns-in-Err-clause-given_up g c =
    gives_up_from (first_stage (plain_program c.args.self.now.p.now) c.args.steps) c.args.steps (plain_program c.args.self.now.p.now) (plain_program c.args.self.now.p.now) (position_of c.args.self.now.place (calls_in c.args.self.now.engine.stacks.calls)) (position_of Finished (calls_in c.first.new.self.stacks.calls)) c.args.self.now.engine.outside c.first.new.self.outside c.args.self.now.engine.ended c.first.new.self.ended c.args.self.now.turns c.args.self.now.turns (g.I.Source.left c.args.input.now) (g.I.Source.left c.first.new.input) (g.O.Sink.taken c.args.out.now) (g.O.Sink.taken c.first.new.out)
    (c.in-Err.ensures.settles c.args.steps (omega arith))
