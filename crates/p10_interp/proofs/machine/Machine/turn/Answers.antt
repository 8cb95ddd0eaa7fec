-- The answer is what the turn comes to.
use Rattle.std.proofs.Common.{arith, subst, ◌+◌}
use Rattle.p10_core.specs.Views.{plain_program}
use Rattle.p10_interp.specs.Stages.{turn_stage}
use Rattle.p10_interp.specs.Resting.{Runs, GivesUp}
use Rattle.p10_interp.specs.declared.place.Place.TheVariants.{Finished}
use Rattle.p10_interp.specs.declared.ended.Ended.TheVariants.{TurnDone}
use Rattle.p10_interp.specs.private.OpenCalls.{calls_in}
use Rattle.p10_interp.specs.private.Parts.{frame_in}
use Rattle.p10_interp.specs.private.Placing.{position_of}
use Rattle.p10_interp.proofs.Settled.{own_state, runs_from, gives_up_from, paused_frame}
use Rattle.p10_interp.proofs.machine.Machine.turn.Goals as goal

pub returns-in-Ok-clause-ended : goal.returns-in-Ok-clause-ended
returns-in-Ok-clause-ended g c = λ frame here.
    subst (λ frame. Runs (turn_stage (plain_program c.args.self.now.p.now) c.args.steps frame) TurnDone c.in-Ok.ended c.args.steps (record { program = (plain_program c.args.self.now.p.now); position = position_of c.args.self.now.place (calls_in c.args.self.now.engine.stacks.calls); state = own_state c.args.self.now.engine.outside; ended = c.args.self.now.engine.ended; turns = c.args.self.now.turns }) (record { program = (plain_program c.args.self.now.p.now); position = (position_of c.after-self.result (calls_in c.turn.new.self.stacks.calls)); state = own_state c.turn.new.self.outside; ended = c.turn.new.self.ended; turns = c.args.self.now.turns + 1 }) (g.I.Source.left c.args.input.now) (g.I.Source.left c.turn.new.input) (g.O.Sink.taken c.args.out.now) (g.O.Sink.taken c.turn.new.out)) (paused_frame c.args.self.now.place (calls_in c.args.self.now.engine.stacks.calls) frame here)
    (runs_from (turn_stage (plain_program c.args.self.now.p.now) c.args.steps (frame_in (calls_in c.args.self.now.engine.stacks.calls))) c.args.steps (plain_program c.args.self.now.p.now) (plain_program c.args.self.now.p.now) (position_of c.args.self.now.place (calls_in c.args.self.now.engine.stacks.calls)) (position_of c.after-self.result (calls_in c.turn.new.self.stacks.calls)) c.args.self.now.engine.outside c.turn.new.self.outside c.args.self.now.engine.ended c.turn.new.self.ended c.args.self.now.turns (c.args.self.now.turns + 1) (g.I.Source.left c.args.input.now) (g.I.Source.left c.turn.new.input) (g.O.Sink.taken c.args.out.now) (g.O.Sink.taken c.turn.new.out)
    TurnDone c.in-Ok.ended (frame_in (calls_in c.turn.new.self.stacks.calls)) (c.after-self.ensures (calls_in c.turn.new.self.stacks.calls)) c.in-Ok.ensures.answer (c.in-Ok.ensures.settles c.args.steps (omega arith)))

pub returns-in-Err-clause-given_up : goal.returns-in-Err-clause-given_up
returns-in-Err-clause-given_up g c = λ frame here.
    subst (λ frame. GivesUp (turn_stage (plain_program c.args.self.now.p.now) c.args.steps frame) c.args.steps (record { program = (plain_program c.args.self.now.p.now); position = position_of c.args.self.now.place (calls_in c.args.self.now.engine.stacks.calls); state = own_state c.args.self.now.engine.outside; ended = c.args.self.now.engine.ended; turns = c.args.self.now.turns }) (g.I.Source.left c.args.input.now) (g.I.Source.left c.turn.new.input) (g.O.Sink.taken c.args.out.now) (g.O.Sink.taken c.turn.new.out)) (paused_frame c.args.self.now.place (calls_in c.args.self.now.engine.stacks.calls) frame here)
    (gives_up_from (turn_stage (plain_program c.args.self.now.p.now) c.args.steps (frame_in (calls_in c.args.self.now.engine.stacks.calls))) c.args.steps (plain_program c.args.self.now.p.now) (plain_program c.args.self.now.p.now) (position_of c.args.self.now.place (calls_in c.args.self.now.engine.stacks.calls)) (position_of Finished (calls_in c.turn.new.self.stacks.calls)) c.args.self.now.engine.outside c.turn.new.self.outside c.args.self.now.engine.ended c.turn.new.self.ended c.args.self.now.turns (c.args.self.now.turns + 1) (g.I.Source.left c.args.input.now) (g.I.Source.left c.turn.new.input) (g.O.Sink.taken c.args.out.now) (g.O.Sink.taken c.turn.new.out)
    (c.in-Err.ensures.settles c.args.steps (omega arith)))
