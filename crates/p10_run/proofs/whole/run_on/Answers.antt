-- The turns come after the first part, and then the run has ended; or one of them was given up.
use Rattle.p10_interp.specs.Machines.{resting_of}
use Rattle.p10_run.proofs.Calls.{first_stands, first_gives_up, finished_run}
use Rattle.p10_run.proofs.whole.run_on.Goals as goal

pub returns-in-Ok-make_turns-clause-run : goal.returns-in-Ok-make_turns-clause-run
returns-in-Ok-make_turns-clause-run g c =
    finished_run (resting_of c.args.machine.now).program c.args.budget.now (resting_of c.args.machine.now).state.sensors c.in-Ok-make_turns.last (resting_of c.make_turns.new.machine) (g.I.Source.left c.args.input.now) (g.I.Source.left c.make_turns.new.input) (g.O.Sink.taken c.args.out.now) (g.O.Sink.taken c.make_turns.new.out) c.finished.result
    (c.in-Ok-make_turns.ensures.stands (resting_of c.args.machine.now).program (resting_of c.args.machine.now).state.sensors (g.I.Source.left c.args.input.now) (g.O.Sink.taken c.args.out.now)
    (first_stands (resting_of c.args.machine.now).program c.args.budget.now (resting_of c.args.machine.now).state.sensors (g.I.Source.left c.args.input.now) (g.I.Source.left c.run_main.new.input) (g.O.Sink.taken c.args.out.now) (g.O.Sink.taken c.run_main.new.out) c.in-Ok.first (resting_of c.args.machine.now) (resting_of c.run_main.new.self)
    c.requires.fresh c.in-Ok.ensures.turns c.in-Ok.ensures.program c.in-Ok.ensures.ended))
    c.in-Ok-make_turns.ensures.all c.finished.ensures

pub returns-in-Err-make_turns-clause-given_up : goal.returns-in-Err-make_turns-clause-given_up
returns-in-Err-make_turns-clause-given_up g c =
    c.in-Err-make_turns.ensures.given_up (resting_of c.args.machine.now).program (resting_of c.args.machine.now).state.sensors (g.I.Source.left c.args.input.now) (g.O.Sink.taken c.args.out.now)
    (first_stands (resting_of c.args.machine.now).program c.args.budget.now (resting_of c.args.machine.now).state.sensors (g.I.Source.left c.args.input.now) (g.I.Source.left c.run_main.new.input) (g.O.Sink.taken c.args.out.now) (g.O.Sink.taken c.run_main.new.out) c.in-Ok.first (resting_of c.args.machine.now) (resting_of c.run_main.new.self)
    c.requires.fresh c.in-Ok.ensures.turns c.in-Ok.ensures.program c.in-Ok.ensures.ended)

pub returns-in-Err-clause-given_up : goal.returns-in-Err-clause-given_up
returns-in-Err-clause-given_up g c =
    first_gives_up (resting_of c.args.machine.now).program c.args.budget.now (resting_of c.args.machine.now).state.sensors (g.I.Source.left c.args.input.now) (g.I.Source.left c.run_main.new.input) (g.O.Sink.taken c.args.out.now) (g.O.Sink.taken c.run_main.new.out) (resting_of c.args.machine.now)
    c.requires.fresh c.in-Err.ensures.given_up
