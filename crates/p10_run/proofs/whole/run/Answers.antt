-- What the machine's run gives is what the program's run gives.
use Rattle.p10_core.specs.Views.{plain_program}
use Rattle.p10_interp.specs.Machines.{resting_of}
use Rattle.p10_run.proofs.Calls.{begins_new, run_given, told_run, prefix_given, told_prefix}
use Rattle.p10_run.proofs.whole.run.Goals as goal

pub run_on-requires-clause-fresh : goal.run_on-requires-clause-fresh
run_on-requires-clause-fresh g c =
    begins_new (resting_of c.in-Ok-machine_for.machine) (plain_program c.args.p.now) c.in-Ok.denied.items _ c.args.sensors.items c.in-Ok-machine_for.ensures c.in-Ok.ensures

pub returns-in-Ok-machine_for-clause-run : goal.returns-in-Ok-machine_for-clause-run
returns-in-Ok-machine_for-clause-run g c =
    run_given (resting_of c.in-Ok-machine_for.machine) (plain_program c.args.p.now) c.in-Ok.denied.items c.args.sensors.items c.args.budget.now (g.I.Source.left c.args.input.now) (g.I.Source.left c.run_on.new.input) (g.O.Sink.taken c.args.out.now) (g.O.Sink.taken c.run_on.new.out)
    c.in-Ok-machine_for.ensures c.run_on.result c.run_on.ensures.run

pub returns-in-Ok-machine_for-clause-told : goal.returns-in-Ok-machine_for-clause-told
returns-in-Ok-machine_for-clause-told g c =
    told_run (resting_of c.in-Ok-machine_for.machine) (plain_program c.args.p.now) c.in-Ok.denied.items c.args.sensors.items c.args.budget.now (g.I.Source.left c.args.input.now) (g.I.Source.left c.run_on.new.input) (g.O.Sink.taken c.args.out.now) (g.O.Sink.taken c.run_on.new.out)
    c.in-Ok-machine_for.ensures c.run_on.result c.run_on.ensures.run

pub returns-in-Ok-machine_for-clause-told_prefix : goal.returns-in-Ok-machine_for-clause-told_prefix
returns-in-Ok-machine_for-clause-told_prefix g c =
    told_prefix (resting_of c.in-Ok-machine_for.machine) (plain_program c.args.p.now) c.in-Ok.denied.items c.args.sensors.items c.args.budget.now (g.I.Source.left c.args.input.now) (g.I.Source.left c.run_on.new.input) (g.O.Sink.taken c.args.out.now) (g.O.Sink.taken c.run_on.new.out)
    c.in-Ok-machine_for.ensures c.run_on.result c.run_on.ensures.given_up

pub returns-in-Ok-machine_for-clause-prefix : goal.returns-in-Ok-machine_for-clause-prefix
returns-in-Ok-machine_for-clause-prefix g c =
    prefix_given (resting_of c.in-Ok-machine_for.machine) (plain_program c.args.p.now) c.in-Ok.denied.items c.args.sensors.items c.args.budget.now (g.I.Source.left c.args.input.now) (g.I.Source.left c.run_on.new.input) (g.O.Sink.taken c.args.out.now) (g.O.Sink.taken c.run_on.new.out)
    c.in-Ok-machine_for.ensures c.run_on.result c.run_on.ensures.given_up
