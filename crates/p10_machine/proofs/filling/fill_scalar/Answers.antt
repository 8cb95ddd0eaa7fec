-- A step, and a write.
use Rattle.std.proofs.Common.{◌∙◌, refl, arith}
use Rattle.p10_meaning.specs.Pointers.{holding}
use Rattle.p10_meaning.specs.States.{or_undefined}
use Rattle.p10_meaning.specs.Statements.{write_part}
use Rattle.p10_machine.proofs.Copied.{step_taken, no_step, write_gives, write_stops}
use Rattle.p10_machine.proofs.filling.fill_scalar.Goals as goal

pub returns-in_default : goal.returns-in_default
returns-in_default c = λ io go. no_step c.args.steps c.args.outside.now io _ (omega (arith, c.in_default.ensures))

pub returns-in-Ok : goal.returns-in-Ok
returns-in-Ok c = λ io go.
    step_taken c.args.steps c.in-Some.left c.args.outside.now io _ (omega (arith, c.in-Some.ensures)) ∙
    write_gives (write_part c.args.outside.now.store.objects c.args.place.1 c.args.i (holding c.args.x)) c.args.place.0 c.in-Some.left c.args.outside.now io go c.write_part.new.store c.in-Ok.ensures.0 c.in-Ok.ensures.1

pub returns-in-Err : goal.returns-in-Err
returns-in-Err c = λ io go.
    step_taken c.args.steps c.in-Some.left c.args.outside.now io _ (omega (arith, c.in-Some.ensures)) ∙
    write_stops (write_part c.args.outside.now.store.objects c.args.place.1 c.args.i (holding c.args.x)) c.args.place.0 c.in-Some.left c.args.outside.now io go c.write_part.new.store c.in-Err.stop c.in-Err.ensures.0 c.in-Err.ensures.1
