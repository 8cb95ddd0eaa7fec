-- A step, a read and a write.
use Rattle.std.proofs.Common.{suc, ◌∙◌, sym, ap, arith}
use Rattle.p10_meaning.specs.States.{or_undefined}
use Rattle.p10_meaning.specs.Statements.{write_part, copy_scalars}
use Rattle.p10_machine.specs.Views.{state_of}
use Rattle.p10_machine.proofs.Copied.{step_taken, no_step, write_gives, write_stops}
use Rattle.p10_machine.proofs.objects.copy_scalar.Goals as goal

pub returns-in_default : goal.returns-in_default
returns-in_default c = λ n io frame. no_step c.args.steps c.args.outside.now io _ (omega (arith, c.in_default.ensures))

pub returns-in-Ok-write_part : goal.returns-in-Ok-write_part
returns-in-Ok-write_part c = λ n io frame.
    step_taken c.args.steps c.in-Some.left c.args.outside.now io _ (omega (arith, c.in-Some.ensures)) ∙
    (ap (λ r. or_undefined r c.args.spans.1 (state_of c.in-Some.left c.args.outside.now io) (λ cell. or_undefined (write_part c.args.outside.now.store.objects c.args.pointers.0 c.args.i cell) c.args.spans.0 (state_of c.in-Some.left c.args.outside.now io) (λ objects. copy_scalars n (suc c.args.i) c.args.spans.0 c.args.pointers.0 c.args.spans.1 c.args.pointers.1 frame (record (state_of c.in-Some.left c.args.outside.now io) { objects = objects })))) (sym c.in-Ok.ensures) ∙
    write_gives (write_part c.args.outside.now.store.objects c.args.pointers.0 c.args.i c.in-Ok.cell) c.args.spans.0 c.in-Some.left c.args.outside.now io (λ w. copy_scalars n (suc c.args.i) c.args.spans.0 c.args.pointers.0 c.args.spans.1 c.args.pointers.1 frame w) c.write_part.new.store c.in-Ok-write_part.ensures.0 c.in-Ok-write_part.ensures.1)

pub returns-in-Err-write_part : goal.returns-in-Err-write_part
returns-in-Err-write_part c = λ n io frame.
    step_taken c.args.steps c.in-Some.left c.args.outside.now io _ (omega (arith, c.in-Some.ensures)) ∙
    (ap (λ r. or_undefined r c.args.spans.1 (state_of c.in-Some.left c.args.outside.now io) (λ cell. or_undefined (write_part c.args.outside.now.store.objects c.args.pointers.0 c.args.i cell) c.args.spans.0 (state_of c.in-Some.left c.args.outside.now io) (λ objects. copy_scalars n (suc c.args.i) c.args.spans.0 c.args.pointers.0 c.args.spans.1 c.args.pointers.1 frame (record (state_of c.in-Some.left c.args.outside.now io) { objects = objects })))) (sym c.in-Ok.ensures) ∙
    write_stops (write_part c.args.outside.now.store.objects c.args.pointers.0 c.args.i c.in-Ok.cell) c.args.spans.0 c.in-Some.left c.args.outside.now io (λ w. copy_scalars n (suc c.args.i) c.args.spans.0 c.args.pointers.0 c.args.spans.1 c.args.pointers.1 frame w) c.write_part.new.store c.in-Err-write_part.stop c.in-Err-write_part.ensures.0 c.in-Err-write_part.ensures.1)

pub returns-in-Err : goal.returns-in-Err
returns-in-Err c = λ n io frame.
    step_taken c.args.steps c.in-Some.left c.args.outside.now io _ (omega (arith, c.in-Some.ensures)) ∙
    ap (λ r. or_undefined r c.args.spans.1 (state_of c.in-Some.left c.args.outside.now io) (λ cell. or_undefined (write_part c.args.outside.now.store.objects c.args.pointers.0 c.args.i cell) c.args.spans.0 (state_of c.in-Some.left c.args.outside.now io) (λ objects. copy_scalars n (suc c.args.i) c.args.spans.0 c.args.pointers.0 c.args.spans.1 c.args.pointers.1 frame (record (state_of c.in-Some.left c.args.outside.now io) { objects = objects })))) (sym c.in-Err.ensures)
