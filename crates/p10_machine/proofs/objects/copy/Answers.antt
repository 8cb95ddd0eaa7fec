-- The scalars are copied, or the run ends before.
use Rattle.std.proofs.Common.{◌∙◌, sym, ap, refl, subst, Err}
use Rattle.p10_meaning.specs.Scalars.{pointer_of}
use Rattle.p10_meaning.specs.Statements.{normal, goes, copy_scalars}
use Rattle.p10_code.specs.Machine.{value_of, no_frame}
use Rattle.p10_compile.specs.Views.{plain_operand}
use Rattle.p10_machine.specs.Turns.{followed_by}
use Rattle.p10_machine.specs.Views.{slot_of, config_of, state_of}
use Rattle.p10_machine.specs.Writing.{Continues}
use Rattle.p10_machine.proofs.Copied.{work_on, cut_done}
use Rattle.p10_machine.proofs.objects.copy.Goals as goal

pub returns-in-Ok : goal.returns-in-Ok
returns-in-Ok c =
    work_on (λ io. copy_scalars c.args.count 0 c.args.spans.0 (pointer_of (value_of (plain_operand c.args.to) (slot_of c.args.m.now))) c.args.spans.1 (pointer_of (value_of (plain_operand c.args.from) (slot_of c.args.m.now))) no_frame (state_of c.args.s.left c.args.m.now.outside io)) (record { flow = normal; frame = no_frame }) c.args.s c.in-Ok.left c.args.m.now (record c.args.m.now { outside = c.copy_scalars.new.outside }) c.next.result refl
    (λ io. ap (λ q. copy_scalars c.args.count 0 c.args.spans.0 q c.args.spans.1 (pointer_of (value_of (plain_operand c.args.from) (slot_of c.args.m.now))) no_frame (state_of c.args.s.left c.args.m.now.outside io)) (sym (c.pointer_of-to.ensures ∙ ap pointer_of c.value.ensures)) ∙ (ap (λ q. copy_scalars c.args.count 0 c.args.spans.0 c.pointer_of-to.result c.args.spans.1 q no_frame (state_of c.args.s.left c.args.m.now.outside io)) (sym (c.pointer_of-from.ensures ∙ ap pointer_of c.value-2.ensures)) ∙ c.in-Ok.ensures io no_frame)) c.next.ensures

pub returns-in-Err : goal.returns-in-Err
returns-in-Err c =
    cut_done (λ io. copy_scalars c.args.count 0 c.args.spans.0 (pointer_of (value_of (plain_operand c.args.to) (slot_of c.args.m.now))) c.args.spans.1 (pointer_of (value_of (plain_operand c.args.from) (slot_of c.args.m.now))) no_frame (state_of c.args.s.left c.args.m.now.outside io)) (λ io left. goes no_frame (state_of left c.copy_scalars.new.outside io)) (λ io. followed_by (config_of c.args.s c.args.m.now io)) c.in-Err.cut (record c.args.m.now { outside = c.copy_scalars.new.outside }) c.cut_off.result
    (λ io. subst (λ q. Continues (copy_scalars c.args.count 0 c.args.spans.0 q c.args.spans.1 (pointer_of (value_of (plain_operand c.args.from) (slot_of c.args.m.now))) no_frame (state_of c.args.s.left c.args.m.now.outside io)) (λ left. goes no_frame (state_of left c.copy_scalars.new.outside io)) (Err c.in-Err.cut) c.copy_scalars.new.outside io) (c.pointer_of-to.ensures ∙ ap pointer_of c.value.ensures)
    (subst (λ r. Continues (copy_scalars c.args.count 0 c.args.spans.0 c.pointer_of-to.result c.args.spans.1 r no_frame (state_of c.args.s.left c.args.m.now.outside io)) (λ left. goes no_frame (state_of left c.copy_scalars.new.outside io)) (Err c.in-Err.cut) c.copy_scalars.new.outside io) (c.pointer_of-from.ensures ∙ ap pointer_of c.value-2.ensures) (c.in-Err.ensures io no_frame))) c.cut_off.ensures
