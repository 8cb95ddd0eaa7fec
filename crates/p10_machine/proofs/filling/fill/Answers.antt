-- The scalars are written, or the run ends before.
use Rattle.std.proofs.Common.{◌∙◌, sym, ap, subst, map, Err}
use Rattle.p10_core.specs.Types.{plain_type}
use Rattle.p10_core.specs.Views.{plain_program, plain_item}
use Rattle.p10_meaning.specs.Scalars.{pointer_of}
use Rattle.p10_meaning.specs.Statements.{normal, goes, fill}
use Rattle.p10_meaning.specs.Values.{scalars}
use Rattle.p10_code.specs.Machine.{value_of, no_frame, listed_in}
use Rattle.p10_compile.specs.Views.{plain_operand}
use Rattle.p10_machine.specs.Turns.{followed_by}
use Rattle.p10_machine.specs.Views.{slot_of, config_of, state_of}
use Rattle.p10_machine.specs.Writing.{Continues}
use Rattle.p10_machine.proofs.Copied.{work_on, cut_done}
use Rattle.p10_machine.proofs.filling.fill.Goals as goal

pub returns-in-Ok : goal.returns-in-Ok
returns-in-Ok c =
    work_on (λ io. (fill c.args.here.1 (listed_in c.args.values.1 (map plain_item c.args.values.0.now) (slot_of c.args.m.now)) (scalars (plain_program c.args.code.program.now) (plain_type c.args.t.now)) 0 (pointer_of (value_of (plain_operand c.args.to) (slot_of c.args.m.now))) no_frame (state_of c.args.here.0.left c.args.m.now.outside io))) (record { flow = normal; frame = no_frame }) c.args.here.0 c.in-Ok.left c.args.m.now c.fill_scalars.new.m c.next.result c.fill_scalars.ensures.same
    (λ io. ap (λ xs. (fill c.args.here.1 xs (scalars (plain_program c.args.code.program.now) (plain_type c.args.t.now)) 0 (pointer_of (value_of (plain_operand c.args.to) (slot_of c.args.m.now))) no_frame (state_of c.args.here.0.left c.args.m.now.outside io))) (sym (ap (λ slot. listed_in slot (map plain_item c.list-listed.result.items.now) (slot_of c.args.m.now)) c.list-listed.ensures.slot ∙ ap (λ items. listed_in c.args.values.1 (map plain_item items) (slot_of c.args.m.now)) c.list-listed.ensures.items)) ∙ (ap (λ q. (fill c.args.here.1 (listed_in c.list-listed.result.slot (map plain_item c.list-listed.result.items.now) (slot_of c.args.m.now)) (scalars (plain_program c.args.code.program.now) (plain_type c.args.t.now)) 0 q no_frame (state_of c.args.here.0.left c.args.m.now.outside io))) (sym (c.pointer_of.ensures ∙ ap pointer_of c.value.ensures)) ∙ c.in-Ok.ensures.filled io no_frame)) c.next.ensures

pub returns-in-Err : goal.returns-in-Err
returns-in-Err c =
    cut_done (λ io. (fill c.args.here.1 (listed_in c.args.values.1 (map plain_item c.args.values.0.now) (slot_of c.args.m.now)) (scalars (plain_program c.args.code.program.now) (plain_type c.args.t.now)) 0 (pointer_of (value_of (plain_operand c.args.to) (slot_of c.args.m.now))) no_frame (state_of c.args.here.0.left c.args.m.now.outside io))) (λ io left. goes no_frame (state_of left c.fill_scalars.new.m.outside io)) (λ io. followed_by (config_of c.args.here.0 c.args.m.now io)) c.in-Err.cut c.fill_scalars.new.m c.cut_off.result
    (λ io. subst (λ xs. Continues (fill c.args.here.1 xs (scalars (plain_program c.args.code.program.now) (plain_type c.args.t.now)) 0 (pointer_of (value_of (plain_operand c.args.to) (slot_of c.args.m.now))) no_frame (state_of c.args.here.0.left c.args.m.now.outside io)) (λ left. goes no_frame (state_of left c.fill_scalars.new.m.outside io)) (Err c.in-Err.cut) c.fill_scalars.new.m.outside io) (ap (λ slot. listed_in slot (map plain_item c.list-listed.result.items.now) (slot_of c.args.m.now)) c.list-listed.ensures.slot ∙ ap (λ items. listed_in c.args.values.1 (map plain_item items) (slot_of c.args.m.now)) c.list-listed.ensures.items) (subst (λ q. Continues (fill c.args.here.1 (listed_in c.list-listed.result.slot (map plain_item c.list-listed.result.items.now) (slot_of c.args.m.now)) (scalars (plain_program c.args.code.program.now) (plain_type c.args.t.now)) 0 q no_frame (state_of c.args.here.0.left c.args.m.now.outside io)) (λ left. goes no_frame (state_of left c.fill_scalars.new.m.outside io)) (Err c.in-Err.cut) c.fill_scalars.new.m.outside io) (c.pointer_of.ensures ∙ ap pointer_of c.value.ensures) (c.in-Err.ensures.filled io no_frame))) c.cut_off.ensures
