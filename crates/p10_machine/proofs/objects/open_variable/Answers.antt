-- The object is opened and noted, and stands for the variable.
use Rattle.std.proofs.Common.{ap, refl, arith}
use Rattle.p10_core.specs.Types.{plain_type}
use Rattle.p10_core.specs.Views.{plain_program}
use Rattle.p10_meaning.specs.Objects.{declared}
use Rattle.p10_meaning.specs.Scalars.{unset_cells}
use Rattle.p10_meaning.specs.Values.{stands, scalars}
use Rattle.p10_store.specs.declared.shape.Origin.TheVariants.{Declared}
use Rattle.p10_code.specs.Machine.{on}
use Rattle.p10_machine.specs.declared.slots.Slot.TheVariants.{Object}
use Rattle.p10_machine.specs.Frames.{with_object}
use Rattle.p10_machine.specs.Views.{config_of}
use Rattle.p10_machine.proofs.Doing.{next_done}
use Rattle.p10_machine.proofs.Framing.{scalar_put}
use Rattle.p10_machine.proofs.Opened.{one_unset, variable_opened}
use Rattle.p10_machine.proofs.Requested.{opened_is}
use Rattle.p10_machine.proofs.objects.open_variable.Goals as goal

pub returns : goal.returns
returns c =
    next_done c.next.result c.args.s c.set.new.self (λ io. on (with_object (scalars (plain_program c.args.code.program.now) (plain_type c.args.t.now)) c.args.n (config_of c.args.s c.args.m.now io))) c.next.ensures
    (λ io. ap on (variable_opened (config_of c.args.s c.args.m.now io) (config_of c.args.s (record c.args.m.now { outside = record c.args.m.now.outside { store = c.open.new.self } }) io) (config_of c.args.s c.note_opened.new.self io) (config_of c.args.s c.set.new.self io) c.args.n c.place-place.result c.in-Ok.object c.opened-number.result (scalars (plain_program c.args.code.program.now) (plain_type c.args.t.now))
    (ap (λ w. record (config_of c.args.s c.args.m.now io) { state = w }) (opened_is Declared c.args.m.now.outside.store c.open.new.self c.in-Some.scalars 1 declared (unset_cells (scalars (plain_program c.args.code.program.now) (plain_type c.args.t.now))) (config_of c.args.s c.args.m.now io).state c.in-Ok-open.ensures.ok refl (one_unset c.in-Some.scalars (scalars (plain_program c.args.code.program.now) (plain_type c.args.t.now)) c.in-Some.ensures) refl refl))
    (c.in_ok-note_opened.ensures c.args.s io) (scalar_put c.note_opened.new.self c.set.new.self c.place-place.result (Object c.in-Ok.object) (stands c.in-Ok.object) c.args.s io (λ at. refl) (c.set.ensures c.args.s io))
    c.place-place.ensures (omega (arith, c.in-Ok.ensures)) c.opened-number.ensures))
