-- One object of the type's scalars, all unset.
use Rattle.std.proofs.Common.{refl}
use Rattle.p10_core.specs.Types.{plain_type}
use Rattle.p10_core.specs.Views.{plain_program}
use Rattle.p10_interp.specs.private.Machines.{state_of}
use Rattle.p10_interp.proofs.Declared.{object_opened}
use Rattle.p10_interp.proofs.declaring.open_object.Goals as goal

pub returns-in-Ok : goal.returns-in-Ok
returns-in-Ok c = λ io. (object_opened (plain_program c.args.p.now) (plain_type c.args.t.now) c.args.outside.now.store c.open.new.self c.in-Some.scalars c.in-Some.ensures c.in-Ok.ensures.ok (state_of c.args.outside.now io) refl refl, c.in-Some.ensures)
