-- An array in an object is found exactly where the object is.
use Rattle.std.proofs.Common.{refl}
use Rattle.p10_interp.proofs.Pointed.{reached_ok, reached_err}
use Rattle.p10_interp.proofs.pointing.reach.Goals as goal

pub returns-in-Ok : goal.returns-in-Ok
returns-in-Ok c = reached_ok _ _ _ _ _ _ c.in-Ok.ensures

pub returns-in-Err : goal.returns-in-Err
returns-in-Err c = (reached_err c.args.store.now.objects c.args.pointer c.in-Err.stop 0 1 1 c.in-Err.ensures, refl)
