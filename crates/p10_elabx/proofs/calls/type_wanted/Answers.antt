use Rattle.std.specs.Prelude.{Some, None, map}
use Rattle.p10_core.specs.Types.{plain_type}
use Rattle.p10_elabx.proofs.Asked.{asked_type}
use Rattle.p10_elabx.proofs.calls.type_wanted.Goals as goal

pub returns-in-Some : goal.returns-in-Some
returns-in-Some c = asked_type (map plain_type c.args.types.now) c.args.i (Some (plain_type c.in-Some.ty.now)) c.in-Some.ensures

pub returns-in-None : goal.returns-in-None
returns-in-None c = asked_type (map plain_type c.args.types.now) c.args.i None c.in-None.ensures
