-- What the list gives is converted, or it gives nothing.
use Rattle.std.proofs.Common.{map}
use Rattle.p10_core.specs.Types.{plain_type, bare}
use Rattle.p10_core.specs.Sizes.{scalars_of}
use Rattle.p10_core.specs.Views.{plain_types, plain_item}
use Rattle.p10_code.specs.Machine.{listed_in}
use Rattle.p10_machine.specs.Views.{slot_of}
use Rattle.p10_machine.proofs.Filled.{kind_listed}
use Rattle.p10_machine.proofs.listed.scalar_for.Goals as goal

pub returns : goal.returns
returns c =
    kind_listed (scalars_of (plain_types c.args.types.0.now) (bare (plain_types c.args.types.0.now) (plain_type c.args.types.1.now))) c.args.number c.in-Some.kind (listed_in c.args.listed.slot (map plain_item c.args.listed.items.now) (slot_of c.args.m.now)) c.in_ok-found.found c.convert_or_zero.result c.in-Some.ensures c.in_ok-found.ensures c.convert_or_zero.ensures
