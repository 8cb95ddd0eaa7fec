use Rattle.std.proofs.Common.{ap, sym}
use Rattle.p10_core.specs.Views.{plain_value}
use Rattle.p10_elabx.specs.TypeNames.{constant_length}
use Rattle.p10_elabx.proofs.arrays.constant_length.Goals as goal

pub returns-in-Some : goal.returns-in-Some
returns-in-Some c = ap (constant_length (plain_value c.args.length.now)) (sym c.in-Some.is)
