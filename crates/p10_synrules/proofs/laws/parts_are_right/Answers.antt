use Rattle.std.proofs.Common.{refl}
use Rattle.p10_synrules.proofs.Flags.{parts_stand}
use Rattle.p10_synrules.proofs.laws.parts_are_right.Goals as goal

pub returns-clause-whole : goal.returns-clause-whole
returns-clause-whole c = parts_stand

pub returns-clause-examples : goal.returns-clause-examples
returns-clause-examples c = record { condition = refl; arrow = refl }
