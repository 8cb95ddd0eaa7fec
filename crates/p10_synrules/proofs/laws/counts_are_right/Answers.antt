use Rattle.std.proofs.Common.{refl}
use Rattle.p10_synrules.proofs.laws.counts_are_right.Goals as goal

pub returns : goal.returns
returns c = record { block = refl; declared = refl; evaluated = refl; branches = refl; labelled = refl; pragma = refl }
