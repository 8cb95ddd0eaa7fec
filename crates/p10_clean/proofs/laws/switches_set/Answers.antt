use Rattle.std.proofs.Common.{refl}
use Rattle.p10_clean.proofs.laws.switches_set.Goals as goal

pub returns : goal.returns
returns c = record { without_default = refl; with_default = refl; falls_through = refl; enters_later = refl; ends_by_break = refl; returns_instead = refl }
