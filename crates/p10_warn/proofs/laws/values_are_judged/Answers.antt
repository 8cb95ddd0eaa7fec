use Rattle.std.proofs.Common.{refl, [], ◌∷◌}
use Rattle.p10_warn.specs.SmallPrograms.{row_found, mixing, keeping}
use Rattle.p10_warn.proofs.Exact.{exact}
use Rattle.p10_warn.proofs.laws.values_are_judged.Goals as goal

pub returns-clause-violated : goal.returns-clause-violated
returns-clause-violated c = exact mixing (row_found 3 12 ∷ row_found 3 20 ∷ row_found 3 31 ∷ row_found 3 30 ∷ row_found 4 41 ∷ row_found 3 43 ∷ []) refl

pub returns-clause-clean : goal.returns-clause-clean
returns-clause-clean c = exact keeping [] refl
