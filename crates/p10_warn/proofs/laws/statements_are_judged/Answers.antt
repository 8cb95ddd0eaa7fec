use Rattle.std.proofs.Common.{refl, [], ◌∷◌}
use Rattle.p10_warn.specs.SmallPrograms.{row_found, falling, ending}
use Rattle.p10_warn.proofs.Exact.{exact}
use Rattle.p10_warn.proofs.laws.statements_are_judged.Goals as goal

pub returns-clause-violated : goal.returns-clause-violated
returns-clause-violated c = exact falling (row_found 6 3 ∷ row_found 7 8 ∷ row_found 8 9 ∷ []) refl

pub returns-clause-clean : goal.returns-clause-clean
returns-clause-clean c = exact ending [] refl
