use Rattle.std.proofs.Common.{refl, [], ◌∷◌}
use Rattle.p10_warn.specs.SmallPrograms.{row_found, careless_names, tidy_names}
use Rattle.p10_warn.proofs.Exact.{exact}
use Rattle.p10_warn.proofs.laws.names_are_judged.Goals as goal

pub returns-clause-violated : goal.returns-clause-violated
returns-clause-violated c = exact careless_names (row_found 1 1 ∷ row_found 1 3 ∷ row_found 1 4 ∷ row_found 2 2 ∷ row_found 5 3 ∷ row_found 5 4 ∷ []) refl

pub returns-clause-clean : goal.returns-clause-clean
returns-clause-clean c = exact tidy_names [] refl
