use Rattle.std.proofs.Common.{refl}
use Rattle.p10_synrules.proofs.laws.assertions_are_right.Goals as goal

pub returns-clause-assertions : goal.returns-clause-assertions
returns-clause-assertions c = record { call = refl; unevaluated = refl; no_call = refl; no_test = refl; negated = refl; grouped = refl; sum = refl; constant = refl; named = refl; two_arguments = refl; counts = refl; other = refl; parentheses = refl; assert = refl }

pub returns-clause-chiefs : goal.returns-clause-chiefs
returns-clause-chiefs c = record { main = refl; first = refl; none = refl }
