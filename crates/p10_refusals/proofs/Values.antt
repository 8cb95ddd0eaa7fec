-- Expressions where what stands is alike.
use Rattle.std.proofs.Common.{List}
use Rattle.p10_base.specs.declared.at.At.{At}
use Rattle.p10_syn.specs.Trees.{Expression}
use Rattle.p10_core.specs.Typed.{PlainValue}
use Rattle.p10_elabx.specs.declared.problem.Problem.{Problem}
use Rattle.p10_elabx.specs.First.{Ruled, on, every, only_first}
use Rattle.p10_elabx.specs.Laws.{IsKept}
use Rattle.p10_elabx.proofs.Firsts.{kept_on}
use Rattle.p10_elabx.proofs.Ties.{tied, tied_value}
use Rattle.p10_elabd.specs.Tags.{scope_of_expression}
use Rattle.p10_elabd.specs.Standing.{PlainStanding}
use Rattle.p10_elabd.specs.Expressions.{for_expression, value_found, value_by}
use Rattle.p10_refusals.proofs.Alike.{Alike, AlikePassed, for_alike, alike_noted, alike_scoped}

pub alike_expression : {s t : PlainStanding} (e : Expression At) → Alike s t → Alike (for_expression s e) (for_expression t e)
alike_expression e a = alike_scoped (λ x. scope_of_expression x e) a

-- where the problems differ alone
pub kept_value : (s : PlainStanding) (ps : List Problem) (e : Expression At) → IsKept (value_found every s e) (value_found only_first (record s { problems = ps }) e)
kept_value s ps e = (tied_value (scope_of_expression s.scope e).structures _ _ (tied (scope_of_expression s.scope e) e)).found

pub kept_value_at : {s t : PlainStanding} (e : Expression At) → Alike s t → IsKept (value_found every s e) (value_found only_first t e)
kept_value_at {s = s} {t = t} e a = for_alike (λ t. IsKept (value_found every s e) (value_found only_first t e)) s t (λ ps k. kept_value s ps e) a

-- a value, of which a row asks more
pub alike_value : {A : Type 0} {s t : PlainStanding} (go : PlainValue → Ruled A) (e : Expression At) → Alike s t → AlikePassed A (value_by every s e go) (value_by only_first t e go)
alike_value {s = s} {t = t} go e a =
    alike_noted (on (value_found every s e) go) (on (value_found only_first t e) go) (kept_on (value_found every s e) (value_found only_first t e) go (kept_value_at e a)) (alike_expression e a)
