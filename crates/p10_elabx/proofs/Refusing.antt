-- Rows on the form of a tree beside those of its parts.
use Rattle.std.specs.Prelude.{◌≡◌, Bool, true, false, Ok, Err, Option, List, [], ◌∷◌, if◌then◌else◌}
use Rattle.std.proofs.Common.{ap, ◌∙◌}
use Rattle.p10_base.specs.declared.at.At.{At}
use Rattle.p10_base.specs.declared.codes.SubsetCode.TheVariants as subset
use Rattle.p10_core.specs.Types.{PlainType}
use Rattle.p10_elabx.specs.declared.problem.Problem.{Problem}
use Rattle.p10_elabx.specs.declared.shape.Made.{Made}
use Rattle.p10_elabx.specs.First.{Found, Judged, problems, joined, only_first, refused_where, on, pair}
use Rattle.p10_elabx.specs.TypeNames.{Shape, a_function_type, is_of_aggregate, given_type, function_judged}

-- a part that is refused
abbrev pub refused_by : (A : Type 0) → List Problem → Found A
refused_by A rs = Err rs

-- a part that is refused, where a row on the form may hold
pub refused_err : (A : Type 0) (holds : Bool) (own : Problem) (r x : Option Problem) →
    problems x ≡ (if holds then joined only_first (problems r) (own ∷ []) else problems r) →
    refused_by A (problems x) ≡ refused_where only_first holds own.code own.at (refused_by A (problems r))
refused_err A true own r x e = ap (refused_by A) e
refused_err A false own r x e = ap (refused_by A) e

-- what is found in a type: nothing in it counts for the order of evaluation
abbrev in_type : Found Shape → Judged Shape
in_type f = record { found = f; acts = false; reads = false }

-- what is found in a function's declarator, one row after another
pub function_joins : (at name_at parentheses : At) (lacking : Bool) (made : Made) (aggregate : Bool) (parameters : Found (List PlainType)) (j : Found Shape) (given : Found PlainType) (f g h : Found Shape) →
    given ≡ on j (given_type at name_at) → f ≡ on (pair only_first parameters given) (λ (ts, t). Ok (a_function_type ts t)) → aggregate ≡ is_of_aggregate made →
    g ≡ refused_where only_first aggregate subset.IncompleteType name_at f → h ≡ refused_where only_first lacking subset.NoPrototype parentheses g →
    in_type h ≡ function_judged only_first at name_at parentheses lacking made parameters (in_type j)
unfolding function_judged
function_joins at name_at parentheses lacking made aggregate parameters j given f g h a b d e k =
    ap in_type (k ∙ ap (refused_where only_first lacking subset.NoPrototype parentheses)
    (e ∙ ap (λ x. refused_where only_first x subset.IncompleteType name_at f) d
    ∙ ap (refused_where only_first (is_of_aggregate made) subset.IncompleteType name_at)
    (b ∙ ap (λ (x : Found PlainType). on (pair only_first parameters x) (λ (ts, t). Ok (a_function_type ts t))) a)))
