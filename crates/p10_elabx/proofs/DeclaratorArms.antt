-- What a declarator of a function makes of a type, by what the walk finds in its parts.
use Rattle.std.specs.Prelude.{◌≡◌, Bool, List, map, Vec}
use Rattle.std.specs.declared.alloc.Global.{Global}
use Rattle.std.proofs.Common.{ap, sym, ◌∙◌, Box}
use Rattle.p10_base.specs.declared.at.At.{At}
use Rattle.p10_syn.specs.declared.tree.Declarator.{Declarator}
use Rattle.p10_syn.specs.declared.tree.Declarator.TheVariants as declarator
use Rattle.p10_syn.specs.declared.tree.Parameter.{Parameter}
use Rattle.p10_syn.specs.Trees.{Parameters, parameter_row}
use Rattle.p10_syn.specs.Built.{declarator_of, parameter_of}
use Rattle.p10_core.specs.Types.{PlainType}
use Rattle.p10_elabx.specs.declared.shape.Made.{Made}
use Rattle.p10_elabx.specs.declared.shape.Made.TheVariants as around
use Rattle.p10_elabx.specs.First.{Found, Judged, only_first}
use Rattle.p10_elabx.specs.Scopes.{PlainScope}
use Rattle.p10_elabx.specs.TypeNames.{Shape, is_alone, lacks_prototype, no_parameters, function_judged}
use Rattle.p10_elabx.specs.Judging.{judge_declarator, judge_parameters}
use Rattle.p10_elabx.proofs.TreeNodes.{function_is}

-- a row of parameters
abbrev row : List Parameter → Parameters At
row all = parameter_row (map parameter_of all)

pub function_arm : (s : PlainScope) (name_at : At) (made : Made) (d : Declarator) (at : At) (inner : Box Declarator Global) (parentheses : At) (all : Vec Parameter Global) (dots : Bool)
    (xs ys zs : List Parameter) (i : Declarator) (alone lacking : Bool) (types : Found (List PlainType)) (j k r : Judged Shape) →
    d ≡ declarator.Function at inner parentheses all dots → xs ≡ all.items → ys ≡ all.items → zs ≡ all.items → i ≡ inner.value →
    lacking ≡ lacks_prototype (row xs) dots → alone ≡ is_alone (row zs) → types ≡ judge_parameters only_first s alone no_parameters (row ys) →
    k ≡ function_judged only_first at name_at parentheses lacking made types j →
    r ≡ judge_declarator only_first s name_at around.Function k (declarator_of i) → r ≡ judge_declarator only_first s name_at made j (declarator_of d)
function_arm s name_at made d at inner parentheses all dots xs ys zs i alone lacking types j k r is ex ey ez ei el ea et ek er =
    let known : types ≡ judge_parameters only_first s (is_alone (row all.items)) no_parameters (row all.items) =
    et ∙ ap (λ y. judge_parameters only_first s alone no_parameters (row y)) ey ∙ ap (λ x. judge_parameters only_first s x no_parameters (row all.items)) (ea ∙ ap (λ z. is_alone (row z)) ez) in
    let without : lacking ≡ lacks_prototype (row all.items) dots = el ∙ ap (λ x. lacks_prototype (row x) dots) ex in
    er ∙ ap (λ x. judge_declarator only_first s name_at around.Function k (declarator_of x)) ei
    ∙ ap (λ x. judge_declarator only_first s name_at around.Function x (declarator_of inner.value))
    (ek ∙ ap (λ x. function_judged only_first at name_at parentheses x made types j) without
    ∙ ap (λ x. function_judged only_first at name_at parentheses (lacks_prototype (row all.items) dots) made x j) known)
    ∙ ap (judge_declarator only_first s name_at made j) (sym (ap declarator_of is ∙ function_is at inner parentheses all dots))
