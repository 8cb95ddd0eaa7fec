-- Tags that are declared one after the other.
use Rattle.std.specs.Prelude.{◌≡◌, List, [], ◌∷◌, ◌++◌, Option, None, Some, refl}
use Rattle.std.proofs.Common.{ap, ◌∙◌, sym}
use Rattle.p10_base.specs.Words.{Text}
use Rattle.p10_base.specs.declared.at.At.{At}
use Rattle.p10_syn.specs.Trees.{Expression, Expressions, MoreExpressions, Specifier, Specifiers, MoreSpecifiers, Parameter, Parameters, MoreParameters}
use Rattle.p10_elabx.specs.Scopes.{PlainScope, tagged}
use Rattle.p10_elabd.specs.Tags.{tag_of, tags_of, tags_in, tags_in_all, tags_in_parameter, tags_in_parameters, with_unknown, with_tags}

pub tags_then : (s : PlainScope) (xs ys : List Text) → with_tags (with_tags s xs) ys ≡ with_tags s (xs ++ ys)
tags_then s [] ys = refl
tags_then s (x ∷ xs) ys = tags_then (with_unknown (tagged s x) s x) xs ys

-- one part after another
pub with_both : (s t u : PlainScope) (xs ys : List Text) → t ≡ with_tags s xs → u ≡ with_tags t ys → u ≡ with_tags s (xs ++ ys)
with_both s t u xs ys e f = f ∙ ap (λ x. with_tags x ys) e ∙ tags_then s xs ys

-- one specifier
pub step_specifiers : (s t : PlainScope) (x : Specifier At) (all rest : Specifiers At) → all ≡ MoreSpecifiers x rest → t ≡ with_tags s (tag_of x) →
    with_tags s (tags_of all) ≡ with_tags t (tags_of rest)
step_specifiers s t x all rest cut e =
    ap (λ r. with_tags s (tags_of r)) cut ∙ sym (tags_then s (tag_of x) (tags_of rest)) ∙ ap (λ r. with_tags r (tags_of rest)) (sym e)

-- one expression
pub step_expressions : (s t : PlainScope) (x : Expression At) (all rest : Expressions At) → all ≡ MoreExpressions x rest → t ≡ with_tags s (tags_in x) →
    with_tags s (tags_in_all all) ≡ with_tags t (tags_in_all rest)
step_expressions s t x all rest cut e =
    ap (λ r. with_tags s (tags_in_all r)) cut ∙ sym (tags_then s (tags_in x) (tags_in_all rest)) ∙ ap (λ r. with_tags r (tags_in_all rest)) (sym e)

-- one parameter
pub step_parameters : (s t : PlainScope) (x : Parameter At) (all rest : Parameters At) → all ≡ MoreParameters x rest → t ≡ with_tags s (tags_in_parameter x) →
    with_tags s (tags_in_parameters all) ≡ with_tags t (tags_in_parameters rest)
step_parameters s t x all rest cut e =
    ap (λ r. with_tags s (tags_in_parameters r)) cut ∙ sym (tags_then s (tags_in_parameter x) (tags_in_parameters rest)) ∙ ap (λ r. with_tags r (tags_in_parameters rest)) (sym e)
