-- The walk over rows of trees, one turn at a time.
use Rattle.std.specs.Prelude.{◌≡◌, ℕ, ◌+◌, Bool, List, map, Option, slice_get}
use Rattle.std.proofs.Common.{◌∙◌, ap, sym, drop}
use Rattle.p10_syn.specs.declared.tree.Expr.{Expr}
use Rattle.p10_syn.specs.declared.tree.Parameter.{Parameter}
use Rattle.p10_syn.specs.Trees.{MoreExpressions, expression_row, MoreParameters, parameter_row}
use Rattle.p10_syn.specs.Built.{expression_of, parameter_of}
use Rattle.p10_core.specs.Types.{PlainType}
use Rattle.p10_core.specs.Typed.{PlainValue}
use Rattle.p10_elabx.specs.First.{Found, Judged, only_first}
use Rattle.p10_elabx.specs.Scopes.{PlainScope}
use Rattle.p10_elabx.specs.Calls.{Wanted, Listed, argument_judged, with_argument}
use Rattle.p10_elabx.specs.TypeNames.{with_parameter}
use Rattle.p10_elabx.specs.Judging.{value_in, judge, judge_arguments, judge_parameters}
use Rattle.p10_elabx.specs.private.Walking.{one_parameter}

-- one argument
pub step_arguments : (s : PlainScope) (wants : List Wanted) (i : ℕ) (all : List Expr) (e : Expr) (k n : Listed) (v a : Judged PlainValue) (w : Option Wanted) →
    expression_row (map expression_of (drop i all)) ≡ MoreExpressions (expression_of e) (expression_row (map expression_of (drop (i + 1) all))) →
    v ≡ value_in s (judge only_first s (expression_of e)) → w ≡ slice_get wants i → a ≡ argument_judged w v → n ≡ with_argument only_first k a →
    judge_arguments only_first s wants i k (expression_row (map expression_of (drop i all)))
    ≡ judge_arguments only_first s wants (i + 1) n (expression_row (map expression_of (drop (i + 1) all)))
step_arguments s wants i all e k n v a w cut ev ew ea en =
    let t : n ≡ with_argument only_first k (argument_judged (slice_get wants i) (value_in s (judge only_first s (expression_of e)))) =
    en ∙ ap (with_argument only_first k) (ea ∙ ap (λ x. argument_judged x v) ew ∙ ap (argument_judged (slice_get wants i)) ev) in
    ap (judge_arguments only_first s wants i k) cut ∙ ap (λ x. judge_arguments only_first s wants (i + 1) x (expression_row (map expression_of (drop (i + 1) all)))) (sym t)

-- one parameter
pub step_parameters : (s : PlainScope) (alone : Bool) (i : ℕ) (all : List Parameter) (p : Parameter) (f g : Found (List PlainType)) (one : Found (Option PlainType)) →
    parameter_row (map parameter_of (drop i all)) ≡ MoreParameters (parameter_of p) (parameter_row (map parameter_of (drop (i + 1) all))) →
    one ≡ one_parameter only_first s alone (parameter_of p) → g ≡ with_parameter only_first f one →
    judge_parameters only_first s alone f (parameter_row (map parameter_of (drop i all)))
    ≡ judge_parameters only_first s alone g (parameter_row (map parameter_of (drop (i + 1) all)))
step_parameters s alone i all p f g one cut eo eg =
    ap (judge_parameters only_first s alone f) cut
    ∙ ap (λ x. judge_parameters only_first s alone x (parameter_row (map parameter_of (drop (i + 1) all)))) (sym (eg ∙ ap (with_parameter only_first f) eo))
