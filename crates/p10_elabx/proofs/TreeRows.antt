-- Rows of trees and of values as lists.
use Rattle.std.specs.Prelude.{◌≡◌, ℕ, suc, ◌+◌, List, [], ◌∷◌, ◌++◌, length, map, refl}
use Rattle.std.proofs.Common.{◌∙◌, ◌<◌, ap, sym, arith, drop, drop-cons, get_or, add-one}
use Rattle.p10_syn.specs.declared.tree.Expr.{Expr}
use Rattle.p10_syn.specs.declared.tree.Spec.{Spec}
use Rattle.p10_syn.specs.declared.tree.Parameter.{Parameter}
use Rattle.p10_syn.specs.declared.tree.Form.{Row_of-Expr, end_of-Expr, more_of-Expr, items-the_row-Expr}
use Rattle.p10_syn.specs.Trees.{expression, MoreExpressions, expression_row, MoreSpecifiers, specifier_row, MoreParameters, parameter_row}
use Rattle.p10_syn.specs.Built.{form_of, expression_of, expressions_of, specifier_of, parameter_of}
use Rattle.p10_core.specs.declared.c_type.CType.{CType}
use Rattle.p10_core.specs.declared.typed.Value.{Value}
use Rattle.p10_core.specs.Types.{plain_type}
use Rattle.p10_core.specs.Typed.{more_values}
use Rattle.p10_core.specs.Views.{plain_value, plain_values}
use Rattle.p10_elabx.specs.Calls.{with_value}
use Rattle.p10_elabx.specs.Judging.{count_of}

-- ## Values and types

-- one value more
pub values_more : (vs : List Value) (v : Value) → plain_values (vs ++ v ∷ []) ≡ with_value (plain_values vs) (plain_value v)
values_more [] v = refl
values_more (x ∷ vs) v = ap (more_values (plain_value x)) (values_more vs v)

-- types in a row are as many as before
pub types_length : (types : List CType) → length (map plain_type types) ≡ length types
types_length [] = refl
types_length (t ∷ rest) = ap suc (types_length rest)

-- one type more
pub types_more : (types : List CType) (t : CType) → map plain_type (types ++ t ∷ []) ≡ map plain_type types ++ plain_type t ∷ []
types_more [] t = refl
types_more (x ∷ types) t = ap (λ ts. plain_type x ∷ ts) (types_more types t)

-- ## Rows of trees

-- the expressions of a row
pub expressions_listed : (n : _) (all : Row_of-Expr n) → expressions_of all ≡ expression_row (map expression_of (items-the_row-Expr n all))
expressions_listed n end_of-Expr = refl
expressions_listed n (more_of-Expr at k f rest) = ap (MoreExpressions (expression at k (form_of f))) (expressions_listed _ rest)

-- how many expressions there are
pub count_row : (all : List Expr) → count_of (expression_row (map expression_of all)) ≡ length all
count_row [] = refl
count_row (e ∷ rest) = let h : count_of (expression_row (map expression_of rest)) ≡ length rest = count_row rest in omega arith

-- ## One turn of a loop

-- the expressions from a place on
pub cut_expressions : (all : List Expr) (i : ℕ) (e : Expr) → i < length all → e ≡ get_or all i e →
    expression_row (map expression_of (drop i all)) ≡ MoreExpressions (expression_of e) (expression_row (map expression_of (drop (i + 1) all)))
cut_expressions all i e below is =
    ap (λ es. expression_row (map expression_of es)) (drop-cons all i e below)
    ∙ ap (λ x. MoreExpressions (expression_of x) (expression_row (map expression_of (drop (suc i) all)))) (sym is)
    ∙ ap (λ n. MoreExpressions (expression_of e) (expression_row (map expression_of (drop n all)))) (sym (add-one i))

-- the specifiers from a place on
pub cut_specifiers : (all : List Spec) (i : ℕ) (s : Spec) → i < length all → s ≡ get_or all i s →
    specifier_row (map specifier_of (drop i all)) ≡ MoreSpecifiers (specifier_of s) (specifier_row (map specifier_of (drop (i + 1) all)))
cut_specifiers all i s below is =
    ap (λ es. specifier_row (map specifier_of es)) (drop-cons all i s below)
    ∙ ap (λ x. MoreSpecifiers (specifier_of x) (specifier_row (map specifier_of (drop (suc i) all)))) (sym is)
    ∙ ap (λ n. MoreSpecifiers (specifier_of s) (specifier_row (map specifier_of (drop n all)))) (sym (add-one i))

-- the parameters from a place on
pub cut_parameters : (all : List Parameter) (i : ℕ) (p : Parameter) → i < length all → p ≡ get_or all i p →
    parameter_row (map parameter_of (drop i all)) ≡ MoreParameters (parameter_of p) (parameter_row (map parameter_of (drop (i + 1) all)))
cut_parameters all i p below is =
    ap (λ es. parameter_row (map parameter_of es)) (drop-cons all i p below)
    ∙ ap (λ x. MoreParameters (parameter_of x) (parameter_row (map parameter_of (drop (suc i) all)))) (sym is)
    ∙ ap (λ n. MoreParameters (parameter_of p) (parameter_row (map parameter_of (drop n all)))) (sym (add-one i))
