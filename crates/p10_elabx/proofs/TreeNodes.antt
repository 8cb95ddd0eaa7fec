-- Nodes of the code's trees that have rows, as the definitions see them.
use Rattle.std.proofs.Common.{◌≡◌, Bool, refl, ap, sym, ◌∙◌, map, rules, Vec, Box}
use Rattle.std.specs.declared.alloc.Global.{Global}
use Rattle.p10_base.specs.declared.at.At.{At}
use Rattle.p10_syn.specs.declared.tree.Form.TheVariants as form
use Rattle.p10_syn.specs.declared.tree.Declarator.TheVariants as declarator
use Rattle.p10_syn.specs.declared.tree.Declarator.TheViews.{the_lemmas}
use Rattle.p10_syn.specs.declared.tree.Declarator.TheBlock.{shown-the_row-Spec-0}
use Rattle.p10_syn.specs.declared.sign.Sign.{Sign}
use Rattle.p10_syn.specs.declared.tree.Expr.{Expr}
use Rattle.p10_syn.specs.declared.tree.TypeName.{TypeName}
use Rattle.p10_syn.specs.declared.tree.Declarator.{Declarator, Row_of-Parameter, end_of-Parameter, more_of-Parameter, items-the_row-Parameter}
use Rattle.p10_syn.specs.declared.tree.Parameter.{Parameter}
use Rattle.p10_syn.specs.declared.tree.Form.{Row_of-Spec, end_of-Spec, more_of-Spec, items-the_row-Spec}
use Rattle.p10_syn.specs.Trees.{expression, parameter, Binary, Call, Comma, Cast, SizeofType, Function, MoreSpecifiers, MoreParameters, expression_row, specifier_row, parameter_row}
use Rattle.p10_syn.specs.Built.{form_of, kind_of, specifiers_of, specifier_of, specifiers_in, parameters_of, expression_of, parameter_of, declarator_of}
use Rattle.p10_elabx.proofs.TreeRows.{expressions_listed}

-- ## Rows

pub specifiers_listed : (n : _) (all : Row_of-Spec n) → specifiers_of all ≡ specifier_row (map specifier_of (items-the_row-Spec n all))
specifiers_listed n end_of-Spec = refl
specifiers_listed n (more_of-Spec s rest) = ap (MoreSpecifiers (specifier_of s)) (specifiers_listed _ rest)

specifiers_shown : (shape : _) (specs : Row_of-Spec _) → specifiers_of specs ≡ specifiers_in (shown-the_row-Spec-0 shape specs)
specifiers_shown shape specs = search (rules, the_lemmas, specifiers_listed)

pub parameters_listed : (n : _) (all : Row_of-Parameter n) → parameters_of all ≡ parameter_row (map parameter_of (items-the_row-Parameter n all))
parameters_listed n end_of-Parameter = refl
parameters_listed n (more_of-Parameter at shape specs d rest) =
    ap (λ s. MoreParameters (parameter at s (declarator_of d)) (parameters_of rest)) (specifiers_shown shape specs)
    ∙ ap (MoreParameters (parameter at (specifiers_in (shown-the_row-Spec-0 shape specs)) (declarator_of d))) (parameters_listed _ rest)

-- ## Nodes

call_is : (f : Box Expr Global) (all : Vec Expr Global) → form_of (form.Call f all) ≡ Call (expression_of f.value) (expression_row (map expression_of all.items))
call_is f all = search (rules, the_lemmas, expressions_listed)

comma_is : (all : Vec Expr Global) → form_of (form.Comma all) ≡ Comma (expression_row (map expression_of all.items))
comma_is all = search (rules, the_lemmas, expressions_listed)

cast_is : (k : Box TypeName Global) (e : Box Expr Global) → form_of (form.Cast k e) ≡ Cast (kind_of k.value) (expression_of e.value)
cast_is k e = search (rules, the_lemmas, specifiers_listed)

sizeof_is : (k : Box TypeName Global) → form_of (form.SizeofType k) ≡ SizeofType (kind_of k.value)
sizeof_is k = search (rules, the_lemmas, specifiers_listed)

-- a function's declarator
pub function_is : (at : At) (d : Box Declarator Global) (parentheses : At) (all : Vec Parameter Global) (dots : Bool) →
    declarator_of (declarator.Function at d parentheses all dots) ≡ Function at (declarator_of d.value) parentheses (parameter_row (map parameter_of all.items)) dots
function_is at d parentheses all dots = search (rules, the_lemmas, parameters_listed)

-- ## Expressions by their form

pub call_tree : (e : Expr) (f : Box Expr Global) (all : Vec Expr Global) → e.form ≡ form.Call f all →
    expression_of e ≡ expression e.at e.parens (Call (expression_of f.value) (expression_row (map expression_of all.items)))
call_tree e f all is = ap (expression e.at e.parens) (ap form_of is ∙ call_is f all)

pub comma_tree : (e : Expr) (all : Vec Expr Global) → e.form ≡ form.Comma all → expression_of e ≡ expression e.at e.parens (Comma (expression_row (map expression_of all.items)))
comma_tree e all is = ap (expression e.at e.parens) (ap form_of is ∙ comma_is all)

pub cast_tree : (e : Expr) (k : Box TypeName Global) (a : Box Expr Global) → e.form ≡ form.Cast k a →
    expression_of e ≡ expression e.at e.parens (Cast (kind_of k.value) (expression_of a.value))
cast_tree e k a is = ap (expression e.at e.parens) (ap form_of is ∙ cast_is k a)

pub sizeof_tree : (e : Expr) (k : Box TypeName Global) → e.form ≡ form.SizeofType k → expression_of e ≡ expression e.at e.parens (SizeofType (kind_of k.value))
sizeof_tree e k is = ap (expression e.at e.parens) (ap form_of is ∙ sizeof_is k)

pub binary_tree : (e : Expr) (sign : Sign) (a b : Box Expr Global) (x y : Expr) → e.form ≡ form.Binary sign a b → x ≡ a.value → y ≡ b.value →
    expression_of e ≡ expression e.at e.parens (Binary sign (expression_of x) (expression_of y))
binary_tree e sign a b x y is ex ey =
    ap (expression e.at e.parens)
    (ap form_of is ∙ ap (λ z. Binary sign (expression_of z) (expression_of b.value)) (sym ex) ∙ ap (λ z. Binary sign (expression_of x) (expression_of z)) (sym ey))
