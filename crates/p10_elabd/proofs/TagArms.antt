-- The tags in calls, casts, sizes and rows of expressions of the code.
use Rattle.std.specs.Prelude.{◌≡◌, Bool, List, ◌++◌, map, Option, Some}
use Rattle.std.specs.declared.alloc.Global.{Global}
use Rattle.std.proofs.Common.{ap, sym, ◌∙◌, Box, Vec}
use Rattle.p10_base.specs.declared.at.At.{At}
use Rattle.p10_syn.specs.declared.sign.Sign.{Sign}
use Rattle.p10_syn.specs.declared.tree.Form.TheVariants as form
use Rattle.p10_syn.specs.declared.tree.Declarator.TheVariants as declarator
use Rattle.p10_syn.specs.declared.tree.Declarator.{Declarator}
use Rattle.p10_syn.specs.declared.tree.Spec.{Spec}
use Rattle.p10_syn.specs.declared.tree.Expr.{Expr}
use Rattle.p10_syn.specs.declared.tree.TypeName.{TypeName}
use Rattle.p10_syn.specs.declared.tree.Parameter.{Parameter}
use Rattle.p10_syn.specs.Trees.{expression_row, specifier_row, parameter_row}
use Rattle.p10_syn.specs.Built.{expression_of, kind_of, specifier_of, specifiers_in, declarator_of, parameter_of}
use Rattle.p10_elabx.specs.Scopes.{PlainScope}
use Rattle.p10_elabd.specs.Tags.{tags_of, tags_in, tags_in_all, tags_in_type, tags_in_declarator, tags_in_parameter, tags_in_parameters, with_tags}
use Rattle.p10_elabd.proofs.TagLists.{with_both}
use Rattle.p10_elabd.proofs.TreeRows.{call_tree, comma_tree, cast_tree, sizeof_tree, binary_tree, assign_tree, index_tree, conditional_tree, array_is, function_is}

pub call_tags : (s t u : PlainScope) (e x : Expr) (f : Box Expr Global) (all : Vec Expr Global) (items : List Expr) → e.form ≡ form.Call f all → x ≡ f.value → items ≡ all.items →
    t ≡ with_tags s (tags_in (expression_of x)) → u ≡ with_tags t (tags_in_all (expression_row (map expression_of items))) → u ≡ with_tags s (tags_in (expression_of e))
call_tags s t u e x f all items is first same et eu =
    with_both s t u (tags_in (expression_of f.value)) (tags_in_all (expression_row (map expression_of all.items)))
    (et ∙ ap (λ y. with_tags s (tags_in (expression_of y))) first)
    (eu ∙ ap (λ xs. with_tags t (tags_in_all (expression_row (map expression_of xs)))) same)
    ∙ ap (λ y. with_tags s (tags_in y)) (sym (call_tree e f all is))

pub comma_tags : (s u : PlainScope) (e : Expr) (all : Vec Expr Global) (items : List Expr) → e.form ≡ form.Comma all → items ≡ all.items →
    u ≡ with_tags s (tags_in_all (expression_row (map expression_of items))) → u ≡ with_tags s (tags_in (expression_of e))
comma_tags s u e all items is same eu =
    eu ∙ ap (λ xs. with_tags s (tags_in_all (expression_row (map expression_of xs)))) same ∙ ap (λ y. with_tags s (tags_in y)) (sym (comma_tree e all is))

pub cast_tags : (s t u : PlainScope) (e x : Expr) (n : TypeName) (k : Box TypeName Global) (a : Box Expr Global) → e.form ≡ form.Cast k a → n ≡ k.value → x ≡ a.value →
    t ≡ with_tags s (tags_in_type (kind_of n)) → u ≡ with_tags t (tags_in (expression_of x)) → u ≡ with_tags s (tags_in (expression_of e))
cast_tags s t u e x n k a is named same et eu =
    with_both s t u (tags_in_type (kind_of k.value)) (tags_in (expression_of a.value))
    (et ∙ ap (λ y. with_tags s (tags_in_type (kind_of y))) named) (eu ∙ ap (λ y. with_tags t (tags_in (expression_of y))) same)
    ∙ ap (λ y. with_tags s (tags_in y)) (sym (cast_tree e k a is))

pub sizeof_tags : (s u : PlainScope) (e : Expr) (n : TypeName) (k : Box TypeName Global) → e.form ≡ form.SizeofType k → n ≡ k.value →
    u ≡ with_tags s (tags_in_type (kind_of n)) → u ≡ with_tags s (tags_in (expression_of e))
sizeof_tags s u e n k is named eu =
    eu ∙ ap (λ y. with_tags s (tags_in_type (kind_of y))) named ∙ ap (λ y. with_tags s (tags_in y)) (sym (sizeof_tree e k is))

-- ## Two parts and three

two_tags : (s t u : PlainScope) (x y : Expr) (a b : Box Expr Global) → x ≡ a.value → y ≡ b.value → t ≡ with_tags s (tags_in (expression_of x)) → u ≡ with_tags t (tags_in (expression_of y)) →
    u ≡ with_tags s (tags_in (expression_of a.value) ++ tags_in (expression_of b.value))
two_tags s t u x y a b first second et eu =
    with_both s t u (tags_in (expression_of a.value)) (tags_in (expression_of b.value))
    (et ∙ ap (λ z. with_tags s (tags_in (expression_of z))) first) (eu ∙ ap (λ z. with_tags t (tags_in (expression_of z))) second)

pub binary_tags : (s t u : PlainScope) (e x y : Expr) (w : Sign) (a b : Box Expr Global) → e.form ≡ form.Binary w a b → x ≡ a.value → y ≡ b.value →
    t ≡ with_tags s (tags_in (expression_of x)) → u ≡ with_tags t (tags_in (expression_of y)) → u ≡ with_tags s (tags_in (expression_of e))
binary_tags s t u e x y w a b is first second et eu = two_tags s t u x y a b first second et eu ∙ ap (λ z. with_tags s (tags_in z)) (sym (binary_tree e w a b is))

pub assign_tags : (s t u : PlainScope) (e x y : Expr) (w : Sign) (a b : Box Expr Global) → e.form ≡ form.Assign w a b → x ≡ a.value → y ≡ b.value →
    t ≡ with_tags s (tags_in (expression_of x)) → u ≡ with_tags t (tags_in (expression_of y)) → u ≡ with_tags s (tags_in (expression_of e))
assign_tags s t u e x y w a b is first second et eu = two_tags s t u x y a b first second et eu ∙ ap (λ z. with_tags s (tags_in z)) (sym (assign_tree e w a b is))

pub index_tags : (s t u : PlainScope) (e x y : Expr) (a b : Box Expr Global) → e.form ≡ form.Index a b → x ≡ a.value → y ≡ b.value →
    t ≡ with_tags s (tags_in (expression_of x)) → u ≡ with_tags t (tags_in (expression_of y)) → u ≡ with_tags s (tags_in (expression_of e))
index_tags s t u e x y a b is first second et eu = two_tags s t u x y a b first second et eu ∙ ap (λ z. with_tags s (tags_in z)) (sym (index_tree e a b is))

pub conditional_tags : (s t u v : PlainScope) (e w x y : Expr) (c a b : Box Expr Global) → e.form ≡ form.Cond c a b → w ≡ c.value → x ≡ a.value → y ≡ b.value →
    t ≡ with_tags s (tags_in (expression_of w)) → u ≡ with_tags t (tags_in (expression_of x)) → v ≡ with_tags u (tags_in (expression_of y)) → v ≡ with_tags s (tags_in (expression_of e))
conditional_tags s t u v e w x y c a b is test first second et eu ev =
    with_both s t v (tags_in (expression_of c.value)) (tags_in (expression_of a.value) ++ tags_in (expression_of b.value))
    (et ∙ ap (λ z. with_tags s (tags_in (expression_of z))) test) (two_tags t u v x y a b first second eu ev)
    ∙ ap (λ z. with_tags s (tags_in z)) (sym (conditional_tree e c a b is))

-- ## Type names

pub type_tags : (s t u : PlainScope) (n : TypeName) (items : List Spec) → items ≡ n.specs.items → t ≡ with_tags s (tags_of (specifier_row (map specifier_of items))) →
    u ≡ with_tags t (tags_in_declarator (declarator_of n.declarator)) → u ≡ with_tags s (tags_in_type (kind_of n))
type_tags s t u n items same et eu =
    with_both s t u (tags_of (specifiers_in n.specs)) (tags_in_declarator (declarator_of n.declarator)) (et ∙ ap (λ xs. with_tags s (tags_of (specifier_row (map specifier_of xs)))) same) eu

pub array_tags : (s t u : PlainScope) (d x : Declarator) (y : Expr) (at : At) (inner : Box Declarator Global) (brackets : At) (l : Option (Box Expr Global)) (e : Box Expr Global) →
    d ≡ declarator.Array at inner brackets l → l ≡ Some e → x ≡ inner.value → y ≡ e.value →
    t ≡ with_tags s (tags_in_declarator (declarator_of x)) → u ≡ with_tags t (tags_in (expression_of y)) → u ≡ with_tags s (tags_in_declarator (declarator_of d))
array_tags s t u d x y at inner brackets l e is some first second et eu =
    with_both s t u (tags_in_declarator (declarator_of inner.value)) (tags_in (expression_of e.value))
    (et ∙ ap (λ z. with_tags s (tags_in_declarator (declarator_of z))) first) (eu ∙ ap (λ z. with_tags t (tags_in (expression_of z))) second)
    ∙ ap (λ z. with_tags s (tags_in_declarator z)) (sym (array_is at inner brackets e))
    ∙ ap (λ k. with_tags s (tags_in_declarator (declarator_of (declarator.Array at inner brackets k)))) (sym some)
    ∙ ap (λ z. with_tags s (tags_in_declarator (declarator_of z))) (sym is)

pub function_tags : (s t u : PlainScope) (d x : Declarator) (at : At) (inner : Box Declarator Global) (parentheses : At) (all : Vec Parameter Global) (more : Bool) (items : List Parameter) →
    d ≡ declarator.Function at inner parentheses all more → x ≡ inner.value → items ≡ all.items →
    t ≡ with_tags s (tags_in_declarator (declarator_of x)) → u ≡ with_tags t (tags_in_parameters (parameter_row (map parameter_of items))) → u ≡ with_tags s (tags_in_declarator (declarator_of d))
function_tags s t u d x at inner parentheses all more items is first same et eu =
    with_both s t u (tags_in_declarator (declarator_of inner.value)) (tags_in_parameters (parameter_row (map parameter_of all.items)))
    (et ∙ ap (λ z. with_tags s (tags_in_declarator (declarator_of z))) first) (eu ∙ ap (λ xs. with_tags t (tags_in_parameters (parameter_row (map parameter_of xs)))) same)
    ∙ ap (λ z. with_tags s (tags_in_declarator z)) (sym (function_is at inner parentheses all more))
    ∙ ap (λ z. with_tags s (tags_in_declarator (declarator_of z))) (sym is)

pub parameter_tags : (s t u : PlainScope) (p : Parameter) (items : List Spec) → items ≡ p.specs.items → t ≡ with_tags s (tags_of (specifier_row (map specifier_of items))) →
    u ≡ with_tags t (tags_in_declarator (declarator_of p.declarator)) → u ≡ with_tags s (tags_in_parameter (parameter_of p))
parameter_tags s t u p items same et eu =
    with_both s t u (tags_of (specifiers_in p.specs)) (tags_in_declarator (declarator_of p.declarator)) (et ∙ ap (λ xs. with_tags s (tags_of (specifier_row (map specifier_of xs)))) same) eu
