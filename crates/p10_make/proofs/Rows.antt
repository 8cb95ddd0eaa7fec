-- Rows of trees as lists.
use Rattle.std.proofs.Common.{◌≡◌, List, [], ◌∷◌, map, refl, ◌∙◌, ap, rules, Vec}
use Rattle.std.specs.declared.alloc.Global.{Global}
use Rattle.p10_syn.specs.declared.tree.Declarator.TheViews.{the_lemmas}
use Rattle.p10_syn.specs.declared.tree.Declarator.TheBlock.{shown-the_row-Spec-0, hidden-the_row-Spec-0}
use Rattle.p10_syn.specs.declared.tree.Spec.{Spec}
use Rattle.p10_syn.specs.declared.tree.Qualifier.{Qualifier}
use Rattle.p10_syn.specs.declared.tree.TypeName.{TypeName}
use Rattle.p10_syn.specs.declared.tree.Expr.{Expr}
use Rattle.p10_syn.specs.declared.tree.Form.{Row_of-Expr, end_of-Expr, more_of-Expr, items-the_row-Expr, Row_of-Spec, end_of-Spec, more_of-Spec, items-the_row-Spec}
use Rattle.p10_syn.specs.declared.tree.Structure.{Row_of-Member, end_of-Member, more_of-Member, items-the_row-Member}
use Rattle.p10_syn.specs.declared.tree.Member.{Row_of-Field, end_of-Field, more_of-Field, items-the_row-Field}
use Rattle.p10_syn.specs.declared.tree.Enumeration.{Row_of-Enumerator, end_of-Enumerator, more_of-Enumerator, items-the_row-Enumerator}
use Rattle.p10_syn.specs.declared.tree.Declarator.{Row_of-Parameter, end_of-Parameter, more_of-Parameter, items-the_row-Parameter}
use Rattle.p10_syn.proofs.Rows.{specifiers_listed, specifiers_shown}
use Rattle.p10_syn.specs.Trees.{Cast, type_name, MoreExpressions, MoreSpecifiers, MoreMembers, MoreFields, MoreEnumerators, MoreParameters, expression, parameter, expression_row, specifier_row, member_row, field_row, enumerator_row, parameter_row}
use Rattle.p10_syn.specs.Bare.{bare, bare_type, bare_form, bare_list, bare_specifier, bare_specifiers, bare_member, bare_members, bare_field, bare_fields, bare_enumerator, bare_enumerators, bare_declarator, bare_parameters, bare_qualifiers}
use Rattle.p10_syn.specs.Built.{form_of, expressions_of, specifiers_of, specifiers_in, specifier_of, member_of, members_of, field_of, fields_of, enumerator_of, enumerators_of, declarator_of, parameters_of, expression_of, kind_of, bare_kind_of, bare_of, bare_specifier_of, bare_member_of, bare_field_of, bare_enumerator_of, bare_parameter_of, qualifier_of, bare_qualifier_of}

pub expressions_items : (n : _) (all : Row_of-Expr n) → bare_list (expressions_of all) ≡ expression_row (map bare_of (items-the_row-Expr n all))
unfolding bare_of
expressions_items n end_of-Expr = refl
expressions_items n (more_of-Expr at k f rest) = ap (MoreExpressions (expression tt k (bare_form (form_of f)))) (expressions_items _ rest)

pub specifiers_items : (n : _) (all : Row_of-Spec n) → bare_specifiers (specifiers_of all) ≡ specifier_row (map bare_specifier_of (items-the_row-Spec n all))
unfolding bare_specifier_of
specifiers_items n end_of-Spec = refl
specifiers_items n (more_of-Spec s rest) = ap (MoreSpecifiers (bare_specifier (specifier_of s))) (specifiers_items _ rest)

pub members_items : (n : _) (all : Row_of-Member n) → bare_members (members_of all) ≡ member_row (map bare_member_of (items-the_row-Member n all))
unfolding bare_member_of
members_items n end_of-Member = refl
members_items n (more_of-Member m rest) = ap (MoreMembers (bare_member (member_of m))) (members_items _ rest)

pub fields_items : (n : _) (all : Row_of-Field n) → bare_fields (fields_of all) ≡ field_row (map bare_field_of (items-the_row-Field n all))
unfolding bare_field_of
fields_items n end_of-Field = refl
fields_items n (more_of-Field f rest) = ap (MoreFields (bare_field (field_of f))) (fields_items _ rest)

pub enumerators_items : (n : _) (all : Row_of-Enumerator n) → bare_enumerators (enumerators_of all) ≡ enumerator_row (map bare_enumerator_of (items-the_row-Enumerator n all))
unfolding bare_enumerator_of
enumerators_items n end_of-Enumerator = refl
enumerators_items n (more_of-Enumerator e rest) = ap (MoreEnumerators (bare_enumerator (enumerator_of e))) (enumerators_items _ rest)

-- of specifiers in a part that is no tree of its own

pub specifiers_row : (ss : List Spec) → bare_specifiers (specifier_row (map specifier_of ss)) ≡ specifier_row (map bare_specifier_of ss)
unfolding bare_specifier_of
specifiers_row [] = refl
specifiers_row (s ∷ ss) = ap (MoreSpecifiers (bare_specifier (specifier_of s))) (specifiers_row ss)

pub specifiers_hidden : (v : Vec Spec Global) → specifiers_of (hidden-the_row-Spec-0 v) ≡ specifiers_in v
specifiers_hidden v = search (rules, the_lemmas, specifiers_listed)

pub parameters_items : (n : _) (all : Row_of-Parameter n) → bare_parameters (parameters_of all) ≡ parameter_row (map bare_parameter_of (items-the_row-Parameter n all))
unfolding bare_parameter_of
parameters_items n end_of-Parameter = refl
parameters_items n (more_of-Parameter at shape specs d rest) =
    ap (λ s. MoreParameters (parameter tt (bare_specifiers s) (bare_declarator (declarator_of d))) (bare_parameters (parameters_of rest))) (specifiers_shown shape specs)
    ∙ ap (MoreParameters (parameter tt (bare_specifiers (specifiers_in (shown-the_row-Spec-0 shape specs))) (bare_declarator (declarator_of d)))) (parameters_items _ rest)

pub qualifiers_items : (qs : List Qualifier) → bare_qualifiers (map qualifier_of qs) ≡ map bare_qualifier_of qs
qualifiers_items [] = refl
qualifiers_items (q ∷ qs) = ap (λ rest. bare_qualifier_of q ∷ rest) (qualifiers_items qs)

-- a cast in boxes
pub cast_tree : (k l : TypeName) (o e : Expr) → k ≡ l → o ≡ e → expression tt 0 (Cast (type_name tt (bare_specifiers (specifiers_of (hidden-the_row-Spec-0 k.specs))) (bare_declarator (declarator_of k.declarator))) (expression tt o.parens (bare_form (form_of o.form)))) ≡ expression tt 0 (Cast (bare_kind_of l) (bare_of e))
unfolding bare_kind_of bare_of
cast_tree k l o e f g =
    ap (λ s. expression tt 0 (Cast (type_name tt (bare_specifiers s) (bare_declarator (declarator_of k.declarator))) (bare (expression_of o)))) (specifiers_hidden k.specs)
    ∙ ap (λ k. expression tt 0 (Cast (bare_type (kind_of k)) (bare (expression_of o)))) f
    ∙ ap (λ o. expression tt 0 (Cast (bare_type (kind_of l)) (bare (expression_of o)))) g
