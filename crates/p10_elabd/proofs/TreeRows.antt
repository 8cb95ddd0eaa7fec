-- Rows of the code's trees as lists, and its trees with rows as the definitions see them.
use Rattle.std.proofs.Common.{◌≡◌, ℕ, suc, ◌+◌, ◌<◌, List, Option, None, Some, Box, Vec, Bool, map, length, refl, ap, sym, ◌∙◌, rules, arith, drop, drop-cons, get_or, add-one}
use Rattle.std.specs.declared.alloc.Global.{Global}
use Rattle.p10_base.specs.declared.at.At.{At}
use Rattle.p10_syn.specs.declared.sign.Sign.{Sign}
use Rattle.p10_syn.specs.declared.tree.Form.TheVariants as form
use Rattle.p10_syn.specs.declared.tree.Declarator.TheVariants as declarator
use Rattle.p10_syn.specs.declared.tree.Declarator.TheViews.{the_lemmas}
use Rattle.p10_syn.specs.declared.tree.Declarator.TheBlock.{shown-the_row-Spec-0}
use Rattle.p10_syn.specs.declared.tree.Structure.{Structure, Structure', out-Structure, Row_of-Member, end_of-Member, more_of-Member, items-the_row-Member}
use Rattle.p10_syn.specs.declared.tree.Enumeration.{Enumeration, Enumeration', out-Enumeration, Row_of-Enumerator, end_of-Enumerator, more_of-Enumerator, items-the_row-Enumerator}
use Rattle.p10_syn.specs.declared.tree.Enumerator.{Enumerator, Enumerator', out-Enumerator}
use Rattle.p10_syn.specs.declared.tree.Member.{Member, Member', out-Member, Row_of-Field, end_of-Field, more_of-Field, items-the_row-Field}
use Rattle.p10_syn.specs.declared.tree.Field.{Field, Field', out-Field}
use Rattle.p10_syn.specs.declared.tree.Declarator.{Declarator, Row_of-Parameter, end_of-Parameter, more_of-Parameter, items-the_row-Parameter}
use Rattle.p10_syn.specs.declared.tree.Parameter.{Parameter}
use Rattle.p10_syn.specs.declared.tree.Spec.{Spec}
use Rattle.p10_syn.specs.declared.tree.Expr.{Expr}
use Rattle.p10_syn.specs.declared.tree.TypeName.{TypeName}
use Rattle.p10_syn.proofs.Rows.{specifiers_listed, specifiers_shown}
use Rattle.p10_syn.specs.Trees.{expression, Binary, Assign, Index, Conditional, Array, Present, Call, Comma, Cast, SizeofType, Function, Structure as Structured, Enumeration as Enumerated, member_declaration, field, enumerator, parameter, expression_row, MoreSpecifiers, MoreMembers, MoreFields, MoreEnumerators, MoreParameters, specifier_row, member_row, field_row, enumerator_row, parameter_row}
use Rattle.p10_syn.specs.Built.{form_of, expression_of, kind_of, identifier_of, tag_of, structure_of, enumeration_of, specifier_of, specifiers_in, members_of, fields_of, enumerators_of, parameters_of, member_of, field_of, enumerator_of, parameter_of, declarator_of}
use Rattle.p10_elabx.proofs.TreeRows.{expressions_listed}
use Rattle.p10_elabd.specs.Views.{optional_boxed}

-- ## Rows

members_listed : (n : _) (all : Row_of-Member n) → members_of all ≡ member_row (map member_of (items-the_row-Member n all))
members_listed n end_of-Member = refl
members_listed n (more_of-Member x rest) = ap (MoreMembers (member_of x)) (members_listed _ rest)

fields_listed : (n : _) (all : Row_of-Field n) → fields_of all ≡ field_row (map field_of (items-the_row-Field n all))
fields_listed n end_of-Field = refl
fields_listed n (more_of-Field x rest) = ap (MoreFields (field_of x)) (fields_listed _ rest)

enumerators_listed : (n : _) (all : Row_of-Enumerator n) → enumerators_of all ≡ enumerator_row (map enumerator_of (items-the_row-Enumerator n all))
enumerators_listed n end_of-Enumerator = refl
enumerators_listed n (more_of-Enumerator x rest) = ap (MoreEnumerators (enumerator_of x)) (enumerators_listed _ rest)

parameters_listed : (n : _) (all : Row_of-Parameter n) → parameters_of all ≡ parameter_row (map parameter_of (items-the_row-Parameter n all))
parameters_listed n end_of-Parameter = refl
parameters_listed n (more_of-Parameter at shape specs d rest) =
    ap (λ s. MoreParameters (parameter at s (declarator_of d)) (parameters_of rest)) (specifiers_shown shape specs)
    ∙ ap (MoreParameters (parameter at (specifiers_in (shown-the_row-Spec-0 shape specs)) (declarator_of d))) (parameters_listed _ rest)

-- ## Trees

pub structure_is : (x : Structure) → structure_of x ≡ Structured (out-Structure x).at (out-Structure x).sign (tag_of (out-Structure x).tag) (member_row (map member_of (out-Structure x).members.items))
structure_is (Structure' at sign tag shape all) = search (rules, the_lemmas, members_listed)

pub enumeration_is : (x : Enumeration) →
    enumeration_of x ≡ Enumerated (out-Enumeration x).at (tag_of (out-Enumeration x).tag) (enumerator_row (map enumerator_of (out-Enumeration x).enumerators.items)) (out-Enumeration x).ends_with_comma
enumeration_is (Enumeration' at tag shape all comma) = search (rules, the_lemmas, enumerators_listed)

pub member_is : (x : Member) →
    member_of x ≡ member_declaration (out-Member x).at (specifier_row (map specifier_of (out-Member x).specs.items)) (field_row (map field_of (out-Member x).fields.items))
member_is (Member' at shape specs shape' fields) = search (rules, the_lemmas, specifiers_listed, fields_listed)

pub field_is : (x : Field) → field_of x ≡ field (out-Field x).at (declarator_of (out-Field x).declarator) (optional_boxed (out-Field x).width)
field_is (Field' at d width) = search (rules, the_lemmas)

pub enumerator_is : (x : Enumerator) → enumerator_of x ≡ enumerator (out-Enumerator x).at (identifier_of (out-Enumerator x).name) (optional_boxed (out-Enumerator x).value)
enumerator_is (Enumerator' at name value) = search (rules, the_lemmas)

pub function_is : (at : At) (d : Box Declarator Global) (parentheses : At) (all : Vec Parameter Global) (more : Bool) →
    declarator_of (declarator.Function at d parentheses all more) ≡ Function at (declarator_of d.value) parentheses (parameter_row (map parameter_of all.items)) more
function_is at d parentheses all more = search (rules, the_lemmas, parameters_listed)

-- ## Expressions by their form

call_is : (f : Box Expr Global) (all : Vec Expr Global) → form_of (form.Call f all) ≡ Call (expression_of f.value) (expression_row (map expression_of all.items))
call_is f all = search (rules, the_lemmas, expressions_listed)

comma_is : (all : Vec Expr Global) → form_of (form.Comma all) ≡ Comma (expression_row (map expression_of all.items))
comma_is all = search (rules, the_lemmas, expressions_listed)

cast_is : (k : Box TypeName Global) (e : Box Expr Global) → form_of (form.Cast k e) ≡ Cast (kind_of k.value) (expression_of e.value)
cast_is k e = search (rules, the_lemmas, specifiers_listed)

sizeof_is : (k : Box TypeName Global) → form_of (form.SizeofType k) ≡ SizeofType (kind_of k.value)
sizeof_is k = search (rules, the_lemmas, specifiers_listed)

pub call_tree : (e : Expr) (f : Box Expr Global) (all : Vec Expr Global) → e.form ≡ form.Call f all →
    expression_of e ≡ expression e.at e.parens (Call (expression_of f.value) (expression_row (map expression_of all.items)))
call_tree e f all is = ap (expression e.at e.parens) (ap form_of is ∙ call_is f all)

pub comma_tree : (e : Expr) (all : Vec Expr Global) → e.form ≡ form.Comma all → expression_of e ≡ expression e.at e.parens (Comma (expression_row (map expression_of all.items)))
comma_tree e all is = ap (expression e.at e.parens) (ap form_of is ∙ comma_is all)

pub cast_tree : (e : Expr) (k : Box TypeName Global) (a : Box Expr Global) → e.form ≡ form.Cast k a →
    expression_of e ≡ expression e.at e.parens (Cast (kind_of k.value) (expression_of a.value))
cast_tree e k a is = ap (expression e.at e.parens) (ap form_of is ∙ cast_is k a)

pub sizeof_tree : (e : Expr) (k : Box TypeName Global) → e.form ≡ form.SizeofType k → expression_of e ≡ expression e.at e.parens (SizeofType (kind_of k.value))
sizeof_tree e k is = ap (expression e.at e.parens) (ap form_of is ∙ sizeof_is k)

binary_is : (w : Sign) (a b : Box Expr Global) → form_of (form.Binary w a b) ≡ Binary w (expression_of a.value) (expression_of b.value)
binary_is w a b = search (rules, the_lemmas)

assign_is : (w : Sign) (a b : Box Expr Global) → form_of (form.Assign w a b) ≡ Assign w (expression_of a.value) (expression_of b.value)
assign_is w a b = search (rules, the_lemmas)

index_is : (a b : Box Expr Global) → form_of (form.Index a b) ≡ Index (expression_of a.value) (expression_of b.value)
index_is a b = search (rules, the_lemmas)

conditional_is : (c a b : Box Expr Global) → form_of (form.Cond c a b) ≡ Conditional (expression_of c.value) (expression_of a.value) (expression_of b.value)
conditional_is c a b = search (rules, the_lemmas)

pub binary_tree : (e : Expr) (w : Sign) (a b : Box Expr Global) → e.form ≡ form.Binary w a b →
    expression_of e ≡ expression e.at e.parens (Binary w (expression_of a.value) (expression_of b.value))
binary_tree e w a b is = ap (expression e.at e.parens) (ap form_of is ∙ binary_is w a b)

pub assign_tree : (e : Expr) (w : Sign) (a b : Box Expr Global) → e.form ≡ form.Assign w a b →
    expression_of e ≡ expression e.at e.parens (Assign w (expression_of a.value) (expression_of b.value))
assign_tree e w a b is = ap (expression e.at e.parens) (ap form_of is ∙ assign_is w a b)

pub index_tree : (e : Expr) (a b : Box Expr Global) → e.form ≡ form.Index a b →
    expression_of e ≡ expression e.at e.parens (Index (expression_of a.value) (expression_of b.value))
index_tree e a b is = ap (expression e.at e.parens) (ap form_of is ∙ index_is a b)

pub conditional_tree : (e : Expr) (c a b : Box Expr Global) → e.form ≡ form.Cond c a b →
    expression_of e ≡ expression e.at e.parens (Conditional (expression_of c.value) (expression_of a.value) (expression_of b.value))
conditional_tree e c a b is = ap (expression e.at e.parens) (ap form_of is ∙ conditional_is c a b)

pub array_is : (at : At) (d : Box Declarator Global) (brackets : At) (e : Box Expr Global) →
    declarator_of (declarator.Array at d brackets (Some e)) ≡ Array at (declarator_of d.value) brackets (Present (expression_of e.value))
array_is at d brackets e = search (rules, the_lemmas)

-- ## One turn of a loop

pub cut_members : (all : List Member) (i : ℕ) (x : Member) → i < length all → x ≡ get_or all i x →
    member_row (map member_of (drop i all)) ≡ MoreMembers (member_of x) (member_row (map member_of (drop (i + 1) all)))
cut_members all i x below is =
    ap (λ es. member_row (map member_of es)) (drop-cons all i x below)
    ∙ ap (λ y. MoreMembers (member_of y) (member_row (map member_of (drop (suc i) all)))) (sym is)
    ∙ ap (λ n. MoreMembers (member_of x) (member_row (map member_of (drop n all)))) (sym (add-one i))

pub cut_fields : (all : List Field) (i : ℕ) (x : Field) → i < length all → x ≡ get_or all i x →
    field_row (map field_of (drop i all)) ≡ MoreFields (field_of x) (field_row (map field_of (drop (i + 1) all)))
cut_fields all i x below is =
    ap (λ es. field_row (map field_of es)) (drop-cons all i x below)
    ∙ ap (λ y. MoreFields (field_of y) (field_row (map field_of (drop (suc i) all)))) (sym is)
    ∙ ap (λ n. MoreFields (field_of x) (field_row (map field_of (drop n all)))) (sym (add-one i))

pub cut_enumerators : (all : List Enumerator) (i : ℕ) (x : Enumerator) → i < length all → x ≡ get_or all i x →
    enumerator_row (map enumerator_of (drop i all)) ≡ MoreEnumerators (enumerator_of x) (enumerator_row (map enumerator_of (drop (i + 1) all)))
cut_enumerators all i x below is =
    ap (λ es. enumerator_row (map enumerator_of es)) (drop-cons all i x below)
    ∙ ap (λ y. MoreEnumerators (enumerator_of y) (enumerator_row (map enumerator_of (drop (suc i) all)))) (sym is)
    ∙ ap (λ n. MoreEnumerators (enumerator_of x) (enumerator_row (map enumerator_of (drop n all)))) (sym (add-one i))
