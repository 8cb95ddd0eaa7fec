-- Nodes with lists of the code's trees, as the definitions see them.
use Rattle.std.proofs.Common.{◌≡◌, map, refl, ap, ◌∙◌, rules, Bool, Vec, Box}
use Rattle.std.specs.declared.alloc.Global.{Global}
use Rattle.p10_base.specs.declared.at.At.{At}
use Rattle.p10_syn.specs.declared.tree.Form.TheVariants as form
use Rattle.p10_syn.specs.declared.tree.Declarator.TheVariants as declarator
use Rattle.p10_syn.specs.declared.statement.Init.TheVariants as init
use Rattle.p10_syn.specs.declared.statement.Stmt.TheVariants as stmt
use Rattle.p10_syn.specs.declared.statement.Init.TheViews.{the_lemmas as init_lemmas}
use Rattle.p10_syn.specs.declared.statement.Stmt.TheViews.{the_lemmas as stmt_lemmas}
use Rattle.p10_syn.specs.declared.tree.Declarator.TheBlock.{shown-the_row-Spec-0}
use Rattle.p10_syn.specs.declared.tree.Expr.{Expr}
use Rattle.p10_syn.specs.declared.tree.TypeName.{TypeName}
use Rattle.p10_syn.specs.declared.tree.Structure.{Structure, Structure', out-Structure}
use Rattle.p10_syn.specs.declared.tree.Enumeration.{Enumeration, Enumeration', out-Enumeration}
use Rattle.p10_syn.specs.declared.tree.Member.{Member, Member', out-Member}
use Rattle.p10_syn.specs.declared.tree.Declarator.{Declarator}
use Rattle.p10_syn.specs.declared.tree.Parameter.{Parameter}
use Rattle.p10_syn.specs.declared.statement.Init.{Init}
use Rattle.p10_syn.specs.declared.statement.Stmt.{Stmt}
use Rattle.p10_syn.proofs.Rows.{specifiers_listed, specifiers_shown}
use Rattle.p10_syn.specs.declared.tree.Form.{Row_of-Expr, end_of-Expr, more_of-Expr, items-the_row-Expr}
use Rattle.p10_syn.specs.declared.tree.Structure.{Row_of-Member, end_of-Member, more_of-Member, items-the_row-Member}
use Rattle.p10_syn.specs.declared.tree.Member.{Row_of-Field, end_of-Field, more_of-Field, items-the_row-Field}
use Rattle.p10_syn.specs.declared.tree.Enumeration.{Row_of-Enumerator, end_of-Enumerator, more_of-Enumerator, items-the_row-Enumerator}
use Rattle.p10_syn.specs.declared.statement.Init.{Row_of-Init, end_of-Init, more_of-Init, items-the_row-Init}
use Rattle.p10_syn.specs.declared.statement.Stmt.{Row_of-Stmt, end_of-Stmt, more_of-Stmt, items-the_row-Stmt}
use Rattle.p10_syn.specs.declared.tree.Declarator.{Row_of-Parameter, end_of-Parameter, more_of-Parameter, items-the_row-Parameter}
use Rattle.p10_syn.specs.declared.tree.Declarator.TheViews.{the_lemmas}
use Rattle.p10_syn.specs.Trees.{expression, parameter, Braced, Block, Call, Comma, Cast, SizeofType, Function, Structure as Structured, Enumeration as Enumerated, member_declaration, MoreExpressions, MoreMembers, MoreFields, MoreEnumerators, MoreInitializers, MoreStatements, MoreParameters, expression_row, member_row, field_row, enumerator_row, initializer_row, statement_row, parameter_row}
use Rattle.p10_syn.specs.Built.{form_of, kind_of, tag_of, structure_of, enumeration_of, specifiers_in, expressions_of, members_of, fields_of, enumerators_of, parameters_of, expression_of, member_of, field_of, enumerator_of, parameter_of, declarator_of}
use Rattle.p10_syn.specs.BuiltStatements.{initializers_of, initializer_of, statements_of, statement_of}

-- ## Rows

expressions_listed : (n : _) (all : Row_of-Expr n) → expressions_of all ≡ expression_row (map expression_of (items-the_row-Expr n all))
expressions_listed n end_of-Expr = refl
expressions_listed n (more_of-Expr at k f rest) = ap (MoreExpressions (expression at k (form_of f))) (expressions_listed _ rest)

members_listed : (n : _) (all : Row_of-Member n) → members_of all ≡ member_row (map member_of (items-the_row-Member n all))
members_listed n end_of-Member = refl
members_listed n (more_of-Member x rest) = ap (MoreMembers (member_of x)) (members_listed _ rest)

fields_listed : (n : _) (all : Row_of-Field n) → fields_of all ≡ field_row (map field_of (items-the_row-Field n all))
fields_listed n end_of-Field = refl
fields_listed n (more_of-Field x rest) = ap (MoreFields (field_of x)) (fields_listed _ rest)

enumerators_listed : (n : _) (all : Row_of-Enumerator n) → enumerators_of all ≡ enumerator_row (map enumerator_of (items-the_row-Enumerator n all))
enumerators_listed n end_of-Enumerator = refl
enumerators_listed n (more_of-Enumerator x rest) = ap (MoreEnumerators (enumerator_of x)) (enumerators_listed _ rest)

initializers_listed : (n : _) (all : Row_of-Init n) → initializers_of all ≡ initializer_row (map initializer_of (items-the_row-Init n all))
initializers_listed n end_of-Init = refl
initializers_listed n (more_of-Init x rest) = ap (MoreInitializers (initializer_of x)) (initializers_listed _ rest)

statements_listed : (n : _) (all : Row_of-Stmt n) → statements_of all ≡ statement_row (map statement_of (items-the_row-Stmt n all))
statements_listed n end_of-Stmt = refl
statements_listed n (more_of-Stmt x rest) = ap (MoreStatements (statement_of x)) (statements_listed _ rest)

parameters_listed : (n : _) (all : Row_of-Parameter n) → parameters_of all ≡ parameter_row (map parameter_of (items-the_row-Parameter n all))
parameters_listed n end_of-Parameter = refl
parameters_listed n (more_of-Parameter at shape specs d rest) =
    ap (λ s. MoreParameters (parameter at s (declarator_of d)) (parameters_of rest)) (specifiers_shown shape specs)
    ∙ ap (MoreParameters (parameter at (specifiers_in (shown-the_row-Spec-0 shape specs)) (declarator_of d))) (parameters_listed _ rest)

-- ## Nodes

pub braced_is : (at : At) (all : Vec Init Global) (comma : Bool) → initializer_of (init.Braced at all comma) ≡ Braced at (initializer_row (map initializer_of all.items)) comma
braced_is at all comma = search (rules, init_lemmas, initializers_listed)

pub block_is : (at : At) (all : Vec Stmt Global) → statement_of (stmt.Block at all) ≡ Block at (statement_row (map statement_of all.items))
block_is at all = search (rules, stmt_lemmas, statements_listed)

pub call_is : (f : Box Expr Global) (all : Vec Expr Global) → form_of (form.Call f all) ≡ Call (expression_of f.value) (expression_row (map expression_of all.items))
call_is f all = search (rules, the_lemmas, expressions_listed)

pub comma_is : (all : Vec Expr Global) → form_of (form.Comma all) ≡ Comma (expression_row (map expression_of all.items))
comma_is all = search (rules, the_lemmas, expressions_listed)

pub cast_is : (k : Box TypeName Global) (e : Box Expr Global) → form_of (form.Cast k e) ≡ Cast (kind_of k.value) (expression_of e.value)
cast_is k e = search (rules, the_lemmas, specifiers_listed)

pub sizeof_is : (k : Box TypeName Global) → form_of (form.SizeofType k) ≡ SizeofType (kind_of k.value)
sizeof_is k = search (rules, the_lemmas, specifiers_listed)

pub function_is : (at : At) (d : Box Declarator Global) (b : At) (all : Vec Parameter Global) (ellipsis : Bool) → declarator_of (declarator.Function at d b all ellipsis) ≡ Function at (declarator_of d.value) b (parameter_row (map parameter_of all.items)) ellipsis
function_is at d b all ellipsis = search (rules, the_lemmas, parameters_listed)

pub structure_is : (x : Structure) → structure_of x ≡ Structured (out-Structure x).at (out-Structure x).sign (tag_of (out-Structure x).tag) (member_row (map member_of (out-Structure x).members.items))
structure_is (Structure' at sign tag shape all) = search (rules, the_lemmas, members_listed)

pub enumeration_is : (x : Enumeration) → enumeration_of x ≡ Enumerated (out-Enumeration x).at (tag_of (out-Enumeration x).tag) (enumerator_row (map enumerator_of (out-Enumeration x).enumerators.items)) (out-Enumeration x).ends_with_comma
enumeration_is (Enumeration' at tag shape all comma) = search (rules, the_lemmas, enumerators_listed)

pub member_is : (x : Member) → member_of x ≡ member_declaration (out-Member x).at (specifiers_in (out-Member x).specs) (field_row (map field_of (out-Member x).fields.items))
member_is (Member' at shape specs shape' fields) = search (rules, the_lemmas, specifiers_listed, fields_listed)
