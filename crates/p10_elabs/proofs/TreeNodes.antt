-- Calls and operands of the comma operator in the code's trees, as the definitions see them.
use Rattle.std.proofs.Common.{◌≡◌, ap, ◌∙◌, map, rules, Vec, Box}
use Rattle.std.specs.declared.alloc.Global.{Global}
use Rattle.p10_syn.specs.declared.tree.Form.TheVariants as form
use Rattle.p10_syn.specs.declared.tree.Declarator.TheViews.{the_lemmas}
use Rattle.p10_syn.specs.declared.tree.Expr.{Expr}
use Rattle.p10_syn.specs.Trees.{expression, Call, Comma, expression_row}
use Rattle.p10_syn.specs.Built.{form_of, expression_of}
use Rattle.p10_elabx.proofs.TreeRows.{expressions_listed}

call_is : (f : Box Expr Global) (all : Vec Expr Global) → form_of (form.Call f all) ≡ Call (expression_of f.value) (expression_row (map expression_of all.items))
call_is f all = search (rules, the_lemmas, expressions_listed)

comma_is : (all : Vec Expr Global) → form_of (form.Comma all) ≡ Comma (expression_row (map expression_of all.items))
comma_is all = search (rules, the_lemmas, expressions_listed)

pub call_tree : (e : Expr) (f : Box Expr Global) (all : Vec Expr Global) → e.form ≡ form.Call f all →
    expression_of e ≡ expression e.at e.parens (Call (expression_of f.value) (expression_row (map expression_of all.items)))
call_tree e f all is = ap (expression e.at e.parens) (ap form_of is ∙ call_is f all)

pub comma_tree : (e : Expr) (all : Vec Expr Global) → e.form ≡ form.Comma all → expression_of e ≡ expression e.at e.parens (Comma (expression_row (map expression_of all.items)))
comma_tree e all is = ap (expression e.at e.parens) (ap form_of is ∙ comma_is all)
