-- Statements of the code's tree, as the definitions see them.
use Rattle.std.specs.Prelude.{◌≡◌, Option, List, Vec, map}
use Rattle.std.specs.declared.alloc.Global.{Global}
use Rattle.std.proofs.Common.{◌∙◌, ap, sym, rules, Box}
use Rattle.p10_base.specs.declared.at.At.{At}
use Rattle.p10_syn.specs.declared.tree.Expr.{Expr}
use Rattle.p10_syn.specs.declared.statement.Stmt.TheVariants as stmt
use Rattle.p10_syn.specs.declared.statement.Stmt.TheViews.{the_lemmas}
use Rattle.p10_syn.specs.declared.statement.Stmt.{Stmt}
use Rattle.p10_syn.specs.Trees.{Statement, Block, If, IfElse, Switch, While, Do, For, Case, Default, Label, statement_row}
use Rattle.p10_syn.specs.declared.tree.Identifier.{Identifier as Name}
use Rattle.p10_syn.specs.Built.{identifier_of, expression_of}
use Rattle.p10_syn.specs.BuiltStatements.{optional_expression, statement_of}
use Rattle.p10_heads.proofs.ListRows.{block_is}

-- what is so at the tree that a statement is
pub at_tree : {A : Type 0} (go : Statement At → A) (x : A) (s t : Stmt) → s ≡ t → x ≡ go (statement_of t) → x ≡ go (statement_of s)
at_tree go x s t is e = e ∙ ap (λ y. go (statement_of y)) (sym is)

-- statements in braces
pub at_block : {A : Type 0} (go : Statement At → A) (x : A) (s : Stmt) (at : At) (all : Vec Stmt Global) (items : List Stmt) → s ≡ stmt.Block at all → items ≡ all.items →
    x ≡ go (Block at (statement_row (map statement_of items))) → x ≡ go (statement_of s)
at_block go x s at all items is listed e =
    e ∙ ap (λ xs. go (Block at (statement_row (map statement_of xs)))) listed ∙ ap go (sym (ap statement_of is ∙ block_is at all))

if_else_is : (at : At) (e : Expr) (a b : Box Stmt Global) → statement_of (stmt.IfElse at e a b) ≡ IfElse at (expression_of e) (statement_of a.value) (statement_of b.value)
if_else_is at e a b = search (rules, the_lemmas)

while_is : (at k : At) (e : Expr) (a : Box Stmt Global) → statement_of (stmt.While at k e a) ≡ While at k (expression_of e) (statement_of a.value)
while_is at k e a = search (rules, the_lemmas)

pub for_is : (at k : At) (start : Box Stmt Global) (test step : Option Expr) (a : Box Stmt Global) →
    statement_of (stmt.For at k start test step a) ≡ For at k (statement_of start.value) (optional_expression test) (optional_expression step) (statement_of a.value)
for_is at k start test step a = search (rules, the_lemmas)

-- `if` with `else`
pub at_if_else : {A : Type 0} (go : Statement At → A) (x : A) (s : Stmt) (at : At) (e : Expr) (a b : Box Stmt Global) (first second : Stmt) → s ≡ stmt.IfElse at e a b → first ≡ a.value → second ≡ b.value →
    x ≡ go (IfElse at (expression_of e) (statement_of first) (statement_of second)) → x ≡ go (statement_of s)
at_if_else go x s at e a b first second is one two holds =
    holds ∙ ap (λ y. go (IfElse at (expression_of e) (statement_of y) (statement_of second))) one
    ∙ ap (λ y. go (IfElse at (expression_of e) (statement_of a.value) (statement_of y))) two ∙ ap go (sym (ap statement_of is ∙ if_else_is at e a b))

-- `while`
pub at_while : {A : Type 0} (go : Statement At → A) (x : A) (s : Stmt) (at k : At) (e : Expr) (a : Box Stmt Global) (body : Stmt) → s ≡ stmt.While at k e a → body ≡ a.value →
    x ≡ go (While at k (expression_of e) (statement_of body)) → x ≡ go (statement_of s)
at_while go x s at k e a body is one holds =
    holds ∙ ap (λ y. go (While at k (expression_of e) (statement_of y))) one ∙ ap go (sym (ap statement_of is ∙ while_is at k e a))

-- `for`
pub at_for : {A : Type 0} (go : Statement At → A) (x : A) (s : Stmt) (at k : At) (start : Box Stmt Global) (test step : Option Expr) (a : Box Stmt Global) (first body : Stmt) →
    s ≡ stmt.For at k start test step a → first ≡ start.value → body ≡ a.value →
    x ≡ go (For at k (statement_of first) (optional_expression test) (optional_expression step) (statement_of body)) → x ≡ go (statement_of s)
at_for go x s at k start test step a first body is one two holds =
    holds ∙ ap (λ y. go (For at k (statement_of y) (optional_expression test) (optional_expression step) (statement_of body))) one
    ∙ ap (λ y. go (For at k (statement_of start.value) (optional_expression test) (optional_expression step) (statement_of y))) two
    ∙ ap go (sym (ap statement_of is ∙ for_is at k start test step a))

-- ## Statements with one part

if_is : (at : At) (e : Expr) (a : Box Stmt Global) → statement_of (stmt.If at e a) ≡ If at (expression_of e) (statement_of a.value)
if_is at e a = search (rules, the_lemmas)

switch_is : (at k : At) (e : Expr) (a : Box Stmt Global) → statement_of (stmt.Switch at k e a) ≡ Switch at k (expression_of e) (statement_of a.value)
switch_is at k e a = search (rules, the_lemmas)

do_is : (at k : At) (a : Box Stmt Global) (e : Expr) → statement_of (stmt.Do at k a e) ≡ Do at k (statement_of a.value) (expression_of e)
do_is at k a e = search (rules, the_lemmas)

case_is : (at : At) (e : Expr) (a : Box Stmt Global) → statement_of (stmt.Case at e a) ≡ Case at (expression_of e) (statement_of a.value)
case_is at e a = search (rules, the_lemmas)

default_is : (at : At) (a : Box Stmt Global) → statement_of (stmt.Default at a) ≡ Default at (statement_of a.value)
default_is at a = search (rules, the_lemmas)

label_is : (at : At) (name : Name) (a : Box Stmt Global) → statement_of (stmt.Label at name a) ≡ Label at (identifier_of name) (statement_of a.value)
label_is at name a = search (rules, the_lemmas)

-- what is so at a statement with one part, by its part
at_part : {A : Type 0} (go make : Statement At → A) (x : A) (s : Statement At) (a : Box Stmt Global) (body : Stmt) → go s ≡ make (statement_of a.value) → body ≡ a.value → x ≡ make (statement_of body) → x ≡ go s
at_part go make x s a body is one holds = holds ∙ ap (λ y. make (statement_of y)) one ∙ sym is

pub at_if : {A : Type 0} (go : Statement At → A) (x : A) (s : Stmt) (at : At) (e : Expr) (a : Box Stmt Global) (body : Stmt) → s ≡ stmt.If at e a → body ≡ a.value →
    x ≡ go (If at (expression_of e) (statement_of body)) → x ≡ go (statement_of s)
at_if go x s at e a body is = at_part go (λ y. go (If at (expression_of e) y)) x (statement_of s) a body (ap go (ap statement_of is ∙ if_is at e a))

pub at_switch : {A : Type 0} (go : Statement At → A) (x : A) (s : Stmt) (at k : At) (e : Expr) (a : Box Stmt Global) (body : Stmt) → s ≡ stmt.Switch at k e a → body ≡ a.value →
    x ≡ go (Switch at k (expression_of e) (statement_of body)) → x ≡ go (statement_of s)
at_switch go x s at k e a body is = at_part go (λ y. go (Switch at k (expression_of e) y)) x (statement_of s) a body (ap go (ap statement_of is ∙ switch_is at k e a))

pub at_do : {A : Type 0} (go : Statement At → A) (x : A) (s : Stmt) (at k : At) (a : Box Stmt Global) (e : Expr) (body : Stmt) → s ≡ stmt.Do at k a e → body ≡ a.value →
    x ≡ go (Do at k (statement_of body) (expression_of e)) → x ≡ go (statement_of s)
at_do go x s at k a e body is = at_part go (λ y. go (Do at k y (expression_of e))) x (statement_of s) a body (ap go (ap statement_of is ∙ do_is at k a e))

pub at_case : {A : Type 0} (go : Statement At → A) (x : A) (s : Stmt) (at : At) (e : Expr) (a : Box Stmt Global) (body : Stmt) → s ≡ stmt.Case at e a → body ≡ a.value →
    x ≡ go (Case at (expression_of e) (statement_of body)) → x ≡ go (statement_of s)
at_case go x s at e a body is = at_part go (λ y. go (Case at (expression_of e) y)) x (statement_of s) a body (ap go (ap statement_of is ∙ case_is at e a))

pub at_default : {A : Type 0} (go : Statement At → A) (x : A) (s : Stmt) (at : At) (a : Box Stmt Global) (body : Stmt) → s ≡ stmt.Default at a → body ≡ a.value →
    x ≡ go (Default at (statement_of body)) → x ≡ go (statement_of s)
at_default go x s at a body is = at_part go (λ y. go (Default at y)) x (statement_of s) a body (ap go (ap statement_of is ∙ default_is at a))

pub at_label : {A : Type 0} (go : Statement At → A) (x : A) (s : Stmt) (at : At) (name : Name) (a : Box Stmt Global) (body : Stmt) → s ≡ stmt.Label at name a → body ≡ a.value →
    x ≡ go (Label at (identifier_of name) (statement_of body)) → x ≡ go (statement_of s)
at_label go x s at name a body is = at_part go (λ y. go (Label at (identifier_of name) y)) x (statement_of s) a body (ap go (ap statement_of is ∙ label_is at name a))
