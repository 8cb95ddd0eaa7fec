-- Rows of statements and initialisers as lists, and parts that may be left out.
use Rattle.std.proofs.Common.{◌≡◌, List, [], ◌∷◌, map, refl, ap, ◌∙◌, Option, Some, None}
use Rattle.p10_syn.specs.declared.tree.Expr.{Expr}
use Rattle.p10_syn.specs.declared.statement.Init.{Init, Row_of-Init, end_of-Init, more_of-Init, items-the_row-Init}
use Rattle.p10_syn.specs.declared.statement.InitDeclarator.{InitDeclarator}
use Rattle.p10_syn.specs.declared.statement.Stmt.{Stmt, Row_of-Stmt, end_of-Stmt, more_of-Stmt, items-the_row-Stmt}
use Rattle.p10_base.specs.Words.{Text}
use Rattle.p10_syn.specs.Trees.{If, IfElse, Switch, While, Do, For, Case, Default, Label, MoreInitializers, MoreStatements, initializer_row, statement_row}
use Rattle.p10_syn.specs.Bare.{bare_optional, bare_initializer, bare_initializers, bare_initial, bare_init_declarators, bare_statement, bare_statements, bare}
use Rattle.p10_syn.specs.Built.{expression_of, bare_of, bare_optional_of, named}
use Rattle.p10_syn.specs.BuiltStatements.{optional_expression, initializer_of, initializers_of, initial_of, init_declarator_of, statement_of, statements_of, bare_initializer_of, bare_init_declarator_of, bare_statement_of, bare_initial_of}

pub initializers_items : (n : _) (all : Row_of-Init n) → bare_initializers (initializers_of all) ≡ initializer_row (map bare_initializer_of (items-the_row-Init n all))
unfolding bare_initializer_of
initializers_items n end_of-Init = refl
initializers_items n (more_of-Init i rest) = ap (MoreInitializers (bare_initializer (initializer_of i))) (initializers_items _ rest)

pub statements_items : (n : _) (all : Row_of-Stmt n) → bare_statements (statements_of all) ≡ statement_row (map bare_statement_of (items-the_row-Stmt n all))
unfolding bare_statement_of
statements_items n end_of-Stmt = refl
statements_items n (more_of-Stmt s rest) = ap (MoreStatements (bare_statement (statement_of s))) (statements_items _ rest)

pub statements_row : (ss : List Stmt) → bare_statements (statement_row (map statement_of ss)) ≡ statement_row (map bare_statement_of ss)
unfolding bare_statement_of
statements_row [] = refl
statements_row (s ∷ ss) = ap (MoreStatements (bare_statement (statement_of s))) (statements_row ss)

pub init_declarators_row : (ds : List InitDeclarator) → bare_init_declarators (map init_declarator_of ds) ≡ map bare_init_declarator_of ds
unfolding bare_init_declarator_of
init_declarators_row [] = refl
init_declarators_row (d ∷ ds) = ap (λ xs. bare_init_declarator_of d ∷ xs) (init_declarators_row ds)

pub optional_is : (t : Option Expr) → bare_optional (optional_expression t) ≡ bare_optional_of t
unfolding bare_of
optional_is None = refl
optional_is (Some e) = refl

pub initial_is : (i : Option Init) → bare_initial (initial_of i) ≡ bare_initial_of i
unfolding bare_initializer_of
initial_is None = refl
initial_is (Some i) = refl

-- ## Statements in boxes

pub if_tree : (e : Expr) (s t : Stmt) → s ≡ t → If tt (bare (expression_of e)) (bare_statement (statement_of s)) ≡ If tt (bare_of e) (bare_statement_of t)
unfolding bare_of bare_statement_of
if_tree e s t f = ap (λ s. If tt (bare (expression_of e)) (bare_statement (statement_of s))) f

pub if_else_tree : (e : Expr) (s t u v : Stmt) → s ≡ t → u ≡ v → IfElse tt (bare (expression_of e)) (bare_statement (statement_of s)) (bare_statement (statement_of u)) ≡ IfElse tt (bare_of e) (bare_statement_of t) (bare_statement_of v)
unfolding bare_of bare_statement_of
if_else_tree e s t u v f g =
    ap (λ s. IfElse tt (bare (expression_of e)) (bare_statement (statement_of s)) (bare_statement (statement_of u))) f
    ∙ ap (λ u. IfElse tt (bare (expression_of e)) (bare_statement (statement_of t)) (bare_statement (statement_of u))) g

pub switch_tree : (e : Expr) (s t : Stmt) → s ≡ t → Switch tt tt (bare (expression_of e)) (bare_statement (statement_of s)) ≡ Switch tt tt (bare_of e) (bare_statement_of t)
unfolding bare_of bare_statement_of
switch_tree e s t f = ap (λ s. Switch tt tt (bare (expression_of e)) (bare_statement (statement_of s))) f

pub while_tree : (e : Expr) (s t : Stmt) → s ≡ t → While tt tt (bare (expression_of e)) (bare_statement (statement_of s)) ≡ While tt tt (bare_of e) (bare_statement_of t)
unfolding bare_of bare_statement_of
while_tree e s t f = ap (λ s. While tt tt (bare (expression_of e)) (bare_statement (statement_of s))) f

pub label_tree : (x : Text) (s t : Stmt) → s ≡ t → Label tt (named x) (bare_statement (statement_of s)) ≡ Label tt (named x) (bare_statement_of t)
unfolding bare_statement_of
label_tree x s t f = ap (λ s. Label tt (named x) (bare_statement (statement_of s))) f

pub for_tree : (s t : Stmt) (x y : Option Expr) (b c : Stmt) → s ≡ t → b ≡ c → For tt tt (bare_statement (statement_of s)) (bare_optional (optional_expression x)) (bare_optional (optional_expression y)) (bare_statement (statement_of b)) ≡ For tt tt (bare_statement_of t) (bare_optional_of x) (bare_optional_of y) (bare_statement_of c)
unfolding bare_statement_of
for_tree s t x y b c f g =
    ap (λ s. For tt tt (bare_statement (statement_of s)) (bare_optional (optional_expression x)) (bare_optional (optional_expression y)) (bare_statement (statement_of b))) f
    ∙ ap (λ o. For tt tt (bare_statement (statement_of t)) o (bare_optional (optional_expression y)) (bare_statement (statement_of b))) (optional_is x)
    ∙ ap (λ o. For tt tt (bare_statement (statement_of t)) (bare_optional_of x) o (bare_statement (statement_of b))) (optional_is y)
    ∙ ap (λ b. For tt tt (bare_statement (statement_of t)) (bare_optional_of x) (bare_optional_of y) (bare_statement (statement_of b))) g

pub do_tree : (e : Expr) (s t : Stmt) → s ≡ t → Do tt tt (bare_statement (statement_of s)) (bare (expression_of e)) ≡ Do tt tt (bare_statement_of t) (bare_of e)
unfolding bare_of bare_statement_of
do_tree e s t f = ap (λ s. Do tt tt (bare_statement (statement_of s)) (bare (expression_of e))) f

pub case_tree : (e : Expr) (s t : Stmt) → s ≡ t → Case tt (bare (expression_of e)) (bare_statement (statement_of s)) ≡ Case tt (bare_of e) (bare_statement_of t)
unfolding bare_of bare_statement_of
case_tree e s t f = ap (λ s. Case tt (bare (expression_of e)) (bare_statement (statement_of s))) f

pub default_tree : (s t : Stmt) → s ≡ t → Default tt (bare_statement (statement_of s)) ≡ Default tt (bare_statement_of t)
unfolding bare_statement_of
default_tree s t f = ap (λ s. Default tt (bare_statement (statement_of s))) f
