-- Forms of statements of the code, and lists of what stands in their parts.
use Rattle.std.specs.declared.alloc.Global.{Global}
use Rattle.std.proofs.Common.{◌≡◌, ℕ, List, [], ◌∷◌, ◌++◌, Option, Some, None, option_map, Box, refl, sym, ◌∙◌, ap, rules}
use Rattle.std.specs.List.{flat_map}
use Rattle.std.proofs.lemmas.List.{append_assoc, append-nil}
use Rattle.p10_base.specs.declared.at.At.{At}
use Rattle.p10_base.specs.Words.{Text}
use Rattle.p10_core.specs.declared.typed.Value.{Value}
use Rattle.p10_core.specs.declared.statements.LoopHead.{LoopHead}
use Rattle.p10_core.specs.declared.statements.Stmt.{Stmt}
use Rattle.p10_core.specs.declared.statements.StmtForm.TheVariants.{If, Loop}
use Rattle.p10_core.specs.declared.statements.StmtForm.TheViews.{the_lemmas}
use Rattle.p10_core.specs.Typed.{PlainObject, PlainVariable, PlainStatementForm, statement, if_then, if_else, loop}
use Rattle.p10_core.specs.Views.{plain_value, plain_statement, plain_statement_form, plain_statements}
use Rattle.p10_core.proofs.StatementRows.{statements_row-items}
use Rattle.p10_warn.specs.Jumps.{blocks_in, blocks_in_form}
use Rattle.p10_warn.specs.Scopes.{declarations_in, declarations_among, names_after, name_declared, scope_after}
use Rattle.p10_warn.specs.private.Branches.{blocks_in_branch, declarations_in_branch}

if_then_is : (v : Value) (then : Box Stmt Global) → plain_statement_form (If v then None) ≡ if_then (plain_value v) (plain_statement then.value)
if_then_is v then = search (rules, the_lemmas)

if_else_is : (v : Value) (then otherwise : Box Stmt Global) → plain_statement_form (If v then (Some otherwise)) ≡ if_else (plain_value v) (plain_statement then.value) (plain_statement otherwise.value)
if_else_is v then otherwise = search (rules, the_lemmas)

loop_is : (head : LoopHead) (first : List Stmt) (test : Option Value) (third : List Stmt) (body : Box Stmt Global) →
    plain_statement_form (Loop head first test third body) ≡ loop head (plain_statements first) (option_map plain_value test) (plain_statements third) (plain_statement body.value)
loop_is head first test third body = search (rules, the_lemmas, statements_row-items)

pub flat_map_append : {A B : Type 0} (f : A → List B) (xs ys : List A) → flat_map f (xs ++ ys) ≡ flat_map f xs ++ flat_map f ys
flat_map_append f [] ys = refl
flat_map_append f (x ∷ xs) ys = ap (λ zs. f x ++ zs) (flat_map_append f xs ys) ∙ sym (append_assoc (f x) (flat_map f xs) (flat_map f ys))

-- what is listed by one part and then by another is listed by both
pub both_listed : {A B : Type 0} (f : A → List B) (xs ys all : List A) (first mid new : List B) → mid ≡ first ++ flat_map f xs → new ≡ mid ++ flat_map f ys → xs ++ ys ≡ all → new ≡ first ++ flat_map f all
both_listed f xs ys all first mid new one other is =
    other ∙ ap (λ zs. zs ++ flat_map f ys) one ∙ append_assoc first (flat_map f xs) (flat_map f ys)
    ∙ ap (λ zs. first ++ zs) (sym (flat_map_append f xs ys)) ∙ ap (λ zs. first ++ flat_map f zs) is

-- ## Both branches of an `if`

pub blocks_in_both : (labelled : List ℕ) (v : Value) (then : Box Stmt Global) (other : Option (Box Stmt Global)) →
    blocks_in [] (plain_statement then.value) ++ blocks_in_branch (option_map (λ b. plain_statement b.value) other) ≡ blocks_in_form labelled (plain_statement_form (If v then other))
blocks_in_both labelled v then None = append-nil (blocks_in [] (plain_statement then.value)) ∙ sym (ap (blocks_in_form labelled) (if_then_is v then))
blocks_in_both labelled v then (Some otherwise) = sym (ap (blocks_in_form labelled) (if_else_is v then otherwise))

pub declarations_in_both : (objects : List PlainObject) (variables : List PlainVariable) (around : List Text) (at : At) (v : Value) (then : Box Stmt Global) (other : Option (Box Stmt Global)) →
    declarations_in objects variables around (plain_statement then.value) ++ declarations_in_branch objects variables around (option_map (λ b. plain_statement b.value) other)
    ≡ declarations_in objects variables around (statement at (plain_statement_form (If v then other)))
declarations_in_both objects variables around at v then None =
    append-nil (declarations_in objects variables around (plain_statement then.value)) ∙ sym (ap (λ f. declarations_in objects variables around (statement at f)) (if_then_is v then))
declarations_in_both objects variables around at v then (Some otherwise) = sym (ap (λ f. declarations_in objects variables around (statement at f)) (if_else_is v then otherwise))

-- ## A loop

pub declarations_in_loop : (objects : List PlainObject) (variables : List PlainVariable) (around : List Text) (at : At) (head : LoopHead) (first : List Stmt) (test : Option Value) (third : List Stmt) (body : Box Stmt Global) →
    declarations_among objects variables around (plain_statements first) ++ declarations_in objects variables (names_after objects variables around (plain_statements first)) (plain_statement body.value)
    ≡ declarations_in objects variables around (statement at (plain_statement_form (Loop head first test third body)))
declarations_in_loop objects variables around at head first test third body =
    sym (ap (λ f. declarations_in objects variables around (statement at f)) (loop_is head first test third body))

-- a loop declares nothing around it
pub nothing_declared : (objects : List PlainObject) (variables : List PlainVariable) (around : List Text) (at : At) (head : LoopHead) (first : List Stmt) (test : Option Value) (third : List Stmt) (body : Box Stmt Global) (f : PlainStatementForm) →
    f ≡ plain_statement_form (Loop head first test third body) → scope_after around (name_declared objects variables (statement at f)) ≡ around
nothing_declared objects variables around at head first test third body f is =
    ap (λ g. scope_after around (name_declared objects variables (statement at g))) (is ∙ loop_is head first test third body)
