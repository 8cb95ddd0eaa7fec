-- The loops in the parts of a statement, with their claims.
use Rattle.std.specs.declared.alloc.Global.{Global}
use Rattle.std.proofs.Common.{◌≡◌, ◌∙◌, ℕ, List, ◌++◌, map, drop, Option, Some, None, option_map, Result, IfOk, Box, subst, sym, ap, rules}
use Rattle.std.proofs.lemmas.List.{append-nil}
use Rattle.p10_core.specs.declared.typed.Value.{Value}
use Rattle.p10_core.specs.declared.statements.LoopHead.{LoopHead}
use Rattle.p10_core.specs.declared.statements.Stmt.{Stmt}
use Rattle.p10_core.specs.declared.statements.StmtForm.{StmtForm}
use Rattle.p10_core.specs.declared.statements.StmtForm.TheVariants.{Block, If, Loop as LoopForm}
use Rattle.p10_core.specs.declared.statements.StmtForm.TheViews.{the_lemmas}
use Rattle.p10_core.specs.Typed.{PlainFunction, if_then, if_else, loop}
use Rattle.p10_core.specs.Views.{plain_value, plain_statement, plain_statement_form, plain_statements}
use Rattle.p10_core.proofs.StatementRows.{plain_block, statements_row-items}
use Rattle.p10_cert.specs.declared.claims.LoopClaim.{LoopClaim}
use Rattle.p10_cert.specs.Claims.{Loop, loop_of}
use Rattle.p10_fit.specs.Sites.{LoopSite, loop_sites_in, loop_sites_in_form, loop_sites_of, in_scope_after_all}
use Rattle.p10_fit.specs.private.Following.{claims_after, loop_sites_in_maybe, sites_with}
use Rattle.p10_fit.proofs.Consuming.{then_after, after_both}

-- ## Forms of statements

if_then_is : (v : Value) (then : Box Stmt Global) → plain_statement_form (If v then None) ≡ if_then (plain_value v) (plain_statement then.value)
if_then_is v then = search (rules, the_lemmas)

if_else_is : (v : Value) (then other : Box Stmt Global) → plain_statement_form (If v then (Some other)) ≡ if_else (plain_value v) (plain_statement then.value) (plain_statement other.value)
if_else_is v then other = search (rules, the_lemmas)

loop_is : (head : LoopHead) (first : List Stmt) (test : Option Value) (third : List Stmt) (body : Box Stmt Global)
    → plain_statement_form (LoopForm head first test third body) ≡ loop head (plain_statements first) (option_map plain_value test) (plain_statements third) (plain_statement body.value)
loop_is head first test third body = search (rules, the_lemmas, statements_row-items)

-- ## Loops in them

-- the loops in a block
pub sites_block : (depth : ℕ) (scope : List ℕ) (form : StmtForm) (items all : List Stmt) → form ≡ Block items → all ≡ items
    → loop_sites_of depth scope (plain_statements all) ≡ loop_sites_in_form depth scope (plain_statement_form form)
sites_block depth scope form items all is same =
    ap (λ ss. loop_sites_of depth scope (plain_statements ss)) same ∙ ap (loop_sites_in_form depth scope) (sym (ap plain_statement_form is ∙ plain_block items))

sites_branches : (depth : ℕ) (scope : List ℕ) (v : Value) (then : Box Stmt Global) (other : Option (Box Stmt Global))
    → loop_sites_in_form depth scope (plain_statement_form (If v then other)) ≡ loop_sites_in depth scope (plain_statement then.value) ++ loop_sites_in_maybe depth scope (option_map (λ x. plain_statement x.value) other)
sites_branches depth scope v then None = ap (loop_sites_in_form depth scope) (if_then_is v then) ∙ sym (append-nil (loop_sites_in depth scope (plain_statement then.value)))
sites_branches depth scope v then (Some other) = ap (loop_sites_in_form depth scope) (if_else_is v then other)

-- the loops in an `if`
pub sites_if : (depth : ℕ) (scope : List ℕ) (form : StmtForm) (v : Value) (then : Box Stmt Global) (other : Option (Box Stmt Global)) (there : Stmt) → form ≡ If v then other → there ≡ then.value
    → loop_sites_in_form depth scope (plain_statement_form form) ≡ loop_sites_in depth scope (plain_statement there) ++ loop_sites_in_maybe depth scope (option_map (λ x. plain_statement x.value) other)
sites_if depth scope form v then other there is same =
    ap (λ f. loop_sites_in_form depth scope (plain_statement_form f)) is ∙ sites_branches depth scope v then other
    ∙ ap (λ s. loop_sites_in depth scope (plain_statement s) ++ loop_sites_in_maybe depth scope (option_map (λ x. plain_statement x.value) other)) (sym same)

-- a loop, and the loops in it
pub sites_loop : (depth : ℕ) (scope : List ℕ) (form : StmtForm) (head : LoopHead) (first : List Stmt) (test : Option Value) (third : List Stmt) (body : Box Stmt Global) (firsts : List Stmt) (there : Stmt)
    → form ≡ LoopForm head first test third body → firsts ≡ first → there ≡ body.value
    → sites_with depth head (in_scope_after_all scope (plain_statements firsts)) (plain_statement there) ≡ loop_sites_in_form depth scope (plain_statement_form form)
sites_loop depth scope form head first test third body firsts there is same inside =
    ap (λ ss. sites_with depth head (in_scope_after_all scope (plain_statements ss)) (plain_statement there)) same
    ∙ ap (λ s. sites_with depth head (in_scope_after_all scope (plain_statements first)) (plain_statement s)) inside
    ∙ ap (loop_sites_in_form depth scope) (sym (ap plain_statement_form is ∙ loop_is head first test third body))

-- ## Their claims

-- what is known of the claims after loops holds of the same loops
pub follows_as : {E : Type 0} (f : PlainFunction) (task : Option ℕ) (r : Result (Option ℕ) E) (claims : List LoopClaim) (left : List Loop) (sites others : List LoopSite) → sites ≡ others
    → IfOk r (λ after. option_map (λ n. map loop_of (drop n claims)) after ≡ claims_after f task sites left)
    → IfOk r (λ after. option_map (λ n. map loop_of (drop n claims)) after ≡ claims_after f task others left)
follows_as f task r claims left sites others is h = subst (λ ss. IfOk r (λ after. option_map (λ n. map loop_of (drop n claims)) after ≡ claims_after f task ss left)) is h

-- the claims that are left from a place on
pub left_from : (claims : List LoopClaim) (o : Option ℕ) (after : ℕ) (x : Option (List Loop)) → o ≡ Some after
    → option_map (λ n. map loop_of (drop n claims)) o ≡ x → Some (map loop_of (drop after claims)) ≡ x
left_from claims o after x is e = sym (ap (option_map (λ n. map loop_of (drop n claims))) is) ∙ e

-- no claims are left without a place
pub left_nowhere : (claims : List LoopClaim) (o : Option ℕ) (x : Option (List Loop)) → o ≡ None
    → option_map (λ n. map loop_of (drop n claims)) o ≡ x → None ≡ x
left_nowhere claims o x is e = sym (ap (option_map (λ n. map loop_of (drop n claims))) is) ∙ e

-- the claims on the loops of one part and then of another are those on all
pub both_parts : (f : PlainFunction) (task : Option ℕ) (whole sites others : List LoopSite) (claims : List Loop) (left : Option (List Loop)) → whole ≡ sites ++ others
    → left ≡ claims_after f task sites claims → then_after f task others left ≡ claims_after f task whole claims
both_parts f task whole sites others claims left is now =
    ap (then_after f task others) now ∙ sym (after_both f task sites others claims) ∙ ap (λ ss. claims_after f task ss claims) (sym is)

-- the same for a result, where the second part is in a scope that is as before
pub follows_both : {E : Type 0} (f : PlainFunction) (task : Option ℕ) (r : Result (Option ℕ) E) (claims : List LoopClaim) (left before : List Loop) (whole sites : List LoopSite) (others : List ℕ → List LoopSite) (scope now : List ℕ)
    → whole ≡ sites ++ others scope → now ≡ scope → Some left ≡ claims_after f task sites before
    → IfOk r (λ after. option_map (λ n. map loop_of (drop n claims)) after ≡ claims_after f task (others now) left)
    → IfOk r (λ after. option_map (λ n. map loop_of (drop n claims)) after ≡ claims_after f task whole before)
follows_both f task r claims left before whole sites others scope now is same first h =
    subst (λ x. IfOk r (λ after. option_map (λ n. map loop_of (drop n claims)) after ≡ x))
    (ap (λ s. claims_after f task (others s) left) same ∙ both_parts f task whole sites (others scope) before (Some left) is first) h
