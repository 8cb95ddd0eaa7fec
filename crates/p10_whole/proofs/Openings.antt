-- Statements that pass a test one after the other, and statements as a list.
use Rattle.std.proofs.Common.{◌≡◌, ℕ, ◌+◌, ◌<◌, ◌≤◌, Bool, true, List, [], ◌∷◌, map, length, drop, get_or, Some, refl, ap, sym, ◌∙◌, subst}
use Rattle.p10_base.specs.declared.at.At.{At}
use Rattle.p10_core.specs.declared.statements.Stmt.{Stmt}
use Rattle.p10_core.specs.declared.statements.StmtForm.{StmtForm}
use Rattle.p10_core.specs.declared.statements.StmtForm.TheVariants.{Block}
use Rattle.p10_core.specs.Typed.{PlainStatement, statement, PlainStatements, no_statements, statements_list}
use Rattle.p10_core.specs.Views.{plain_statement, plain_statements, plain_statement_form}
use Rattle.p10_core.specs.WholePrograms.{AllOf}
use Rattle.p10_core.proofs.StatementRows.{plain_block}
use Rattle.p10_whole.specs.private.Labels.{block_items}
use Rattle.p10_whole.proofs.Each.{drop_end}
use Rattle.p10_whole.proofs.Passing.{cut_statements}

-- no statements are left at the end
pub none_left : (all : List Stmt) (i : ℕ) → length all ≤ i → plain_statements (drop i all) ≡ no_statements
none_left all i b = ap plain_statements (drop_end all i b)

-- a test that one more statement passes
pub all_next : (test : PlainStatement → Bool) (whole : PlainStatements) (all : List Stmt) (i : ℕ) (s : Stmt) → i < length all → s ≡ get_or all i s → test (plain_statement s) ≡ true →
    (AllOf test (plain_statements (drop i all)) → AllOf test whole) → AllOf test (plain_statements (drop (i + 1) all)) → AllOf test whole
all_next test whole all i s below is passed before rest = before (subst (AllOf test) (sym (cut_statements all i s below is)) (passed, rest))

pub all_end : (test : PlainStatement → Bool) (all : List Stmt) (i : ℕ) → length all ≤ i → AllOf test (plain_statements (drop i all))
all_end test all i b = subst (AllOf test) (sym (none_left all i b)) tt

pub statements_listed : (all : List Stmt) → statements_list (plain_statements all) ≡ map plain_statement all
statements_listed [] = refl
statements_listed (s ∷ all) = ap (λ xs. plain_statement s ∷ xs) (statements_listed all)

-- the items of a block
pub items_of_block : (at : At) (f : StmtForm) (all items : List Stmt) → f ≡ Block all → items ≡ all → Some (map plain_statement items) ≡ block_items (statement at (plain_statement_form f))
items_of_block at f all items e h =
    ap (λ xs. Some (map plain_statement xs)) h ∙ ap Some (sym (statements_listed all)) ∙ ap (λ g. block_items (statement at g)) (sym (ap plain_statement_form e ∙ plain_block all))
