-- The words of uses in rows of the code's trees.
use Rattle.std.specs.Prelude.{◌≡◌, ℕ, ◌+◌, Bool, List, ◌∷◌, map, Option, Vec}
use Rattle.std.specs.declared.alloc.Global.{Global}
use Rattle.std.proofs.Common.{◌∙◌, ap, sym, drop, Box}
use Rattle.p10_base.specs.declared.at.At.{At}
use Rattle.p10_syn.specs.declared.tree.Form.TheVariants as form
use Rattle.p10_syn.specs.declared.tree.Expr.{Expr}
use Rattle.p10_syn.specs.declared.statement.Init.TheVariants as init
use Rattle.p10_syn.specs.declared.statement.Init.{Init}
use Rattle.p10_syn.specs.declared.statement.Stmt.TheVariants as stmt
use Rattle.p10_syn.specs.declared.statement.Stmt.{Stmt}
use Rattle.p10_syn.specs.Trees.{expression_row, initializer_row, statement_row}
use Rattle.p10_syn.specs.Built.{expression_of}
use Rattle.p10_syn.specs.BuiltStatements.{initializer_of, statement_of}
use Rattle.p10_heads.proofs.ListRows.{braced_is, block_is}
use Rattle.p10_elabs.proofs.TreeNodes.{call_tree, comma_tree}
use Rattle.p10_elab.specs.UseWords.{word_in, word_in_all, word_in_initializer, word_in_items, word_in_statement, word_in_statements}

-- ## Rows

pub call_word : (n : ℕ) (found t u : Option At) (e x : Expr) (f : Box Expr Global) (all : Vec Expr Global) (items : List Expr) → e.form ≡ form.Call f all → x ≡ f.value → items ≡ all.items →
    t ≡ word_in n found (expression_of x) → u ≡ word_in_all n t (expression_row (map expression_of items)) → u ≡ word_in n found (expression_of e)
call_word n found t u e x f all items is first same et eu =
    eu
    ∙ ap (λ o. word_in_all n o (expression_row (map expression_of items))) (et ∙ ap (λ y. word_in n found (expression_of y)) first)
    ∙ ap (λ xs. word_in_all n (word_in n found (expression_of f.value)) (expression_row (map expression_of xs))) same
    ∙ ap (word_in n found) (sym (call_tree e f all is))

pub comma_word : (n : ℕ) (found u : Option At) (e : Expr) (all : Vec Expr Global) (items : List Expr) → e.form ≡ form.Comma all → items ≡ all.items →
    u ≡ word_in_all n found (expression_row (map expression_of items)) → u ≡ word_in n found (expression_of e)
comma_word n found u e all items is same eu =
    eu ∙ ap (λ xs. word_in_all n found (expression_row (map expression_of xs))) same ∙ ap (word_in n found) (sym (comma_tree e all is))

pub braced_word : (n : ℕ) (found u : Option At) (i : Init) (at : At) (all : Vec Init Global) (comma : Bool) (items : List Init) → i ≡ init.Braced at all comma → items ≡ all.items →
    u ≡ word_in_items n found (initializer_row (map initializer_of items)) → u ≡ word_in_initializer n found (initializer_of i)
braced_word n found u i at all comma items is same eu =
    eu ∙ ap (λ xs. word_in_items n found (initializer_row (map initializer_of xs))) same
    ∙ ap (word_in_initializer n found) (sym (ap initializer_of is ∙ braced_is at all comma))

pub block_word : (n : ℕ) (found u : Option At) (s : Stmt) (at : At) (all : Vec Stmt Global) (items : List Stmt) → s ≡ stmt.Block at all → items ≡ all.items →
    u ≡ word_in_statements n found (statement_row (map statement_of items)) → u ≡ word_in_statement n found (statement_of s)
block_word n found u s at all items is same eu =
    eu ∙ ap (λ xs. word_in_statements n found (statement_row (map statement_of xs))) same
    ∙ ap (word_in_statement n found) (sym (ap statement_of is ∙ block_is at all))

-- ## Turns of loops

pub step_expressions : (n i : ℕ) (all : List Expr) (one : Expr) (old new : Option At) → drop i all ≡ one ∷ drop (i + 1) all → new ≡ word_in n old (expression_of one) →
    word_in_all n old (expression_row (map expression_of (drop i all))) ≡ word_in_all n new (expression_row (map expression_of (drop (i + 1) all)))
step_expressions n i all one old new cut is =
    ap (λ xs. word_in_all n old (expression_row (map expression_of xs))) cut ∙ ap (λ o. word_in_all n o (expression_row (map expression_of (drop (i + 1) all)))) (sym is)

pub step_items : (n i : ℕ) (all : List Init) (one : Init) (old new : Option At) → drop i all ≡ one ∷ drop (i + 1) all → new ≡ word_in_initializer n old (initializer_of one) →
    word_in_items n old (initializer_row (map initializer_of (drop i all))) ≡ word_in_items n new (initializer_row (map initializer_of (drop (i + 1) all)))
step_items n i all one old new cut is =
    ap (λ xs. word_in_items n old (initializer_row (map initializer_of xs))) cut ∙ ap (λ o. word_in_items n o (initializer_row (map initializer_of (drop (i + 1) all)))) (sym is)

pub step_statements : (n i : ℕ) (all : List Stmt) (one : Stmt) (old new : Option At) → drop i all ≡ one ∷ drop (i + 1) all → new ≡ word_in_statement n old (statement_of one) →
    word_in_statements n old (statement_row (map statement_of (drop i all))) ≡ word_in_statements n new (statement_row (map statement_of (drop (i + 1) all)))
step_statements n i all one old new cut is =
    ap (λ xs. word_in_statements n old (statement_row (map statement_of xs))) cut ∙ ap (λ o. word_in_statements n o (statement_row (map statement_of (drop (i + 1) all)))) (sym is)
