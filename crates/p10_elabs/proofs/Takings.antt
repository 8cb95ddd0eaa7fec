-- Addresses that are taken in calls, in operands of the comma operator and in lists.
use Rattle.std.specs.Prelude.{◌≡◌, ℕ, Bool, List, ◌++◌, map, Vec}
use Rattle.std.specs.declared.alloc.Global.{Global}
use Rattle.std.proofs.Common.{◌∙◌, ap, sym, Box}
use Rattle.std.proofs.lemmas.List.{append_assoc}
use Rattle.p10_base.specs.declared.at.At.{At}
use Rattle.p10_syn.specs.declared.tree.Form.TheVariants as form
use Rattle.p10_syn.specs.declared.tree.Expr.{Expr}
use Rattle.p10_syn.specs.declared.statement.Init.TheVariants as init
use Rattle.p10_syn.specs.declared.statement.Init.{Init}
use Rattle.p10_syn.specs.Trees.{expression_row, initializer_row}
use Rattle.p10_syn.specs.Built.{expression_of}
use Rattle.p10_syn.specs.BuiltStatements.{initializer_of}
use Rattle.p10_elabs.proofs.TreeNodes.{call_tree, comma_tree}
use Rattle.p10_elabs.specs.Addresses.{LocalNames, taken_in, taken_in_all, taken_in_initializer, taken_in_items}
use Rattle.p10_heads.proofs.ListRows.{braced_is}

pub call_taken : (names : LocalNames) (e : Expr) (f : Box Expr Global) (all : Vec Expr Global) (called : Expr) (items : List Expr) (first second third : List ℕ) →
    e.form ≡ form.Call f all → called ≡ f.value → items ≡ all.items →
    second ≡ first ++ taken_in names (expression_of called) → third ≡ second ++ taken_in_all names (expression_row (map expression_of items)) →
    third ≡ first ++ taken_in names (expression_of e)
call_taken names e f all called items first second third is same listed one more =
    more ∙ ap (λ xs. xs ++ taken_in_all names (expression_row (map expression_of items))) one
    ∙ append_assoc first (taken_in names (expression_of called)) (taken_in_all names (expression_row (map expression_of items)))
    ∙ ap (λ x. first ++ (taken_in names (expression_of x) ++ taken_in_all names (expression_row (map expression_of items)))) same
    ∙ ap (λ xs. first ++ (taken_in names (expression_of f.value) ++ taken_in_all names (expression_row (map expression_of xs)))) listed
    ∙ ap (λ t. first ++ taken_in names t) (sym (call_tree e f all is))

pub comma_taken : (names : LocalNames) (e : Expr) (all : Vec Expr Global) (items : List Expr) (first second : List ℕ) →
    e.form ≡ form.Comma all → items ≡ all.items → second ≡ first ++ taken_in_all names (expression_row (map expression_of items)) →
    second ≡ first ++ taken_in names (expression_of e)
comma_taken names e all items first second is listed more =
    more ∙ ap (λ xs. first ++ taken_in_all names (expression_row (map expression_of xs))) listed
    ∙ ap (λ t. first ++ taken_in names t) (sym (comma_tree e all is))

pub braced_taken : (names : LocalNames) (i : Init) (at : At) (all : Vec Init Global) (comma : Bool) (items : List Init) (first second : List ℕ) →
    i ≡ init.Braced at all comma → items ≡ all.items → second ≡ first ++ taken_in_items names (initializer_row (map initializer_of items)) →
    second ≡ first ++ taken_in_initializer names (initializer_of i)
braced_taken names i at all comma items first second is listed more =
    more ∙ ap (λ xs. first ++ taken_in_items names (initializer_row (map initializer_of xs))) listed
    ∙ ap (λ t. first ++ taken_in_initializer names t) (sym (ap initializer_of is ∙ braced_is at all comma))
