-- Rows of the code's trees as lists, and lists one turn at a time.
use Rattle.std.specs.Prelude.{◌≡◌, ℕ, suc, ◌+◌, Bool, List, [], ◌∷◌, ◌++◌, length, map, Vec, refl}
use Rattle.std.specs.declared.alloc.Global.{Global}
use Rattle.std.proofs.Common.{◌∙◌, ◌<◌, ap, sym, rules, drop, drop-cons, get_or, add-one}
use Rattle.std.proofs.lemmas.List.{append_assoc}
use Rattle.p10_base.specs.declared.at.At.{At}
use Rattle.p10_syn.specs.declared.statement.Init.TheVariants as init
use Rattle.p10_syn.specs.declared.statement.Init.TheViews.{the_lemmas as init_lemmas}
use Rattle.p10_syn.specs.declared.statement.Init.{Init, Row_of-Init, end_of-Init, more_of-Init, items-the_row-Init}
use Rattle.p10_syn.specs.declared.statement.Stmt.TheVariants as stmt
use Rattle.p10_syn.specs.declared.statement.Stmt.TheViews.{the_lemmas as stmt_lemmas}
use Rattle.p10_syn.specs.declared.statement.Stmt.{Stmt, Row_of-Stmt, end_of-Stmt, more_of-Stmt, items-the_row-Stmt}
use Rattle.p10_syn.specs.Trees.{Braced, Block, MoreInitializers, MoreStatements, initializer_row, statement_row}
use Rattle.p10_syn.specs.BuiltStatements.{initializer_of, initializers_of, statement_of, statements_of}

-- ## Lists

-- the elements from a place on
pub cut_list : {A : Type 0} (all : List A) (i : ℕ) (x : A) → i < length all → x ≡ get_or all i x → drop i all ≡ x ∷ drop (i + 1) all
cut_list all i x below is =
    drop-cons all i x below ∙ ap (λ y. y ∷ drop (suc i) all) (sym is) ∙ ap (λ n. x ∷ drop n all) (sym (add-one i))

-- the same, of an element by its place alone
pub cut_at : {A : Type 0} (all : List A) (i : ℕ) (default : A) → i < length all → drop i all ≡ get_or all i default ∷ drop (i + 1) all
cut_at all i default below = drop-cons all i default below ∙ ap (λ n. get_or all i default ∷ drop n all) (sym (add-one i))

-- one part more is put down
pub more_put : {A : Type 0} (before one rest all after whole : List A) → after ≡ before ++ one → all ≡ one ++ rest → before ++ all ≡ whole → after ++ rest ≡ whole
more_put before one rest all after whole is cut holds =
    ap (λ xs. xs ++ rest) is ∙ append_assoc before one rest ∙ ap (λ xs. before ++ xs) (sym cut) ∙ holds

-- one element more
pub mapped_more : {A B : Type 0} (f : A → B) (xs : List A) (x : A) → map f (xs ++ x ∷ []) ≡ map f xs ++ f x ∷ []
mapped_more f [] x = refl
mapped_more f (y ∷ xs) x = ap (λ zs. f y ∷ zs) (mapped_more f xs x)

-- as many elements
pub mapped_length : {A B : Type 0} (f : A → B) (xs : List A) → length (map f xs) ≡ length xs
mapped_length f [] = refl
mapped_length f (x ∷ xs) = ap suc (mapped_length f xs)

-- ## Nodes with rows

initializers_listed : (n : _) (all : Row_of-Init n) → initializers_of all ≡ initializer_row (map initializer_of (items-the_row-Init n all))
initializers_listed n end_of-Init = refl
initializers_listed n (more_of-Init x rest) = ap (MoreInitializers (initializer_of x)) (initializers_listed _ rest)

statements_listed : (n : _) (all : Row_of-Stmt n) → statements_of all ≡ statement_row (map statement_of (items-the_row-Stmt n all))
statements_listed n end_of-Stmt = refl
statements_listed n (more_of-Stmt x rest) = ap (MoreStatements (statement_of x)) (statements_listed _ rest)

pub braced_is : (at : At) (all : Vec Init Global) (comma : Bool) → initializer_of (init.Braced at all comma) ≡ Braced at (initializer_row (map initializer_of all.items)) comma
braced_is at all comma = search (rules, init_lemmas, initializers_listed)

pub block_is : (at : At) (all : Vec Stmt Global) → statement_of (stmt.Block at all) ≡ Block at (statement_row (map statement_of all.items))
block_is at all = search (rules, stmt_lemmas, statements_listed)
