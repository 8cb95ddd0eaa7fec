-- Which variables statements declare themselves, and what is known where their block ends.
use Rattle.std.proofs.Common.{◌≡◌, ℕ, Bool, true, false, ◌++◌, refl, ◌∙◌, ap, sym, Some, None}
use Rattle.std.specs.Prelude.{◌||◌, nat_eq}
use Rattle.std.proofs.lemmas.Bool.{eqb-true, eqb-false}
use Rattle.p10_core.specs.Typed.{PlainStatement, statement, declare, PlainStatements, no_statements, more_statements}
use Rattle.p10_core.specs.WholePrograms.{is_among, is_declaration, declared_in, declared_of}
use Rattle.p10_absx.specs.Abstract.{Abstract}
use Rattle.p10_absx.specs.Environments.{Environment, known, out_of_scope}
use Rattle.p10_pass.specs.Scopes.{left_scope}
use Rattle.p10_execution.proofs.Numbers.{or_false, among_left, among_right}
use Rattle.p10_execution.proofs.Entries.{out_here, out_other}

-- whether a statement is the declaration of a variable
abbrev pub declares_here : ℕ → PlainStatement → Bool
declares_here n (statement at (declare m initializer)) = nat_eq n m
declares_here n s = false

-- whether one of the statements is it
abbrev pub declares_at_top : ℕ → PlainStatements → Bool
declares_at_top n no_statements = false
declares_at_top n (more_statements s rest) = declares_here n s || declares_at_top n rest

-- the numbers that a statement declares itself
pub here_is_declared : (n : ℕ) (x : PlainStatement) → declares_here n x ≡ true → is_among n (declared_in x) ≡ true
here_is_declared n (statement at (declare m initializer)) e = ap (λ b. b || false) e
here_is_declared n x e = absurd cc

pub top_is_declared : (n : ℕ) (xs : PlainStatements) → declares_at_top n xs ≡ true → is_among n (declared_of xs) ≡ true
top_is_declared n no_statements e = absurd cc
top_is_declared n (more_statements x rest) e = by_case (declares_here n x) refl (λ e. top_is_declared n rest e) e
  where
    by_case : (b : Bool) → declares_here n x ≡ b → (declares_at_top n rest ≡ true → is_among n (declared_of rest) ≡ true) → (b || declares_at_top n rest) ≡ true → is_among n (declared_in x ++ declared_of rest) ≡ true
    by_case true q k e = among_left n (declared_in x) (declared_of rest) (here_is_declared n x q)
    by_case false q k e = among_right n (declared_in x) (declared_of rest) (k e)

pub not_here : (n : ℕ) (x : PlainStatement) → is_declaration x ≡ false → declares_here n x ≡ false
not_here n (statement at (declare m initializer)) e = absurd cc
not_here n x e = refl

-- ## Where a block ends

out_none : (env : Environment) (n m : ℕ) → known env n ≡ None → known (out_of_scope env m) n ≡ None
out_none env n m e = at (nat_eq n m) refl
  where
    at : (b : Bool) → nat_eq n m ≡ b → known (out_of_scope env m) n ≡ None
    at true q = ap (λ k. known (out_of_scope env m) k) (eqb-true n m q) ∙ out_here env m
    at false q = out_other env m n (eqb-false n m q) ∙ e

pub left_none : (xs : PlainStatements) (env : Environment) (n : ℕ) → known env n ≡ None → known (left_scope xs env) n ≡ None
left_none no_statements env n e = e
left_none (more_statements (statement at (declare m initializer)) rest) env n e = left_none rest (out_of_scope env m) n (out_none env n m e)
left_none (more_statements x rest) env n e = left_none rest env n e

-- what the block declares itself isn't known any more
pub left_here : (xs : PlainStatements) (env : Environment) (n : ℕ) → declares_at_top n xs ≡ true → known (left_scope xs env) n ≡ None
left_here no_statements env n e = absurd cc
left_here (more_statements (statement at (declare m initializer)) rest) env n e = by_case (nat_eq n m) refl (λ e. left_here rest (out_of_scope env m) n e) e
  where
    by_case : (b : Bool) → nat_eq n m ≡ b → (declares_at_top n rest ≡ true → known (left_scope rest (out_of_scope env m)) n ≡ None) → (b || declares_at_top n rest) ≡ true → known (left_scope rest (out_of_scope env m)) n ≡ None
    by_case true q k e = left_none rest (out_of_scope env m) n (ap (λ k. known (out_of_scope env m) k) (eqb-true n m q) ∙ out_here env m)
    by_case false q k e = k e
left_here (more_statements x rest) env n e = left_here rest env n e

-- the others are known as before
pub left_other : (xs : PlainStatements) (env : Environment) (n : ℕ) → declares_at_top n xs ≡ false → known (left_scope xs env) n ≡ known env n
left_other no_statements env n e = refl
left_other (more_statements (statement at (declare m initializer)) rest) env n e =
    let both : (nat_eq n m ≡ false) × (declares_at_top n rest ≡ false) = or_false (nat_eq n m) (declares_at_top n rest) e in
    left_other rest (out_of_scope env m) n both.1 ∙ out_other env m n (eqb-false n m both.0)
left_other (more_statements x rest) env n e = left_other rest env n e

-- nothing more is known
pub left_known : (xs : PlainStatements) (env : Environment) (n : ℕ) (a : Abstract) → known (left_scope xs env) n ≡ Some a → (declares_at_top n xs ≡ false) × (known env n ≡ Some a)
left_known xs env n a e = at (declares_at_top n xs) refl
  where
    at : (b : Bool) → declares_at_top n xs ≡ b → (declares_at_top n xs ≡ false) × (known env n ≡ Some a)
    at true q = let gone : known (left_scope xs env) n ≡ None = left_here xs env n q in absurd cc
    at false q = (q, sym (left_other xs env n q) ∙ e)
