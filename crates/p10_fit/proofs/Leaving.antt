-- What is in scope after statements, and again once they are left.
use Rattle.std.proofs.Common.{◌≡◌, ◌∙◌, ℕ, ◌≤◌, List, [], ◌∷◌, length, take, Option, Some, IsSome, sym, ap, subst, refl, arith, length-append}
use Rattle.std.proofs.Math.Seq.{take-length}
use Rattle.std.proofs.lemmas.List.{take-append-le}
use Rattle.p10_core.specs.Typed.{PlainStatement, statement, declare, PlainStatements, no_statements, more_statements}
use Rattle.p10_fit.specs.Sites.{in_scope_after, in_scope_after_all}

-- a value that is there
pub is_there : (o : Option ℕ) (n : ℕ) → o ≡ Some n → IsSome o
is_there o n is = subst (λ x. IsSome x) (sym is) refl

after_longer : (scope : List ℕ) (s : PlainStatement) → length scope ≤ length (in_scope_after scope s)
after_longer scope (statement at (declare n i)) = omega (arith, length-append scope (n ∷ []))
after_longer scope s = omega arith

-- more is in scope after statements
pub after_all_longer : (scope : List ℕ) (ss : PlainStatements) → length scope ≤ length (in_scope_after_all scope ss)
after_all_longer scope no_statements = omega arith
after_all_longer scope (more_statements s rest) =
    let one : length scope ≤ length (in_scope_after scope s) = after_longer scope s in
    let all : length (in_scope_after scope s) ≤ length (in_scope_after_all (in_scope_after scope s) rest) = after_all_longer (in_scope_after scope s) rest in
    omega arith

after_kept : (k : ℕ) (scope : List ℕ) (s : PlainStatement) → k ≤ length scope → take k (in_scope_after scope s) ≡ take k scope
after_kept k scope (statement at (declare n i)) le = take-append-le k scope (n ∷ []) le
after_kept k scope s le = refl

after_all_kept : (k : ℕ) (scope : List ℕ) (ss : PlainStatements) → k ≤ length scope → take k (in_scope_after_all scope ss) ≡ take k scope
after_all_kept k scope no_statements le = refl
after_all_kept k scope (more_statements s rest) le =
    let longer : length scope ≤ length (in_scope_after scope s) = after_longer scope s in
    after_all_kept k (in_scope_after scope s) rest (omega arith) ∙ after_kept k scope s le

-- what was in scope before can be taken from what is in scope after
pub room_to_leave : (scope now : List ℕ) (ss : PlainStatements) (count : ℕ) → count ≡ length scope → now ≡ in_scope_after_all scope ss → count ≤ length now
room_to_leave scope now ss count is e =
    let longer : length scope ≤ length (in_scope_after_all scope ss) = after_all_longer scope ss in
    omega (arith, ap length e)

-- what was in scope before is in scope again once statements are left
pub left_again : (scope now left : List ℕ) (ss : PlainStatements) (count : ℕ) → count ≡ length scope → now ≡ in_scope_after_all scope ss → left ≡ take count now → left ≡ scope
left_again scope now left ss count is e taken =
    taken ∙ ap (λ k. take k now) is ∙ ap (take (length scope)) e ∙ after_all_kept (length scope) scope ss (omega arith) ∙ take-length scope
