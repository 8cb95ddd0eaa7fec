-- Rows of trees as lists, and the first of them.
use Rattle.std.proofs.Common.{◌≡◌, arith, ℕ, zero, suc, ◌≤◌, List, [], ◌∷◌, ◌++◌, length, map, take, refl, ap, ◌∙◌, sym}
use Rattle.std.proofs.lemmas.List.{map-append, take_all}
use Rattle.p10_core.specs.declared.typed.Value.{Value}
use Rattle.p10_core.specs.declared.statements.Stmt.{Stmt}
use Rattle.p10_core.specs.Typed.{more_statements, statements_list, statements_of_list}
use Rattle.p10_core.specs.Views.{plain_values, plain_statement, plain_statements}
use Rattle.p10_code.specs.ValueCode.{count_of, values_debt}
use Rattle.p10_compile.specs.declared.operations.Op.{Op}
use Rattle.p10_compile.specs.Views.{plain_op}

-- there are as many values as in the list
pub count_is : (vs : List Value) → count_of (plain_values vs) ≡ length vs
count_is [] = refl
count_is (v ∷ vs) = ap suc (count_is vs)

-- no arguments leave what was owed, and others leave nothing
pub all_owed : (d : ℕ) (vs : List Value) → length vs ≡ 0 → d ≡ values_debt d (plain_values vs)
all_owed d [] h = refl
all_owed d (v ∷ vs) h = absurd (omega (arith, h))

pub none_owed : (d : ℕ) (vs : List Value) → (length vs ≡ 0 → ⊥) → 0 ≡ values_debt d (plain_values vs)
none_owed d [] h = absurd (h refl)
none_owed d (v ∷ vs) h = refl

-- what operations are that follow others
pub map_joined : (xs ys : List Op) → map plain_op (xs ++ ys) ≡ map plain_op xs ++ map plain_op ys
map_joined xs ys = map-append plain_op xs ys

-- the first of some statements
pub first_is : (i : ℕ) (ss : List Stmt) → plain_statements (take i ss) ≡ statements_of_list (take i (statements_list (plain_statements ss)))
first_is zero ss = refl
first_is (suc i) [] = refl
first_is (suc i) (s ∷ ss) = ap (more_statements (plain_statement s)) (first_is i ss)

pub all_first : (i : ℕ) (ss : List Stmt) → length ss ≤ i → plain_statements ss ≡ statements_of_list (take i (statements_list (plain_statements ss)))
all_first i ss h = ap plain_statements (sym (take_all i ss h)) ∙ first_is i ss
