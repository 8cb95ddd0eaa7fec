-- Parameters of a function, and the number of its task loop.
use Rattle.std.proofs.Common.{◌≡◌, ◌∙◌, ℕ, zero, suc, ◌<◌, ◌≤◌, ◌⊎◌, inl, inr, Bool, List, [], ◌∷◌, length, map, take, Option, None, min, if◌then◌else◌, sym, ap, refl, arith, eq-eqb}
use Rattle.std.proofs.lemmas.Bool.{cases_lt}
use Rattle.std.proofs.lemmas.List.{take_all}
use Rattle.std.proofs.Math.Seq.{take-length}
use Rattle.p10_core.specs.Typed.{PlainFunction, PlainProgram, statements_list}
use Rattle.p10_core.specs.declared.program.Variable.{Variable}
use Rattle.p10_core.specs.declared.statements.Stmt.{Stmt}
use Rattle.p10_core.specs.Views.{plain_variable, plain_statement, plain_statements}
use Rattle.p10_core.specs.WholePrograms.{main_items}
use Rattle.p10_cert.specs.Claims.{Value}
use Rattle.p10_fit.specs.Sites.{loop_number_at, task_loop_number}
use Rattle.p10_fit.specs.Fits.{fits_types}

-- the first `count` elements, which are the first k or all, are those of a list
shortened : {X : Type 0} (k count : ℕ) (xs : List X) → count ≡ min (length xs) k → take count xs ≡ take k xs
shortened k count xs is = by_case (cases_lt k (length xs))
  where
    by_case : (k < length xs) ⊎ (length xs ≤ k) → take count xs ≡ take k xs
    by_case c = elim c [
      | inl lt ↦ ap (λ n. take n xs) (omega (arith, is, lt))
      | inr le ↦ let whole : count ≡ length xs = omega (arith, is, le) in ap (λ n. take n xs) whole ∙ take-length xs ∙ sym (take_all k xs le)
    ]

types_taken : (k : ℕ) (vs : List Variable) → map (λ v. (plain_variable v).type) (take k vs) ≡ map (λ v. v.type) (take k (map plain_variable vs))
types_taken zero vs = refl
types_taken (suc k) [] = refl
types_taken (suc k) (v ∷ vs) = ap (λ ts. (plain_variable v).type ∷ ts) (types_taken k vs)

-- what is claimed of the first variables is claimed of the parameters
pub parameters_told : (k count : ℕ) (variables all : List Variable) (values : List Value) (b : Bool) → count ≡ min (length variables) k → variables ≡ all
    → b ≡ fits_types (map (λ v. (plain_variable v).type) (take count variables)) values → b ≡ fits_types (map (λ v. v.type) (take k (map plain_variable all))) values
parameters_told k count variables all values b is same e =
    e ∙ ap (λ vs. fits_types (map (λ v. (plain_variable v).type) vs) values) (shortened k count variables is)
    ∙ ap (λ ts. fits_types ts values) (types_taken k variables ∙ ap (λ vs. map (λ v. v.type) (take k (map plain_variable vs))) same)

statements_listed : (xs : List Stmt) → statements_list (plain_statements xs) ≡ map plain_statement xs
statements_listed [] = refl
statements_listed (x ∷ xs) = ap (λ rest. plain_statement x ∷ rest) (statements_listed xs)

-- the task loop of `main`
pub task_told : (p : PlainProgram) (n : ℕ) (f : PlainFunction) (items body : List Stmt) (task o : Option ℕ) → n ≡ p.main → p.task ≡ task → items ≡ body → plain_statements body ≡ f.body
    → o ≡ loop_number_at (map plain_statement items) task → o ≡ task_loop_number p n f
task_told p n f items body task o here is same whole e =
    e ∙ ap (λ xs. loop_number_at xs task) (sym (statements_listed items) ∙ ap (λ xs. statements_list (plain_statements xs)) same ∙ ap statements_list whole)
    ∙ ap (loop_number_at (main_items f)) (sym is)
    ∙ ap (λ b. if b then loop_number_at (main_items f) p.task else None) (sym (eq-eqb n p.main here))
