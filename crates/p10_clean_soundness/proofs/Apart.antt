-- Numbers of variables in scope, apart from those that are still to be declared.
use Rattle.std.proofs.Common.{◌≡◌, ℕ, zero, suc, ◌+◌, ◌<◌, ◌-◌, Bool, true, false, List, [], ◌∷◌, ◌++◌, length, refl, ◌∙◌, ap, inl, inr, arith}
use Rattle.std.specs.Prelude.{◌||◌, ◌⊎◌, nat_eq}
use Rattle.std.proofs.lemmas.Bool.{eqb-true}
use Rattle.p10_core.specs.Typed.{PlainStatement, statement, declare, PlainStatements, no_statements, more_statements, PlainFunction, PlainProgram}
use Rattle.p10_core.specs.WholePrograms.{is_among, numbers_from, declared_in, declared_of, IsWholeFunction}
use Rattle.p10_meaning.proofs.SoundStatements.{scope_after, scope_after_all}
use Rattle.p10_execution.specs.Scoping.{AreOnce}
use Rattle.p10_execution.proofs.Numbers.{among_left, among_right, once_apart}
use Rattle.p10_clean_soundness.specs.private.Setting.{AreApart}

-- ## Parts

pub apart_left : (scope xs ys : List ℕ) → AreApart scope (xs ++ ys) → AreApart scope xs
apart_left scope xs ys a = record { each = λ n e. by_case n (is_among n xs) refl e }
  where
    by_case : (n : ℕ) (b : Bool) → is_among n xs ≡ b → is_among n scope ≡ true → is_among n xs ≡ false
    by_case n true q e = let yes : is_among n (xs ++ ys) ≡ true = among_left n xs ys q in let no : is_among n (xs ++ ys) ≡ false = a.each n e in absurd cc
    by_case n false q e = q

pub apart_right : (scope xs ys : List ℕ) → AreApart scope (xs ++ ys) → AreApart scope ys
apart_right scope xs ys a = record { each = λ n e. by_case n (is_among n ys) refl e }
  where
    by_case : (n : ℕ) (b : Bool) → is_among n ys ≡ b → is_among n scope ≡ true → is_among n ys ≡ false
    by_case n true q e = let yes : is_among n (xs ++ ys) ≡ true = among_right n xs ys q in let no : is_among n (xs ++ ys) ≡ false = a.each n e in absurd cc
    by_case n false q e = q

pub apart_nothing : (scope numbers : List ℕ) → numbers ≡ [] → AreApart scope numbers
apart_nothing scope numbers e = record { each = λ n h. ap (is_among n) e }

-- a number that is among some isn't in a scope that is apart from them
pub not_in_scope : (n : ℕ) (scope : List ℕ) {numbers : List ℕ} → is_among n numbers ≡ true → AreApart scope numbers → is_among n scope ≡ false
not_in_scope n scope {numbers} e a = by_case (is_among n scope) refl
  where
    by_case : (b : Bool) → is_among n scope ≡ b → is_among n scope ≡ false
    by_case true q = let no : is_among n numbers ≡ false = a.each n q in absurd cc
    by_case false q = q

-- ## Scopes after statements

pub scope_grows : (x : PlainStatement) (scope : List ℕ) (n : ℕ) → is_among n scope ≡ true → is_among n (scope_after x scope) ≡ true
scope_grows (statement at (declare m initializer)) scope n e = among_right n (m ∷ []) scope e
scope_grows x scope n e = e

pub scope_grows_all : (xs : PlainStatements) (scope : List ℕ) (n : ℕ) → is_among n scope ≡ true → is_among n (scope_after_all xs scope) ≡ true
scope_grows_all no_statements scope n e = e
scope_grows_all (more_statements x rest) scope n e = scope_grows_all rest (scope_after x scope) n (scope_grows x scope n e)

-- what is in scope after a statement was before it, or is declared in it
in_scope_after : (x : PlainStatement) (scope : List ℕ) (n : ℕ) → is_among n (scope_after x scope) ≡ true → (is_among n scope ≡ true) ⊎ (is_among n (declared_in x) ≡ true)
in_scope_after (statement at (declare m initializer)) scope n e = by_case (nat_eq n m) refl e
  where
    by_case : (b : Bool) → nat_eq n m ≡ b → (b || is_among n scope) ≡ true → (is_among n scope ≡ true) ⊎ ((nat_eq n m || false) ≡ true)
    by_case true q e = inr (ap (λ b. b || false) q)
    by_case false q e = inl e
in_scope_after x scope n e = inl e

-- a number of one part isn't in the other
other_part : (n : ℕ) (xs ys : List ℕ) → AreOnce (xs ++ ys) → is_among n xs ≡ true → is_among n ys ≡ false
other_part n xs ys once e = by_case (is_among n ys) refl
  where
    by_case : (b : Bool) → is_among n ys ≡ b → is_among n ys ≡ false
    by_case true q = let no : is_among n xs ≡ false = once_apart n xs ys once q in absurd cc
    by_case false q = q

pub apart_after : (x : PlainStatement) (scope numbers : List ℕ) → AreOnce (declared_in x ++ numbers) → AreApart scope (declared_in x ++ numbers) → AreApart (scope_after x scope) numbers
apart_after x scope numbers once a = record { each = λ n e. elim (in_scope_after x scope n e) [ inl h ↦ (apart_right scope (declared_in x) numbers a).each n h | inr h ↦ other_part n (declared_in x) numbers once h ] }

in_scope_after_all : (xs : PlainStatements) (scope : List ℕ) (n : ℕ) → is_among n (scope_after_all xs scope) ≡ true → (is_among n scope ≡ true) ⊎ (is_among n (declared_of xs) ≡ true)
in_scope_after_all no_statements scope n e = inl e
in_scope_after_all (more_statements x rest) scope n e = elim (in_scope_after_all rest (scope_after x scope) n e) [ inl h ↦ first h | inr h ↦ inr (among_right n (declared_in x) (declared_of rest) h) ]
  where
    first : is_among n (scope_after x scope) ≡ true → (is_among n scope ≡ true) ⊎ (is_among n (declared_in x ++ declared_of rest) ≡ true)
    first h = elim (in_scope_after x scope n h) [ inl k ↦ inl k | inr k ↦ inr (among_left n (declared_in x) (declared_of rest) k) ]

pub apart_after_all : (xs : PlainStatements) (scope numbers : List ℕ) → AreOnce (declared_of xs ++ numbers) → AreApart scope (declared_of xs ++ numbers) → AreApart (scope_after_all xs scope) numbers
apart_after_all xs scope numbers once a =
    record { each = λ n e. elim (in_scope_after_all xs scope n e) [ inl h ↦ (apart_right scope (declared_of xs) numbers a).each n h | inr h ↦ other_part n (declared_of xs) numbers once h ] }

-- ## The body of a function

-- no parameter has the number of a variable that is declared in the body
pub below_from : (n from count : ℕ) → is_among n (numbers_from from count) ≡ true → n < from + count
below_from n from zero e = absurd cc
below_from n from (suc count) e = by_case (nat_eq n from) refl e (below_from n (from + 1) count)
  where
    by_case : (b : Bool) → nat_eq n from ≡ b → (b || is_among n (numbers_from (from + 1) count)) ≡ true → (is_among n (numbers_from (from + 1) count) ≡ true → n < (from + 1) + count) → n < from + suc count
    by_case true q e h = let p : n ≡ from = eqb-true n from q in omega (arith, p)
    by_case false q e h = let p : n < (from + 1) + count = h e in omega (arith, p)

not_from : (n from count : ℕ) → n < from → is_among n (numbers_from from count) ≡ false
not_from n from zero h = refl
not_from n from (suc count) h = by_case (nat_eq n from) refl (not_from n (from + 1) count (omega (arith, h)))
  where
    by_case : (b : Bool) → nat_eq n from ≡ b → is_among n (numbers_from (from + 1) count) ≡ false → (b || is_among n (numbers_from (from + 1) count)) ≡ false
    by_case true q e = let p : n ≡ from = eqb-true n from q in absurd (omega (arith, h, p))
    by_case false q e = e

pub body_apart : (p : PlainProgram) (k : ℕ) (f : PlainFunction) → IsWholeFunction p k f → AreApart (numbers_from 0 f.parameters) (declared_of f.body)
body_apart p k f function = record {
  each = λ n e. let h : n < 0 + f.parameters = below_from n 0 f.parameters e in
      ap (is_among n) function.declared_in_order ∙ not_from n f.parameters (length f.variables - f.parameters) (omega (arith, h));
}
