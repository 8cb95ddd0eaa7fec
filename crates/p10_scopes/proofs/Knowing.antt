-- A pass over a whole statement knows exactly the integer frame variables in scope at each of its ends.
use Rattle.std.proofs.Common.{◌≡◌, ℕ, ◌<◌, Bool, true, false, List, [], ◌∷◌, ◌++◌, length, Option, Some, None, refl, sym, ap, ◌∙◌, subst, arith}
use Rattle.std.specs.Prelude.{slice_get, is_some, nat_eq, ◌&&◌, if◌then◌else◌}
use Rattle.std.proofs.lemmas.Bool.{eqb-true, eq-eqb}
use Rattle.std.proofs.lemmas.Option.{same_Some}
use Rattle.p10_core.specs.Rows.{is_integer}
use Rattle.p10_core.specs.Constants.{integer_of}
use Rattle.p10_core.specs.Typed.{PlainInitializer, PlainStatement, statement, declare, PlainVariable, PlainFunction, PlainProgram}
use Rattle.p10_core.specs.WholePrograms.{declared_in, IsWholeStatement}
use Rattle.p10_cert.specs.Claims.{Value, Loop, Claims}
use Rattle.p10_meaning.specs.Sound.{region_at}
use Rattle.p10_absx.specs.Environments.{Environment, known}
use Rattle.p10_absx.proofs.Entries.{get_below}
use Rattle.p10_fit.specs.Sites.{in_scope_after}
use Rattle.p10_fit.specs.Fits.{frame_integer, counter_type}
use Rattle.p10_pass.specs.Passing.{Left, Manner, manner_in, integer_declared, other_declared, declared, pass_statement}
use Rattle.p10_known.specs.Typing.{AreOfTypes}
use Rattle.p10_execution.specs.Scoping.{IsNumber}
use Rattle.p10_execution.proofs.TopDeclarations.{declares_here}
use Rattle.p10_execution.proofs.ScopedEnds.{MaybeScoped, EndsScoped}
use Rattle.p10_execution.proofs.PassedScopes.{statement_scoped}
use Rattle.p10_scopes.specs.Knowing.{KnowsScope, MaybeKnowsScope, EndsInScope, AreNew}
use Rattle.p10_scopes.specs.Laws.{PassesKnowTheirScope}
use Rattle.p10_scopes.proofs.Scopes.{counts, new_before, other_counter, this_counter}
use Rattle.p10_scopes.proofs.Declaring.{EndsNormally, declared_normally, IsThere, integer_there}

module _ (p : PlainProgram) (number : ℕ) (f : PlainFunction) (calls : Option Claims) (loops : Option (List Loop)) (result : Option Value) where
  abbrev m : Manner
  m = manner_in f calls loops result

  -- the same variables are known
  same_known : (scope : List ℕ) (env : Environment) (o : Option Environment) → KnowsScope f scope env → MaybeScoped f.variables (λ n. false) env o → MaybeKnowsScope f scope o
  same_known scope env None k h = tt
  same_known scope env (Some e) k h = record { exactly = λ n. h.same n refl ∙ k.exactly n }

  -- a statement that declares nothing itself
  plain_ends : (scope : List ℕ) (env : Environment) (a : Left) → KnowsScope f scope env → EndsScoped f.variables (λ n. false) env a → (x : PlainStatement) → in_scope_after scope x ≡ scope → EndsInScope f scope x a
  plain_ends scope env a k h x e = record {
    normal = subst (λ s. MaybeKnowsScope f s a.normal) (sym e) (same_known scope env a.normal k h.normal);
    breaks = same_known scope env a.breaks k h.breaks;
    continues = same_known scope env a.continues k h.continues;
    returns = same_known scope env a.returns k h.returns;
  }

  none_ends : (scope : List ℕ) (o : Option Environment) → o ≡ None → MaybeKnowsScope f scope o
  none_ends scope None e = tt
  none_ends scope (Some env) e = absurd cc

  -- ## Declarations

  false_of : (b : Bool) → (b ≡ true → ⊥) → b ≡ false
  false_of true h = absurd (h refl)
  false_of false h = refl

  -- whether the declared variable is known after its declaration
  this_known : (n : ℕ) (v : PlainVariable) (initializer : PlainInitializer) (env e : Environment) → slice_get f.variables n ≡ Some v → n < length env → (declared m n (Some v) initializer env).normal ≡ Some e →
      ((j : ℕ) → is_some (known e j) ≡ true → IsNumber f.variables j) → is_some (known e n) ≡ is_some (frame_integer (Some v))
  this_known n v initializer env e there low is numbers = by_test (v.frame && is_integer v.type) refl is ∙ sym (counts v)
    where
      by_test : (b : Bool) → (v.frame && is_integer v.type) ≡ b → (if b then integer_declared m n (integer_of v.type) initializer env else other_declared m initializer env).normal ≡ Some e → is_some (known e n) ≡ (v.frame && is_integer v.type)
      by_test true q is = subst (IsThere m n) is (integer_there m n (integer_of v.type) initializer env low) ∙ sym q
      by_test false q is = false_of (is_some (known e n)) (λ some.
          let number : IsNumber f.variables n = numbers n some in
          let same : v ≡ number.variable = same_Some _ _ (sym there ∙ number.there) in
          let both : (v.frame && is_integer v.type) ≡ true = ap (λ (w : PlainVariable). w.frame && is_integer w.type) same ∙ (ap (λ b. b && is_integer number.variable.type) number.frame_is ∙ number.integer_is) in
          let clash : true ≡ false = sym both ∙ q in absurd cc) ∙ sym q

  declared_known : (scope : List ℕ) (n : ℕ) (v : PlainVariable) (initializer : PlainInitializer) (env : Environment) → slice_get f.variables n ≡ Some v → n < length env → KnowsScope f scope env → (o : Option Environment) →
      (declared m n (Some v) initializer env).normal ≡ o → MaybeScoped f.variables (λ j. nat_eq j n) env o → MaybeKnowsScope f (scope ++ n ∷ []) o
  declared_known scope n v initializer env there low k None is h = tt
  declared_known scope n v initializer env there low k (Some e) is h = record { exactly = λ j. by_test j (nat_eq j n) refl }
    where
      here : is_some (known e n) ≡ is_some (counter_type f (scope ++ n ∷ []) n)
      here = this_known n v initializer env e there low is h.knows.each ∙ (ap (λ o. is_some (frame_integer o)) (sym there) ∙ sym (this_counter f scope n (eq-eqb n n refl)))

      by_test : (j : ℕ) (b : Bool) → nat_eq j n ≡ b → is_some (known e j) ≡ is_some (counter_type f (scope ++ n ∷ []) j)
      by_test j true q = subst (λ i. is_some (known e i) ≡ is_some (counter_type f (scope ++ n ∷ []) i)) (sym (eqb-true j n q)) here
      by_test j false q = h.same j q ∙ (k.exactly j ∙ sym (other_counter f scope n j q))

  declare_ends : (scope : List ℕ) (n : ℕ) (v : PlainVariable) (initializer : PlainInitializer) (env : Environment) → slice_get f.variables n ≡ Some v → n < length env → KnowsScope f scope env → (o : Option PlainVariable) → o ≡ Some v →
      EndsScoped f.variables (λ j. nat_eq j n) env (declared m n o initializer env) → (x : PlainStatement) → in_scope_after scope x ≡ scope ++ n ∷ [] → EndsInScope f scope x (declared m n o initializer env)
  declare_ends scope n v initializer env there low k None e h x s = absurd cc
  declare_ends scope n v initializer env there low k (Some u) e h x s =
      let same : u ≡ v = same_Some _ _ e in
      let quiet : EndsNormally (declared m n (Some u) initializer env) = declared_normally m n (Some u) initializer env in
      record {
        normal = subst (λ s. MaybeKnowsScope f s (declared m n (Some u) initializer env).normal) (sym s) (declared_known scope n u initializer env (there ∙ sym e) low k (declared m n (Some u) initializer env).normal refl h.normal);
        breaks = none_ends scope _ quiet.no_break;
        continues = none_ends scope _ quiet.no_continue;
        returns = none_ends scope _ quiet.no_return;
      }

  -- ## Statements

  module _ (scope : List ℕ) (in_loop in_switch : Bool) (env : Environment) (typed : AreOfTypes f.variables env) (k : KnowsScope f scope env) where
    ends : (x : PlainStatement) → IsWholeStatement (region_at p number f scope in_loop in_switch) x → EndsScoped f.variables (λ n. declares_here n x) env (pass_statement m x env) → EndsInScope f scope x (pass_statement m x env)
    ends (statement at (declare n initializer)) i h =
        let low : n < length f.variables = get_below f.variables n i.variable i.there in
        let places : length env ≡ length f.variables = typed.places in
        declare_ends scope n i.variable initializer env i.there (omega (arith, low, places)) k (slice_get f.variables n) i.there h (statement at (declare n initializer)) refl
    ends x i h = plain_ends scope env (pass_statement m x env) k h x refl

    known_ends : (x : PlainStatement) → IsWholeStatement (region_at p number f scope in_loop in_switch) x → AreNew scope (declared_in x) → EndsInScope f scope x (pass_statement m x env)
    known_ends x i new = ends x i (statement_scoped f.variables calls loops result (region_at p number f scope in_loop in_switch) x i env (new_before f scope (declared_in x) env new k))

pub passes_know_their_scope : PassesKnowTheirScope
passes_know_their_scope p number f calls loops result results claims scope in_loop in_switch x i new env typed k = known_ends p number f calls loops result scope in_loop in_switch env typed k x i new
