-- The items of a body before one of them, and that item: what holds of all of the body holds of them.
use Rattle.std.proofs.Common.{◌≡◌, ℕ, zero, suc, false, List, [], ◌++◌, append_assoc, refl, ◌∙◌, ap, sym, subst, Option, Some, None, slice_get}
use Rattle.std.proofs.lemmas.Option.{same_Some, none-some}
use Rattle.p10_core.specs.Typed.{PlainStatement, PlainStatements, no_statements, more_statements, statements_list, PlainVariable, PlainFunction, PlainProgram}
use Rattle.p10_core.specs.WholePrograms.{Region, after, declared_in, declared_of, IsWholeStatement, AreWholeStatements, IsWholeProgram}
use Rattle.p10_cert.specs.Claims.{Value, Loop, Claims}
use Rattle.p10_meaning.specs.Calling.{Depth, call_at}
use Rattle.p10_meaning.specs.Sound.{region_at}
use Rattle.p10_meaning.proofs.SoundStatements.{scope_after, scope_after_all}
use Rattle.p10_absx.specs.Environments.{Environment}
use Rattle.p10_pass.specs.Arguments.{where_reached}
use Rattle.p10_pass.specs.Passing.{Left, Manner, manner_in, where_going, followed, pass_statement, pass_statements}
use Rattle.p10_evaluation.specs.Claimed.{ResultsLie}
use Rattle.p10_execution.specs.Scoping.{IsBefore}
use Rattle.p10_execution.specs.Leaving.{NoneFails}
use Rattle.p10_execution.proofs.Composing.{after_here}
use Rattle.p10_execution.proofs.Ends.{nothing_left, nothing_right, followed_none_left, followed_none_right}
use Rattle.p10_execution.proofs.PassedScopes.{statement_scoped}
use Rattle.p10_execution.proofs.ScopedEnds.{Scoped, MaybeScoped, before_left, before_rest}
use Rattle.p10_execution.proofs.TopDeclarations.{declares_here}
use Rattle.p10_task.specs.Coming.{items_before}
use Rattle.p10_clean.specs.Settings.{Settings, ways_of, ways_of_all}
use Rattle.p10_clean.specs.Statements.{flaws_in_statement, flaws_in_statements}
use Rattle.p10_clean_soundness.specs.private.Setting.{AreApart}
use Rattle.p10_clean_soundness.proofs.Apart.{apart_left, apart_after}

-- ## Lists

nothing_both : {A : Type 0} (xs ys : List A) → xs ≡ [] → ys ≡ [] → xs ++ ys ≡ []
nothing_both xs ys e h = ap (λ xs. xs ++ ys) e ∙ h

followed_none : (a b : Left) → NoneFails a → NoneFails b → NoneFails (followed a b)
followed_none a b h k = record {
  arguments = nothing_both a.arguments b.arguments h.arguments k.arguments;
  results = nothing_both a.results b.results h.results k.results;
  entries = nothing_both a.entries b.entries h.entries k.entries;
  backs = nothing_both a.backs b.backs h.backs k.backs;
}

-- ## The items before one

pub whole_before : (xs : PlainStatements) (i : ℕ) (r : Region) → AreWholeStatements r xs → AreWholeStatements r (items_before i xs)
whole_before no_statements zero r h = tt
whole_before no_statements (suc i) r h = tt
whole_before (more_statements x rest) zero r h = tt
whole_before (more_statements x rest) (suc i) r h = (h.0, whole_before rest i (after r x) h.1)

-- they declare the first of the numbers
pub declared_first : (xs : PlainStatements) (i : ℕ) → (rest : List ℕ) × (declared_of xs ≡ declared_of (items_before i xs) ++ rest)
declared_first no_statements zero = ([], refl)
declared_first no_statements (suc i) = ([], refl)
declared_first (more_statements x rest) zero = (declared_of (more_statements x rest), refl)
declared_first (more_statements x rest) (suc i) =
    let more = declared_first rest i in
    (more.0, ap (λ ns. declared_in x ++ ns) more.1 ∙ sym (append_assoc (declared_in x) (declared_of (items_before i rest)) more.0))

pub apart_before : (xs : PlainStatements) (i : ℕ) (scope : List ℕ) → AreApart scope (declared_of xs) → AreApart scope (declared_of (items_before i xs))
apart_before xs i scope h = let first = declared_first xs i in apart_left scope (declared_of (items_before i xs)) first.0 (subst (λ ns. AreApart scope ns) first.1 h)

pub before_items : (variables : List PlainVariable) (xs : PlainStatements) (i : ℕ) (env : Environment) → IsBefore variables (declared_of xs) env → IsBefore variables (declared_of (items_before i xs)) env
before_items variables xs i env h = let first = declared_first xs i in before_left variables (declared_of (items_before i xs)) first.0 env (subst (λ ns. IsBefore variables ns env) first.1 h)

module _ (m : Manner) where
  none_going : (o : Option Environment) (go other : Environment → Left) → ((e : Environment) → NoneFails (go e) → NoneFails (other e)) → NoneFails (where_going o go) → NoneFails (where_going o other)
  none_going None go other k h = h
  none_going (Some e) go other k h = k e h

  pub none_before : (xs : PlainStatements) (i : ℕ) (env : Environment) → NoneFails (pass_statements m xs env) → NoneFails (pass_statements m (items_before i xs) env)
  none_before no_statements zero env h = h
  none_before no_statements (suc i) env h = h
  none_before (more_statements x rest) zero env h = record { arguments = refl; results = refl; entries = refl; backs = refl }
  none_before (more_statements x rest) (suc i) env h =
      let a : Left = pass_statement m x env in
      let b : Left = where_going a.normal (λ env. pass_statements m rest env) in
      followed_none a (where_going a.normal (λ env. pass_statements m (items_before i rest) env)) (followed_none_left a b h)
      (none_going a.normal (λ env. pass_statements m rest env) (λ env. pass_statements m (items_before i rest) env) (λ e k. none_before rest i e k) (followed_none_right a b h))

  reached_nothing : {A : Type 0} (o : Option Environment) (go other : Environment → List A) → ((e : Environment) → go e ≡ [] → other e ≡ []) → where_reached o go ≡ [] → where_reached o other ≡ []
  reached_nothing None go other k h = refl
  reached_nothing (Some e) go other k h = k e h

  pub flaws_before : (xs : PlainStatements) (i : ℕ) (settings : Settings) (env : Environment) → flaws_in_statements m xs settings env ≡ [] → flaws_in_statements m (items_before i xs) settings env ≡ []
  flaws_before no_statements zero settings env h = refl
  flaws_before no_statements (suc i) settings env h = refl
  flaws_before (more_statements x rest) zero settings env h = refl
  flaws_before (more_statements x rest) (suc i) settings env h =
      let here : List _ = flaws_in_statement m x settings env in
      nothing_both here (where_reached (pass_statement m x env).normal (λ env. flaws_in_statements m (items_before i rest) (ways_of x settings).normal env)) (nothing_left here _ h)
      (reached_nothing (pass_statement m x env).normal (λ env. flaws_in_statements m rest (ways_of x settings).normal env) (λ env. flaws_in_statements m (items_before i rest) (ways_of x settings).normal env)
      (λ e k. flaws_before rest i (ways_of x settings).normal e k) (nothing_right here _ h))

-- ## The item

module _ (p : PlainProgram) (whole : IsWholeProgram p) (n : ℕ) (depth : Depth) (number : ℕ) (f : PlainFunction) (there : slice_get p.functions number ≡ Some f)
    (calls : Option Claims) (loops : Option (List Loop)) (result : Option Value) (lie : ResultsLie p calls n (call_at n p depth)) where
  abbrev m : Manner
  m = manner_in f calls loops result

  abbrev here : List ℕ → Region
  here scope = region_at p number f scope false false

  -- what holds where the pass comes to an item
  pub record ItemAt (x : PlainStatement) (scope : List ℕ) (settings : Settings) (env : Environment) : Type 0 where
    pub item : IsWholeStatement (region_at p number f scope false false) x
    pub before : IsBefore f.variables (declared_in x) env
    pub none : NoneFails (pass_statement (manner_in f calls loops result) x env)
    pub flaws : flaws_in_statement (manner_in f calls loops result) x settings env ≡ []
    pub apart : AreApart scope (declared_in x)

  pub item_at : (xs : PlainStatements) (i : ℕ) (scope : List ℕ) → AreWholeStatements (region_at p number f scope false false) xs → (env : Environment) → IsBefore f.variables (declared_of xs) env → NoneFails (pass_statements (manner_in f calls loops result) xs env) → (settings : Settings) →
      flaws_in_statements (manner_in f calls loops result) xs settings env ≡ [] → AreApart scope (declared_of xs) → (x : PlainStatement) → slice_get (statements_list xs) i ≡ Some x → (e : Environment) → (pass_statements (manner_in f calls loops result) (items_before i xs) env).normal ≡ Some e →
      ItemAt x (scope_after_all (items_before i xs) scope) (ways_of_all (items_before i xs) settings).normal e
  item_at no_statements i scope w env b none settings flaws apart x at e q = absurd (none-some _ at)
  item_at (more_statements y rest) zero scope w env b none settings flaws apart x at e q =
      subst (λ x. ItemAt x scope settings e) (same_Some _ _ at) (subst (λ e. ItemAt y scope settings e) (same_Some _ _ q) (record {
        item = w.0;
        before = before_left f.variables (declared_in y) (declared_of rest) env b;
        none = followed_none_left (pass_statement m y env) (where_going (pass_statement m y env).normal (λ env. pass_statements m rest env)) none;
        flaws = nothing_left (flaws_in_statement m y settings env) _ flaws;
        apart = apart_left scope (declared_in y) (declared_of rest) apart;
      }))
  item_at (more_statements y rest) (suc i) scope w env b none settings flaws apart x at e q =
      on a.normal (statement_scoped f.variables calls loops result (here scope) y w.0 env (before_left f.variables (declared_in y) (declared_of rest) env b)).normal
      (followed_none_right a (where_going a.normal (λ env. pass_statements m rest env)) none) (nothing_right (flaws_in_statement m y settings env) _ flaws) q
      (λ k scoped none flaws q. item_at rest i (scope_after y scope) (subst (λ r. AreWholeStatements r rest) (after_here p whole n depth number f there calls loops result lie y scope false false) w.1) k
      (before_rest f.variables y rest env k b scoped) none (ways_of y settings).normal flaws (apart_after y scope (declared_of rest) b.once apart) x at e q)
    where
      a : Left
      a = pass_statement m y env

      on : (o : Option Environment) → MaybeScoped f.variables (λ k. declares_here k y) env o → NoneFails (where_going o (λ env. pass_statements m rest env)) → where_reached o (λ env. flaws_in_statements m rest (ways_of y settings).normal env) ≡ [] →
          (where_going o (λ env. pass_statements m (items_before i rest) env)).normal ≡ Some e →
          ((k : Environment) → Scoped f.variables (λ n. declares_here n y) env k → NoneFails (pass_statements m rest k) → flaws_in_statements m rest (ways_of y settings).normal k ≡ [] → (pass_statements m (items_before i rest) k).normal ≡ Some e →
          ItemAt x (scope_after_all (items_before i rest) (scope_after y scope)) (ways_of_all (items_before i rest) (ways_of y settings).normal).normal e) →
          ItemAt x (scope_after_all (items_before i rest) (scope_after y scope)) (ways_of_all (items_before i rest) (ways_of y settings).normal).normal e
      on None scoped none flaws q go = absurd (none-some _ q)
      on (Some k) scoped none flaws q go = go k scoped none flaws q
