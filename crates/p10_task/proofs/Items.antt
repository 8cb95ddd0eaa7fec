-- The items of a body before one of them: their pass describes what their execution leaves, and their calls and loops keep claims.
use Rattle.std.proofs.Common.{◌≡◌, ℕ, zero, suc, Bool, false, List, ◌++◌, refl, subst, Option, Some, None, slice_get}
use Rattle.std.proofs.lemmas.Option.{same_Some, none-some}
use Rattle.p10_core.specs.Typed.{PlainStatement, PlainStatements, no_statements, more_statements, statements_list, PlainFunction, PlainProgram}
use Rattle.p10_core.specs.WholePrograms.{Region, after, declared_in, declared_of, IsWholeStatement, AreWholeStatements, IsWholeProgram}
use Rattle.p10_cert.specs.Claims.{Value, Loop, Claims}
use Rattle.p10_meaning.specs.States.{State}
use Rattle.p10_meaning.specs.Values.{Setting, Held}
use Rattle.p10_meaning.specs.Statements.{Frame, Flow, normal, broken, continued, returned, Done, go_on, execute, execute_from}
use Rattle.p10_meaning.specs.Calling.{Depth, setting_of, call_at}
use Rattle.p10_meaning.specs.Sound.{region_at}
use Rattle.p10_meaning.proofs.LaidOut.{laid_out}
use Rattle.p10_meaning.proofs.SoundStatements.{scope_after, after_is}
use Rattle.p10_meaning.proofs.SoundCalls.{few_variables, calls_keep}
use Rattle.p10_sums.specs.Counting.{Counting}
use Rattle.p10_sums.specs.Keeping.{HoldsOf, OnNormal, StatementKeeps, StatementsKeep}
use Rattle.p10_absx.specs.Environments.{Environment}
use Rattle.p10_absx.specs.Describing.{Describes, MaybeDescribes}
use Rattle.p10_pass.specs.Passing.{Left, Weakness, Manner, manner_in, where_going, pass_statement, pass_statements}
use Rattle.p10_evaluation.specs.Claimed.{IsCoveredCall, ResultsLie}
use Rattle.p10_execution.specs.Scoping.{IsBefore}
use Rattle.p10_execution.specs.Standing.{StandsSoundly}
use Rattle.p10_execution.specs.Leaving.{NoneFails, LeavesAs, Leaves}
use Rattle.p10_execution.proofs.Giving.{holds_then, holds_both, holds_weaker}
use Rattle.p10_execution.proofs.ScopedEnds.{Scoped, MaybeScoped, before_left, before_rest}
use Rattle.p10_execution.proofs.PassedScopes.{statement_scoped}
use Rattle.p10_execution.proofs.TopDeclarations.{declares_here}
use Rattle.p10_execution.proofs.Parts.{Left as Stands_after, statement_left}
use Rattle.p10_execution.proofs.Leaving.{statements_leave}
use Rattle.p10_task.specs.Coming.{items_before}
use Rattle.p10_task.proofs.Passes.{Stands, IsFine, fine_left, fine_right, fine_going}

-- each of the first items is ranked
abbrev pub AreRanked : (PlainStatement → Type 0) → ℕ → PlainStatements → Type 0
AreRanked Ranked i no_statements = Unit {0}
AreRanked Ranked zero (more_statements x rest) = Unit {0}
AreRanked Ranked (suc i) (more_statements x rest) = Ranked x × AreRanked Ranked i rest

-- where a state goes on with the next statement, an environment describes the frame
abbrev pub DescribesNext : PlainFunction → Option Environment → List Held → Done → Type 0
DescribesNext f o head d = d.flow ≡ normal → MaybeDescribes f.variables o head d.frame.held

-- after items: a state that stands soundly, and is described where it goes on
pub record AfterItems (p : PlainProgram) (n : ℕ) (f : PlainFunction) (o : Option Environment) (head : List Held) (d : Done) (w : State) : Type 0 where
  pub ready : StandsSoundly p f.variables n d.frame w
  pub describes : DescribesNext f o head d

module _ (p : PlainProgram) (whole : IsWholeProgram p) (n : ℕ) (depth : Depth) (number : ℕ) (f : PlainFunction) (there : slice_get p.functions number ≡ Some f)
    (c : Claims) (loops : List Loop) (result : Option Value) (lie : ResultsLie p (Some c) n (call_at n p depth)) (Stood : List Weakness → Type 0) (stands : Stands Stood) where
  abbrev pub s : Setting
  s = setting_of p n (call_at n p) depth f

  abbrev pub m : Manner
  m = manner_in f (Some c) (Some loops) result

  abbrev here : List ℕ → Region
  here scope = region_at p number f scope false false

  rest_whole : (x : PlainStatement) (rest : PlainStatements) (scope : List ℕ) → AreWholeStatements (after (here scope) x) rest → AreWholeStatements (here (scope_after x scope)) rest
  rest_whole x rest scope i =
      subst (λ r. AreWholeStatements r rest) (after_is p (laid_out p whole) whole (call_at n p depth) (calls_keep p whole n depth) n number f (few_variables p whole number f (whole.functions number f there)) x scope false false) i

  -- before the items after a statement
  next_before : (x : PlainStatement) (rest : PlainStatements) (scope : List ℕ) (env : Environment) → IsWholeStatement (here scope) x → IsBefore f.variables (declared_in x ++ declared_of rest) env → (e : Environment) → (pass_statement m x env).normal ≡ Some e → IsBefore f.variables (declared_of rest) e
  next_before x rest scope env i b e q = before_rest f.variables x rest env e b (scoped (pass_statement m x env).normal (statement_scoped f.variables (Some c) (Some loops) result (here scope) x i env (before_left f.variables (declared_in x) (declared_of rest) env b)).normal q)
    where
      scoped : (o : Option Environment) → MaybeScoped f.variables (λ k. declares_here k x) env o → o ≡ Some e → Scoped f.variables (λ k. declares_here k x) env e
      scoped None h q = absurd (none-some _ q)
      scoped (Some k) h q = subst (λ e. Scoped f.variables (λ k. declares_here k x) env e) (same_Some _ _ q) h

  -- ## An item

  -- where the pass comes to an item
  pub record ComesTo (x : PlainStatement) (e : Environment) : Type 0 where
    pub scope : List ℕ
    pub item : IsWholeStatement (here scope) x
    pub before : IsBefore f.variables (declared_in x) e
    pub fine : IsFine Stood (pass_statement m x e)

  pub comes_to : (xs : PlainStatements) (i : ℕ) (scope : List ℕ) → AreWholeStatements (here scope) xs → (env : Environment) → IsBefore f.variables (declared_of xs) env → IsFine Stood (pass_statements m xs env) →
      (x : PlainStatement) → slice_get (statements_list xs) i ≡ Some x → (e : Environment) → (pass_statements m (items_before i xs) env).normal ≡ Some e → ComesTo x e
  comes_to no_statements i scope w env b h x at e q = absurd (none-some _ at)
  comes_to (more_statements y rest) zero scope w env b h x at e q =
      subst (λ x. ComesTo x e) (same_Some _ _ at) (subst (λ e. ComesTo y e) (same_Some _ _ q)
      (record { scope = scope; item = w.0; before = before_left f.variables (declared_in y) (declared_of rest) env b; fine = fine_left Stood stands (pass_statement m y env) _ h }))
  comes_to (more_statements y rest) (suc i) scope w env b h x at e q =
      on (pass_statement m y env).normal refl q (λ k r. comes_to rest i (scope_after y scope) (rest_whole y rest scope w.1) k (next_before y rest scope env w.0 b k r)
      (fine_going Stood stands (pass_statement m y env).normal (λ env. pass_statements m rest env) k r (fine_right Stood stands (pass_statement m y env) _ h)) x at e)
    where
      on : (o : Option Environment) → (pass_statement m y env).normal ≡ o → (where_going o (λ env. pass_statements m (items_before i rest) env)).normal ≡ Some e →
          ((k : Environment) → (pass_statement m y env).normal ≡ Some k → (pass_statements m (items_before i rest) k).normal ≡ Some e → ComesTo x e) → ComesTo x e
      on None r q go = absurd (none-some _ q)
      on (Some k) r q go = go k r q

  -- ## What their execution leaves

  abbrev After : Option Environment → List Held → Done → State → Type 0
  After o head d w = AfterItems p n f o head d w

  statement_after : (scope : List ℕ) (x : PlainStatement) → IsWholeStatement (here scope) x → (env : Environment) → IsBefore f.variables (declared_in x) env → NoneFails (pass_statement m x env) →
      (head : List Held) (frame : Frame) (w : State) → StandsSoundly p f.variables n frame w → Describes f.variables env head frame.held → HoldsOf (After (pass_statement m x env).normal head) (execute s x frame w)
  statement_after scope x i env b none head frame w r d =
      holds_weaker (λ d w. Stands_after p whole n depth number f there d w × Leaves f.variables m (pass_statement m x env) head d w) (After (pass_statement m x env).normal head) (execute s x frame w)
      (holds_both (Stands_after p whole n depth number f there) (Leaves f.variables m (pass_statement m x env) head) (execute s x frame w)
      (statement_left p whole n depth number f there scope false false x i frame w r)
      (statements_leave p whole n depth number f there (Some c) (Some loops) result lie scope false false x i env b none head frame w r d).given)
      (λ d w h. record { ready = h.0.ready; describes = next d.flow d.frame h.1.as_said })
    where
      next : (flow : Flow) (frame : Frame) → LeavesAs f.variables m (pass_statement m x env) head flow frame.held → flow ≡ normal → MaybeDescribes f.variables (pass_statement m x env).normal head frame.held
      next normal frame h q = h
      next broken frame h q = absurd cc
      next continued frame h q = absurd cc
      next (returned y) frame h q = absurd cc

  -- statements are executed where an environment describes what came before them
  abbrev Leave : PlainStatements → Environment → List Held → Type 0
  Leave xs env head = (frame : Frame) (w : State) → StandsSoundly p f.variables n frame w → Describes f.variables env head frame.held → HoldsOf (After (pass_statements m xs env).normal head) (execute_from s 0 xs frame w)

  item_leaves : (scope : List ℕ) (x : PlainStatement) → IsWholeStatement (here scope) x → (xs : PlainStatements) (env : Environment) → IsBefore f.variables (declared_in x) env → NoneFails (pass_statement m x env) →
      (head : List Held) → ((e : Environment) → (pass_statement m x env).normal ≡ Some e → Leave xs e head) → Leave (more_statements x xs) env head
  item_leaves scope x i xs env b none head rest frame w r d =
      holds_then (After a.normal head) (After (on a.normal).normal head) (execute s x frame w) _ (statement_after scope x i env b none head frame w r d) (λ d w h. leaves_on d.flow d.frame w h.ready h.describes)
    where
      a : Left
      a = pass_statement m x env

      on : Option Environment → Left
      on o = where_going o (λ env. pass_statements m xs env)

      next : (o : Option Environment) → a.normal ≡ o → (mid : Frame) (w : State) → StandsSoundly p f.variables n mid w → MaybeDescribes f.variables o head mid.held → HoldsOf (After (on o).normal head) (execute_from s 0 xs mid w)
      next None q mid w r d = absurd d
      next (Some e) q mid w r d = rest e q mid w r d

      leaves_on : (flow : Flow) (mid : Frame) (w : State) → StandsSoundly p f.variables n mid w → (flow ≡ normal → MaybeDescribes f.variables a.normal head mid.held) → HoldsOf (After (on a.normal).normal head) (go_on flow mid w (λ frame w. execute_from s 0 xs frame w))
      leaves_on normal mid w r d = next a.normal refl mid w r (d refl)
      leaves_on broken mid w r d = record { ready = r; describes = λ q. absurd cc }
      leaves_on continued mid w r d = record { ready = r; describes = λ q. absurd cc }
      leaves_on (returned y) mid w r d = record { ready = r; describes = λ q. absurd cc }

  pub items_leave : (xs : PlainStatements) (i : ℕ) (scope : List ℕ) → AreWholeStatements (here scope) xs → (env : Environment) → IsBefore f.variables (declared_of xs) env → IsFine Stood (pass_statements m xs env) → (head : List Held) → Leave (items_before i xs) env head
  items_leave no_statements zero scope i env b h head frame w r d = record { ready = r; describes = λ q. d }
  items_leave no_statements (suc k) scope i env b h head frame w r d = record { ready = r; describes = λ q. d }
  items_leave (more_statements x rest) zero scope i env b h head frame w r d = record { ready = r; describes = λ q. d }
  items_leave (more_statements x rest) (suc k) scope i env b h head frame w r d =
      item_leaves scope x i.0 (items_before k rest) env (before_left f.variables (declared_in x) (declared_of rest) env b) (fine_left Stood stands (pass_statement m x env) _ h).none head
      (λ e q mid u r d. items_leave rest k (scope_after x scope) (rest_whole x rest scope i.1) e (next_before x rest scope env i.0 b e q)
      (fine_going Stood stands (pass_statement m x env).normal (λ env. pass_statements m rest env) e q (fine_right Stood stands (pass_statement m x env) _ h)) head mid u r d) frame w r d

  -- ## Their calls and loops

  module _ (counting : Counting) (Ranked : PlainStatement → Type 0)
      (kept : (scope : List ℕ) (l b : Bool) (x : PlainStatement) → IsWholeStatement (region_at p number f scope l b) x → Ranked x → (env : Environment) → IsBefore f.variables (declared_in x) env → IsFine Stood (pass_statement m x env) →
      (head : List Held) (frame : Frame) (w : State) → StandsSoundly p f.variables n frame w → Describes f.variables env head frame.held → StatementKeeps counting s (IsCoveredCall p (Some c) n) x frame w) where
    abbrev Keep : PlainStatements → Environment → List Held → Type 0
    Keep xs env head = (frame : Frame) (w : State) → StandsSoundly p f.variables n frame w → Describes f.variables env head frame.held → StatementsKeep counting s (IsCoveredCall p (Some c) n) 0 xs frame w

    item_keeps : (scope : List ℕ) (x : PlainStatement) → IsWholeStatement (here scope) x → Ranked x → (xs : PlainStatements) (env : Environment) → IsBefore f.variables (declared_in x) env → IsFine Stood (pass_statement m x env) →
        (head : List Held) → ((e : Environment) → (pass_statement m x env).normal ≡ Some e → Keep xs e head) → Keep (more_statements x xs) env head
    item_keeps scope x i ranked xs env b fine head rest frame w r d = (
      kept scope false false x i ranked env b fine head frame w r d,
      record {
        given = holds_weaker (After a.normal head) (λ (d : Done) w. OnNormal d.flow (StatementsKeep counting s (IsCoveredCall p (Some c) n) 0 xs d.frame w)) (execute s x frame w)
            (statement_after scope x i env b fine.none head frame w r d) (λ d w a. keeps_on d.flow d.frame w a.ready a.describes);
      },
    )
      where
        a : Left
        a = pass_statement m x env

        next : (o : Option Environment) → a.normal ≡ o → (mid : Frame) (w : State) → StandsSoundly p f.variables n mid w → MaybeDescribes f.variables o head mid.held → StatementsKeep counting s (IsCoveredCall p (Some c) n) 0 xs mid w
        next None q mid w r d = absurd d
        next (Some e) q mid w r d = rest e q mid w r d

        keeps_on : (flow : Flow) (mid : Frame) (w : State) → StandsSoundly p f.variables n mid w → (flow ≡ normal → MaybeDescribes f.variables a.normal head mid.held) → OnNormal flow (StatementsKeep counting s (IsCoveredCall p (Some c) n) 0 xs mid w)
        keeps_on normal mid w r d = next a.normal refl mid w r (d refl)
        keeps_on broken mid w r d = tt
        keeps_on continued mid w r d = tt
        keeps_on (returned y) mid w r d = tt

    pub items_keep : (xs : PlainStatements) (i : ℕ) (scope : List ℕ) → AreWholeStatements (here scope) xs → AreRanked Ranked i xs → (env : Environment) → IsBefore f.variables (declared_of xs) env → IsFine Stood (pass_statements m xs env) → (head : List Held) → Keep (items_before i xs) env head
    items_keep no_statements zero scope i ranked env b h head frame w r d = tt
    items_keep no_statements (suc k) scope i ranked env b h head frame w r d = tt
    items_keep (more_statements x rest) zero scope i ranked env b h head frame w r d = tt
    items_keep (more_statements x rest) (suc k) scope i ranked env b h head frame w r d =
        item_keeps scope x i.0 ranked.0 (items_before k rest) env (before_left f.variables (declared_in x) (declared_of rest) env b) (fine_left Stood stands (pass_statement m x env) _ h) head
        (λ e q mid u r d. items_keep rest k (scope_after x scope) (rest_whole x rest scope i.1) ranked.1 e (next_before x rest scope env i.0 b e q)
        (fine_going Stood stands (pass_statement m x env).normal (λ env. pass_statements m rest env) e q (fine_right Stood stands (pass_statement m x env) _ h)) head mid u r d) frame w r d
