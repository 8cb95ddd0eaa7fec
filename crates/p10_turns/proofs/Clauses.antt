-- What the parts of a loop leave, by the law of statements: a test, the body, and the third clause, whose statements are expressions.
use Rattle.std.proofs.Common.{◌≡◌, ℕ, suc, ◌≤◌, Bool, true, false, List, [], refl, subst, arith, Option, Some, None, slice_get}
use Rattle.p10_core.specs.Typed.{PlainValue, type_of, PlainStatement, statement, set, update, copy, evaluate as expression, asserts, PlainStatements, no_statements, more_statements, PlainFunction, PlainProgram}
use Rattle.p10_core.specs.WholePrograms.{Region, around, after, is_expression, AllOf, declared_in, declared_of, IsMaybeTest, IsWholeStatement, AreWholeStatements, IsWholeProgram}
use Rattle.p10_cert.specs.Claims.{Value, Loop, Claims}
use Rattle.p10_meaning.specs.States.{State}
use Rattle.p10_meaning.specs.Values.{Setting, Held, evaluate}
use Rattle.p10_meaning.specs.Statements.{Frame, Flow, normal, broken, continued, returned, Done, go_on, test, execute, execute_from}
use Rattle.p10_meaning.specs.Calling.{Depth, setting_of, call_at}
use Rattle.p10_meaning.specs.Sound.{Fits, region_at}
use Rattle.p10_sums.specs.Keeping.{HoldsOf}
use Rattle.p10_absx.specs.Environments.{Environment}
use Rattle.p10_absx.specs.Assessing.{assess, known_where}
use Rattle.p10_absx.specs.Describing.{MaybeDescribes}
use Rattle.p10_pass.specs.Passing.{Left, Manner, manner_in, where_going, tested_in, tested_reached, pass_statement, pass_statements}
use Rattle.p10_evaluation.specs.Claimed.{ResultsLie}
use Rattle.p10_evaluation.specs.Laws.{IsFound}
use Rattle.p10_evaluation.proofs.WholeFunctions.{values_found}
use Rattle.p10_execution.specs.Scoping.{KnowsNumbers, IsBefore}
use Rattle.p10_execution.specs.Standing.{StandsSoundly}
use Rattle.p10_execution.specs.Leaving.{NoneFails, LeavesAs, Leaves}
use Rattle.p10_execution.proofs.Giving.{holds_step, holds_then, holds_both, holds_weaker}
use Rattle.p10_execution.proofs.Ends.{nothing_left, nothing_right, followed_none_left, followed_none_right}
use Rattle.p10_execution.proofs.TopDeclarations.{declares_here}
use Rattle.p10_execution.proofs.ScopedEnds.{MaybeScoped, before_nothing}
use Rattle.p10_execution.proofs.PassedScopes.{statement_scoped}
use Rattle.p10_execution.proofs.Expressions.{GoesOn, expression_goes}
use Rattle.p10_execution.proofs.Leaving.{statements_leave}
use Rattle.p10_execution.proofs.Parts.{Given, value_given, Left as Stood, statement_left}

-- an expression brings nothing into scope
expression_stays : (r : Region) (x : PlainStatement) → is_expression x ≡ true → after r x ≡ r
expression_stays r (statement at (set q v)) e = refl
expression_stays r (statement at (update kind op t q v)) e = refl
expression_stays r (statement at (copy q u)) e = refl
expression_stays r (statement at (expression v)) e = refl
expression_stays r (statement at (asserts call v)) e = refl
expression_stays r x e = absurd cc

less : (left now n : ℕ) → suc left ≡ now → now ≤ n → left ≤ n
less left now n e l = omega (arith, e, l)

module _ (p : PlainProgram) (whole : IsWholeProgram p) (n : ℕ) (depth : Depth) (number : ℕ) (f : PlainFunction) (there : slice_get p.functions number ≡ Some f)
    (calls : Option Claims) (loops : Option (List Loop)) (result : Option Value) (lie : ResultsLie p calls n (call_at n p depth)) where
  abbrev pub s : Setting
  s = setting_of p n (call_at n p) depth f

  abbrev pub m : Manner
  m = manner_in f calls loops result

  abbrev pub Stand : Frame → State → Type 0
  Stand frame w = StandsSoundly p f.variables n frame w

  -- a frame that an environment describes, where the head had some values
  pub record IsIn (o : Option Environment) (head : List Held) (frame : Frame) (w : State) : Type 0 where
    pub ready : Stand frame w
    pub describes : MaybeDescribes f.variables o head frame.held

  -- ## Tests

  -- after a test that is true
  abbrev pub WhereTrue : Option Environment → List Held → Frame → Bool → State → Type 0
  WhereTrue truth head frame more w = more ≡ true → IsIn truth head frame w

  test_goes : (scope : List ℕ) (tested : Option PlainValue) → IsMaybeTest (around (region_at p number f scope false false)) tested → (env : Environment) (head : List Held) (frame : Frame) (w : State) → (tested_in m tested env).names ≡ [] → IsIn (Some env) head frame w →
      HoldsOf (WhereTrue (tested_in m tested env).truth head frame) (test s tested frame w)
  test_goes scope None i env head frame w none h = holds_step (WhereTrue (Some env) head frame) w _ (λ left e q.
      record { ready = record { kinds = h.ready.kinds; sound = h.ready.sound; fits = h.ready.fits; in_frame = h.ready.in_frame; left = less left w.left n e h.ready.left }; describes = h.describes })
  test_goes scope (Some v) i env head frame w none h =
      holds_then (λ x w. Given p whole n depth number f there (λ ks. Fits p ks (type_of v)) frame x w × IsFound calls v f.variables env head frame.held x) (WhereTrue (known_where true env (assess calls v env)) head frame) (evaluate s frame.held v w) _
      (holds_both (Given p whole n depth number f there (λ ks. Fits p ks (type_of v)) frame) (λ x w. IsFound calls v f.variables env head frame.held x) (evaluate s frame.held v w)
      (value_given p whole n depth number f there scope v i.whole frame w h.ready)
      (values_found p whole calls n depth lie number f there scope v i.whole env head frame.held h.ready.kinds w (record { sound = h.ready.sound; fits = h.ready.fits; describes = h.describes; few = h.ready.left }) none).given)
      (λ x w g q. record { ready = g.0.ready; describes = subst (λ t. MaybeDescribes f.variables (known_where t env (assess calls v env)) head frame.held) q g.1.known })

  -- the same where states may not come
  pub test_on : (scope : List ℕ) (tested : Option PlainValue) → IsMaybeTest (around (region_at p number f scope false false)) tested → (o : Option Environment) (head : List Held) (frame : Frame) (w : State) → (tested_reached m tested o).names ≡ [] → IsIn o head frame w →
      HoldsOf (WhereTrue (tested_reached m tested o).truth head frame) (test s tested frame w)
  test_on scope tested i None head frame w none h = absurd h.describes
  test_on scope tested i (Some env) head frame w none h = test_goes scope tested i env head frame w none h

  -- ## Statements

  -- a statement leaves a frame that fits, and what a pass says
  pub record Went (a : Left) (head : List Held) (d : Done) (w : State) : Type 0 where
    pub ready : Stand d.frame w
    pub as_said : LeavesAs f.variables m a head d.flow d.frame.held

  pub statement_goes : (scope : List ℕ) (l b : Bool) (x : PlainStatement) → IsWholeStatement (region_at p number f scope l b) x → (env : Environment) → IsBefore f.variables (declared_in x) env → NoneFails (pass_statement m x env) →
      (head : List Held) (frame : Frame) (w : State) → IsIn (Some env) head frame w → HoldsOf (Went (pass_statement m x env) head) (execute s x frame w)
  statement_goes scope l b x i env before none head frame w h =
      holds_weaker (λ (d : Done) w. Leaves f.variables m (pass_statement m x env) head d w × Stood p whole n depth number f there d w) (Went (pass_statement m x env) head) (execute s x frame w)
      (holds_both (Leaves f.variables m (pass_statement m x env) head) (Stood p whole n depth number f there) (execute s x frame w)
      (statements_leave p whole n depth number f there calls loops result lie scope l b x i env before none head frame w h.ready h.describes).given
      (statement_left p whole n depth number f there scope l b x i frame w h.ready))
      (λ d w g. record { ready = g.1.ready; as_said = g.0.as_said })

  -- ## The third clause

  -- expressions go on with the next statement
  abbrev pub GoesTo : Option Environment → List Held → Done → State → Type 0
  GoesTo o head d w = IsIn o head d.frame w × (d.flow ≡ normal)

  expression_leads : (a : Left) (head : List Held) (flow : Flow) (frame : Frame) (w : State) → flow ≡ normal → Stand frame w → LeavesAs f.variables m a head flow frame.held → IsIn a.normal head frame w
  expression_leads a head normal frame w e r h = record { ready = r; describes = h }
  expression_leads a head broken frame w e r h = absurd cc
  expression_leads a head continued frame w e r h = absurd cc
  expression_leads a head (returned x) frame w e r h = absurd cc

  -- statements after one that goes on
  rest_goes : (rest : PlainStatements) (o : Option Environment) (head : List Held) (flow : Flow) (frame : Frame) (w : State) → flow ≡ normal →
      HoldsOf (GoesTo o head) (execute_from s 0 rest frame w) → HoldsOf (GoesTo o head) (go_on flow frame w (λ frame w. execute_from s 0 rest frame w))
  rest_goes rest o head normal frame w e k = k
  rest_goes rest o head broken frame w e k = absurd cc
  rest_goes rest o head continued frame w e k = absurd cc
  rest_goes rest o head (returned x) frame w e k = absurd cc

  rest_from : (rest : PlainStatements) (o : Option Environment) (head : List Held) (frame : Frame) (w : State) → IsIn o head frame w →
      ((e : Environment) → o ≡ Some e → IsIn (Some e) head frame w → HoldsOf (GoesTo (pass_statements m rest e).normal head) (execute_from s 0 rest frame w)) →
      HoldsOf (GoesTo (where_going o (λ env. pass_statements m rest env)).normal head) (execute_from s 0 rest frame w)
  rest_from rest None head frame w h k = absurd h.describes
  rest_from rest (Some e) head frame w h k = k e refl h

  scoped_knows : (but : ℕ → Bool) (env : Environment) (o : Option Environment) (e : Environment) → o ≡ Some e → MaybeScoped f.variables but env o → KnowsNumbers f.variables e
  scoped_knows but env None e q h = absurd cc
  scoped_knows but env (Some other) e q h = let same : other ≡ e = cc in subst (λ e. KnowsNumbers f.variables e) same h.knows

  pub expressions_goes : (scope : List ℕ) (l b : Bool) (xs : PlainStatements) → AreWholeStatements (region_at p number f scope l b) xs → AllOf is_expression xs → declared_of xs ≡ [] → (env : Environment) → KnowsNumbers f.variables env →
      NoneFails (pass_statements m xs env) → (head : List Held) (frame : Frame) (w : State) → IsIn (Some env) head frame w → HoldsOf (GoesTo (pass_statements m xs env).normal head) (execute_from s 0 xs frame w)
  expressions_goes scope l b no_statements i e d env knows none head frame w h = (h, refl)
  expressions_goes scope l b (more_statements x rest) i e d env knows none head frame w h =
      let a : Left = pass_statement m x env in
      let next : Left = where_going a.normal (λ env. pass_statements m rest env) in
      let before : IsBefore f.variables (declared_in x) env = before_nothing f.variables (declared_in x) env (nothing_left (declared_in x) (declared_of rest) d) knows in
      holds_then (λ (d : Done) w. Went a head d w × GoesOn d w) (GoesTo next.normal head) (execute s x frame w) _
      (holds_both (Went a head) GoesOn (execute s x frame w) (statement_goes scope l b x i.0 env before (followed_none_left a next none) head frame w h) (expression_goes s x e.0 frame w))
      (λ done w g. rest_goes rest next.normal head done.flow done.frame w g.1 (rest_from rest a.normal head done.frame w (expression_leads a head done.flow done.frame w g.1 g.0.ready g.0.as_said)
      (λ env2 q h. expressions_goes scope l b rest (subst (λ r. AreWholeStatements r rest) (expression_stays (region_at p number f scope l b) x e.0) i.1) e.1 (nothing_right (declared_in x) (declared_of rest) d) env2
      (scoped_knows (λ k. declares_here k x) env a.normal env2 q (statement_scoped f.variables calls loops result (region_at p number f scope l b) x i.0 env before).normal)
      (subst (λ o. NoneFails (where_going o (λ env. pass_statements m rest env))) q (followed_none_right a next none)) head done.frame w h)))
