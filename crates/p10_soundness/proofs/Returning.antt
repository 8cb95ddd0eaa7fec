-- What the body of a function returns lies in what is claimed of its result.
use Rattle.std.proofs.Common.{◌≡◌, ℕ, false, List, ◌++◌, refl, subst, ℤ, Option, Some, None, slice_get}
use Rattle.std.proofs.lemmas.Option.{same_Some, none-some}
use Rattle.p10_range.proofs.Holding.{value_member}
use Rattle.p10_core.specs.Types.{PlainType}
use Rattle.p10_core.specs.Constants.{integer_of}
use Rattle.p10_core.specs.Typed.{PlainStatement, PlainStatements, no_statements, more_statements, PlainFunction, PlainProgram}
use Rattle.p10_core.specs.WholePrograms.{Region, after, declared_in, declared_of, IsWholeStatement, AreWholeStatements, IsWholeProgram}
use Rattle.p10_cert.specs.Claims.{Value, Number, Address, Nothing, Func, Loop, Claims}
use Rattle.p10_meaning.specs.declared.pointers.Scalar.{Scalar}
use Rattle.p10_meaning.specs.declared.pointers.Scalar.TheVariants.{Int, Pointer}
use Rattle.p10_meaning.specs.States.{State}
use Rattle.p10_meaning.specs.Values.{Setting, Held}
use Rattle.p10_meaning.specs.Statements.{Frame, Flow, normal, broken, continued, returned, Done, go_on, execute, execute_from}
use Rattle.p10_meaning.specs.Calling.{Depth, given, setting_of, call_at}
use Rattle.p10_meaning.specs.Sound.{Kind, MaybeFits, FlowFits, region_at}
use Rattle.p10_meaning.proofs.LaidOut.{laid_out}
use Rattle.p10_meaning.proofs.SoundStatements.{scope_after, after_is}
use Rattle.p10_meaning.proofs.SoundCalls.{few_variables, calls_keep}
use Rattle.p10_sums.specs.Keeping.{HoldsOf, OnGives}
use Rattle.p10_absx.specs.Environments.{Environment}
use Rattle.p10_absx.specs.Assessing.{result_claimed as range_of_result}
use Rattle.p10_absx.specs.Describing.{Describes, MaybeDescribes}
use Rattle.p10_pass.specs.Passing.{Left, Manner, manner_in, where_going, pass_statement, pass_statements}
use Rattle.p10_evaluation.specs.Claimed.{ResultLies, ResultsLie}
use Rattle.p10_evaluation.proofs.Finding.{in_type}
use Rattle.p10_execution.specs.Scoping.{IsBefore}
use Rattle.p10_execution.specs.Standing.{StandsSoundly}
use Rattle.p10_execution.specs.Leaving.{NoneFails, LiesInClaim, LeavesAs, Leaves}
use Rattle.p10_execution.proofs.Giving.{holds_then, holds_both, holds_weaker}
use Rattle.p10_execution.proofs.ScopedEnds.{MaybeScoped, before_left, before_rest}
use Rattle.p10_execution.proofs.PassedScopes.{statement_scoped}
use Rattle.p10_execution.proofs.TopDeclarations.{declares_here}
use Rattle.p10_execution.proofs.Ends.{followed_none_left, followed_none_right}
use Rattle.p10_execution.proofs.Parts.{Left as StandsAfter, statement_left, statements_left}
use Rattle.p10_execution.proofs.Leaving.{statements_leave}
use Rattle.p10_task.proofs.Passes.{result_claimed}

-- ## What a claim says of what is returned

-- a returned number lies in what is claimed of the result, if that is a range
abbrev GivenLies : Option Value → Flow → Type 0
GivenLies claim (returned (Some (Int z))) = LiesInClaim claim z
GivenLies claim flow = Unit {0}

-- ... so it lies in the range of the result, which is that of its type where nothing is claimed
number_lies : (p : PlainProgram) (ks : List Kind) (t : PlainType) (claim : Option Func) (z : ℤ) → LiesInClaim (result_claimed claim) z → MaybeFits p ks t (Some (Int z)) → ResultLies (range_of_result (integer_of t) claim) (Some (Int z))
number_lies p ks t None z h f = value_member (integer_of t) z (in_type p ks t z f)
number_lies p ks t (Some claim) z h f = by_value claim.result refl h
  where
    by_value : (v : Value) → claim.result ≡ v → LiesInClaim (Some claim.result) z → ResultLies (range_of_result (integer_of t) (Some claim)) (Some (Int z))
    by_value (Number r) e h = rw e (subst (λ v. LiesInClaim (Some v) z) e h)
    by_value Address e h = rw e (value_member (integer_of t) z (in_type p ks t z f))
    by_value Nothing e h = rw e (value_member (integer_of t) z (in_type p ks t z f))

given_lies : (p : PlainProgram) (ks : List Kind) (t : PlainType) (claim : Option Func) (flow : Flow) → GivenLies (result_claimed claim) flow → FlowFits p t ks flow → ResultLies (range_of_result (integer_of t) claim) (given flow)
given_lies p ks t claim (returned (Some (Int z))) h f = number_lies p ks t claim z h f
given_lies p ks t claim (returned (Some (Pointer q))) h f = tt
given_lies p ks t claim (returned None) h f = tt
given_lies p ks t claim normal h f = tt
given_lies p ks t claim broken h f = tt
given_lies p ks t claim continued h f = tt

-- ## Statements

module _ (p : PlainProgram) (whole : IsWholeProgram p) (n : ℕ) (depth : Depth) (number : ℕ) (f : PlainFunction) (there : slice_get p.functions number ≡ Some f)
    (c : Claims) (loops : List Loop) (result : Option Value) (lie : ResultsLie p (Some c) n (call_at n p depth)) where
  abbrev s : Setting
  s = setting_of p n (call_at n p) depth f

  abbrev m : Manner
  m = manner_in f (Some c) (Some loops) result

  abbrev here : List ℕ → Region
  here scope = region_at p number f scope false false

  rest_whole : (x : PlainStatement) (rest : PlainStatements) (scope : List ℕ) → AreWholeStatements (after (here scope) x) rest → AreWholeStatements (here (scope_after x scope)) rest
  rest_whole x rest scope i =
      subst (λ r. AreWholeStatements r rest) (after_is p (laid_out p whole) whole (call_at n p depth) (calls_keep p whole n depth) n number f (few_variables p whole number f (whole.functions number f there)) x scope false false) i

  -- the environment after a statement
  next_before : (x : PlainStatement) (rest : PlainStatements) (env next : Environment) → IsBefore f.variables (declared_in x ++ declared_of rest) env → (o : Option Environment) → o ≡ Some next → MaybeScoped f.variables (λ k. declares_here k x) env o →
      IsBefore f.variables (declared_of rest) next
  next_before x rest env next b None e h = absurd (none-some _ e)
  next_before x rest env next b (Some a) e h = subst (λ e. IsBefore f.variables (declared_of rest) e) (same_Some _ _ e) (before_rest f.variables x rest env a b h)

  none_going : (o : Option Environment) (go : Environment → Left) (e : Environment) → o ≡ Some e → NoneFails (where_going o go) → NoneFails (go e)
  none_going None go e q h = absurd (none-some _ q)
  none_going (Some k) go e q h = subst (λ e. NoneFails (go e)) (same_Some _ _ q) h

  -- what is returned as a pass says lies in what is claimed
  as_returned : (a : Left) (head held : List Held) (x : Option Scalar) → LeavesAs f.variables m a head (returned x) held → GivenLies result (returned x)
  as_returned a head held None h = tt
  as_returned a head held (Some (Int z)) h = h.1.claimed
  as_returned a head held (Some (Pointer q)) h = tt

  -- statements are executed where an environment describes what came before them
  abbrev Gives : PlainStatements → Environment → List Held → Type 0
  Gives xs env head = (frame : Frame) (w : State) → StandsSoundly p f.variables n frame w → Describes f.variables env head frame.held → HoldsOf (λ (d : Done) w. GivenLies result d.flow) (execute_from s 0 xs frame w)

  -- one of them gives a frame that stands soundly, and is as the pass says
  abbrev Gone : PlainStatement → Environment → List Held → Done → State → Type 0
  Gone x env head d w = StandsAfter p whole n depth number f there d w × Leaves f.variables m (pass_statement m x env) head d w

  first_gives : (x : PlainStatement) (rest : PlainStatements) (scope : List ℕ) → IsWholeStatement (here scope) x → (env : Environment) → IsBefore f.variables (declared_in x) env → NoneFails (pass_statement m x env) → (head : List Held) →
      ((e : Environment) → (pass_statement m x env).normal ≡ Some e → Gives rest e head) → Gives (more_statements x rest) env head
  first_gives x rest scope i env b none head go frame w r d =
      holds_then (Gone x env head) (λ (d : Done) w. GivenLies result d.flow) (execute s x frame w) _
      (holds_both (StandsAfter p whole n depth number f there) (Leaves f.variables m a head) (execute s x frame w) (statement_left p whole n depth number f there scope false false x i frame w r)
      (statements_leave p whole n depth number f there (Some c) (Some loops) result lie scope false false x i env b none head frame w r d).given)
      (λ d v h. goes_on d.flow d.frame v h.0.ready h.1.as_said)
    where
      a : Left
      a = pass_statement m x env

      next : (o : Option Environment) → a.normal ≡ o → (mid : Frame) (w : State) → StandsSoundly p f.variables n mid w → MaybeDescribes f.variables o head mid.held → HoldsOf (λ (d : Done) w. GivenLies result d.flow) (execute_from s 0 rest mid w)
      next None q mid w r d = absurd d
      next (Some e) q mid w r d = go e q mid w r d

      goes_on : (flow : Flow) (mid : Frame) (w : State) → StandsSoundly p f.variables n mid w → LeavesAs f.variables m a head flow mid.held → HoldsOf (λ (d : Done) w. GivenLies result d.flow) (go_on flow mid w (λ frame w. execute_from s 0 rest frame w))
      goes_on normal mid w r h = next a.normal refl mid w r h
      goes_on broken mid w r h = tt
      goes_on continued mid w r h = tt
      goes_on (returned y) mid w r h = as_returned a head mid.held y h

  pub body_gives : (xs : PlainStatements) (scope : List ℕ) → AreWholeStatements (here scope) xs → (env : Environment) → IsBefore f.variables (declared_of xs) env → NoneFails (pass_statements m xs env) → (head : List Held) → Gives xs env head
  body_gives no_statements scope i env b none head frame w r d = tt
  body_gives (more_statements x rest) scope i env b none head frame w r d =
      let a : Left = pass_statement m x env in
      let first : IsBefore f.variables (declared_in x) env = before_left f.variables (declared_in x) (declared_of rest) env b in
      first_gives x rest scope i.0 env first (followed_none_left a (where_going a.normal (λ env. pass_statements m rest env)) none) head
      (λ e q mid w r d.
      body_gives rest (scope_after x scope) (rest_whole x rest scope i.1) e (next_before x rest env e b a.normal q (statement_scoped f.variables (Some c) (Some loops) result (here scope) x i.0 env first).normal)
      (none_going a.normal (λ env. pass_statements m rest env) e q (followed_none_right a (where_going a.normal (λ env. pass_statements m rest env)) none)) head mid w r d)
      frame w r d

-- the body of a function gives what lies in what is claimed of its result, where none of K3, K5, K6 and K7 fails in its pass
pub body_returns : (p : PlainProgram) (whole : IsWholeProgram p) (n : ℕ) (depth : Depth) (number : ℕ) (f : PlainFunction) → slice_get p.functions number ≡ Some f → (c : Claims) (loops : List Loop) (claim : Option Func) →
    ResultsLie p (Some c) n (call_at n p depth) → (scope : List ℕ) → AreWholeStatements (region_at p number f scope false false) f.body → (env : Environment) → IsBefore f.variables (declared_of f.body) env →
    NoneFails (pass_statements (manner_in f (Some c) (Some loops) (result_claimed claim)) f.body env) → (head : List Held) (frame : Frame) (w : State) → StandsSoundly p f.variables n frame w → Describes f.variables env head frame.held →
    OnGives (λ (done : Done) w. ResultLies (range_of_result (integer_of f.result) claim) (given done.flow)) (execute_from (setting_of p n (call_at n p) depth f) 0 f.body frame w)
body_returns p whole n depth number f there c loops claim lie scope i env b none head frame w r d =
    let run = execute_from (setting_of p n (call_at n p) depth f) 0 f.body frame w in
    record {
      given = holds_weaker (λ (d : Done) w. StandsAfter p whole n depth number f there d w × GivenLies (result_claimed claim) d.flow) (λ (done : Done) w. ResultLies (range_of_result (integer_of f.result) claim) (given done.flow)) run
          (holds_both (StandsAfter p whole n depth number f there) (λ (d : Done) w. GivenLies (result_claimed claim) d.flow) run (statements_left p whole n depth number f there scope false false f.body i frame w r)
          (body_gives p whole n depth number f there c loops (result_claimed claim) lie f.body scope i env b none head frame w r d))
          (λ done w h. given_lies p h.0.ready.kinds f.result claim done.flow h.1 h.0.flow);
    }
