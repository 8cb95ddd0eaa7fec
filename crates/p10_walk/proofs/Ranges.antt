-- Ranges are a sound domain.
use Rattle.std.proofs.Common.{◌≡◌, ℕ, Bool, true, false, List, [], ◌∷◌, refl, ◌∙◌, ap, sym, subst, Option, Some, None, slice_get}
use Rattle.std.specs.Prelude.{is_some, ◌||◌, nat_eq}
use Rattle.p10_base.specs.declared.at.At.{At}
use Rattle.p10_core.specs.Typed.{PlainValue, type_of, PlainInitializer, PlainStatement, statement, PlainStatementForm, set, update, copy, evaluate as expression, asserts, declare, declare_static, empty, mark, PlainStatements, no_statements, more_statements, PlainVariable, PlainFunction, PlainProgram}
use Rattle.p10_core.specs.Whole.{IsWholeValue}
use Rattle.p10_core.specs.WholePrograms.{around, declared_in, is_among, IsWholeStatement, IsWholeProgram}
use Rattle.p10_meaning.specs.declared.pointers.Scalar.{Scalar}
use Rattle.p10_meaning.specs.States.{State}
use Rattle.p10_meaning.specs.Scalars.{is_true}
use Rattle.p10_meaning.specs.Values.{Setting, Held, evaluate}
use Rattle.p10_meaning.specs.Statements.{Frame, Flow, normal, broken, continued, returned, Done, execute}
use Rattle.p10_meaning.specs.Calling.{Depth, setting_of, call_at}
use Rattle.p10_meaning.specs.Sound.{region_at}
use Rattle.p10_sums.specs.Keeping.{HoldsOf}
use Rattle.p10_absx.specs.Abstract.{Abstract}
use Rattle.p10_absx.specs.Environments.{Environment, known, out_of_scope, hull_entry, hull_environment}
use Rattle.p10_absx.specs.Assessing.{assess, known_where, assume_of}
use Rattle.p10_absx.specs.Describing.{Describes, MaybeDescribes}
use Rattle.p10_pass.specs.Scopes.{left_scope, assigned_forgotten}
use Rattle.p10_pass.specs.Arguments.{has_value}
use Rattle.p10_pass.specs.Passing.{Left, Manner, manner_in, pass_form, pass_statement}
use Rattle.p10_evaluation.proofs.Hulls.{reached_left, reached_right}
use Rattle.p10_evaluation.proofs.WholeFunctions.{results_lie}
use Rattle.p10_execution.specs.Scoping.{IsNumber, KnowsNumbers, IsBefore}
use Rattle.p10_execution.specs.Standing.{StandsSoundly}
use Rattle.p10_execution.specs.Leaving.{LeavesAs, Leaves}
use Rattle.p10_execution.proofs.Giving.{holds_both, holds_weaker}
use Rattle.p10_execution.proofs.Entries.{known_hull, changed_knows}
use Rattle.p10_execution.proofs.AssessedScopes.{MaybeSame, assessed_scope}
use Rattle.p10_execution.proofs.TopDeclarations.{declares_here, declares_at_top, left_here, left_other}
use Rattle.p10_execution.proofs.ScopedEnds.{nothing, MaybeScoped, maybe_same, before_nothing}
use Rattle.p10_execution.proofs.PassedScopes.{statement_scoped}
use Rattle.p10_execution.proofs.Ends.{left_describes}
use Rattle.p10_execution.proofs.Heads.{forgotten_describes}
use Rattle.p10_execution.proofs.Expressions.{GoesOn}
use Rattle.p10_execution.proofs.Parts.{Valued, valued}
use Rattle.p10_execution.proofs.Leaving.{statements_leave}
use Rattle.p10_turns.proofs.Trials.{statement_clear}
use Rattle.p10_walk.specs.Operations.{is_simple}
use Rattle.p10_walk.specs.Soundness.{Maybe, IsSound}
use Rattle.p10_walk.specs.Ranges.{before, ranges_of, DescribesNumbers}
use Rattle.p10_walk.specs.Laws.{RangesAreSound}
use Rattle.p10_walk.proofs.Simple.{simple_goes}

-- ## What is known

module _ (variables : List PlainVariable) where
  left_knows : (ss : PlainStatements) (env : Environment) → KnowsNumbers variables env → KnowsNumbers variables (left_scope ss env)
  left_knows ss env h = record { each = λ n e. at n e (declares_at_top n ss) refl }
    where
      at : (n : ℕ) → is_some (known (left_scope ss env) n) ≡ true → (b : Bool) → declares_at_top n ss ≡ b → IsNumber variables n
      at n e true q = let gone : is_some (known (left_scope ss env) n) ≡ false = ap is_some (left_here ss env n q) in absurd cc
      at n e false q = h.each n (sym (ap is_some (left_other ss env n q)) ∙ e)

  hull_knows : (a b : Environment) → KnowsNumbers variables a → KnowsNumbers variables (hull_environment a b)
  hull_knows a b h = record { each = λ n e. h.each n (first (known a n) (known b n) (sym (ap is_some (known_hull a b n)) ∙ e)) }
    where
      first : (x y : Option Abstract) → is_some (hull_entry x y) ≡ true → is_some x ≡ true
      first None y e = e
      first (Some x) y e = refl

  hull_knows_right : (a b : Environment) → KnowsNumbers variables b → KnowsNumbers variables (hull_environment a b)
  hull_knows_right a b h = record { each = λ n e. h.each n (second (known a n) (known b n) (sym (ap is_some (known_hull a b n)) ∙ e)) }
    where
      second : (x y : Option Abstract) → is_some (hull_entry x y) ≡ true → is_some y ≡ true
      second None y e = absurd cc
      second (Some x) None e = e
      second (Some x) (Some y) e = refl

  forgotten_knows : (marks : ℕ → Bool) (env : Environment) → KnowsNumbers variables env → KnowsNumbers variables (assigned_forgotten marks variables env)
  forgotten_knows marks env h = record { each = λ n e. h.each n (sym (changed_knows _ 0 variables env n) ∙ e) }

  -- a variable that is to be declared isn't known
  abbrev declaring : At → ℕ → PlainInitializer → PlainStatements
  declaring at k initializer = more_statements (statement at (declare k initializer)) no_statements

  pub before_simple : (at : At) (form : PlainStatementForm) → is_simple form ≡ true → (env : Environment) → KnowsNumbers variables env → IsBefore variables (declared_in (statement at form)) (before form env)
  before_simple at (declare k initializer) e env h = record {
    knows = left_knows (declaring at k initializer) env h;
    once = (refl, tt);
    fresh = λ n q. ap is_some (left_here (declaring at k initializer) env n q);
  }
  before_simple at (set q v) e env h = before_nothing variables [] env refl h
  before_simple at (update kind op t q v) e env h = before_nothing variables [] env refl h
  before_simple at (copy q r) e env h = before_nothing variables [] env refl h
  before_simple at (expression v) e env h = before_nothing variables [] env refl h
  before_simple at (asserts call v) e env h = before_nothing variables [] env refl h
  before_simple at (declare_static k) e env h = before_nothing variables [] env refl h
  before_simple at empty e env h = before_nothing variables [] env refl h
  before_simple at (mark kind) e env h = before_nothing variables [] env refl h
  before_simple at form e env h = absurd cc

  before_describes : (m : Manner) (at : At) (form : PlainStatementForm) (env : Environment) (head held : List Held) → Describes variables env head held → Describes variables (before form env) head held
  before_describes m at (declare k initializer) env head held d = left_describes variables m head held (declaring at k initializer) env d
  before_describes m at form env head held d = d

  maybe_numbers : (but : ℕ → Bool) (env : Environment) (o : Option Environment) (head held : List Held) → MaybeScoped variables but env o → MaybeDescribes variables o head held → Maybe (DescribesNumbers variables) o head held
  maybe_numbers but env None head held h d = absurd d
  maybe_numbers but env (Some other) head held h d = record { describes = d; knows = h.knows }

-- ## The laws

module _ (p : PlainProgram) (whole : IsWholeProgram p) (n : ℕ) (depth : Depth) (number : ℕ) (f : PlainFunction) (there : slice_get p.functions number ≡ Some f) where
  abbrev s : Setting
  s = setting_of p n (call_at n p) depth f

  abbrev m : Manner
  m = manner_in f None None None

  abbrev D : Environment → List Held → List Held → Type 0
  D = DescribesNumbers f.variables

  executed : (scope : List ℕ) (l b : Bool) (at : At) (form : PlainStatementForm) → IsWholeStatement (region_at p number f scope l b) (statement at form) → is_simple form ≡ true → (env : Environment) (head : List Held) (frame : Frame) (w : State) → StandsSoundly p f.variables n frame w → D env head frame.held →
      HoldsOf (λ (d : Done) w. Maybe D (pass_form m form (before form env)).normal head d.frame.held) (execute s (statement at form) frame w)
  executed scope l b at form i simple env head frame w r d =
      holds_weaker (λ (d : Done) w. GoesOn d w × Leaves f.variables m a head d w) (λ (d : Done) w. Maybe D a.normal head d.frame.held) (execute s x frame w)
      (holds_both GoesOn (Leaves f.variables m a head) (execute s x frame w) (simple_goes s at form simple frame w)
      (statements_leave p whole n depth number f there None None None (results_lie p whole n depth) scope l b x i env2 before_x (statement_clear f.variables x env2) head frame w r (before_describes f.variables m at form env head frame.held d.describes)).given)
      (λ c w k. of c.flow c.frame.held k.0 k.1.as_said)
    where
      x : PlainStatement
      x = statement at form

      env2 : Environment
      env2 = before form env

      a : Left
      a = pass_statement m x env2

      before_x : IsBefore f.variables (declared_in x) env2
      before_x = before_simple f.variables at form simple env d.knows

      of : (flow : Flow) (held : List Held) → flow ≡ normal → LeavesAs f.variables m a head flow held → Maybe D a.normal head held
      of normal held q k = maybe_numbers f.variables (λ k. declares_here k x) env2 a.normal head held (statement_scoped f.variables None None None (region_at p number f scope l b) x i env2 before_x).normal k
      of broken held q k = absurd cc
      of continued held q k = absurd cc
      of (returned y) held q k = absurd cc

  assumed : (scope : List ℕ) (v : PlainValue) → IsWholeValue (around (region_at p number f scope false false)) v → (env : Environment) (head : List Held) (frame : Frame) (w : State) → StandsSoundly p f.variables n frame w → D env head frame.held →
      HoldsOf (λ x w. Maybe D (assume_of None v (is_true x) env) head frame.held) (evaluate s frame.held v w)
  assumed scope v i env head frame w r d =
      holds_weaker (Valued p whole n depth number f there None (results_lie p whole n depth) env head v frame) (λ x w. Maybe D (assume_of None v (is_true x) env) head frame.held) (evaluate s frame.held v w)
      (valued p whole n depth number f there None (results_lie p whole n depth) scope v i env head frame w refl r d.describes)
      (λ x w k. maybe_numbers f.variables nothing env (assume_of None v (is_true x) env) head frame.held (maybe_same f.variables nothing env (assume_of None v (is_true x) env) d.knows (assessed_scope None (is_true x) v env)) k.found.known)

  has : (scope : List ℕ) (v : PlainValue) → IsWholeValue (around (region_at p number f scope false false)) v → (env : Environment) (head : List Held) (frame : Frame) (w : State) → StandsSoundly p f.variables n frame w → D env head frame.held → HoldsOf (λ x w. has_value None v env ≡ true) (evaluate s frame.held v w)
  has scope v i env head frame w r d =
      holds_weaker (Valued p whole n depth number f there None (results_lie p whole n depth) env head v frame) (λ x w. has_value None v env ≡ true) (evaluate s frame.held v w)
      (valued p whole n depth number f there None (results_lie p whole n depth) scope v i env head frame w refl r d.describes) (λ x w k. k.found.has)

pub ranges_sound : RangesAreSound
ranges_sound p whole n depth number f there = record {
  executed = executed p whole n depth number f there;
  assumed = assumed p whole n depth number f there;
  valued = has p whole n depth number f there;
  hull_left = λ a b head held d. record { describes = reached_left f.variables (Some a) (Some b) head held d.describes; knows = hull_knows f.variables a b d.knows };
  hull_right = λ a b head held d. record { describes = reached_right f.variables (Some a) (Some b) head held d.describes; knows = hull_knows_right f.variables a b d.knows };
  left = λ ss env head held d. record { describes = left_describes f.variables (manner_in f None None None) head held ss env d.describes; knows = left_knows f.variables ss env d.knows };
  forgot = λ marks env head held frame w r d stays. record {
    describes = forgotten_describes p r.kinds marks f.variables env head held frame.held d.knows r.fits r.in_frame d.describes (λ k known_is e. stays k e);
    knows = forgotten_knows f.variables marks env d.knows;
  };
}
