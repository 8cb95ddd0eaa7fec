-- Loops under a claim: the environment at the head describes every head that is reached, by K6 and K7.
use Rattle.std.proofs.Common.{◌≡◌, ℕ, suc, Bool, true, false, List, [], ◌++◌, refl, ◌∙◌, sym, subst, Option, Some, None, slice_get}
use Rattle.std.specs.Prelude.{is_some}
use Rattle.p10_core.specs.declared.statements.LoopKeyword.{LoopKeyword}
use Rattle.p10_core.specs.declared.statements.LoopKeyword.TheVariants.{While, Do, For}
use Rattle.p10_core.specs.Typed.{PlainValue, PlainStatement, PlainStatements, PlainFunction, PlainProgram}
use Rattle.p10_core.specs.WholePrograms.{around, is_expression, AllOf, declared_in, declared_of, IsMaybeTest, IsWholeProgram}
use Rattle.p10_cert.specs.Claims.{Value, Loop, Claims}
use Rattle.p10_meaning.specs.declared.pointers.Scalar.{Scalar}
use Rattle.p10_meaning.specs.States.{State, Progress, gives, ends}
use Rattle.p10_meaning.specs.Values.{Setting, Held, evaluate}
use Rattle.p10_meaning.specs.Statements.{Frame, Flow, normal, broken, continued, returned, Done, goes, test, before_third, loop_by, execute, execute_from, round}
use Rattle.p10_meaning.specs.Calling.{Depth, setting_of, call_at}
use Rattle.p10_meaning.specs.Sound.{region_at}
use Rattle.p10_sums.specs.Keeping.{HoldsOf, OnBack, LoopKeeps}
use Rattle.p10_absx.specs.Environments.{Environment, known, hull_reached}
use Rattle.p10_absx.specs.Assessing.{assess, known_where}
use Rattle.p10_absx.specs.Describing.{Describes, MaybeDescribes}
use Rattle.p10_pass.specs.Claiming.{head_of, ranges_hold_reached, enters_ranked, goes_back_ranked}
use Rattle.p10_pass.specs.Passing.{Left, Manner, manner_in, where_going, Tested, tested_in, tested_reached, Round, round_of, pass_statement, pass_statements}
use Rattle.p10_evaluation.specs.Claimed.{ResultsLie}
use Rattle.p10_evaluation.proofs.Hulls.{reached_left, reached_right}
use Rattle.p10_execution.specs.Scoping.{KnowsNumbers, IsBefore}
use Rattle.p10_execution.specs.Standing.{StandsSoundly}
use Rattle.p10_execution.specs.Leaving.{NoneFails, ReturnsAs, LeavesAs}
use Rattle.p10_execution.specs.Bounding.{EntersAtMost}
use Rattle.p10_execution.proofs.Ranks.{RankAtMost, entered_positive, back_falls}
use Rattle.p10_execution.proofs.Giving.{holds_step, holds_then, holds_both, holds_weaker}
use Rattle.p10_execution.proofs.Entries.{changed_knows}
use Rattle.p10_execution.proofs.ScopedEnds.{nothing, MaybeScoped, EndsScoped, scoped_here, reached_scoped, changed_scope, before_same, before_scoped, before_nothing}
use Rattle.p10_execution.proofs.PassedScopes.{RoundScoped}
use Rattle.p10_execution.proofs.Ends.{nothing_left, nothing_right}
use Rattle.p10_execution.proofs.Heads.{head_describes}
use Rattle.p10_execution.proofs.Parts.{ready_step, Valued, valued}
use Rattle.p10_execution.proofs.Turning.{ended, Rounded, Decided, Begins, loop_out, on_back, loop_keeps, bounded_keeps}
use Rattle.p10_execution.proofs.Unchanged.{Stays}
use Rattle.p10_execution.proofs.Expressions.{IsQuiet, GoesOn, expressions_go, expressions_quiet, going_quiet}

module _ (p : PlainProgram) (whole : IsWholeProgram p) (n : ℕ) (depth : Depth) (number : ℕ) (f : PlainFunction) (there : slice_get p.functions number ≡ Some f)
    (calls : Option Claims) (loops : Option (List Loop)) (result : Option Value) (lie : ResultsLie p calls n (call_at n p depth)) where
  abbrev s : Setting
  s = setting_of p n (call_at n p) depth f

  abbrev m : Manner
  m = manner_in f calls loops result

  abbrev Stand : Frame → State → Type 0
  Stand frame w = StandsSoundly p f.variables n frame w

  -- what is executed leaves a frame that fits, and what a pass says
  pub record Went (a : Left) (head : List Held) (d : Done) (w : State) : Type 0 where
    pub ready : Stand d.frame w
    pub as_said : LeavesAs f.variables m a head d.flow d.frame.held

  -- ## Tests

  -- after a test
  abbrev pub Tests : Option Environment → Option Environment → List Held → Frame → Bool → State → Type 0
  Tests truth contrary head frame more w = Stand frame w × (more ≡ true → MaybeDescribes f.variables truth head frame.held) × (more ≡ false → MaybeDescribes f.variables contrary head frame.held)

  pub tested_goes : (scope : List ℕ) (tested : Option PlainValue) → IsMaybeTest (around (region_at p number f scope false false)) tested → (env : Environment) (head : List Held) (frame : Frame) (w : State) → (tested_in m tested env).names ≡ [] → Stand frame w → Describes f.variables env head frame.held →
      HoldsOf (Tests (tested_in m tested env).truth (tested_in m tested env).contrary head frame) (test s tested frame w)
  tested_goes scope None i env head frame w none r d = holds_step (Tests (Some env) None head frame) w _ (λ left e. (ready_step p whole n depth number f there frame w left e r, (λ q. d), (λ q. absurd cc)))
  tested_goes scope (Some v) i env head frame w none r d =
      holds_then (Valued p whole n depth number f there calls lie env head v frame) (Tests (known_where true env (assess calls v env)) (known_where false env (assess calls v env)) head frame) (evaluate s frame.held v w) _
      (valued p whole n depth number f there calls lie scope v i.whole env head frame w none r d) (λ x w h. (
        h.ready,
        (λ q. subst (λ t. MaybeDescribes f.variables (known_where t env (assess calls v env)) head frame.held) q h.found.known),
        (λ q. subst (λ t. MaybeDescribes f.variables (known_where t env (assess calls v env)) head frame.held) q h.found.known),
      ))

  -- the same where states may not come
  tested_where : (scope : List ℕ) (tested : Option PlainValue) → IsMaybeTest (around (region_at p number f scope false false)) tested → (o : Option Environment) (head : List Held) (frame : Frame) (w : State) → (tested_reached m tested o).names ≡ [] → Stand frame w → MaybeDescribes f.variables o head frame.held →
      HoldsOf (Tests (tested_reached m tested o).truth (tested_reached m tested o).contrary head frame) (test s tested frame w)
  tested_where scope tested i None head frame w none r d = absurd d
  tested_where scope tested i (Some env) head frame w none r d = tested_goes scope tested i env head frame w none r d

  -- ## Rounds

  module _ (scope : List ℕ) (l b : Bool) (tested : Option PlainValue) (third : PlainStatements) (body : PlainStatement)
      (test_whole : IsMaybeTest (around (region_at p number f scope false false)) tested) (expressions : AllOf is_expression third) (no_declarations : declared_of third ≡ [])
      (body_goes : (env : Environment) → IsBefore f.variables (declared_in body) env → NoneFails (pass_statement m body env) → (head : List Held) (frame : Frame) (w : State) → Stand frame w → Describes f.variables env head frame.held →
      HoldsOf (Went (pass_statement m body env) head) (execute s body frame w))
      (third_goes : (env : Environment) → IsBefore f.variables (declared_of third) env → NoneFails (pass_statements m third env) → (head : List Held) (frame : Frame) (w : State) → Stand frame w → Describes f.variables env head frame.held →
      HoldsOf (Went (pass_statements m third env) head) (execute_from s 0 third frame w))
      (claim : Loop) (entry : Environment) (before : IsBefore f.variables (declared_in body) entry) (held : List Held) (stays : ℕ → Type 0)
      (round_keeps : (k : ℕ) → stays k → (frame : Frame) (w : State) → HoldsOf (Stays k frame) (round s third body frame w)) where
    abbrev at_head : Environment
    at_head = head_of claim f.variables entry

    abbrev pub turn : LoopKeyword → Round
    turn keyword = round_of m keyword tested (λ env. pass_statements m third env) (λ env. pass_statement m body env) at_head

    -- variables that the loop doesn't change stand for what they stood for at its entry
    abbrev pub Kept : Frame → Type 0
    Kept frame = (k : ℕ) → stays k → slice_get frame.held k ≡ slice_get held k

    -- an environment describes the frame, where the head had some values
    pub record Within (head : List Held) (o : Option Environment) (frame : Frame) (w : State) : Type 0 where
      pub ready : Stand frame w
      pub describes : MaybeDescribes f.variables o head frame.held

    -- something is returned as a body says
    pub record Returning (head : List Held) (a : Left) (x : Option Scalar) (frame : Frame) (w : State) : Type 0 where
      pub ready : Stand frame w
      pub returns : ReturnsAs f.variables m a head frame.held x loops

    -- after a round: on a way back, after a `break`, or after a `return`
    abbrev pub RoundAs : List Held → Left → Option Environment → Flow → Frame → State → Type 0
    RoundAs head a on normal frame w = Within head on frame w
    RoundAs head a on continued frame w = Within head on frame w
    RoundAs head a on broken frame w = Within head a.breaks frame w
    RoundAs head a on (returned x) frame w = Returning head a x frame w

    -- ## The third clause

    third_where : (a : Left) (o : Option Environment) → MaybeScoped f.variables nothing at_head o → NoneFails (where_going o (λ env. pass_statements m third env)) → (head : List Held) (frame : Frame) (w : State) → Stand frame w → MaybeDescribes f.variables o head frame.held →
        HoldsOf (λ (d : Done) w. RoundAs head a (where_going o (λ env. pass_statements m third env)).normal d.flow d.frame w) (execute_from s 0 third frame w)
    third_where a None scoped none head frame w r d = absurd d
    third_where a (Some e) scoped none head frame w r d =
        holds_weaker (λ (d : Done) w. Went (pass_statements m third e) head d w × GoesOn d w) (λ (d : Done) w. RoundAs head a (pass_statements m third e).normal d.flow d.frame w) (execute_from s 0 third frame w)
        (holds_both (Went (pass_statements m third e) head) GoesOn (execute_from s 0 third frame w) (third_goes e (before_nothing f.variables (declared_of third) e no_declarations scoped.knows) none head frame w r d) (expressions_go s third expressions frame w))
        (λ d w h. of d.flow d.frame w h.1 h.0.ready h.0.as_said)
      where
        of : (flow : Flow) (frame : Frame) (w : State) → flow ≡ normal → Stand frame w → LeavesAs f.variables m (pass_statements m third e) head flow frame.held → RoundAs head a (pass_statements m third e).normal flow frame w
        of normal frame w q r h = record { ready = r; describes = h }
        of broken frame w q r h = absurd cc
        of continued frame w q r h = absurd cc
        of (returned x) frame w q r h = absurd cc

    -- ## Rounds

    -- where a body goes on
    abbrev pub on_from : Left → Option Environment
    on_from a = hull_reached a.normal a.continues

    pub on_scoped : (a : Left) → EndsScoped f.variables nothing at_head a → MaybeScoped f.variables nothing at_head (on_from a)
    on_scoped a h = reached_scoped f.variables nothing at_head a.normal a.continues h.normal h.continues

    -- where the body of a `do` goes on to its test
    abbrev pub way : Option Environment
    way = on_from (pass_statement m body at_head)

    -- the rest of a round after its body
    abbrev Rest : Left → Option Environment → Type 0
    Rest a on = (head : List Held) (frame : Frame) (w : State) → Stand frame w → MaybeDescribes f.variables (on_from a) head frame.held → HoldsOf (λ (d : Done) w. RoundAs head a on d.flow d.frame w) (execute_from s 0 third frame w)

    after_body : (a : Left) (on : Option Environment) → Rest a on → (head : List Held) (flow : Flow) (frame : Frame) (w : State) → Stand frame w → LeavesAs f.variables m a head flow frame.held →
        HoldsOf (λ (d : Done) w. RoundAs head a on d.flow d.frame w) (before_third flow frame w (λ frame w. execute_from s 0 third frame w))
    after_body a on rest head normal frame w r h = rest head frame w r (reached_left f.variables a.normal a.continues head frame.held h)
    after_body a on rest head continued frame w r h = rest head frame w r (reached_right f.variables a.normal a.continues head frame.held h)
    after_body a on rest head broken frame w r h = record { ready = r; describes = h }
    after_body a on rest head (returned x) frame w r h = record { ready = r; returns = h }

    -- a round from where its body is entered
    round_where : (o on : Option Environment) → MaybeScoped f.variables nothing at_head o → NoneFails (where_going o (λ env. pass_statement m body env)) → Rest (where_going o (λ env. pass_statement m body env)) on → (head : List Held) (frame : Frame) (w : State) → Within head o frame w →
        HoldsOf (λ (d : Done) w. RoundAs head (where_going o (λ env. pass_statement m body env)) on d.flow d.frame w) (round s third body frame w)
    round_where None on scoped none rest head frame w i = absurd i.describes
    round_where (Some e) on scoped none rest head frame w i =
        holds_then (Went (pass_statement m body e) head) (λ (d : Done) w. RoundAs head (pass_statement m body e) on d.flow d.frame w) (execute s body frame w) _
        (body_goes e (before_scoped f.variables nothing (declared_in body) at_head e before_head scoped (λ k q. refl)) none head frame w i.ready i.describes)
        (λ d w h. after_body (pass_statement m body e) on rest head d.flow d.frame w h.ready h.as_said)
      where
        before_head : IsBefore f.variables (declared_in body) at_head
        before_head = before_same f.variables (declared_in body) entry at_head before (changed_scope f.variables _ entry)

    -- ## Turns

    -- what has to hold of a turn: no condition of its parts fails, and its way back keeps the claimed ranges
    pub record TurnHolds (r : Round) : Type 0 where
      pub names : r.names ≡ []
      pub results : r.body.results ≡ []
      pub entries : r.body.entries ≡ []
      pub backs : r.body.backs ≡ []
      pub back_holds : ranges_hold_reached claim f.variables r.back ≡ true

    -- variables that stay, besides what holds in a turn
    abbrev pub Inside : List Held → Option Environment → Frame → State → Type 0
    Inside head o frame w = Within head o frame w × Kept frame

    -- at the head its environment describes the frame, which is that of the head
    pub record AtHead (frame : Frame) (w : State) : Type 0 where
      pub ready : Stand frame w
      pub describes : Describes f.variables at_head frame.held frame.held
      pub kept : Kept frame

    -- the body is entered in the frame of the head
    abbrev pub Entered : Round → Frame → State → Type 0
    Entered r frame w = Inside frame.held r.enters frame w

    -- what is known after a turn in which the loop ends
    abbrev pub EndsAs : Round → List Held → Flow → List Held → Type 0
    EndsAs r head normal after = MaybeDescribes f.variables r.exits head after
    EndsAs r head broken after = ⊥
    EndsAs r head continued after = ⊥
    EndsAs r head (returned x) after = ReturnsAs f.variables m r.body head after x loops

    pub record Out (r : Round) (d : Done) (w : State) : Type 0 where
      pub ready : Stand d.frame w
      pub kept : Kept d.frame
      pub head : List Held
      pub as_said : EndsAs r head d.flow d.frame.held

    -- K7: a way back leads to the head
    pub to_head : (o : Option Environment) → MaybeScoped f.variables nothing at_head o → ranges_hold_reached claim f.variables o ≡ true → (head : List Held) (frame : Frame) (w : State) → Inside head o frame w → AtHead frame w
    to_head None scoped k head frame w i = absurd i.0.describes
    to_head (Some env) scoped k head frame w i = record {
      ready = i.0.ready;
      describes = head_describes claim f.variables entry env head frame.held (λ k e. scoped.same k refl ∙ (same k ∙ e)) k i.0.describes;
      kept = i.1;
    }
      where
        same : (k : ℕ) → is_some (known at_head k) ≡ is_some (known entry k)
        same k = changed_knows _ 0 f.variables entry k

    all_kept : (frame : Frame) (o : Progress Done) → Kept frame → ((k : ℕ) → stays k → HoldsOf (Stays k frame) o) → HoldsOf (λ (d : Done) w. Kept d.frame) o
    all_kept frame (gives d w) kept h = λ k j. h k j ∙ kept k j
    all_kept frame (ends end w) kept h = tt

    round_kept : (frame : Frame) (w : State) → Kept frame → HoldsOf (λ (d : Done) w. Kept d.frame) (round s third body frame w)
    round_kept frame w kept = all_kept frame (round s third body frame w) kept (λ k j. round_keeps k j frame w)

    -- the ends of a round, for a loop
    rounded : (r : Round) (Tested : Frame → State → Type 0) (head : List Held) (on : Option Environment) → ((frame : Frame) → MaybeDescribes f.variables r.body.breaks head frame.held → MaybeDescribes f.variables r.exits head frame.held) →
        ((frame : Frame) (w : State) → Inside head on frame w → Tested frame w) → (flow : Flow) (frame : Frame) (w : State) → RoundAs head r.body on flow frame w → Kept frame → Rounded Tested (Out r) flow frame w
    rounded r Tested head on exits back normal frame w h kept = back frame w (h, kept)
    rounded r Tested head on exits back continued frame w h kept = back frame w (h, kept)
    rounded r Tested head on exits back broken frame w h kept = record { ready = h.ready; kept = kept; head = head; as_said = exits frame h.describes }
    rounded r Tested head on exits back (returned x) frame w h kept = record { ready = h.ready; kept = kept; head = head; as_said = h.returns }

    -- ### `while` and `for`

    module _ (scoped : RoundScoped f.variables calls loops result at_head (turn While)) (holds : TurnHolds (turn While)) where
      abbrev pub w_test : Tested
      w_test = tested_in m tested at_head

      abbrev pub w_body : Left
      w_body = where_going w_test.truth (λ env. pass_statement m body env)

      abbrev pub w_third : Left
      w_third = where_going (on_from w_body) (λ env. pass_statements m third env)

      after_test : w_third.arguments ++ w_body.arguments ≡ []
      after_test = nothing_right w_test.names (w_third.arguments ++ w_body.arguments) holds.names

      pub w_none_body : NoneFails w_body
      w_none_body = record { arguments = nothing_right w_third.arguments w_body.arguments after_test; results = holds.results; entries = holds.entries; backs = holds.backs }

      w_quiet : IsQuiet w_third
      w_quiet = going_quiet m (on_from w_body) (λ env. pass_statements m third env) (λ env. expressions_quiet m third expressions env)

      pub w_none_third : NoneFails w_third
      w_none_third = record { arguments = nothing_left w_third.arguments w_body.arguments after_test; results = w_quiet.results; entries = w_quiet.entries; backs = w_quiet.backs }

      pub while_tests : (frame : Frame) (w : State) → AtHead frame w → HoldsOf (Decided (Entered (turn While)) (Out (turn While)) frame) (test s tested frame w)
      while_tests frame w h = holds_weaker (Tests w_test.truth w_test.contrary frame.held frame) (Decided (Entered (turn While)) (Out (turn While)) frame) (test s tested frame w)
          (tested_goes scope tested test_whole at_head frame.held frame w (nothing_left w_test.names (w_third.arguments ++ w_body.arguments) holds.names) h.ready h.describes)
          (λ more w k. (
            (λ e. (record { ready = k.0; describes = k.1 e }, h.kept)),
            (λ e. record { ready = k.0; kept = h.kept; head = frame.held; as_said = reached_left f.variables w_test.contrary w_body.breaks frame.held frame.held (k.2 e) }),
          ))

      -- a round from the head to the way back
      pub while_round : (frame : Frame) (w : State) → Entered (turn While) frame w → HoldsOf (λ (d : Done) w. RoundAs frame.held w_body w_third.normal d.flow d.frame w × Kept d.frame) (round s third body frame w)
      while_round frame w i = holds_both (λ (d : Done) w. RoundAs frame.held w_body w_third.normal d.flow d.frame w) (λ (d : Done) w. Kept d.frame) (round s third body frame w)
          (round_where w_test.truth w_third.normal scoped.enters w_none_body (λ head frame w r d. third_where w_body (on_from w_body) (on_scoped w_body scoped.body) w_none_third head frame w r d) frame.held frame w i.0) (round_kept frame w i.1)

      pub while_back : (head : List Held) (frame : Frame) (w : State) → Inside head w_third.normal frame w → AtHead frame w
      while_back head frame w i = to_head w_third.normal scoped.back holds.back_holds head frame w i

      while_rounds : (frame : Frame) (w : State) → Entered (turn While) frame w → HoldsOf (λ (d : Done) w. Rounded AtHead (Out (turn While)) d.flow d.frame w) (round s third body frame w)
      while_rounds frame w i = holds_weaker (λ (d : Done) w. RoundAs frame.held w_body w_third.normal d.flow d.frame w × Kept d.frame) (λ (d : Done) w. Rounded AtHead (Out (turn While)) d.flow d.frame w) (round s third body frame w)
          (while_round frame w i)
          (λ d w h. rounded (turn While) AtHead frame.held w_third.normal (λ after h. reached_right f.variables w_test.contrary w_body.breaks frame.held after.held h) (λ after w i. while_back frame.held after w i) d.flow d.frame w h.0 h.1)

      while_out : (keyword : LoopKeyword) → ((frame : Frame) (w : State) → AtHead frame w → Begins keyword AtHead (Entered (turn While)) frame w) → (j : ℕ) (frame : Frame) (w : State) → AtHead frame w →
          HoldsOf (Out (turn While)) (loop_by keyword j (λ frame w. test s tested frame w) (round s third body) frame w)
      while_out keyword begins j frame w h = loop_out AtHead (Entered (turn While)) (Out (turn While)) (λ frame w. test s tested frame w) (round s third body) while_tests while_rounds keyword j frame w (begins frame w h)

      -- on a way back
      back_as : (head : List Held) (flow : Flow) (frame : Frame) (w : State) → RoundAs head w_body w_third.normal flow frame w → Kept frame → OnBack flow (Inside head w_third.normal frame w)
      back_as head normal frame w h kept = (h, kept)
      back_as head continued frame w h kept = (h, kept)
      back_as head broken frame w h kept = tt
      back_as head (returned x) frame w h kept = tt

      while_backs : (frame : Frame) (w : State) → Entered (turn While) frame w → HoldsOf (λ (d : Done) w. OnBack d.flow (Inside frame.held w_third.normal d.frame w)) (round s third body frame w)
      while_backs frame w i = holds_weaker (λ (d : Done) w. RoundAs frame.held w_body w_third.normal d.flow d.frame w × Kept d.frame) (λ (d : Done) w. OnBack d.flow (Inside frame.held w_third.normal d.frame w)) (round s third body frame w) (while_round frame w i)
          (λ d w h. back_as frame.held d.flow d.frame w h.0 h.1)

      while_enters : (frame : Frame) (w : State) → AtHead frame w → HoldsOf (λ more w. more ≡ true → Entered (turn While) frame w) (test s tested frame w)
      while_enters frame w h = holds_weaker (Decided (Entered (turn While)) (Out (turn While)) frame) (λ more w. more ≡ true → Entered (turn While) frame w) (test s tested frame w) (while_tests frame w h) (λ more w k. k.0)

      module _ (TestKeeps RoundKeeps : Frame → State → Type 0) (test_keeps : (frame : Frame) (w : State) → AtHead frame w → TestKeeps frame w) (entered_keeps : (frame : Frame) (w : State) → Entered (turn While) frame w → RoundKeeps frame w) where
        while_bounded : (keyword : LoopKeyword) (j : ℕ) (frame : Frame) (w : State) → Begins keyword AtHead (Entered (turn While)) frame w → EntersAtMost keyword j (test s tested) (round s third body) frame w → LoopKeeps keyword j (test s tested) (round s third body) TestKeeps RoundKeeps frame w
        while_bounded keyword j frame w h k = bounded_keeps AtHead (Entered (turn While)) (test s tested) (round s third body) TestKeeps RoundKeeps while_enters
            (λ frame w i. holds_weaker (λ (d : Done) w. OnBack d.flow (Inside frame.held w_third.normal d.frame w)) (λ (d : Done) w. OnBack d.flow (AtHead d.frame w)) (round s third body frame w) (while_backs frame w i)
            (λ d w b. on_back d.flow (Inside frame.held w_third.normal d.frame w) (AtHead d.frame w) (while_back frame.held d.frame w) b))
            test_keeps entered_keeps keyword j frame w h k

        module _ (enters : enters_ranked claim.rank (turn While).enters ≡ true) (falls : goes_back_ranked claim.rank (turn While).back ≡ true) where
          abbrev w_tested : ℕ → Frame → State → Type 0
          w_tested j frame w = AtHead frame w × RankAtMost f.variables claim.rank j frame.held

          abbrev w_entered : ℕ → Frame → State → Type 0
          w_entered j frame w = Entered (turn While) frame w × RankAtMost f.variables claim.rank j frame.held

          while_ranked : (keyword : LoopKeyword) (j : ℕ) (frame : Frame) (w : State) → Begins keyword (w_tested j) (w_entered j) frame w → LoopKeeps keyword j (test s tested) (round s third body) TestKeeps RoundKeeps frame w
          while_ranked keyword j frame w h = loop_keeps w_tested w_entered (test s tested) (round s third body) TestKeeps RoundKeeps
              (λ j frame w h. holds_weaker (λ more w. more ≡ true → Entered (turn While) frame w) (λ more w. more ≡ true → w_entered j frame w) (test s tested frame w) (while_enters frame w h.0) (λ more w k e. (k e, h.1)))
              (λ frame w h. entered_positive f.variables claim.rank (turn While).enters frame.held frame.held enters h.0.0.describes h.1)
              (λ j frame w h. holds_weaker (λ (d : Done) w. OnBack d.flow (Inside frame.held w_third.normal d.frame w)) (λ (d : Done) w. OnBack d.flow (w_tested j d.frame w)) (round s third body frame w) (while_backs frame w h.0)
              (λ d w b. on_back d.flow (Inside frame.held w_third.normal d.frame w) (w_tested j d.frame w) (λ i. (while_back frame.held d.frame w i, back_falls f.variables claim.rank j w_third.normal frame.held d.frame.held falls i.0.describes h.1)) b))
              (λ j frame w h. test_keeps frame w h.0) (λ j frame w h. entered_keeps frame w h.0) keyword j frame w h

    -- ### `do`, which has no third clause

    module _ (third_is : (frame : Frame) (w : State) → execute_from s 0 third frame w ≡ goes frame w) (knows : KnowsNumbers f.variables at_head) (scoped : RoundScoped f.variables calls loops result at_head (turn Do)) (holds : TurnHolds (turn Do)) where
      abbrev pub d_body : Left
      d_body = pass_statement m body at_head

      abbrev pub d_test : Tested
      d_test = tested_reached m tested way

      pub d_none_body : NoneFails d_body
      d_none_body = record { arguments = nothing_left d_body.arguments d_test.names holds.names; results = holds.results; entries = holds.entries; backs = holds.backs }

      -- between the body and the test
      pub record OnWay (frame : Frame) (w : State) : Type 0 where
        pub head : List Held
        pub inside : Inside head way frame w

      pub do_test : (head : List Held) (frame : Frame) (w : State) → Inside head way frame w → HoldsOf (λ more w. (more ≡ true → Inside head d_test.truth frame w) × (more ≡ false → Out (turn Do) (ended frame) w)) (test s tested frame w)
      do_test head frame w i = holds_weaker (Tests d_test.truth d_test.contrary head frame) (λ more w. (more ≡ true → Inside head d_test.truth frame w) × (more ≡ false → Out (turn Do) (ended frame) w)) (test s tested frame w)
          (tested_where scope tested test_whole way head frame w (nothing_right d_body.arguments d_test.names holds.names) i.0.ready i.0.describes)
          (λ more w k. (
            (λ e. (record { ready = k.0; describes = k.1 e }, i.1)),
            (λ e. record { ready = k.0; kept = i.1; head = head; as_said = reached_left f.variables d_test.contrary d_body.breaks head frame.held (k.2 e) }),
          ))

      pub do_back : (head : List Held) (frame : Frame) (w : State) → Inside head d_test.truth frame w → AtHead frame w
      do_back head frame w i = to_head d_test.truth scoped.back holds.back_holds head frame w i

      do_enters : (frame : Frame) (w : State) → AtHead frame w → Entered (turn Do) frame w
      do_enters frame w h = (record { ready = h.ready; describes = h.describes }, h.kept)

      do_tests : (frame : Frame) (w : State) → OnWay frame w → HoldsOf (Decided (Entered (turn Do)) (Out (turn Do)) frame) (test s tested frame w)
      do_tests frame w i = holds_weaker (λ more w. (more ≡ true → Inside i.head d_test.truth frame w) × (more ≡ false → Out (turn Do) (ended frame) w)) (Decided (Entered (turn Do)) (Out (turn Do)) frame) (test s tested frame w)
          (do_test i.head frame w i.inside) (λ more w k. ((λ e. do_enters frame w (do_back i.head frame w (k.0 e))), k.1))

      rest : (head : List Held) (frame : Frame) (w : State) → Stand frame w → MaybeDescribes f.variables way head frame.held → HoldsOf (λ (d : Done) w. RoundAs head d_body way d.flow d.frame w) (execute_from s 0 third frame w)
      rest head frame w r d = subst (λ o. HoldsOf (λ (d : Done) w. RoundAs head d_body way d.flow d.frame w) o) (sym (third_is frame w)) (record { ready = r; describes = d })

      -- a round from the head to the test
      pub do_round : (frame : Frame) (w : State) → Entered (turn Do) frame w → HoldsOf (λ (d : Done) w. RoundAs frame.held d_body way d.flow d.frame w × Kept d.frame) (round s third body frame w)
      do_round frame w i = holds_both (λ (d : Done) w. RoundAs frame.held d_body way d.flow d.frame w) (λ (d : Done) w. Kept d.frame) (round s third body frame w)
          (round_where (Some at_head) way (scoped_here f.variables nothing at_head knows) d_none_body rest frame.held frame w i.0) (round_kept frame w i.1)

      do_rounds : (frame : Frame) (w : State) → Entered (turn Do) frame w → HoldsOf (λ (d : Done) w. Rounded OnWay (Out (turn Do)) d.flow d.frame w) (round s third body frame w)
      do_rounds frame w i = holds_weaker (λ (d : Done) w. RoundAs frame.held d_body way d.flow d.frame w × Kept d.frame) (λ (d : Done) w. Rounded OnWay (Out (turn Do)) d.flow d.frame w) (round s third body frame w)
          (do_round frame w i)
          (λ d w h. rounded (turn Do) OnWay frame.held way (λ after h. reached_right f.variables d_test.contrary d_body.breaks frame.held after.held h) (λ after w i. record { head = frame.held; inside = i }) d.flow d.frame w h.0 h.1)

      do_out : (j : ℕ) (frame : Frame) (w : State) → AtHead frame w → HoldsOf (Out (turn Do)) (loop_by Do j (λ frame w. test s tested frame w) (round s third body) frame w)
      do_out j frame w h = loop_out OnWay (Entered (turn Do)) (Out (turn Do)) (λ frame w. test s tested frame w) (round s third body) do_tests do_rounds Do j frame w (do_enters frame w h)

      -- on a way back
      way_as : (head : List Held) (flow : Flow) (frame : Frame) (w : State) → RoundAs head d_body way flow frame w → Kept frame → OnBack flow (Inside head way frame w)
      way_as head normal frame w h kept = (h, kept)
      way_as head continued frame w h kept = (h, kept)
      way_as head broken frame w h kept = tt
      way_as head (returned x) frame w h kept = tt

      do_backs : (frame : Frame) (w : State) → Entered (turn Do) frame w → HoldsOf (λ (d : Done) w. OnBack d.flow (Inside frame.held way d.frame w)) (round s third body frame w)
      do_backs frame w i = holds_weaker (λ (d : Done) w. RoundAs frame.held d_body way d.flow d.frame w × Kept d.frame) (λ (d : Done) w. OnBack d.flow (Inside frame.held way d.frame w)) (round s third body frame w) (do_round frame w i)
          (λ d w h. way_as frame.held d.flow d.frame w h.0 h.1)

      module _ (TestKeeps RoundKeeps : Frame → State → Type 0) (test_keeps : (head : List Held) (frame : Frame) (w : State) → Inside head way frame w → TestKeeps frame w) (entered_keeps : (frame : Frame) (w : State) → Entered (turn Do) frame w → RoundKeeps frame w) where
        do_bounded : (j : ℕ) (frame : Frame) (w : State) → AtHead frame w → EntersAtMost Do j (test s tested) (round s third body) frame w → LoopKeeps Do j (test s tested) (round s third body) TestKeeps RoundKeeps frame w
        do_bounded j frame w h k = bounded_keeps OnWay (Entered (turn Do)) (test s tested) (round s third body) TestKeeps RoundKeeps
            (λ frame w i. holds_weaker (Decided (Entered (turn Do)) (Out (turn Do)) frame) (λ more w. more ≡ true → Entered (turn Do) frame w) (test s tested frame w) (do_tests frame w i) (λ more w k. k.0))
            (λ frame w i. holds_weaker (λ (d : Done) w. OnBack d.flow (Inside frame.held way d.frame w)) (λ (d : Done) w. OnBack d.flow (OnWay d.frame w)) (round s third body frame w) (do_backs frame w i)
            (λ d w b. on_back d.flow (Inside frame.held way d.frame w) (OnWay d.frame w) (λ i. record { head = frame.held; inside = i }) b))
            (λ frame w i. test_keeps i.head frame w i.inside) entered_keeps Do j frame w (do_enters frame w h) k

        module _ (enters : enters_ranked claim.rank (turn Do).enters ≡ true) (falls : goes_back_ranked claim.rank (turn Do).back ≡ true) where
          -- between the body and the test, the rank at the head was at most one more
          record d_tested (j : ℕ) (frame : Frame) (w : State) : Type 0 where
            head : List Held
            inside : Inside head way frame w
            ranked : RankAtMost f.variables claim.rank (suc j) head

          abbrev d_entered : ℕ → Frame → State → Type 0
          d_entered j frame w = Entered (turn Do) frame w × RankAtMost f.variables claim.rank j frame.held

          do_ranked : (j : ℕ) (frame : Frame) (w : State) → AtHead frame w → RankAtMost f.variables claim.rank j frame.held → LoopKeeps Do j (test s tested) (round s third body) TestKeeps RoundKeeps frame w
          do_ranked j frame w h ranked = loop_keeps d_tested d_entered (test s tested) (round s third body) TestKeeps RoundKeeps
              (λ j frame w h. holds_weaker (λ more w. (more ≡ true → Inside h.head d_test.truth frame w) × (more ≡ false → Out (turn Do) (ended frame) w)) (λ more w. more ≡ true → d_entered j frame w) (test s tested frame w) (do_test h.head frame w h.inside)
              (λ more w k e. (do_enters frame w (do_back h.head frame w (k.0 e)), back_falls f.variables claim.rank j d_test.truth h.head frame.held falls (k.0 e).0.describes h.ranked)))
              (λ frame w h. entered_positive f.variables claim.rank (turn Do).enters frame.held frame.held enters h.0.0.describes h.1)
              (λ j frame w h. holds_weaker (λ (d : Done) w. OnBack d.flow (Inside frame.held way d.frame w)) (λ (d : Done) w. OnBack d.flow (d_tested j d.frame w)) (round s third body frame w) (do_backs frame w h.0)
              (λ d w b. on_back d.flow (Inside frame.held way d.frame w) (d_tested j d.frame w) (λ i. record { head = frame.held; inside = i; ranked = h.1 }) b))
              (λ j frame w h. test_keeps h.head frame w h.inside) (λ j frame w h. entered_keeps frame w h.0) Do j frame w (do_enters frame w h, ranked)

    -- a loop by its keyword
    pub loop_ends : (keyword : LoopKeyword) → (keyword ≡ Do → (frame : Frame) (w : State) → execute_from s 0 third frame w ≡ goes frame w) → KnowsNumbers f.variables at_head → RoundScoped f.variables calls loops result at_head (turn keyword) → TurnHolds (turn keyword) →
        (j : ℕ) (frame : Frame) (w : State) → AtHead frame w → HoldsOf (Out (turn keyword)) (loop_by keyword j (λ frame w. test s tested frame w) (round s third body) frame w)
    loop_ends While third_is knows scoped holds j frame w h = while_out scoped holds While (λ frame w h. h) j frame w h
    loop_ends For third_is knows scoped holds j frame w h = while_out scoped holds For (λ frame w h. h) j frame w h
    loop_ends Do third_is knows scoped holds j frame w h = do_out (third_is refl) knows scoped holds j frame w h

    -- ## How often the body is entered

    -- what has to be kept where a loop is tested
    abbrev pub TestsKept : LoopKeyword → (Frame → State → Type 0) → Type 0
    TestsKept While TestKeeps = (frame : Frame) (w : State) → AtHead frame w → TestKeeps frame w
    TestsKept For TestKeeps = (frame : Frame) (w : State) → AtHead frame w → TestKeeps frame w
    TestsKept Do TestKeeps = (head : List Held) (frame : Frame) (w : State) → Inside head way frame w → TestKeeps frame w

    -- what has to be kept at tests and where the body is entered
    pub record KeepsParts (keyword : LoopKeyword) (TestKeeps RoundKeeps : Frame → State → Type 0) : Type 0 where
      pub tests_kept : TestsKept keyword TestKeeps
      pub entered_keeps : (frame : Frame) (w : State) → Entered (turn keyword) frame w → RoundKeeps frame w

    -- a loop that is bounded keeps what its tests and rounds keep
    pub loop_bounded : (keyword : LoopKeyword) → (keyword ≡ Do → (frame : Frame) (w : State) → execute_from s 0 third frame w ≡ goes frame w) → KnowsNumbers f.variables at_head → RoundScoped f.variables calls loops result at_head (turn keyword) → TurnHolds (turn keyword) →
        (TestKeeps RoundKeeps : Frame → State → Type 0) → KeepsParts keyword TestKeeps RoundKeeps → (j : ℕ) (frame : Frame) (w : State) → AtHead frame w → EntersAtMost keyword j (test s tested) (round s third body) frame w → LoopKeeps keyword j (test s tested) (round s third body) TestKeeps RoundKeeps frame w
    loop_bounded While third_is knows scoped holds TestKeeps RoundKeeps parts j frame w h k = while_bounded scoped holds TestKeeps RoundKeeps parts.tests_kept parts.entered_keeps While j frame w h k
    loop_bounded For third_is knows scoped holds TestKeeps RoundKeeps parts j frame w h k = while_bounded scoped holds TestKeeps RoundKeeps parts.tests_kept parts.entered_keeps For j frame w h k
    loop_bounded Do third_is knows scoped holds TestKeeps RoundKeeps parts j frame w h k = do_bounded (third_is refl) knows scoped holds TestKeeps RoundKeeps parts.tests_kept parts.entered_keeps j frame w h k

    -- a loop whose rank stands enters its body at most as often as the rank is at its entry
    pub loop_ranked : (keyword : LoopKeyword) → (keyword ≡ Do → (frame : Frame) (w : State) → execute_from s 0 third frame w ≡ goes frame w) → KnowsNumbers f.variables at_head → RoundScoped f.variables calls loops result at_head (turn keyword) → TurnHolds (turn keyword) →
        (TestKeeps RoundKeeps : Frame → State → Type 0) → KeepsParts keyword TestKeeps RoundKeeps → enters_ranked claim.rank (turn keyword).enters ≡ true → goes_back_ranked claim.rank (turn keyword).back ≡ true →
        (j : ℕ) (frame : Frame) (w : State) → AtHead frame w → RankAtMost f.variables claim.rank j frame.held → LoopKeeps keyword j (test s tested) (round s third body) TestKeeps RoundKeeps frame w
    loop_ranked While third_is knows scoped holds TestKeeps RoundKeeps parts enters falls j frame w h ranked = while_ranked scoped holds TestKeeps RoundKeeps parts.tests_kept parts.entered_keeps enters falls While j frame w (h, ranked)
    loop_ranked For third_is knows scoped holds TestKeeps RoundKeeps parts enters falls j frame w h ranked = while_ranked scoped holds TestKeeps RoundKeeps parts.tests_kept parts.entered_keeps enters falls For j frame w (h, ranked)
    loop_ranked Do third_is knows scoped holds TestKeeps RoundKeeps parts enters falls j frame w h ranked = do_ranked (third_is refl) knows scoped holds TestKeeps RoundKeeps parts.tests_kept parts.entered_keeps enters falls j frame w h ranked
