-- What is left by blocks and by loops, under a claim and in a trial pass.
use Rattle.std.proofs.Common.{◌≡◌, ℕ, Bool, true, false, List, [], ◌++◌, refl, ◌∙◌, sym, subst, Option, Some, None, slice_get}
use Rattle.std.specs.Prelude.{is_some, ◌||◌}
use Rattle.std.specs.Option.{option_map}
use Rattle.p10_base.specs.declared.span.Span.{Span}
use Rattle.p10_base.specs.declared.at.At.{At}
use Rattle.p10_core.specs.declared.statements.LoopHead.{LoopHead}
use Rattle.p10_core.specs.declared.statements.LoopKeyword.{LoopKeyword}
use Rattle.p10_core.specs.declared.statements.LoopKeyword.TheVariants.{While, Do, For}
use Rattle.p10_core.specs.Typed.{PlainValue, PlainStatement, statement, loop, PlainStatements, PlainFunction, PlainProgram}
use Rattle.p10_core.specs.WholePrograms.{around, is_among, is_declaration, AreClauses, declared_in, declared_of, IsMaybeTest, IsWholeStatement, AreWholeStatements, IsWholeProgram}
use Rattle.p10_cert.specs.Claims.{Value, Loop, Claims}
use Rattle.p10_meaning.specs.declared.pointers.Scalar.{Scalar}
use Rattle.p10_meaning.specs.States.{State, Progress, gives, ends}
use Rattle.p10_meaning.specs.Values.{Setting, Held}
use Rattle.p10_meaning.specs.Statements.{Frame, Flow, normal, broken, continued, returned, Done, go_on, in_block, test, loop_by, execute, execute_from, round, looped}
use Rattle.p10_meaning.specs.Calling.{Depth, setting_of, call_at}
use Rattle.p10_meaning.specs.Sound.{region_at}
use Rattle.p10_sums.specs.Keeping.{HoldsOf}
use Rattle.p10_absx.specs.Environments.{Environment, known}
use Rattle.p10_absx.specs.Describing.{Describes, MaybeDescribes}
use Rattle.p10_pass.specs.Scopes.{assigns, form_assigns, any_assigns, assigned_forgotten, offsets_restored}
use Rattle.p10_pass.specs.Claiming.{head_of, ranges_hold, ranges_hold_reached}
use Rattle.p10_pass.specs.Passing.{Left, Manner, manner_in, reached, where_going, and_then_pass, as_block, Round, round_of, place_unless, loop_left, pass_statement, pass_statements}
use Rattle.p10_evaluation.specs.Claimed.{ResultsLie}
use Rattle.p10_execution.specs.Scoping.{IsBefore}
use Rattle.p10_execution.specs.Standing.{StandsSoundly}
use Rattle.p10_execution.specs.Leaving.{NoneFails, ReturnsAs, LeavesAs}
use Rattle.p10_execution.proofs.Giving.{holds_any, holds_step, holds_then, holds_both, holds_weaker}
use Rattle.p10_execution.proofs.Numbers.{or_false}
use Rattle.p10_execution.proofs.Entries.{changed_knows}
use Rattle.p10_execution.proofs.ScopedEnds.{third_expressions, third_declares}
use Rattle.p10_execution.proofs.PassedScopes.{loop_scoped}
use Rattle.p10_execution.proofs.Ends.{followed_left, followed_right, followed_none_right, nothing_left, nothing_right, block_as}
use Rattle.p10_execution.proofs.Heads.{head_describes, restored_describes, forgotten_describes}
use Rattle.p10_execution.proofs.Parts.{Left as LeftSoundly, statement_left}
use Rattle.p10_execution.proofs.Turning.{Rounded, Decided, Begins, loop_out}
use Rattle.p10_execution.proofs.Unchanged.{unchanged, expressions_change, Stays, statement_stays, round_stays}
use Rattle.p10_execution.proofs.Expressions.{GoesOn, clauses_go, first_clauses, no_third}
use Rattle.p10_execution.proofs.Looping.{Went, Out, EndsAs, loop_ends}

-- a condition that is met has no place
pub met : (b : Bool) (at : Span) → place_unless b at ≡ [] → b ≡ true
met true at e = refl
met false at e = absurd cc

-- a loop ends normally or returns
abbrev IsLoopEnd : Flow → Type 0
IsLoopEnd normal = Unit {0}
IsLoopEnd broken = ⊥
IsLoopEnd continued = ⊥
IsLoopEnd (returned x) = Unit {0}

abbrev EndsLoop : Done → State → Type 0
EndsLoop d w = IsLoopEnd d.flow

loop_flows : (keyword : LoopKeyword) (j : ℕ) (test : Frame → State → Progress Bool) (round : Frame → State → Progress Done) (frame : Frame) (w : State) → HoldsOf EndsLoop (loop_by keyword j test round frame w)
loop_flows keyword j test round frame w =
    loop_out (λ frame w. Unit {0}) (λ frame w. Unit {0}) EndsLoop test round (λ frame w _. holds_weaker (λ more w. Unit {0}) (Decided (λ frame w. Unit {0}) EndsLoop frame) (test frame w) (holds_any (test frame w)) (λ more w _. ((λ _. tt), (λ _. tt))))
    (λ frame w _. holds_weaker (λ (d : Done) w. Unit {0}) (λ (d : Done) w. Rounded (λ frame w. Unit {0}) EndsLoop d.flow d.frame w) (round frame w) (holds_any (round frame w)) (λ d w _. of d.flow d.frame w)) keyword j frame w (begins keyword)
  where
    of : (flow : Flow) (frame : Frame) (w : State) → Rounded (λ frame w. Unit {0}) EndsLoop flow frame w
    of normal frame w = tt
    of continued frame w = tt
    of broken frame w = tt
    of (returned x) frame w = tt

    begins : (keyword : LoopKeyword) → Begins keyword (λ frame w. Unit {0}) (λ frame w. Unit {0}) frame w
    begins While = tt
    begins For = tt
    begins Do = tt

module _ (p : PlainProgram) (whole : IsWholeProgram p) (n : ℕ) (depth : Depth) (number : ℕ) (f : PlainFunction) (there : slice_get p.functions number ≡ Some f)
    (calls : Option Claims) (loops : Option (List Loop)) (result : Option Value) (lie : ResultsLie p calls n (call_at n p depth)) where
  abbrev s : Setting
  s = setting_of p n (call_at n p) depth f

  abbrev m : Manner
  m = manner_in f calls loops result

  abbrev Stand : Frame → State → Type 0
  Stand frame w = StandsSoundly p f.variables n frame w

  abbrev Says : Left → List Held → Done → State → Type 0
  Says a head d w = LeavesAs f.variables m a head d.flow d.frame.held

  abbrev WentOf : Left → List Held → Done → State → Type 0
  WentOf a head d w = Went p whole n depth number f there calls loops result lie a head d w

  -- ## Blocks, and one part after another

  pub block_says : (xs : PlainStatements) (a : Left) (head : List Held) (run : Frame → State → Progress Done) (frame : Frame) (w : State) → HoldsOf (Says a head) (run (record frame { opened = [] }) w) → HoldsOf (Says (as_block xs a) head) (in_block run frame w)
  block_says xs a head run frame w h = holds_then (Says a head) (Says (as_block xs a) head) (run (record frame { opened = [] }) w) _ h (λ d w k. block_as f.variables m head d.frame.held xs a d.flow k)

  -- what follows a part, where states come
  pub going_says : (a : Left) (go : Environment → Left) (head : List Held) (d : Done) (w : State) (rest : Frame → State → Progress Done) → NoneFails (and_then_pass a go) → Says a head d w →
      ((e : Environment) → a.normal ≡ Some e → NoneFails (go e) → Describes f.variables e head d.frame.held → HoldsOf (Says (go e) head) (rest d.frame w)) → HoldsOf (Says (and_then_pass a go) head) (go_on d.flow d.frame w rest)
  going_says a go head d w rest none h k = of d.flow d.frame h k
    where
      onward : (frame : Frame) (o : Option Environment) → a.normal ≡ o → MaybeDescribes f.variables o head frame.held → NoneFails (where_going o go) → ((e : Environment) → a.normal ≡ Some e → NoneFails (go e) → Describes f.variables e head frame.held → HoldsOf (Says (go e) head) (rest frame w)) →
          HoldsOf (Says (where_going o go) head) (rest frame w)
      onward frame None e h none k = absurd h
      onward frame (Some env) e h none k = k env e none h

      of : (flow : Flow) (frame : Frame) → LeavesAs f.variables m a head flow frame.held → ((e : Environment) → a.normal ≡ Some e → NoneFails (go e) → Describes f.variables e head frame.held → HoldsOf (Says (go e) head) (rest frame w)) →
          HoldsOf (Says (and_then_pass a go) head) (go_on flow frame w rest)
      of normal frame h k = holds_weaker (Says (where_going a.normal go) head) (Says (and_then_pass a go) head) (rest frame w) (onward frame a.normal refl h (followed_none_right a (where_going a.normal go) none) k)
          (λ d w j. followed_right f.variables m head d.frame.held a (where_going a.normal go) d.flow j)
      of broken frame h k = followed_left f.variables m head frame.held a (where_going a.normal go) broken tt h
      of continued frame h k = followed_left f.variables m head frame.held a (where_going a.normal go) continued tt h
      of (returned x) frame h k = followed_left f.variables m head frame.held a (where_going a.normal go) (returned x) tt h

  -- ## A loop under a claim

  module _ (scope : List ℕ) (l b : Bool) (head : LoopHead) (first : PlainStatements) (tested : Option PlainValue) (third : PlainStatements) (body : PlainStatement)
      (test_whole : IsMaybeTest (around (region_at p number f scope false false)) tested) (third_whole : AreWholeStatements (region_at p number f scope l b) third) (body_whole : IsWholeStatement (region_at p number f scope true b) body)
      (clauses : AreClauses head.keyword first tested third) (plain : is_declaration body ≡ false)
      (body_goes : (env : Environment) → IsBefore f.variables (declared_in body) env → NoneFails (pass_statement m body env) → (head : List Held) (frame : Frame) (w : State) → Stand frame w → Describes f.variables env head frame.held → HoldsOf (WentOf (pass_statement m body env) head) (execute s body frame w))
      (third_goes : (env : Environment) → IsBefore f.variables (declared_of third) env → NoneFails (pass_statements m third env) → (head : List Held) (frame : Frame) (w : State) → Stand frame w → Describes f.variables env head frame.held → HoldsOf (WentOf (pass_statements m third env) head) (execute_from s 0 third frame w)) where
    abbrev pub assigned : ℕ → Bool
    assigned k = form_assigns k (loop head first tested third body)

    -- a variable that is known at the entry, and that the loop doesn't assign, is changed by no round
    pub round_keeps : (entry : Environment) → IsBefore f.variables (declared_in body) entry → (k : ℕ) → (is_some (known entry k) ≡ true) × (assigned k ≡ false) → (frame : Frame) (w : State) → HoldsOf (Stays k frame) (round s third body frame w)
    round_keeps entry before k h frame w =
        let parts = or_false (any_assigns k first) (any_assigns k third || assigns k body) h.1 in
        let others = or_false (any_assigns k third) (assigns k body) parts.1 in
        round_stays s third body k (expressions_change k third (third_expressions head.keyword first tested third clauses) others.0)
        (unchanged (region_at p number f scope true b) body body_whole k others.1 (not_declared (is_among k (declared_in body)) refl)) frame w
      where
        not_declared : (t : Bool) → is_among k (declared_in body) ≡ t → is_among k (declared_in body) ≡ false
        not_declared true e = let no : is_some (known entry k) ≡ false = before.fresh k e in let yes : is_some (known entry k) ≡ true = h.0 in absurd cc
        not_declared false e = e

    module _ (claim : Loop) (entry : Environment) (before : IsBefore f.variables (declared_in body) entry) (outer : List Held) (frame : Frame) (described : Describes f.variables entry outer frame.held) where
      abbrev at_head : Environment
      at_head = head_of claim f.variables entry

      abbrev r : Round
      r = round_of m head.keyword tested (λ env. pass_statements m third env) (λ env. pass_statement m body env) at_head

      abbrev stays : ℕ → Type 0
      stays k = (is_some (known entry k) ≡ true) × (assigned k ≡ false)

      abbrev OutOf : Done → State → Type 0
      OutOf d w = Out p whole n depth number f there calls loops result lie scope l b tested third body test_whole (third_expressions head.keyword first tested third clauses) (third_declares head.keyword first tested third clauses) body_goes third_goes claim entry before frame.held stays (round_keeps entry before) r d w

      restored : (inner : List Held) (after : List Held) → ((k : ℕ) → stays k → slice_get after k ≡ slice_get frame.held k) → (o : Option Environment) → MaybeDescribes f.variables o inner after → MaybeDescribes f.variables (option_map (offsets_restored assigned entry f.variables) o) outer after
      restored inner after kept None h = absurd h
      restored inner after kept (Some env) h = restored_describes assigned f.variables entry env outer inner frame.held after described h (λ k e a. kept k (e, a))

      returns_restored : (inner after : List Held) → ((k : ℕ) → stays k → slice_get after k ≡ slice_get frame.held k) → (x : Option Scalar) (o : Option (List Loop)) → ReturnsAs f.variables m r.body inner after x o → ReturnsAs f.variables m (loop_left m claim head assigned entry r) outer after x o
      returns_restored inner after kept x None h = tt
      returns_restored inner after kept x (Some ls) h = (restored inner after kept r.body.returns h.0, h.1)

      ends_says : (d : Done) (w : State) → OutOf d w → Says (loop_left m claim head assigned entry r) outer d w
      ends_says d w h = of d.flow d.frame.held h.kept h.as_said
        where
          of : (flow : Flow) (after : List Held) → ((k : ℕ) → stays k → slice_get after k ≡ slice_get frame.held k) → EndsAs p whole n depth number f there calls loops result lie scope l b tested third body test_whole (third_expressions head.keyword first tested third clauses) (third_declares head.keyword first tested third clauses) body_goes third_goes claim entry before frame.held stays (round_keeps entry before) r h.head flow after →
              LeavesAs f.variables m (loop_left m claim head assigned entry r) outer flow after
          of normal after kept e = restored h.head after kept r.exits e
          of broken after kept e = absurd e
          of continued after kept e = absurd e
          of (returned x) after kept e = returns_restored h.head after kept x loops e

      pub claimed_says : NoneFails (loop_left m claim head assigned entry r) → (w : State) → Stand frame w → HoldsOf (Says (loop_left m claim head assigned entry r) outer) (loop_by head.keyword n (λ frame w. test s tested frame w) (round s third body) frame w)
      claimed_says none w ready =
          let entry_holds : ranges_hold claim 0 f.variables entry ≡ true = met (ranges_hold claim 0 f.variables entry) head.span (nothing_left (place_unless (ranges_hold claim 0 f.variables entry) head.span) r.body.entries none.entries) in
          let back_holds : ranges_hold_reached claim f.variables r.back ≡ true = met (ranges_hold_reached claim f.variables r.back) head.span (nothing_left (place_unless (ranges_hold_reached claim f.variables r.back) head.span) r.body.backs none.backs) in
          holds_weaker OutOf (Says (loop_left m claim head assigned entry r) outer) (loop_by head.keyword n (λ frame w. test s tested frame w) (round s third body) frame w)
          (loop_ends p whole n depth number f there calls loops result lie scope l b tested third body test_whole (third_expressions head.keyword first tested third clauses) (third_declares head.keyword first tested third clauses) body_goes third_goes claim entry before frame.held stays (round_keeps entry before)
          head.keyword (no_third s head.keyword first tested third clauses) (record { each = λ k e. before.knows.each k (sym (changed_knows _ 0 f.variables entry k) ∙ e) })
          (loop_scoped f.variables calls loops result (region_at p number f scope l b) head first tested third body third_whole (region_at p number f scope true b) body_whole plain (third_declares head.keyword first tested third clauses) claim entry before)
          (record {
            names = none.arguments;
            results = none.results;
            entries = nothing_right (place_unless (ranges_hold claim 0 f.variables entry) head.span) r.body.entries none.entries;
            backs = nothing_right (place_unless (ranges_hold_reached claim f.variables r.back) head.span) r.body.backs none.backs;
            back_holds = back_holds;
          }) n frame w (record { ready = ready; describes = head_describes claim f.variables entry entry outer frame.held (λ k e. e) entry_holds described; kept = λ k j. refl }))
          ends_says

  -- ## A loop in a trial pass

  all_stay : (stays : ℕ → Type 0) (frame : Frame) (o : Progress Done) → ((k : ℕ) → stays k → HoldsOf (Stays k frame) o) → HoldsOf (λ (d : Done) w. (k : ℕ) → stays k → slice_get d.frame.held k ≡ slice_get frame.held k) o
  all_stay stays frame (gives d w) h = h
  all_stay stays frame (ends end w) h = tt

  statement_flows : (at : At) (head : LoopHead) (first : PlainStatements) (tested : Option PlainValue) (third : PlainStatements) (body : PlainStatement) → AreClauses head.keyword first tested third → (frame : Frame) (w : State) → HoldsOf EndsLoop (execute s (statement at (loop head first tested third body)) frame w)
  statement_flows at head first tested third body clauses frame w =
      holds_step EndsLoop w _ (λ left _. holds_then EndsLoop EndsLoop (looped s head.keyword first tested third body (record frame { opened = [] }) (record w { left = left })) _
      (holds_then GoesOn EndsLoop (execute_from s 0 first (record frame { opened = [] }) (record w { left = left })) _ (clauses_go s first (first_clauses head.keyword first tested third clauses) (record frame { opened = [] }) (record w { left = left })) (λ d w e. on d.flow d.frame w e))
      (λ d w h. h))
    where
      on : (flow : Flow) (frame : Frame) (w : State) → flow ≡ normal → HoldsOf EndsLoop (go_on flow frame w (λ frame w. loop_by head.keyword n (λ frame w. test s tested frame w) (round s third body) frame w))
      on normal frame w e = loop_flows head.keyword n (λ frame w. test s tested frame w) (round s third body) frame w
      on broken frame w e = absurd cc
      on continued frame w e = absurd cc
      on (returned x) frame w e = absurd cc

  pub trial_says : loops ≡ None → (scope : List ℕ) (l b : Bool) (at : At) (head : LoopHead) (first : PlainStatements) (tested : Option PlainValue) (third : PlainStatements) (body : PlainStatement) → IsWholeStatement (region_at p number f scope l b) (statement at (loop head first tested third body)) →
      AreClauses head.keyword first tested third → (env : Environment) → IsBefore f.variables (declared_of first ++ declared_in body) env → (outer : List Held) (frame : Frame) (w : State) → Stand frame w → Describes f.variables env outer frame.held →
      HoldsOf (Says (reached (Some (assigned_forgotten (λ k. form_assigns k (loop head first tested third body)) f.variables env))) outer) (execute s (statement at (loop head first tested third body)) frame w)
  trial_says trial scope l b at head first tested third body i clauses env before outer frame w r d =
      holds_weaker (λ (d : Done) w. LeftSoundly p whole n depth number f there d w × (EndsLoop d w × ((k : ℕ) → stays k → slice_get d.frame.held k ≡ slice_get frame.held k))) (Says after outer) (execute s x frame w)
      (holds_both (LeftSoundly p whole n depth number f there) (λ (d : Done) w. EndsLoop d w × ((k : ℕ) → stays k → slice_get d.frame.held k ≡ slice_get frame.held k)) (execute s x frame w) (statement_left p whole n depth number f there scope l b x i frame w r)
      (holds_both EndsLoop (λ (d : Done) w. (k : ℕ) → stays k → slice_get d.frame.held k ≡ slice_get frame.held k) (execute s x frame w) (statement_flows at head first tested third body clauses frame w)
      (all_stay stays frame (execute s x frame w) (λ k h. statement_stays s x k (unchanged (region_at p number f scope l b) x i k h.1 (not_declared k h.0 (is_among k (declared_of first ++ declared_in body)) refl)) frame w))))
      (λ e w h. of e.flow e.frame w h.0.ready h.1.0 h.1.1)
    where
      x : PlainStatement
      x = statement at (loop head first tested third body)

      stays : ℕ → Type 0
      stays k = (is_some (known env k) ≡ true) × (form_assigns k (loop head first tested third body) ≡ false)

      after : Left
      after = reached (Some (assigned_forgotten (λ k. form_assigns k (loop head first tested third body)) f.variables env))

      not_declared : (k : ℕ) → is_some (known env k) ≡ true → (t : Bool) → is_among k (declared_of first ++ declared_in body) ≡ t → is_among k (declared_of first ++ declared_in body) ≡ false
      not_declared k known_is true e = let unknown_is : is_some (known env k) ≡ false = before.fresh k e in absurd cc
      not_declared k known_is false e = e

      of : (flow : Flow) (last : Frame) (w : State) → Stand last w → IsLoopEnd flow → ((k : ℕ) → stays k → slice_get last.held k ≡ slice_get frame.held k) → LeavesAs f.variables m after outer flow last.held
      of normal last w ready e kept = forgotten_describes p ready.kinds (λ k. form_assigns k (loop head first tested third body)) f.variables env outer frame.held last.held before.knows ready.fits ready.in_frame d (λ k e a. kept k (e, a))
      of broken last w ready e kept = absurd e
      of continued last w ready e kept = absurd e
      of (returned y) last w ready e kept = subst (λ o. ReturnsAs f.variables m after outer last.held y o) (sym trial) tt
