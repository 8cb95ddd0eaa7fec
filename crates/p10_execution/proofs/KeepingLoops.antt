-- Loops under claims enter their bodies at most as often as is claimed, and their parts keep what covered calls keep.
use Rattle.std.proofs.Common.{◌≡◌, ℕ, Bool, true, false, List, [], ◌∷◌, ◌++◌, refl, ◌∙◌, sym, subst, Option, Some, None, slice_get}
use Rattle.std.specs.Prelude.{is_some, not, Contains}
use Rattle.std.proofs.lemmas.List.Elements.{Contains-append_left, Contains-append_right, Contains-push}
use Rattle.p10_base.specs.declared.span.Span.{Span}
use Rattle.p10_base.specs.declared.at.At.{At}
use Rattle.p10_core.specs.declared.statements.LoopHead.{LoopHead}
use Rattle.p10_core.specs.declared.statements.LoopKeyword.{LoopKeyword}
use Rattle.p10_core.specs.declared.statements.LoopKeyword.TheVariants.{While, Do, For}
use Rattle.p10_core.specs.Typed.{PlainValue, PlainStatement, loop, PlainStatements, no_statements, PlainFunction, PlainProgram}
use Rattle.p10_core.specs.WholePrograms.{around, is_declaration, AreClauses, declared_in, declared_of, IsMaybeTest, IsWholeStatement, IsWholeStatementForm, AreWholeStatements, IsWholeProgram}
use Rattle.p10_cert.specs.declared.claims.Rank.{Rank}
use Rattle.p10_cert.specs.declared.claims.Rank.TheVariants.{Task}
use Rattle.p10_cert.specs.Claims.{Value, Loop, Claims}
use Rattle.p10_meaning.specs.declared.pointers.Scalar.{Scalar}
use Rattle.p10_meaning.specs.States.{State}
use Rattle.p10_meaning.specs.Values.{Setting, Held}
use Rattle.p10_meaning.specs.Statements.{Frame, Flow, normal, broken, continued, returned, Done, goes, test, execute, execute_from, round}
use Rattle.p10_meaning.specs.Calling.{Depth, setting_of, call_at}
use Rattle.p10_meaning.specs.Sound.{region_at}
use Rattle.p10_sums.specs.Counting.{Counting, turns_claimed}
use Rattle.p10_sums.specs.Keeping.{HoldsOf, OnGives, OnBack, LoopKeeps, TestKeeps, StatementKeeps, StatementsKeep}
use Rattle.p10_absx.specs.Environments.{Environment, known, hull_reached}
use Rattle.p10_absx.specs.Describing.{Describes, MaybeDescribes}
use Rattle.p10_pass.specs.Claiming.{head_of, enters_ranked, goes_back_ranked, is_enough, rank_in, ranges_hold, ranges_hold_reached, no_claim, loop_claimed}
use Rattle.p10_pass.specs.Scopes.{form_assigns}
use Rattle.p10_pass.specs.Passing.{Failing, Weakness, Left, Manner, manner_in, where_going, tested_in, failing_if, rank_fails, weakness_of, Round, round_of, place_unless, loop_left, pass_statement, pass_statements}
use Rattle.p10_evaluation.specs.Claimed.{IsCoveredCall, ResultsLie}
use Rattle.p10_evaluation.proofs.Hulls.{reached_left, reached_right}
use Rattle.p10_execution.specs.Scoping.{KnowsNumbers, IsBefore}
use Rattle.p10_execution.specs.Standing.{StandsSoundly}
use Rattle.p10_execution.specs.Leaving.{NoneFails, LeavesAs}
use Rattle.p10_execution.specs.Bounding.{trees_among, IsBounded, is_task, AreMadeUp}
use Rattle.p10_execution.proofs.Giving.{holds_weaker}
use Rattle.p10_execution.proofs.Entries.{changed_knows}
use Rattle.p10_execution.proofs.ScopedEnds.{nothing, MaybeScoped, third_expressions, third_declares, before_same, before_scoped, before_nothing, changed_scope}
use Rattle.p10_execution.proofs.PassedScopes.{RoundScoped, loop_scoped}
use Rattle.p10_execution.proofs.Ends.{nothing_left, nothing_right}
use Rattle.p10_execution.proofs.Heads.{head_describes}
use Rattle.p10_execution.proofs.Ranks.{entry_rank}
use Rattle.p10_execution.proofs.Expressions.{no_third}
use Rattle.p10_execution.proofs.Looping.{Went, on_from, on_scoped, TurnHolds, AtHead, Entered, w_none_body, w_none_third, d_none_body, TestsKept, KeepsParts, loop_bounded, loop_ranked}
use Rattle.p10_execution.proofs.Unchanged.{Stays}
use Rattle.p10_execution.proofs.LoopStatements.{round_keeps, met}
use Rattle.p10_execution.proofs.KeepingParts.{test_kept, test_on_kept}

-- ## Ranks that stand

-- K8 to K10 of a loop
pub record RankStands (claim : Loop) (entry : Environment) (r : Round) : Type 0 where
  pub enters : enters_ranked claim.rank r.enters ≡ true
  pub back : goes_back_ranked claim.rank r.back ≡ true
  pub enough : is_enough claim.turns (rank_in claim.rank entry) ≡ true

not_failing : (b : Bool) (k : ℕ) (at : Span) → failing_if (not b) k at ≡ [] → b ≡ true
not_failing true k at e = refl
not_failing false k at e = absurd cc

stands : (claim : Loop) (at : Span) (entry : Environment) (r : Round) (rank : Rank) → is_task rank ≡ false → rank_fails (record claim { rank = rank }) at entry r ≡ [] → RankStands (record claim { rank = rank }) entry r
stands claim at entry r Task t e = absurd cc
stands claim at entry r rank t e =
    let rest = nothing_right (failing_if (not (enters_ranked rank r.enters)) 8 at) (failing_if (not (goes_back_ranked rank r.back)) 9 at ++ failing_if (not (is_enough claim.turns (rank_in rank entry))) 10 at) e in
    record {
      enters = not_failing (enters_ranked rank r.enters) 8 at (nothing_left (failing_if (not (enters_ranked rank r.enters)) 8 at) _ e);
      back = not_failing (goes_back_ranked rank r.back) 9 at (nothing_left (failing_if (not (goes_back_ranked rank r.back)) 9 at) _ rest);
      enough = not_failing (is_enough claim.turns (rank_in rank entry)) 10 at (nothing_right (failing_if (not (goes_back_ranked rank r.back)) 9 at) _ rest);
    }

-- the turns of a loop's claim
pub turns_same : (loops : List Loop) (k : ℕ) → (loop_claimed loops k).turns ≡ turns_claimed (slice_get loops k)
turns_same loops k = of (slice_get loops k)
  where
    of : (o : Option Loop) → (elim o as (λ x. Loop) [ None ↦ no_claim | Some l ↦ l ]).turns ≡ turns_claimed o
    of None = refl
    of (Some l) = refl

-- `do` has no third clause
nothing_third : (keyword : LoopKeyword) (first : PlainStatements) (tested : Option PlainValue) (third : PlainStatements) → AreClauses keyword first tested third → keyword ≡ Do → third ≡ no_statements
nothing_third Do no_statements (Some v) no_statements h e = refl
nothing_third While first tested third h e = absurd cc
nothing_third For first tested third h e = absurd cc
nothing_third keyword first tested third h e = absurd h

module _ (p : PlainProgram) (whole : IsWholeProgram p) (n : ℕ) (depth : Depth) (number : ℕ) (f : PlainFunction) (there : slice_get p.functions number ≡ Some f)
    (calls : Option Claims) (ls : List Loop) (result : Option Value) (lie : ResultsLie p calls n (call_at n p depth))
    (K : ℕ → List Scalar → State → Type 0) (covered : (g : ℕ) (xs : List Scalar) (w : State) → IsCoveredCall p calls n g xs w → K g xs w) (c : Counting) (counted_loops : c.loops ≡ ls) where
  abbrev s : Setting
  s = setting_of p n (call_at n p) depth f

  abbrev loops : Option (List Loop)
  loops = Some ls

  abbrev m : Manner
  m = manner_in f calls loops result

  abbrev Stand : Frame → State → Type 0
  Stand frame w = StandsSoundly p f.variables n frame w

  module _ (scope : List ℕ) (l b : Bool) (at : At) (head : LoopHead) (first : PlainStatements) (tested : Option PlainValue) (third : PlainStatements) (body : PlainStatement)
      (form_whole : IsWholeStatementForm (region_at p number f scope l b) (loop head first tested third body)) (inner : List ℕ)
      (test_whole : IsMaybeTest (around (region_at p number f inner false false)) tested) (third_whole : AreWholeStatements (region_at p number f inner l b) third) (body_whole : IsWholeStatement (region_at p number f inner true b) body)
      (clauses : AreClauses head.keyword first tested third) (plain : is_declaration body ≡ false)
      (body_goes : (env : Environment) → IsBefore f.variables (declared_in body) env → NoneFails (pass_statement m body env) → (head : List Held) (frame : Frame) (w : State) → Stand frame w → Describes f.variables env head frame.held →
      HoldsOf (Went p whole n depth number f there calls loops result lie (pass_statement m body env) head) (execute s body frame w))
      (third_goes : (env : Environment) → IsBefore f.variables (declared_of third) env → NoneFails (pass_statements m third env) → (head : List Held) (frame : Frame) (w : State) → Stand frame w → Describes f.variables env head frame.held →
      HoldsOf (Went p whole n depth number f there calls loops result lie (pass_statements m third env) head) (execute_from s 0 third frame w))
      (body_keeps : (env : Environment) → IsBefore f.variables (declared_in body) env → NoneFails (pass_statement m body env) → AreMadeUp p n depth number f ls (pass_statement m body env).weak → (head : List Held) (frame : Frame) (w : State) → Stand frame w → Describes f.variables env head frame.held →
      StatementKeeps c s K body frame w)
      (third_keeps : (env : Environment) → IsBefore f.variables (declared_of third) env → NoneFails (pass_statements m third env) → (head : List Held) (frame : Frame) (w : State) → Stand frame w → Describes f.variables env head frame.held →
      StatementsKeep c s K 0 third frame w)
      (among : Contains (trees_among f.body) (record { head = head; first = first; tested = tested; third = third; body = body })) (no_task : is_task (loop_claimed ls head.number).rank ≡ false) where
    abbrev RoundKept : Frame → State → Type 0
    RoundKept frame w = StatementKeeps c s K body frame w × OnGives (λ (d : Done) w. OnBack d.flow (StatementsKeep c s K 0 third d.frame w)) (execute s body frame w)

    abbrev claim : Loop
    claim = loop_claimed ls head.number

    module _ (entry : Environment) (before : IsBefore f.variables (declared_in body) entry) (outer : List Held) (frame : Frame) (described : Describes f.variables entry outer frame.held) where
      abbrev at_head : Environment
      at_head = head_of claim f.variables entry

      abbrev TurnOf : LoopKeyword → Round
      TurnOf keyword = round_of m keyword tested (λ env. pass_statements m third env) (λ env. pass_statement m body env) at_head

      abbrev stays : ℕ → Type 0
      stays k = (is_some (known entry k) ≡ true) × (form_assigns k (loop head first tested third body) ≡ false)

      abbrev kept_by : (k : ℕ) → stays k → (frame : Frame) (w : State) → HoldsOf (Stays k frame) (round s third body frame w)
      kept_by = round_keeps p whole n depth number f there calls loops result lie inner l b head first tested third body test_whole third_whole body_whole clauses plain body_goes third_goes entry before

      abbrev Head : Frame → State → Type 0
      Head frame w = AtHead p whole n depth number f there calls loops result lie inner l b tested third body test_whole (third_expressions head.keyword first tested third clauses) (third_declares head.keyword first tested third clauses) body_goes third_goes claim entry before frame.held stays kept_by frame w

      ready_third : (o : Option Environment) → MaybeScoped f.variables nothing at_head o → NoneFails (where_going o (λ env. pass_statements m third env)) → (head : List Held) (frame : Frame) (w : State) → Stand frame w → MaybeDescribes f.variables o head frame.held → StatementsKeep c s K 0 third frame w
      ready_third None scoped none inside frame w r d = absurd d
      ready_third (Some e) scoped none inside frame w r d = third_keeps e (before_nothing f.variables (declared_of third) e (third_declares head.keyword first tested third clauses) scoped.knows) none inside frame w r d

      before_head : IsBefore f.variables (declared_in body) at_head
      before_head = before_same f.variables (declared_in body) entry at_head before (changed_scope f.variables _ entry)

      back_kept : (a : Left) (head : List Held) (flow : Flow) (frame : Frame) (w : State) → ((frame : Frame) (w : State) → Stand frame w → MaybeDescribes f.variables (hull_reached a.normal a.continues) head frame.held → StatementsKeep c s K 0 third frame w) → Stand frame w → LeavesAs f.variables m a head flow frame.held →
          OnBack flow (StatementsKeep c s K 0 third frame w)
      back_kept a head normal frame w rest r h = rest frame w r (reached_left f.variables a.normal a.continues head frame.held h)
      back_kept a head continued frame w rest r h = rest frame w r (reached_right f.variables a.normal a.continues head frame.held h)
      back_kept a head broken frame w rest r h = tt
      back_kept a head (returned x) frame w rest r h = tt

      -- a round from where its body is entered
      round_kept : (o : Option Environment) → MaybeScoped f.variables nothing at_head o → NoneFails (where_going o (λ env. pass_statement m body env)) → AreMadeUp p n depth number f ls (where_going o (λ env. pass_statement m body env)).weak → (frame : Frame) (w : State) →
          ((after : Frame) (w : State) → Stand after w → MaybeDescribes f.variables (hull_reached (where_going o (λ env. pass_statement m body env)).normal (where_going o (λ env. pass_statement m body env)).continues) frame.held after.held → StatementsKeep c s K 0 third after w) →
          Stand frame w → MaybeDescribes f.variables o frame.held frame.held → RoundKept frame w
      round_kept None scoped none weak frame w rest r d = absurd d
      round_kept (Some e) scoped none weak frame w rest r d =
          let fresh : IsBefore f.variables (declared_in body) e = before_scoped f.variables nothing (declared_in body) at_head e before_head scoped (λ k q. refl) in (
            body_keeps e fresh none weak frame.held frame w r d,
            record {
              given = holds_weaker (Went p whole n depth number f there calls loops result lie (pass_statement m body e) frame.held) (λ (d : Done) w. OnBack d.flow (StatementsKeep c s K 0 third d.frame w)) (execute s body frame w)
                  (body_goes e fresh none frame.held frame w r d) (λ d w h. back_kept (pass_statement m body e) frame.held d.flow d.frame w rest h.ready h.as_said);
            },
          )

      abbrev HoldsTurn : Round → Type 0
      HoldsTurn r = TurnHolds p whole n depth number f there calls loops result lie inner l b tested third body test_whole (third_expressions head.keyword first tested third clauses) (third_declares head.keyword first tested third clauses) body_goes third_goes claim entry before frame.held stays kept_by r

      abbrev EnteredTurn : LoopKeyword → Frame → State → Type 0
      EnteredTurn keyword after w = Entered p whole n depth number f there calls loops result lie inner l b tested third body test_whole (third_expressions head.keyword first tested third clauses) (third_declares head.keyword first tested third clauses) body_goes third_goes claim entry before frame.held stays kept_by (TurnOf keyword) after w

      abbrev knows_head : KnowsNumbers f.variables at_head
      knows_head = record { each = λ k e. before.knows.each k (sym (changed_knows _ 0 f.variables entry k) ∙ e) }

      -- the tests of the loop
      tests_kept : (keyword : LoopKeyword) → HoldsTurn (TurnOf keyword) → TestsKept p whole n depth number f there calls loops result lie inner l b tested third body test_whole (third_expressions head.keyword first tested third clauses) (third_declares head.keyword first tested third clauses) body_goes third_goes claim entry before frame.held stays kept_by keyword (TestKeeps s K tested)
      tests_kept While holds = λ after w h. test_kept p whole n depth number f there calls loops result lie K covered inner tested test_whole at_head after.held after w (nothing_left (tested_in m tested at_head).names _ holds.names) h.ready h.describes
      tests_kept For holds = λ after w h. test_kept p whole n depth number f there calls loops result lie K covered inner tested test_whole at_head after.held after w (nothing_left (tested_in m tested at_head).names _ holds.names) h.ready h.describes
      tests_kept Do holds = λ inside after w i.
          test_on_kept p whole n depth number f there calls loops result lie K covered inner tested test_whole (hull_reached (pass_statement m body at_head).normal (pass_statement m body at_head).continues) inside after w
          (nothing_right (pass_statement m body at_head).arguments _ holds.names) i.0.ready i.0.describes

      entered_kept : (keyword : LoopKeyword) → (keyword ≡ Do → third ≡ no_statements) → (keyword ≡ Do → (frame : Frame) (w : State) → execute_from s 0 third frame w ≡ goes frame w) → RoundScoped f.variables calls loops result at_head (TurnOf keyword) → HoldsTurn (TurnOf keyword) → AreMadeUp p n depth number f ls (TurnOf keyword).body.weak →
          (after : Frame) (w : State) → EnteredTurn keyword after w → RoundKept after w
      entered_kept While empty third_is scoped holds weak after w i = round_kept (tested_in m tested at_head).truth scoped.enters (w_none_body p whole n depth number f there calls loops result lie inner l b tested third body test_whole (third_expressions head.keyword first tested third clauses) (third_declares head.keyword first tested third clauses) body_goes third_goes claim entry before frame.held stays kept_by scoped holds) weak after w
          (λ last w r d. ready_third (on_from p whole n depth number f there calls loops result lie inner l b tested third body test_whole (third_expressions head.keyword first tested third clauses) (third_declares head.keyword first tested third clauses) body_goes third_goes claim entry before frame.held stays kept_by (TurnOf While).body) (on_scoped p whole n depth number f there calls loops result lie inner l b tested third body test_whole (third_expressions head.keyword first tested third clauses) (third_declares head.keyword first tested third clauses) body_goes third_goes claim entry before frame.held stays kept_by (TurnOf While).body scoped.body) (w_none_third p whole n depth number f there calls loops result lie inner l b tested third body test_whole (third_expressions head.keyword first tested third clauses) (third_declares head.keyword first tested third clauses) body_goes third_goes claim entry before frame.held stays kept_by scoped holds) after.held last w r d) i.0.ready i.0.describes
      entered_kept For empty third_is scoped holds weak after w i = round_kept (tested_in m tested at_head).truth scoped.enters (w_none_body p whole n depth number f there calls loops result lie inner l b tested third body test_whole (third_expressions head.keyword first tested third clauses) (third_declares head.keyword first tested third clauses) body_goes third_goes claim entry before frame.held stays kept_by scoped holds) weak after w
          (λ last w r d. ready_third (on_from p whole n depth number f there calls loops result lie inner l b tested third body test_whole (third_expressions head.keyword first tested third clauses) (third_declares head.keyword first tested third clauses) body_goes third_goes claim entry before frame.held stays kept_by (TurnOf While).body) (on_scoped p whole n depth number f there calls loops result lie inner l b tested third body test_whole (third_expressions head.keyword first tested third clauses) (third_declares head.keyword first tested third clauses) body_goes third_goes claim entry before frame.held stays kept_by (TurnOf While).body scoped.body) (w_none_third p whole n depth number f there calls loops result lie inner l b tested third body test_whole (third_expressions head.keyword first tested third clauses) (third_declares head.keyword first tested third clauses) body_goes third_goes claim entry before frame.held stays kept_by scoped holds) after.held last w r d) i.0.ready i.0.describes
      entered_kept Do empty third_is scoped holds weak after w i = round_kept (Some at_head) scoped.enters (d_none_body p whole n depth number f there calls loops result lie inner l b tested third body test_whole (third_expressions head.keyword first tested third clauses) (third_declares head.keyword first tested third clauses) body_goes third_goes claim entry before frame.held stays kept_by (third_is refl) knows_head scoped holds) weak after w
          (λ last w r d. subst (λ t. StatementsKeep c s K 0 t last w) (sym (empty refl)) tt) i.0.ready i.0.describes

      abbrev r : Round
      r = TurnOf head.keyword

      abbrev loop_fails : Left
      loop_fails = loop_left m claim head (λ k. form_assigns k (loop head first tested third body)) entry r

      pub claimed_kept : NoneFails loop_fails → AreMadeUp p n depth number f ls loop_fails.weak → (w : State) → Stand frame w → LoopKeeps head.keyword claim.turns (test s tested) (round s third body) (TestKeeps s K tested) RoundKept frame w
      claimed_kept none weak w ready = by_case (rank_fails claim head.span entry r) refl weak
        where
          entry_holds : ranges_hold claim 0 f.variables entry ≡ true
          entry_holds = met (ranges_hold claim 0 f.variables entry) head.span (nothing_left (place_unless (ranges_hold claim 0 f.variables entry) head.span) r.body.entries none.entries)

          holds : HoldsTurn r
          holds = record {
            names = none.arguments;
            results = none.results;
            entries = nothing_right (place_unless (ranges_hold claim 0 f.variables entry) head.span) r.body.entries none.entries;
            backs = nothing_right (place_unless (ranges_hold_reached claim f.variables r.back) head.span) r.body.backs none.backs;
            back_holds = met (ranges_hold_reached claim f.variables r.back) head.span (nothing_left (place_unless (ranges_hold_reached claim f.variables r.back) head.span) r.body.backs none.backs);
          }

          scoped : RoundScoped f.variables calls loops result at_head r
          scoped = loop_scoped f.variables calls loops result (region_at p number f inner l b) head first tested third body third_whole (region_at p number f inner true b) body_whole plain (third_declares head.keyword first tested third clauses) claim entry before

          third_is : head.keyword ≡ Do → (frame : Frame) (w : State) → execute_from s 0 third frame w ≡ goes frame w
          third_is = no_third s head.keyword first tested third clauses

          at_entry : Head frame w
          at_entry = record { ready = ready; describes = head_describes claim f.variables entry entry outer frame.held (λ k e. e) entry_holds described; kept = λ k j. refl }

          body_weak : (fs : List Failing) → AreMadeUp p n depth number f ls (weakness_of head.number entry fs ++ r.body.weak) → AreMadeUp p n depth number f ls r.body.weak
          body_weak fs weak = λ k h. weak k (Contains-append_right (weakness_of head.number entry fs) r.body.weak k h)

          parts : AreMadeUp p n depth number f ls r.body.weak → KeepsParts p whole n depth number f there calls loops result lie inner l b tested third body test_whole (third_expressions head.keyword first tested third clauses) (third_declares head.keyword first tested third clauses) body_goes third_goes claim entry before frame.held stays kept_by head.keyword (TestKeeps s K tested) RoundKept
          parts weak = record { tests_kept = tests_kept head.keyword holds; entered_keeps = entered_kept head.keyword (nothing_third head.keyword first tested third clauses) third_is scoped holds weak }

          by_case : (fs : List Failing) → rank_fails claim head.span entry r ≡ fs → AreMadeUp p n depth number f ls (weakness_of head.number entry fs ++ r.body.weak) → LoopKeeps head.keyword claim.turns (test s tested) (round s third body) (TestKeeps s K tested) RoundKept frame w
          by_case [] e weak =
              let rank : RankStands claim entry r = stands claim head.span entry r claim.rank no_task e in
              loop_ranked p whole n depth number f there calls loops result lie inner l b tested third body test_whole (third_expressions head.keyword first tested third clauses) (third_declares head.keyword first tested third clauses) body_goes third_goes claim entry before frame.held stays kept_by head.keyword third_is knows_head scoped holds (TestKeeps s K tested) RoundKept (parts (body_weak [] weak)) rank.enters rank.back claim.turns frame w at_entry
              (entry_rank f.variables claim.rank claim.turns entry outer frame.held rank.enough described)
          by_case (x ∷ xs) e weak =
              let k : Weakness = record { at = head.number; entry = entry; fails = x ∷ xs } in
              let bound : IsBounded p n depth number f ls head.number entry = weak k (Contains-append_left (k ∷ []) r.body.weak k (Contains-push [] k)) in
              loop_bounded p whole n depth number f there calls loops result lie inner l b tested third body test_whole (third_expressions head.keyword first tested third clauses) (third_declares head.keyword first tested third clauses) body_goes third_goes claim entry before frame.held stays kept_by head.keyword third_is knows_head scoped holds (TestKeeps s K tested) RoundKept (parts (body_weak (x ∷ xs) weak)) claim.turns frame w at_entry
              (bound.bounded (record { head = head; first = first; tested = tested; third = third; body = body }) among refl scope l b form_whole before outer frame w ready described)
