-- A loop leaves a clean state where its parts do.
use Rattle.std.proofs.Common.{◌≡◌, ℕ, Bool, true, List, [], ◌++◌, refl, ◌∙◌, sym, Option, Some, None, slice_get}
use Rattle.p10_base.specs.declared.at.At.{At}
use Rattle.p10_core.specs.declared.statements.LoopHead.{LoopHead}
use Rattle.p10_core.specs.declared.statements.LoopKeyword.{LoopKeyword}
use Rattle.p10_core.specs.declared.statements.LoopKeyword.TheVariants.{While, Do, For}
use Rattle.p10_core.specs.Typed.{PlainValue, PlainStatement, statement, loop, PlainStatements, no_statements, PlainFunction, PlainProgram}
use Rattle.p10_core.specs.WholePrograms.{Region, AreClauses, declared_in, declared_of, IsWholeStatement, IsWholeProgram}
use Rattle.p10_cert.specs.Claims.{Value, Loop, Claims}
use Rattle.p10_meaning.specs.Objects.{Object}
use Rattle.p10_meaning.specs.States.{State}
use Rattle.p10_meaning.specs.Values.{Setting, Held}
use Rattle.p10_meaning.specs.Statements.{Frame, Flow, normal, broken, continued, returned, Done, goes, go_on, in_block, test, loop_by, execute, execute_from, round, looped}
use Rattle.p10_meaning.specs.Calling.{Depth, setting_of, call_at}
use Rattle.p10_meaning.specs.Sound.{region_at}
use Rattle.p10_meaning.proofs.SoundStatements.{scope_after_all}
use Rattle.p10_absx.specs.Environments.{Environment}
use Rattle.p10_absx.specs.Describing.{Describes, MaybeDescribes}
use Rattle.p10_pass.specs.Arguments.{where_reached}
use Rattle.p10_pass.specs.Claiming.{head_of, loop_claimed, ranges_hold, ranges_hold_reached}
use Rattle.p10_pass.specs.Scopes.{form_assigns}
use Rattle.p10_pass.specs.Passing.{Left, Manner, manner_in, where_going, followed, Round, round_of, place_unless, loop_left, pass_statement, pass_statements}
use Rattle.p10_evaluation.specs.Claimed.{ResultsLie}
use Rattle.p10_execution.specs.Scoping.{KnowsNumbers, IsBefore}
use Rattle.p10_execution.specs.Leaving.{NoneFails}
use Rattle.p10_execution.proofs.Ends.{nothing_left, nothing_right, followed_none_left, followed_none_right, block_none}
use Rattle.p10_execution.proofs.Entries.{changed_knows}
use Rattle.p10_execution.proofs.Expressions.{no_third}
use Rattle.p10_execution.proofs.Heads.{head_describes}
use Rattle.p10_execution.proofs.LoopStatements.{met}
use Rattle.p10_execution.proofs.PassedScopes.{RoundScoped, loop_scoped, statements_scoped}
use Rattle.p10_execution.proofs.ScopedEnds.{MaybeScoped, EndsScoped, third_declares, before_left, before_body}
use Rattle.p10_execution.proofs.TopDeclarations.{declares_at_top}
use Rattle.p10_execution.proofs.Turning.{ended}
use Rattle.p10_clean.specs.declared.flaw.Flaw.{Flaw}
use Rattle.p10_clean.specs.Settings.{Settings, Ways, ways_of, ways_of_all}
use Rattle.p10_clean.specs.Statements.{flaws_in_statement, flaws_in_statements, round_flaws}
use Rattle.p10_clean_soundness.specs.private.Stays.{Stays}
use Rattle.p10_clean_soundness.specs.private.Setting.{AreApart}
use Rattle.p10_clean_soundness.specs.private.Objects.{LeavesClean}
use Rattle.p10_clean_soundness.proofs.Apart.{apart_left}
use Rattle.p10_clean_soundness.proofs.ClaimedLoops.{third_whole, body_whole, TurnOf, LoopLeft, AtLoop, Holds, while_clean, do_clean}
use Rattle.p10_clean_soundness.proofs.Closing.{OpensNew, IsSound, block_clean}
use Rattle.p10_clean_soundness.proofs.Reaching.{Stand, Next, GoesAs, goes_as, statements_next, GoesClean, AllClean, stand_step, stand_block, ValuesClean}
use Rattle.p10_clean_soundness.proofs.Staying.{stays_step, stays_then}

-- `do` has no third clause
nothing_third : (keyword : LoopKeyword) (first : PlainStatements) (tested : Option PlainValue) (third : PlainStatements) → AreClauses keyword first tested third → keyword ≡ Do → third ≡ no_statements
nothing_third Do no_statements (Some v) no_statements h e = refl
nothing_third While first tested third h e = absurd cc
nothing_third For first tested third h e = absurd cc
nothing_third keyword first tested third h e = absurd h

module _ (p : PlainProgram) (whole : IsWholeProgram p) (n : ℕ) (depth : Depth) (number : ℕ) (f : PlainFunction) (there : slice_get p.functions number ≡ Some f)
    (calls : Option Claims) (ls : List Loop) (result : Option Value) (lie : ResultsLie p calls n (call_at n p depth)) (values : ValuesClean p whole n depth number f there calls (Some ls) result lie) where
  abbrev s : Setting
  s = setting_of p n (call_at n p) depth f

  abbrev loops : Option (List Loop)
  loops = Some ls

  abbrev m : Manner
  m = manner_in f calls loops result

  abbrev here : List ℕ → Bool → Bool → Region
  here scope l b = region_at p number f scope l b

  abbrev Stands : List ℕ → List ℕ → Settings → Frame → State → Type 0
  Stands scope opening settings frame w = Stand p whole n depth number f there calls loops result lie scope opening settings frame w

  abbrev Clean : List ℕ → List Object → Done → State → Type 0
  Clean opening before d u = LeavesClean p opening before u

  module _ (scope : List ℕ) (l b : Bool) (at : At) (head : LoopHead) (first : PlainStatements) (tested : Option PlainValue) (third : PlainStatements) (body : PlainStatement) (i : IsWholeStatement (here scope l b) (statement at (loop head first tested third body)))
      (apart_body : AreApart (scope_after_all first scope) (declared_in body)) (body_clean : GoesClean p whole n depth number f there calls loops result lie (scope_after_all first scope) body) (third_clean : AllClean p whole n depth number f there calls loops result lie (scope_after_all first scope) third) where
    abbrev x : PlainStatement
    x = statement at (loop head first tested third body)

    abbrev claim : Loop
    claim = loop_claimed ls head.number

    abbrev Inner : List ℕ
    Inner = scope_after_all first scope

    abbrev round_from : Environment → Round
    round_from entry = round_of m head.keyword tested (λ env. pass_statements m third env) (λ env. pass_statement m body env) (head_of claim f.variables entry)

    abbrev loop_from : Environment → Left
    loop_from entry = loop_left m claim head (λ k. form_assigns k (loop head first tested third body)) entry (round_from entry)

    -- the flaws of a round, by a keyword
    abbrev flaws_of : LoopKeyword → Settings → Environment → List Flaw
    flaws_of keyword entry_set at_head =
        round_flaws m keyword tested (λ env settings. flaws_in_statements m third settings env) (λ env settings. flaws_in_statement m body settings env) (λ env. pass_statement m body env) entry_set (ways_of body entry_set) at_head

    module _ (entry : Environment) (before : IsBefore f.variables (declared_in body) entry) (outer : List Held) (frame0 : Frame) (described : Describes f.variables entry outer frame0.held) (entry_set : Settings) (opening : List ℕ) (start : List Object) where
      abbrev at_head : Environment
      at_head = head_of claim f.variables entry

      abbrev knows_head : KnowsNumbers f.variables at_head
      knows_head = record { each = λ k e. before.knows.each k (sym (changed_knows _ 0 f.variables entry k) ∙ e) }

      abbrev Out : Done → State → Type 0
      Out d u = LoopLeft p whole n depth number f there calls loops result lie values scope l b at head first tested third body i apart_body body_clean third_clean claim entry before outer frame0 described entry_set opening start d u

      abbrev AtTop : Frame → State → Type 0
      AtTop frame w = AtLoop p whole n depth number f there calls loops result lie values scope l b at head first tested third body i apart_body body_clean third_clean claim entry before outer frame0 described entry_set opening start frame w

      by_keyword : (keyword : LoopKeyword) → (keyword ≡ Do → third ≡ no_statements) → (keyword ≡ Do → (frame : Frame) (w : State) → execute_from s 0 third frame w ≡ goes frame w) →
          RoundScoped f.variables calls loops result at_head (TurnOf p whole n depth number f there calls loops result lie values scope l b at head first tested third body i apart_body body_clean third_clean claim entry before outer frame0 described entry_set opening start keyword) → Holds p whole n depth number f there calls loops result lie values scope l b at head first tested third body i apart_body body_clean third_clean claim entry before outer frame0 described entry_set opening start keyword → flaws_of keyword entry_set at_head ≡ [] →
          (j : ℕ) (frame : Frame) (w : State) → AtTop frame w → Stays Out (loop_by keyword j (λ frame w. test s tested frame w) (round s third body) frame w)
      by_keyword While empty third_is scoped holds flaws j frame w h =
          let rest = nothing_right _ _ flaws in
          while_clean p whole n depth number f there calls loops result lie values scope l b at head first tested third body i apart_body body_clean third_clean claim entry before outer frame0 described entry_set opening start scoped holds (nothing_left _ _ flaws) (nothing_left _ _ rest) (nothing_right _ _ rest) While (λ frame w h. h) j frame w h
      by_keyword For empty third_is scoped holds flaws j frame w h =
          let rest = nothing_right _ _ flaws in
          while_clean p whole n depth number f there calls loops result lie values scope l b at head first tested third body i apart_body body_clean third_clean claim entry before outer frame0 described entry_set opening start scoped holds (nothing_left _ _ flaws) (nothing_left _ _ rest) (nothing_right _ _ rest) For (λ frame w h. h) j frame w h
      by_keyword Do empty third_is scoped holds flaws j frame w h =
          do_clean p whole n depth number f there calls loops result lie values scope l b at head first tested third body i apart_body body_clean third_clean claim entry before outer frame0 described entry_set opening start (third_is refl) (empty refl) knows_head scoped holds (nothing_right _ _ flaws) (nothing_left _ _ flaws) j frame w h

      -- the loop from its head on
      entered_clean : NoneFails (loop_from entry) → flaws_of head.keyword entry_set at_head ≡ [] → (w : State) → Stands Inner opening entry_set frame0 w → LeavesClean p opening start w → OpensNew start [] (ended frame0) →
          Stays Out (loop_by head.keyword n (λ frame w. test s tested frame w) (round s third body) frame0 w)
      entered_clean none flaws w stands clean opens =
          by_keyword head.keyword (nothing_third head.keyword first tested third i.4) (no_third s head.keyword first tested third i.4)
          (loop_scoped f.variables calls loops result (here Inner l b) head first tested third body (third_whole p whole n depth number f there calls loops result lie values scope l b at head first tested third body i apart_body body_clean third_clean) (here Inner true b) (body_whole p whole n depth number f there calls loops result lie values scope l b at head first tested third body i apart_body body_clean third_clean) i.5 (third_declares head.keyword first tested third i.4) claim entry before)
          (record {
            names = none.arguments;
            results = none.results;
            entries = nothing_right (place_unless (ranges_hold claim 0 f.variables entry) head.span) (round_from entry).body.entries none.entries;
            backs = nothing_right (place_unless (ranges_hold_reached claim f.variables (round_from entry).back) head.span) (round_from entry).body.backs none.backs;
            back_holds = met (ranges_hold_reached claim f.variables (round_from entry).back) head.span (nothing_left (place_unless (ranges_hold_reached claim f.variables (round_from entry).back) head.span) (round_from entry).body.backs none.backs);
          }) flaws n frame0 w (
            record {
              ready = stands.soundly;
              describes = head_describes claim f.variables entry entry outer frame0.held (λ k e. e)
                  (met (ranges_hold claim 0 f.variables entry) head.span (nothing_left (place_unless (ranges_hold claim 0 f.variables entry) head.span) (round_from entry).body.entries none.entries)) described;
              kept = λ k j. refl;
            },
            record { stands = stands; clean = clean; opens = opens },
          )

    abbrev LoopEnds : List ℕ → List Object → Done → State → Type 0
    LoopEnds opening start d u = IsSound p u × LeavesClean p opening start u × OpensNew start [] d

    -- after the first clause, where states come
    reached_clean : (env : Environment) → IsBefore f.variables (declared_of first ++ declared_in body) env → (o : Option Environment) → MaybeScoped f.variables (λ k. declares_at_top k first) env o → NoneFails (where_going o loop_from) → (entry_set : Settings) →
        where_reached o (λ known. flaws_of head.keyword entry_set (head_of claim f.variables known)) ≡ [] → (outer : List Held) (opening : List ℕ) (start : List Object) (frame : Frame) (w : State) → MaybeDescribes f.variables o outer frame.held → Stands Inner opening entry_set frame w → LeavesClean p opening start w → OpensNew start [] (ended frame) →
        Stays (LoopEnds opening start) (loop_by head.keyword n (λ frame w. test s tested frame w) (round s third body) frame w)
    reached_clean env before None scoped none entry_set flaws outer opening start frame w d stands clean opens = absurd d
    reached_clean env before (Some entry) scoped none entry_set flaws outer opening start frame w d stands clean opens =
        entered_clean entry (before_body f.variables first (declared_in body) env entry before scoped) outer frame d entry_set opening start none flaws w stands clean opens

    after_first : (a : Left) (ways : Ways) (outer : List Held) (opening : List ℕ) (start : List Object) (u : State) → ((frame : Frame) → MaybeDescribes f.variables a.normal outer frame.held → Stands Inner opening ways.normal frame u → OpensNew start [] (ended frame) →
        Stays (LoopEnds opening start) (loop_by head.keyword n (λ frame w. test s tested frame w) (round s third body) frame u)) → (flow : Flow) (last : Frame) → IsSound p u → LeavesClean p opening start u → OpensNew start [] (record { flow = flow; frame = last }) →
        GoesAs p whole n depth number f there calls loops result lie Inner scope opening ways a outer flow last u → Stays (LoopEnds opening start) (go_on flow last u (λ frame w. loop_by head.keyword n (λ frame w. test s tested frame w) (round s third body) frame w))
    after_first a ways outer opening start u go normal last sound clean opens g = go last g.1 g.0 opens
    after_first a ways outer opening start u go broken last sound clean opens g = (sound, clean, opens)
    after_first a ways outer opening start u go continued last sound clean opens g = (sound, clean, opens)
    after_first a ways outer opening start u go (returned y) last sound clean opens g = (sound, clean, opens)

    pub loop_clean : AllClean p whole n depth number f there calls loops result lie scope first → (env : Environment) → IsBefore f.variables (declared_of first ++ declared_in body) env → NoneFails (pass_statement m x env) → (settings : Settings) → flaws_in_statement m x settings env ≡ [] → AreApart scope (declared_of first ++ declared_in body) →
        (opening : List ℕ) (outer : List Held) (frame : Frame) (w : State) → Stands scope opening settings frame w → Describes f.variables env outer frame.held → Stays (Clean opening w.objects) (execute s x frame w)
    loop_clean first_clean env before none settings flaws apart opening outer frame w stands d =
        let a : Left = pass_statements m first env in
        let ways : Ways = ways_of_all first settings in
        let all : NoneFails (followed a (where_going a.normal loop_from)) = block_none first (followed a (where_going a.normal loop_from)) none in
        let first_before : IsBefore f.variables (declared_of first) env = before_left f.variables (declared_of first) (declared_in body) env before in
        let first_none : NoneFails a = followed_none_left a (where_going a.normal loop_from) all in
        let first_apart : AreApart scope (declared_of first) = apart_left scope (declared_of first) (declared_in body) apart in
        let scopes : EndsScoped f.variables (λ k. declares_at_top k first) env a = statements_scoped f.variables calls loops result (here scope l b) first i.0 env first_before in
        stays_step (Clean opening w.objects) w (λ w. in_block (looped s head.keyword first tested third body) frame w) (λ left e.
        let now : State = record w { left = left } in
        let ready : Stands scope opening settings (record frame { opened = [] }) now = stand_block p whole n depth number f there calls loops result lie scope opening settings frame now (stand_step p whole n depth number f there calls loops result lie scope opening settings frame w left e stands) in
        block_clean p opening (looped s head.keyword first tested third body) frame now stands.settled
        (stays_then (Next p whole n depth number f there calls loops result lie Inner scope opening ways a outer w.objects []) (LoopEnds opening w.objects) (execute_from s 0 first (record frame { opened = [] }) now) _
        (statements_next p whole n depth number f there calls loops result lie first scope l b i.0 env first_before first_none settings first_apart opening outer (record frame { opened = [] }) now ready d
        (first_clean env first_before first_none settings (nothing_left (flaws_in_statements m first settings env) _ flaws) first_apart opening outer (record frame { opened = [] }) now ready d)) (λ g u h.
        after_first a ways outer opening w.objects u
        (λ last d stands opens. reached_clean env before a.normal scopes.normal (followed_none_right a (where_going a.normal loop_from) all) ways.normal (nothing_right (flaws_in_statements m first settings env) _ flaws) outer opening w.objects last u d stands h.moved.clean opens)
        g.flow g.frame (record { kinds = h.ready.kinds; sound = h.ready.sound }) h.moved.clean (record { each = h.moved.opens.each }) (goes_as p whole n depth number f there calls loops result lie Inner scope opening ways a outer w.objects [] g u h))))
