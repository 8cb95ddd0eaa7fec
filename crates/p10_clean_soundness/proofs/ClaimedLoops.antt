-- Loops under a claim, where it is known that their parts are clean.
use Rattle.std.proofs.Common.{◌≡◌, ℕ, Bool, true, false, List, [], refl, ap, sym, subst, Option, Some, None, slice_get}
use Rattle.std.specs.Prelude.{is_some}
use Rattle.p10_base.specs.declared.at.At.{At}
use Rattle.p10_core.specs.declared.statements.LoopHead.{LoopHead}
use Rattle.p10_core.specs.declared.statements.LoopKeyword.{LoopKeyword}
use Rattle.p10_core.specs.declared.statements.LoopKeyword.TheVariants.{While, Do}
use Rattle.p10_core.specs.Typed.{PlainValue, PlainStatement, statement, loop, PlainStatements, no_statements, PlainFunction, PlainProgram}
use Rattle.p10_core.specs.WholePrograms.{Region, around, is_expression, AllOf, declared_in, declared_of, IsMaybeTest, IsWholeStatement, AreWholeStatements, IsWholeProgram}
use Rattle.p10_cert.specs.Claims.{Value, Loop, Claims}
use Rattle.p10_meaning.specs.Objects.{Object}
use Rattle.p10_meaning.specs.States.{State}
use Rattle.p10_meaning.specs.Values.{Setting, Held}
use Rattle.p10_meaning.specs.Statements.{Frame, Flow, normal, broken, continued, returned, Done, goes, test, loop_by, execute, execute_from, round}
use Rattle.p10_meaning.specs.Calling.{Depth, setting_of, call_at}
use Rattle.p10_meaning.specs.Sound.{region_at}
use Rattle.p10_meaning.proofs.SoundStatements.{scope_after_all}
use Rattle.p10_sums.specs.Keeping.{HoldsOf, OnBack}
use Rattle.p10_absx.specs.Environments.{Environment, known}
use Rattle.p10_absx.specs.Describing.{Describes}
use Rattle.p10_pass.specs.Arguments.{where_reached}
use Rattle.p10_pass.specs.Claiming.{head_of}
use Rattle.p10_pass.specs.Scopes.{form_assigns}
use Rattle.p10_pass.specs.Passing.{Left as PassLeft, Manner, manner_in, where_going, Tested, tested_in, Round, round_of, pass_statement, pass_statements}
use Rattle.p10_evaluation.specs.Claimed.{ResultsLie}
use Rattle.p10_execution.specs.Scoping.{KnowsNumbers, IsBefore}
use Rattle.p10_execution.specs.Standing.{StandsSoundly}
use Rattle.p10_execution.specs.Leaving.{NoneFails}
use Rattle.p10_execution.proofs.Composing.{after_all_here}
use Rattle.p10_execution.proofs.Ends.{nothing_left, nothing_right}
use Rattle.p10_execution.proofs.Leaving.{statement_goes, statements_go}
use Rattle.p10_execution.proofs.Looping.{Went, RoundAs, Kept, on_scoped, way, TurnHolds, Inside, AtHead, Entered, Out, w_body, w_third, w_none_body, w_none_third, while_tests, while_round, while_back, d_body, d_test, d_none_body, OnWay, do_test, do_back, do_round}
use Rattle.p10_execution.proofs.LoopStatements.{round_keeps}
use Rattle.p10_execution.proofs.PassedScopes.{RoundScoped}
use Rattle.p10_execution.proofs.ScopedEnds.{third_expressions, third_declares, before_same, changed_scope}
use Rattle.p10_execution.proofs.Turning.{ended, Rounded, Decided, Begins}
use Rattle.p10_execution.proofs.Unchanged.{Stays as StaysSame}
use Rattle.p10_clean.specs.Settings.{Settings, ways_of}
use Rattle.p10_clean.specs.Values.{flaws_in_maybe}
use Rattle.p10_clean.specs.Statements.{flaws_in_statement, flaws_in_statements, next_turn, next_settings}
use Rattle.p10_clean_soundness.specs.private.Stays.{Stays}
use Rattle.p10_clean_soundness.specs.private.Setting.{AreApart}
use Rattle.p10_clean_soundness.specs.private.Objects.{LeavesClean}
use Rattle.p10_clean_soundness.proofs.Closing.{leaves_then, OpensNew, IsSound}
use Rattle.p10_clean_soundness.proofs.LoopTurns.{loop_stays}
use Rattle.p10_clean_soundness.proofs.Moving.{opens_then}
use Rattle.p10_clean_soundness.proofs.Reaching.{Stand, GoesClean, AllClean, stand_after, ValuesClean}
use Rattle.p10_clean_soundness.proofs.Rounds.{Tests, test_clean, test_where, RoundLeft, round_clean}
use Rattle.p10_clean_soundness.proofs.SettingKeeping.{next_keeps}
use Rattle.p10_clean_soundness.proofs.Staying.{stays_weaker, stays_with}

module _ (p : PlainProgram) (whole : IsWholeProgram p) (n : ℕ) (depth : Depth) (number : ℕ) (f : PlainFunction) (there : slice_get p.functions number ≡ Some f)
    (calls : Option Claims) (loops : Option (List Loop)) (result : Option Value) (lie : ResultsLie p calls n (call_at n p depth)) (values : ValuesClean p whole n depth number f there calls loops result lie) where
  abbrev s : Setting
  s = setting_of p n (call_at n p) depth f

  abbrev m : Manner
  m = manner_in f calls loops result

  abbrev here : List ℕ → Bool → Bool → Region
  here scope l b = region_at p number f scope l b

  abbrev Stands : List ℕ → List ℕ → Settings → Frame → State → Type 0
  Stands scope opening settings frame w = Stand p whole n depth number f there calls loops result lie scope opening settings frame w

  abbrev Ready : Frame → State → Type 0
  Ready frame w = StandsSoundly p f.variables n frame w

  module _ (scope : List ℕ) (l b : Bool) (at : At) (head : LoopHead) (first : PlainStatements) (tested : Option PlainValue) (third : PlainStatements) (body : PlainStatement) (i : IsWholeStatement (here scope l b) (statement at (loop head first tested third body)))
      (apart : AreApart (scope_after_all first scope) (declared_in body)) (body_clean : GoesClean p whole n depth number f there calls loops result lie (scope_after_all first scope) body) (third_clean : AllClean p whole n depth number f there calls loops result lie (scope_after_all first scope) third) where
    abbrev pub inner : List ℕ
    inner = scope_after_all first scope

    abbrev pub test_whole : IsMaybeTest (around (here inner false false)) tested
    test_whole = subst (λ r. IsMaybeTest (around r) tested) (after_all_here p whole n depth number f there calls loops result lie first scope l b) i.1

    abbrev pub third_whole : AreWholeStatements (here inner l b) third
    third_whole = subst (λ r. AreWholeStatements r third) (after_all_here p whole n depth number f there calls loops result lie first scope l b) i.2

    abbrev pub body_whole : IsWholeStatement (here inner true b) body
    body_whole = subst (λ (r : Region). IsWholeStatement (record r { in_loop = true }) body) (after_all_here p whole n depth number f there calls loops result lie first scope l b) i.3

    abbrev pub expressions : AllOf is_expression third
    expressions = third_expressions head.keyword first tested third i.4

    abbrev pub third_none : declared_of third ≡ []
    third_none = third_declares head.keyword first tested third i.4

    abbrev pub body_goes : (env : Environment) → IsBefore f.variables (declared_in body) env → NoneFails (pass_statement m body env) → (head : List Held) (frame : Frame) (w : State) → Ready frame w → Describes f.variables env head frame.held → HoldsOf (Went p whole n depth number f there calls loops result lie (pass_statement m body env) head) (execute s body frame w)
    body_goes env before none head frame w r d = statement_goes p whole n depth number f there calls loops result lie body inner true b body_whole env before none head frame w r d

    abbrev pub third_goes : (env : Environment) → IsBefore f.variables (declared_of third) env → NoneFails (pass_statements m third env) → (head : List Held) (frame : Frame) (w : State) → Ready frame w → Describes f.variables env head frame.held → HoldsOf (Went p whole n depth number f there calls loops result lie (pass_statements m third env) head) (execute_from s 0 third frame w)
    third_goes env before none head frame w r d = statements_go p whole n depth number f there calls loops result lie third inner l b third_whole env before none head frame w r d

    module _ (claim : Loop) (entry : Environment) (before : IsBefore f.variables (declared_in body) entry) (outer : List Held) (frame0 : Frame) (described : Describes f.variables entry outer frame0.held) (entry_set : Settings) (opening : List ℕ) (start : List Object) where
      abbrev pub at_head : Environment
      at_head = head_of claim f.variables entry

      abbrev before_head : IsBefore f.variables (declared_in body) at_head
      before_head = before_same f.variables (declared_in body) entry at_head before (changed_scope f.variables _ entry)

      abbrev pub stays : ℕ → Type 0
      stays k = (is_some (known entry k) ≡ true) × (form_assigns k (loop head first tested third body) ≡ false)

      abbrev pub kept_by : (k : ℕ) → stays k → (frame : Frame) (w : State) → HoldsOf (StaysSame k frame) (round s third body frame w)
      kept_by = round_keeps p whole n depth number f there calls loops result lie inner l b head first tested third body test_whole third_whole body_whole i.4 i.5 body_goes third_goes entry before

      abbrev pub TurnOf : LoopKeyword → Round
      TurnOf keyword = round_of m keyword tested (λ env. pass_statements m third env) (λ env. pass_statement m body env) at_head

      abbrev pub next_set : Settings
      next_set = next_settings (ways_of body entry_set)

      -- what holds of a state in the loop, beside what the pass says
      pub record Mine (settings : Settings) (frame : Frame) (w : State) : Type 0 where
        pub stands : Stands inner opening settings frame w
        pub clean : LeavesClean p opening start w
        pub opens : OpensNew start [] (ended frame)

      -- after the loop
      abbrev pub LoopLeft : Done → State → Type 0
      LoopLeft d u = IsSound p u × LeavesClean p opening start u × OpensNew start [] d

      sound_of : (frame : Frame) (u : State) → Ready frame u → IsSound p u
      sound_of frame u r = record { kinds = r.kinds; sound = r.sound }

      mine_after : (settings : Settings) (frame : Frame) (w u : State) → Mine settings frame w → Ready frame u → LeavesClean p opening w.objects u → Mine settings frame u
      mine_after settings frame w u h r k = record { stands = stand_after p whole n depth number f there calls loops result lie inner opening settings frame w u h.stands r k; clean = leaves_then p opening start w u h.clean k; opens = h.opens }

      -- as much is set at the head as where a turn goes on
      mine_head : (frame : Frame) (w : State) → Mine next_set frame w → Mine entry_set frame w
      mine_head frame w h = record { stands = record { soundly = h.stands.soundly; set_up = next_keeps f.variables inner frame.held body entry_set apart h.stands.set_up; live = h.stands.live; settled = h.stands.settled }; clean = h.clean; opens = h.opens }

      -- a round from where its body is entered
      abbrev Left : Frame → State → Done → State → Type 0
      Left frame w d u = RoundLeft p whole n depth number f there calls loops result lie values inner l b tested third body test_whole third_whole body_whole expressions third_none apart body_clean third_clean at_head before_head entry_set opening w.objects frame.opened d u

      -- the ends of a round
      round_ends : (Tested : Frame → State → Type 0) (frame : Frame) (w : State) → Mine entry_set frame w → (flow : Flow) (last : Frame) (u : State) → LeavesClean p opening w.objects u → OpensNew w.objects frame.opened (record { flow = flow; frame = last }) → OnBack flow (Stands inner opening next_set last u) → Ready last u →
          (OnBack flow (Mine next_set last u → Tested last u)) → Rounded Tested LoopLeft flow last u
      round_ends Tested frame w h normal last u k j back r go = go (record { stands = back; clean = leaves_then p opening start w u h.clean k; opens = opens_then start w.objects [] (ended frame) (record { flow = normal; frame = last }) h.clean.survive h.opens j })
      round_ends Tested frame w h continued last u k j back r go = go (record { stands = back; clean = leaves_then p opening start w u h.clean k; opens = record { each = (opens_then start w.objects [] (ended frame) (record { flow = continued; frame = last }) h.clean.survive h.opens j).each } })
      round_ends Tested frame w h broken last u k j back r go = (sound_of last u r, leaves_then p opening start w u h.clean k, record { each = (opens_then start w.objects [] (ended frame) (record { flow = broken; frame = last }) h.clean.survive h.opens j).each })
      round_ends Tested frame w h (returned x) last u k j back r go = (sound_of last u r, leaves_then p opening start w u h.clean k, opens_then start w.objects [] (ended frame) (record { flow = returned x; frame = last }) h.clean.survive h.opens j)

      -- ## `while` and `for`

      abbrev pub AtLoop : Frame → State → Type 0
      AtLoop frame w = AtHead p whole n depth number f there calls loops result lie inner l b tested third body test_whole expressions third_none body_goes third_goes claim entry before frame0.held stays kept_by frame w × Mine entry_set frame w

      abbrev pub InLoop : LoopKeyword → Frame → State → Type 0
      InLoop keyword frame w = Entered p whole n depth number f there calls loops result lie inner l b tested third body test_whole expressions third_none body_goes third_goes claim entry before frame0.held stays kept_by (TurnOf keyword) frame w × Mine entry_set frame w

      abbrev pub Holds : LoopKeyword → Type 0
      Holds keyword = TurnHolds p whole n depth number f there calls loops result lie inner l b tested third body test_whole expressions third_none body_goes third_goes claim entry before frame0.held stays kept_by (TurnOf keyword)

      abbrev pub truth : Option Environment
      truth = (tested_in m tested at_head).truth

      abbrev pub body_left : PassLeft
      body_left = where_going truth (λ env. pass_statement m body env)

      module _ (scoped : RoundScoped f.variables calls loops result at_head (TurnOf While)) (holds : Holds While) (test_flaws : flaws_in_maybe m entry_set tested at_head ≡ [])
          (third_flaws : where_reached (next_turn body_left) (λ env. flaws_in_statements m third next_set env) ≡ []) (body_flaws : where_reached truth (λ env. flaws_in_statement m body entry_set env) ≡ []) where
        while_decides : (frame : Frame) (w : State) → AtLoop frame w → Stays (Decided (InLoop While) LoopLeft frame) (test s tested frame w)
        while_decides frame w h =
            stays_weaker (λ more u. Tests p whole n depth number f there calls loops result lie values opening w.objects more u × Decided (Entered p whole n depth number f there calls loops result lie inner l b tested third body test_whole expressions third_none body_goes third_goes claim entry before frame0.held stays kept_by (TurnOf While)) (Out p whole n depth number f there calls loops result lie inner l b tested third body test_whole expressions third_none body_goes third_goes claim entry before frame0.held stays kept_by (TurnOf While)) frame more u) (Decided (InLoop While) LoopLeft frame) (test s tested frame w)
            (stays_with (Tests p whole n depth number f there calls loops result lie values opening w.objects) (Decided (Entered p whole n depth number f there calls loops result lie inner l b tested third body test_whole expressions third_none body_goes third_goes claim entry before frame0.held stays kept_by (TurnOf While)) (Out p whole n depth number f there calls loops result lie inner l b tested third body test_whole expressions third_none body_goes third_goes claim entry before frame0.held stays kept_by (TurnOf While)) frame) (test s tested frame w)
            (test_clean p whole n depth number f there calls loops result lie values inner tested test_whole at_head frame.held frame w entry_set opening h.1.stands h.0.describes (nothing_left (tested_in m tested at_head).names _ holds.names) test_flaws)
            (while_tests p whole n depth number f there calls loops result lie inner l b tested third body test_whole expressions third_none body_goes third_goes claim entry before frame0.held stays kept_by scoped holds frame w h.0))
            (λ more u k. (
              (λ e. let entered : Entered p whole n depth number f there calls loops result lie inner l b tested third body test_whole expressions third_none body_goes third_goes claim entry before frame0.held stays kept_by (TurnOf While) frame u = k.1.0 e in (entered, mine_after entry_set frame w u h.1 entered.0.ready k.0)),
              (λ e. let out : Out p whole n depth number f there calls loops result lie inner l b tested third body test_whole expressions third_none body_goes third_goes claim entry before frame0.held stays kept_by (TurnOf While) (ended frame) u = k.1.1 e in (sound_of frame u out.ready, leaves_then p opening start w u h.1.clean k.0, h.1.opens)),
            ))

        while_as : (frame : Frame) (w : State) → Mine entry_set frame w → (flow : Flow) (last : Frame) (u : State) → LeavesClean p opening w.objects u → OpensNew w.objects frame.opened (record { flow = flow; frame = last }) → OnBack flow (Stands inner opening next_set last u) →
            RoundAs p whole n depth number f there calls loops result lie inner l b tested third body test_whole expressions third_none body_goes third_goes claim entry before frame0.held stays kept_by frame.held (w_body p whole n depth number f there calls loops result lie inner l b tested third body test_whole expressions third_none body_goes third_goes claim entry before frame0.held stays kept_by scoped holds) (w_third p whole n depth number f there calls loops result lie inner l b tested third body test_whole expressions third_none body_goes third_goes claim entry before frame0.held stays kept_by scoped holds).normal flow last u → Kept p whole n depth number f there calls loops result lie inner l b tested third body test_whole expressions third_none body_goes third_goes claim entry before frame0.held stays kept_by last → Rounded AtLoop LoopLeft flow last u
        while_as frame w h normal last u k j back a kept = round_ends AtLoop frame w h normal last u k j back a.ready (λ mine. (while_back p whole n depth number f there calls loops result lie inner l b tested third body test_whole expressions third_none body_goes third_goes claim entry before frame0.held stays kept_by scoped holds frame.held last u (a, kept), mine_head last u mine))
        while_as frame w h continued last u k j back a kept = round_ends AtLoop frame w h continued last u k j back a.ready (λ mine. (while_back p whole n depth number f there calls loops result lie inner l b tested third body test_whole expressions third_none body_goes third_goes claim entry before frame0.held stays kept_by scoped holds frame.held last u (a, kept), mine_head last u mine))
        while_as frame w h broken last u k j back a kept = round_ends AtLoop frame w h broken last u k j back a.ready tt
        while_as frame w h (returned x) last u k j back a kept = round_ends AtLoop frame w h (returned x) last u k j back a.ready tt

        while_rounds : (frame : Frame) (w : State) → InLoop While frame w → Stays (λ (d : Done) u. Rounded AtLoop LoopLeft d.flow d.frame u) (round s third body frame w)
        while_rounds frame w h =
            let As : Done → State → Type 0 = λ d u. RoundAs p whole n depth number f there calls loops result lie inner l b tested third body test_whole expressions third_none body_goes third_goes claim entry before frame0.held stays kept_by frame.held (w_body p whole n depth number f there calls loops result lie inner l b tested third body test_whole expressions third_none body_goes third_goes claim entry before frame0.held stays kept_by scoped holds) (w_third p whole n depth number f there calls loops result lie inner l b tested third body test_whole expressions third_none body_goes third_goes claim entry before frame0.held stays kept_by scoped holds).normal d.flow d.frame u × Kept p whole n depth number f there calls loops result lie inner l b tested third body test_whole expressions third_none body_goes third_goes claim entry before frame0.held stays kept_by d.frame in
            stays_weaker (λ d u. Left frame w d u × As d u) (λ (d : Done) u. Rounded AtLoop LoopLeft d.flow d.frame u) (round s third body frame w)
            (stays_with (Left frame w) As (round s third body frame w)
            (round_clean p whole n depth number f there calls loops result lie values inner l b tested third body test_whole third_whole body_whole expressions third_none apart body_clean third_clean at_head before_head entry_set opening truth scoped.enters (on_scoped p whole n depth number f there calls loops result lie inner l b tested third body test_whole expressions third_none body_goes third_goes claim entry before frame0.held stays kept_by (TurnOf While).body scoped.body) (w_none_body p whole n depth number f there calls loops result lie inner l b tested third body test_whole expressions third_none body_goes third_goes claim entry before frame0.held stays kept_by scoped holds) (w_none_third p whole n depth number f there calls loops result lie inner l b tested third body test_whole expressions third_none body_goes third_goes claim entry before frame0.held stays kept_by scoped holds) body_flaws third_flaws frame.held frame w h.1.stands h.0.0.describes)
            (while_round p whole n depth number f there calls loops result lie inner l b tested third body test_whole expressions third_none body_goes third_goes claim entry before frame0.held stays kept_by scoped holds frame w h.0))
            (λ d u k. while_as frame w h.1 d.flow d.frame u k.0.0 (record { each = k.0.1.each }) k.0.2 k.1.0 k.1.1)

        pub while_clean : (keyword : LoopKeyword) → ((frame : Frame) (w : State) → AtLoop frame w → Begins keyword AtLoop (InLoop While) frame w) → (j : ℕ) (frame : Frame) (w : State) → AtLoop frame w → Stays LoopLeft (loop_by keyword j (λ frame w. test s tested frame w) (round s third body) frame w)
        while_clean keyword begins j frame w h = loop_stays AtLoop (InLoop While) LoopLeft (λ frame w. test s tested frame w) (round s third body) while_decides while_rounds keyword j frame w (begins frame w h)

      -- ## `do`

      module _ (third_is : (frame : Frame) (w : State) → execute_from s 0 third frame w ≡ goes frame w) (empty : third ≡ no_statements) (knows : KnowsNumbers f.variables at_head) (scoped : RoundScoped f.variables calls loops result at_head (TurnOf Do)) (holds : Holds Do)
          (test_flaws : where_reached (next_turn (pass_statement m body at_head)) (λ env. flaws_in_maybe m next_set tested env) ≡ []) (body_flaws : flaws_in_statement m body entry_set at_head ≡ []) where
        abbrev OnTheWay : Frame → State → Type 0
        OnTheWay frame w = OnWay p whole n depth number f there calls loops result lie inner l b tested third body test_whole expressions third_none body_goes third_goes claim entry before frame0.held stays kept_by third_is knows scoped holds frame w × Mine next_set frame w

        do_decides : (frame : Frame) (w : State) → OnTheWay frame w → Stays (Decided (InLoop Do) LoopLeft frame) (test s tested frame w)
        do_decides frame w h =
            let Knows : Bool → State → Type 0 = λ more u. (more ≡ true → Inside p whole n depth number f there calls loops result lie inner l b tested third body test_whole expressions third_none body_goes third_goes claim entry before frame0.held stays kept_by h.0.head (d_test p whole n depth number f there calls loops result lie inner l b tested third body test_whole expressions third_none body_goes third_goes claim entry before frame0.held stays kept_by third_is knows scoped holds).truth frame u) × (more ≡ false → Out p whole n depth number f there calls loops result lie inner l b tested third body test_whole expressions third_none body_goes third_goes claim entry before frame0.held stays kept_by (TurnOf Do) (ended frame) u) in
            stays_weaker (λ more u. Tests p whole n depth number f there calls loops result lie values opening w.objects more u × Knows more u) (Decided (InLoop Do) LoopLeft frame) (test s tested frame w)
            (stays_with (Tests p whole n depth number f there calls loops result lie values opening w.objects) Knows (test s tested frame w)
            (test_where p whole n depth number f there calls loops result lie values inner tested test_whole (next_turn (pass_statement m body at_head)) h.0.head frame w next_set opening h.1.stands h.0.inside.0.describes (nothing_right (pass_statement m body at_head).arguments _ holds.names) test_flaws)
            (do_test p whole n depth number f there calls loops result lie inner l b tested third body test_whole expressions third_none body_goes third_goes claim entry before frame0.held stays kept_by third_is knows scoped holds h.0.head frame w h.0.inside))
            (λ more u k. (
              (λ e.
                  let at_it : AtHead p whole n depth number f there calls loops result lie inner l b tested third body test_whole expressions third_none body_goes third_goes claim entry before frame0.held stays kept_by frame u = do_back p whole n depth number f there calls loops result lie inner l b tested third body test_whole expressions third_none body_goes third_goes claim entry before frame0.held stays kept_by third_is knows scoped holds h.0.head frame u (k.1.0 e) in
                  ((record { ready = at_it.ready; describes = at_it.describes }, at_it.kept), mine_head frame u (mine_after next_set frame w u h.1 at_it.ready k.0))),
              (λ e. let out : Out p whole n depth number f there calls loops result lie inner l b tested third body test_whole expressions third_none body_goes third_goes claim entry before frame0.held stays kept_by (TurnOf Do) (ended frame) u = k.1.1 e in (sound_of frame u out.ready, leaves_then p opening start w u h.1.clean k.0, h.1.opens)),
            ))

        do_as : (frame : Frame) (w : State) → Mine entry_set frame w → (flow : Flow) (last : Frame) (u : State) → LeavesClean p opening w.objects u → OpensNew w.objects frame.opened (record { flow = flow; frame = last }) → OnBack flow (Stands inner opening next_set last u) →
            RoundAs p whole n depth number f there calls loops result lie inner l b tested third body test_whole expressions third_none body_goes third_goes claim entry before frame0.held stays kept_by frame.held (d_body p whole n depth number f there calls loops result lie inner l b tested third body test_whole expressions third_none body_goes third_goes claim entry before frame0.held stays kept_by third_is knows scoped holds) (way p whole n depth number f there calls loops result lie inner l b tested third body test_whole expressions third_none body_goes third_goes claim entry before frame0.held stays kept_by) flow last u → Kept p whole n depth number f there calls loops result lie inner l b tested third body test_whole expressions third_none body_goes third_goes claim entry before frame0.held stays kept_by last → Rounded OnTheWay LoopLeft flow last u
        do_as frame w h normal last u k j back a kept = round_ends OnTheWay frame w h normal last u k j back a.ready (λ mine. (record { head = frame.held; inside = (a, kept) }, mine))
        do_as frame w h continued last u k j back a kept = round_ends OnTheWay frame w h continued last u k j back a.ready (λ mine. (record { head = frame.held; inside = (a, kept) }, mine))
        do_as frame w h broken last u k j back a kept = round_ends OnTheWay frame w h broken last u k j back a.ready tt
        do_as frame w h (returned x) last u k j back a kept = round_ends OnTheWay frame w h (returned x) last u k j back a.ready tt

        nothing_flaws : (o : Option Environment) → where_reached o (λ env. flaws_in_statements m third next_set env) ≡ []
        nothing_flaws None = refl
        nothing_flaws (Some e) = ap (λ xs. flaws_in_statements m xs next_set e) empty

        nothing_fails : (o : Option Environment) → NoneFails (where_going o (λ env. pass_statements m third env))
        nothing_fails None = record { arguments = refl; results = refl; entries = refl; backs = refl }
        nothing_fails (Some e) = subst (λ xs. NoneFails (pass_statements m xs e)) (sym empty) (record { arguments = refl; results = refl; entries = refl; backs = refl })

        do_rounds : (frame : Frame) (w : State) → InLoop Do frame w → Stays (λ (d : Done) u. Rounded OnTheWay LoopLeft d.flow d.frame u) (round s third body frame w)
        do_rounds frame w h =
            let As : Done → State → Type 0 = λ d u. RoundAs p whole n depth number f there calls loops result lie inner l b tested third body test_whole expressions third_none body_goes third_goes claim entry before frame0.held stays kept_by frame.held (d_body p whole n depth number f there calls loops result lie inner l b tested third body test_whole expressions third_none body_goes third_goes claim entry before frame0.held stays kept_by third_is knows scoped holds) (way p whole n depth number f there calls loops result lie inner l b tested third body test_whole expressions third_none body_goes third_goes claim entry before frame0.held stays kept_by) d.flow d.frame u × Kept p whole n depth number f there calls loops result lie inner l b tested third body test_whole expressions third_none body_goes third_goes claim entry before frame0.held stays kept_by d.frame in
            stays_weaker (λ d u. Left frame w d u × As d u) (λ (d : Done) u. Rounded OnTheWay LoopLeft d.flow d.frame u) (round s third body frame w)
            (stays_with (Left frame w) As (round s third body frame w)
            (round_clean p whole n depth number f there calls loops result lie values inner l b tested third body test_whole third_whole body_whole expressions third_none apart body_clean third_clean at_head before_head entry_set opening (Some at_head) scoped.enters (on_scoped p whole n depth number f there calls loops result lie inner l b tested third body test_whole expressions third_none body_goes third_goes claim entry before frame0.held stays kept_by (TurnOf Do).body scoped.body) (d_none_body p whole n depth number f there calls loops result lie inner l b tested third body test_whole expressions third_none body_goes third_goes claim entry before frame0.held stays kept_by third_is knows scoped holds) (nothing_fails (next_turn (pass_statement m body at_head))) body_flaws (nothing_flaws (next_turn (pass_statement m body at_head)))
            frame.held frame w h.1.stands h.0.0.describes)
            (do_round p whole n depth number f there calls loops result lie inner l b tested third body test_whole expressions third_none body_goes third_goes claim entry before frame0.held stays kept_by third_is knows scoped holds frame w h.0))
            (λ d u k. do_as frame w h.1 d.flow d.frame u k.0.0 (record { each = k.0.1.each }) k.0.2 k.1.0 k.1.1)

        pub do_clean : (j : ℕ) (frame : Frame) (w : State) → AtLoop frame w → Stays LoopLeft (loop_by Do j (λ frame w. test s tested frame w) (round s third body) frame w)
        do_clean j frame w h = loop_stays OnTheWay (InLoop Do) LoopLeft (λ frame w. test s tested frame w) (round s third body) do_decides do_rounds Do j frame w ((record { ready = h.0.ready; describes = h.0.describes }, h.0.kept), h.1)
