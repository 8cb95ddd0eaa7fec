-- Loops, where it is known that their parts are clean.
use Rattle.std.proofs.Common.{◌≡◌, ℕ, Bool, true, false, List, [], refl, Option, Some, None, slice_get}
use Rattle.p10_core.specs.Typed.{PlainValue, PlainStatement, PlainStatements, PlainFunction, PlainProgram}
use Rattle.p10_core.specs.WholePrograms.{Region, around, is_expression, AllOf, declared_in, declared_of, IsMaybeTest, IsWholeStatement, AreWholeStatements, IsWholeProgram}
use Rattle.p10_cert.specs.Claims.{Value, Loop, Claims}
use Rattle.p10_meaning.specs.Objects.{Object}
use Rattle.p10_meaning.specs.States.{State}
use Rattle.p10_meaning.specs.Values.{Setting, Held, evaluate}
use Rattle.p10_meaning.specs.Statements.{Frame, Flow, normal, broken, continued, returned, Done, test, before_third, execute, execute_from, round}
use Rattle.p10_meaning.specs.Calling.{Depth, setting_of, call_at}
use Rattle.p10_meaning.specs.Sound.{region_at}
use Rattle.p10_meaning.proofs.SoundStatements.{scope_after, scope_after_all}
use Rattle.p10_sums.specs.Keeping.{OnBack}
use Rattle.p10_absx.specs.Environments.{Environment}
use Rattle.p10_absx.specs.Describing.{Describes, MaybeDescribes}
use Rattle.p10_pass.specs.Arguments.{where_reached}
use Rattle.p10_pass.specs.Passing.{Left, Manner, manner_in, where_going, tested_in, tested_reached, pass_statement, pass_statements}
use Rattle.p10_evaluation.specs.Claimed.{ResultsLie}
use Rattle.p10_evaluation.proofs.Hulls.{reached_left, reached_right}
use Rattle.p10_execution.specs.Scoping.{IsBefore}
use Rattle.p10_execution.specs.Standing.{StandsSoundly}
use Rattle.p10_execution.specs.Leaving.{NoneFails}
use Rattle.p10_execution.proofs.Expressions.{GoesOn, expressions_go}
use Rattle.p10_execution.proofs.ScopedEnds.{nothing, MaybeScoped, before_scoped, before_nothing}
use Rattle.p10_clean.specs.Settings.{Settings, ways_of, ways_of_all}
use Rattle.p10_clean.specs.Values.{flaws_in_maybe}
use Rattle.p10_clean.specs.Statements.{flaws_in_statement, flaws_in_statements, next_turn, next_settings}
use Rattle.p10_clean_soundness.specs.private.Stays.{Stays}
use Rattle.p10_clean_soundness.specs.private.Setting.{AreApart}
use Rattle.p10_clean_soundness.specs.private.Objects.{LeavesClean}
use Rattle.p10_clean_soundness.proofs.Apart.{apart_nothing, scope_grows, scope_grows_all}
use Rattle.p10_clean_soundness.proofs.Closing.{leaves_same, leaves_then, OpensNew}
use Rattle.p10_clean_soundness.proofs.Moving.{opens_then}
use Rattle.p10_clean_soundness.proofs.Reaching.{live_narrower, Stand, Next, GoesAs, goes_as, statement_next, statements_next, GoesClean, AllClean, ValuesClean, AfterValue, value_next}
use Rattle.p10_clean_soundness.proofs.SettingKeeping.{all_keep}
use Rattle.p10_clean_soundness.proofs.SettingUp.{set_left, set_right, less_scope}
use Rattle.p10_clean_soundness.proofs.Staying.{stays_step, stays_then, stays_weaker, stays_with}

module _ (p : PlainProgram) (whole : IsWholeProgram p) (n : ℕ) (depth : Depth) (number : ℕ) (f : PlainFunction) (there : slice_get p.functions number ≡ Some f)
    (calls : Option Claims) (loops : Option (List Loop)) (result : Option Value) (lie : ResultsLie p calls n (call_at n p depth)) (values : ValuesClean p whole n depth number f there calls loops result lie) where
  abbrev s : Setting
  s = setting_of p n (call_at n p) depth f

  abbrev m : Manner
  m = manner_in f calls loops result

  abbrev here : List ℕ → Bool → Bool → Region
  here scope l b = region_at p number f scope l b

  abbrev Stands : List ℕ → List ℕ → Settings → Frame → State → Type 0
  Stands scope opening settings frame w = Stand p whole n depth number f there calls loops result lie scope opening settings frame w

  abbrev Ready : Frame → State → Type 0
  Ready frame w = StandsSoundly p f.variables n frame w

  -- ## Tests

  -- after a test
  abbrev pub Tests : List ℕ → List Object → Bool → State → Type 0
  Tests opening before more u = LeavesClean p opening before u

  pub test_clean : (scope : List ℕ) (tested : Option PlainValue) → IsMaybeTest (around (here scope false false)) tested → (env : Environment) (head : List Held) (frame : Frame) (w : State) (settings : Settings) (opening : List ℕ) → Stands scope opening settings frame w → Describes f.variables env head frame.held →
      (tested_in m tested env).names ≡ [] → flaws_in_maybe m settings tested env ≡ [] → Stays (Tests opening w.objects) (test s tested frame w)
  test_clean scope None i env head frame w settings opening stands d none flaws = stays_step (Tests opening w.objects) w _ (λ left e. leaves_same p opening (record w { left = left }) stands.settled)
  test_clean scope (Some v) i env head frame w settings opening stands d none flaws =
      stays_then (AfterValue p whole n depth number f there calls loops result lie scope opening settings env head v frame w.objects) (Tests opening w.objects) (evaluate s frame.held v w) _
      (value_next p whole n depth number f there calls loops result lie values scope v i.whole i.scalar env head frame w settings opening stands d none flaws) (λ x u h. h.clean)

  pub test_where : (scope : List ℕ) (tested : Option PlainValue) → IsMaybeTest (around (here scope false false)) tested → (o : Option Environment) (head : List Held) (frame : Frame) (w : State) (settings : Settings) (opening : List ℕ) → Stands scope opening settings frame w → MaybeDescribes f.variables o head frame.held →
      (tested_reached m tested o).names ≡ [] → where_reached o (λ env. flaws_in_maybe m settings tested env) ≡ [] → Stays (Tests opening w.objects) (test s tested frame w)
  test_where scope tested i None head frame w settings opening stands d none flaws = absurd d
  test_where scope tested i (Some env) head frame w settings opening stands d none flaws = test_clean scope tested i env head frame w settings opening stands d none flaws

  -- ## Rounds

  module _ (inner : List ℕ) (l b : Bool) (tested : Option PlainValue) (third : PlainStatements) (body : PlainStatement)
      (test_whole : IsMaybeTest (around (here inner false false)) tested) (third_whole : AreWholeStatements (here inner l b) third) (body_whole : IsWholeStatement (here inner true b) body)
      (expressions : AllOf is_expression third) (third_none : declared_of third ≡ []) (apart : AreApart inner (declared_in body))
      (body_clean : GoesClean p whole n depth number f there calls loops result lie inner body) (third_clean : AllClean p whole n depth number f there calls loops result lie inner third) (at_head : Environment) (before_head : IsBefore f.variables (declared_in body) at_head) (entry_set : Settings) (opening : List ℕ) where
    abbrev pub next_set : Settings
    next_set = next_settings (ways_of body entry_set)

    -- what a round leaves: on a way back, as much is set as at the entry
    abbrev pub RoundLeft : List Object → List ℕ → Done → State → Type 0
    RoundLeft before opened d u = LeavesClean p opening before u × OpensNew before opened d × OnBack d.flow (Stands inner opening next_set d.frame u)

    -- the third clause goes on with the next statement
    after_third : (before : List Object) (opened : List ℕ) (flow : Flow) (last : Frame) (u : State) → LeavesClean p opening before u → OpensNew before opened (record { flow = flow; frame = last }) → Stands inner opening next_set last u → (a : Left) (head : List Held) (e : Done) (t : State) →
        Next p whole n depth number f there calls loops result lie (scope_after_all third inner) inner opening (ways_of_all third next_set) a head u.objects last.opened e t → e.flow ≡ normal → RoundLeft before opened e t
    after_third before opened flow last u h k stands a head e t j q = (
      leaves_then p opening before u t h j.moved.clean,
      opens_then before u.objects opened (record { flow = flow; frame = last }) e h.survive k j.moved.opens,
      back e.flow e.frame q (goes_as p whole n depth number f there calls loops result lie (scope_after_all third inner) inner opening (ways_of_all third next_set) a head u.objects last.opened e t j),
    )
      where
        back : (flow : Flow) (frame : Frame) → flow ≡ normal → GoesAs p whole n depth number f there calls loops result lie (scope_after_all third inner) inner opening (ways_of_all third next_set) a head flow frame t → OnBack flow (Stands inner opening next_set frame t)
        back normal frame q g = record {
          soundly = g.0.soundly;
          set_up = all_keep f.variables inner frame.held third next_set (apart_nothing inner (declared_of third) third_none) (less_scope f.variables inner (scope_after_all third inner) (ways_of_all third next_set).normal frame.held (scope_grows_all third inner) g.0.set_up);
          live = live_narrower opening inner (scope_after_all third inner) frame.held t.objects (scope_grows_all third inner) g.0.live;
          settled = g.0.settled;
        }
        back broken frame q g = absurd cc
        back continued frame q g = absurd cc
        back (returned x) frame q g = absurd cc

    third_where : (o : Option Environment) → MaybeScoped f.variables nothing at_head o → NoneFails (where_going o (λ env. pass_statements m third env)) → where_reached o (λ env. flaws_in_statements m third next_set env) ≡ [] → (before : List Object) (opened : List ℕ) (flow : Flow) (head : List Held) (frame : Frame) (w : State) →
        LeavesClean p opening before w → OpensNew before opened (record { flow = flow; frame = frame }) → Stands inner opening next_set frame w → MaybeDescribes f.variables o head frame.held → Stays (RoundLeft before opened) (execute_from s 0 third frame w)
    third_where None scoped none flaws before opened flow head frame w h k stands d = absurd d
    third_where (Some e) scoped none flaws before opened flow head frame w h k stands d =
        let fresh : IsBefore f.variables (declared_of third) e = before_nothing f.variables (declared_of third) e third_none scoped.knows in
        let apart_third : AreApart inner (declared_of third) = apart_nothing inner (declared_of third) third_none in
        let Nexts : Done → State → Type 0 = Next p whole n depth number f there calls loops result lie (scope_after_all third inner) inner opening (ways_of_all third next_set) (pass_statements m third e) head w.objects frame.opened in
        stays_weaker (λ d u. Nexts d u × GoesOn d u) (RoundLeft before opened) (execute_from s 0 third frame w)
        (stays_with Nexts GoesOn (execute_from s 0 third frame w)
        (statements_next p whole n depth number f there calls loops result lie third inner l b third_whole e fresh none next_set apart_third opening head frame w stands d (third_clean e fresh none next_set flaws apart_third opening head frame w stands d))
        (expressions_go s third expressions frame w))
        (λ g u j. after_third before opened flow frame w h k stands (pass_statements m third e) head g u j.0 j.1)

    -- where the body goes on
    abbrev on_of : Option Environment → Option Environment
    on_of o = next_turn (where_going o (λ env. pass_statement m body env))

    -- after the body, by how execution goes on
    after_body : (a : Left) → ((before : List Object) (opened : List ℕ) (flow : Flow) (head : List Held) (frame : Frame) (w : State) → LeavesClean p opening before w → OpensNew before opened (record { flow = flow; frame = frame }) → Stands inner opening next_set frame w → MaybeDescribes f.variables (next_turn a) head frame.held →
        Stays (RoundLeft before opened) (execute_from s 0 third frame w)) → (before : List Object) (opened : List ℕ) (head : List Held) (flow : Flow) (frame : Frame) (u : State) → LeavesClean p opening before u → OpensNew before opened (record { flow = flow; frame = frame }) →
        GoesAs p whole n depth number f there calls loops result lie (scope_after body inner) inner opening (ways_of body entry_set) a head flow frame u → Stays (RoundLeft before opened) (before_third flow frame u (λ frame w. execute_from s 0 third frame w))
    after_body a rest before opened head normal frame u h k g = rest before opened normal head frame u h k
        (record {
          soundly = g.0.soundly;
          set_up = set_left f.variables inner (ways_of body entry_set).normal (ways_of body entry_set).continues frame.held (less_scope f.variables inner (scope_after body inner) (ways_of body entry_set).normal frame.held (scope_grows body inner) g.0.set_up);
          live = live_narrower opening inner (scope_after body inner) frame.held u.objects (scope_grows body inner) g.0.live;
          settled = g.0.settled;
        }) (reached_left f.variables a.normal a.continues head frame.held g.1)
    after_body a rest before opened head continued frame u h k g = rest before opened continued head frame u h k
        (record { soundly = g.0.soundly; set_up = set_right f.variables inner (ways_of body entry_set).normal (ways_of body entry_set).continues frame.held g.0.set_up; live = g.0.live; settled = g.0.settled }) (reached_right f.variables a.normal a.continues head frame.held g.1)
    after_body a rest before opened head broken frame u h k g = (h, k, tt)
    after_body a rest before opened head (returned x) frame u h k g = (h, k, tt)

    pub round_clean : (o : Option Environment) → MaybeScoped f.variables nothing at_head o → MaybeScoped f.variables nothing at_head (on_of o) → NoneFails (where_going o (λ env. pass_statement m body env)) → NoneFails (where_going (on_of o) (λ env. pass_statements m third env)) →
        where_reached o (λ env. flaws_in_statement m body entry_set env) ≡ [] → where_reached (on_of o) (λ env. flaws_in_statements m third next_set env) ≡ [] → (head : List Held) (frame : Frame) (w : State) → Stands inner opening entry_set frame w → MaybeDescribes f.variables o head frame.held →
        Stays (RoundLeft w.objects frame.opened) (round s third body frame w)
    round_clean None scoped on_scope none none_third flaws flaws_third head frame w stands d = absurd d
    round_clean (Some e) scoped on_scope none none_third flaws flaws_third head frame w stands d =
        let a : Left = pass_statement m body e in
        let fresh : IsBefore f.variables (declared_in body) e = before_scoped f.variables nothing (declared_in body) at_head e before_head scoped (λ k q. refl) in
        let Nexts : Done → State → Type 0 = Next p whole n depth number f there calls loops result lie (scope_after body inner) inner opening (ways_of body entry_set) a head w.objects frame.opened in
        stays_then Nexts (RoundLeft w.objects frame.opened) (execute s body frame w) _
        (statement_next p whole n depth number f there calls loops result lie body inner true b body_whole e fresh none entry_set apart opening head frame w stands d (body_clean e fresh none entry_set flaws apart opening head frame w stands d)) (λ g u j.
        after_body a (λ before opened flow head frame w h k stands d. third_where (next_turn a) on_scope none_third flaws_third before opened flow head frame w h k stands d) w.objects frame.opened head g.flow g.frame u j.moved.clean (record { each = j.moved.opens.each })
        (goes_as p whole n depth number f there calls loops result lie (scope_after body inner) inner opening (ways_of body entry_set) a head w.objects frame.opened g u j))
