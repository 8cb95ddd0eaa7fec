-- Branches and statements in order, where it is known that their parts are clean.
use Rattle.std.proofs.Common.{◌≡◌, ℕ, zero, Bool, true, false, List, [], ◌++◌, refl, subst, Option, Some, None, slice_get}
use Rattle.p10_base.specs.declared.span.Span.{Span}
use Rattle.p10_base.specs.declared.at.At.{At}
use Rattle.p10_core.specs.Typed.{PlainValue, PlainStatement, statement, if_then, if_else, PlainStatements, no_statements, more_statements, PlainFunction, PlainProgram}
use Rattle.p10_core.specs.WholePrograms.{Region, is_among, around, IsTest, declared_in, declared_of, IsWholeStatement, IsWholeProgram}
use Rattle.p10_cert.specs.Claims.{Value, Loop, Claims}
use Rattle.p10_meaning.specs.declared.pointers.Scalar.{Scalar}
use Rattle.p10_meaning.specs.Objects.{Object}
use Rattle.p10_meaning.specs.States.{State, Progress}
use Rattle.p10_meaning.specs.Scalars.{is_true}
use Rattle.p10_meaning.specs.Values.{Setting, Held, evaluate}
use Rattle.p10_meaning.specs.Statements.{Frame, Flow, normal, broken, continued, returned, Done, goes, go_on, execute, execute_from}
use Rattle.p10_meaning.specs.Calling.{Depth, setting_of, call_at}
use Rattle.p10_meaning.specs.Sound.{region_at}
use Rattle.p10_meaning.proofs.SoundStatements.{scope_after, scope_after_all}
use Rattle.p10_absx.specs.Environments.{Environment}
use Rattle.p10_absx.specs.Assessing.{assess, known_where}
use Rattle.p10_absx.specs.Describing.{Describes, MaybeDescribes}
use Rattle.p10_pass.specs.Arguments.{failing_in, where_reached}
use Rattle.p10_pass.specs.Passing.{Left, Manner, manner_in, reached, where_going, followed, beside, pass_statement, pass_statements}
use Rattle.p10_evaluation.specs.Claimed.{ResultsLie}
use Rattle.p10_execution.specs.Scoping.{IsBefore}
use Rattle.p10_execution.specs.Leaving.{NoneFails}
use Rattle.p10_execution.proofs.AssessedScopes.{MaybeSame, assessed_scope}
use Rattle.p10_execution.proofs.Ends.{nothing_left, nothing_right, followed_none_left, followed_none_right, beside_none, calls_none, calls_rest}
use Rattle.p10_execution.proofs.PassedScopes.{statement_scoped}
use Rattle.p10_execution.proofs.ScopedEnds.{MaybeScoped, before_same, before_left, before_right, before_rest}
use Rattle.p10_execution.proofs.TopDeclarations.{declares_here}
use Rattle.p10_clean.specs.Settings.{Settings, Ways, ways_of}
use Rattle.p10_clean.specs.Values.{flaws_in_value}
use Rattle.p10_clean.specs.Statements.{flaws_in_statement, flaws_in_statements}
use Rattle.p10_clean_soundness.specs.private.Stays.{Stays}
use Rattle.p10_clean_soundness.specs.private.Setting.{AreApart}
use Rattle.p10_clean_soundness.specs.private.Objects.{AreLive, LeavesClean}
use Rattle.p10_clean_soundness.proofs.Apart.{apart_left, apart_right, apart_after, scope_grows}
use Rattle.p10_clean_soundness.proofs.Closing.{leaves_same, leaves_then, OpensNew}
use Rattle.p10_clean_soundness.proofs.Moving.{opens_then, NewLive}
use Rattle.p10_clean_soundness.proofs.Reaching.{scope_of, scope_narrower, live_narrower, Stand, Moved, Next, GoesAs, goes_as, GoesClean, AllClean, statement_next, stand_step, ValuesClean, AfterValue, value_next}
use Rattle.p10_clean_soundness.proofs.Staying.{stays_step, stays_then, stays_if, stays_weaker}

module _ (p : PlainProgram) (whole : IsWholeProgram p) (n : ℕ) (depth : Depth) (number : ℕ) (f : PlainFunction) (there : slice_get p.functions number ≡ Some f)
    (calls : Option Claims) (loops : Option (List Loop)) (result : Option Value) (lie : ResultsLie p calls n (call_at n p depth)) where
  abbrev s : Setting
  s = setting_of p n (call_at n p) depth f

  abbrev m : Manner
  m = manner_in f calls loops result

  abbrev here : List ℕ → Bool → Bool → Region
  here scope l b = region_at p number f scope l b

  abbrev Stands : List ℕ → List ℕ → Settings → Frame → State → Type 0
  Stands scope opening settings frame w = Stand p whole n depth number f there calls loops result lie scope opening settings frame w

  abbrev Goes : List ℕ → PlainStatement → Type 0
  Goes scope x = GoesClean p whole n depth number f there calls loops result lie scope x

  abbrev After : List ℕ → List ℕ → Settings → Environment → List Held → PlainValue → Frame → List Object → Scalar → State → Type 0
  After scope opening settings env head v frame before x u = AfterValue p whole n depth number f there calls loops result lie scope opening settings env head v frame before x u

  abbrev Clean : List ℕ → List Object → Done → State → Type 0
  Clean opening before d u = LeavesClean p opening before u

  -- ## Parts that are entered where states come

  pub known_as : (env : Environment) (head held : List Held) (v : PlainValue) (x : Scalar) (t : Bool) → is_true x ≡ t → MaybeDescribes f.variables (known_where (is_true x) env (assess calls v env)) head held → MaybeDescribes f.variables (known_where t env (assess calls v env)) head held
  known_as env head held v x t e d = subst (λ t. MaybeDescribes f.variables (known_where t env (assess calls v env)) head held) e d

  branch_before : (numbers : List ℕ) (env : Environment) → IsBefore f.variables numbers env → (o : Option Environment) → MaybeSame env o → (e : Environment) → o ≡ Some e → IsBefore f.variables numbers e
  branch_before numbers env before None same e q = absurd cc
  branch_before numbers env before (Some a) same e q = let is : a ≡ e = cc in subst (λ e. IsBefore f.variables numbers e) is (before_same f.variables numbers env a before same)

  -- after something else
  later_clean : (opening : List ℕ) (before : List Object) (u : State) (x : PlainStatement) (o : Progress Done) → LeavesClean p opening before u → Stays (λ d t. LeavesClean p opening u.objects t × NewLive x opening d.frame.held t.objects) o → Stays (Clean opening before) o
  later_clean opening before u x o h k = stays_weaker (λ d t. LeavesClean p opening u.objects t × NewLive x opening d.frame.held t.objects) (Clean opening before) o k (λ d t j. leaves_then p opening before u t h j.0)

  pub part_clean : (scope : List ℕ) (x : PlainStatement) → Goes scope x → (o : Option Environment) → ((e : Environment) → o ≡ Some e → IsBefore f.variables (declared_in x) e) → NoneFails (where_going o (λ env. pass_statement m x env)) → (settings : Settings) →
      where_reached o (λ env. flaws_in_statement m x settings env) ≡ [] → AreApart scope (declared_in x) → (opening : List ℕ) (head : List Held) (frame : Frame) (w : State) → Stands scope opening settings frame w → MaybeDescribes f.variables o head frame.held →
      Stays (λ d u. LeavesClean p opening w.objects u × NewLive x opening d.frame.held u.objects) (execute s x frame w)
  part_clean scope x cleanly None before none settings flaws apart opening head frame w stands d = absurd d
  part_clean scope x cleanly (Some e) before none settings flaws apart opening head frame w stands d = cleanly e (before e refl) none settings flaws apart opening head frame w stands d

  -- ## `if`

  module _ (values : ValuesClean p whole n depth number f there calls loops result lie) where
    pub if_then_clean : (scope : List ℕ) (at : At) (v : PlainValue) (x : PlainStatement) → IsTest (around (here scope false false)) v → Goes scope x → (env : Environment) → IsBefore f.variables (declared_in x) env → NoneFails (pass_statement m (statement at (if_then v x)) env) → (settings : Settings) →
        flaws_in_statement m (statement at (if_then v x)) settings env ≡ [] → AreApart scope (declared_in x) → (opening : List ℕ) (head : List Held) (frame : Frame) (w : State) → Stands scope opening settings frame w → Describes f.variables env head frame.held →
        Stays (Clean opening w.objects) (execute s (statement at (if_then v x)) frame w)
    if_then_clean scope at v x i cleanly env before none settings flaws apart opening head frame w stands d =
        let names : List Span = failing_in calls v env in
        let o : Option Environment = known_where true env (assess calls v env) in
        let a : Left = where_going o (λ env. pass_statement m x env) in
        let z : Left = reached (known_where false env (assess calls v env)) in
        stays_step (Clean opening w.objects) w _ (λ left e.
        stays_then (After scope opening settings env head v frame w.objects) (Clean opening w.objects) (evaluate s frame.held v (record w { left = left })) _
        (value_next p whole n depth number f there calls loops result lie values scope v i.whole i.scalar env head frame (record w { left = left }) settings opening (stand_step p whole n depth number f there calls loops result lie scope opening settings frame w left e stands) d (calls_none names (beside a z) none)
        (nothing_left (flaws_in_value m settings v env) (where_reached o (λ env. flaws_in_statement m x settings env)) flaws)) (λ y u h.
        stays_if (Clean opening w.objects) (is_true y) (execute s x frame u) (goes frame u)
        (λ q. later_clean opening w.objects u x (execute s x frame u) h.clean (part_clean scope x cleanly o (branch_before (declared_in x) env before o (assessed_scope calls true v env)) (followed_none_left a z (beside_none a z (calls_rest names (beside a z) none))) settings
        (nothing_right (flaws_in_value m settings v env) (where_reached o (λ env. flaws_in_statement m x settings env)) flaws) apart opening head frame u h.stands (known_as env head frame.held v y true q h.valued.found.known)))
        (λ q. h.clean)))

    pub if_else_clean : (scope : List ℕ) (at : At) (v : PlainValue) (x y : PlainStatement) → IsTest (around (here scope false false)) v → Goes scope x → Goes scope y → (env : Environment) → IsBefore f.variables (declared_in x ++ declared_in y) env → NoneFails (pass_statement m (statement at (if_else v x y)) env) → (settings : Settings) →
        flaws_in_statement m (statement at (if_else v x y)) settings env ≡ [] → AreApart scope (declared_in x ++ declared_in y) → (opening : List ℕ) (head : List Held) (frame : Frame) (w : State) → Stands scope opening settings frame w → Describes f.variables env head frame.held →
        Stays (Clean opening w.objects) (execute s (statement at (if_else v x y)) frame w)
    if_else_clean scope at v x y i cleanly otherwise env before none settings flaws apart opening head frame w stands d =
        let names : List Span = failing_in calls v env in
        let o : Option Environment = known_where true env (assess calls v env) in
        let t : Option Environment = known_where false env (assess calls v env) in
        let a : Left = where_going o (λ env. pass_statement m x env) in
        let z : Left = where_going t (λ env. pass_statement m y env) in
        let both : NoneFails (followed a z) = beside_none a z (calls_rest names (beside a z) none) in
        let rest : where_reached o (λ env. flaws_in_statement m x settings env) ++ where_reached t (λ env. flaws_in_statement m y settings env) ≡ [] = nothing_right (flaws_in_value m settings v env) _ flaws in
        stays_step (Clean opening w.objects) w _ (λ left e.
        stays_then (After scope opening settings env head v frame w.objects) (Clean opening w.objects) (evaluate s frame.held v (record w { left = left })) _
        (value_next p whole n depth number f there calls loops result lie values scope v i.whole i.scalar env head frame (record w { left = left }) settings opening (stand_step p whole n depth number f there calls loops result lie scope opening settings frame w left e stands) d (calls_none names (beside a z) none)
        (nothing_left (flaws_in_value m settings v env) _ flaws)) (λ k u h.
        stays_if (Clean opening w.objects) (is_true k) (execute s x frame u) (execute s y frame u)
        (λ q. later_clean opening w.objects u x (execute s x frame u) h.clean (part_clean scope x cleanly o (branch_before (declared_in x) env (before_left f.variables (declared_in x) (declared_in y) env before) o (assessed_scope calls true v env)) (followed_none_left a z both) settings
        (nothing_left _ _ rest) (apart_left scope (declared_in x) (declared_in y) apart) opening head frame u h.stands (known_as env head frame.held v k true q h.valued.found.known)))
        (λ q. later_clean opening w.objects u y (execute s y frame u) h.clean (part_clean scope y otherwise t (branch_before (declared_in y) env (before_right f.variables (declared_in x) (declared_in y) env before) t (assessed_scope calls false v env)) (followed_none_right a z both) settings
        (nothing_right _ _ rest) (apart_right scope (declared_in x) (declared_in y) apart) opening head frame u h.stands (known_as env head frame.held v k false q h.valued.found.known)))))

  -- ## Statements in order

  abbrev All : List ℕ → PlainStatements → Type 0
  All scope xs = AllClean p whole n depth number f there calls loops result lie scope xs

  abbrev Moves : List ℕ → List ℕ → List ℕ → List Object → List ℕ → Done → State → Type 0
  Moves after scope opening before opened d u = Moved p whole n depth number f there calls loops result lie after scope opening before opened d u

  abbrev Nexts : List ℕ → List ℕ → List ℕ → Ways → Left → List Held → List Object → List ℕ → Done → State → Type 0
  Nexts after scope opening ways a head before opened d u = Next p whole n depth number f there calls loops result lie after scope opening ways a head before opened d u

  pub none_clean : (scope opening : List ℕ) (settings : Settings) (frame : Frame) (w : State) → Stands scope opening settings frame w → Stays (Moves scope scope opening w.objects frame.opened) (execute_from s 0 no_statements frame w)
  none_clean scope opening settings frame w stands = record { clean = leaves_same p opening w stands.settled; opens = record { each = λ o x e a. a }; live = stands.live }

  -- what follows a statement, where states come
  rest_clean : (scope : List ℕ) (x : PlainStatement) (rest : PlainStatements) → All scope rest → (env : Environment) → IsBefore f.variables (declared_in x ++ declared_of rest) env → (o : Option Environment) → MaybeScoped f.variables (λ k. declares_here k x) env o → NoneFails (where_going o (λ env. pass_statements m rest env)) →
      (settings : Settings) → where_reached o (λ env. flaws_in_statements m rest settings env) ≡ [] → AreApart scope (declared_of rest) → (opening : List ℕ) (head : List Held) (frame : Frame) (w : State) → Stands scope opening settings frame w → MaybeDescribes f.variables o head frame.held →
      Stays (Moves (scope_after_all rest scope) scope opening w.objects frame.opened) (execute_from s 0 rest frame w)
  rest_clean scope x rest clean env before None scoped none settings flaws apart opening head frame w stands d = absurd d
  rest_clean scope x rest clean env before (Some e) scoped none settings flaws apart opening head frame w stands d = clean e (before_rest f.variables x rest env e before scoped) none settings flaws apart opening head frame w stands d

  -- one part of a block after another
  moves_then : (after middle scope opening : List ℕ) (before : List Object) (opened : List ℕ) (flow : Flow) (last : Frame) (u : State) (e : Done) (v : State) → ((n : ℕ) → is_among n scope ≡ true → is_among n middle ≡ true) → LeavesClean p opening before u → OpensNew before opened (record { flow = flow; frame = last }) →
      Moves after middle opening u.objects last.opened e v → Moves after scope opening before opened e v
  moves_then after middle scope opening before opened flow last u e v grows h k j = record {
    clean = leaves_then p opening before u v h j.clean;
    opens = opens_then before u.objects opened (record { flow = flow; frame = last }) e h.survive k j.opens;
    live = live_narrower opening (scope_of e.flow after scope) (scope_of e.flow after middle) e.frame.held v.objects (scope_narrower e.flow after middle scope grows) j.live;
  }

  -- the rest of a block after a statement, by how execution goes on
  moves_on : (after middle scope opening : List ℕ) (before : List Object) (opened : List ℕ) (ways : Ways) (a : Left) (head : List Held) (rest : PlainStatements) (u : State) → ((n : ℕ) → is_among n scope ≡ true → is_among n middle ≡ true) → (flow : Flow) (last : Frame) →
      ((frame : Frame) → Stands middle opening ways.normal frame u → MaybeDescribes f.variables a.normal head frame.held → Stays (Moves after middle opening u.objects frame.opened) (execute_from s 0 rest frame u)) →
      LeavesClean p opening before u → OpensNew before opened (record { flow = flow; frame = last }) → AreLive opening (scope_of flow middle scope) last.held u.objects → GoesAs p whole n depth number f there calls loops result lie middle scope opening ways a head flow last u →
      Stays (Moves after scope opening before opened) (go_on flow last u (λ frame w. execute_from s zero rest frame w))
  moves_on after middle scope opening before opened ways a head rest u grows normal last go h k live g =
      stays_weaker (Moves after middle opening u.objects last.opened) (Moves after scope opening before opened) (execute_from s zero rest last u) (go last g.0 g.1) (λ e v j. moves_then after middle scope opening before opened normal last u e v grows h k j)
  moves_on after middle scope opening before opened ways a head rest u grows broken last go h k live g = record { clean = h; opens = k; live = live }
  moves_on after middle scope opening before opened ways a head rest u grows continued last go h k live g = record { clean = h; opens = k; live = live }
  moves_on after middle scope opening before opened ways a head rest u grows (returned x) last go h k live g = record { clean = h; opens = k; live = live }

  pub more_clean : (scope : List ℕ) (l b : Bool) (x : PlainStatement) (rest : PlainStatements) → IsWholeStatement (here scope l b) x → Goes scope x → All (scope_after x scope) rest → (env : Environment) → IsBefore f.variables (declared_in x ++ declared_of rest) env → NoneFails (pass_statements m (more_statements x rest) env) →
      (settings : Settings) → flaws_in_statements m (more_statements x rest) settings env ≡ [] → AreApart scope (declared_in x ++ declared_of rest) → (opening : List ℕ) (head : List Held) (frame : Frame) (w : State) → Stands scope opening settings frame w → Describes f.variables env head frame.held →
      Stays (Moves (scope_after_all rest (scope_after x scope)) scope opening w.objects frame.opened) (execute_from s 0 (more_statements x rest) frame w)
  more_clean scope l b x rest i cleanly clean env before none settings flaws apart opening head frame w stands d =
      let a : Left = pass_statement m x env in
      let z : Left = where_going a.normal (λ env. pass_statements m rest env) in
      let middle : List ℕ = scope_after x scope in
      let after : List ℕ = scope_after_all rest middle in
      let ways : Ways = ways_of x settings in
      let first : IsBefore f.variables (declared_in x) env = before_left f.variables (declared_in x) (declared_of rest) env before in
      let first_apart : AreApart scope (declared_in x) = apart_left scope (declared_in x) (declared_of rest) apart in
      let first_none : NoneFails a = followed_none_left a z none in
      stays_then (Nexts middle scope opening ways a head w.objects frame.opened) (Moves after scope opening w.objects frame.opened) (execute s x frame w) _
      (statement_next p whole n depth number f there calls loops result lie x scope l b i env first first_none settings first_apart opening head frame w stands d
      (cleanly env first first_none settings (nothing_left (flaws_in_statement m x settings env) _ flaws) first_apart opening head frame w stands d)) (λ e u h.
      moves_on after middle scope opening w.objects frame.opened ways a head rest u (scope_grows x scope) e.flow e.frame
      (λ last stands d. rest_clean middle x rest clean env before a.normal (statement_scoped f.variables calls loops result (here scope l b) x i env first).normal (followed_none_right a z none) ways.normal (nothing_right (flaws_in_statement m x settings env) _ flaws)
      (apart_after x scope (declared_of rest) before.once apart) opening head last u stands d)
      h.moved.clean (record { each = h.moved.opens.each }) h.moved.live (goes_as p whole n depth number f there calls loops result lie middle scope opening ways a head w.objects frame.opened e u h))
