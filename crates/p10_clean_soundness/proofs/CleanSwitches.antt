-- A `switch` leaves a clean state where the items of its body do.
use Rattle.std.proofs.Common.{◌≡◌, ℕ, zero, suc, Bool, true, false, List, [], ◌++◌, refl, ap, sym, subst, length, Option, Some, None, slice_get}
use Rattle.std.specs.Prelude.{if◌then◌else◌}
use Rattle.p10_base.specs.declared.span.Span.{Span}
use Rattle.p10_base.specs.declared.at.At.{At}
use Rattle.p10_int.specs.declared.types.IntType.{IntType}
use Rattle.p10_core.specs.Rows.{is_scalar}
use Rattle.p10_core.specs.Types.{PlainType, integer}
use Rattle.p10_core.specs.Typed.{PlainValue, type_of, PlainLabels, PlainStatement, statement, declare, block, switch, PlainStatements, no_statements, more_statements, statements_list, PlainFunction, PlainProgram}
use Rattle.p10_core.specs.WholePrograms.{Region, around, Switches, is_declaration, declared_in, declared_of, IsWholeStatement, AreWholeStatements, IsWholeProgram}
use Rattle.p10_cert.specs.Claims.{Value, Loop, Claims}
use Rattle.p10_meaning.specs.Objects.{Object}
use Rattle.p10_meaning.specs.States.{State}
use Rattle.p10_meaning.specs.Scalars.{number_of}
use Rattle.p10_meaning.specs.Values.{Setting, Held, evaluate}
use Rattle.p10_meaning.specs.Statements.{Frame, Flow, normal, broken, continued, returned, Done, goes, go_on, in_block, labelled, after_switch as left_switch, execute, execute_from, enter}
use Rattle.p10_meaning.specs.Calling.{Depth, setting_of, call_at}
use Rattle.p10_meaning.specs.Sound.{region_at}
use Rattle.p10_meaning.proofs.SoundStatements.{scope_after}
use Rattle.p10_absx.specs.Environments.{Environment, hull_reached}
use Rattle.p10_absx.specs.Describing.{Describes, MaybeDescribes}
use Rattle.p10_pass.specs.Arguments.{has_value, failing_in, where_reached}
use Rattle.p10_pass.specs.Passing.{Left, Manner, manner_in, nowhere, where_going, as_block, switch_left, is_labelled, pass_statement, pass_from, pass_switch}
use Rattle.p10_evaluation.specs.Claimed.{ResultsLie}
use Rattle.p10_execution.specs.Scoping.{IsBefore}
use Rattle.p10_execution.specs.Leaving.{NoneFails}
use Rattle.p10_execution.proofs.Composing.{after_here}
use Rattle.p10_execution.proofs.Ends.{nothing_left, nothing_right, followed_none_left, followed_none_right, calls_none, calls_rest}
use Rattle.p10_execution.proofs.Leaving.{if_entered, if_before, entry_scoped}
use Rattle.p10_execution.proofs.PassedScopes.{item_scoped}
use Rattle.p10_execution.proofs.ScopedEnds.{nothing, MaybeScoped, before_scoped, before_left, before_right}
use Rattle.p10_execution.proofs.Switching.{IsEntry, entry_is}
use Rattle.p10_clean.specs.Settings.{Settings, Ways, ways_of, case_settings}
use Rattle.p10_clean.specs.Values.{flaws_in_value}
use Rattle.p10_clean.specs.Statements.{flaws_in_statement, flaws_from}
use Rattle.p10_clean_soundness.specs.private.Stays.{Stays}
use Rattle.p10_clean_soundness.specs.private.Setting.{AreApart}
use Rattle.p10_clean_soundness.specs.private.Objects.{LeavesClean}
use Rattle.p10_clean_soundness.proofs.Apart.{apart_left, apart_right}
use Rattle.p10_clean_soundness.proofs.Closing.{leaves_same, leaves_then, OpensNew, IsSound, block_clean}
use Rattle.p10_clean_soundness.proofs.Moving.{opens_then}
use Rattle.p10_clean_soundness.proofs.Reaching.{Stand, Next, GoesAs, goes_as, statement_next, GoesClean, stand_step, stand_block, ValuesClean, AfterValue, value_next}
use Rattle.p10_clean_soundness.proofs.SettingFlows.{case_gone, case_entered}
use Rattle.p10_clean_soundness.proofs.Staying.{stays_step, stays_then, stays_weaker}

-- a statement that declares nothing adds nothing to the scope
plain_scope : (x : PlainStatement) (scope : List ℕ) → is_declaration x ≡ false → scope_after x scope ≡ scope
plain_scope (statement at (declare k initializer)) scope e = absurd cc
plain_scope x scope e = refl

module _ (p : PlainProgram) (whole : IsWholeProgram p) (n : ℕ) (depth : Depth) (number : ℕ) (f : PlainFunction) (there : slice_get p.functions number ≡ Some f)
    (calls : Option Claims) (loops : Option (List Loop)) (result : Option Value) (lie : ResultsLie p calls n (call_at n p depth)) where
  abbrev s : Setting
  s = setting_of p n (call_at n p) depth f

  abbrev m : Manner
  m = manner_in f calls loops result

  abbrev here : List ℕ → Bool → Bool → Region
  here scope l b = region_at p number f scope l b

  abbrev Stands : List ℕ → List ℕ → Settings → Frame → State → Type 0
  Stands scope opening settings frame w = Stand p whole n depth number f there calls loops result lie scope opening settings frame w

  -- what items leave
  abbrev pub ItemsLeft : List ℕ → List Object → List ℕ → Done → State → Type 0
  ItemsLeft opening before opened d u = IsSound p u × LeavesClean p opening before u × OpensNew before opened d

  -- what is to be shown of the items from one on that is reached from before
  abbrev pub ItemsClean : List ℕ → PlainLabels → ℕ → PlainStatements → Type 0
  ItemsClean scope labels k xs = (env : Environment) → IsBefore f.variables (declared_of xs) env → (known : Option Environment) → MaybeScoped f.variables nothing env known → NoneFails (pass_from m labels k xs env known) → (entry before : Settings) → flaws_from m labels k xs entry env before known ≡ [] →
      AreApart scope (declared_of xs) → (opening : List ℕ) (head : List Held) (frame : Frame) (w : State) → Stands scope opening before frame w → MaybeDescribes f.variables known head frame.held → Stays (ItemsLeft opening w.objects frame.opened) (execute_from s 0 xs frame w)

  pub no_items : (scope opening : List ℕ) (settings : Settings) (frame : Frame) (w : State) → Stands scope opening settings frame w → Stays (ItemsLeft opening w.objects frame.opened) (execute_from s 0 no_statements frame w)
  no_items scope opening settings frame w stands = (record { kinds = stands.soundly.kinds; sound = stands.soundly.sound }, leaves_same p opening w stands.settled, record { each = λ o x e a. a })

  -- ## One item

  module _ (scope : List ℕ) (l b : Bool) (labels : PlainLabels) (k : ℕ) (x : PlainStatement) (rest : PlainStatements) (i : IsWholeStatement (here scope l b) x) (plain : is_declaration x ≡ false) where
    -- what is known and set where the item is entered
    abbrev pub enters : Environment → Option Environment → Option Environment
    enters env known = if is_labelled k labels then hull_reached known (Some env) else known

    abbrev pub here_set : Settings → Settings → Settings
    here_set entry before = case_settings (is_labelled k labels) entry before

    abbrev pub item_left : Environment → Option Environment → Left
    item_left env known = where_going (enters env known) (λ env. pass_statement m x env)

    pub enters_scoped : (env : Environment) (known : Option Environment) → IsBefore f.variables (declared_in x ++ declared_of rest) env → MaybeScoped f.variables nothing env known → MaybeScoped f.variables nothing env (enters env known)
    enters_scoped env known before scoped = entry_scoped p whole n depth number f there calls loops result lie (is_labelled k labels) known env scoped before.knows

    pub left_scoped : (env : Environment) (known : Option Environment) → IsBefore f.variables (declared_in x ++ declared_of rest) env → MaybeScoped f.variables nothing env known → MaybeScoped f.variables nothing env (item_left env known).normal
    left_scoped env known before scoped =
        (item_scoped f.variables calls loops result (here scope l b) x i plain env (before_left f.variables (declared_in x) (declared_of rest) env before) (enters env known) (enters_scoped env known before scoped)).normal

    -- the item, where states come
    item_next : GoesClean p whole n depth number f there calls loops result lie scope x → (env : Environment) → IsBefore f.variables (declared_in x) env → (o : Option Environment) → MaybeScoped f.variables nothing env o → NoneFails (where_going o (λ env. pass_statement m x env)) → (settings : Settings) → where_reached o (λ env. flaws_in_statement m x settings env) ≡ [] →
        AreApart scope (declared_in x) → (opening : List ℕ) (head : List Held) (frame : Frame) (w : State) → Stands scope opening settings frame w → MaybeDescribes f.variables o head frame.held →
        Stays (Next p whole n depth number f there calls loops result lie scope scope opening (ways_of x settings) (where_going o (λ env. pass_statement m x env)) head w.objects frame.opened) (execute s x frame w)
    item_next cleanly env before None scoped none settings flaws apart opening head frame w stands d = absurd d
    item_next cleanly env before (Some e) scoped none settings flaws apart opening head frame w stands d =
        let fresh : IsBefore f.variables (declared_in x) e = before_scoped f.variables nothing (declared_in x) env e before scoped (λ k o. refl) in
        subst (λ after. Stays (Next p whole n depth number f there calls loops result lie after scope opening (ways_of x settings) (pass_statement m x e) head w.objects frame.opened) (execute s x frame w)) (plain_scope x scope plain)
        (statement_next p whole n depth number f there calls loops result lie x scope l b i e fresh none settings apart opening head frame w stands d (cleanly e fresh none settings flaws apart opening head frame w stands d))

    -- the items after it, by how execution goes on
    items_on : (opening : List ℕ) (before : List Object) (opened : List ℕ) (ways : Ways) (a : Left) (head : List Held) (u : State) → (flow : Flow) (last : Frame) →
        ((frame : Frame) → Stands scope opening ways.normal frame u → MaybeDescribes f.variables a.normal head frame.held → Stays (ItemsLeft opening u.objects frame.opened) (execute_from s 0 rest frame u)) → IsSound p u →
        LeavesClean p opening before u → OpensNew before opened (record { flow = flow; frame = last }) → GoesAs p whole n depth number f there calls loops result lie scope scope opening ways a head flow last u → Stays (ItemsLeft opening before opened) (go_on flow last u (λ frame w. execute_from s zero rest frame w))
    items_on opening before opened ways a head u normal last go sound clean opens g =
        stays_weaker (ItemsLeft opening u.objects last.opened) (ItemsLeft opening before opened) (execute_from s zero rest last u) (go last g.0 g.1)
        (λ e t j. (j.0, leaves_then p opening before u t clean j.1, opens_then before u.objects opened (record { flow = normal; frame = last }) e clean.survive opens j.2))
    items_on opening before opened ways a head u broken last go sound clean opens g = (sound, clean, opens)
    items_on opening before opened ways a head u continued last go sound clean opens g = (sound, clean, opens)
    items_on opening before opened ways a head u (returned y) last go sound clean opens g = (sound, clean, opens)

    pub item_clean : GoesClean p whole n depth number f there calls loops result lie scope x → ItemsClean scope labels (suc k) rest → (env : Environment) → IsBefore f.variables (declared_in x ++ declared_of rest) env → (known : Option Environment) → MaybeScoped f.variables nothing env known → NoneFails (pass_from m labels k (more_statements x rest) env known) →
        (entry before : Settings) → flaws_from m labels k (more_statements x rest) entry env before known ≡ [] → AreApart scope (declared_in x ++ declared_of rest) → (opening : List ℕ) (head : List Held) (frame : Frame) (w : State) →
        Stands scope opening (here_set entry before) frame w → MaybeDescribes f.variables (enters env known) head frame.held → Stays (ItemsLeft opening w.objects frame.opened) (execute_from s 0 (more_statements x rest) frame w)
    item_clean cleanly items env before known scoped none entry set_before flaws apart opening head frame w stands d =
        let a : Left = item_left env known in
        let z : Left = pass_from m labels (suc k) rest env a.normal in
        let there_set : Settings = here_set entry set_before in
        let ways : Ways = ways_of x there_set in
        let Nexts : Done → State → Type 0 = Next p whole n depth number f there calls loops result lie scope scope opening ways a head w.objects frame.opened in
        stays_then Nexts (ItemsLeft opening w.objects frame.opened) (execute s x frame w) _
        (item_next cleanly env (before_left f.variables (declared_in x) (declared_of rest) env before) (enters env known) (enters_scoped env known before scoped) (followed_none_left a z none) there_set (nothing_left _ _ flaws) (apart_left scope (declared_in x) (declared_of rest) apart) opening head frame w stands d)
        (λ e u h. items_on opening w.objects frame.opened ways a head u e.flow e.frame
        (λ last stands d. items env (before_right f.variables (declared_in x) (declared_of rest) env before) a.normal (left_scoped env known before scoped) (followed_none_right a z none) entry ways.normal (nothing_right _ _ flaws) (apart_right scope (declared_in x) (declared_of rest) apart) opening head last u stands d)
        (record { kinds = h.ready.kinds; sound = h.ready.sound }) h.moved.clean (record { each = h.moved.opens.each }) (goes_as p whole n depth number f there calls loops result lie scope scope opening ways a head w.objects frame.opened e u h))

    -- one that is reached from the item before, and one that is entered by its label
    pub reached_item : (entry before : Settings) (env : Environment) (known : Option Environment) (opening : List ℕ) (head : List Held) (frame : Frame) (w : State) → Stands scope opening before frame w → MaybeDescribes f.variables known head frame.held → Stands scope opening (here_set entry before) frame w × MaybeDescribes f.variables (enters env known) head frame.held
    reached_item entry before env known opening head frame w stands d = (
      record { soundly = stands.soundly; set_up = case_gone f.variables scope (is_labelled k labels) entry before frame.held stands.set_up; live = stands.live; settled = stands.settled },
      if_before p whole n depth number f there calls loops result lie (is_labelled k labels) known env head frame.held d,
    )

    pub entered_item : (entry before : Settings) (env : Environment) (known : Option Environment) (opening : List ℕ) (head : List Held) (frame : Frame) (w : State) → is_labelled k labels ≡ true → Stands scope opening entry frame w → Describes f.variables env head frame.held → Stands scope opening (here_set entry before) frame w × MaybeDescribes f.variables (enters env known) head frame.held
    entered_item entry before env known opening head frame w e stands d = (
      record { soundly = stands.soundly; set_up = case_entered f.variables scope (is_labelled k labels) entry before frame.held e stands.set_up; live = stands.live; settled = stands.settled },
      if_entered p whole n depth number f there calls loops result lie (is_labelled k labels) known env head frame.held e d,
    )

    -- the items after it are whole in the same scope
    pub rest_whole : AreWholeStatements (here scope l b) (more_statements x rest) → AreWholeStatements (here scope l b) rest
    rest_whole w = subst (λ after. AreWholeStatements (here after l b) rest) (plain_scope x scope plain) (subst (λ r. AreWholeStatements r rest) (after_here p whole n depth number f there calls loops result lie x scope l b) w.1)

  -- ## The whole

  abbrev Clean : List ℕ → List Object → Done → State → Type 0
  Clean opening before d u = LeavesClean p opening before u

  left_clean : (opening : List ℕ) (before : List Object) (d : Done) (u : State) → LeavesClean p opening before u → Stays (Clean opening before) (left_switch d u)
  left_clean opening before d u h = h

  passed_left : (t : Bool) (a : Left) → t ≡ true → NoneFails (if t then a else nowhere) → NoneFails a
  passed_left true a e h = h
  passed_left false a e h = absurd cc

  taken_flaws : {A : Type 0} (t : Bool) (xs : List A) → t ≡ true → (if t then xs else []) ≡ [] → xs ≡ []
  taken_flaws true xs e h = h
  taken_flaws false xs e h = absurd cc

  integer_scalar : (t : PlainType) (kind : IntType) → t ≡ integer false kind → is_scalar t ≡ true
  integer_scalar t kind e = ap is_scalar e

  module _ (values : ValuesClean p whole n depth number f there calls loops result lie) where
    pub switch_clean : (scope : List ℕ) (at at2 : At) (keyword : Span) (v : PlainValue) (labels : PlainLabels) (xs : PlainStatements) → Switches (around (here scope false false)) v labels (statement at2 (block xs)) → (env : Environment) → NoneFails (pass_statement m (statement at (switch keyword v labels (statement at2 (block xs)))) env) →
        (settings : Settings) → flaws_in_statement m (statement at (switch keyword v labels (statement at2 (block xs)))) settings env ≡ [] → (opening : List ℕ) (head : List Held) (frame : Frame) (w : State) → Stands scope opening settings frame w → Describes f.variables env head frame.held →
        (NoneFails (pass_from m labels 0 xs env None) → flaws_from m labels 0 xs settings env None None ≡ [] → (k : ℕ) → IsEntry labels (length (statements_list xs)) k → (w : State) → Stands scope opening settings (record frame { opened = [] }) w → Stays (ItemsLeft opening w.objects []) (execute_from s k xs (record frame { opened = [] }) w)) →
        Stays (Clean opening w.objects) (execute s (statement at (switch keyword v labels (statement at2 (block xs)))) frame w)
    switch_clean scope at at2 keyword v labels xs i env none settings flaws opening head frame w stands d items =
        let names : List Span = failing_in calls v env in
        let a : Left = switch_left labels env (as_block xs (pass_from m labels 0 xs env None)) in
        let passed : Left = if has_value calls v env then a else nowhere in
        stays_step (Clean opening w.objects) w _ (λ left e.
        stays_then (AfterValue p whole n depth number f there calls loops result lie scope opening settings env head v frame w.objects) (Clean opening w.objects) (evaluate s frame.held v (record w { left = left })) _
        (value_next p whole n depth number f there calls loops result lie values scope v i.whole (integer_scalar (type_of v) i.kind i.type_is) env head frame (record w { left = left }) settings opening (stand_step p whole n depth number f there calls loops result lie scope opening settings frame w left e stands) d (calls_none names passed none) (nothing_left (flaws_in_value m settings v env) _ flaws)) (λ x u h.
        let inside : NoneFails a = passed_left (has_value calls v env) a h.valued.found.has (calls_rest names passed none) in
        let inside_flaws : flaws_from m labels 0 xs settings env None None ≡ [] = taken_flaws (has_value calls v env) _ h.valued.found.has (nothing_right (flaws_in_value m settings v env) _ flaws) in
        stays_then (Clean opening w.objects) (Clean opening w.objects) (enter s (labelled (number_of x) labels.cases labels.otherwise) (statement at2 (block xs)) frame u) left_switch
        (by_case u h.stands h.clean (labelled (number_of x) labels.cases labels.otherwise) (λ k e. entry_is i.kind 0 (length (statements_list xs)) [] labels.cases labels.otherwise (number_of x) k i.cases i.otherwise e)
        (record { arguments = inside.arguments; results = inside.results; entries = inside.entries; backs = inside.backs }) inside_flaws)
        (λ e t j. left_clean opening w.objects e t j)))
      where
        by_case : (u : State) → Stands scope opening settings frame u → LeavesClean p opening w.objects u → (o : Option ℕ) → ((k : ℕ) → o ≡ Some k → IsEntry labels (length (statements_list xs)) k) → NoneFails (pass_from m labels 0 xs env None) → flaws_from m labels 0 xs settings env None None ≡ [] →
            Stays (Clean opening w.objects) (enter s o (statement at2 (block xs)) frame u)
        by_case u stands clean None h none flaws = clean
        by_case u stands clean (Some k) h none flaws =
            stays_weaker (Clean opening u.objects) (Clean opening w.objects) (in_block (λ frame w. execute_from s k xs frame w) frame u)
            (block_clean p opening (λ frame w. execute_from s k xs frame w) frame u stands.settled (items none flaws k (h k refl) u (stand_block p whole n depth number f there calls loops result lie scope opening settings frame u stands))) (λ e t j. leaves_then p opening w.objects u t clean j)

    -- a body that is no block isn't entered
    pub other_switch_clean : (scope : List ℕ) (at : At) (keyword : Span) (v : PlainValue) (labels : PlainLabels) (body : PlainStatement) → Switches (around (here scope false false)) v labels body → ((k : Option ℕ) (frame : Frame) (w : State) → enter s k body frame w ≡ goes frame w) → (env : Environment) →
        NoneFails (pass_statement m (statement at (switch keyword v labels body)) env) → (settings : Settings) → flaws_in_statement m (statement at (switch keyword v labels body)) settings env ≡ [] → (opening : List ℕ) (head : List Held) (frame : Frame) (w : State) → Stands scope opening settings frame w → Describes f.variables env head frame.held →
        Stays (Clean opening w.objects) (execute s (statement at (switch keyword v labels body)) frame w)
    other_switch_clean scope at keyword v labels body i entered env none settings flaws opening head frame w stands d =
        let names : List Span = failing_in calls v env in
        let passed : Left = if has_value calls v env then pass_switch m labels body env else nowhere in
        stays_step (Clean opening w.objects) w _ (λ left e.
        stays_then (AfterValue p whole n depth number f there calls loops result lie scope opening settings env head v frame w.objects) (Clean opening w.objects) (evaluate s frame.held v (record w { left = left })) _
        (value_next p whole n depth number f there calls loops result lie values scope v i.whole (integer_scalar (type_of v) i.kind i.type_is) env head frame (record w { left = left }) settings opening (stand_step p whole n depth number f there calls loops result lie scope opening settings frame w left e stands) d (calls_none names passed none) (nothing_left (flaws_in_value m settings v env) _ flaws)) (λ x u h.
        stays_then (Clean opening w.objects) (Clean opening w.objects) (enter s (labelled (number_of x) labels.cases labels.otherwise) body frame u) left_switch
        (subst (λ o. Stays (Clean opening w.objects) o) (sym (entered (labelled (number_of x) labels.cases labels.otherwise) frame u)) h.clean) (λ e t j. left_clean opening w.objects e t j)))
