-- Statements leave a clean state, by induction on statements.
use Rattle.std.proofs.Common.{◌≡◌, ℕ, zero, suc, ◌+◌, ◌<◌, Bool, true, false, List, [], refl, subst, arith, length, Option, Some, None, slice_get}
use Rattle.std.specs.Prelude.{All}
use Rattle.std.proofs.lemmas.List.Elements.{All-head, All-tail}
use Rattle.p10_core.specs.declared.statements.MarkKind.TheVariants.{InitDone, TaskLoop}
use Rattle.p10_core.specs.Typed.{PlainLabels, PlainStatement, statement, set, update, copy, evaluate as expression, asserts, declare, declare_static, block, if_then, if_else, loop, switch, break, continue, return, empty, mark, PlainStatements, no_statements, more_statements, statements_list, PlainFunction, PlainProgram}
use Rattle.p10_core.specs.WholePrograms.{Region, is_declaration, declared_in, declared_of, IsWholeStatement, AreWholeStatements, IsWholeProgram}
use Rattle.p10_cert.specs.Claims.{Value, Loop, Claims}
use Rattle.p10_meaning.specs.Objects.{Object}
use Rattle.p10_meaning.specs.States.{State}
use Rattle.p10_meaning.specs.Values.{Setting, Held}
use Rattle.p10_meaning.specs.Statements.{Frame, Done, in_block, execute, execute_from}
use Rattle.p10_meaning.specs.Calling.{Depth, setting_of, call_at}
use Rattle.p10_meaning.specs.Sound.{region_at}
use Rattle.p10_meaning.proofs.SoundStatements.{scope_after, scope_after_all}
use Rattle.p10_absx.specs.Environments.{Environment}
use Rattle.p10_absx.specs.Describing.{Describes}
use Rattle.p10_pass.specs.Passing.{Manner, manner_in, is_labelled, pass_statements, pass_from}
use Rattle.p10_evaluation.specs.Claimed.{ResultsLie}
use Rattle.p10_execution.specs.Scoping.{IsBefore}
use Rattle.p10_execution.specs.Leaving.{NoneFails}
use Rattle.p10_execution.proofs.Composing.{after_here, after_all_here}
use Rattle.p10_execution.proofs.Ends.{followed_none_right, block_none, nothing_right}
use Rattle.p10_execution.proofs.Leaving.{entered_from, later_from, none_there, fewer}
use Rattle.p10_execution.proofs.ScopedEnds.{nothing, MaybeScoped, before_right}
use Rattle.p10_execution.proofs.TopDeclarations.{declares_here}
use Rattle.p10_clean.specs.Settings.{Settings, ways_of, ways_of_all}
use Rattle.p10_clean.specs.Statements.{flaws_in_statements, flaws_from}
use Rattle.p10_clean_soundness.specs.private.Stays.{Stays}
use Rattle.p10_clean_soundness.specs.private.Setting.{AreApart}
use Rattle.p10_clean_soundness.specs.private.Objects.{LeavesClean}
use Rattle.p10_clean_soundness.proofs.Afterwards.{PlacesClean, DiscardsClean, ReadsClean}
use Rattle.p10_clean_soundness.proofs.Apart.{apart_right, apart_after_all}
use Rattle.p10_clean_soundness.proofs.Branches.{if_then_clean, if_else_clean, none_clean, more_clean}
use Rattle.p10_clean_soundness.proofs.CleanLoops.{loop_clean}
use Rattle.p10_clean_soundness.proofs.CleanSwitches.{ItemsLeft, ItemsClean, no_items, here_set, item_left, left_scoped, item_clean, reached_item, entered_item, rest_whole, switch_clean, other_switch_clean}
use Rattle.p10_clean_soundness.proofs.CleanUpdates.{UpdatesGive, update_clean}
use Rattle.p10_clean_soundness.proofs.Closing.{leaves_same, block_clean}
use Rattle.p10_clean_soundness.proofs.Declaring.{declare_clean}
use Rattle.p10_clean_soundness.proofs.Moving.{NewLive}
use Rattle.p10_clean_soundness.proofs.Reaching.{Stand, Next, statements_next, GoesClean, AllClean, stand_block, ValuesClean}
use Rattle.p10_clean_soundness.proofs.Simple.{set_clean, copies_clean, expression_clean, asserts_clean, return_clean}
use Rattle.p10_clean_soundness.proofs.Staying.{stays_step, stays_weaker}

module _ (p : PlainProgram) (whole : IsWholeProgram p) (n : ℕ) (depth : Depth) (number : ℕ) (f : PlainFunction) (there : slice_get p.functions number ≡ Some f)
    (calls : Option Claims) (ls : List Loop) (result : Option Value) (lie : ResultsLie p calls n (call_at n p depth))
    (values : ValuesClean p whole n depth number f there calls (Some ls) result lie) (places : PlacesClean p whole n depth number f there calls (Some ls) result lie) (discards : DiscardsClean p whole n depth number f there calls (Some ls) result lie)
    (reads : ReadsClean p whole n depth number f there calls (Some ls) result lie) (gives : UpdatesGive p whole n depth number f there calls (Some ls) result lie) where
  abbrev s : Setting
  s = setting_of p n (call_at n p) depth f

  abbrev loops : Option (List Loop)
  loops = Some ls

  abbrev m : Manner
  m = manner_in f calls loops result

  abbrev here : List ℕ → Bool → Bool → Region
  here scope l b = region_at p number f scope l b

  abbrev Stands : List ℕ → List ℕ → Settings → Frame → State → Type 0
  Stands scope opening settings frame w = Stand p whole n depth number f there calls loops result lie scope opening settings frame w

  abbrev Goes : List ℕ → PlainStatement → Type 0
  Goes scope x = GoesClean p whole n depth number f there calls loops result lie scope x

  abbrev AllGo : List ℕ → PlainStatements → Type 0
  AllGo scope xs = AllClean p whole n depth number f there calls loops result lie scope xs

  abbrev Clean : List ℕ → List Object → Done → State → Type 0
  Clean opening before d u = LeavesClean p opening before u

  -- a statement that declares nothing has no new object
  no_new : (x : PlainStatement) → ((k : ℕ) → declares_here k x ≡ false) → (opening : List ℕ) (frame : Frame) (w : State) → Stays (Clean opening w.objects) (execute s x frame w) → Stays (λ d u. LeavesClean p opening w.objects u × NewLive x opening d.frame.held u.objects) (execute s x frame w)
  no_new x none opening frame w h = stays_weaker (Clean opening w.objects) (λ d u. LeavesClean p opening w.objects u × NewLive x opening d.frame.held u.objects) (execute s x frame w) h (λ d u k. (k, λ j object e there. absurd (apart (declares_here j x) (none j) e)))
    where
      apart : (b : Bool) → b ≡ false → b ≡ true → ⊥
      apart b e f = absurd cc

  in_block_clean : (scope : List ℕ) (l b : Bool) (xs : PlainStatements) → AreWholeStatements (here scope l b) xs → AllGo scope xs → (env : Environment) → IsBefore f.variables (declared_of xs) env → NoneFails (pass_statements m xs env) → (settings : Settings) → flaws_in_statements m xs settings env ≡ [] → AreApart scope (declared_of xs) →
      (opening : List ℕ) (head : List Held) (frame : Frame) (w : State) → Stands scope opening settings frame w → Describes f.variables env head frame.held → Stays (Clean opening w.objects) (in_block (λ frame w. execute_from s 0 xs frame w) frame w)
  in_block_clean scope l b xs i clean env before none settings flaws apart opening head frame w stands d =
      let fresh : Frame = record frame { opened = [] } in
      let ready : Stands scope opening settings fresh w = stand_block p whole n depth number f there calls loops result lie scope opening settings frame w stands in
      block_clean p opening (λ frame w. execute_from s 0 xs frame w) frame w stands.settled
      (stays_weaker (Next p whole n depth number f there calls loops result lie (scope_after_all xs scope) scope opening (ways_of_all xs settings) (pass_statements m xs env) head w.objects []) (ItemsLeft p whole n depth number f there calls loops result lie opening w.objects []) (execute_from s 0 xs fresh w)
      (statements_next p whole n depth number f there calls loops result lie xs scope l b i env before none settings apart opening head fresh w ready d (clean env before none settings flaws apart opening head fresh w ready d))
      (λ e u h. (record { kinds = h.ready.kinds; sound = h.ready.sound }, h.moved.clean, h.moved.opens)))

  mutual
    pub statement_clean : (x : PlainStatement) (scope : List ℕ) (l b : Bool) → IsWholeStatement (here scope l b) x → Goes scope x
    statement_clean (statement at (set q v)) scope l b i env before none settings flaws apart opening head frame w stands d =
        no_new (statement at (set q v)) (λ k. refl) opening frame w (set_clean p whole n depth number f there calls loops result lie values places discards scope at q v i env none settings flaws opening head frame w stands d)
    statement_clean (statement at (update kind op t q v)) scope l b i env before none settings flaws apart opening head frame w stands d =
        no_new (statement at (update kind op t q v)) (λ k. refl) opening frame w (update_clean p whole n depth number f there calls loops result lie values places reads gives scope at kind op t q v i env none settings flaws opening head frame w stands d)
    statement_clean (statement at (copy q z)) scope l b i env before none settings flaws apart opening head frame w stands d =
        no_new (statement at (copy q z)) (λ k. refl) opening frame w (copies_clean p whole n depth number f there calls loops result lie values places discards scope at q z i env none settings flaws opening head frame w stands d)
    statement_clean (statement at (expression v)) scope l b i env before none settings flaws apart opening head frame w stands d =
        no_new (statement at (expression v)) (λ k. refl) opening frame w (expression_clean p whole n depth number f there calls loops result lie values places discards scope at v i env none settings flaws opening head frame w stands d)
    statement_clean (statement at (asserts call v)) scope l b i env before none settings flaws apart opening head frame w stands d =
        no_new (statement at (asserts call v)) (λ k. refl) opening frame w (asserts_clean p whole n depth number f there calls loops result lie values places discards scope at call v i env none settings flaws opening head frame w stands d)
    statement_clean (statement at (declare k initializer)) scope l b i env before none settings flaws apart opening head frame w stands d = declare_clean p whole n depth number f there calls loops result lie values places scope l b at k initializer i env before none settings flaws apart opening head frame w stands d
    statement_clean (statement at (declare_static k)) scope l b i env before none settings flaws apart opening head frame w stands d = no_new (statement at (declare_static k)) (λ k. refl) opening frame w (leaves_same p opening w stands.settled)
    statement_clean (statement at (block xs)) scope l b i env before none settings flaws apart opening head frame w stands d =
        no_new (statement at (block xs)) (λ k. refl) opening frame w (in_block_clean scope l b xs i (statements_clean xs scope l b i) env before (block_none xs (pass_statements m xs env) none) settings flaws apart opening head frame w stands d)
    statement_clean (statement at (if_then v x)) scope l b i env before none settings flaws apart opening head frame w stands d =
        no_new (statement at (if_then v x)) (λ k. refl) opening frame w (if_then_clean p whole n depth number f there calls loops result lie values scope at v x i.0 (statement_clean x scope l b i.1) env before none settings flaws apart opening head frame w stands d)
    statement_clean (statement at (if_else v x y)) scope l b i env before none settings flaws apart opening head frame w stands d =
        no_new (statement at (if_else v x y)) (λ k. refl) opening frame w (if_else_clean p whole n depth number f there calls loops result lie values scope at v x y i.0 (statement_clean x scope l b i.1) (statement_clean y scope l b i.2) env before none settings flaws apart opening head frame w stands d)
    statement_clean (statement at (loop head first tested third body)) scope l b i env before none settings flaws apart opening outer frame w stands d =
        no_new (statement at (loop head first tested third body)) (λ k. refl) opening frame w
        (loop_clean p whole n depth number f there calls ls result lie values scope l b at head first tested third body i (apart_after_all first scope (declared_in body) before.once apart)
        (statement_clean body (scope_after_all first scope) true b (subst (λ (r : Region). IsWholeStatement (record r { in_loop = true }) body) (after_all_here p whole n depth number f there calls loops result lie first scope l b) i.3))
        (statements_clean third (scope_after_all first scope) l b (subst (λ r. AreWholeStatements r third) (after_all_here p whole n depth number f there calls loops result lie first scope l b) i.2))
        (statements_clean first scope l b i.0) env before none settings flaws apart opening outer frame w stands d)
    statement_clean (statement at (switch keyword v labels (statement at2 (block xs)))) scope l b i env before none settings flaws apart opening head frame w stands d =
        no_new (statement at (switch keyword v labels (statement at2 (block xs)))) (λ k. refl) opening frame w
        (switch_clean p whole n depth number f there calls loops result lie values scope at at2 keyword v labels xs i.0 env none settings flaws opening head frame w stands d (λ none flaws k e w stands.
        entering labels 0 k xs scope l true i.1 i.0.declares_nothing env before None tt none settings None flaws apart (subst (λ (j : ℕ). is_labelled j labels ≡ true) (from_none k) e.labelled_is) e.there opening head (record frame { opened = [] }) w stands d))
      where
        from_none : (k : ℕ) → k ≡ 0 + k
        from_none k = omega arith
    statement_clean (statement at (switch keyword v labels body)) scope l b i env before none settings flaws apart opening head frame w stands d =
        no_new (statement at (switch keyword v labels body)) (λ k. refl) opening frame w (other_switch_clean p whole n depth number f there calls loops result lie values scope at keyword v labels body i.0 (λ k frame w. refl) env none settings flaws opening head frame w stands d)
    statement_clean (statement at break) scope l b i env before none settings flaws apart opening head frame w stands d =
        no_new (statement at break) (λ k. refl) opening frame w (stays_step (Clean opening w.objects) w _ (λ left e. leaves_same p opening (record w { left = left }) stands.settled))
    statement_clean (statement at continue) scope l b i env before none settings flaws apart opening head frame w stands d =
        no_new (statement at continue) (λ k. refl) opening frame w (stays_step (Clean opening w.objects) w _ (λ left e. leaves_same p opening (record w { left = left }) stands.settled))
    statement_clean (statement at (return keyword v)) scope l b i env before none settings flaws apart opening head frame w stands d =
        no_new (statement at (return keyword v)) (λ k. refl) opening frame w (return_clean p whole n depth number f there calls loops result lie values places discards scope at keyword v i env none settings flaws opening head frame w stands d)
    statement_clean (statement at empty) scope l b i env before none settings flaws apart opening head frame w stands d =
        no_new (statement at empty) (λ k. refl) opening frame w (stays_step (Clean opening w.objects) w _ (λ left e. leaves_same p opening (record w { left = left }) stands.settled))
    statement_clean (statement at (mark InitDone)) scope l b i env before none settings flaws apart opening head frame w stands d = no_new (statement at (mark InitDone)) (λ k. refl) opening frame w (leaves_same p opening (record w { marked = true }) stands.settled)
    statement_clean (statement at (mark TaskLoop)) scope l b i env before none settings flaws apart opening head frame w stands d = no_new (statement at (mark TaskLoop)) (λ k. refl) opening frame w (leaves_same p opening w stands.settled)

    pub statements_clean : (xs : PlainStatements) (scope : List ℕ) (l b : Bool) → AreWholeStatements (here scope l b) xs → AllGo scope xs
    statements_clean no_statements scope l b i env before none settings flaws apart opening head frame w stands d = none_clean p whole n depth number f there calls loops result lie scope opening settings frame w stands
    statements_clean (more_statements x rest) scope l b i env before none settings flaws apart opening head frame w stands d =
        more_clean p whole n depth number f there calls loops result lie scope l b x rest i.0 (statement_clean x scope l b i.0) (statements_clean rest (scope_after x scope) l b (subst (λ r. AreWholeStatements r rest) (after_here p whole n depth number f there calls loops result lie x scope l b) i.1)) env before none settings flaws apart opening head frame w stands d

    -- the items of a `switch` from one on that is reached from before
    running : (labels : PlainLabels) (k : ℕ) (xs : PlainStatements) (scope : List ℕ) (l b : Bool) → AreWholeStatements (here scope l b) xs → All (λ s. is_declaration s ≡ false) (statements_list xs) → ItemsClean p whole n depth number f there calls loops result lie scope labels k xs
    running labels k no_statements scope l b i plain env before known scoped none entry set_before flaws apart opening head frame w stands d = no_items p whole n depth number f there calls loops result lie scope opening set_before frame w stands
    running labels k (more_statements x rest) scope l b i plain env before known scoped none entry set_before flaws apart opening head frame w stands d =
        let plain_here : is_declaration x ≡ false = All-head (λ s. is_declaration s ≡ false) x (statements_list rest) plain in
        let at = reached_item p whole n depth number f there calls loops result lie scope l b labels k x rest i.0 plain_here entry set_before env known opening head frame w stands d in
        item_clean p whole n depth number f there calls loops result lie scope l b labels k x rest i.0 plain_here (statement_clean x scope l b i.0)
        (running labels (suc k) rest scope l b (rest_whole p whole n depth number f there calls loops result lie scope l b labels k x rest i.0 plain_here i) (All-tail (λ s. is_declaration s ≡ false) x (statements_list rest) plain)) env before known scoped none entry set_before flaws apart opening head frame w at.0 at.1

    -- the items from the one that is entered by its label
    entering : (labels : PlainLabels) (k j : ℕ) (xs : PlainStatements) (scope : List ℕ) (l b : Bool) → AreWholeStatements (here scope l b) xs → All (λ s. is_declaration s ≡ false) (statements_list xs) → (env : Environment) → IsBefore f.variables (declared_of xs) env → (known : Option Environment) → MaybeScoped f.variables nothing env known →
        NoneFails (pass_from m labels k xs env known) → (entry before : Settings) → flaws_from m labels k xs entry env before known ≡ [] → AreApart scope (declared_of xs) → is_labelled (k + j) labels ≡ true → j < length (statements_list xs) → (opening : List ℕ) (head : List Held) (frame : Frame) (w : State) →
        Stands scope opening entry frame w → Describes f.variables env head frame.held → Stays (ItemsLeft p whole n depth number f there calls loops result lie opening w.objects frame.opened) (execute_from s j xs frame w)
    entering labels k j no_statements scope l b i plain env before known scoped none entry set_before flaws apart e lt opening head frame w stands d = absurd (none_there p whole n depth number f there calls loops result lie j lt)
    entering labels k zero (more_statements x rest) scope l b i plain env before known scoped none entry set_before flaws apart e lt opening head frame w stands d =
        let plain_here : is_declaration x ≡ false = All-head (λ s. is_declaration s ≡ false) x (statements_list rest) plain in
        let at = entered_item p whole n depth number f there calls loops result lie scope l b labels k x rest i.0 plain_here entry set_before env known opening head frame w (entered_from p whole n depth number f there calls loops result lie labels k e) stands d in
        item_clean p whole n depth number f there calls loops result lie scope l b labels k x rest i.0 plain_here (statement_clean x scope l b i.0)
        (running labels (suc k) rest scope l b (rest_whole p whole n depth number f there calls loops result lie scope l b labels k x rest i.0 plain_here i) (All-tail (λ s. is_declaration s ≡ false) x (statements_list rest) plain)) env before known scoped none entry set_before flaws apart opening head frame w at.0 at.1
    entering labels k (suc j) (more_statements x rest) scope l b i plain env before known scoped none entry set_before flaws apart e lt opening head frame w stands d =
        let plain_here : is_declaration x ≡ false = All-head (λ s. is_declaration s ≡ false) x (statements_list rest) plain in
        entering labels (suc k) j rest scope l b (rest_whole p whole n depth number f there calls loops result lie scope l b labels k x rest i.0 plain_here i) (All-tail (λ s. is_declaration s ≡ false) x (statements_list rest) plain) env (before_right f.variables (declared_in x) (declared_of rest) env before)
        (item_left p whole n depth number f there calls loops result lie scope l b labels k x rest i.0 plain_here env known).normal (left_scoped p whole n depth number f there calls loops result lie scope l b labels k x rest i.0 plain_here env known before scoped) (followed_none_right (item_left p whole n depth number f there calls loops result lie scope l b labels k x rest i.0 plain_here env known) _ none)
        entry (ways_of x (here_set p whole n depth number f there calls loops result lie scope l b labels k x rest i.0 plain_here entry set_before)).normal (nothing_right _ _ flaws) (apart_right scope (declared_in x) (declared_of rest) apart) (later_from p whole n depth number f there calls loops result lie labels k j e) (fewer p whole n depth number f there calls loops result lie j (length (statements_list rest)) lt) opening head frame w stands d
