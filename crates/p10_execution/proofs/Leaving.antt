-- What the pass says of statements holds of what they leave, by induction on statements.
use Rattle.std.proofs.Common.{◌≡◌, ℕ, zero, suc, ◌+◌, ◌<◌, Bool, true, false, List, [], ◌++◌, refl, subst, Option, Some, None, slice_get, length, arith}
use Rattle.std.specs.Prelude.{if◌then◌else◌, All}
use Rattle.std.proofs.lemmas.List.Elements.{All-head, All-tail}
use Rattle.p10_core.specs.declared.statements.MarkKind.TheVariants.{InitDone, TaskLoop}
use Rattle.p10_core.specs.Typed.{PlainLabels, PlainStatement, statement, set, update, copy, evaluate as expression, asserts, declare, declare_static, block, if_then, if_else, loop, switch, break, continue, return, empty, mark, PlainStatements, no_statements, more_statements, statements_list, PlainFunction, PlainProgram}
use Rattle.p10_core.specs.WholePrograms.{Region, is_declaration, declared_in, declared_of, IsWholeStatement, AreWholeStatements, IsWholeProgram}
use Rattle.p10_cert.specs.Claims.{Value, Loop, Claims}
use Rattle.p10_meaning.specs.States.{State}
use Rattle.p10_meaning.specs.Values.{Setting, Held}
use Rattle.p10_meaning.specs.Statements.{Frame, Done, execute, execute_from}
use Rattle.p10_meaning.specs.Calling.{Depth, setting_of, call_at}
use Rattle.p10_meaning.specs.Sound.{region_at}
use Rattle.p10_meaning.proofs.SoundStatements.{scope_after, scope_after_all}
use Rattle.p10_sums.specs.Keeping.{HoldsOf}
use Rattle.p10_absx.specs.Environments.{Environment, hull_reached}
use Rattle.p10_absx.specs.Describing.{Describes, MaybeDescribes}
use Rattle.p10_pass.specs.Passing.{Left, Manner, manner_in, nowhere, reached, where_going, followed, and_then_pass, is_labelled, pass_statement, pass_statements, pass_from}
use Rattle.p10_evaluation.specs.Claimed.{ResultsLie}
use Rattle.p10_evaluation.proofs.Hulls.{reached_left, reached_right}
use Rattle.p10_execution.specs.Scoping.{KnowsNumbers, IsBefore}
use Rattle.p10_execution.specs.Standing.{StandsSoundly}
use Rattle.p10_execution.specs.Leaving.{NoneFails, LeavesAs, Leaves}
use Rattle.p10_execution.specs.Laws.{StatementsLeaveWhatIsSaid}
use Rattle.p10_execution.proofs.Giving.{holds_step, holds_then, holds_weaker}
use Rattle.p10_execution.proofs.ScopedEnds.{nothing, MaybeScoped, scoped_here, reached_scoped, if_scoped, before_left, before_right, before_rest}
use Rattle.p10_execution.proofs.TopDeclarations.{declares_here}
use Rattle.p10_execution.proofs.PassedScopes.{statement_scoped, item_scoped}
use Rattle.p10_execution.proofs.Ends.{followed_right, followed_none_left, followed_none_right, block_none}
use Rattle.p10_execution.proofs.SimpleStatements.{set_says, copy_says, expression_says, asserts_says}
use Rattle.p10_execution.proofs.UpdatesAndReturns.{update_says, nothing_returned, returned_says}
use Rattle.p10_execution.proofs.Declarations.{declare_says}
use Rattle.p10_execution.proofs.Looping.{Went}
use Rattle.p10_execution.proofs.LoopStatements.{block_says}
use Rattle.p10_execution.proofs.Composing.{after_here, after_all_here, went, item_goes, items_follow, if_then_says, if_else_says, loop_says, going_went, switch_says, other_switch_says}

module _ (p : PlainProgram) (whole : IsWholeProgram p) (n : ℕ) (depth : Depth) (number : ℕ) (f : PlainFunction) (there : slice_get p.functions number ≡ Some f)
    (calls : Option Claims) (loops : Option (List Loop)) (result : Option Value) (lie : ResultsLie p calls n (call_at n p depth)) where
  abbrev s : Setting
  s = setting_of p n (call_at n p) depth f

  abbrev m : Manner
  m = manner_in f calls loops result

  abbrev here : List ℕ → Bool → Bool → Region
  here scope l b = region_at p number f scope l b

  abbrev Ready : Frame → State → Type 0
  Ready frame w = StandsSoundly p f.variables n frame w

  abbrev SaysOf : Left → List Held → Done → State → Type 0
  SaysOf a head d w = LeavesAs f.variables m a head d.flow d.frame.held

  abbrev WentAs : Left → List Held → Done → State → Type 0
  WentAs a head d w = Went p whole n depth number f there calls loops result lie a head d w

  pub fresh_block : (frame : Frame) (w : State) → Ready frame w → Ready (record frame { opened = [] }) w
  fresh_block frame w r = record { kinds = r.kinds; sound = r.sound; fits = r.fits; in_frame = r.in_frame; left = r.left }

  -- a statement whose execution says so
  whole_went : (scope : List ℕ) (l b : Bool) (x : PlainStatement) → IsWholeStatement (here scope l b) x → (a : Left) (head : List Held) (frame : Frame) (w : State) → Ready frame w → HoldsOf (SaysOf a head) (execute s x frame w) → HoldsOf (WentAs a head) (execute s x frame w)
  whole_went scope l b x i a head frame w r h = went p whole n depth number f there calls loops result lie scope l b x i a head frame w r h

  pub entered_from : (labels : PlainLabels) (k : ℕ) → is_labelled (k + 0) labels ≡ true → is_labelled k labels ≡ true
  entered_from labels k e = subst (λ (j : ℕ). is_labelled j labels ≡ true) (no_more k) e
    where
      no_more : (k : ℕ) → k + 0 ≡ k
      no_more k = omega arith

  pub later_from : (labels : PlainLabels) (k j : ℕ) → is_labelled (k + suc j) labels ≡ true → is_labelled (suc k + j) labels ≡ true
  later_from labels k j e = subst (λ (i : ℕ). is_labelled i labels ≡ true) (one_more k j) e
    where
      one_more : (k j : ℕ) → k + suc j ≡ suc k + j
      one_more k j = omega arith

  pub none_there : (j : ℕ) → j < 0 → ⊥
  none_there j h = omega (arith, h)

  pub fewer : (j m : ℕ) → suc j < suc m → j < m
  fewer j m h = omega (arith, h)

  pub if_entered : (b : Bool) (before : Option Environment) (env : Environment) (head held : List Held) → b ≡ true → Describes f.variables env head held → MaybeDescribes f.variables (if b then hull_reached before (Some env) else before) head held
  if_entered true before env head held e d = reached_right f.variables before (Some env) head held d
  if_entered false before env head held e d = absurd cc

  pub if_before : (b : Bool) (before : Option Environment) (env : Environment) (head held : List Held) → MaybeDescribes f.variables before head held → MaybeDescribes f.variables (if b then hull_reached before (Some env) else before) head held
  if_before true before env head held d = reached_left f.variables before (Some env) head held d
  if_before false before env head held d = d

  pub entry_scoped : (t : Bool) (before : Option Environment) (env : Environment) → MaybeScoped f.variables nothing env before → KnowsNumbers f.variables env → MaybeScoped f.variables nothing env (if t then hull_reached before (Some env) else before)
  entry_scoped t before env h k = if_scoped f.variables nothing env t (hull_reached before (Some env)) before (reached_scoped f.variables nothing env before (Some env) h (scoped_here f.variables nothing env k)) h

  pub rest_before : (x : PlainStatement) (rest : PlainStatements) (env next : Environment) → IsBefore f.variables (declared_in x ++ declared_of rest) env → (o : Option Environment) → o ≡ Some next → MaybeScoped f.variables (λ k. declares_here k x) env o → IsBefore f.variables (declared_of rest) next
  rest_before x rest env next before None e h = absurd cc
  rest_before x rest env next before (Some a) e h = let same : a ≡ next = cc in subst (λ e. IsBefore f.variables (declared_of rest) e) same (before_rest f.variables x rest env a before h)

  mutual
    pub statement_goes : (x : PlainStatement) (scope : List ℕ) (l b : Bool) → IsWholeStatement (here scope l b) x → (env : Environment) → IsBefore f.variables (declared_in x) env → NoneFails (pass_statement m x env) → (head : List Held) (frame : Frame) (w : State) → Ready frame w → Describes f.variables env head frame.held →
        HoldsOf (WentAs (pass_statement m x env) head) (execute s x frame w)
    statement_goes (statement at (set q v)) scope l b i env before none head frame w r d = whole_went scope l b (statement at (set q v)) i (pass_statement m (statement at (set q v)) env) head frame w r
        (set_says p whole n depth number f there calls loops result lie scope at q v i env before.knows none head frame w r d)
    statement_goes (statement at (update kind op t q v)) scope l b i env before none head frame w r d = whole_went scope l b (statement at (update kind op t q v)) i (pass_statement m (statement at (update kind op t q v)) env) head frame w r
        (update_says p whole n depth number f there calls loops result lie scope at kind op t q v i env before.knows none head frame w r d)
    statement_goes (statement at (copy q z)) scope l b i env before none head frame w r d = whole_went scope l b (statement at (copy q z)) i (pass_statement m (statement at (copy q z)) env) head frame w r
        (copy_says p whole n depth number f there calls loops result lie scope at q z env head frame w d)
    statement_goes (statement at (expression v)) scope l b i env before none head frame w r d = whole_went scope l b (statement at (expression v)) i (pass_statement m (statement at (expression v)) env) head frame w r
        (expression_says p whole n depth number f there calls loops result lie scope at v i env none head frame w r d)
    statement_goes (statement at (asserts call v)) scope l b i env before none head frame w r d = whole_went scope l b (statement at (asserts call v)) i (pass_statement m (statement at (asserts call v)) env) head frame w r
        (asserts_says p whole n depth number f there calls loops result lie scope at call v i env none head frame w r d)
    statement_goes (statement at (declare k initializer)) scope l b i env before none head frame w r d = whole_went scope l b (statement at (declare k initializer)) i (pass_statement m (statement at (declare k initializer)) env) head frame w r
        (declare_says p whole n depth number f there calls loops result lie scope l b at k initializer i env before none head frame w r d)
    statement_goes (statement at (declare_static k)) scope l b i env before none head frame w r d = whole_went scope l b (statement at (declare_static k)) i (reached (Some env)) head frame w r d
    statement_goes (statement at (block xs)) scope l b i env before none head frame w r d = whole_went scope l b (statement at (block xs)) i (pass_statement m (statement at (block xs)) env) head frame w r
        (block_says p whole n depth number f there calls loops result lie xs (pass_statements m xs env) head (λ frame w. execute_from s 0 xs frame w) frame w
        (holds_weaker (WentAs (pass_statements m xs env) head) (SaysOf (pass_statements m xs env) head) (execute_from s 0 xs (record frame { opened = [] }) w)
        (statements_go xs scope l b i env before (block_none xs (pass_statements m xs env) none) head (record frame { opened = [] }) w (fresh_block frame w r) d) (λ d w k. k.as_said)))
    statement_goes (statement at (if_then v x)) scope l b i env before none head frame w r d = whole_went scope l b (statement at (if_then v x)) i (pass_statement m (statement at (if_then v x)) env) head frame w r
        (if_then_says p whole n depth number f there calls loops result lie scope at v x i.0 (λ env before none head frame w r d. statement_goes x scope l b i.1 env before none head frame w r d) env before none head frame w r d)
    statement_goes (statement at (if_else v x z)) scope l b i env before none head frame w r d = whole_went scope l b (statement at (if_else v x z)) i (pass_statement m (statement at (if_else v x z)) env) head frame w r
        (if_else_says p whole n depth number f there calls loops result lie scope at v x z i.0 (λ env before none head frame w r d. statement_goes x scope l b i.1 env before none head frame w r d)
        (λ env before none head frame w r d. statement_goes z scope l b i.2 env before none head frame w r d) env before none head frame w r d)
    statement_goes (statement at (loop keyword first tested third body)) scope l b i env before none head frame w r d = whole_went scope l b (statement at (loop keyword first tested third body)) i (pass_statement m (statement at (loop keyword first tested third body)) env) head frame w r
        (loop_says p whole n depth number f there calls loops result lie scope l b at keyword first tested third body i
        (λ env before none head frame w r d. statements_go first scope l b i.0 env before none head frame w r d)
        (λ env before none head frame w r d. statements_go third (scope_after_all first scope) l b (subst (λ r. AreWholeStatements r third) (after_all_here p whole n depth number f there calls loops result lie first scope l b) i.2) env before none head frame w r d)
        (λ env before none head frame w r d. statement_goes body (scope_after_all first scope) true b (subst (λ (r : Region). IsWholeStatement (record r { in_loop = true }) body) (after_all_here p whole n depth number f there calls loops result lie first scope l b) i.3) env before none head frame w r d)
        env before none head frame w r d)
    statement_goes (statement at (switch keyword v labels (statement at2 (block xs)))) scope l b i env before none head frame w r d =
        whole_went scope l b (statement at (switch keyword v labels (statement at2 (block xs)))) i (pass_statement m (statement at (switch keyword v labels (statement at2 (block xs)))) env) head frame w r
        (switch_says p whole n depth number f there calls loops result lie scope at at2 keyword v labels xs i.0 env none head frame w r d (λ none k e w r.
        entering labels 0 k xs scope l true i.1 i.0.declares_nothing env before None tt none (subst (λ (j : ℕ). is_labelled j labels ≡ true) (from_none k) e.labelled_is) e.there head (record frame { opened = [] }) w r d))
      where
        from_none : (k : ℕ) → k ≡ 0 + k
        from_none k = omega arith
    statement_goes (statement at (switch keyword v labels body)) scope l b i env before none head frame w r d = whole_went scope l b (statement at (switch keyword v labels body)) i (pass_statement m (statement at (switch keyword v labels body)) env) head frame w r
        (other_switch_says p whole n depth number f there calls loops result lie scope at keyword v labels body i.0.whole env refl (λ k frame w. refl) none head frame w r d)
    statement_goes (statement at break) scope l b i env before none head frame w r d = whole_went scope l b (statement at break) i (record nowhere { breaks = Some env }) head frame w r (holds_step (SaysOf (record nowhere { breaks = Some env }) head) w _ (λ left e. d))
    statement_goes (statement at continue) scope l b i env before none head frame w r d = whole_went scope l b (statement at continue) i (record nowhere { continues = Some env }) head frame w r (holds_step (SaysOf (record nowhere { continues = Some env }) head) w _ (λ left e. d))
    statement_goes (statement at (return keyword None)) scope l b i env before none head frame w r d = whole_went scope l b (statement at (return keyword None)) i (pass_statement m (statement at (return keyword None)) env) head frame w r
        (nothing_returned p whole n depth number f there calls loops result lie at keyword env head frame w d)
    statement_goes (statement at (return keyword (Some v))) scope l b i env before none head frame w r d = whole_went scope l b (statement at (return keyword (Some v))) i (pass_statement m (statement at (return keyword (Some v))) env) head frame w r
        (returned_says p whole n depth number f there calls loops result lie scope at keyword v i.0 env none head frame w r d)
    statement_goes (statement at empty) scope l b i env before none head frame w r d = whole_went scope l b (statement at empty) i (reached (Some env)) head frame w r (holds_step (SaysOf (reached (Some env)) head) w _ (λ left e. d))
    statement_goes (statement at (mark InitDone)) scope l b i env before none head frame w r d = whole_went scope l b (statement at (mark InitDone)) i (reached (Some env)) head frame w r d
    statement_goes (statement at (mark TaskLoop)) scope l b i env before none head frame w r d = whole_went scope l b (statement at (mark TaskLoop)) i (reached (Some env)) head frame w r d

    pub statements_go : (xs : PlainStatements) (scope : List ℕ) (l b : Bool) → AreWholeStatements (here scope l b) xs → (env : Environment) → IsBefore f.variables (declared_of xs) env → NoneFails (pass_statements m xs env) → (head : List Held) (frame : Frame) (w : State) → Ready frame w → Describes f.variables env head frame.held →
        HoldsOf (WentAs (pass_statements m xs env) head) (execute_from s 0 xs frame w)
    statements_go no_statements scope l b i env before none head frame w r d = record { ready = r; as_said = d }
    statements_go (more_statements x rest) scope l b i env before none head frame w r d =
        let a : Left = pass_statement m x env in
        let go : Environment → Left = λ env. pass_statements m rest env in
        let first : IsBefore f.variables (declared_in x) env = before_left f.variables (declared_in x) (declared_of rest) env before in
        holds_then (WentAs a head) (WentAs (and_then_pass a go) head) (execute s x frame w) _ (statement_goes x scope l b i.0 env first (followed_none_left a (where_going a.normal go) none) head frame w r d) (λ e w h.
        going_went p whole n depth number f there calls loops result lie a go head e w (λ frame w. execute_from s zero rest frame w) none h (λ next q none d.
        statements_go rest (scope_after x scope) l b (subst (λ r. AreWholeStatements r rest) (after_here p whole n depth number f there calls loops result lie x scope l b) i.1) next
        (rest_before x rest env next before a.normal q (statement_scoped f.variables calls loops result (here scope l b) x i.0 env first).normal) none head e.frame w h.ready d))

    -- the items of a `switch` from one on that is reached from before
    running : (labels : PlainLabels) (k : ℕ) (xs : PlainStatements) (scope : List ℕ) (l b : Bool) → AreWholeStatements (here scope l b) xs → All (λ s. is_declaration s ≡ false) (statements_list xs) → (env : Environment) → IsBefore f.variables (declared_of xs) env → (before : Option Environment) → MaybeScoped f.variables nothing env before →
        NoneFails (pass_from m labels k xs env before) → (head : List Held) (frame : Frame) (w : State) → Ready frame w → MaybeDescribes f.variables before head frame.held → HoldsOf (SaysOf (pass_from m labels k xs env before) head) (execute_from s 0 xs frame w)
    running labels k no_statements scope l b i plain env fresh before scoped none head frame w r d = d
    running labels k (more_statements x rest) scope l b i plain env fresh before scoped none head frame w r d =
        let enters : Option Environment = if is_labelled k labels then hull_reached before (Some env) else before in
        let a : Left = where_going enters (λ env. pass_statement m x env) in
        let c : Left = pass_from m labels (suc k) rest env a.normal in
        let first : IsBefore f.variables (declared_in x) env = before_left f.variables (declared_in x) (declared_of rest) env fresh in
        let enters_scoped : MaybeScoped f.variables nothing env enters = entry_scoped (is_labelled k labels) before env scoped fresh.knows in
        let a_scoped : MaybeScoped f.variables nothing env a.normal = (item_scoped f.variables calls loops result (here scope l b) x i.0 (All-head (λ s. is_declaration s ≡ false) x (statements_list rest) plain) env first enters enters_scoped).normal in
        holds_then (WentAs a head) (SaysOf (followed a c) head) (execute s x frame w) _
        (item_goes p whole n depth number f there calls loops result lie x (λ env before none head frame w r d. statement_goes x scope l b i.0 env before none head frame w r d) enters env enters_scoped first (followed_none_left a c none) head frame w r (if_before (is_labelled k labels) before env head frame.held d)) (λ e w h.
        items_follow p whole n depth number f there calls loops result lie a c head rest e w h.as_said (λ frame w r d.
        running labels (suc k) rest (scope_after x scope) l b (subst (λ r. AreWholeStatements r rest) (after_here p whole n depth number f there calls loops result lie x scope l b) i.1) (All-tail (λ s. is_declaration s ≡ false) x (statements_list rest) plain) env
        (before_right f.variables (declared_in x) (declared_of rest) env fresh) a.normal a_scoped (followed_none_right a c none) head frame w r d) h.ready)

    -- the items of a `switch` up to the one that is entered by its label
    entering : (labels : PlainLabels) (k j : ℕ) (xs : PlainStatements) (scope : List ℕ) (l b : Bool) → AreWholeStatements (here scope l b) xs → All (λ s. is_declaration s ≡ false) (statements_list xs) → (env : Environment) → IsBefore f.variables (declared_of xs) env → (before : Option Environment) → MaybeScoped f.variables nothing env before →
        NoneFails (pass_from m labels k xs env before) → is_labelled (k + j) labels ≡ true → j < length (statements_list xs) → (head : List Held) (frame : Frame) (w : State) → Ready frame w → Describes f.variables env head frame.held → HoldsOf (SaysOf (pass_from m labels k xs env before) head) (execute_from s j xs frame w)
    entering labels k j no_statements scope l b i plain env fresh before scoped none e lt head frame w r d = absurd (none_there j lt)
    entering labels k zero (more_statements x rest) scope l b i plain env fresh before scoped none e lt head frame w r d =
        let enters : Option Environment = if is_labelled k labels then hull_reached before (Some env) else before in
        let a : Left = where_going enters (λ env. pass_statement m x env) in
        let c : Left = pass_from m labels (suc k) rest env a.normal in
        let first : IsBefore f.variables (declared_in x) env = before_left f.variables (declared_in x) (declared_of rest) env fresh in
        let enters_scoped : MaybeScoped f.variables nothing env enters = entry_scoped (is_labelled k labels) before env scoped fresh.knows in
        let a_scoped : MaybeScoped f.variables nothing env a.normal = (item_scoped f.variables calls loops result (here scope l b) x i.0 (All-head (λ s. is_declaration s ≡ false) x (statements_list rest) plain) env first enters enters_scoped).normal in
        holds_then (WentAs a head) (SaysOf (followed a c) head) (execute s x frame w) _
        (item_goes p whole n depth number f there calls loops result lie x (λ env before none head frame w r d. statement_goes x scope l b i.0 env before none head frame w r d) enters env enters_scoped first (followed_none_left a c none) head frame w r (if_entered (is_labelled k labels) before env head frame.held (entered_from labels k e) d)) (λ e w h.
        items_follow p whole n depth number f there calls loops result lie a c head rest e w h.as_said (λ frame w r d.
        running labels (suc k) rest (scope_after x scope) l b (subst (λ r. AreWholeStatements r rest) (after_here p whole n depth number f there calls loops result lie x scope l b) i.1) (All-tail (λ s. is_declaration s ≡ false) x (statements_list rest) plain) env
        (before_right f.variables (declared_in x) (declared_of rest) env fresh) a.normal a_scoped (followed_none_right a c none) head frame w r d) h.ready)
    entering labels k (suc j) (more_statements x rest) scope l b i plain env fresh before scoped none e lt head frame w r d =
        let enters : Option Environment = if is_labelled k labels then hull_reached before (Some env) else before in
        let a : Left = where_going enters (λ env. pass_statement m x env) in
        let c : Left = pass_from m labels (suc k) rest env a.normal in
        let first : IsBefore f.variables (declared_in x) env = before_left f.variables (declared_in x) (declared_of rest) env fresh in
        let enters_scoped : MaybeScoped f.variables nothing env enters = entry_scoped (is_labelled k labels) before env scoped fresh.knows in
        let a_scoped : MaybeScoped f.variables nothing env a.normal = (item_scoped f.variables calls loops result (here scope l b) x i.0 (All-head (λ s. is_declaration s ≡ false) x (statements_list rest) plain) env first enters enters_scoped).normal in
        holds_weaker (SaysOf c head) (SaysOf (followed a c) head) (execute_from s j rest frame w)
        (entering labels (suc k) j rest (scope_after x scope) l b (subst (λ r. AreWholeStatements r rest) (after_here p whole n depth number f there calls loops result lie x scope l b) i.1) (All-tail (λ s. is_declaration s ≡ false) x (statements_list rest) plain) env
        (before_right f.variables (declared_in x) (declared_of rest) env fresh) a.normal a_scoped (followed_none_right a c none) (later_from labels k j e) (fewer j (length (statements_list rest)) lt) head frame w r d)
        (λ e w q. followed_right f.variables m head e.frame.held a c e.flow q)

-- ## The law

pub statements_leave : StatementsLeaveWhatIsSaid
statements_leave p whole n depth number f there calls loops result lie scope l b x i env before none head frame w r d = record {
  given = holds_weaker (Went p whole n depth number f there calls loops result lie (pass_statement (manner_in f calls loops result) x env) head) (Leaves f.variables (manner_in f calls loops result) (pass_statement (manner_in f calls loops result) x env) head)
      (execute (setting_of p n (call_at n p) depth f) x frame w) (statement_goes p whole n depth number f there calls loops result lie x scope l b i env before none head frame w r d) (λ e w h. record { as_said = h.as_said });
}
