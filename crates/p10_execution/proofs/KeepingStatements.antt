-- Calls and loops of statements keep their claims, by induction on statements.
use Rattle.p10_base.specs.declared.at.At.{At}
use Rattle.p10_execution.proofs.Switching.{IsEntry}
use Rattle.p10_core.specs.WholePrograms.{IsMaybeTest}
use Rattle.p10_core.specs.declared.statements.LoopHead.{LoopHead}
use Rattle.p10_meaning.specs.declared.pointers.Scalar.{Scalar}
use Rattle.std.proofs.Common.{ap, ◌≤◌, ◌∷◌, ◌∙◌}
use Rattle.p10_execution.proofs.ScopedEnds.{before_scoped}
use Rattle.p10_pass.specs.Passing.{manner_in, pass_switch}
use Rattle.std.proofs.Common.{◌≡◌, ℕ, zero, suc, ◌+◌, ◌<◌, Bool, true, false, List, [], ◌++◌, refl, subst, Option, Some, None, slice_get, length, arith}
use Rattle.std.specs.Prelude.{if◌then◌else◌, All}
use Rattle.std.proofs.lemmas.List.Elements.{All-head, All-tail}
use Rattle.p10_core.specs.Typed.{PlainLabels, PlainStatement, statement, set, update, copy, evaluate as expression, asserts, declare, declare_static, block, if_then, if_else, loop, switch, break, continue, return, empty, mark, PlainStatements, no_statements, more_statements, statements_list, PlainFunction, PlainProgram}
use Rattle.p10_core.specs.WholePrograms.{Region, is_declaration, declared_in, declared_of, IsWholeStatement, AreWholeStatements, IsWholeProgram}
use Rattle.p10_cert.specs.Claims.{Value, Loop, Claims}
use Rattle.p10_meaning.specs.States.{State}
use Rattle.p10_meaning.specs.Values.{Setting, Held}
use Rattle.p10_meaning.specs.Statements.{Frame, Done, execute, execute_from}
use Rattle.p10_meaning.specs.Calling.{Depth, setting_of, call_at}
use Rattle.p10_meaning.specs.Sound.{region_at}
use Rattle.p10_meaning.proofs.SoundStatements.{scope_after, scope_after_all}
use Rattle.p10_absx.specs.Environments.{Environment, hull_reached}
use Rattle.p10_absx.specs.Describing.{Describes, MaybeDescribes}
use Rattle.p10_pass.specs.Passing.{Left, Manner, nowhere, reached, where_going, followed, is_labelled, pass_statement, pass_statements, pass_from}
use Rattle.p10_evaluation.specs.Claimed.{ResultsLie}
use Rattle.p10_execution.specs.Scoping.{IsBefore}
use Rattle.p10_execution.specs.Standing.{StandsSoundly}
use Rattle.p10_execution.specs.Leaving.{NoneFails, LeavesAs}
use Rattle.p10_execution.proofs.Giving.{holds_weaker}
use Rattle.p10_execution.proofs.ScopedEnds.{nothing, MaybeScoped, before_left, before_right, before_rest}
use Rattle.p10_execution.proofs.TopDeclarations.{declares_here}
use Rattle.p10_execution.proofs.PassedScopes.{statement_scoped, item_scoped}
use Rattle.p10_execution.proofs.Ends.{followed_none_left, followed_none_right, block_none}
use Rattle.p10_execution.proofs.Looping.{Went}
use Rattle.p10_execution.proofs.Composing.{after_here, after_all_here, item_goes}
use Rattle.std.specs.Prelude.{Contains, ◌||◌}
use Rattle.p10_core.specs.WholePrograms.{is_variable_declaration}
use Rattle.p10_execution.proofs.Numbers.{or_right}
use Rattle.std.proofs.lemmas.List.Elements.{Contains-append_left, Contains-append_right, Contains-push}
use Rattle.p10_core.specs.WholePrograms.{Switches, AllOf, is_expression, IsTest, around}
use Rattle.p10_core.specs.Whole.{IsWholeValue}
use Rattle.p10_core.specs.Typed.{PlainValue, set, update, copy, evaluate as expression, asserts, declare}
use Rattle.p10_base.specs.declared.span.Span.{Span}
use Rattle.p10_cert.specs.Claims.{Func}
use Rattle.p10_meaning.specs.Statements.{Flow, normal, broken, continued, returned, test, labelled, round}
use Rattle.p10_meaning.specs.Scalars.{number_of, is_true}
use Rattle.p10_meaning.specs.Values.{evaluate}
use Rattle.p10_sums.specs.Counting.{Counting, turns_claimed}
use Rattle.p10_sums.specs.Laws.{counting_in}
use Rattle.p10_sums.specs.Keeping.{OnGives, OnNormal, OnBack, LoopKeeps, TestKeeps, ValueKeeps, StatementKeeps, StatementsKeep, EnteredKeeps}
use Rattle.p10_absx.specs.Assessing.{assess, known_where}
use Rattle.p10_pass.specs.Arguments.{failing_in, has_value}
use Rattle.p10_pass.specs.Claiming.{loop_claimed, head_of}
use Rattle.p10_pass.specs.Scopes.{form_assigns}
use Rattle.p10_pass.specs.Passing.{Weakness, beside, as_block, switch_left, loop_left, round_of}
use Rattle.p10_evaluation.specs.Claimed.{IsCoveredCall}
use Rattle.p10_evaluation.proofs.Rules.{after_step}
use Rattle.p10_execution.specs.Bounding.{LoopTree, loop_trees, trees_among, AreCounted, AreMadeUp}
use Rattle.p10_execution.specs.Laws.{StatementsKeepTheirClaims}
use Rattle.p10_execution.proofs.AssessedScopes.{MaybeSame, assessed_scope}
use Rattle.p10_execution.proofs.ScopedEnds.{EndsScoped, third_expressions, before_same, before_body}
use Rattle.p10_execution.proofs.TopDeclarations.{declares_at_top}
use Rattle.p10_execution.proofs.PassedScopes.{statements_scoped}
use Rattle.p10_execution.proofs.Ends.{beside_none, calls_none, calls_rest}
use Rattle.p10_execution.proofs.Parts.{Valued, valued}
use Rattle.p10_execution.proofs.Expressions.{is_clause, first_clauses, expressions_quiet}
use Rattle.p10_execution.proofs.Switching.{entry_is}
use Rattle.p10_execution.proofs.KeepingParts.{stepped, value_kept, stepped_value, set_kept, update_kept, copy_kept, return_kept, declare_kept}
use Rattle.p10_execution.proofs.KeepingLoops.{claimed_kept, turns_same}
use Rattle.p10_execution.proofs.Leaving.{statement_goes, statements_go, fresh_block, entered_from, later_from, none_there, fewer, if_entered, if_before, entry_scoped}

-- ## Parts of lists

-- no loop stands in a clause of a loop
clause_trees : (x : PlainStatement) → is_clause x ≡ true → loop_trees x ≡ []
clause_trees (statement at (declare k initializer)) e = refl
clause_trees (statement at (set q v)) e = refl
clause_trees (statement at (update kind op t q v)) e = refl
clause_trees (statement at (copy q z)) e = refl
clause_trees (statement at (expression v)) e = refl
clause_trees (statement at (asserts call v)) e = refl
clause_trees x e = absurd cc

clauses_trees : (xs : PlainStatements) → AllOf is_clause xs → trees_among xs ≡ []
clauses_trees no_statements h = refl
clauses_trees (more_statements x rest) h = ap (λ ts. ts ++ trees_among rest) (clause_trees x h.0) ∙ clauses_trees rest h.1

expression_clauses : (xs : PlainStatements) → AllOf is_expression xs → AllOf is_clause xs
expression_clauses no_statements h = tt
expression_clauses (more_statements x rest) h = (ap (λ t. is_variable_declaration x || t) h.0 ∙ or_right (is_variable_declaration x), expression_clauses rest h.1)

none_contained : {A : Type 0} (xs : List A) (x : A) → xs ≡ [] → Contains xs x → ⊥
none_contained xs x e h = let g : Contains [] x = subst (λ ys. Contains ys x) e h in omega (arith, g.1)

counted_left : (f : PlainFunction) (loops : List Loop) (xs ys : List LoopTree) → AreCounted f loops (xs ++ ys) → AreCounted f loops xs
counted_left f loops xs ys h = record { among = λ t c. h.among t (Contains-append_left xs ys t c); no_task = λ t c. h.no_task t (Contains-append_left xs ys t c) }

counted_right : (f : PlainFunction) (loops : List Loop) (xs ys : List LoopTree) → AreCounted f loops (xs ++ ys) → AreCounted f loops ys
counted_right f loops xs ys h = record { among = λ t c. h.among t (Contains-append_right xs ys t c); no_task = λ t c. h.no_task t (Contains-append_right xs ys t c) }

counted_none : (f : PlainFunction) (loops : List Loop) (xs : List LoopTree) → xs ≡ [] → AreCounted f loops xs
counted_none f loops xs e = record { among = λ t c. absurd (none_contained xs t e c); no_task = λ t c. absurd (none_contained xs t e c) }

module _ (p : PlainProgram) (whole : IsWholeProgram p) (n : ℕ) (depth : Depth) (number : ℕ) (f : PlainFunction) (there : slice_get p.functions number ≡ Some f)
    (calls : Option Claims) (ls : List Loop) (result : Option Value) (functions : List Func) (lie : ResultsLie p calls n (call_at n p depth))
    (K : ℕ → List Scalar → State → Type 0) (covered : (g : ℕ) (xs : List Scalar) (w : State) → IsCoveredCall p calls n g xs w → K g xs w) where
  abbrev s : Setting
  s = setting_of p n (call_at n p) depth f

  abbrev loops : Option (List Loop)
  loops = Some ls

  abbrev m : Manner
  m = manner_in f calls loops result

  abbrev c : Counting
  c = counting_in s functions ls

  abbrev here : List ℕ → Bool → Bool → Region
  here scope l b = region_at p number f scope l b

  abbrev Ready : Frame → State → Type 0
  Ready frame w = StandsSoundly p f.variables n frame w

  abbrev MadeUp : List Weakness → Type 0
  MadeUp weak = AreMadeUp p n depth number f ls weak

  abbrev WentBy : Left → List Held → Done → State → Type 0
  WentBy a head d w = Went p whole n depth number f there calls loops result lie a head d w

  abbrev ValueBy : Environment → List Held → PlainValue → Frame → Scalar → State → Type 0
  ValueBy env head v frame x w = Valued p whole n depth number f there calls lie env head v frame x w

  -- what is to be shown of a statement, and of statements
  abbrev KeepsIt : PlainStatement → Type 0
  KeepsIt x = (env : Environment) → IsBefore f.variables (declared_in x) env → NoneFails (pass_statement m x env) → MadeUp (pass_statement m x env).weak → (head : List Held) (frame : Frame) (w : State) → Ready frame w → Describes f.variables env head frame.held → StatementKeeps c s K x frame w

  abbrev KeepAll : PlainStatements → Type 0
  KeepAll xs = (env : Environment) → IsBefore f.variables (declared_of xs) env → NoneFails (pass_statements m xs env) → MadeUp (pass_statements m xs env).weak → (head : List Held) (frame : Frame) (w : State) → Ready frame w → Describes f.variables env head frame.held → StatementsKeep c s K 0 xs frame w

  made_left : (a b : List Weakness) → MadeUp (a ++ b) → MadeUp a
  made_left a b h = λ k i. h k (Contains-append_left a b k i)

  made_right : (a b : List Weakness) → MadeUp (a ++ b) → MadeUp b
  made_right a b h = λ k i. h k (Contains-append_right a b k i)

  made_none : (weak : List Weakness) → weak ≡ [] → MadeUp weak
  made_none weak e = λ k i. absurd (none_contained weak k e i)

  -- a part that is entered where states come
  entered_keeps : (x : PlainStatement) → KeepsIt x → (o : Option Environment) → ((e : Environment) → o ≡ Some e → IsBefore f.variables (declared_in x) e) → NoneFails (where_going o (λ env. pass_statement m x env)) → MadeUp (where_going o (λ env. pass_statement m x env)).weak →
      (head : List Held) (frame : Frame) (w : State) → Ready frame w → MaybeDescribes f.variables o head frame.held → StatementKeeps c s K x frame w
  entered_keeps x keeps None before none weak head frame w r d = absurd d
  entered_keeps x keeps (Some e) before none weak head frame w r d = keeps e (before e refl) none weak head frame w r d

  branch_before : (numbers : List ℕ) (env : Environment) → IsBefore f.variables numbers env → (o : Option Environment) → MaybeSame env o → (e : Environment) → o ≡ Some e → IsBefore f.variables numbers e
  branch_before numbers env before None same e q = absurd cc
  branch_before numbers env before (Some a) same e q = let is : a ≡ e = cc in subst (λ e. IsBefore f.variables numbers e) is (before_same f.variables numbers env a before same)

  item_before : (numbers : List ℕ) (env : Environment) → IsBefore f.variables numbers env → (o : Option Environment) → MaybeScoped f.variables nothing env o → (e : Environment) → o ≡ Some e → IsBefore f.variables numbers e
  item_before numbers env before None scoped e q = absurd cc
  item_before numbers env before (Some a) scoped e q = let is : a ≡ e = cc in subst (λ e. IsBefore f.variables numbers e) is (before_scoped f.variables nothing numbers env a before scoped (λ k o. refl))

  -- what is known where a value is so true or false
  known_as : (env : Environment) (head held : List Held) (v : PlainValue) (x : Scalar) (t : Bool) → is_true x ≡ t → MaybeDescribes f.variables (known_where (is_true x) env (assess calls v env)) head held → MaybeDescribes f.variables (known_where t env (assess calls v env)) head held
  known_as env head held v x t e d = subst (λ t. MaybeDescribes f.variables (known_where t env (assess calls v env)) head held) e d

  -- after a value, in the same frame
  after_value : (scope : List ℕ) (v : PlainValue) → IsWholeValue (around (here scope false false)) v → (env : Environment) (head : List Held) (frame : Frame) (w : State) → failing_in calls v env ≡ [] → Ready frame w → Describes f.variables env head frame.held → (P : Scalar → State → Type 0) →
      ((x : Scalar) (w : State) → ValueBy env head v frame x w → P x w) → OnGives P (evaluate s frame.held v w)
  after_value scope v i env head frame w none r d P h = record { given = holds_weaker (ValueBy env head v frame) P (evaluate s frame.held v w) (valued p whole n depth number f there calls lie scope v i env head frame w none r d) h }

  step_on : (frame : Frame) (w : State) (left : ℕ) → Ready frame w → left ≤ n → Ready frame (record w { left = left })
  step_on frame w left r b = stepped p whole n depth number f there calls loops result lie K covered frame w left r b

  value_keeps_it : (scope : List ℕ) (v : PlainValue) → IsWholeValue (around (here scope false false)) v → (env : Environment) (head : List Held) (frame : Frame) (w : State) → failing_in calls v env ≡ [] → Ready frame w → Describes f.variables env head frame.held → ValueKeeps s K frame.held v w
  value_keeps_it scope v i env head frame w none r d = value_kept p whole n depth number f there calls loops result lie K covered scope v i env head frame w none r d

  -- ## `if`

  if_then_keeps : (scope : List ℕ) (at : At) (v : PlainValue) (x : PlainStatement) → IsTest (around (here scope false false)) v → KeepsIt x → (env : Environment) → IsBefore f.variables (declared_in x) env → NoneFails (pass_statement m (statement at (if_then v x)) env) → MadeUp (pass_statement m (statement at (if_then v x)) env).weak →
      (head : List Held) (frame : Frame) (w : State) → Ready frame w → Describes f.variables env head frame.held → StatementKeeps c s K (statement at (if_then v x)) frame w
  if_then_keeps scope at v x i keeps env before none weak head frame w r d =
      let names : List Span = failing_in calls v env in
      let o : Option Environment = known_where true env (assess calls v env) in
      let a : Left = where_going o (λ env. pass_statement m x env) in
      let z : Left = reached (known_where false env (assess calls v env)) in
      after_step n w (λ w. ValueKeeps s K frame.held v w × OnGives (λ x2 w. is_true x2 ≡ true → StatementKeeps c s K x frame w) (evaluate s frame.held v w)) r.left (λ left less. (
        value_keeps_it scope v i.whole env head frame (record w { left = left }) (calls_none names (beside a z) none) (step_on frame w left r less) d,
        after_value scope v i.whole env head frame (record w { left = left }) (calls_none names (beside a z) none) (step_on frame w left r less) d (λ x2 w. is_true x2 ≡ true → StatementKeeps c s K x frame w) (λ x2 w h q.
            entered_keeps x keeps o (branch_before (declared_in x) env before o (assessed_scope calls true v env)) (followed_none_left a z (beside_none a z (calls_rest names (beside a z) none))) (made_left a.weak z.weak weak) head frame w h.ready
            (known_as env head frame.held v x2 true q h.found.known)),
      ))

  if_else_keeps : (scope : List ℕ) (at : At) (v : PlainValue) (x y : PlainStatement) → IsTest (around (here scope false false)) v → KeepsIt x → KeepsIt y → (env : Environment) → IsBefore f.variables (declared_in x ++ declared_in y) env → NoneFails (pass_statement m (statement at (if_else v x y)) env) → MadeUp (pass_statement m (statement at (if_else v x y)) env).weak →
      (head : List Held) (frame : Frame) (w : State) → Ready frame w → Describes f.variables env head frame.held → StatementKeeps c s K (statement at (if_else v x y)) frame w
  if_else_keeps scope at v x y i keeps otherwise env before none weak head frame w r d =
      let names : List Span = failing_in calls v env in
      let o : Option Environment = known_where true env (assess calls v env) in
      let u : Option Environment = known_where false env (assess calls v env) in
      let a : Left = where_going o (λ env. pass_statement m x env) in
      let z : Left = where_going u (λ env. pass_statement m y env) in
      let both : NoneFails (followed a z) = beside_none a z (calls_rest names (beside a z) none) in
      after_step n w (λ w. ValueKeeps s K frame.held v w × OnGives (λ x2 w. (is_true x2 ≡ true → StatementKeeps c s K x frame w) × (is_true x2 ≡ false → StatementKeeps c s K y frame w)) (evaluate s frame.held v w)) r.left (λ left less. (
        value_keeps_it scope v i.whole env head frame (record w { left = left }) (calls_none names (beside a z) none) (step_on frame w left r less) d,
        after_value scope v i.whole env head frame (record w { left = left }) (calls_none names (beside a z) none) (step_on frame w left r less) d
            (λ x2 w. (is_true x2 ≡ true → StatementKeeps c s K x frame w) × (is_true x2 ≡ false → StatementKeeps c s K y frame w)) (λ x2 w h. (
              λ q. entered_keeps x keeps o (branch_before (declared_in x) env (before_left f.variables (declared_in x) (declared_in y) env before) o (assessed_scope calls true v env)) (followed_none_left a z both) (made_left a.weak z.weak weak) head frame w h.ready
                  (known_as env head frame.held v x2 true q h.found.known),
              λ q. entered_keeps y otherwise u (branch_before (declared_in y) env (before_right f.variables (declared_in x) (declared_in y) env before) u (assessed_scope calls false v env)) (followed_none_right a z both) (made_right a.weak z.weak weak) head frame w h.ready
                  (known_as env head frame.held v x2 false q h.found.known),
            )),
      ))

  -- ## Loops

  loop_keeps : (scope : List ℕ) (l b : Bool) (at : At) (head : LoopHead) (first : PlainStatements) (tested : Option PlainValue) (third : PlainStatements) (body : PlainStatement) → IsWholeStatement (here scope l b) (statement at (loop head first tested third body)) →
      KeepAll first → KeepAll third → KeepsIt body → AreCounted f ls (loop_trees (statement at (loop head first tested third body))) → (env : Environment) → IsBefore f.variables (declared_of first ++ declared_in body) env → NoneFails (pass_statement m (statement at (loop head first tested third body)) env) →
      MadeUp (pass_statement m (statement at (loop head first tested third body)) env).weak → (outer : List Held) (frame : Frame) (w : State) → Ready frame w → Describes f.variables env outer frame.held → StatementKeeps c s K (statement at (loop head first tested third body)) frame w
  loop_keeps scope l b at head first tested third body i first_keeps third_keeps body_keeps counted env before none weak outer frame w r d =
      after_step n w (λ w. StatementsKeep c s K 0 first (record frame { opened = [] }) w × OnGives (λ (d : Done) w. OnNormal d.flow (Kept d.frame w)) (execute_from s 0 first (record frame { opened = [] }) w)) r.left (λ left less.
      let ready : Ready (record frame { opened = [] }) (record w { left = left }) = fresh_block p whole n depth number f there calls loops result lie frame (record w { left = left }) (step_on frame w left r less) in (
        first_keeps env first_before (followed_none_left first_left (where_going first_left.normal after_first) all) (made_left first_left.weak (where_going first_left.normal after_first).weak weak) outer (record frame { opened = [] }) (record w { left = left }) ready d,
        record {
          given = holds_weaker (WentBy first_left outer) (λ (d : Done) w. OnNormal d.flow (Kept d.frame w)) (execute_from s 0 first (record frame { opened = [] }) (record w { left = left }))
              (statements_go p whole n depth number f there calls loops result lie first scope l b i.0 env first_before (followed_none_left first_left (where_going first_left.normal after_first) all) outer (record frame { opened = [] }) (record w { left = left }) ready d)
              (λ g w h. on_normal g.flow g.frame w h.ready h.as_said);
        },
      ))
    where
      tree : LoopTree
      tree = record { head = head; first = first; tested = tested; third = third; body = body }

      Kept : Frame → State → Type 0
      Kept frame w = LoopKeeps head.keyword (turns_claimed (slice_get ls head.number)) (test s tested) (round s third body) (TestKeeps s K tested)
          (λ frame w. StatementKeeps c s K body frame w × OnGives (λ (d : Done) w. OnBack d.flow (StatementsKeep c s K 0 third d.frame w)) (execute s body frame w)) frame w

      inner : List ℕ
      inner = scope_after_all first scope

      first_left : Left
      first_left = pass_statements m first env

      after_first : Environment → Left
      after_first entry = loop_left m (loop_claimed ls head.number) head (λ k. form_assigns k (loop head first tested third body)) entry
          (round_of m head.keyword tested (λ env. pass_statements m third env) (λ env. pass_statement m body env) (head_of (loop_claimed ls head.number) f.variables entry))

      all : NoneFails (followed first_left (where_going first_left.normal after_first))
      all = block_none first (followed first_left (where_going first_left.normal after_first)) none

      first_before : IsBefore f.variables (declared_of first) env
      first_before = before_left f.variables (declared_of first) (declared_in body) env before

      firsts : EndsScoped f.variables (λ k. declares_at_top k first) env first_left
      firsts = statements_scoped f.variables calls loops result (here scope l b) first i.0 env first_before

      third_whole : AreWholeStatements (here inner l b) third
      third_whole = subst (λ r. AreWholeStatements r third) (after_all_here p whole n depth number f there calls loops result lie first scope l b) i.2

      body_whole : IsWholeStatement (here inner true b) body
      body_whole = subst (λ (r : Region). IsWholeStatement (record r { in_loop = true }) body) (after_all_here p whole n depth number f there calls loops result lie first scope l b) i.3

      third_quietly : (env : Environment) → IsBefore f.variables (declared_of third) env → NoneFails (pass_statements m third env) → (head : List Held) (frame : Frame) (w : State) → Ready frame w → Describes f.variables env head frame.held → StatementsKeep c s K 0 third frame w
      third_quietly env before none inside frame w r d =
          third_keeps env before none (made_none (pass_statements m third env).weak (expressions_quiet m third (third_expressions head.keyword first tested third i.4) env).weak) inside frame w r d

      claimed : (entry : Environment) → IsBefore f.variables (declared_in body) entry → NoneFails (after_first entry) → MadeUp (after_first entry).weak → (frame : Frame) (w : State) → Ready frame w → Describes f.variables entry outer frame.held → Kept frame w
      claimed entry fresh none weak frame w r d =
          subst (λ (k : ℕ). LoopKeeps head.keyword k (test s tested) (round s third body) (TestKeeps s K tested) (λ frame w. StatementKeeps c s K body frame w × OnGives (λ (d : Done) w. OnBack d.flow (StatementsKeep c s K 0 third d.frame w)) (execute s body frame w)) frame w) (turns_same ls head.number)
          (claimed_kept p whole n depth number f there calls ls result lie K covered c refl scope l b at head first tested third body i inner
          (subst (λ r. IsMaybeTest (around r) tested) (after_all_here p whole n depth number f there calls loops result lie first scope l b) i.1) third_whole body_whole i.4 i.5
          (λ env before none head frame w r d. statement_goes p whole n depth number f there calls loops result lie body inner true b body_whole env before none head frame w r d)
          (λ env before none head frame w r d. statements_go p whole n depth number f there calls loops result lie third inner l b third_whole env before none head frame w r d)
          body_keeps third_quietly (counted.among tree (Contains-append_left (tree ∷ []) (loop_trees body) tree (Contains-push [] tree))) (counted.no_task tree (Contains-append_left (tree ∷ []) (loop_trees body) tree (Contains-push [] tree)))
          entry fresh outer frame d none weak w r)

      going : (frame : Frame) (w : State) → Ready frame w → (o : Option Environment) → MaybeScoped f.variables (λ k. declares_at_top k first) env o → NoneFails (where_going o after_first) → MadeUp (where_going o after_first).weak → MaybeDescribes f.variables o outer frame.held → Kept frame w
      going frame w r None scoped none weak d = absurd d
      going frame w r (Some entry) scoped none weak d = claimed entry (before_body f.variables first (declared_in body) env entry before scoped) none weak frame w r d

      on_normal : (flow : Flow) (frame : Frame) (w : State) → Ready frame w → LeavesAs f.variables m first_left outer flow frame.held → OnNormal flow (Kept frame w)
      on_normal normal frame w r h = going frame w r first_left.normal firsts.normal (followed_none_right first_left (where_going first_left.normal after_first) all) (made_right first_left.weak (where_going first_left.normal after_first).weak weak) h
      on_normal broken frame w r h = tt
      on_normal continued frame w r h = tt
      on_normal (returned x) frame w r h = tt

  -- ## `switch`

  passed_left : (b : Bool) (a : Left) → b ≡ true → NoneFails (if b then a else nowhere) → NoneFails a
  passed_left b a e h = subst (λ b. NoneFails (if b then a else nowhere)) e h

  passed_weak : (b : Bool) (a : Left) → b ≡ true → MadeUp (if b then a else nowhere).weak → MadeUp a.weak
  passed_weak b a e h = subst (λ b. MadeUp (if b then a else nowhere).weak) e h

  switch_keeps : (scope : List ℕ) (at at2 : At) (keyword : Span) (v : PlainValue) (labels : PlainLabels) (xs : PlainStatements) → Switches (around (here scope false false)) v labels (statement at2 (block xs)) → (env : Environment) → NoneFails (pass_statement m (statement at (switch keyword v labels (statement at2 (block xs)))) env) →
      MadeUp (pass_statement m (statement at (switch keyword v labels (statement at2 (block xs)))) env).weak → (head : List Held) (frame : Frame) (w : State) → Ready frame w → Describes f.variables env head frame.held →
      (NoneFails (pass_from m labels 0 xs env None) → MadeUp (pass_from m labels 0 xs env None).weak → (k : ℕ) → IsEntry labels (length (statements_list xs)) k → (w : State) → Ready (record frame { opened = [] }) w → StatementsKeep c s K k xs (record frame { opened = [] }) w) →
      StatementKeeps c s K (statement at (switch keyword v labels (statement at2 (block xs)))) frame w
  switch_keeps scope at at2 keyword v labels xs i env none weak head frame w r d enters =
      let names : List Span = failing_in calls v env in
      let a : Left = switch_left labels env (as_block xs (pass_from m labels 0 xs env None)) in
      let passed : Left = if has_value calls v env then a else nowhere in
      after_step n w (λ w. ValueKeeps s K frame.held v w × OnGives (λ x w. EnteredKeeps c s K (labelled (number_of x) labels.cases labels.otherwise) (statement at2 (block xs)) frame w) (evaluate s frame.held v w)) r.left (λ left less. (
        value_keeps_it scope v i.whole env head frame (record w { left = left }) (calls_none names passed none) (step_on frame w left r less) d,
        after_value scope v i.whole env head frame (record w { left = left }) (calls_none names passed none) (step_on frame w left r less) d (λ x w. EnteredKeeps c s K (labelled (number_of x) labels.cases labels.otherwise) (statement at2 (block xs)) frame w) (λ x w h.
            let inside : NoneFails a = passed_left (has_value calls v env) a h.found.has (calls_rest names passed none) in
            by_case w h.ready (labelled (number_of x) labels.cases labels.otherwise) (λ k e. entry_is i.kind 0 (length (statements_list xs)) [] labels.cases labels.otherwise (number_of x) k i.cases i.otherwise e)
            (record { arguments = inside.arguments; results = inside.results; entries = inside.entries; backs = inside.backs }) (passed_weak (has_value calls v env) a h.found.has weak)),
      ))
    where
      by_case : (w : State) → Ready frame w → (o : Option ℕ) → ((k : ℕ) → o ≡ Some k → IsEntry labels (length (statements_list xs)) k) → NoneFails (pass_from m labels 0 xs env None) → MadeUp (pass_from m labels 0 xs env None).weak → EnteredKeeps c s K o (statement at2 (block xs)) frame w
      by_case w r None h none weak = tt
      by_case w r (Some k) h none weak = enters none weak k (h k refl) w (fresh_block p whole n depth number f there calls loops result lie frame w r)

  -- a body that is no block isn't entered
  other_switch_keeps : (scope : List ℕ) (at : At) (keyword : Span) (v : PlainValue) (labels : PlainLabels) (body : PlainStatement) → IsWholeValue (around (here scope false false)) v → (env : Environment) → NoneFails (pass_statement m (statement at (switch keyword v labels body)) env) → (head : List Held) (frame : Frame) (w : State) → Ready frame w → Describes f.variables env head frame.held →
      ((k : Option ℕ) (w : State) → EnteredKeeps c s K k body frame w) → StatementKeeps c s K (statement at (switch keyword v labels body)) frame w
  other_switch_keeps scope at keyword v labels body i env none head frame w r d entered =
      let names : List Span = failing_in calls v env in
      let passed : Left = if has_value calls v env then pass_switch m labels body env else nowhere in
      after_step n w (λ w. ValueKeeps s K frame.held v w × OnGives (λ x w. EnteredKeeps c s K (labelled (number_of x) labels.cases labels.otherwise) body frame w) (evaluate s frame.held v w)) r.left (λ left less. (
        value_keeps_it scope v i env head frame (record w { left = left }) (calls_none names passed none) (step_on frame w left r less) d,
        after_value scope v i env head frame (record w { left = left }) (calls_none names passed none) (step_on frame w left r less) d (λ x w. EnteredKeeps c s K (labelled (number_of x) labels.cases labels.otherwise) body frame w) (λ x w h. entered (labelled (number_of x) labels.cases labels.otherwise) w),
      ))

  -- ## Items in order

  -- where execution goes on with the next statement
  on_normal_maybe : (a : Left) (head : List Held) (flow : Flow) (frame : Frame) (w : State) (P : Type 0) → Ready frame w → LeavesAs f.variables m a head flow frame.held → (Ready frame w → MaybeDescribes f.variables a.normal head frame.held → P) → OnNormal flow P
  on_normal_maybe a head normal frame w P r h k = k r h
  on_normal_maybe a head broken frame w P r h k = tt
  on_normal_maybe a head continued frame w P r h k = tt
  on_normal_maybe a head (returned x) frame w P r h k = tt

  -- what follows a statement, where states come
  rest_keeps : (x : PlainStatement) (rest : PlainStatements) → KeepAll rest → (env : Environment) → IsBefore f.variables (declared_in x ++ declared_of rest) env → (o : Option Environment) → MaybeScoped f.variables (λ k. declares_here k x) env o → NoneFails (where_going o (λ env. pass_statements m rest env)) →
      MadeUp (where_going o (λ env. pass_statements m rest env)).weak → (head : List Held) (frame : Frame) (w : State) → Ready frame w → MaybeDescribes f.variables o head frame.held → StatementsKeep c s K 0 rest frame w
  rest_keeps x rest keeps env before None scoped none weak head frame w r d = absurd d
  rest_keeps x rest keeps env before (Some e) scoped none weak head frame w r d = keeps e (before_rest f.variables x rest env e before scoped) none weak head frame w r d

  mutual
    statement_keeps : (x : PlainStatement) (scope : List ℕ) (l b : Bool) → IsWholeStatement (here scope l b) x → AreCounted f ls (loop_trees x) → (env : Environment) → IsBefore f.variables (declared_in x) env → NoneFails (pass_statement m x env) → MadeUp (pass_statement m x env).weak →
        (head : List Held) (frame : Frame) (w : State) → Ready frame w → Describes f.variables env head frame.held → StatementKeeps c s K x frame w
    statement_keeps (statement at (set q v)) scope l b i counted env before none weak head frame w r d = set_kept p whole n depth number f there calls loops result lie K covered c scope at q v i env none head frame w r d
    statement_keeps (statement at (update kind op t q v)) scope l b i counted env before none weak head frame w r d = update_kept p whole n depth number f there calls loops result lie K covered c scope at kind op t q v i env none head frame w r d
    statement_keeps (statement at (copy q z)) scope l b i counted env before none weak head frame w r d = copy_kept p whole n depth number f there calls loops result lie K covered c scope at q z i env none head frame w r d
    statement_keeps (statement at (expression v)) scope l b i counted env before none weak head frame w r d =
        stepped_value p whole n depth number f there calls loops result lie K covered scope v i env head frame w (calls_none (failing_in calls v env) (reached (if has_value calls v env then Some env else None)) none) r d
    statement_keeps (statement at (asserts call v)) scope l b i counted env before none weak head frame w r d =
        stepped_value p whole n depth number f there calls loops result lie K covered scope v i.whole env head frame w (calls_none (failing_in calls v env) (reached (known_where true env (assess calls v env))) none) r d
    statement_keeps (statement at (declare k initializer)) scope l b i counted env before none weak head frame w r d = declare_kept p whole n depth number f there calls loops result lie K covered scope l b at k initializer i env before none head frame w r d
    statement_keeps (statement at (declare_static k)) scope l b i counted env before none weak head frame w r d = tt
    statement_keeps (statement at (block xs)) scope l b i counted env before none weak head frame w r d =
        statements_keep_all xs scope l b i counted env before (block_none xs (pass_statements m xs env) none) weak head (record frame { opened = [] }) w (fresh_block p whole n depth number f there calls loops result lie frame w r) d
    statement_keeps (statement at (if_then v x)) scope l b i counted env before none weak head frame w r d =
        if_then_keeps scope at v x i.0 (λ env before none weak head frame w r d. statement_keeps x scope l b i.1 counted env before none weak head frame w r d) env before none weak head frame w r d
    statement_keeps (statement at (if_else v x y)) scope l b i counted env before none weak head frame w r d =
        if_else_keeps scope at v x y i.0 (λ env before none weak head frame w r d. statement_keeps x scope l b i.1 (counted_left f ls (loop_trees x) (loop_trees y) counted) env before none weak head frame w r d)
        (λ env before none weak head frame w r d. statement_keeps y scope l b i.2 (counted_right f ls (loop_trees x) (loop_trees y) counted) env before none weak head frame w r d) env before none weak head frame w r d
    statement_keeps (statement at (loop keyword first tested third body)) scope l b i counted env before none weak head frame w r d =
        loop_keeps scope l b at keyword first tested third body i
        (λ env before none weak head frame w r d. statements_keep_all first scope l b i.0 (counted_none f ls (trees_among first) (clauses_trees first (first_clauses keyword.keyword first tested third i.4))) env before none weak head frame w r d)
        (λ env before none weak head frame w r d. statements_keep_all third (scope_after_all first scope) l b (subst (λ r. AreWholeStatements r third) (after_all_here p whole n depth number f there calls loops result lie first scope l b) i.2)
        (counted_none f ls (trees_among third) (clauses_trees third (expression_clauses third (third_expressions keyword.keyword first tested third i.4)))) env before none weak head frame w r d)
        (λ env before none weak head frame w r d. statement_keeps body (scope_after_all first scope) true b (subst (λ (r : Region). IsWholeStatement (record r { in_loop = true }) body) (after_all_here p whole n depth number f there calls loops result lie first scope l b) i.3)
        (counted_right f ls (record { head = keyword; first = first; tested = tested; third = third; body = body } ∷ []) (loop_trees body) counted) env before none weak head frame w r d)
        counted env before none weak head frame w r d
    statement_keeps (statement at (switch keyword v labels (statement at2 (block xs)))) scope l b i counted env before none weak head frame w r d =
        switch_keeps scope at at2 keyword v labels xs i.0 env none weak head frame w r d (λ none weak k e w r.
        entering_keeps labels 0 k xs scope l true i.1 i.0.declares_nothing counted env before None tt none weak (subst (λ (j : ℕ). is_labelled j labels ≡ true) (from_none k) e.labelled_is) e.there head (record frame { opened = [] }) w r d)
      where
        from_none : (k : ℕ) → k ≡ 0 + k
        from_none k = omega arith
    statement_keeps (statement at (switch keyword v labels body)) scope l b i counted env before none weak head frame w r d =
        other_switch_keeps scope at keyword v labels body i.0.whole env none head frame w r d (λ k w. elim k as (λ k. EnteredKeeps c s K k body frame w) [ None ↦ tt | Some j ↦ tt ])
    statement_keeps (statement at break) scope l b i counted env before none weak head frame w r d = tt
    statement_keeps (statement at continue) scope l b i counted env before none weak head frame w r d = tt
    statement_keeps (statement at (return keyword v)) scope l b i counted env before none weak head frame w r d = return_kept p whole n depth number f there calls loops result lie K covered scope at keyword v i env none head frame w r d
    statement_keeps (statement at empty) scope l b i counted env before none weak head frame w r d = tt
    statement_keeps (statement at (mark kind)) scope l b i counted env before none weak head frame w r d = tt

    pub statements_keep_all : (xs : PlainStatements) (scope : List ℕ) (l b : Bool) → AreWholeStatements (here scope l b) xs → AreCounted f ls (trees_among xs) → (env : Environment) → IsBefore f.variables (declared_of xs) env → NoneFails (pass_statements m xs env) → MadeUp (pass_statements m xs env).weak →
        (head : List Held) (frame : Frame) (w : State) → Ready frame w → Describes f.variables env head frame.held → StatementsKeep c s K 0 xs frame w
    statements_keep_all no_statements scope l b i counted env before none weak head frame w r d = tt
    statements_keep_all (more_statements x rest) scope l b i counted env before none weak head frame w r d =
        let a : Left = pass_statement m x env in
        let go : Environment → Left = λ env. pass_statements m rest env in
        let z : Left = where_going a.normal go in
        let first : IsBefore f.variables (declared_in x) env = before_left f.variables (declared_in x) (declared_of rest) env before in (
          statement_keeps x scope l b i.0 (counted_left f ls (loop_trees x) (trees_among rest) counted) env first (followed_none_left a z none) (made_left a.weak z.weak weak) head frame w r d,
          record {
            given = holds_weaker (WentBy a head) (λ (d : Done) w. OnNormal d.flow (StatementsKeep c s K zero rest d.frame w)) (execute s x frame w) (statement_goes p whole n depth number f there calls loops result lie x scope l b i.0 env first (followed_none_left a z none) head frame w r d) (λ e w h.
                on_normal_maybe a head e.flow e.frame w (StatementsKeep c s K zero rest e.frame w) h.ready h.as_said (λ r d.
                rest_keeps x rest (λ env before none weak head frame w r d. statements_keep_all rest (scope_after x scope) l b (subst (λ r. AreWholeStatements r rest) (after_here p whole n depth number f there calls loops result lie x scope l b) i.1) (counted_right f ls (loop_trees x) (trees_among rest) counted) env before none weak head frame w r d)
                env before a.normal (statement_scoped f.variables calls loops result (here scope l b) x i.0 env first).normal (followed_none_right a z none) (made_right a.weak z.weak weak) head e.frame w r d));
          },
        )

    -- the items of a `switch` from one on that is reached from before
    running_keeps : (labels : PlainLabels) (k : ℕ) (xs : PlainStatements) (scope : List ℕ) (l b : Bool) → AreWholeStatements (here scope l b) xs → All (λ s. is_declaration s ≡ false) (statements_list xs) → AreCounted f ls (trees_among xs) → (env : Environment) → IsBefore f.variables (declared_of xs) env → (before : Option Environment) →
        MaybeScoped f.variables nothing env before → NoneFails (pass_from m labels k xs env before) → MadeUp (pass_from m labels k xs env before).weak → (head : List Held) (frame : Frame) (w : State) → Ready frame w → MaybeDescribes f.variables before head frame.held → StatementsKeep c s K 0 xs frame w
    running_keeps labels k no_statements scope l b i plain counted env fresh before scoped none weak head frame w r d = tt
    running_keeps labels k (more_statements x rest) scope l b i plain counted env fresh before scoped none weak head frame w r d =
        let enters : Option Environment = if is_labelled k labels then hull_reached before (Some env) else before in
        let a : Left = where_going enters (λ env. pass_statement m x env) in
        let z : Left = pass_from m labels (suc k) rest env a.normal in
        let first : IsBefore f.variables (declared_in x) env = before_left f.variables (declared_in x) (declared_of rest) env fresh in
        let enters_scoped : MaybeScoped f.variables nothing env enters = entry_scoped p whole n depth number f there calls loops result lie (is_labelled k labels) before env scoped fresh.knows in
        let a_scoped : MaybeScoped f.variables nothing env a.normal = (item_scoped f.variables calls loops result (here scope l b) x i.0 (All-head (λ s. is_declaration s ≡ false) x (statements_list rest) plain) env first enters enters_scoped).normal in
        let known_there : MaybeDescribes f.variables enters head frame.held = if_before p whole n depth number f there calls loops result lie (is_labelled k labels) before env head frame.held d in (
          entered_keeps x (λ env before none weak head frame w r d. statement_keeps x scope l b i.0 (counted_left f ls (loop_trees x) (trees_among rest) counted) env before none weak head frame w r d) enters (item_before (declared_in x) env first enters enters_scoped) (followed_none_left a z none) (made_left a.weak z.weak weak) head frame w r known_there,
          record {
            given = holds_weaker (WentBy a head) (λ (d : Done) w. OnNormal d.flow (StatementsKeep c s K zero rest d.frame w)) (execute s x frame w)
                (item_goes p whole n depth number f there calls loops result lie x (λ env before none head frame w r d. statement_goes p whole n depth number f there calls loops result lie x scope l b i.0 env before none head frame w r d) enters env enters_scoped first (followed_none_left a z none) head frame w r known_there) (λ e w h.
                on_normal_maybe a head e.flow e.frame w (StatementsKeep c s K zero rest e.frame w) h.ready h.as_said (λ r d.
                running_keeps labels (suc k) rest (scope_after x scope) l b (subst (λ r. AreWholeStatements r rest) (after_here p whole n depth number f there calls loops result lie x scope l b) i.1) (All-tail (λ s. is_declaration s ≡ false) x (statements_list rest) plain)
                (counted_right f ls (loop_trees x) (trees_among rest) counted) env (before_right f.variables (declared_in x) (declared_of rest) env fresh) a.normal a_scoped (followed_none_right a z none) (made_right a.weak z.weak weak) head e.frame w r d));
          },
        )

    -- the items of a `switch` from the one that is entered by its label
    entering_keeps : (labels : PlainLabels) (k j : ℕ) (xs : PlainStatements) (scope : List ℕ) (l b : Bool) → AreWholeStatements (here scope l b) xs → All (λ s. is_declaration s ≡ false) (statements_list xs) → AreCounted f ls (trees_among xs) → (env : Environment) → IsBefore f.variables (declared_of xs) env → (before : Option Environment) →
        MaybeScoped f.variables nothing env before → NoneFails (pass_from m labels k xs env before) → MadeUp (pass_from m labels k xs env before).weak → is_labelled (k + j) labels ≡ true → j < length (statements_list xs) → (head : List Held) (frame : Frame) (w : State) → Ready frame w → Describes f.variables env head frame.held →
        StatementsKeep c s K j xs frame w
    entering_keeps labels k j no_statements scope l b i plain counted env fresh before scoped none weak e lt head frame w r d = absurd (none_there p whole n depth number f there calls loops result lie j lt)
    entering_keeps labels k zero (more_statements x rest) scope l b i plain counted env fresh before scoped none weak e lt head frame w r d =
        let enters : Option Environment = if is_labelled k labels then hull_reached before (Some env) else before in
        let a : Left = where_going enters (λ env. pass_statement m x env) in
        let z : Left = pass_from m labels (suc k) rest env a.normal in
        let first : IsBefore f.variables (declared_in x) env = before_left f.variables (declared_in x) (declared_of rest) env fresh in
        let enters_scoped : MaybeScoped f.variables nothing env enters = entry_scoped p whole n depth number f there calls loops result lie (is_labelled k labels) before env scoped fresh.knows in
        let a_scoped : MaybeScoped f.variables nothing env a.normal = (item_scoped f.variables calls loops result (here scope l b) x i.0 (All-head (λ s. is_declaration s ≡ false) x (statements_list rest) plain) env first enters enters_scoped).normal in
        let known_there : MaybeDescribes f.variables enters head frame.held = if_entered p whole n depth number f there calls loops result lie (is_labelled k labels) before env head frame.held (entered_from p whole n depth number f there calls loops result lie labels k e) d in (
          entered_keeps x (λ env before none weak head frame w r d. statement_keeps x scope l b i.0 (counted_left f ls (loop_trees x) (trees_among rest) counted) env before none weak head frame w r d) enters (item_before (declared_in x) env first enters enters_scoped) (followed_none_left a z none) (made_left a.weak z.weak weak) head frame w r known_there,
          record {
            given = holds_weaker (WentBy a head) (λ (d : Done) w. OnNormal d.flow (StatementsKeep c s K zero rest d.frame w)) (execute s x frame w)
                (item_goes p whole n depth number f there calls loops result lie x (λ env before none head frame w r d. statement_goes p whole n depth number f there calls loops result lie x scope l b i.0 env before none head frame w r d) enters env enters_scoped first (followed_none_left a z none) head frame w r known_there) (λ e w h.
                on_normal_maybe a head e.flow e.frame w (StatementsKeep c s K zero rest e.frame w) h.ready h.as_said (λ r d.
                running_keeps labels (suc k) rest (scope_after x scope) l b (subst (λ r. AreWholeStatements r rest) (after_here p whole n depth number f there calls loops result lie x scope l b) i.1) (All-tail (λ s. is_declaration s ≡ false) x (statements_list rest) plain)
                (counted_right f ls (loop_trees x) (trees_among rest) counted) env (before_right f.variables (declared_in x) (declared_of rest) env fresh) a.normal a_scoped (followed_none_right a z none) (made_right a.weak z.weak weak) head e.frame w r d));
          },
        )
    entering_keeps labels k (suc j) (more_statements x rest) scope l b i plain counted env fresh before scoped none weak e lt head frame w r d =
        let enters : Option Environment = if is_labelled k labels then hull_reached before (Some env) else before in
        let a : Left = where_going enters (λ env. pass_statement m x env) in
        let z : Left = pass_from m labels (suc k) rest env a.normal in
        let first : IsBefore f.variables (declared_in x) env = before_left f.variables (declared_in x) (declared_of rest) env fresh in
        let enters_scoped : MaybeScoped f.variables nothing env enters = entry_scoped p whole n depth number f there calls loops result lie (is_labelled k labels) before env scoped fresh.knows in
        let a_scoped : MaybeScoped f.variables nothing env a.normal = (item_scoped f.variables calls loops result (here scope l b) x i.0 (All-head (λ s. is_declaration s ≡ false) x (statements_list rest) plain) env first enters enters_scoped).normal in
        entering_keeps labels (suc k) j rest (scope_after x scope) l b (subst (λ r. AreWholeStatements r rest) (after_here p whole n depth number f there calls loops result lie x scope l b) i.1) (All-tail (λ s. is_declaration s ≡ false) x (statements_list rest) plain)
        (counted_right f ls (loop_trees x) (trees_among rest) counted) env (before_right f.variables (declared_in x) (declared_of rest) env fresh) a.normal a_scoped (followed_none_right a z none) (made_right a.weak z.weak weak)
        (later_from p whole n depth number f there calls loops result lie labels k j e) (fewer p whole n depth number f there calls loops result lie j (length (statements_list rest)) lt) head frame w r d

-- ## The law

pub statements_keep : StatementsKeepTheirClaims
statements_keep p whole n depth number f there calls loops result functions lie scope l b x i env before none weak counted head frame w r d =
    statement_keeps p whole n depth number f there calls loops result functions lie (IsCoveredCall p calls n) (λ g xs w h. h) x scope l b i counted env before none weak head frame w r d
