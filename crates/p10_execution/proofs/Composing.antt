-- What is left by statements that have parts, where it is known what the parts leave.
use Rattle.std.proofs.Common.{◌≡◌, ℕ, zero, suc, ◌<◌, Bool, true, false, List, [], ◌++◌, refl, sym, subst, Option, Some, None, slice_get, length, ℤ}
use Rattle.std.specs.Prelude.{if◌then◌else◌, IfSome}
use Rattle.p10_base.specs.declared.span.Span.{Span}
use Rattle.p10_base.specs.declared.at.At.{At}
use Rattle.p10_int.specs.declared.types.IntType.{IntType}
use Rattle.p10_core.specs.Whole.{IsWholeValue}
use Rattle.p10_core.specs.declared.statements.LoopHead.{LoopHead}
use Rattle.p10_core.specs.Typed.{PlainValue, PlainLabels, PlainStatement, statement, block, if_then, if_else, loop, switch, PlainStatements, statements_list, PlainFunction, PlainProgram}
use Rattle.p10_core.specs.WholePrograms.{Switches, AreCases, Region, around, after, after_all, declared_in, declared_of, IsTest, IsMaybeTest, IsWholeStatement, AreWholeStatements, IsWholeProgram}
use Rattle.p10_cert.specs.Claims.{Value, Loop, Claims}
use Rattle.p10_meaning.specs.declared.pointers.Scalar.{Scalar}
use Rattle.p10_meaning.specs.States.{State, Progress, and_then}
use Rattle.p10_meaning.specs.Scalars.{number_of, is_true}
use Rattle.p10_meaning.specs.Values.{Setting, Held, evaluate}
use Rattle.p10_meaning.specs.Statements.{Frame, Flow, normal, broken, continued, returned, Done, goes, go_on, in_block, test, loop_by, labelled, from_label, after_switch, execute, execute_from, enter, round, looped}
use Rattle.p10_meaning.specs.Calling.{Depth, setting_of, call_at}
use Rattle.p10_meaning.specs.Sound.{region_at}
use Rattle.p10_meaning.proofs.LaidOut.{laid_out}
use Rattle.p10_meaning.proofs.SoundStatements.{scope_after, scope_after_all, after_is, after_all_is}
use Rattle.p10_meaning.proofs.SoundCalls.{few_variables, calls_keep}
use Rattle.p10_sums.specs.Keeping.{HoldsOf}
use Rattle.p10_absx.specs.Environments.{Environment}
use Rattle.p10_absx.specs.Assessing.{assess, known_where}
use Rattle.p10_absx.specs.Describing.{Describes, MaybeDescribes}
use Rattle.p10_pass.specs.Scopes.{form_assigns, assigned_forgotten}
use Rattle.p10_pass.specs.Claiming.{head_of, loop_claimed}
use Rattle.p10_pass.specs.Arguments.{has_value, failing_in}
use Rattle.p10_pass.specs.Passing.{Left, Manner, manner_in, nowhere, reached, where_going, followed, and_then_pass, beside, with_calls, as_block, by_claim, round_of, loop_left, switch_left, pass_statement, pass_statements, pass_switch, pass_from}
use Rattle.p10_evaluation.specs.Claimed.{ResultsLie}
use Rattle.p10_execution.specs.Scoping.{IsBefore}
use Rattle.p10_execution.specs.Standing.{StandsSoundly}
use Rattle.p10_execution.specs.Leaving.{NoneFails, LeavesAs}
use Rattle.p10_execution.proofs.Giving.{holds_step, holds_then, holds_if, holds_both, holds_weaker}
use Rattle.p10_execution.proofs.AssessedScopes.{MaybeSame, assessed_scope}
use Rattle.p10_execution.proofs.ScopedEnds.{nothing, MaybeScoped, EndsScoped, before_left, before_right, before_same, before_scoped, before_body}
use Rattle.p10_execution.proofs.TopDeclarations.{declares_at_top}
use Rattle.p10_execution.proofs.PassedScopes.{statements_scoped}
use Rattle.p10_execution.proofs.Ends.{followed_left, followed_right, followed_none_left, followed_none_right, beside_none, beside_left, beside_right, calls_none, calls_rest, block_none, with_calls_as, reached_as}
use Rattle.p10_execution.proofs.Parts.{ready_step, Left as LeftSoundly, statement_left, Valued, valued}
use Rattle.p10_execution.proofs.Looping.{Went}
use Rattle.p10_execution.proofs.LoopStatements.{block_says, going_says, claimed_says, trial_says}
use Rattle.p10_execution.proofs.Switching.{IsEntry, entry_is, no_entry, after_says, past_says}

if_none : (b : Bool) (x y : Left) → b ≡ true → NoneFails (if b then x else y) → NoneFails x
if_none b x y e h = subst (λ b. NoneFails (if b then x else y)) e h

claim_none : (o : Option (List Loop)) (trial : Left) (go : List Loop → Left) (ls : List Loop) → o ≡ Some ls → NoneFails (by_claim o trial go) → NoneFails (go ls)
claim_none o trial go ls e h = subst (λ o. NoneFails (by_claim o trial go)) e h

module _ (p : PlainProgram) (whole : IsWholeProgram p) (n : ℕ) (depth : Depth) (number : ℕ) (f : PlainFunction) (there : slice_get p.functions number ≡ Some f)
    (calls : Option Claims) (loops : Option (List Loop)) (result : Option Value) (lie : ResultsLie p calls n (call_at n p depth)) where
  abbrev pub s : Setting
  s = setting_of p n (call_at n p) depth f

  abbrev pub m : Manner
  m = manner_in f calls loops result

  abbrev pub here : List ℕ → Bool → Bool → Region
  here scope l b = region_at p number f scope l b

  abbrev pub Stand : Frame → State → Type 0
  Stand frame w = StandsSoundly p f.variables n frame w

  abbrev pub Says : Left → List Held → Done → State → Type 0
  Says a head d w = LeavesAs f.variables m a head d.flow d.frame.held

  abbrev pub WentOf : Left → List Held → Done → State → Type 0
  WentOf a head d w = Went p whole n depth number f there calls loops result lie a head d w

  -- what is to be shown of a statement, and of statements
  abbrev pub Goes : PlainStatement → Type 0
  Goes x = (env : Environment) → IsBefore f.variables (declared_in x) env → NoneFails (pass_statement m x env) → (head : List Held) (frame : Frame) (w : State) → Stand frame w → Describes f.variables env head frame.held → HoldsOf (WentOf (pass_statement m x env) head) (execute s x frame w)

  abbrev pub AllGo : PlainStatements → Type 0
  AllGo xs = (env : Environment) → IsBefore f.variables (declared_of xs) env → NoneFails (pass_statements m xs env) → (head : List Held) (frame : Frame) (w : State) → Stand frame w → Describes f.variables env head frame.held → HoldsOf (WentOf (pass_statements m xs env) head) (execute_from s 0 xs frame w)

  pub step_of : (frame : Frame) (w : State) (left : ℕ) → suc left ≡ w.left → Stand frame w → Stand frame (record w { left = left })
  step_of frame w left e r = ready_step p whole n depth number f there frame w left e r

  -- what stands round the statements after one
  pub after_here : (x : PlainStatement) (scope : List ℕ) (l b : Bool) → after (here scope l b) x ≡ here (scope_after x scope) l b
  after_here x scope l b = after_is p (laid_out p whole) whole (call_at n p depth) (calls_keep p whole n depth) n number f (few_variables p whole number f (whole.functions number f there)) x scope l b

  pub after_all_here : (xs : PlainStatements) (scope : List ℕ) (l b : Bool) → after_all (here scope l b) xs ≡ here (scope_after_all xs scope) l b
  after_all_here xs scope l b = after_all_is p (laid_out p whole) whole (call_at n p depth) (calls_keep p whole n depth) n number f (few_variables p whole number f (whole.functions number f there)) xs scope l b

  pub went : (scope : List ℕ) (l b : Bool) (x : PlainStatement) → IsWholeStatement (here scope l b) x → (a : Left) (head : List Held) (frame : Frame) (w : State) → Stand frame w → HoldsOf (Says a head) (execute s x frame w) → HoldsOf (WentOf a head) (execute s x frame w)
  went scope l b x i a head frame w r h = holds_weaker (λ (d : Done) w. LeftSoundly p whole n depth number f there d w × Says a head d w) (WentOf a head) (execute s x frame w)
      (holds_both (LeftSoundly p whole n depth number f there) (Says a head) (execute s x frame w) (statement_left p whole n depth number f there scope l b x i frame w r) h) (λ d w k. record { ready = k.0.ready; as_said = k.1 })

  said : (a : Left) (head : List Held) (o : Progress Done) → HoldsOf (WentOf a head) o → HoldsOf (Says a head) o
  said a head o h = holds_weaker (WentOf a head) (Says a head) o h (λ d w k. k.as_said)

  reached_here : (env : Environment) (head : List Held) (frame : Frame) → Describes f.variables env head frame.held → LeavesAs f.variables m (reached (Some env)) head normal frame.held
  reached_here env head frame d = d

  -- a branch, entered where a value is true or false
  pub branch_says : (x : PlainStatement) → Goes x → (o : Option Environment) (env : Environment) → MaybeSame env o → IsBefore f.variables (declared_in x) env → NoneFails (where_going o (λ env. pass_statement m x env)) → (head : List Held) (frame : Frame) (w : State) → Stand frame w → MaybeDescribes f.variables o head frame.held →
      HoldsOf (Says (where_going o (λ env. pass_statement m x env)) head) (execute s x frame w)
  branch_says x goes None env same before none head frame w r d = absurd d
  branch_says x goes (Some e) env same before none head frame w r d = said (pass_statement m x e) head (execute s x frame w) (goes e (before_same f.variables (declared_in x) env e before same) none head frame w r d)

  -- an item of a `switch`
  pub item_goes : (x : PlainStatement) → Goes x → (o : Option Environment) (env : Environment) → MaybeScoped f.variables nothing env o → IsBefore f.variables (declared_in x) env → NoneFails (where_going o (λ env. pass_statement m x env)) → (head : List Held) (frame : Frame) (w : State) → Stand frame w → MaybeDescribes f.variables o head frame.held →
      HoldsOf (WentOf (where_going o (λ env. pass_statement m x env)) head) (execute s x frame w)
  item_goes x goes None env scoped before none head frame w r d = absurd d
  item_goes x goes (Some e) env scoped before none head frame w r d = goes e (before_scoped f.variables nothing (declared_in x) env e before scoped (λ n o. refl)) none head frame w r d

  -- the items after one
  pub items_follow : (a c : Left) (head : List Held) (rest : PlainStatements) (d : Done) (w : State) → Says a head d w → ((frame : Frame) (w : State) → Stand frame w → MaybeDescribes f.variables a.normal head frame.held → HoldsOf (Says c head) (execute_from s 0 rest frame w)) → Stand d.frame w →
      HoldsOf (Says (followed a c) head) (go_on d.flow d.frame w (λ frame w. execute_from s zero rest frame w))
  items_follow a c head rest d w h k r = of d.flow d.frame h r
    where
      of : (flow : Flow) (frame : Frame) → LeavesAs f.variables m a head flow frame.held → Stand frame w → HoldsOf (Says (followed a c) head) (go_on flow frame w (λ frame w. execute_from s zero rest frame w))
      of normal frame h r = holds_weaker (Says c head) (Says (followed a c) head) (execute_from s zero rest frame w) (k frame w r h) (λ d w j. followed_right f.variables m head d.frame.held a c d.flow j)
      of broken frame h r = followed_left f.variables m head frame.held a c broken tt h
      of continued frame h r = followed_left f.variables m head frame.held a c continued tt h
      of (returned x) frame h r = followed_left f.variables m head frame.held a c (returned x) tt h

  -- a statement after its value
  abbrev ValueOf : Environment → List Held → PlainValue → Frame → Scalar → State → Type 0
  ValueOf env head v frame x w = Valued p whole n depth number f there calls lie env head v frame x w

  value_of : (scope : List ℕ) (v : PlainValue) → IsTest (around (here scope false false)) v → (env : Environment) (head : List Held) (frame : Frame) (w : State) → failing_in calls v env ≡ [] → Stand frame w → Describes f.variables env head frame.held → HoldsOf (ValueOf env head v frame) (evaluate s frame.held v w)
  value_of scope v i env head frame w none r d = valued p whole n depth number f there calls lie scope v i.whole env head frame w none r d

  -- what is known where a value is so true or false
  known_as : (env : Environment) (head held : List Held) (v : PlainValue) (x : Scalar) (t : Bool) → is_true x ≡ t → MaybeDescribes f.variables (known_where (is_true x) env (assess calls v env)) head held → MaybeDescribes f.variables (known_where t env (assess calls v env)) head held
  known_as env head held v x t e d = subst (λ t. MaybeDescribes f.variables (known_where t env (assess calls v env)) head held) e d

  pub calls_say : (names : List Span) (a : Left) (head : List Held) (o : Progress Done) → HoldsOf (Says a head) o → HoldsOf (Says (with_calls names a) head) o
  calls_say names a head o h = holds_weaker (Says a head) (Says (with_calls names a) head) o h (λ d w k. with_calls_as f.variables m head d.frame.held names a d.flow k)

  beside_says_left : (a c : Left) (head : List Held) (o : Progress Done) → HoldsOf (Says a head) o → HoldsOf (Says (beside a c) head) o
  beside_says_left a c head o h = holds_weaker (Says a head) (Says (beside a c) head) o h (λ d w k. beside_left f.variables m head d.frame.held a c d.flow k)

  beside_says_right : (a c : Left) (head : List Held) (o : Progress Done) → HoldsOf (Says c head) o → HoldsOf (Says (beside a c) head) o
  beside_says_right a c head o h = holds_weaker (Says c head) (Says (beside a c) head) o h (λ d w k. beside_right f.variables m head d.frame.held a c d.flow k)

  -- ## `if`

  pub if_then_says : (scope : List ℕ) (at : At) (v : PlainValue) (x : PlainStatement) → IsTest (around (here scope false false)) v → Goes x → (env : Environment) → IsBefore f.variables (declared_in x) env → NoneFails (pass_statement m (statement at (if_then v x)) env) → (head : List Held) (frame : Frame) (w : State) → Stand frame w → Describes f.variables env head frame.held →
      HoldsOf (Says (pass_statement m (statement at (if_then v x)) env) head) (execute s (statement at (if_then v x)) frame w)
  if_then_says scope at v x i goes env before none head frame w r d =
      let names : List Span = failing_in calls v env in
      let a : Left = where_going (known_where true env (assess calls v env)) (λ env. pass_statement m x env) in
      let c : Left = reached (known_where false env (assess calls v env)) in
      let inside : NoneFails a = followed_none_left a c (beside_none a c (calls_rest names (beside a c) none)) in
      calls_say names (beside a c) head (execute s (statement at (if_then v x)) frame w)
      (holds_step (Says (beside a c) head) w _ (λ left e.
      holds_then (ValueOf env head v frame) (Says (beside a c) head) (evaluate s frame.held v (record w { left = left })) _ (value_of scope v i env head frame (record w { left = left }) (calls_none names (beside a c) none) (step_of frame w left e r) d) (λ y w h.
      holds_if (Says (beside a c) head) (is_true y) _ _
      (λ q. beside_says_left a c head (execute s x frame w) (branch_says x goes (known_where true env (assess calls v env)) env (assessed_scope calls true v env) before inside head frame w h.ready (known_as env head frame.held v y true q h.found.known)))
      (λ q. beside_right f.variables m head frame.held a c normal (reached_as f.variables m head frame.held (known_where false env (assess calls v env)) normal (known_as env head frame.held v y false q h.found.known))))))

  pub if_else_says : (scope : List ℕ) (at : At) (v : PlainValue) (x z : PlainStatement) → IsTest (around (here scope false false)) v → Goes x → Goes z → (env : Environment) → IsBefore f.variables (declared_in x ++ declared_in z) env → NoneFails (pass_statement m (statement at (if_else v x z)) env) → (head : List Held) (frame : Frame) (w : State) → Stand frame w → Describes f.variables env head frame.held →
      HoldsOf (Says (pass_statement m (statement at (if_else v x z)) env) head) (execute s (statement at (if_else v x z)) frame w)
  if_else_says scope at v x z i goes otherwise env before none head frame w r d =
      let names : List Span = failing_in calls v env in
      let a : Left = where_going (known_where true env (assess calls v env)) (λ env. pass_statement m x env) in
      let c : Left = where_going (known_where false env (assess calls v env)) (λ env. pass_statement m z env) in
      let both : NoneFails (followed a c) = beside_none a c (calls_rest names (beside a c) none) in
      calls_say names (beside a c) head (execute s (statement at (if_else v x z)) frame w)
      (holds_step (Says (beside a c) head) w _ (λ left e.
      holds_then (ValueOf env head v frame) (Says (beside a c) head) (evaluate s frame.held v (record w { left = left })) _ (value_of scope v i env head frame (record w { left = left }) (calls_none names (beside a c) none) (step_of frame w left e r) d) (λ y w h.
      holds_if (Says (beside a c) head) (is_true y) _ _
      (λ q. beside_says_left a c head (execute s x frame w) (branch_says x goes (known_where true env (assess calls v env)) env (assessed_scope calls true v env) (before_left f.variables (declared_in x) (declared_in z) env before) (followed_none_left a c both) head frame w h.ready (known_as env head frame.held v y true q h.found.known)))
      (λ q. beside_says_right a c head (execute s z frame w) (branch_says z otherwise (known_where false env (assess calls v env)) env (assessed_scope calls false v env) (before_right f.variables (declared_in x) (declared_in z) env before) (followed_none_right a c both) head frame w h.ready (known_as env head frame.held v y false q h.found.known))))))

  -- ## Loops

  pub loop_says : (scope : List ℕ) (l b : Bool) (at : At) (head : LoopHead) (first : PlainStatements) (tested : Option PlainValue) (third : PlainStatements) (body : PlainStatement) → IsWholeStatement (here scope l b) (statement at (loop head first tested third body)) →
      AllGo first → AllGo third → Goes body → (env : Environment) → IsBefore f.variables (declared_of first ++ declared_in body) env → NoneFails (pass_statement m (statement at (loop head first tested third body)) env) → (outer : List Held) (frame : Frame) (w : State) → Stand frame w → Describes f.variables env outer frame.held →
      HoldsOf (Says (pass_statement m (statement at (loop head first tested third body)) env) outer) (execute s (statement at (loop head first tested third body)) frame w)
  loop_says scope l b at head first tested third body i first_goes third_goes body_goes env before none outer frame w r d = by_case loops refl
    where
      assigned : ℕ → Bool
      assigned k = form_assigns k (loop head first tested third body)

      trial : Left
      trial = reached (Some (assigned_forgotten assigned f.variables env))

      after_first : List Loop → Environment → Left
      after_first ls entry = loop_left m (loop_claimed ls head.number) head assigned entry (round_of m head.keyword tested (λ env. pass_statements m third env) (λ env. pass_statement m body env) (head_of (loop_claimed ls head.number) f.variables entry))

      claimed : List Loop → Left
      claimed ls = as_block first (and_then_pass (pass_statements m first env) (after_first ls))

      inner : List ℕ
      inner = scope_after_all first scope

      first_before : IsBefore f.variables (declared_of first) env
      first_before = before_left f.variables (declared_of first) (declared_in body) env before

      firsts : EndsScoped f.variables (λ k. declares_at_top k first) env (pass_statements m first env)
      firsts = statements_scoped f.variables calls loops result (here scope l b) first i.0 env first_before

      body_before : (entry : Environment) → (o : Option Environment) → o ≡ Some entry → MaybeScoped f.variables (λ k. declares_at_top k first) env o → IsBefore f.variables (declared_in body) entry
      body_before entry None e h = absurd cc
      body_before entry (Some a) e h = let same : a ≡ entry = cc in subst (λ e. IsBefore f.variables (declared_in body) e) same (before_body f.variables first (declared_in body) env a before h)

      run : (ls : List Loop) → NoneFails (claimed ls) → HoldsOf (Says (claimed ls) outer) (execute s (statement at (loop head first tested third body)) frame w)
      run ls none =
          let all : NoneFails (and_then_pass (pass_statements m first env) (after_first ls)) = block_none first (and_then_pass (pass_statements m first env) (after_first ls)) none in
          holds_step (Says (claimed ls) outer) w (λ w. in_block (looped s head.keyword first tested third body) frame w) (λ left e.
          block_says p whole n depth number f there calls loops result lie first (and_then_pass (pass_statements m first env) (after_first ls)) outer (looped s head.keyword first tested third body) frame (record w { left = left })
          (holds_then (WentOf (pass_statements m first env) outer) (Says (and_then_pass (pass_statements m first env) (after_first ls)) outer) (execute_from s 0 first (record frame { opened = [] }) (record w { left = left }))
          (λ d w. go_on d.flow d.frame w (λ frame w. loop_by head.keyword n (λ frame w. test s tested frame w) (round s third body) frame w))
          (first_goes env first_before (followed_none_left (pass_statements m first env) (where_going (pass_statements m first env).normal (after_first ls)) all) outer (record frame { opened = [] }) (record w { left = left })
          (record { kinds = r.kinds; sound = r.sound; fits = r.fits; in_frame = r.in_frame; left = (step_of frame w left e r).left }) d) (λ g w h.
          going_says p whole n depth number f there calls loops result lie (pass_statements m first env) (after_first ls) outer g w (λ frame w. loop_by head.keyword n (λ frame w. test s tested frame w) (round s third body) frame w) all h.as_said (λ entry q none described.
          claimed_says p whole n depth number f there calls loops result lie inner l b head first tested third body
          (subst (λ r. IsMaybeTest (around r) tested) (after_all_here first scope l b) i.1) (subst (λ r. AreWholeStatements r third) (after_all_here first scope l b) i.2)
          (subst (λ (r : Region). IsWholeStatement (record r { in_loop = true }) body) (after_all_here first scope l b) i.3) i.4 i.5 body_goes third_goes
          (loop_claimed ls head.number) entry (body_before entry (pass_statements m first env).normal q firsts.normal) outer g.frame described none w h.ready))))

      by_case : (o : Option (List Loop)) → loops ≡ o → HoldsOf (Says (by_claim loops trial claimed) outer) (execute s (statement at (loop head first tested third body)) frame w)
      by_case None e = subst (λ o. HoldsOf (Says (by_claim o trial claimed) outer) (execute s (statement at (loop head first tested third body)) frame w)) (sym e)
          (trial_says p whole n depth number f there calls loops result lie e scope l b at head first tested third body i i.4 env before outer frame w r d)
      by_case (Some ls) e = subst (λ o. HoldsOf (Says (by_claim o trial claimed) outer) (execute s (statement at (loop head first tested third body)) frame w)) (sym e) (run ls (claim_none loops trial claimed ls e none))

  -- ## Statements in order

  -- what follows a statement, where states come
  pub going_went : (a : Left) (go : Environment → Left) (head : List Held) (d : Done) (w : State) (rest : Frame → State → Progress Done) → NoneFails (and_then_pass a go) → WentOf a head d w →
      ((e : Environment) → a.normal ≡ Some e → NoneFails (go e) → Describes f.variables e head d.frame.held → HoldsOf (WentOf (go e) head) (rest d.frame w)) → HoldsOf (WentOf (and_then_pass a go) head) (go_on d.flow d.frame w rest)
  going_went a go head d w rest none h k = of d.flow d.frame h.ready h.as_said k
    where
      onward : (frame : Frame) (o : Option Environment) → a.normal ≡ o → MaybeDescribes f.variables o head frame.held → NoneFails (where_going o go) → ((e : Environment) → a.normal ≡ Some e → NoneFails (go e) → Describes f.variables e head frame.held → HoldsOf (WentOf (go e) head) (rest frame w)) →
          HoldsOf (WentOf (where_going o go) head) (rest frame w)
      onward frame None e h none k = absurd h
      onward frame (Some env) e h none k = k env e none h

      of : (flow : Flow) (frame : Frame) → Stand frame w → LeavesAs f.variables m a head flow frame.held → ((e : Environment) → a.normal ≡ Some e → NoneFails (go e) → Describes f.variables e head frame.held → HoldsOf (WentOf (go e) head) (rest frame w)) →
          HoldsOf (WentOf (and_then_pass a go) head) (go_on flow frame w rest)
      of normal frame r h k = holds_weaker (WentOf (where_going a.normal go) head) (WentOf (and_then_pass a go) head) (rest frame w) (onward frame a.normal refl h (followed_none_right a (where_going a.normal go) none) k)
          (λ d w j. record { ready = j.ready; as_said = followed_right f.variables m head d.frame.held a (where_going a.normal go) d.flow j.as_said })
      of broken frame r h k = record { ready = r; as_said = followed_left f.variables m head frame.held a (where_going a.normal go) broken tt h }
      of continued frame r h k = record { ready = r; as_said = followed_left f.variables m head frame.held a (where_going a.normal go) continued tt h }
      of (returned x) frame r h k = record { ready = r; as_said = followed_left f.variables m head frame.held a (where_going a.normal go) (returned x) tt h }

  -- ## `switch`

  -- after the value, where the body is a block
  switched : (labels : PlainLabels) (at : At) (xs : PlainStatements) (env : Environment) (head : List Held) (frame : Frame) (w : State) (z : ℤ) (kind : IntType) → AreCases kind 0 (length (statements_list xs)) [] labels.cases → IfSome labels.otherwise (λ n. n < length (statements_list xs)) → Describes f.variables env head frame.held →
      ((k : ℕ) → IsEntry labels (length (statements_list xs)) k → HoldsOf (Says (pass_from m labels 0 xs env None) head) (execute_from s k xs (record frame { opened = [] }) w)) →
      HoldsOf (Says (switch_left labels env (as_block xs (pass_from m labels 0 xs env None))) head) (and_then (enter s (labelled z labels.cases labels.otherwise) (statement at (block xs)) frame w) after_switch)
  switched labels at xs env head frame w z kind cases otherwise d enters = by_case (labelled z labels.cases labels.otherwise) refl
    where
      a : Left
      a = as_block xs (pass_from m labels 0 xs env None)

      by_case : (o : Option ℕ) → labelled z labels.cases labels.otherwise ≡ o → HoldsOf (Says (switch_left labels env a) head) (and_then (from_label o (λ k frame w. execute_from s k xs frame w) frame w) after_switch)
      by_case None e = past_says f.variables m labels env a head (no_entry labels.cases labels.otherwise z e) frame.held d
      by_case (Some k) e = holds_then (Says a head) (Says (switch_left labels env a) head) (in_block (λ frame w. execute_from s k xs frame w) frame w) after_switch
          (block_says p whole n depth number f there calls loops result lie xs (pass_from m labels 0 xs env None) head (λ frame w. execute_from s k xs frame w) frame w (enters k (entry_is kind 0 (length (statements_list xs)) [] labels.cases labels.otherwise z k cases otherwise e)))
          (λ d w h. after_says f.variables m labels env a head d.flow d.frame w h)

  pub switch_says : (scope : List ℕ) (at at2 : At) (keyword : Span) (v : PlainValue) (labels : PlainLabels) (xs : PlainStatements) → Switches (around (here scope false false)) v labels (statement at2 (block xs)) → (env : Environment) → NoneFails (pass_statement m (statement at (switch keyword v labels (statement at2 (block xs)))) env) →
      (head : List Held) (frame : Frame) (w : State) → Stand frame w → Describes f.variables env head frame.held →
      (NoneFails (pass_from m labels 0 xs env None) → (k : ℕ) → IsEntry labels (length (statements_list xs)) k → (w : State) → Stand (record frame { opened = [] }) w → HoldsOf (Says (pass_from m labels 0 xs env None) head) (execute_from s k xs (record frame { opened = [] }) w)) →
      HoldsOf (Says (pass_statement m (statement at (switch keyword v labels (statement at2 (block xs)))) env) head) (execute s (statement at (switch keyword v labels (statement at2 (block xs)))) frame w)
  switch_says scope at at2 keyword v labels xs i env none head frame w r d enters =
      let names : List Span = failing_in calls v env in
      let a : Left = switch_left labels env (as_block xs (pass_from m labels 0 xs env None)) in
      let passed : Left = if has_value calls v env then a else nowhere in
      calls_say names passed head (execute s (statement at (switch keyword v labels (statement at2 (block xs)))) frame w)
      (holds_step (Says passed head) w (λ w. and_then (evaluate s frame.held v w) (λ x w. and_then (enter s (labelled (number_of x) labels.cases labels.otherwise) (statement at2 (block xs)) frame w) after_switch)) (λ left e.
      holds_then (ValueOf env head v frame) (Says passed head) (evaluate s frame.held v (record w { left = left }))
      (λ x w. and_then (enter s (labelled (number_of x) labels.cases labels.otherwise) (statement at2 (block xs)) frame w) after_switch) (valued p whole n depth number f there calls lie scope v i.whole env head frame (record w { left = left }) (calls_none names passed none) (step_of frame w left e r) d) (λ x w h.
      let inside : NoneFails a = if_none (has_value calls v env) a nowhere h.found.has (calls_rest names passed none) in
      subst (λ t. HoldsOf (Says (if t then a else nowhere) head) (and_then (enter s (labelled (number_of x) labels.cases labels.otherwise) (statement at2 (block xs)) frame w) after_switch)) (sym h.found.has)
      (switched labels at2 xs env head frame w (number_of x) i.kind i.cases i.otherwise d (λ k e. enters (record { arguments = inside.arguments; results = inside.results; entries = inside.entries; backs = inside.backs }) k e w
      (record { kinds = h.ready.kinds; sound = h.ready.sound; fits = h.ready.fits; in_frame = h.ready.in_frame; left = h.ready.left }))))))

  -- a body that is no block isn't entered
  pub other_switch_says : (scope : List ℕ) (at : At) (keyword : Span) (v : PlainValue) (labels : PlainLabels) (body : PlainStatement) → IsWholeValue (around (here scope false false)) v → (env : Environment) → pass_switch m labels body env ≡ reached (Some env) → ((k : Option ℕ) (frame : Frame) (w : State) → enter s k body frame w ≡ goes frame w) →
      NoneFails (pass_statement m (statement at (switch keyword v labels body)) env) → (head : List Held) (frame : Frame) (w : State) → Stand frame w → Describes f.variables env head frame.held →
      HoldsOf (Says (pass_statement m (statement at (switch keyword v labels body)) env) head) (execute s (statement at (switch keyword v labels body)) frame w)
  other_switch_says scope at keyword v labels body i env passes enters none head frame w r d =
      let names : List Span = failing_in calls v env in
      let passed : Left = if has_value calls v env then pass_switch m labels body env else nowhere in
      calls_say names passed head (execute s (statement at (switch keyword v labels body)) frame w)
      (holds_step (Says passed head) w (λ w. and_then (evaluate s frame.held v w) (λ x w. and_then (enter s (labelled (number_of x) labels.cases labels.otherwise) body frame w) after_switch)) (λ left e.
      holds_then (ValueOf env head v frame) (Says passed head) (evaluate s frame.held v (record w { left = left }))
      (λ x w. and_then (enter s (labelled (number_of x) labels.cases labels.otherwise) body frame w) after_switch) (valued p whole n depth number f there calls lie scope v i env head frame (record w { left = left }) (calls_none names passed none) (step_of frame w left e r) d) (λ x w h.
      subst (λ t. HoldsOf (Says (if t then pass_switch m labels body env else nowhere) head) (and_then (enter s (labelled (number_of x) labels.cases labels.otherwise) body frame w) after_switch)) (sym h.found.has)
      (subst (λ a. HoldsOf (Says a head) (and_then (enter s (labelled (number_of x) labels.cases labels.otherwise) body frame w) after_switch)) (sym passes)
      (subst (λ o. HoldsOf (Says (reached (Some env)) head) (and_then o after_switch)) (sym (enters (labelled (number_of x) labels.cases labels.otherwise) frame w)) d)))))
