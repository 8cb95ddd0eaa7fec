-- The walk is sound over every sound domain, by induction on statements.
use Rattle.std.proofs.Common.{◌≡◌, ℕ, zero, suc, ◌+◌, ◌<◌, Bool, true, false, List, [], refl, sym, subst, Option, Some, None, slice_get, length, ℤ, arith}
use Rattle.std.specs.Prelude.{if◌then◌else◌, IfSome, All}
use Rattle.p10_base.specs.declared.span.Span.{Span}
use Rattle.p10_base.specs.declared.at.At.{At}
use Rattle.p10_int.specs.declared.types.IntType.{IntType}
use Rattle.p10_core.specs.declared.statements.LoopHead.{LoopHead}
use Rattle.p10_core.specs.declared.statements.MarkKind.TheVariants.{InitDone, TaskLoop}
use Rattle.p10_core.specs.Typed.{PlainValue, PlainLabels, PlainStatement, statement, PlainStatementForm, set, update, copy, evaluate as expression, asserts, declare, declare_static, block, if_then, if_else, loop, switch, break, continue, return, empty, mark, PlainStatements, no_statements, more_statements, statements_list, PlainFunction, PlainProgram}
use Rattle.p10_core.specs.Whole.{IsWholeValue}
use Rattle.p10_core.specs.WholePrograms.{Region, after, Switches, AreCases, around, declared_in, declared_of, IsTest, IsWholeStatement, AreWholeStatements, IsWholeProgram}
use Rattle.p10_meaning.specs.declared.pointers.Scalar.{Scalar}
use Rattle.p10_meaning.specs.States.{State, Progress, gives, ends, and_then}
use Rattle.p10_meaning.specs.Scalars.{number_of, is_true}
use Rattle.p10_meaning.specs.Values.{Setting, Held, evaluate}
use Rattle.p10_meaning.specs.Statements.{Frame, Flow, normal, broken, continued, returned, Done, goes, go_on, in_block, labelled, from_label, after_switch, execute, execute_from, enter}
use Rattle.p10_meaning.specs.Calling.{Depth, setting_of, call_at}
use Rattle.p10_meaning.specs.Sound.{region_at}
use Rattle.p10_meaning.specs.Variables.{form_may_change}
use Rattle.p10_meaning.proofs.SoundStatements.{scope_after}
use Rattle.p10_sums.specs.Keeping.{HoldsOf}
use Rattle.p10_pass.specs.Passing.{is_labelled, Left as TrialLeft, manner_in, pass_statement}
use Rattle.p10_evaluation.proofs.WholeFunctions.{results_lie}
use Rattle.p10_execution.specs.Scoping.{AreOnce}
use Rattle.p10_execution.specs.Standing.{StandsSoundly}
use Rattle.p10_execution.specs.Leaving.{NoneFails, LeavesAs as TrialLeavesAs, Leaves as TrialLeaves}
use Rattle.p10_execution.proofs.Giving.{holds_step, holds_then, holds_after, holds_if, holds_both, holds_weaker}
use Rattle.p10_execution.proofs.Parts.{ready_step, Given, value_given, Left as LeftSoundly, statement_left}
use Rattle.p10_execution.proofs.Ends.{IsJump}
use Rattle.p10_execution.proofs.Expressions.{GoesOn}
use Rattle.p10_execution.proofs.Numbers.{once_left, once_right}
use Rattle.p10_execution.proofs.Switching.{IsEntry, entry_is, no_entry}
use Rattle.p10_execution.proofs.Unchanged.{Stays, statement_stays}
use Rattle.p10_execution.proofs.Leaving.{statements_leave}
use Rattle.p10_turns.proofs.WholeLoops.{region_after}
use Rattle.p10_walk.specs.Operations.{Operations, is_simple}
use Rattle.p10_walk.specs.Walking.{Ends, nowhere, reached, hull_reached, where_going, followed, beside, as_block, switch_left, walk, walk_form, walk_all, walk_switch, walk_from}
use Rattle.p10_walk.specs.Soundness.{Maybe, LeavesAs, IsSound}
use Rattle.p10_walk.specs.Laws.{WalksAreSound}
use Rattle.p10_walk.proofs.Simple.{simple_goes}
use Rattle.p10_walk.proofs.KeptEnds.{left_kept, right_kept, followed_left, followed_right, beside_left, beside_right, block_as, after_as, past_as}

-- a frame in which marked variables alone may have changed
abbrev pub Unmarked : (ℕ → Bool) → Frame → Done → State → Type 0
Unmarked marks frame d w = (k : ℕ) → marks k ≡ false → slice_get d.frame.held k ≡ slice_get frame.held k

pub unmarked_stay : (marks : ℕ → Bool) (frame : Frame) (o : Progress Done) → ((k : ℕ) → marks k ≡ false → HoldsOf (Stays k frame) o) → HoldsOf (Unmarked marks frame) o
unmarked_stay marks frame (gives d w) h = h
unmarked_stay marks frame (ends end w) h = tt

-- a loop ends normally or returns
abbrev IsLoopEnd : Flow → Type 0
IsLoopEnd normal = Unit {0}
IsLoopEnd broken = ⊥
IsLoopEnd continued = ⊥
IsLoopEnd (returned x) = Unit {0}

entered_at : (labels : PlainLabels) (k : ℕ) → is_labelled (k + 0) labels ≡ true → is_labelled k labels ≡ true
entered_at labels k e = subst (λ (j : ℕ). is_labelled j labels ≡ true) (none_more k) e
  where
    none_more : (k : ℕ) → k + 0 ≡ k
    none_more k = omega arith

later_at : (labels : PlainLabels) (k j : ℕ) → is_labelled (k + suc j) labels ≡ true → is_labelled (suc k + j) labels ≡ true
later_at labels k j e = subst (λ (i : ℕ). is_labelled i labels ≡ true) (one_more k j) e
  where
    one_more : (k j : ℕ) → k + suc j ≡ suc k + j
    one_more k j = omega arith

none_there : (j : ℕ) → j < 0 → ⊥
none_there j h = omega (arith, h)

fewer : (j m : ℕ) → suc j < suc m → j < m
fewer j m h = omega (arith, h)

module _ (p : PlainProgram) (whole : IsWholeProgram p) (n : ℕ) (depth : Depth) (number : ℕ) (f : PlainFunction) (there : slice_get p.functions number ≡ Some f)
    (K : Type 0) (o : Operations K) (D : K → List Held → List Held → Type 0) (law : IsSound p n depth number f K o D) (head : List Held) where
  abbrev pub s : Setting
  s = setting_of p n (call_at n p) depth f

  abbrev here : List ℕ → Bool → Bool → Region
  here scope l b = region_at p number f scope l b

  abbrev pub Ready : Frame → State → Type 0
  Ready frame w = StandsSoundly p f.variables n frame w

  abbrev pub Says : Ends K → Done → State → Type 0
  Says a d w = LeavesAs D a head d.flow d.frame.held

  -- what is executed leaves a sound state and a frame that fits, as the walk says
  pub record Went (a : Ends K) (d : Done) (w : State) : Type 0 where
    pub ready : Ready d.frame w
    pub as_said : LeavesAs D a head d.flow d.frame.held

  went : (scope : List ℕ) (l b : Bool) (x : PlainStatement) → IsWholeStatement (here scope l b) x → (a : Ends K) (frame : Frame) (w : State) → Ready frame w → HoldsOf (Says a) (execute s x frame w) → HoldsOf (Went a) (execute s x frame w)
  went scope l b x i a frame w r h = holds_weaker (λ (d : Done) w. LeftSoundly p whole n depth number f there d w × Says a d w) (Went a) (execute s x frame w)
      (holds_both (LeftSoundly p whole n depth number f there) (Says a) (execute s x frame w) (statement_left p whole n depth number f there scope l b x i frame w r) h) (λ d w k. record { ready = k.0.ready; as_said = k.1 })

  stepped : (frame : Frame) (w : State) (left : ℕ) → suc left ≡ w.left → Ready frame w → Ready frame (record w { left = left })
  stepped frame w left e r = ready_step p whole n depth number f there frame w left e r

  fresh_block : (frame : Frame) (w : State) → Ready frame w → Ready (record frame { opened = [] }) w
  fresh_block frame w r = record { kinds = r.kinds; sound = r.sound; fits = r.fits; in_frame = r.in_frame; left = r.left }

  -- ## Values

  abbrev pub Tested : K → PlainValue → Frame → Scalar → State → Type 0
  Tested e v frame x w = Ready frame w × Maybe D (o.assume (is_true x) v e) head frame.held

  -- a value that is tested
  pub tested : (scope : List ℕ) (v : PlainValue) → IsTest (around (here scope false false)) v → (e : K) (frame : Frame) (w : State) → Ready frame w → D e head frame.held → HoldsOf (Tested e v frame) (evaluate s frame.held v w)
  tested scope v i e frame w r d = holds_weaker _ (Tested e v frame) (evaluate s frame.held v w)
      (holds_both (Given p whole n depth number f there _ frame) (λ x w. Maybe D (o.assume (is_true x) v e) head frame.held) (evaluate s frame.held v w) (value_given p whole n depth number f there scope v i.whole frame w r) (law.assumed scope v i.whole e head frame w r d))
      (λ x w h. (h.0.ready, h.1))

  assumed_as : (e : K) (v : PlainValue) (held : List Held) (x : Scalar) (t : Bool) → is_true x ≡ t → Maybe D (o.assume (is_true x) v e) head held → Maybe D (o.assume t v e) head held
  assumed_as e v held x t q d = subst (λ t. Maybe D (o.assume t v e) head held) q d

  -- the value of a `switch`
  abbrev Chosen : K → PlainValue → Frame → Scalar → State → Type 0
  Chosen e v frame x w = Ready frame w × (o.has_value v e ≡ true)

  chosen : (scope : List ℕ) (v : PlainValue) → IsWholeValue (around (here scope false false)) v → (e : K) (frame : Frame) (w : State) → Ready frame w → D e head frame.held → HoldsOf (Chosen e v frame) (evaluate s frame.held v w)
  chosen scope v i e frame w r d = holds_weaker _ (Chosen e v frame) (evaluate s frame.held v w)
      (holds_both (Given p whole n depth number f there _ frame) (λ x w. o.has_value v e ≡ true) (evaluate s frame.held v w) (value_given p whole n depth number f there scope v i frame w r) (law.valued scope v i e head frame w r d))
      (λ x w h. (h.0.ready, h.1))

  -- ## One part after another

  pub onward : (e : Option K) (go : K → Ends K) (held : List Held) (P : Ends K → Type 0) → Maybe D e head held → ((e : K) → D e head held → P (go e)) → P (where_going e go)
  onward None go held P d k = absurd d
  onward (Some e) go held P d k = k e d

  block_went : (ss : PlainStatements) → (a : Ends K) (run : Frame → State → Progress Done) (frame : Frame) (w : State) → HoldsOf (Went a) (run (record frame { opened = [] }) w) → HoldsOf (Says (as_block o ss a)) (in_block run frame w)
  block_went ss a run frame w h = holds_then (Went a) (Says (as_block o ss a)) (run (record frame { opened = [] }) w) _ h (λ d w k. block_as p n depth number f K o D law head ss a d.flow d.frame.held k.as_said)

  -- ## What is shown of statements

  abbrev pub Goes : PlainStatement → Type 0
  Goes x = (e : K) (frame : Frame) (w : State) → Ready frame w → D e head frame.held → HoldsOf (Went (walk o x e)) (execute s x frame w)

  -- a branch, where something is known
  branch_went : (x : PlainStatement) → Goes x → (e : Option K) (frame : Frame) (w : State) → Ready frame w → Maybe D e head frame.held → HoldsOf (Went (where_going e (λ e. walk o x e))) (execute s x frame w)
  branch_went x goes e frame w r d = onward e (λ e. walk o x e) frame.held (λ a. HoldsOf (Went a) (execute s x frame w)) d (λ e d. goes e frame w r d)

  branch_left : (a c : Ends K) (run : Progress Done) → HoldsOf (Went a) run → HoldsOf (Says (beside o a c)) run
  branch_left a c run h = holds_weaker (Went a) (Says (beside o a c)) run h (λ d w k. beside_left p n depth number f K o D law head a c d.flow d.frame.held k.as_said)

  branch_right : (a c : Ends K) (run : Progress Done) → HoldsOf (Went c) run → HoldsOf (Says (beside o a c)) run
  branch_right a c run h = holds_weaker (Went c) (Says (beside o a c)) run h (λ d w k. beside_right p n depth number f K o D law head a c d.flow d.frame.held k.as_said)

  -- ## `if`

  if_then_says : (scope : List ℕ) (at : At) (v : PlainValue) (x : PlainStatement) → IsTest (around (here scope false false)) v → Goes x → (e : K) (frame : Frame) (w : State) → Ready frame w → D e head frame.held →
      HoldsOf (Says (walk o (statement at (if_then v x)) e)) (execute s (statement at (if_then v x)) frame w)
  if_then_says scope at v x i goes e frame w r d =
      let a : Ends K = where_going (o.assume true v e) (λ e. walk o x e) in
      let c : Ends K = reached (o.assume false v e) in
      holds_step (Says (beside o a c)) w _ (λ left q. holds_then (Tested e v frame) (Says (beside o a c)) (evaluate s frame.held v (record w { left = left })) _ (tested scope v i e frame (record w { left = left }) (stepped frame w left q r) d) (λ y w h.
      holds_if (Says (beside o a c)) (is_true y) _ _
      (λ t. branch_left a c (execute s x frame w) (branch_went x goes (o.assume true v e) frame w h.0 (assumed_as e v frame.held y true t h.1)))
      (λ t. beside_right p n depth number f K o D law head a c normal frame.held (assumed_as e v frame.held y false t h.1))))

  if_else_says : (scope : List ℕ) (at : At) (v : PlainValue) (x z : PlainStatement) → IsTest (around (here scope false false)) v → Goes x → Goes z → (e : K) (frame : Frame) (w : State) → Ready frame w → D e head frame.held →
      HoldsOf (Says (walk o (statement at (if_else v x z)) e)) (execute s (statement at (if_else v x z)) frame w)
  if_else_says scope at v x z i goes goes_else e frame w r d =
      let a : Ends K = where_going (o.assume true v e) (λ e. walk o x e) in
      let c : Ends K = where_going (o.assume false v e) (λ e. walk o z e) in
      holds_step (Says (beside o a c)) w _ (λ left q. holds_then (Tested e v frame) (Says (beside o a c)) (evaluate s frame.held v (record w { left = left })) _ (tested scope v i e frame (record w { left = left }) (stepped frame w left q r) d) (λ y w h.
      holds_if (Says (beside o a c)) (is_true y) _ _
      (λ t. branch_left a c (execute s x frame w) (branch_went x goes (o.assume true v e) frame w h.0 (assumed_as e v frame.held y true t h.1)))
      (λ t. branch_right a c (execute s z frame w) (branch_went z goes_else (o.assume false v e) frame w h.0 (assumed_as e v frame.held y false t h.1)))))

  -- ## Loops

  -- by the trial pass, in which nothing is known, a loop ends normally or returns
  loop_ends : (scope : List ℕ) (l b : Bool) (at : At) (h : LoopHead) (first : PlainStatements) (tested : Option PlainValue) (third : PlainStatements) (body : PlainStatement) → IsWholeStatement (here scope l b) (statement at (loop h first tested third body)) → AreOnce (declared_in (statement at (loop h first tested third body))) →
      (frame : Frame) (w : State) → Ready frame w → HoldsOf (λ (d : Done) w. IsLoopEnd d.flow) (execute s (statement at (loop h first tested third body)) frame w)
  loop_ends scope l b at h first tested third body i before frame w r =
      holds_weaker (TrialLeaves f.variables (manner_in f None None None) (pass_statement (manner_in f None None None) x []) frame.held) (λ (d : Done) w. IsLoopEnd d.flow) (execute s x frame w)
      (statements_leave p whole n depth number f there None None None (results_lie p whole n depth) scope l b x i [] (record { knows = record { each = λ k e. absurd cc }; once = before; fresh = λ k e. refl })
      (record { arguments = refl; results = refl; entries = refl; backs = refl }) frame.held frame w r (record { each = λ k a e. absurd cc })).given (λ d w k. of d.flow d.frame.held k.as_said)
    where
      x : PlainStatement
      x = statement at (loop h first tested third body)

      of : (flow : Flow) (held : List Held) → TrialLeavesAs f.variables (manner_in f None None None) (pass_statement (manner_in f None None None) x []) frame.held flow held → IsLoopEnd flow
      of normal held k = tt
      of broken held k = k
      of continued held k = k
      of (returned y) held k = tt

  loop_says : (scope : List ℕ) (l b : Bool) (at : At) (h : LoopHead) (first : PlainStatements) (tested : Option PlainValue) (third : PlainStatements) (body : PlainStatement) → IsWholeStatement (here scope l b) (statement at (loop h first tested third body)) → AreOnce (declared_in (statement at (loop h first tested third body))) →
      (e : K) (frame : Frame) (w : State) → Ready frame w → D e head frame.held → HoldsOf (Says (walk o (statement at (loop h first tested third body)) e)) (execute s (statement at (loop h first tested third body)) frame w)
  loop_says scope l b at h first tested third body i before e frame w r d =
      holds_weaker (λ (d : Done) w. LeftSoundly p whole n depth number f there d w × (IsLoopEnd d.flow × Unmarked marks frame d w)) (Says (walk o x e)) (execute s x frame w)
      (holds_both (LeftSoundly p whole n depth number f there) (λ (d : Done) w. IsLoopEnd d.flow × Unmarked marks frame d w) (execute s x frame w) (statement_left p whole n depth number f there scope l b x i frame w r)
      (holds_both (λ (d : Done) w. IsLoopEnd d.flow) (Unmarked marks frame) (execute s x frame w) (loop_ends scope l b at h first tested third body i before frame w r)
      (unmarked_stay marks frame (execute s x frame w) (λ k q. statement_stays s x k q frame w))))
      (λ c w k. of c.flow c.frame w k.0.ready k.1.0 k.1.1)
    where
      x : PlainStatement
      x = statement at (loop h first tested third body)

      marks : ℕ → Bool
      marks k = form_may_change k (loop h first tested third body)

      of : (flow : Flow) (last : Frame) (w : State) → Ready last w → IsLoopEnd flow → ((k : ℕ) → marks k ≡ false → slice_get last.held k ≡ slice_get frame.held k) → LeavesAs D (walk o x e) head flow last.held
      of normal last w ready q kept = law.forgot marks e head frame.held last w ready d kept
      of broken last w ready q kept = absurd q
      of continued last w ready q kept = absurd q
      of (returned y) last w ready q kept = tt

  -- ## `switch`

  -- after the value, where the body is a block
  switched : (labels : PlainLabels) (at : At) (ss : PlainStatements) (e : K) (frame : Frame) (w : State) (z : ℤ) (kind : IntType) → AreCases kind 0 (length (statements_list ss)) [] labels.cases → IfSome labels.otherwise (λ n. n < length (statements_list ss)) → D e head frame.held →
      ((k : ℕ) → IsEntry labels (length (statements_list ss)) k → HoldsOf (Went (walk_from o labels 0 ss e nowhere)) (execute_from s k ss (record frame { opened = [] }) w)) →
      HoldsOf (Says (switch_left o labels e (as_block o ss (walk_from o labels 0 ss e nowhere)))) (and_then (enter s (labelled z labels.cases labels.otherwise) (statement at (block ss)) frame w) after_switch)
  switched labels at ss e frame w z kind cases otherwise d enters = by_case (labelled z labels.cases labels.otherwise) refl
    where
      a : Ends K
      a = as_block o ss (walk_from o labels 0 ss e nowhere)

      by_case : (m : Option ℕ) → labelled z labels.cases labels.otherwise ≡ m → HoldsOf (Says (switch_left o labels e a)) (and_then (from_label m (λ k frame w. execute_from s k ss frame w) frame w) after_switch)
      by_case None q = past_as p n depth number f K o D law head labels e a (no_entry labels.cases labels.otherwise z q) frame.held d
      by_case (Some k) q = holds_then (Says a) (Says (switch_left o labels e a)) (in_block (λ frame w. execute_from s k ss frame w) frame w) after_switch
          (block_went ss (walk_from o labels 0 ss e nowhere) (λ frame w. execute_from s k ss frame w) frame w (enters k (entry_is kind 0 (length (statements_list ss)) [] labels.cases labels.otherwise z k cases otherwise q)))
          (λ d w h. after_as p n depth number f K o D law head labels e a d.flow d.frame w h)

  switch_says : (scope : List ℕ) (at at2 : At) (keyword : Span) (v : PlainValue) (labels : PlainLabels) (ss : PlainStatements) → Switches (around (here scope false false)) v labels (statement at2 (block ss)) → (e : K) (frame : Frame) (w : State) → Ready frame w → D e head frame.held →
      ((k : ℕ) → IsEntry labels (length (statements_list ss)) k → (w : State) → Ready (record frame { opened = [] }) w → HoldsOf (Went (walk_from o labels 0 ss e nowhere)) (execute_from s k ss (record frame { opened = [] }) w)) →
      HoldsOf (Says (walk o (statement at (switch keyword v labels (statement at2 (block ss)))) e)) (execute s (statement at (switch keyword v labels (statement at2 (block ss)))) frame w)
  switch_says scope at at2 keyword v labels ss i e frame w r d enters =
      let a : Ends K = switch_left o labels e (as_block o ss (walk_from o labels 0 ss e nowhere)) in
      let passed : Ends K = if o.has_value v e then a else nowhere in
      holds_step (Says passed) w (λ w. and_then (evaluate s frame.held v w) (λ x w. and_then (enter s (labelled (number_of x) labels.cases labels.otherwise) (statement at2 (block ss)) frame w) after_switch)) (λ left q.
      holds_then (Chosen e v frame) (Says passed) (evaluate s frame.held v (record w { left = left })) (λ x w. and_then (enter s (labelled (number_of x) labels.cases labels.otherwise) (statement at2 (block ss)) frame w) after_switch)
      (chosen scope v i.whole e frame (record w { left = left }) (stepped frame w left q r) d) (λ x w h.
      subst (λ t. HoldsOf (Says (if t then a else nowhere)) (and_then (enter s (labelled (number_of x) labels.cases labels.otherwise) (statement at2 (block ss)) frame w) after_switch)) (sym h.1)
      (switched labels at2 ss e frame w (number_of x) i.kind i.cases i.otherwise d (λ k j. enters k j w (fresh_block frame w h.0)))))

  -- a body that is no block isn't entered
  other_switch_says : (scope : List ℕ) (at : At) (keyword : Span) (v : PlainValue) (labels : PlainLabels) (body : PlainStatement) → IsWholeValue (around (here scope false false)) v → (e : K) → walk_switch o labels body e ≡ reached (Some e) → ((k : Option ℕ) (frame : Frame) (w : State) → enter s k body frame w ≡ goes frame w) →
      (frame : Frame) (w : State) → Ready frame w → D e head frame.held → HoldsOf (Says (walk o (statement at (switch keyword v labels body)) e)) (execute s (statement at (switch keyword v labels body)) frame w)
  other_switch_says scope at keyword v labels body i e walks enters frame w r d =
      let passed : Ends K = if o.has_value v e then walk_switch o labels body e else nowhere in
      holds_step (Says passed) w (λ w. and_then (evaluate s frame.held v w) (λ x w. and_then (enter s (labelled (number_of x) labels.cases labels.otherwise) body frame w) after_switch)) (λ left q.
      holds_then (Chosen e v frame) (Says passed) (evaluate s frame.held v (record w { left = left })) (λ x w. and_then (enter s (labelled (number_of x) labels.cases labels.otherwise) body frame w) after_switch)
      (chosen scope v i e frame (record w { left = left }) (stepped frame w left q r) d) (λ x w h.
      subst (λ t. HoldsOf (Says (if t then walk_switch o labels body e else nowhere)) (and_then (enter s (labelled (number_of x) labels.cases labels.otherwise) body frame w) after_switch)) (sym h.1)
      (subst (λ a. HoldsOf (Says a) (and_then (enter s (labelled (number_of x) labels.cases labels.otherwise) body frame w) after_switch)) (sym walks)
      (subst (λ run. HoldsOf (Says (reached (Some e))) (and_then run after_switch)) (sym (enters (labelled (number_of x) labels.cases labels.otherwise) frame w)) d))))

  if_entered : (t : Bool) (before : Option K) (e : K) (held : List Held) → t ≡ true → D e head held → Maybe D (if t then hull_reached o before (Some e) else before) head held
  if_entered true before e held q d = right_kept p n depth number f K o D law head before (Some e) held d
  if_entered false before e held q d = absurd cc

  if_before : (t : Bool) (before : Option K) (e : K) (held : List Held) → Maybe D before head held → Maybe D (if t then hull_reached o before (Some e) else before) head held
  if_before true before e held d = left_kept p n depth number f K o D law head before (Some e) held d
  if_before false before e held d = d

  -- ## The induction

  simple_went : (scope : List ℕ) (l b : Bool) (at : At) (form : PlainStatementForm) → IsWholeStatement (here scope l b) (statement at form) → is_simple form ≡ true → ((e : K) → walk_form o form e ≡ reached (o.after form e)) → Goes (statement at form)
  simple_went scope l b at form i simple is e frame w r d = subst (λ a. HoldsOf (Went a) (execute s (statement at form) frame w)) (sym (is e))
      (went scope l b (statement at form) i (reached (o.after form e)) frame w r
      (holds_weaker (λ (c : Done) w. GoesOn c w × Maybe D (o.after form e) head c.frame.held) (Says (reached (o.after form e))) (execute s (statement at form) frame w)
      (holds_both GoesOn (λ (c : Done) w. Maybe D (o.after form e) head c.frame.held) (execute s (statement at form) frame w) (simple_goes s at form simple frame w) (law.executed scope l b at form i simple e head frame w r d))
      (λ c w k. of c.flow c.frame k.0 k.1)))
    where
      of : (flow : Flow) (last : Frame) → flow ≡ normal → Maybe D (o.after form e) head last.held → LeavesAs D (reached (o.after form e)) head flow last.held
      of normal last q k = k
      of broken last q k = absurd cc
      of continued last q k = absurd cc
      of (returned x) last q k = tt

  -- of what is returned nothing is said
  return_says : (at : At) (keyword : Span) (v : Option PlainValue) (frame : Frame) (w : State) → HoldsOf (Says nowhere) (execute s (statement at (return keyword v)) frame w)
  return_says at keyword None frame w = holds_step (Says nowhere) w _ (λ left q. tt)
  return_says at keyword (Some v) frame w = holds_step (Says nowhere) w _ (λ left q. holds_after (Says nowhere) (evaluate s frame.held v (record w { left = left })) _ (λ x w. tt))

  rest_whole : (x : PlainStatement) (rest : PlainStatements) (scope : List ℕ) (l b : Bool) → AreWholeStatements (after (here scope l b) x) rest → AreWholeStatements (here (scope_after x scope) l b) rest
  rest_whole x rest scope l b i = subst (λ r. AreWholeStatements r rest) (region_after p whole number f there x scope l b) i

  -- ### Parts in order

  -- a jump stays an end of what follows
  all_kept : (ss : PlainStatements) (a : Ends K) (flow : Flow) (held : List Held) → IsJump flow → LeavesAs D a head flow held → LeavesAs D (walk_all o ss a) head flow held
  all_kept no_statements a flow held j h = h
  all_kept (more_statements x rest) a flow held j h = let c : Ends K = where_going a.normal (λ e. walk o x e) in all_kept rest (followed o a c) flow held j (followed_left p n depth number f K o D law head a c flow held j h)

  -- what is known where an item of a `switch` is entered
  abbrev enters : PlainLabels → ℕ → K → Ends K → Option K
  enters labels k e a = if is_labelled k labels then hull_reached o a.normal (Some e) else a.normal

  items_kept : (labels : PlainLabels) (k : ℕ) (ss : PlainStatements) (e : K) (a : Ends K) (flow : Flow) (held : List Held) → IsJump flow → LeavesAs D a head flow held → LeavesAs D (walk_from o labels k ss e a) head flow held
  items_kept labels k no_statements e a flow held j h = h
  items_kept labels k (more_statements x rest) e a flow held j h =
      let c : Ends K = where_going (enters labels k e a) (λ e. walk o x e) in items_kept labels (suc k) rest e (followed o a c) flow held j (followed_left p n depth number f K o D law head a c flow held j h)

  -- what follows a part: a jump is an end of all, and else the rest follows
  next_went : (all c : Ends K) (d : Done) (w : State) (rest : Frame → State → Progress Done) → Went c d w → ((flow : Flow) (held : List Held) → IsJump flow → LeavesAs D c head flow held → LeavesAs D all head flow held) →
      ((frame : Frame) (w : State) → Ready frame w → Maybe D c.normal head frame.held → HoldsOf (Went all) (rest frame w)) → HoldsOf (Went all) (go_on d.flow d.frame w rest)
  next_went all c d w rest h jump k = of d.flow d.frame h.ready h.as_said
    where
      of : (flow : Flow) (frame : Frame) → Ready frame w → LeavesAs D c head flow frame.held → HoldsOf (Went all) (go_on flow frame w rest)
      of normal frame r h = k frame w r h
      of broken frame r h = record { ready = r; as_said = jump broken frame.held tt h }
      of continued frame r h = record { ready = r; as_said = jump continued frame.held tt h }
      of (returned x) frame r h = record { ready = r; as_said = jump (returned x) frame.held tt h }

  -- an item of a `switch`, and those after it
  item_went : (labels : PlainLabels) (k : ℕ) (x : PlainStatement) (rest : PlainStatements) (e : K) (a : Ends K) (frame : Frame) (w : State) → Ready frame w → Goes x → Maybe D (enters labels k e a) head frame.held →
      ((a : Ends K) (frame : Frame) (w : State) → Ready frame w → Maybe D a.normal head frame.held → HoldsOf (Went (walk_from o labels (suc k) rest e a)) (execute_from s zero rest frame w)) →
      HoldsOf (Went (walk_from o labels k (more_statements x rest) e a)) (execute_from s zero (more_statements x rest) frame w)
  item_went labels k x rest e a frame w r goes d more =
      let c : Ends K = where_going (enters labels k e a) (λ e. walk o x e) in
      let last : Ends K = walk_from o labels (suc k) rest e (followed o a c) in
      holds_then (Went c) (Went last) (execute s x frame w) _ (branch_went x goes (enters labels k e a) frame w r d) (λ done w h.
      next_went last c done w (λ frame w. execute_from s zero rest frame w) h (λ flow held j k2. items_kept labels (suc k) rest e (followed o a c) flow held j (followed_right p n depth number f K o D law head a c flow held k2))
      (λ frame w r d. more (followed o a c) frame w r d))

  mutual
    pub statement_goes : (x : PlainStatement) (scope : List ℕ) (l b : Bool) → IsWholeStatement (here scope l b) x → AreOnce (declared_in x) → Goes x
    statement_goes (statement at (set q v)) scope l b i before e frame w r d = simple_went scope l b at (set q v) i refl (λ e. refl) e frame w r d
    statement_goes (statement at (update kind op t q v)) scope l b i before e frame w r d = simple_went scope l b at (update kind op t q v) i refl (λ e. refl) e frame w r d
    statement_goes (statement at (copy q z)) scope l b i before e frame w r d = simple_went scope l b at (copy q z) i refl (λ e. refl) e frame w r d
    statement_goes (statement at (expression v)) scope l b i before e frame w r d = simple_went scope l b at (expression v) i refl (λ e. refl) e frame w r d
    statement_goes (statement at (asserts call v)) scope l b i before e frame w r d = simple_went scope l b at (asserts call v) i refl (λ e. refl) e frame w r d
    statement_goes (statement at (declare k initializer)) scope l b i before e frame w r d = simple_went scope l b at (declare k initializer) i refl (λ e. refl) e frame w r d
    statement_goes (statement at (declare_static k)) scope l b i before e frame w r d = simple_went scope l b at (declare_static k) i refl (λ e. refl) e frame w r d
    statement_goes (statement at empty) scope l b i before e frame w r d = simple_went scope l b at empty i refl (λ e. refl) e frame w r d
    statement_goes (statement at (mark kind)) scope l b i before e frame w r d = simple_went scope l b at (mark kind) i refl (λ e. refl) e frame w r d
    statement_goes (statement at (block ss)) scope l b i before e frame w r d = went scope l b (statement at (block ss)) i (as_block o ss (walk_all o ss (reached (Some e)))) frame w r
        (block_went ss (walk_all o ss (reached (Some e))) (λ frame w. execute_from s 0 ss frame w) frame w (statements_go ss scope l b i before (reached (Some e)) (record frame { opened = [] }) w (fresh_block frame w r) d))
    statement_goes (statement at (if_then v x)) scope l b i before e frame w r d = went scope l b (statement at (if_then v x)) i (walk o (statement at (if_then v x)) e) frame w r
        (if_then_says scope at v x i.0 (λ e frame w r d. statement_goes x scope l b i.1 before e frame w r d) e frame w r d)
    statement_goes (statement at (if_else v x z)) scope l b i before e frame w r d = went scope l b (statement at (if_else v x z)) i (walk o (statement at (if_else v x z)) e) frame w r
        (if_else_says scope at v x z i.0 (λ e frame w r d. statement_goes x scope l b i.1 (once_left (declared_in x) (declared_in z) before) e frame w r d)
        (λ e frame w r d. statement_goes z scope l b i.2 (once_right (declared_in x) (declared_in z) before) e frame w r d) e frame w r d)
    statement_goes (statement at (loop h first tested third body)) scope l b i before e frame w r d = went scope l b (statement at (loop h first tested third body)) i (walk o (statement at (loop h first tested third body)) e) frame w r
        (loop_says scope l b at h first tested third body i before e frame w r d)
    statement_goes (statement at (switch keyword v labels (statement at2 (block ss)))) scope l b i before e frame w r d =
        went scope l b (statement at (switch keyword v labels (statement at2 (block ss)))) i (walk o (statement at (switch keyword v labels (statement at2 (block ss)))) e) frame w r
        (switch_says scope at at2 keyword v labels ss i.0 e frame w r d (λ k j w r.
        entering labels 0 k ss scope l true i.1 before e nowhere (subst (λ (j : ℕ). is_labelled j labels ≡ true) (from_none k) j.labelled_is) j.there (record frame { opened = [] }) w r d))
      where
        from_none : (k : ℕ) → k ≡ 0 + k
        from_none k = omega arith
    statement_goes (statement at (switch keyword v labels body)) scope l b i before e frame w r d = went scope l b (statement at (switch keyword v labels body)) i (walk o (statement at (switch keyword v labels body)) e) frame w r
        (other_switch_says scope at keyword v labels body i.0.whole e refl (λ k frame w. refl) frame w r d)
    statement_goes (statement at break) scope l b i before e frame w r d = went scope l b (statement at break) i (walk o (statement at break) e) frame w r (holds_step (Says (walk o (statement at break) e)) w _ (λ left q. d))
    statement_goes (statement at continue) scope l b i before e frame w r d = went scope l b (statement at continue) i (walk o (statement at continue) e) frame w r (holds_step (Says (walk o (statement at continue) e)) w _ (λ left q. d))
    statement_goes (statement at (return keyword v)) scope l b i before e frame w r d = went scope l b (statement at (return keyword v)) i nowhere frame w r (return_says at keyword v frame w)

    pub statements_go : (ss : PlainStatements) (scope : List ℕ) (l b : Bool) → AreWholeStatements (here scope l b) ss → AreOnce (declared_of ss) → (a : Ends K) (frame : Frame) (w : State) → Ready frame w → Maybe D a.normal head frame.held → HoldsOf (Went (walk_all o ss a)) (execute_from s 0 ss frame w)
    statements_go no_statements scope l b i before a frame w r d = record { ready = r; as_said = d }
    statements_go (more_statements x rest) scope l b i before a frame w r d =
        let c : Ends K = where_going a.normal (λ e. walk o x e) in
        holds_then (Went c) (Went (walk_all o rest (followed o a c))) (execute s x frame w) _
        (branch_went x (λ e frame w r d. statement_goes x scope l b i.0 (once_left (declared_in x) (declared_of rest) before) e frame w r d) a.normal frame w r d) (λ done w h.
        next_went (walk_all o rest (followed o a c)) c done w (λ frame w. execute_from s zero rest frame w) h (λ flow held j k. all_kept rest (followed o a c) flow held j (followed_right p n depth number f K o D law head a c flow held k))
        (λ frame w r d. statements_go rest (scope_after x scope) l b (rest_whole x rest scope l b i.1) (once_right (declared_in x) (declared_of rest) before) (followed o a c) frame w r d))

    -- the items of a `switch` from one on that is reached from before
    running : (labels : PlainLabels) (k : ℕ) (ss : PlainStatements) (scope : List ℕ) (l b : Bool) → AreWholeStatements (here scope l b) ss → AreOnce (declared_of ss) → (e : K) (a : Ends K) (frame : Frame) (w : State) → Ready frame w → Maybe D a.normal head frame.held →
        HoldsOf (Went (walk_from o labels k ss e a)) (execute_from s 0 ss frame w)
    running labels k no_statements scope l b i once e a frame w r d = record { ready = r; as_said = d }
    running labels k (more_statements x rest) scope l b i once e a frame w r d =
        item_went labels k x rest e a frame w r (λ e frame w r d. statement_goes x scope l b i.0 (once_left (declared_in x) (declared_of rest) once) e frame w r d) (if_before (is_labelled k labels) a.normal e frame.held d)
        (λ a frame w r d. running labels (suc k) rest (scope_after x scope) l b (rest_whole x rest scope l b i.1) (once_right (declared_in x) (declared_of rest) once) e a frame w r d)

    -- the items of a `switch` up to the one that is entered by its label
    entering : (labels : PlainLabels) (k j : ℕ) (ss : PlainStatements) (scope : List ℕ) (l b : Bool) → AreWholeStatements (here scope l b) ss → AreOnce (declared_of ss) → (e : K) (a : Ends K) → is_labelled (k + j) labels ≡ true → j < length (statements_list ss) →
        (frame : Frame) (w : State) → Ready frame w → D e head frame.held → HoldsOf (Went (walk_from o labels k ss e a)) (execute_from s j ss frame w)
    entering labels k j no_statements scope l b i once e a q lt frame w r d = absurd (none_there j lt)
    entering labels k zero (more_statements x rest) scope l b i once e a q lt frame w r d =
        item_went labels k x rest e a frame w r (λ e frame w r d. statement_goes x scope l b i.0 (once_left (declared_in x) (declared_of rest) once) e frame w r d) (if_entered (is_labelled k labels) a.normal e frame.held (entered_at labels k q) d)
        (λ a frame w r d. running labels (suc k) rest (scope_after x scope) l b (rest_whole x rest scope l b i.1) (once_right (declared_in x) (declared_of rest) once) e a frame w r d)
    entering labels k (suc j) (more_statements x rest) scope l b i once e a q lt frame w r d =
        entering labels (suc k) j rest (scope_after x scope) l b (rest_whole x rest scope l b i.1) (once_right (declared_in x) (declared_of rest) once) e (followed o a (where_going (enters labels k e a) (λ e. walk o x e))) (later_at labels k j q) (fewer j (length (statements_list rest)) lt) frame w r d

-- ## The law

pub walks_sound : (p : PlainProgram) → IsWholeProgram p → (n : ℕ) (depth : Depth) (number : ℕ) (f : PlainFunction) → slice_get p.functions number ≡ Some f →
    (K : Type 0) (o : Operations K) (D : K → List Held → List Held → Type 0) → IsSound p n depth number f K o D → WalksAreSound p n depth number f K o D
walks_sound p whole n depth number f there K o D law scope l b x i once e head frame w r d = record {
  given = holds_weaker (Went p whole n depth number f there K o D law head (walk o x e)) (λ (c : Done) w. LeavesAs D (walk o x e) head c.flow c.frame.held) (execute (setting_of p n (call_at n p) depth f) x frame w)
      (statement_goes p whole n depth number f there K o D law head x scope l b i once e frame w r d) (λ c w k. k.as_said);
}
