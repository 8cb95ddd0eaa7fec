-- The law of evidence over any domain: rounds from a loop's head, and how often they come.
use Rattle.std.proofs.Common.{◌≡◌, ℕ, zero, suc, Bool, true, false, List, [], refl, ap, sym, subst, Option, Some, None, slice_get, ℤ, pos, ◌-ℤ◌, ◌≤ℤ◌, arith}
use Rattle.std.specs.Option.{option_and_then}
use Rattle.std.proofs.lemmas.Int.{ints}
use Rattle.p10_core.specs.declared.statements.LoopKeyword.{LoopKeyword}
use Rattle.p10_core.specs.declared.statements.LoopKeyword.TheVariants.{While, Do, For}
use Rattle.p10_core.specs.Typed.{PlainValue, PlainStatement, PlainStatements, no_statements, PlainFunction, PlainProgram}
use Rattle.p10_core.specs.WholePrograms.{Region, around, is_expression, AllOf, declared_in, declared_of, IsMaybeTest, IsWholeStatement, AreWholeStatements, IsWholeProgram}
use Rattle.p10_meaning.specs.States.{State}
use Rattle.p10_meaning.specs.Values.{Setting, Held, evaluate}
use Rattle.p10_meaning.specs.Statements.{Frame, Flow, normal, broken, continued, returned, Done, goes, test, before_third, execute, execute_from, round}
use Rattle.p10_meaning.specs.Calling.{Depth, setting_of, call_at}
use Rattle.p10_meaning.specs.Sound.{region_at}
use Rattle.p10_meaning.proofs.SoundStatements.{scope_after_all}
use Rattle.p10_sums.specs.Keeping.{HoldsOf, OnBack}
use Rattle.p10_execution.specs.Scoping.{AreOnce}
use Rattle.p10_execution.specs.Standing.{StandsSoundly}
use Rattle.p10_execution.proofs.Giving.{holds_step, holds_then, holds_both, holds_weaker}
use Rattle.p10_execution.proofs.Parts.{ready_step}
use Rattle.p10_execution.proofs.ScopedEnds.{third_expressions, third_declares}
use Rattle.p10_execution.proofs.Expressions.{GoesOn, expressions_go}
use Rattle.p10_turns.specs.Entrances.{EntersAtMost}
use Rattle.p10_turns.proofs.Entering.{WithLeft, on_back, enters}
use Rattle.p10_turns.proofs.WholeLoops.{no_third, region_after_all}
use Rattle.p10_walk.specs.Operations.{Operations}
use Rattle.p10_walk.specs.Walking.{Ends, reached, hull_reached, where_going, walk, walk_all, Round, test_holds, round_of}
use Rattle.p10_walk.specs.Soundness.{Maybe, LeavesAs, IsSound}
use Rattle.p10_walk.specs.Turns.{Ranks, RanksBoundTurns}
use Rattle.p10_walk.proofs.KeptEnds.{left_kept, right_kept}
use Rattle.p10_walk.proofs.Sound.{Went, Tested as TestedValue, tested as value_tested, statement_goes, statements_go}

-- a turn of k is left where the rank is at least 1 and at most k
with_left : (k : ℕ) (z : ℤ) (P : ℕ → Type 0) → pos 1 ≤ℤ z → z ≤ℤ pos k → ((j : ℕ) → z ≤ℤ pos (suc j) → P j) → WithLeft k P
with_left zero z P a b f = absurd (omega (arith, ints, a, b))
with_left (suc j) z P a b f = f j b

one_less : (now before : ℤ) (j : ℕ) → now ≤ℤ (before -ℤ pos 1) → before ≤ℤ pos (suc j) → now ≤ℤ pos j
one_less now before j a b = omega (arith, ints, a, b)

module _ (p : PlainProgram) (whole : IsWholeProgram p) (n : ℕ) (depth : Depth) (number : ℕ) (f : PlainFunction) (there : slice_get p.functions number ≡ Some f)
    (K : Type 0) (o : Operations K) (D : K → List Held → List Held → Type 0) (law : IsSound p n depth number f K o D)
    (scope : List ℕ) (l b : Bool) (tested : Option PlainValue) (third : PlainStatements) (body : PlainStatement)
    (test_whole : IsMaybeTest (around (region_at p number f scope false false)) tested) (third_whole : AreWholeStatements (region_at p number f scope l b) third) (expressions : AllOf is_expression third) (no_declarations : declared_of third ≡ [])
    (body_whole : IsWholeStatement (region_at p number f scope true b) body) (once : AreOnce (declared_in body)) (h : K) where
  abbrev s : Setting
  s = setting_of p n (call_at n p) depth f

  -- a frame is described, if one comes there
  pub record In (e : Option K) (head : List Held) (frame : Frame) (w : State) : Type 0 where
    pub ready : StandsSoundly p f.variables n frame w
    pub described : Maybe D e head frame.held

  abbrev WentAs : List Held → Ends K → Done → State → Type 0
  WentAs head a d w = Went p whole n depth number f there K o D law head a d w

  -- ## Tests

  abbrev WhereTrue : Option K → List Held → Frame → Bool → State → Type 0
  WhereTrue e head frame more w = more ≡ true → In e head frame w

  test_goes : (tested : Option PlainValue) → IsMaybeTest (around (region_at p number f scope false false)) tested → (e : K) (head : List Held) (frame : Frame) (w : State) → In (Some e) head frame w → HoldsOf (WhereTrue (test_holds o tested e) head frame) (test s tested frame w)
  test_goes None i e head frame w r = holds_step (WhereTrue (Some e) head frame) w _ (λ left q t. record { ready = ready_step p whole n depth number f there frame w left q r.ready; described = r.described })
  test_goes (Some v) i e head frame w r =
      holds_then (TestedValue p whole n depth number f there K o D law head e v frame) (WhereTrue (o.assume true v e) head frame) (evaluate s frame.held v w) _
      (value_tested p whole n depth number f there K o D law head scope v i e frame w r.ready r.described)
      (λ x w k q. record { ready = k.0; described = subst (λ t. Maybe D (o.assume t v e) head frame.held) q k.1 })

  test_on : (e : Option K) (head : List Held) (frame : Frame) (w : State) → In e head frame w → HoldsOf (WhereTrue (option_and_then (test_holds o tested) e) head frame) (test s tested frame w)
  test_on None head frame w r = absurd r.described
  test_on (Some e) head frame w r = test_goes tested test_whole e head frame w r

  -- ## Rounds

  abbrev Back : Option K → List Held → Done → State → Type 0
  Back e head d w = OnBack d.flow (In e head d.frame w)

  third_on : (e : Option K) (head : List Held) (frame : Frame) (w : State) → In e head frame w → HoldsOf (Back (walk_all o third (reached e)).normal head) (execute_from s 0 third frame w)
  third_on e head frame w r =
      holds_weaker (λ (d : Done) w. WentAs head (walk_all o third (reached e)) d w × GoesOn d w) (Back (walk_all o third (reached e)).normal head) (execute_from s 0 third frame w)
      (holds_both (WentAs head (walk_all o third (reached e))) GoesOn (execute_from s 0 third frame w)
      (statements_go p whole n depth number f there K o D law head third scope l b third_whole (subst (λ ns. AreOnce ns) (sym no_declarations) tt) (reached e) frame w r.ready r.described) (expressions_go s third expressions frame w))
      (λ d w k. of d.flow d.frame w k.1 k.0.ready k.0.as_said)
    where
      of : (flow : Flow) (frame : Frame) (w : State) → flow ≡ normal → StandsSoundly p f.variables n frame w → LeavesAs D (walk_all o third (reached e)) head flow frame.held → OnBack flow (In (walk_all o third (reached e)).normal head frame w)
      of normal frame w q ready k = record { ready = ready; described = k }
      of broken frame w q ready k = tt
      of continued frame w q ready k = absurd cc
      of (returned x) frame w q ready k = tt

  -- where a body goes on
  abbrev on_from : Ends K → Option K
  on_from a = hull_reached o a.normal a.continues

  -- the rest of a round after its body
  abbrev Rest : Ends K → Option K → List Held → Type 0
  Rest a on head = (frame : Frame) (w : State) → In (on_from a) head frame w → HoldsOf (Back on head) (execute_from s 0 third frame w)

  after_body : (a : Ends K) (on : Option K) (head : List Held) → Rest a on head → (d : Done) (w : State) → WentAs head a d w → HoldsOf (Back on head) (before_third d.flow d.frame w (λ frame w. execute_from s 0 third frame w))
  after_body a on head rest d w k = of d.flow d.frame k.ready k.as_said
    where
      of : (flow : Flow) (frame : Frame) → StandsSoundly p f.variables n frame w → LeavesAs D a head flow frame.held → HoldsOf (Back on head) (before_third flow frame w (λ frame w. execute_from s 0 third frame w))
      of normal frame r k = rest frame w (record { ready = r; described = left_kept p n depth number f K o D law head a.normal a.continues frame.held k })
      of continued frame r k = rest frame w (record { ready = r; described = right_kept p n depth number f K o D law head a.normal a.continues frame.held k })
      of broken frame r k = tt
      of (returned x) frame r k = tt

  round_on : (e on : Option K) (head : List Held) → Rest (where_going e (λ e. walk o body e)) on head → (frame : Frame) (w : State) → In e head frame w → HoldsOf (Back on head) (round s third body frame w)
  round_on None on head rest frame w r = absurd r.described
  round_on (Some e) on head rest frame w r =
      holds_then (WentAs head (walk o body e)) (Back on head) (execute s body frame w) _
      (statement_goes p whole n depth number f there K o D law head body scope true b body_whole once e frame w r.ready r.described) (λ d w k. after_body (walk o body e) on head rest d w k)

  -- ## Turns

  module _ (rank : List Held → ℤ) where
    -- the three facts about a round
    pub record Falls (r : Round K) : Type 0 where
      pub again : (head held : List Held) → Maybe D r.back head held → D h held held
      pub positive : (head : List Held) → Maybe D r.enters head head → pos 1 ≤ℤ rank head
      pub falls : (head held : List Held) → Maybe D r.back head held → rank held ≤ℤ (rank head -ℤ pos 1)

    abbrev turn : LoopKeyword → Round K
    turn keyword = round_of o keyword tested third body h

    -- at a test of a `while` or a `for` the rank is at most the turns that are left, and where the body is entered at most one more
    abbrev WhileTested : ℕ → Frame → State → Type 0
    WhileTested k frame w = In (Some h) frame.held frame w × (rank frame.held ≤ℤ pos k)

    abbrev WhileEntered : ℕ → Frame → State → Type 0
    WhileEntered j frame w = In (turn While).enters frame.held frame w × (rank frame.held ≤ℤ pos (suc j))

    while_tests : Falls (turn While) → (k : ℕ) (frame : Frame) (w : State) → WhileTested k frame w → HoldsOf (λ more w. more ≡ true → WithLeft k (λ j. WhileEntered j frame w)) (test s tested frame w)
    while_tests r k frame w q = holds_weaker (WhereTrue (turn While).enters frame.held frame) (λ more w. more ≡ true → WithLeft k (λ j. WhileEntered j frame w)) (test s tested frame w)
        (test_on (Some h) frame.held frame w q.0)
        (λ more w t e. with_left k (rank frame.held) (λ j. WhileEntered j frame w) (r.positive frame.held (t e).described) q.1 (λ j u. (t e, u)))

    while_rounds : Falls (turn While) → (j : ℕ) (frame : Frame) (w : State) → WhileEntered j frame w → HoldsOf (λ (d : Done) w. OnBack d.flow (WhileTested j d.frame w)) (round s third body frame w)
    while_rounds r j frame w q = holds_weaker (Back (turn While).back frame.held) (λ (d : Done) w. OnBack d.flow (WhileTested j d.frame w)) (round s third body frame w)
        (round_on (turn While).enters (turn While).back frame.held (λ frame2 w k. third_on (on_from (where_going (turn While).enters (λ e. walk o body e))) frame.held frame2 w k) frame w q.0)
        (λ d w g. on_back (In (turn While).back frame.held d.frame w) (WhileTested j d.frame w) d.flow (λ i. (
          record { ready = i.ready; described = r.again frame.held d.frame.held i.described },
          one_less (rank d.frame.held) (rank frame.held) j (r.falls frame.held d.frame.held i.described) q.1,
        )) g)

    -- at a test of a `do` the head was before the body
    record DoTested (k : ℕ) (frame : Frame) (w : State) : Type 0 where
      head : List Held
      is_in : In (on_from (walk o body h)) head frame w
      ranked : rank head ≤ℤ pos (suc k)

    abbrev DoEntered : ℕ → Frame → State → Type 0
    DoEntered j frame w = In (Some h) frame.held frame w × (rank frame.held ≤ℤ pos (suc j))

    do_tests : Falls (turn Do) → (k : ℕ) (frame : Frame) (w : State) → DoTested k frame w → HoldsOf (λ more w. more ≡ true → WithLeft k (λ j. DoEntered j frame w)) (test s tested frame w)
    do_tests r k frame w q = holds_weaker (WhereTrue (turn Do).back q.head frame) (λ more w. more ≡ true → WithLeft k (λ j. DoEntered j frame w)) (test s tested frame w)
        (test_on (on_from (walk o body h)) q.head frame w q.is_in)
        (λ more w t e.
        let i : In (Some h) frame.held frame w = record { ready = (t e).ready; described = r.again q.head frame.held (t e).described } in
        with_left k (rank frame.held) (λ j. DoEntered j frame w) (r.positive frame.held i.described) (one_less (rank frame.held) (rank q.head) k (r.falls q.head frame.held (t e).described) q.ranked) (λ j u. (i, u)))

    do_rounds : ((frame : Frame) (w : State) → execute_from s 0 third frame w ≡ goes frame w) → (j : ℕ) (frame : Frame) (w : State) → DoEntered j frame w → HoldsOf (λ (d : Done) w. OnBack d.flow (DoTested j d.frame w)) (round s third body frame w)
    do_rounds third_is j frame w q = holds_weaker (Back (on_from (walk o body h)) frame.held) (λ (d : Done) w. OnBack d.flow (DoTested j d.frame w)) (round s third body frame w)
        (round_on (Some h) (on_from (walk o body h)) frame.held (λ frame2 w k. subst (λ run. HoldsOf (Back (on_from (walk o body h)) frame.held) run) (sym (third_is frame2 w)) k) frame w q.0)
        (λ d w g. on_back (In (on_from (walk o body h)) frame.held d.frame w) (DoTested j d.frame w) d.flow (λ i. record { head = frame.held; is_in = i; ranked = q.1 }) g)

    -- a loop by its keyword
    pub loop_enters : (keyword : LoopKeyword) → (keyword ≡ Do → third ≡ no_statements) → Falls (turn keyword) → (k : ℕ) (frame : Frame) (w : State) → In (Some h) frame.held frame w → rank frame.held ≤ℤ pos k →
        EntersAtMost keyword k (test s tested) (round s third body) frame w
    loop_enters While no_clause r k frame w q m = enters WhileTested WhileEntered (test s tested) (round s third body) (while_tests r) (while_rounds r) While k frame w (q, m)
    loop_enters For no_clause r k frame w q m =
        let falls : Falls (turn While) = record { again = r.again; positive = r.positive; falls = r.falls } in
        enters WhileTested WhileEntered (test s tested) (round s third body) (while_tests falls) (while_rounds falls) For k frame w (q, m)
    loop_enters Do no_clause r k frame w q m = enters DoTested DoEntered (test s tested) (round s third body) (do_tests r) (do_rounds (λ frame w. ap (λ t. execute_from s 0 t frame w) (no_clause refl))) Do k frame w
        (with_left k (rank frame.held) (λ j. DoEntered j frame w) (r.positive frame.held q.described) m (λ j u. (q, u)))

-- ## The law

pub ranks_bound_turns : (p : PlainProgram) → IsWholeProgram p → (n : ℕ) (depth : Depth) (number : ℕ) (f : PlainFunction) → slice_get p.functions number ≡ Some f →
    (K : Type 0) (o : Operations K) (D : K → List Held → List Held → Type 0) → IsSound p n depth number f K o D → RanksBoundTurns p n depth number f K o D
ranks_bound_turns p whole n depth number f there K o D law scope l b t i once h rank ranks k frame w ready d least =
    let same = region_after_all p whole number f there t.first scope l b in
    loop_enters p whole n depth number f there K o D law (scope_after_all t.first scope) l b t.tested t.third t.body
    (subst (λ r. IsMaybeTest (around r) t.tested) same i.1) (subst (λ r. AreWholeStatements r t.third) same i.2) (third_expressions t.head.keyword t.first t.tested t.third i.4) (third_declares t.head.keyword t.first t.tested t.third i.4)
    (subst (λ (r : Region). IsWholeStatement (record r { in_loop = true }) t.body) same i.3) once h rank t.head.keyword (no_third t.head.keyword t.first t.tested t.third i.4)
    (record { again = ranks.again; positive = ranks.positive; falls = ranks.falls }) k frame w (record { ready = ready; described = d }) least
