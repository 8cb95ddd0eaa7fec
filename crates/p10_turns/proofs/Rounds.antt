-- Rounds of a loop under a claim: from where its body is entered to where it goes back, with what the head had; and how often they come.
use Rattle.std.proofs.Common.{◌≡◌, ℕ, zero, suc, Bool, true, false, List, [], ◌++◌, refl, ◌∙◌, ap, sym, subst, Option, Some, None, slice_get, ℤ, pos, ◌+ℤ◌, ◌≤ℤ◌, arith}
use Rattle.std.proofs.lemmas.Int.{ints}
use Rattle.p10_core.specs.declared.statements.LoopKeyword.{LoopKeyword}
use Rattle.p10_core.specs.declared.statements.LoopKeyword.TheVariants.{While, Do, For}
use Rattle.p10_core.specs.Typed.{PlainValue, PlainStatement, PlainStatements, no_statements, PlainFunction, PlainProgram}
use Rattle.p10_core.specs.WholePrograms.{around, is_expression, AllOf, declared_in, declared_of, is_among, is_declaration, IsMaybeTest, IsWholeStatement, AreWholeStatements, IsWholeProgram}
use Rattle.p10_cert.specs.Claims.{Value, Loop, Claims}
use Rattle.p10_meaning.specs.States.{State}
use Rattle.p10_meaning.specs.Values.{Setting, Held}
use Rattle.p10_meaning.specs.Statements.{Frame, Flow, normal, broken, continued, returned, Done, goes, test, before_third, execute, execute_from, round}
use Rattle.p10_meaning.specs.Calling.{Depth, setting_of, call_at}
use Rattle.p10_meaning.specs.Sound.{region_at}
use Rattle.p10_sums.specs.Keeping.{HoldsOf, OnGives, OnBack, LoopKeeps}
use Rattle.p10_absx.specs.Environments.{Environment, hull_reached}
use Rattle.p10_pass.specs.Claiming.{head_of, ranges_hold_reached}
use Rattle.p10_pass.specs.Passing.{Left, Manner, manner_in, where_going, tested_in, tested_reached, Round, round_of, pass_statement, pass_statements}
use Rattle.p10_evaluation.specs.Claimed.{ResultsLie}
use Rattle.p10_evaluation.proofs.Hulls.{reached_left, reached_right}
use Rattle.p10_execution.specs.Scoping.{KnowsNumbers, IsBefore}
use Rattle.p10_execution.specs.Standing.{StandsSoundly}
use Rattle.p10_execution.specs.Leaving.{NoneFails, LeavesAs}
use Rattle.p10_execution.proofs.Giving.{holds_then, holds_weaker}
use Rattle.p10_execution.proofs.Entries.{changed_knows}
use Rattle.p10_execution.proofs.Ends.{nothing_left, nothing_right}
use Rattle.p10_execution.proofs.Heads.{head_describes}
use Rattle.p10_execution.proofs.ScopedEnds.{nothing, Scoped, MaybeScoped, EndsScoped, scoped_here, reached_scoped, changed_scope, before_same, before_scoped, before_nothing, ends_wider}
use Rattle.p10_execution.proofs.TopDeclarations.{declares_here, declares_at_top, top_is_declared, not_here}
use Rattle.p10_execution.proofs.PassedScopes.{RoundScoped, round_scope, statement_scoped, statements_scoped}
use Rattle.p10_execution.proofs.Expressions.{IsQuiet, expressions_quiet, going_quiet}
use Rattle.p10_turns.specs.Entrances.{EntersAtMost}
use Rattle.p10_turns.specs.Ranked.{is_ranked, PartsHold}
use Rattle.p10_turns.proofs.Ranks.{rank_of_frame, enters_positive, back_falls, RankHolds}
use Rattle.p10_turns.proofs.Entering.{WithLeft, on_back, enters, loop_keeps}
use Rattle.p10_turns.proofs.Clauses.{IsIn, Went, GoesTo, WhereTrue, test_on, statement_goes, expressions_goes}

-- where the test is passed: at the head, and in a `do` after the body
abbrev pub test_entry : LoopKeyword → Environment → Round → Option Environment
test_entry While head r = Some head
test_entry For head r = Some head
test_entry Do head r = hull_reached r.body.normal r.body.continues

-- where the third clause is passed: after the body
abbrev pub third_entry : Round → Option Environment
third_entry r = hull_reached r.body.normal r.body.continues

-- execution that goes on with the next statement goes back
normal_back : (P : Type 0) (flow : Flow) → flow ≡ normal → P → OnBack flow P
normal_back P normal e h = h
normal_back P broken e h = tt
normal_back P continued e h = h
normal_back P (returned x) e h = tt

-- a turn of k is left where the rank is at least 1 and at most k
with_left : (k : ℕ) (z : ℤ) (P : ℕ → Type 0) → pos 1 ≤ℤ z → z ≤ℤ pos k → ((j : ℕ) → z ≤ℤ pos (suc j) → P j) → WithLeft k P
with_left zero z P a b f = absurd (omega (arith, ints, a, b))
with_left (suc j) z P a b f = f j b

one_less : (now before : ℤ) (j : ℕ) → (pos 1 +ℤ now) ≤ℤ before → before ≤ℤ pos (suc j) → now ≤ℤ pos j
one_less now before j a b = omega (arith, ints, a, b)

-- statements that declare nothing declare no variable themselves
top_nothing : (xs : PlainStatements) (n : ℕ) → declared_of xs ≡ [] → declares_at_top n xs ≡ false
top_nothing xs n e = by_case (declares_at_top n xs) refl
  where
    by_case : (t : Bool) → declares_at_top n xs ≡ t → declares_at_top n xs ≡ false
    by_case true q = let yes : is_among n (declared_of xs) ≡ true = top_is_declared n xs q in let none : is_among n (declared_of xs) ≡ false = ap (is_among n) e in absurd cc
    by_case false q = q

module _ (p : PlainProgram) (whole : IsWholeProgram p) (n : ℕ) (depth : Depth) (number : ℕ) (f : PlainFunction) (there : slice_get p.functions number ≡ Some f)
    (calls : Option Claims) (loops : Option (List Loop)) (result : Option Value) (lie : ResultsLie p calls n (call_at n p depth))
    (scope : List ℕ) (l b : Bool) (tested : Option PlainValue) (third : PlainStatements) (body : PlainStatement)
    (test_whole : IsMaybeTest (around (region_at p number f scope false false)) tested) (third_whole : AreWholeStatements (region_at p number f scope l b) third) (expressions : AllOf is_expression third) (no_declarations : declared_of third ≡ [])
    (body_whole : IsWholeStatement (region_at p number f scope true b) body) (statement_alone : is_declaration body ≡ false) (claim : Loop) (entry : Environment) (before : IsBefore f.variables (declared_in body) entry) where
  abbrev pub s : Setting
  s = setting_of p n (call_at n p) depth f

  abbrev pub m : Manner
  m = manner_in f calls loops result

  abbrev pub In : Option Environment → List Held → Frame → State → Type 0
  In o head frame w = IsIn p whole n depth number f there calls loops result lie o head frame w

  abbrev pub at_head : Environment
  at_head = head_of claim f.variables entry

  abbrev pub turn : LoopKeyword → Round
  turn keyword = round_of m keyword tested (λ env. pass_statements m third env) (λ env. pass_statement m body env) at_head

  -- ## Scopes

  head_knows : KnowsNumbers f.variables at_head
  head_knows = (before_same f.variables (declared_in body) entry at_head before (changed_scope f.variables _ entry)).knows

  before_here : (e : Environment) → Scoped f.variables nothing at_head e → IsBefore f.variables (declared_in body) e
  before_here e h = before_scoped f.variables nothing (declared_in body) at_head e (before_same f.variables (declared_in body) entry at_head before (changed_scope f.variables _ entry)) h (λ k o. refl)

  pub turn_scoped : (keyword : LoopKeyword) → RoundScoped f.variables calls loops result at_head (turn keyword)
  turn_scoped keyword = round_scope f.variables calls loops result tested (λ env. pass_statements m third env) (λ env. pass_statement m body env) at_head head_knows third_ends body_ends keyword
    where
      third_ends : (e : Environment) → Scoped f.variables nothing at_head e → EndsScoped f.variables nothing e (pass_statements m third e)
      third_ends e h = ends_wider f.variables (λ k. declares_at_top k third) nothing e (pass_statements m third e) (λ k o. top_nothing third k no_declarations)
          (statements_scoped f.variables calls loops result (region_at p number f scope l b) third third_whole e (before_nothing f.variables (declared_of third) e no_declarations h.knows))

      body_ends : (e : Environment) → Scoped f.variables nothing at_head e → EndsScoped f.variables nothing e (pass_statement m body e)
      body_ends e h = ends_wider f.variables (λ k. declares_here k body) nothing e (pass_statement m body e) (λ k o. not_here k body statement_alone)
          (statement_scoped f.variables calls loops result (region_at p number f scope true b) body body_whole e (before_here e h))

  -- ## Parts of a round

  -- where execution goes back an environment describes the frame, where the head had some values
  abbrev pub Back : Option Environment → List Held → Done → State → Type 0
  Back on head d w = OnBack d.flow (In on head d.frame w)

  third_on : (o : Option Environment) → MaybeScoped f.variables nothing at_head o → NoneFails (where_going o (λ env. pass_statements m third env)) → (head : List Held) (frame : Frame) (w : State) → In o head frame w →
      HoldsOf (Back (where_going o (λ env. pass_statements m third env)).normal head) (execute_from s 0 third frame w)
  third_on None scoped none head frame w h = absurd h.describes
  third_on (Some e) scoped none head frame w h =
      holds_weaker (GoesTo p whole n depth number f there calls loops result lie (pass_statements m third e).normal head) (Back (pass_statements m third e).normal head) (execute_from s 0 third frame w)
      (expressions_goes p whole n depth number f there calls loops result lie scope l b third third_whole expressions no_declarations e scoped.knows none head frame w h)
      (λ d w g. normal_back (In (pass_statements m third e).normal head d.frame w) d.flow g.1 g.0)

  -- where a body goes on
  abbrev on_from : Left → Option Environment
  on_from a = hull_reached a.normal a.continues

  -- the rest of a round after its body
  abbrev Rest : Left → Option Environment → List Held → Type 0
  Rest a on head = (frame : Frame) (w : State) → In (on_from a) head frame w → HoldsOf (Back on head) (execute_from s 0 third frame w)

  after_body : (a : Left) (on : Option Environment) (head : List Held) → Rest a on head → (d : Done) (w : State) → Went p whole n depth number f there calls loops result lie a head d w →
      HoldsOf (Back on head) (before_third d.flow d.frame w (λ frame w. execute_from s 0 third frame w))
  after_body a on head rest d w h = of d.flow d.frame h.ready h.as_said
    where
      of : (flow : Flow) (frame : Frame) → StandsSoundly p f.variables n frame w → LeavesAs f.variables m a head flow frame.held → HoldsOf (Back on head) (before_third flow frame w (λ frame w. execute_from s 0 third frame w))
      of normal frame r h = rest frame w (record { ready = r; describes = reached_left f.variables a.normal a.continues head frame.held h })
      of continued frame r h = rest frame w (record { ready = r; describes = reached_right f.variables a.normal a.continues head frame.held h })
      of broken frame r h = tt
      of (returned x) frame r h = tt

  -- a round from where its body is entered
  round_on : (o on : Option Environment) (head : List Held) → MaybeScoped f.variables nothing at_head o → NoneFails (where_going o (λ env. pass_statement m body env)) → Rest (where_going o (λ env. pass_statement m body env)) on head →
      (frame : Frame) (w : State) → In o head frame w → HoldsOf (Back on head) (round s third body frame w)
  round_on None on head scoped none rest frame w h = absurd h.describes
  round_on (Some e) on head scoped none rest frame w h =
      holds_then (Went p whole n depth number f there calls loops result lie (pass_statement m body e) head) (Back on head) (execute s body frame w) _
      (statement_goes p whole n depth number f there calls loops result lie scope true b body body_whole e (before_here e scoped) none head frame w h)
      (λ d w g. after_body (pass_statement m body e) on head rest d w g)

  -- ## Rounds

  -- `while` and `for`: the test at the head, and the round from where it is true
  while_test : PartsHold (turn While) → (frame : Frame) (w : State) → In (Some at_head) frame.held frame w → HoldsOf (WhereTrue p whole n depth number f there calls loops result lie (turn While).enters frame.held frame) (test s tested frame w)
  while_test holds frame w h = test_on p whole n depth number f there calls loops result lie scope tested test_whole (Some at_head) frame.held frame w (nothing_left (tested_in m tested at_head).names _ holds.calls) h

  -- nothing fails in its body and in its third clause
  record WhileParts : Type 0 where
    none_body : NoneFails (turn While).body
    none_third : NoneFails (where_going (on_from (turn While).body) (λ env. pass_statements m third env))

  while_parts : PartsHold (turn While) → WhileParts
  while_parts holds = record {
    none_body = record { arguments = nothing_right c.arguments a.arguments after_test; results = holds.results; entries = holds.entries; backs = holds.backs };
    none_third = record { arguments = nothing_left c.arguments a.arguments after_test; results = quiet.results; entries = quiet.entries; backs = quiet.backs };
  }
    where
      a : Left
      a = (turn While).body

      c : Left
      c = where_going (on_from a) (λ env. pass_statements m third env)

      after_test : c.arguments ++ a.arguments ≡ []
      after_test = nothing_right (tested_in m tested at_head).names (c.arguments ++ a.arguments) holds.calls

      quiet : IsQuiet c
      quiet = going_quiet m (on_from a) (λ env. pass_statements m third env) (λ env. expressions_quiet m third expressions env)

  -- where a body that is entered at the head goes on
  on_ends : (keyword : LoopKeyword) → MaybeScoped f.variables nothing at_head (on_from (turn keyword).body)
  on_ends keyword = let scoped = turn_scoped keyword in reached_scoped f.variables nothing at_head (turn keyword).body.normal (turn keyword).body.continues scoped.body.normal scoped.body.continues

  while_round : PartsHold (turn While) → (frame : Frame) (w : State) → In (turn While).enters frame.held frame w → HoldsOf (Back (turn While).back frame.held) (round s third body frame w)
  while_round holds frame w h =
      let parts : WhileParts = while_parts holds in
      round_on (turn While).enters (turn While).back frame.held (turn_scoped While).enters parts.none_body (λ frame2 w h. third_on (on_from (turn While).body) (on_ends While) parts.none_third frame.held frame2 w h) frame w h

  -- `do`, which has no third clause: the round from the head, and the test after its body
  abbrev pub on_body : Option Environment
  on_body = on_from (pass_statement m body at_head)

  do_test : PartsHold (turn Do) → (head : List Held) (frame : Frame) (w : State) → In on_body head frame w → HoldsOf (WhereTrue p whole n depth number f there calls loops result lie (turn Do).back head frame) (test s tested frame w)
  do_test holds head frame w h = test_on p whole n depth number f there calls loops result lie scope tested test_whole on_body head frame w (nothing_right (pass_statement m body at_head).arguments _ holds.calls) h

  do_body : PartsHold (turn Do) → NoneFails (pass_statement m body at_head)
  do_body holds = record { arguments = nothing_left (pass_statement m body at_head).arguments (tested_reached m tested on_body).names holds.calls; results = holds.results; entries = holds.entries; backs = holds.backs }

  do_round : ((frame : Frame) (w : State) → execute_from s 0 third frame w ≡ goes frame w) → PartsHold (turn Do) → (frame : Frame) (w : State) → In (Some at_head) frame.held frame w → HoldsOf (Back on_body frame.held) (round s third body frame w)
  do_round third_is holds frame w h = round_on (Some at_head) on_body frame.held (scoped_here f.variables nothing at_head head_knows) (do_body holds)
      (λ frame2 w h. subst (λ o. HoldsOf (Back on_body frame.held) o) (sym (third_is frame2 w)) h) frame w h

  -- K7: a way back leads to the head
  to_head : (o : Option Environment) → MaybeScoped f.variables nothing at_head o → ranges_hold_reached claim f.variables o ≡ true → (head : List Held) (frame : Frame) (w : State) → In o head frame w → In (Some at_head) frame.held frame w
  to_head None scoped k head frame w h = absurd h.describes
  to_head (Some env) scoped k head frame w h = record {
    ready = h.ready;
    describes = head_describes claim f.variables entry env head frame.held (λ k e. scoped.same k refl ∙ (changed_knows _ 0 f.variables entry k ∙ e)) k h.describes;
  }

  -- ## Turns with a rank

  abbrev pub rank_at : Frame → ℤ
  rank_at frame = rank_of_frame claim.rank frame.held

  -- at a test of a `while` or a `for` the rank is at most the turns that are left, and where the body is entered at most one more
  abbrev WhileTested : ℕ → Frame → State → Type 0
  WhileTested k frame w = In (Some at_head) frame.held frame w × (rank_at frame ≤ℤ pos k)

  abbrev WhileEntered : ℕ → Frame → State → Type 0
  WhileEntered j frame w = In (turn While).enters frame.held frame w × (rank_at frame ≤ℤ pos (suc j))

  while_enters : is_ranked claim.rank ≡ true → PartsHold (turn While) → ranges_hold_reached claim f.variables (turn While).back ≡ true → RankHolds claim entry (turn While) → (k : ℕ) (frame : Frame) (w : State) → WhileTested k frame w →
      EntersAtMost While k (test s tested) (round s third body) frame w
  while_enters ranked holds again rank k frame w h = enters WhileTested WhileEntered (test s tested) (round s third body) tests rounds While k frame w h
    where
      tests : (k : ℕ) (frame : Frame) (w : State) → WhileTested k frame w → HoldsOf (λ more w. more ≡ true → WithLeft k (λ j. WhileEntered j frame w)) (test s tested frame w)
      tests k frame w h = holds_weaker (WhereTrue p whole n depth number f there calls loops result lie (turn While).enters frame.held frame) (λ more w. more ≡ true → WithLeft k (λ j. WhileEntered j frame w)) (test s tested frame w)
          (while_test holds frame w h.0)
          (λ more w t e. with_left k (rank_at frame) (λ j. WhileEntered j frame w) (enters_positive f.variables frame.held frame.held claim.rank (turn While).enters rank.enters (t e).describes) h.1 (λ j r. (t e, r)))

      rounds : (j : ℕ) (frame : Frame) (w : State) → WhileEntered j frame w → HoldsOf (λ (d : Done) w. OnBack d.flow (WhileTested j d.frame w)) (round s third body frame w)
      rounds j frame w h = holds_weaker (Back (turn While).back frame.held) (λ (d : Done) w. OnBack d.flow (WhileTested j d.frame w)) (round s third body frame w) (while_round holds frame w h.0)
          (λ d w g. on_back (In (turn While).back frame.held d.frame w) (WhileTested j d.frame w) d.flow (λ i. (
            to_head (turn While).back (turn_scoped While).back again frame.held d.frame w i,
            one_less (rank_at d.frame) (rank_at frame) j (back_falls f.variables frame.held d.frame.held claim.rank (turn While).back ranked rank.back i.describes) h.1,
          )) g)

  -- at a test of a `do` the head was before the body
  record DoTested (k : ℕ) (frame : Frame) (w : State) : Type 0 where
    head : Frame
    is_in : In on_body head.held frame w
    rank : rank_at head ≤ℤ pos (suc k)

  abbrev pub DoEntered : ℕ → Frame → State → Type 0
  DoEntered j frame w = In (Some at_head) frame.held frame w × (rank_at frame ≤ℤ pos (suc j))

  do_enters : ((frame : Frame) (w : State) → execute_from s 0 third frame w ≡ goes frame w) → is_ranked claim.rank ≡ true → PartsHold (turn Do) → ranges_hold_reached claim f.variables (turn Do).back ≡ true → RankHolds claim entry (turn Do) →
      (k : ℕ) (frame : Frame) (w : State) → WithLeft k (λ j. DoEntered j frame w) → EntersAtMost Do k (test s tested) (round s third body) frame w
  do_enters third_is ranked holds again rank k frame w h = enters DoTested DoEntered (test s tested) (round s third body) tests rounds Do k frame w h
    where
      tests : (k : ℕ) (frame : Frame) (w : State) → DoTested k frame w → HoldsOf (λ more w. more ≡ true → WithLeft k (λ j. DoEntered j frame w)) (test s tested frame w)
      tests k frame w h = holds_weaker (WhereTrue p whole n depth number f there calls loops result lie (turn Do).back h.head.held frame) (λ more w. more ≡ true → WithLeft k (λ j. DoEntered j frame w)) (test s tested frame w)
          (do_test holds h.head.held frame w h.is_in)
          (λ more w t e.
          let i : In (Some at_head) frame.held frame w = to_head (turn Do).back (turn_scoped Do).back again h.head.held frame w (t e) in
          with_left k (rank_at frame) (λ j. DoEntered j frame w) (enters_positive f.variables frame.held frame.held claim.rank (Some at_head) rank.enters i.describes)
          (one_less (rank_at frame) (rank_at h.head) k (back_falls f.variables h.head.held frame.held claim.rank (turn Do).back ranked rank.back (t e).describes) h.rank) (λ j r. (i, r)))

      rounds : (j : ℕ) (frame : Frame) (w : State) → DoEntered j frame w → HoldsOf (λ (d : Done) w. OnBack d.flow (DoTested j d.frame w)) (round s third body frame w)
      rounds j frame w h = holds_weaker (Back on_body frame.held) (λ (d : Done) w. OnBack d.flow (DoTested j d.frame w)) (round s third body frame w) (do_round third_is holds frame w h.0)
          (λ d w g. on_back (In on_body frame.held d.frame w) (DoTested j d.frame w) d.flow (λ i. record { head = frame; is_in = i; rank = h.1 }) g)

  -- a loop by its keyword
  pub loop_enters : (keyword : LoopKeyword) → (keyword ≡ Do → third ≡ no_statements) → is_ranked claim.rank ≡ true → PartsHold (turn keyword) →
      ranges_hold_reached claim f.variables (turn keyword).back ≡ true → RankHolds claim entry (turn keyword) → (k : ℕ) (frame : Frame) (w : State) → In (Some at_head) frame.held frame w → rank_at frame ≤ℤ pos k →
      EntersAtMost keyword k (test s tested) (round s third body) frame w
  loop_enters While no_clause ranked holds again rank k frame w h r = while_enters ranked holds again rank k frame w (h, r)
  loop_enters For no_clause ranked holds again rank k frame w h r = while_enters ranked holds again (record { enters = rank.enters; back = rank.back; enough = rank.enough }) k frame w (h, r)
  loop_enters Do no_clause ranked holds again rank k frame w h r = do_enters (λ frame w. ap (λ t. execute_from s 0 t frame w) (no_clause refl)) ranked holds again rank k frame w
      (with_left k (rank_at frame) (λ j. DoEntered j frame w) (enters_positive f.variables frame.held frame.held claim.rank (Some at_head) rank.enters h.describes) r (λ j r. (h, r)))

  -- ## What a loop keeps

  -- something holds of each frame that one environment describes, if there is one
  abbrev pub OnIn : Option Environment → (Environment → Type 0) → (Frame → State → Type 0) → Type 0
  OnIn o Fine Keeps = (e : Environment) → o ≡ Some e → Fine e → (head : List Held) (frame : Frame) (w : State) → In (Some e) head frame w → Keeps frame w

  -- what is known of the environment in which the test, the body or the third clause is passed
  abbrev pub FineTest : Environment → Type 0
  FineTest e = (tested_in m tested e).names ≡ []

  abbrev pub FineBody : Environment → Type 0
  FineBody e = IsBefore f.variables (declared_in body) e × NoneFails (pass_statement m body e)

  abbrev pub FineThird : Environment → Type 0
  FineThird e = KnowsNumbers f.variables e × NoneFails (pass_statements m third e)

  some_scoped : (o : Option Environment) (e : Environment) → o ≡ Some e → MaybeScoped f.variables nothing at_head o → Scoped f.variables nothing at_head e
  some_scoped None e q h = absurd cc
  some_scoped (Some other) e q h = let same : other ≡ e = cc in subst (λ e. Scoped f.variables nothing at_head e) same h

  -- a frame after the body of a `do`
  record OnBody (frame : Frame) (w : State) : Type 0 where
    head : List Held
    is_in : In on_body head frame w

  on_in : (o : Option Environment) (Fine : Environment → Type 0) (Keeps : Frame → State → Type 0) → ((e : Environment) → o ≡ Some e → Fine e) → OnIn o Fine Keeps → (head : List Held) (frame : Frame) (w : State) → In o head frame w → Keeps frame w
  on_in None Fine Keeps fine k head frame w h = absurd h.describes
  on_in (Some e) Fine Keeps fine k head frame w h = k e refl (fine e refl) head frame w h

  module _ (TestKeeps BodyKeeps ThirdKeeps : Frame → State → Type 0) where
    -- what a round keeps: the body, and the third clause after it
    abbrev pub RoundKeeps : Frame → State → Type 0
    RoundKeeps frame w = BodyKeeps frame w × OnGives (λ (d : Done) w. OnBack d.flow (ThirdKeeps d.frame w)) (execute s body frame w)

    third_kept : (a : Left) (head : List Held) → ((frame : Frame) (w : State) → In (on_from a) head frame w → ThirdKeeps frame w) → (d : Done) (w : State) → Went p whole n depth number f there calls loops result lie a head d w → OnBack d.flow (ThirdKeeps d.frame w)
    third_kept a head k d w h = of d.flow d.frame h.ready h.as_said
      where
        of : (flow : Flow) (frame : Frame) → StandsSoundly p f.variables n frame w → LeavesAs f.variables m a head flow frame.held → OnBack flow (ThirdKeeps frame w)
        of normal frame r h = k frame w (record { ready = r; describes = reached_left f.variables a.normal a.continues head frame.held h })
        of continued frame r h = k frame w (record { ready = r; describes = reached_right f.variables a.normal a.continues head frame.held h })
        of broken frame r h = tt
        of (returned x) frame r h = tt

    -- a round that is entered keeps these
    round_kept : (o : Option Environment) → MaybeScoped f.variables nothing at_head o → NoneFails (where_going o (λ env. pass_statement m body env)) → OnIn o FineBody BodyKeeps →
        ((head : List Held) (frame : Frame) (w : State) → In (on_from (where_going o (λ env. pass_statement m body env))) head frame w → ThirdKeeps frame w) → (frame : Frame) (w : State) → In o frame.held frame w → RoundKeeps frame w
    round_kept None scoped none bodies thirds frame w h = absurd h.describes
    round_kept (Some e) scoped none bodies thirds frame w h = (
      bodies e refl (before_here e scoped, none) frame.held frame w h,
      record {
        given = holds_weaker (Went p whole n depth number f there calls loops result lie (pass_statement m body e) frame.held) (λ (d : Done) w. OnBack d.flow (ThirdKeeps d.frame w)) (execute s body frame w)
            (statement_goes p whole n depth number f there calls loops result lie scope true b body body_whole e (before_here e scoped) none frame.held frame w h)
            (λ d w g. third_kept (pass_statement m body e) frame.held (thirds frame.held) d w g);
      },
    )

    -- `while` and `for`
    while_keeps : PartsHold (turn While) → ranges_hold_reached claim f.variables (turn While).back ≡ true → OnIn (test_entry While at_head (turn While)) FineTest TestKeeps → OnIn (turn While).enters FineBody BodyKeeps → OnIn (third_entry (turn While)) FineThird ThirdKeeps →
        (k : ℕ) (frame : Frame) (w : State) → In (Some at_head) frame.held frame w → EntersAtMost While k (test s tested) (round s third body) frame w → LoopKeeps While k (test s tested) (round s third body) TestKeeps RoundKeeps frame w
    while_keeps holds again tests bodies thirds k frame w h often =
        loop_keeps (λ frame w. In (Some at_head) frame.held frame w) (λ frame w. In (turn While).enters frame.held frame w) TestKeeps RoundKeeps (test s tested) (round s third body) (λ frame w h. while_test holds frame w h)
        (λ frame w h. holds_weaker (Back (turn While).back frame.held) (λ (d : Done) w. OnBack d.flow (In (Some at_head) d.frame.held d.frame w)) (round s third body frame w) (while_round holds frame w h)
        (λ d w g. on_back (In (turn While).back frame.held d.frame w) (In (Some at_head) d.frame.held d.frame w) d.flow (λ i. to_head (turn While).back (turn_scoped While).back again frame.held d.frame w i) g))
        (λ frame w h. tests at_head refl (nothing_left (tested_in m tested at_head).names _ holds.calls) frame.held frame w h)
        (λ frame w h. round_kept (turn While).enters (turn_scoped While).enters parts.none_body bodies (λ head frame w i. on_in (third_entry (turn While)) FineThird ThirdKeeps (λ e q. fine_third e q) thirds head frame w i) frame w h) While k frame w h often
      where
        parts : WhileParts
        parts = while_parts holds

        fine_third : (e : Environment) → third_entry (turn While) ≡ Some e → FineThird e
        fine_third e q = ((some_scoped (third_entry (turn While)) e q (on_ends While)).knows, subst (λ o. NoneFails (where_going o (λ env. pass_statements m third env))) q parts.none_third)

    -- `do`, which has no third clause
    do_keeps : third ≡ no_statements → PartsHold (turn Do) → ranges_hold_reached claim f.variables (turn Do).back ≡ true → OnIn (test_entry Do at_head (turn Do)) FineTest TestKeeps → OnIn (turn Do).enters FineBody BodyKeeps → OnIn (third_entry (turn Do)) FineThird ThirdKeeps →
        (k : ℕ) (frame : Frame) (w : State) → In (Some at_head) frame.held frame w → EntersAtMost Do k (test s tested) (round s third body) frame w → LoopKeeps Do k (test s tested) (round s third body) TestKeeps RoundKeeps frame w
    do_keeps no_clause holds again tests bodies thirds k frame w h often =
        loop_keeps OnBody (λ frame w. In (Some at_head) frame.held frame w) TestKeeps RoundKeeps (test s tested) (round s third body)
        (λ frame w h. holds_weaker (WhereTrue p whole n depth number f there calls loops result lie (turn Do).back h.head frame) (λ more w. more ≡ true → In (Some at_head) frame.held frame w) (test s tested frame w) (do_test holds h.head frame w h.is_in)
        (λ more w t e. to_head (turn Do).back (turn_scoped Do).back again h.head frame w (t e)))
        (λ frame w h. holds_weaker (Back on_body frame.held) (λ (d : Done) w. OnBack d.flow (OnBody d.frame w)) (round s third body frame w) (do_round (λ frame w. ap (λ t. execute_from s 0 t frame w) no_clause) holds frame w h)
        (λ d w g. on_back (In on_body frame.held d.frame w) (OnBody d.frame w) d.flow (λ i. record { head = frame.held; is_in = i }) g))
        (λ frame w h. on_in on_body FineTest TestKeeps fine_test tests h.head frame w h.is_in)
        (λ frame w h. round_kept (Some at_head) (scoped_here f.variables nothing at_head head_knows) (do_body holds) bodies (λ head frame w i. on_in on_body FineThird ThirdKeeps fine_third thirds head frame w i) frame w h) Do k frame w h often
      where
        fine_test : (e : Environment) → on_body ≡ Some e → FineTest e
        fine_test e q = ap (λ o. (tested_reached m tested o).names) (sym q) ∙ nothing_right (pass_statement m body at_head).arguments _ holds.calls

        fine_third : (e : Environment) → on_body ≡ Some e → FineThird e
        fine_third e q = ((some_scoped on_body e q (on_ends Do)).knows, subst (λ t. NoneFails (pass_statements m t e)) (sym no_clause) (record { arguments = refl; results = refl; entries = refl; backs = refl }))

    -- a loop keeps what its parts keep, where it enters its body at most k times
    pub keeps_by_parts : (keyword : LoopKeyword) → (keyword ≡ Do → third ≡ no_statements) → PartsHold (turn keyword) → ranges_hold_reached claim f.variables (turn keyword).back ≡ true →
        OnIn (test_entry keyword at_head (turn keyword)) FineTest TestKeeps → OnIn (turn keyword).enters FineBody BodyKeeps → OnIn (third_entry (turn keyword)) FineThird ThirdKeeps →
        (k : ℕ) (frame : Frame) (w : State) → In (Some at_head) frame.held frame w → EntersAtMost keyword k (test s tested) (round s third body) frame w → LoopKeeps keyword k (test s tested) (round s third body) TestKeeps RoundKeeps frame w
    keeps_by_parts While no_clause holds again tests bodies thirds k frame w h often = while_keeps holds again tests bodies thirds k frame w h often
    keeps_by_parts For no_clause holds again tests bodies thirds k frame w h often =
        while_keeps (record { calls = holds.calls; results = holds.results; entries = holds.entries; backs = holds.backs }) again tests bodies thirds k frame w h often
    keeps_by_parts Do no_clause holds again tests bodies thirds k frame w h often = do_keeps (no_clause refl) holds again tests bodies thirds k frame w h often
