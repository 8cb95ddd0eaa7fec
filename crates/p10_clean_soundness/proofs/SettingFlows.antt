-- What is set where statements go on: the rules for parts in order, for one of two parts, for blocks, loops and `switch`.
use Rattle.std.proofs.Common.{◌≡◌, ℕ, zero, suc, Bool, true, false, List, [], None}
use Rattle.std.specs.Prelude.{is_none, if◌then◌else◌}
use Rattle.p10_core.specs.declared.statements.LoopKeyword.{LoopKeyword}
use Rattle.p10_core.specs.declared.statements.LoopKeyword.TheVariants.{While, Do, For}
use Rattle.p10_core.specs.Typed.{PlainLabels, PlainVariable}
use Rattle.p10_core.specs.WholePrograms.{is_among}
use Rattle.p10_meaning.specs.States.{State, Progress, and_then}
use Rattle.p10_meaning.specs.Values.{Held}
use Rattle.p10_meaning.specs.Statements.{Frame, Flow, normal, broken, continued, returned, Done, goes, go_on, in_block, leave_block, next_turn, turns, loop_by, before_third, after_switch as left_switch}
use Rattle.p10_sums.specs.Keeping.{HoldsOf}
use Rattle.p10_execution.proofs.Giving.{holds_then, holds_after, holds_if, holds_weaker}
use Rattle.p10_clean.specs.Settings.{Settings, on_both, Ways, goes_on, then_ways, either_ways, after_loop, after_switch, case_settings}
use Rattle.p10_clean_soundness.specs.private.Setting.{SetUp, SetsAs}
use Rattle.p10_clean_soundness.proofs.SettingUp.{set_left, set_right, less_scope, HasRoom}

-- ## One part after another

module _ (variables : List PlainVariable) where
  -- what is set where execution goes on, in a frame with room for all variables
  abbrev pub Sets : List ℕ → List ℕ → Ways → Done → State → Type 0
  Sets after scope ways d w = SetsAs variables after scope ways d.flow d.frame.held × HasRoom variables d.frame.held

  -- a piece of a run sets what it has to
  abbrev pub RunSets : List ℕ → List ℕ → Settings → Ways → (Frame → State → Progress Done) → Type 0
  RunSets after scope before ways run = (frame : Frame) (w : State) → SetUp variables scope before frame.held → HasRoom variables frame.held → HoldsOf (Sets after scope ways) (run frame w)

  -- less is in scope
  pub sets_narrower : (after wide_after scope wide : List ℕ) (a : Ways) (flow : Flow) (held : List Held) → ((n : ℕ) → is_among n after ≡ true → is_among n wide_after ≡ true) → ((n : ℕ) → is_among n scope ≡ true → is_among n wide ≡ true) → SetsAs variables wide_after wide a flow held → SetsAs variables after scope a flow held
  sets_narrower after wide_after scope wide a normal held h k s = less_scope variables after wide_after a.normal held h s
  sets_narrower after wide_after scope wide a broken held h k s = less_scope variables scope wide a.breaks held k s
  sets_narrower after wide_after scope wide a continued held h k s = less_scope variables scope wide a.continues held k s
  sets_narrower after wide_after scope wide a (returned x) held h k s = tt

  then_second : (after scope : List ℕ) (a b : Ways) (flow : Flow) (held : List Held) → SetsAs variables after scope b flow held → SetsAs variables after scope (then_ways a b) flow held
  then_second after scope a b normal held s = s
  then_second after scope a b broken held s = set_right variables scope a.breaks b.breaks held s
  then_second after scope a b continued held s = set_right variables scope a.continues b.continues held s
  then_second after scope a b (returned x) held s = tt

  -- the first part doesn't count where the second alone runs
  pub later_sets : (after scope : List ℕ) (a b : Ways) (o : Progress Done) → HoldsOf (Sets after scope b) o → HoldsOf (Sets after scope (then_ways a b)) o
  later_sets after scope a b o h = holds_weaker (Sets after scope b) (Sets after scope (then_ways a b)) o h (λ d w s. (then_second after scope a b d.flow d.frame.held s.0, s.1))

  going_on : (middle after scope : List ℕ) (a b : Ways) (rest : Frame → State → Progress Done) (frame : Frame) (w : State) (flow : Flow) → ((n : ℕ) → is_among n scope ≡ true → is_among n middle ≡ true) → RunSets after middle a.normal b rest → SetsAs variables middle scope a flow frame.held → HasRoom variables frame.held →
      HoldsOf (Sets after scope (then_ways a b)) (go_on flow frame w rest)
  going_on middle after scope a b rest frame w normal grows k s r = holds_weaker (Sets after middle b) (Sets after scope (then_ways a b)) (rest frame w) (k frame w s r)
      (λ d w h. (then_second after scope a b d.flow d.frame.held (sets_narrower after after scope middle b d.flow d.frame.held (λ n e. e) grows h.0), h.1))
  going_on middle after scope a b rest frame w broken grows k s r = (set_left variables scope a.breaks b.breaks frame.held s, r)
  going_on middle after scope a b rest frame w continued grows k s r = (set_left variables scope a.continues b.continues frame.held s, r)
  going_on middle after scope a b rest frame w (returned x) grows k s r = (tt, r)

  pub then_sets : (middle after scope : List ℕ) (a b : Ways) (o : Progress Done) (rest : Frame → State → Progress Done) → ((n : ℕ) → is_among n scope ≡ true → is_among n middle ≡ true) → HoldsOf (Sets middle scope a) o → RunSets after middle a.normal b rest →
      HoldsOf (Sets after scope (then_ways a b)) (and_then o (λ d w. go_on d.flow d.frame w rest))
  then_sets middle after scope a b o rest grows h k = holds_then (Sets middle scope a) (Sets after scope (then_ways a b)) o (λ d w. go_on d.flow d.frame w rest) h (λ d w s. going_on middle after scope a b rest d.frame w d.flow grows k s.0 s.1)

  -- ## One of two parts

  first_of_two : (scope : List ℕ) (a b : Ways) (flow : Flow) (held : List Held) → SetsAs variables scope scope a flow held → SetsAs variables scope scope (either_ways a b) flow held
  first_of_two scope a b normal held s = set_left variables scope a.normal b.normal held s
  first_of_two scope a b broken held s = set_left variables scope a.breaks b.breaks held s
  first_of_two scope a b continued held s = set_left variables scope a.continues b.continues held s
  first_of_two scope a b (returned x) held s = tt

  second_of_two : (scope : List ℕ) (a b : Ways) (flow : Flow) (held : List Held) → SetsAs variables scope scope b flow held → SetsAs variables scope scope (either_ways a b) flow held
  second_of_two scope a b normal held s = set_right variables scope a.normal b.normal held s
  second_of_two scope a b broken held s = set_right variables scope a.breaks b.breaks held s
  second_of_two scope a b continued held s = set_right variables scope a.continues b.continues held s
  second_of_two scope a b (returned x) held s = tt

  -- both leave as much in scope as is in scope before them
  pub first_sets : (after scope : List ℕ) (a b : Ways) (o : Progress Done) → ((n : ℕ) → is_among n scope ≡ true → is_among n after ≡ true) → HoldsOf (Sets after scope a) o → HoldsOf (Sets scope scope (either_ways a b)) o
  first_sets after scope a b o grows h = holds_weaker (Sets after scope a) (Sets scope scope (either_ways a b)) o h (λ d w s. (first_of_two scope a b d.flow d.frame.held (sets_narrower scope after scope scope a d.flow d.frame.held grows (λ n e. e) s.0), s.1))

  pub second_sets : (after scope : List ℕ) (a b : Ways) (o : Progress Done) → ((n : ℕ) → is_among n scope ≡ true → is_among n after ≡ true) → HoldsOf (Sets after scope b) o → HoldsOf (Sets scope scope (either_ways a b)) o
  second_sets after scope a b o grows h = holds_weaker (Sets after scope b) (Sets scope scope (either_ways a b)) o h (λ d w s. (second_of_two scope a b d.flow d.frame.held (sets_narrower scope after scope scope b d.flow d.frame.held grows (λ n e. e) s.0), s.1))

  -- ## Blocks

  pub block_sets : (after scope : List ℕ) (before : Settings) (a : Ways) (run : Frame → State → Progress Done) → ((n : ℕ) → is_among n scope ≡ true → is_among n after ≡ true) → RunSets after scope before a run → RunSets scope scope before a (in_block run)
  block_sets after scope before a run grows k frame w s r =
      holds_then (Sets after scope a) (Sets scope scope a) (run (record frame { opened = [] }) w) (λ d w. leave_block frame.opened d w) (k (record frame { opened = [] }) w s r)
      (λ d w h. (sets_narrower scope after scope scope a d.flow d.frame.held grows (λ n e. e) h.0, h.1))

  -- ## Loops

  -- the ways out of a round: the next one begins with what is set on both ways back
  abbrev pub round_ways : Ways → Ways
  round_ways body = record { normal = on_both body.normal body.continues; breaks = body.breaks; continues = on_both body.normal body.continues }

  module _ (scope : List ℕ) (entry out final : Settings) (body : Ways) (exit : (held : List Held) → SetUp variables scope out held → SetUp variables scope final held) (quit : (held : List Held) → SetUp variables scope body.breaks held → SetUp variables scope final held)
      (back : (held : List Held) → SetUp variables scope (on_both body.normal body.continues) held → SetUp variables scope entry held × SetUp variables scope out held) (test : Frame → State → Progress Bool) (run : Frame → State → Progress Done) (round : RunSets scope scope entry (round_ways body) run) where
    next_sets : (frame : Frame) (w : State) (go : Frame → State → Progress Done) (flow : Flow) → ((frame : Frame) (w : State) → SetUp variables scope entry frame.held → SetUp variables scope out frame.held → HasRoom variables frame.held → HoldsOf (Sets scope scope (goes_on final)) (go frame w)) →
        SetsAs variables scope scope (round_ways body) flow frame.held → HasRoom variables frame.held → HoldsOf (Sets scope scope (goes_on final)) (next_turn flow frame w go)
    next_sets frame w go normal k s r = let b = back frame.held s in k frame w b.0 b.1 r
    next_sets frame w go continued k s r = let b = back frame.held s in k frame w b.0 b.1 r
    next_sets frame w go broken k s r = (quit frame.held s, r)
    next_sets frame w go (returned x) k s r = (tt, r)

    turns_set : (m : ℕ) (frame : Frame) (w : State) → SetUp variables scope entry frame.held → SetUp variables scope out frame.held → HasRoom variables frame.held → HoldsOf (Sets scope scope (goes_on final)) (turns m test run frame w)
    turns_set zero frame w s o r = tt
    turns_set (suc m) frame w s o r =
        holds_after (Sets scope scope (goes_on final)) (test frame w) (λ more w. if more then and_then (run frame w) (λ done w. next_turn done.flow done.frame w (turns m test run)) else goes frame w) (λ more w.
        holds_if (Sets scope scope (goes_on final)) more (and_then (run frame w) (λ done w. next_turn done.flow done.frame w (turns m test run))) (goes frame w)
        (λ _. holds_then (Sets scope scope (round_ways body)) (Sets scope scope (goes_on final)) (run frame w) (λ done w. next_turn done.flow done.frame w (turns m test run)) (round frame w s r) (λ d w h. next_sets d.frame w (turns m test run) d.flow (turns_set m) h.0 h.1))
        (λ _. (exit frame.held o, r)))

    -- a `do` begins with its body
    do_sets : (m : ℕ) (frame : Frame) (w : State) → SetUp variables scope entry frame.held → HasRoom variables frame.held → HoldsOf (Sets scope scope (goes_on final)) (loop_by Do m test run frame w)
    do_sets m frame w s r =
        holds_then (Sets scope scope (round_ways body)) (Sets scope scope (goes_on final)) (run frame w) (λ done w. next_turn done.flow done.frame w (turns m test run)) (round frame w s r) (λ d w h. next_sets d.frame w (turns m test run) d.flow (turns_set m) h.0 h.1)

  -- a loop sets what it has to, where a round keeps what is set at its entry
  pub loop_sets : (keyword : LoopKeyword) (scope : List ℕ) (entry : Settings) (body : Ways) (m : ℕ) (test : Frame → State → Progress Bool) (run : Frame → State → Progress Done) → ((held : List Held) → SetUp variables scope (on_both body.normal body.continues) held → SetUp variables scope entry held) →
      RunSets scope scope entry (round_ways body) run → RunSets scope scope entry (after_loop keyword entry body) (loop_by keyword m test run)
  loop_sets While scope entry body m test run back round frame w s r =
      turns_set scope entry entry (on_both entry body.breaks) body (λ held. set_left variables scope entry body.breaks held) (λ held. set_right variables scope entry body.breaks held) (λ held h. (back held h, back held h)) test run round m frame w s s r
  loop_sets For scope entry body m test run back round frame w s r =
      turns_set scope entry entry (on_both entry body.breaks) body (λ held. set_left variables scope entry body.breaks held) (λ held. set_right variables scope entry body.breaks held) (λ held h. (back held h, back held h)) test run round m frame w s s r
  loop_sets Do scope entry body m test run back round frame w s r =
      let next : Settings = on_both body.normal body.continues in
      do_sets scope entry next (on_both next body.breaks) body (λ held. set_left variables scope next body.breaks held) (λ held. set_right variables scope next body.breaks held) (λ held h. (back held h, h)) test run round m frame w s r

  from_third : (scope : List ℕ) (body : Ways) (flow : Flow) (held : List Held) → SetsAs variables scope scope (goes_on (on_both body.normal body.continues)) flow held → SetsAs variables scope scope (round_ways body) flow held
  from_third scope body normal held s = s
  from_third scope body broken held s = absurd s
  from_third scope body continued held s = absurd s
  from_third scope body (returned x) held s = tt

  third_going : (scope : List ℕ) (body : Ways) (third : Frame → State → Progress Done) (frame : Frame) (w : State) (flow : Flow) → RunSets scope scope (on_both body.normal body.continues) (goes_on (on_both body.normal body.continues)) third → SetsAs variables scope scope body flow frame.held → HasRoom variables frame.held →
      HoldsOf (Sets scope scope (round_ways body)) (before_third flow frame w third)
  third_going scope body third frame w flow k s r = case flow s
    where
      go : SetUp variables scope (on_both body.normal body.continues) frame.held → HoldsOf (Sets scope scope (round_ways body)) (third frame w)
      go s = holds_weaker (Sets scope scope (goes_on (on_both body.normal body.continues))) (Sets scope scope (round_ways body)) (third frame w) (k frame w s r) (λ d w h. (from_third scope body d.flow d.frame.held h.0, h.1))

      case : (flow : Flow) → SetsAs variables scope scope body flow frame.held → HoldsOf (Sets scope scope (round_ways body)) (before_third flow frame w third)
      case normal s = go (set_left variables scope body.normal body.continues frame.held s)
      case continued s = go (set_right variables scope body.normal body.continues frame.held s)
      case broken s = (s, r)
      case (returned x) s = (tt, r)

  -- a round: the body, and the third clause, which only adds to what is set
  pub round_sets : (after scope : List ℕ) (entry : Settings) (body : Ways) (run third : Frame → State → Progress Done) → ((n : ℕ) → is_among n scope ≡ true → is_among n after ≡ true) → RunSets after scope entry body run → RunSets scope scope (on_both body.normal body.continues) (goes_on (on_both body.normal body.continues)) third →
      RunSets scope scope entry (round_ways body) (λ frame w. and_then (run frame w) (λ done w. before_third done.flow done.frame w third))
  round_sets after scope entry body run third grows h k frame w s r =
      holds_then (Sets after scope body) (Sets scope scope (round_ways body)) (run frame w) (λ done w. before_third done.flow done.frame w third) (h frame w s r)
      (λ d w g. third_going scope body third d.frame w d.flow k (sets_narrower scope after scope scope body d.flow d.frame.held grows (λ n e. e) g.0) g.1)

  -- ## `switch`

  pub case_gone : (scope : List ℕ) (labelled : Bool) (entry before : Settings) (held : List Held) → SetUp variables scope before held → SetUp variables scope (case_settings labelled entry before) held
  case_gone scope true entry before held s = set_left variables scope before entry held s
  case_gone scope false entry before held s = s

  pub case_entered : (scope : List ℕ) (labelled : Bool) (entry before : Settings) (held : List Held) → labelled ≡ true → SetUp variables scope entry held → SetUp variables scope (case_settings labelled entry before) held
  case_entered scope true entry before held e s = set_right variables scope before entry held s
  case_entered scope false entry before held e s = absurd cc

  past : (scope : List ℕ) (b : Bool) (entry : Settings) (held : List Held) → b ≡ true → SetUp variables scope entry held → SetUp variables scope (if b then entry else None) held
  past scope true entry held e s = s
  past scope false entry held e s = absurd cc

  -- no item is entered
  pub past_sets : (scope : List ℕ) (labels : PlainLabels) (entry : Settings) (body : Ways) (held : List Held) → is_none labels.otherwise ≡ true → SetUp variables scope entry held → SetUp variables scope (after_switch labels entry body).normal held
  past_sets scope labels entry body held e s = set_right variables scope (on_both body.normal body.breaks) (if is_none labels.otherwise then entry else None) held (past scope (is_none labels.otherwise) entry held e s)

  pub switch_sets : (scope : List ℕ) (labels : PlainLabels) (entry : Settings) (body : Ways) (frame : Frame) (w : State) (flow : Flow) → SetsAs variables scope scope body flow frame.held → HasRoom variables frame.held →
      HoldsOf (Sets scope scope (after_switch labels entry body)) (left_switch (record { flow = flow; frame = frame }) w)
  switch_sets scope labels entry body frame w normal s r =
      (set_left variables scope (on_both body.normal body.breaks) (if is_none labels.otherwise then entry else None) frame.held (set_left variables scope body.normal body.breaks frame.held s), r)
  switch_sets scope labels entry body frame w broken s r =
      (set_left variables scope (on_both body.normal body.breaks) (if is_none labels.otherwise then entry else None) frame.held (set_right variables scope body.normal body.breaks frame.held s), r)
  switch_sets scope labels entry body frame w continued s r = (s, r)
  switch_sets scope labels entry body frame w (returned x) s r = (tt, r)
