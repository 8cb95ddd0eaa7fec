-- What loops leave, by what holds at their tests and where their bodies are entered.
use Rattle.std.proofs.Common.{◌≡◌, ℕ, zero, suc, Bool, true, false, refl}
use Rattle.p10_core.specs.declared.statements.LoopKeyword.{LoopKeyword}
use Rattle.p10_core.specs.declared.statements.LoopKeyword.TheVariants.{While, Do, For}
use Rattle.p10_meaning.specs.States.{State, Progress}
use Rattle.p10_meaning.specs.Statements.{Frame, Flow, normal, broken, continued, returned, Done, next_turn, turns, loop_by}
use Rattle.p10_sums.specs.Keeping.{HoldsOf, OnGives, OnBack, TurnsKeep, DoKeeps, LoopKeeps}
use Rattle.p10_execution.proofs.Giving.{holds_then, holds_if, holds_both, holds_weaker}

-- the loop ends normally
abbrev pub ended : Frame → Done
ended frame = record { flow = normal; frame = frame }

-- after a round: on a way back the next test comes, and else the loop ends
abbrev pub Rounded : (Frame → State → Type 0) → (Done → State → Type 0) → Flow → Frame → State → Type 0
Rounded Tested Out normal frame w = Tested frame w
Rounded Tested Out continued frame w = Tested frame w
Rounded Tested Out broken frame w = Out (ended frame) w
Rounded Tested Out (returned x) frame w = Out (record { flow = returned x; frame = frame }) w

-- after a test: the body is entered, or the loop ends
abbrev pub Decided : (Frame → State → Type 0) → (Done → State → Type 0) → Frame → Bool → State → Type 0
Decided Entered Out frame more w = (more ≡ true → Entered frame w) × (more ≡ false → Out (ended frame) w)

-- what holds where a loop by a keyword begins
abbrev pub Begins : LoopKeyword → (Frame → State → Type 0) → (Frame → State → Type 0) → Frame → State → Type 0
Begins While Tested Entered frame w = Tested frame w
Begins For Tested Entered frame w = Tested frame w
Begins Do Tested Entered frame w = Entered frame w

module _ (Tested Entered : Frame → State → Type 0) (Out : Done → State → Type 0) (test : Frame → State → Progress Bool) (round : Frame → State → Progress Done)
    (tests : (frame : Frame) (w : State) → Tested frame w → HoldsOf (Decided Entered Out frame) (test frame w))
    (rounds : (frame : Frame) (w : State) → Entered frame w → HoldsOf (λ (d : Done) w. Rounded Tested Out d.flow d.frame w) (round frame w)) where
  next_out : (go : Frame → State → Progress Done) → ((frame : Frame) (w : State) → Tested frame w → HoldsOf Out (go frame w)) → (flow : Flow) (frame : Frame) (w : State) → Rounded Tested Out flow frame w → HoldsOf Out (next_turn flow frame w go)
  next_out go k normal frame w h = k frame w h
  next_out go k continued frame w h = k frame w h
  next_out go k broken frame w h = h
  next_out go k (returned x) frame w h = h

  turns_out : (j : ℕ) (frame : Frame) (w : State) → Tested frame w → HoldsOf Out (turns j test round frame w)
  turns_out zero frame w h = tt
  turns_out (suc j) frame w h =
      holds_then (Decided Entered Out frame) Out (test frame w) _ (tests frame w h) (λ more w k. holds_if Out more _ _
      (λ e. holds_then (λ (d : Done) w. Rounded Tested Out d.flow d.frame w) Out (round frame w) _ (rounds frame w (k.0 e)) (λ d w r. next_out (turns j test round) (turns_out j) d.flow d.frame w r))
      (λ e. k.1 e))

  pub loop_out : (keyword : LoopKeyword) (j : ℕ) (frame : Frame) (w : State) → Begins keyword Tested Entered frame w → HoldsOf Out (loop_by keyword j test round frame w)
  loop_out While j frame w h = turns_out j frame w h
  loop_out For j frame w h = turns_out j frame w h
  loop_out Do j frame w h = holds_then (λ (d : Done) w. Rounded Tested Out d.flow d.frame w) Out (round frame w) _ (rounds frame w h) (λ d w r. next_out (turns j test round) (turns_out j) d.flow d.frame w r)

-- ## How often bodies are entered

pub on_back : (flow : Flow) (P Q : Type 0) → (P → Q) → OnBack flow P → OnBack flow Q
on_back normal P Q f h = f h
on_back continued P Q f h = f h
on_back broken P Q f h = tt
on_back (returned x) P Q f h = tt

-- what holds at tests and where bodies are entered counts the entries that are left: where none is left, the body isn't entered, and
-- on each way back one less is left
module _ (Tested Entered : ℕ → Frame → State → Type 0) (test : Frame → State → Progress Bool) (round : Frame → State → Progress Done) (TestKeeps RoundKeeps : Frame → State → Type 0)
    (tests : (n : ℕ) (frame : Frame) (w : State) → Tested n frame w → HoldsOf (λ more w. more ≡ true → Entered n frame w) (test frame w))
    (none : (frame : Frame) (w : State) → Entered 0 frame w → ⊥)
    (rounds : (n : ℕ) (frame : Frame) (w : State) → Entered (suc n) frame w → HoldsOf (λ (d : Done) w. OnBack d.flow (Tested n d.frame w)) (round frame w))
    (test_keeps : (n : ℕ) (frame : Frame) (w : State) → Tested n frame w → TestKeeps frame w)
    (round_keeps : (n : ℕ) (frame : Frame) (w : State) → Entered n frame w → RoundKeeps frame w) where
  after_round : (n : ℕ) → ((frame : Frame) (w : State) → Tested n frame w → TurnsKeep n test round TestKeeps RoundKeeps frame w) → (frame : Frame) (w : State) → Entered (suc n) frame w →
      OnGives (λ (d : Done) w. OnBack d.flow (TurnsKeep n test round TestKeeps RoundKeeps d.frame w)) (round frame w)
  after_round n k frame w h = record {
    given = holds_weaker (λ (d : Done) w. OnBack d.flow (Tested n d.frame w)) (λ (d : Done) w. OnBack d.flow (TurnsKeep n test round TestKeeps RoundKeeps d.frame w)) (round frame w) (rounds n frame w h)
        (λ d w b. on_back d.flow (Tested n d.frame w) (TurnsKeep n test round TestKeeps RoundKeeps d.frame w) (k d.frame w) b);
  }

  turns_keep : (n : ℕ) (frame : Frame) (w : State) → Tested n frame w → TurnsKeep n test round TestKeeps RoundKeeps frame w
  turns_keep zero frame w h = (
    test_keeps 0 frame w h,
    record { given = holds_weaker (λ more w. more ≡ true → Entered 0 frame w) (λ more w. more ≡ false) (test frame w) (tests 0 frame w h) (λ more w k. by_case frame w more more refl k) },
  )
    where
      by_case : (frame : Frame) (w : State) (more t : Bool) → more ≡ t → (more ≡ true → Entered 0 frame w) → more ≡ false
      by_case frame w more true e k = absurd (none frame w (k e))
      by_case frame w more false e k = e
  turns_keep (suc n) frame w h = (
    test_keeps (suc n) frame w h,
    record {
      given = holds_weaker (λ more w. more ≡ true → Entered (suc n) frame w)
          (λ more w. more ≡ true → RoundKeeps frame w × OnGives (λ (d : Done) w. OnBack d.flow (TurnsKeep n test round TestKeeps RoundKeeps d.frame w)) (round frame w)) (test frame w) (tests (suc n) frame w h)
          (λ more w k e. (round_keeps (suc n) frame w (k e), after_round n (turns_keep n) frame w (k e)));
    },
  )

  do_keeps : (n : ℕ) (frame : Frame) (w : State) → Entered n frame w → DoKeeps n test round TestKeeps RoundKeeps frame w
  do_keeps zero frame w h = none frame w h
  do_keeps (suc n) frame w h = (round_keeps (suc n) frame w h, after_round n (turns_keep n) frame w h)

  -- a loop by its keyword
  pub loop_keeps : (keyword : LoopKeyword) (n : ℕ) (frame : Frame) (w : State) → Begins keyword (Tested n) (Entered n) frame w → LoopKeeps keyword n test round TestKeeps RoundKeeps frame w
  loop_keeps While n frame w h = turns_keep n frame w h
  loop_keeps For n frame w h = turns_keep n frame w h
  loop_keeps Do n frame w h = do_keeps n frame w h

-- both on a way back
on_back_both : (flow : Flow) (P Q : Type 0) → OnBack flow P → OnBack flow Q → OnBack flow (P × Q)
on_back_both normal P Q h k = (h, k)
on_back_both continued P Q h k = (h, k)
on_back_both broken P Q h k = tt
on_back_both (returned x) P Q h k = tt

-- a loop that enters its body this often, and whose tests and rounds keep something
module _ (Tested Entered : Frame → State → Type 0) (test : Frame → State → Progress Bool) (round : Frame → State → Progress Done) (TestKeeps RoundKeeps : Frame → State → Type 0)
    (tests : (frame : Frame) (w : State) → Tested frame w → HoldsOf (λ more w. more ≡ true → Entered frame w) (test frame w))
    (rounds : (frame : Frame) (w : State) → Entered frame w → HoldsOf (λ (d : Done) w. OnBack d.flow (Tested d.frame w)) (round frame w))
    (test_keeps : (frame : Frame) (w : State) → Tested frame w → TestKeeps frame w) (round_keeps : (frame : Frame) (w : State) → Entered frame w → RoundKeeps frame w) where
  abbrev Any : Frame → State → Type 0
  Any frame w = Unit {0}

  abbrev TestedWithin : ℕ → Frame → State → Type 0
  TestedWithin n frame w = Tested frame w × TurnsKeep n test round Any Any frame w

  abbrev EnteredWithin : ℕ → Frame → State → Type 0
  EnteredWithin n frame w = Entered frame w × DoKeeps n test round Any Any frame w

  tests_within : (n : ℕ) (frame : Frame) (w : State) → TestedWithin n frame w → HoldsOf (λ more w. more ≡ true → EnteredWithin n frame w) (test frame w)
  tests_within zero frame w h = holds_weaker (λ more w. (more ≡ true → Entered frame w) × (more ≡ false)) (λ more w. more ≡ true → EnteredWithin 0 frame w) (test frame w)
      (holds_both (λ more w. more ≡ true → Entered frame w) (λ more w. more ≡ false) (test frame w) (tests frame w h.0) h.1.1.given) (λ more w k e. absurd (never more e k.1))
    where
      never : (more : Bool) → more ≡ true → more ≡ false → ⊥
      never more e f = absurd cc
  tests_within (suc n) frame w h =
      holds_weaker (λ more w. (more ≡ true → Entered frame w) × (more ≡ true → Any frame w × OnGives (λ (d : Done) w. OnBack d.flow (TurnsKeep n test round Any Any d.frame w)) (round frame w))) (λ more w. more ≡ true → EnteredWithin (suc n) frame w) (test frame w)
      (holds_both (λ more w. more ≡ true → Entered frame w) (λ more w. more ≡ true → Any frame w × OnGives (λ (d : Done) w. OnBack d.flow (TurnsKeep n test round Any Any d.frame w)) (round frame w)) (test frame w) (tests frame w h.0) h.1.1.given)
      (λ more w k e. (k.0 e, (tt, (k.1 e).1)))

  rounds_within : (n : ℕ) (frame : Frame) (w : State) → EnteredWithin (suc n) frame w → HoldsOf (λ (d : Done) w. OnBack d.flow (TestedWithin n d.frame w)) (round frame w)
  rounds_within n frame w h = holds_weaker (λ (d : Done) w. OnBack d.flow (Tested d.frame w) × OnBack d.flow (TurnsKeep n test round Any Any d.frame w)) (λ (d : Done) w. OnBack d.flow (TestedWithin n d.frame w)) (round frame w)
      (holds_both (λ (d : Done) w. OnBack d.flow (Tested d.frame w)) (λ (d : Done) w. OnBack d.flow (TurnsKeep n test round Any Any d.frame w)) (round frame w) (rounds frame w h.0) h.1.1.given)
      (λ d w k. on_back_both d.flow (Tested d.frame w) (TurnsKeep n test round Any Any d.frame w) k.0 k.1)

  begins_within : (keyword : LoopKeyword) (n : ℕ) (frame : Frame) (w : State) → Begins keyword Tested Entered frame w → LoopKeeps keyword n test round Any Any frame w → Begins keyword (TestedWithin n) (EnteredWithin n) frame w
  begins_within While n frame w h k = (h, k)
  begins_within For n frame w h k = (h, k)
  begins_within Do n frame w h k = (h, k)

  pub bounded_keeps : (keyword : LoopKeyword) (n : ℕ) (frame : Frame) (w : State) → Begins keyword Tested Entered frame w → LoopKeeps keyword n test round Any Any frame w → LoopKeeps keyword n test round TestKeeps RoundKeeps frame w
  bounded_keeps keyword n frame w h k = loop_keeps TestedWithin EnteredWithin test round TestKeeps RoundKeeps tests_within (λ frame w h. h.1) rounds_within (λ n frame w h. test_keeps frame w h.0) (λ n frame w h. round_keeps frame w h.0) keyword n frame w
      (begins_within keyword n frame w h k)
