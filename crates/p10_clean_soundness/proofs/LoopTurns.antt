-- What loops leave that end in no undefined operation, by what holds at their tests and where their bodies are entered.
use Rattle.std.proofs.Common.{ℕ, zero, suc, Bool}
use Rattle.p10_core.specs.declared.statements.LoopKeyword.{LoopKeyword}
use Rattle.p10_core.specs.declared.statements.LoopKeyword.TheVariants.{While, Do, For}
use Rattle.p10_meaning.specs.States.{State, Progress}
use Rattle.p10_meaning.specs.Statements.{Frame, Flow, normal, broken, continued, returned, Done, next_turn, turns, loop_by}
use Rattle.p10_execution.proofs.Turning.{Rounded, Decided, Begins}
use Rattle.p10_clean_soundness.specs.private.Stays.{Stays}
use Rattle.p10_clean_soundness.proofs.Staying.{stays_then, stays_if}

module _ (Tested Entered : Frame → State → Type 0) (Out : Done → State → Type 0) (test : Frame → State → Progress Bool) (round : Frame → State → Progress Done)
    (tests : (frame : Frame) (w : State) → Tested frame w → Stays (Decided Entered Out frame) (test frame w))
    (rounds : (frame : Frame) (w : State) → Entered frame w → Stays (λ (d : Done) w. Rounded Tested Out d.flow d.frame w) (round frame w)) where
  next_stays : (go : Frame → State → Progress Done) → ((frame : Frame) (w : State) → Tested frame w → Stays Out (go frame w)) → (flow : Flow) (frame : Frame) (w : State) → Rounded Tested Out flow frame w → Stays Out (next_turn flow frame w go)
  next_stays go k normal frame w h = k frame w h
  next_stays go k continued frame w h = k frame w h
  next_stays go k broken frame w h = h
  next_stays go k (returned x) frame w h = h

  turns_stay : (j : ℕ) (frame : Frame) (w : State) → Tested frame w → Stays Out (turns j test round frame w)
  turns_stay zero frame w h = tt
  turns_stay (suc j) frame w h =
      stays_then (Decided Entered Out frame) Out (test frame w) _ (tests frame w h) (λ more w k. stays_if Out more _ _
      (λ e. stays_then (λ (d : Done) w. Rounded Tested Out d.flow d.frame w) Out (round frame w) _ (rounds frame w (k.0 e)) (λ d w r. next_stays (turns j test round) (turns_stay j) d.flow d.frame w r))
      (λ e. k.1 e))

  pub loop_stays : (keyword : LoopKeyword) (j : ℕ) (frame : Frame) (w : State) → Begins keyword Tested Entered frame w → Stays Out (loop_by keyword j test round frame w)
  loop_stays While j frame w h = turns_stay j frame w h
  loop_stays For j frame w h = turns_stay j frame w h
  loop_stays Do j frame w h = stays_then (λ (d : Done) w. Rounded Tested Out d.flow d.frame w) Out (round frame w) _ (rounds frame w h) (λ d w r. next_stays (turns j test round) (turns_stay j) d.flow d.frame w r)
