-- How often a body is entered, by what holds at the tests and where the body is entered; and that loops keep what these keep.
use Rattle.std.proofs.Common.{◌≡◌, ℕ, zero, suc, Bool, true, false, refl}
use Rattle.p10_core.specs.declared.statements.LoopKeyword.{LoopKeyword}
use Rattle.p10_core.specs.declared.statements.LoopKeyword.TheVariants.{While, Do, For}
use Rattle.p10_meaning.specs.States.{State, Progress}
use Rattle.p10_meaning.specs.Statements.{Frame, Flow, normal, broken, continued, returned, Done}
use Rattle.p10_sums.specs.Keeping.{HoldsOf, OnBack, OnGives, TurnsKeep, DoKeeps, LoopKeeps}
use Rattle.p10_execution.proofs.Giving.{holds_both, holds_weaker}
use Rattle.p10_turns.specs.Entrances.{EntersFromTest, EntersFromBody, EntersAtMost}

-- one turn of k is taken, and something holds of the number of those that are left
abbrev pub WithLeft : ℕ → (ℕ → Type 0) → Type 0
WithLeft zero P = ⊥
WithLeft (suc n) P = P n

-- where something begins that is tested first in a `while` or a `for`, and entered first in a `do`
abbrev pub BeginsAs : LoopKeyword → Type 0 → Type 0 → Type 0
BeginsAs While Tested Entered = Tested
BeginsAs For Tested Entered = Tested
BeginsAs Do Tested Entered = Entered

-- something follows on a way back
pub on_back : (P Q : Type 0) (flow : Flow) → (P → Q) → OnBack flow P → OnBack flow Q
on_back P Q normal f h = f h
on_back P Q continued f h = f h
on_back P Q broken f h = tt
on_back P Q (returned x) f h = tt

-- ## Turns

-- `Tested k` holds at a test with k turns left, and `Entered j` where the body is entered and j are left for later
module _ (Tested Entered : ℕ → Frame → State → Type 0) (test : Frame → State → Progress Bool) (round : Frame → State → Progress Done)
    (tests : (k : ℕ) (frame : Frame) (w : State) → Tested k frame w → HoldsOf (λ more w. more ≡ true → WithLeft k (λ j. Entered j frame w)) (test frame w))
    (rounds : (j : ℕ) (frame : Frame) (w : State) → Entered j frame w → HoldsOf (λ (d : Done) w. OnBack d.flow (Tested j d.frame w)) (round frame w)) where
  never : (more : Bool) → (more ≡ true → ⊥) → more ≡ false
  never true h = absurd (h refl)
  never false h = refl

  from_test : (k : ℕ) (frame : Frame) (w : State) → Tested k frame w → EntersFromTest k test round frame w
  from_test zero frame w h = record { given = holds_weaker (λ more w. more ≡ true → ⊥) (λ more w. more ≡ false) (test frame w) (tests zero frame w h) (λ more w k. never more k) }
  from_test (suc n) frame w h = record {
    given = holds_weaker (λ more w. more ≡ true → Entered n frame w) (λ more w. more ≡ true → OnGives (λ (d : Done) w. OnBack d.flow (EntersFromTest n test round d.frame w)) (round frame w)) (test frame w) (tests (suc n) frame w h)
        (λ more w k e. record {
          given = holds_weaker (λ (d : Done) w. OnBack d.flow (Tested n d.frame w)) (λ (d : Done) w. OnBack d.flow (EntersFromTest n test round d.frame w)) (round frame w) (rounds n frame w (k e))
              (λ d w r. on_back (Tested n d.frame w) (EntersFromTest n test round d.frame w) d.flow (from_test n d.frame w) r);
        });
  }

  from_body : (k : ℕ) (frame : Frame) (w : State) → WithLeft k (λ j. Entered j frame w) → EntersFromBody k test round frame w
  from_body zero frame w h = h
  from_body (suc n) frame w h = record {
    given = holds_weaker (λ (d : Done) w. OnBack d.flow (Tested n d.frame w)) (λ (d : Done) w. OnBack d.flow (EntersFromTest n test round d.frame w)) (round frame w) (rounds n frame w h)
        (λ d w r. on_back (Tested n d.frame w) (EntersFromTest n test round d.frame w) d.flow (from_test n d.frame w) r);
  }

  pub enters : (keyword : LoopKeyword) (k : ℕ) (frame : Frame) (w : State) → BeginsAs keyword (Tested k frame w) (WithLeft k (λ j. Entered j frame w)) → EntersAtMost keyword k test round frame w
  enters While k frame w h = from_test k frame w h
  enters For k frame w h = from_test k frame w h
  enters Do k frame w h = from_body k frame w h

-- ## What is kept

-- a loop that enters its body at most this often keeps what its tests keep, and what its rounds keep, where something holds at each test and
-- at each entrance
module _ (Tested Entered TestKeeps BodyKeeps : Frame → State → Type 0) (test : Frame → State → Progress Bool) (round : Frame → State → Progress Done)
    (tests : (frame : Frame) (w : State) → Tested frame w → HoldsOf (λ more w. more ≡ true → Entered frame w) (test frame w))
    (rounds : (frame : Frame) (w : State) → Entered frame w → HoldsOf (λ (d : Done) w. OnBack d.flow (Tested d.frame w)) (round frame w))
    (test_keeps : (frame : Frame) (w : State) → Tested frame w → TestKeeps frame w) (body_keeps : (frame : Frame) (w : State) → Entered frame w → BodyKeeps frame w) where
  both_back : (P Q : Type 0) (flow : Flow) → OnBack flow P → OnBack flow Q → OnBack flow (P × Q)
  both_back P Q normal h k = (h, k)
  both_back P Q continued h k = (h, k)
  both_back P Q broken h k = tt
  both_back P Q (returned x) h k = tt

  abbrev Keeps : ℕ → Frame → State → Type 0
  Keeps k frame w = TurnsKeep k test round TestKeeps BodyKeeps frame w

  -- after a round, with what holds at its end and how often the body is entered then
  after_round : (k : ℕ) → ((frame : Frame) (w : State) → Tested frame w → EntersFromTest k test round frame w → Keeps k frame w) → (frame : Frame) (w : State) → Entered frame w →
      OnGives (λ (d : Done) w. OnBack d.flow (EntersFromTest k test round d.frame w)) (round frame w) → OnGives (λ (d : Done) w. OnBack d.flow (Keeps k d.frame w)) (round frame w)
  after_round k go frame w h often = record {
    given = holds_weaker (λ (d : Done) w. OnBack d.flow (Tested d.frame w) × OnBack d.flow (EntersFromTest k test round d.frame w)) (λ (d : Done) w. OnBack d.flow (Keeps k d.frame w)) (round frame w)
        (holds_both (λ (d : Done) w. OnBack d.flow (Tested d.frame w)) (λ (d : Done) w. OnBack d.flow (EntersFromTest k test round d.frame w)) (round frame w) (rounds frame w h) often.given)
        (λ d w r. on_back (Tested d.frame w × EntersFromTest k test round d.frame w) (Keeps k d.frame w) d.flow (λ b. go d.frame w b.0 b.1)
        (both_back (Tested d.frame w) (EntersFromTest k test round d.frame w) d.flow r.0 r.1));
  }

  turns_keep : (k : ℕ) (frame : Frame) (w : State) → Tested frame w → EntersFromTest k test round frame w → Keeps k frame w
  turns_keep zero frame w h often = (test_keeps frame w h, often)
  turns_keep (suc n) frame w h often = (
    test_keeps frame w h,
    record {
      given = holds_weaker
          (λ more w. (more ≡ true → Entered frame w) × (more ≡ true → OnGives (λ (d : Done) w. OnBack d.flow (EntersFromTest n test round d.frame w)) (round frame w)))
          (λ more w. more ≡ true → BodyKeeps frame w × OnGives (λ (d : Done) w. OnBack d.flow (Keeps n d.frame w)) (round frame w)) (test frame w)
          (holds_both (λ more w. more ≡ true → Entered frame w) (λ more w. more ≡ true → OnGives (λ (d : Done) w. OnBack d.flow (EntersFromTest n test round d.frame w)) (round frame w)) (test frame w) (tests frame w h) often.given)
          (λ more w b e. (body_keeps frame w (b.0 e), after_round n (turns_keep n) frame w (b.0 e) (b.1 e)));
    },
  )

  body_first : (k : ℕ) (frame : Frame) (w : State) → Entered frame w → EntersFromBody k test round frame w → DoKeeps k test round TestKeeps BodyKeeps frame w
  body_first zero frame w h often = often
  body_first (suc n) frame w h often = (body_keeps frame w h, after_round n (turns_keep n) frame w h often)

  pub loop_keeps : (keyword : LoopKeyword) (k : ℕ) (frame : Frame) (w : State) → BeginsAs keyword (Tested frame w) (Entered frame w) → EntersAtMost keyword k test round frame w → LoopKeeps keyword k test round TestKeeps BodyKeeps frame w
  loop_keeps While k frame w h often = turns_keep k frame w h often
  loop_keeps For k frame w h often = turns_keep k frame w h often
  loop_keeps Do k frame w h often = body_first k frame w h often
