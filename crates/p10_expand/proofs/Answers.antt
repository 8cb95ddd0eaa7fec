-- Answers of the functions as what comes of lines.
use Rattle.std.proofs.Common.{◌≡◌, ℕ, List, true, false, Result, Ok, Err, refl}
use Rattle.p10_base.specs.Words.{PlainWord}
use Rattle.p10_base.specs.Gathered.{Gathered}
use Rattle.p10_direct.specs.Directives.{PlainDirective, Read, Spells, place_of}
use Rattle.p10_expand.specs.declared.expansion.fault.ExpandFault.{ExpandFault}
use Rattle.p10_expand.specs.declared.expansion.fault.ExpandFault.TheVariants.{Over, Memory}
use Rattle.p10_expand.specs.declared.expansion.state.State.{State as CodedState}
use Rattle.p10_expand.specs.declared.expansion.step.Step.{Step}
use Rattle.p10_expand.specs.Obeying.{State, File, Next, ObeyedGives, Does, breaks_at, refuse}
use Rattle.p10_expand.specs.private.Steps.{Steps}

-- what comes of it in one way comes of it in another
pub steps_map : (this that : Next → Type 0) → ((next : Next) → this next → that next) → (answer : Result Step ExpandFault) (s : CodedState) → Steps this answer s → Steps that answer s
steps_map this that change (Ok found) s gives = change _ gives
steps_map this that change (Err (Over limit)) s gives = change _ gives
steps_map this that change (Err Memory) s gives = tt

module _ (g : Gathered) (file : File) (place : ℕ) (line : List PlainWord) (s : State) (directive : PlainDirective) (spells : Spells directive line) where
  -- a directive that breaks the structure of conditionals is refused
  pub broken : breaks_at file place ≡ true → ObeyedGives g file place line s (refuse s 2 (place_of line))
  broken breaks = (Read directive, spells, rw breaks refl)

  -- any other does what it says
  pub done : breaks_at file place ≡ false → (next : Next) → Does g file line directive s next → ObeyedGives g file place line s next
  done breaks next does = (Read directive, spells, rw breaks does)
