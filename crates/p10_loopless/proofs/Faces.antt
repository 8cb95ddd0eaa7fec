-- What is asked of other functions' claims is the same where they are the same but for loops.
use Rattle.std.proofs.Common.{◌≡◌, ℕ, Bool, List, map, Option, Some, None, option_map, refl, sym, ap, ◌∙◌}
use Rattle.std.specs.Prelude.{slice_get}
use Rattle.std.proofs.lemmas.Option.{slice_get-map}
use Rattle.p10_int.specs.declared.types.IntType.{IntType}
use Rattle.p10_range.specs.Ranges.{Interval}
use Rattle.p10_cert.specs.Claims.{Value, Number, Address, Nothing, Func}
use Rattle.p10_absx.specs.Assessing.{result_claimed}
use Rattle.p10_absx.specs.Entering.{claims_on}
use Rattle.p10_sums.specs.Counting.{steps_claimed, calls_claimed, bytes_claimed, alloc_claimed}
use Rattle.p10_loopless.specs.Loopless.{without_loops, all_without_loops}

-- claims that are the same but for loops
abbrev pub AreAlike : List Func → List Func → Type 0
AreAlike these others = all_without_loops these ≡ all_without_loops others

loopless_same : (these others : List Func) (n : ℕ) → AreAlike these others → option_map without_loops (slice_get these n) ≡ option_map without_loops (slice_get others n)
loopless_same these others n alike = sym (slice_get-map without_loops these n) ∙ ap (λ fs. slice_get fs n) alike ∙ slice_get-map without_loops others n

-- what a function says of a claim, and says of it without its loops too
by_loopless : {A : Type 0} (say : Option Func → A) → ((f : Option Func) → say f ≡ say (option_map without_loops f)) → (these others : List Func) (n : ℕ) → AreAlike these others
    → say (slice_get these n) ≡ say (slice_get others n)
by_loopless say same these others n alike = same (slice_get these n) ∙ ap say (loopless_same these others n alike) ∙ sym (same (slice_get others n))

pub same_result : (kind : IntType) (these others : List Func) (n : ℕ) → AreAlike these others → result_claimed kind (slice_get these n) ≡ result_claimed kind (slice_get others n)
same_result kind these others n alike = by_loopless (result_claimed kind) same these others n alike
  where
    same : (f : Option Func) → result_claimed kind f ≡ result_claimed kind (option_map without_loops f)
    same None = refl
    same (Some f) = refl

pub same_parameters : (these others : List Func) (n : ℕ) → AreAlike these others → claims_on (slice_get these n) ≡ claims_on (slice_get others n)
same_parameters these others n alike = by_loopless claims_on same these others n alike
  where
    same : (f : Option Func) → claims_on f ≡ claims_on (option_map without_loops f)
    same None = refl
    same (Some f) = refl

pub same_steps : (these others : List Func) (n : ℕ) → AreAlike these others → steps_claimed (slice_get these n) ≡ steps_claimed (slice_get others n)
same_steps these others n alike = by_loopless steps_claimed same these others n alike
  where
    same : (f : Option Func) → steps_claimed f ≡ steps_claimed (option_map without_loops f)
    same None = refl
    same (Some f) = refl

pub same_calls : (these others : List Func) (n : ℕ) → AreAlike these others → calls_claimed (slice_get these n) ≡ calls_claimed (slice_get others n)
same_calls these others n alike = by_loopless calls_claimed same these others n alike
  where
    same : (f : Option Func) → calls_claimed f ≡ calls_claimed (option_map without_loops f)
    same None = refl
    same (Some f) = refl

pub same_bytes : (these others : List Func) (n : ℕ) → AreAlike these others → bytes_claimed (slice_get these n) ≡ bytes_claimed (slice_get others n)
same_bytes these others n alike = by_loopless bytes_claimed same these others n alike
  where
    same : (f : Option Func) → bytes_claimed f ≡ bytes_claimed (option_map without_loops f)
    same None = refl
    same (Some f) = refl

pub same_alloc : (these others : List Func) (n : ℕ) → AreAlike these others → alloc_claimed (slice_get these n) ≡ alloc_claimed (slice_get others n)
same_alloc these others n alike = by_loopless alloc_claimed same these others n alike
  where
    same : (f : Option Func) → alloc_claimed f ≡ alloc_claimed (option_map without_loops f)
    same None = refl
    same (Some f) = refl
