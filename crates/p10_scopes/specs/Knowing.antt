-- What it is that exactly the integer frame variables in scope are known.
use Rattle.std.specs.Prelude.{◌≡◌, ℕ, true, false, is_some, List, Option, Some, None}
use Rattle.p10_core.specs.Typed.{PlainStatement, PlainFunction}
use Rattle.p10_core.specs.WholePrograms.{is_among}
use Rattle.p10_absx.specs.Environments.{Environment, known}
use Rattle.p10_fit.specs.Sites.{in_scope_after}
use Rattle.p10_fit.specs.Fits.{counter_type}
use Rattle.p10_pass.specs.Passing.{Left}
use Rattle.p10_execution.specs.Scoping.{AreOnce}

-- an environment knows exactly the integer frame variables of a scope: those of which a certificate may speak there
pub record KnowsScope (f : PlainFunction) (scope : List ℕ) (env : Environment) : Type 0 where
  pub exactly : (n : ℕ) → is_some (known env n) ≡ is_some (counter_type f scope n)

-- the same where a state may not come
abbrev pub MaybeKnowsScope : PlainFunction → List ℕ → Option Environment → Type 0
MaybeKnowsScope f scope None = Unit {0}
MaybeKnowsScope f scope (Some env) = KnowsScope f scope env

-- the same at each end of a statement: what it declares itself is in scope after its normal end
pub record EndsInScope (f : PlainFunction) (scope : List ℕ) (x : PlainStatement) (a : Left) : Type 0 where
  pub normal : MaybeKnowsScope f (in_scope_after scope x) a.normal
  pub breaks : MaybeKnowsScope f scope a.breaks
  pub continues : MaybeKnowsScope f scope a.continues
  pub returns : MaybeKnowsScope f scope a.returns

-- these numbers of variables are new in a scope: each is declared once, and none is in it
pub record AreNew (scope numbers : List ℕ) : Type 0 where
  pub once : AreOnce numbers
  pub apart : (n : ℕ) → is_among n numbers ≡ true → is_among n scope ≡ false
