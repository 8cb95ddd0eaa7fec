-- Results that are found, each after those of the functions that are called.
use Rattle.std.specs.Prelude.{◌≡◌, ℕ, ◌<◌, false, List, [], ◌∷◌, map, length, slice_get, slice_set, slice_index, Some}
use Rattle.p10_core.specs.Typed.{PlainFunction, PlainProgram}
use Rattle.p10_core.specs.WholePrograms.{parameter_types}
use Rattle.p10_graph.specs.Graphs.{IsOnCycle}
use Rattle.p10_cert.specs.Claims.{Value, Func, Claims}
use Rattle.p10_finder.specs.Functions.{any_value, result_of}
use Rattle.p10_approach.specs.Offers.{Offers}

-- a claim on a function of which only the result counts
abbrev pub bare_claim : PlainFunction → Value → Func
bare_claim f result = record { name = []; rank = 0; steps = 0; calls = 0; bytes = 0; alloc = false; params = map any_value (parameter_types f); result = result; loops = [] }

-- claims with a result for each function
abbrev pub with_results : List PlainFunction → List Value → List Func
with_results [] results = []
with_results (f ∷ rest) [] = []
with_results (f ∷ rest) (result ∷ results) = bare_claim f result ∷ with_results rest results

-- the results of which nothing is known
abbrev pub any_results : List PlainFunction → List Value
any_results fs = map (λ (f : PlainFunction). any_value f.result) fs

-- claims with these results
abbrev pub claims_by : List PlainFunction → List Value → Claims
claims_by fs results = record { funcs = with_results fs results; total = record { prefix = 0; turn = 0; calls = 0; bytes = 0 } }

-- claims with another claim on the function with a number
abbrev pub with_claim : Claims → ℕ → Func → Claims
with_claim c n claim = record { funcs = slice_set c.funcs n claim; total = c.total }

-- the results of functions on cycles of calls may be any, and those of the others with smaller numbers are found where the others stand
pub record AreResultsBelow (o : Offers) (p : PlainProgram) (g : List (List ℕ)) (numbers : List ℕ) (k : ℕ) (results : List Value) : Type 0 where
  pub each : length results ≡ length p.functions
  pub any : (n : ℕ) (f : PlainFunction) → slice_get p.functions n ≡ Some f → IsOnCycle g n → slice_get results n ≡ Some (any_value f.result)
  pub found : (n : ℕ) (f : PlainFunction) → slice_get p.functions n ≡ Some f → (IsOnCycle g n → ⊥) → slice_index numbers n < k → slice_get results n ≡ Some (result_of o p (claims_by p.functions results) n f)

-- claims have such results
pub record AreSettled (o : Offers) (p : PlainProgram) (g : List (List ℕ)) (numbers : List ℕ) (k : ℕ) (c : Claims) : Type 0 where
  pub results : List Value
  pub claims : c ≡ claims_by p.functions results
  pub below : AreResultsBelow o p g numbers k results
