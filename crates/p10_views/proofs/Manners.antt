-- How a function counts, and how its view does: under claims that agree on the functions that it calls.
use Rattle.std.proofs.Common.{◌≡◌, ℕ, List, map, Option}
use Rattle.p10_core.specs.Typed.{PlainVariable, PlainValue, PlainPlace, PlainProgram}
use Rattle.p10_cert.specs.Claims.{Value, Loop, Claims}
use Rattle.p10_absx.specs.Environments.{Environment}
use Rattle.p10_absx.specs.Assessing.{assess}
use Rattle.p10_pass.specs.Arguments.{has_value, failing_in, failing_at}
use Rattle.p10_pass.specs.Passing.{Manner}
use Rattle.p10_views.specs.Erased.{erased_variable, erased_value, erased_place}
use Rattle.p10_views.proofs.Called.{ValueCalls, PlaceCalls}
use Rattle.p10_views.proofs.Agreeing.{Stand, Agree}
use Rattle.p10_views.proofs.Spans.{erased_spans}
use Rattle.p10_views.proofs.Values.{value_erased, presence_erased}
use Rattle.p10_views.proofs.Calls.{fails_erased, fails_at_erased}

pub record Twin : Type 0 where
  pub program : PlainProgram
  pub c : Option Claims
  pub d : Option Claims
  pub stand : Stand c d
  pub loops : Option (List Loop)
  pub result : Option Value
  pub variables : List PlainVariable

-- the function's, and its view's
abbrev pub first_of : Twin → Manner
first_of t = record { calls = t.c; loops = t.loops; result = t.result; variables = t.variables }

abbrev pub second_of : Twin → Manner
second_of t = record { calls = t.d; loops = t.loops; result = t.result; variables = map (erased_variable t.program) t.variables }

-- the claims agree on a function
abbrev pub Shared : Twin → ℕ → Type 0
Shared t = Agree t.c t.d

abbrev pub found_same : (t : Twin) (v : PlainValue) → ValueCalls (Shared t) v → (env : Environment) → assess t.d (erased_value t.program v) env ≡ assess t.c v env
found_same t v h env = value_erased t.program t.c t.d v h env

abbrev pub there_same : (t : Twin) (v : PlainValue) → ValueCalls (Shared t) v → (env : Environment) → has_value t.d (erased_value t.program v) env ≡ has_value t.c v env
there_same t v h env = presence_erased t.program t.c t.d v h env

abbrev pub fails_same : (t : Twin) (v : PlainValue) → ValueCalls (Shared t) v → (env : Environment) → failing_in t.d (erased_value t.program v) env ≡ erased_spans (failing_in t.c v env)
fails_same t v h env = fails_erased t.program t.c t.d v h env t.stand

abbrev pub fails_at_same : (t : Twin) (q : PlainPlace) → PlaceCalls (Shared t) q → (env : Environment) → failing_at t.d (erased_place t.program q) env ≡ erased_spans (failing_at t.c q env)
fails_at_same t q h env = fails_at_erased t.program t.c t.d q h env t.stand
