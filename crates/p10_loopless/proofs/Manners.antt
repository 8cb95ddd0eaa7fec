-- Two ways of counting in a function, which differ in the loops of other functions alone.
use Rattle.std.proofs.Common.{◌≡◌, List, Option, Some}
use Rattle.p10_core.specs.Typed.{PlainVariable, PlainValue, PlainPlace}
use Rattle.p10_cert.specs.Claims.{Value, Loop, Claims}
use Rattle.p10_absx.specs.Environments.{Environment}
use Rattle.p10_absx.specs.Assessing.{assess}
use Rattle.p10_pass.specs.Arguments.{has_value, failing_in, failing_at}
use Rattle.p10_pass.specs.Passing.{Manner}
use Rattle.p10_loopless.proofs.Faces.{AreAlike}
use Rattle.p10_loopless.proofs.Values.{same_value, same_presence}
use Rattle.p10_loopless.proofs.Calls.{same_failing, same_in_place}

pub record Twin : Type 0 where
  pub c : Claims
  pub d : Claims
  pub alike : AreAlike c.funcs d.funcs
  pub loops : List Loop
  pub result : Option Value
  pub variables : List PlainVariable

abbrev pub first_of : Twin → Manner
first_of t = record { calls = Some t.c; loops = Some t.loops; result = t.result; variables = t.variables }

abbrev pub second_of : Twin → Manner
second_of t = record { calls = Some t.d; loops = Some t.loops; result = t.result; variables = t.variables }

abbrev pub found_same : (t : Twin) (v : PlainValue) (env : Environment) → assess (Some t.c) v env ≡ assess (Some t.d) v env
found_same t v env = same_value t.c t.d t.alike v env

abbrev pub there_same : (t : Twin) (v : PlainValue) (env : Environment) → has_value (Some t.c) v env ≡ has_value (Some t.d) v env
there_same t v env = same_presence t.c t.d t.alike v env

abbrev pub fails_same : (t : Twin) (v : PlainValue) (env : Environment) → failing_in (Some t.c) v env ≡ failing_in (Some t.d) v env
fails_same t v env = same_failing t.c t.d t.alike v env

abbrev pub fails_at_same : (t : Twin) (p : PlainPlace) (env : Environment) → failing_at (Some t.c) p env ≡ failing_at (Some t.d) p env
fails_at_same t p env = same_in_place t.c t.d t.alike p env
