-- Arguments in claimed ranges, by the parameters' numbers.
use Rattle.std.specs.Prelude.{ℕ, suc, ◌&&◌, Bool, true, List, slice_get, Option, Some}
use Rattle.p10_core.specs.Typed.{PlainValue, PlainValues, no_values, more_values}
use Rattle.p10_cert.specs.Claims.{Value, Number, Claims}
use Rattle.p10_absx.specs.Environments.{Environment}
use Rattle.p10_absx.specs.Assessing.{abstract_value}
use Rattle.p10_pass.specs.Arguments.{lies_in}

-- whether an argument lies in what is claimed of its parameter, if anything is
abbrev pub argument_lies : Option Claims → Option Value → PlainValue → Environment → Bool
argument_lies c (Some (Number r)) v env = lies_in (abstract_value c env v) r
argument_lies c claim v env = true

-- whether arguments do, from the one with a number on
abbrev pub arguments_lie_from : Option Claims → List Value → ℕ → PlainValues → Environment → Bool
arguments_lie_from c claims k no_values env = true
arguments_lie_from c claims k (more_values v vs) env = argument_lies c (slice_get claims k) v env && arguments_lie_from c claims (suc k) vs env
