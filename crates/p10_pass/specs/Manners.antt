-- What the code's manners of counting calls and loops are.
use Rattle.std.specs.Prelude.{map}
use Rattle.std.specs.Option.{option_map, option_copied}
use Rattle.p10_core.specs.Views.{plain_variable}
use Rattle.p10_cert.specs.Claims.{value_of, loop_of, claims_of}
use Rattle.p10_pass.specs.declared.manner.Manner.{Manner as CodeManner}
use Rattle.p10_pass.specs.Passing.{Manner}

-- a manner of the code
abbrev pub manner_by : CodeManner → Manner
manner_by m = record {
  calls = option_map claims_of (option_copied m.calls);
  loops = option_map (map loop_of) (option_copied m.loops);
  result = option_map value_of m.result;
  variables = map plain_variable m.variables.now;
}
