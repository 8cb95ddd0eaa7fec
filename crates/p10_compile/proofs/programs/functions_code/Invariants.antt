-- What is compiled, and what is still to come, is the whole.
use Rattle.std.proofs.Common.{◌≡◌, ◌+◌, ◌++◌, length, map, drop}
use Rattle.p10_core.specs.Views.{plain_program, plain_function}
use Rattle.p10_code.specs.ProgramCode.{functions_code, functions_entries}
use Rattle.p10_compile.specs.Views.{plain_op, plain_entry}
use Rattle.p10_compile.proofs.programs.functions_code.Given as goal

abbrev pub invariant-loop-f : goal.invariant-loop-f
invariant-loop-f l = record {
  ops : map plain_op l.ops.items ++ functions_code (plain_program l.program) (l.at + length (map plain_op l.ops.items)) (map plain_function (drop l.f-index l.functions)) ≡ functions_code (plain_program l.program) l.at (map plain_function l.functions);
  entries : map plain_entry l.entries.items ++ functions_entries (plain_program l.program) (l.at + length (map plain_op l.ops.items)) (map plain_function (drop l.f-index l.functions)) ≡ functions_entries (plain_program l.program) l.at (map plain_function l.functions);
}
