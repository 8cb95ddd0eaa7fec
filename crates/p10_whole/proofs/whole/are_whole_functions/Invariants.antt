use Rattle.std.proofs.Common.{◌≡◌, ℕ, ◌<◌, Some, map, slice_get}
use Rattle.p10_core.specs.Typed.{PlainFunction}
use Rattle.p10_core.specs.Views.{plain_program, plain_function}
use Rattle.p10_core.specs.WholePrograms.{IsWholeFunction}
use Rattle.p10_whole.proofs.whole.are_whole_functions.Given as goal

abbrev pub invariant-loop-number : goal.invariant-loop-number
invariant-loop-number l = (n : ℕ) → n < l.number → (f : PlainFunction) → slice_get (map plain_function l.all) n ≡ Some f → IsWholeFunction (plain_program l.program) n f
