use Rattle.std.proofs.Common.{◌≡◌, map, drop}
use Rattle.p10_core.specs.Views.{plain_function}
use Rattle.p10_core.specs.WholePrograms.{frame_bytes}
use Rattle.p10_program.specs.Limits.{is_over}
use Rattle.p10_program.proofs.sizes.has_large_frame.Given as goal

abbrev pub invariant-loop-function : goal.invariant-loop-function
invariant-loop-function l = is_over (map frame_bytes (map plain_function (drop l.function-index l.functions))) ≡ is_over (map frame_bytes (map plain_function l.functions))
