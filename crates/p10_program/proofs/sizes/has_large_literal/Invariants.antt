use Rattle.std.proofs.Common.{◌≡◌, map, drop, length}
use Rattle.p10_core.specs.Views.{plain_literal}
use Rattle.p10_program.specs.Limits.{is_over}
use Rattle.p10_program.proofs.sizes.has_large_literal.Given as goal

abbrev pub invariant-loop-literal : goal.invariant-loop-literal
invariant-loop-literal l = is_over (map (λ l. length l.bytes) (map plain_literal (drop l.literal-index l.literals))) ≡ is_over (map (λ l. length l.bytes) (map plain_literal l.literals))
