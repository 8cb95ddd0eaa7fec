use Rattle.std.proofs.Common.{◌≡◌, false, map, drop}
use Rattle.std.specs.List.{All}
use Rattle.p10_core.specs.Views.{plain_statement}
use Rattle.p10_core.specs.WholePrograms.{is_declaration}
use Rattle.p10_whole.proofs.switches.declare_nothing.Given as goal

abbrev pub invariant-loop-item : goal.invariant-loop-item
invariant-loop-item l = All (λ s. is_declaration s ≡ false) (map plain_statement (drop l.item-index l.items)) → All (λ s. is_declaration s ≡ false) (map plain_statement l.items)
