use Rattle.std.proofs.Common.{◌≡◌, map, drop}
use Rattle.p10_syn.specs.Trees.{specifier_row}
use Rattle.p10_syn.specs.Built.{specifier_of}
use Rattle.p10_elabx.specs.First.{only_first}
use Rattle.p10_elabd.specs.Views.{plain_standing}
use Rattle.p10_elabs.specs.Locals.{volatile_noted}
use Rattle.p10_elabs.proofs.specifiers.volatile_noted.Given as goal

abbrev pub invariant-loop-spec : goal.invariant-loop-spec
invariant-loop-spec l =
    volatile_noted only_first l.may (specifier_row (map specifier_of (drop l.spec-index l.specs))) (plain_standing l.standing)
    ≡ volatile_noted only_first l.may (specifier_row (map specifier_of l.specs)) (plain_standing l.fn.standing)
