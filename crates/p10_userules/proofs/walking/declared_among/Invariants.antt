use Rattle.std.proofs.Common.{◌≡◌, ◌++◌, drop}
use Rattle.p10_core.specs.Views.{plain_statements}
use Rattle.p10_userules.specs.Blocks.{declared_among}
use Rattle.p10_userules.proofs.walking.declared_among.Given as goal

abbrev pub invariant-loop-s : goal.invariant-loop-s
invariant-loop-s l =
    l.declared.items ++ declared_among (plain_statements (drop l.s-index l.all)) ≡ declared_among (plain_statements l.all)
