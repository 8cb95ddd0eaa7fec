use Rattle.std.proofs.Common.{◌≡◌, take}
use Rattle.p10_absx.specs.private.Changes.{replaced_in, widened}
use Rattle.p10_absx.proofs.states.widen.Given as goal

abbrev pub invariant-loop-change : goal.invariant-loop-change
invariant-loop-change l = replaced_in l.all.items ≡ widened l.env.values (replaced_in (take l.change-index l.changes))
