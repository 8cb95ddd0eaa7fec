use Rattle.std.proofs.Common.{◌≡◌, drop}
use Rattle.p10_expand.specs.Items.{is_among}
use Rattle.p10_expand.specs.private.Steps.{texts_in}
use Rattle.p10_expand.proofs.expansion.items.among.Given as goal

abbrev pub invariant-loop-other : goal.invariant-loop-other
invariant-loop-other l = is_among (texts_in l.names) l.name ≡ is_among (texts_in (drop l.other-index l.names)) l.name
