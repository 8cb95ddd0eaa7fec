use Rattle.std.proofs.Common.{◌≡◌, ◌++◌, map, drop}
use Rattle.p10_core.specs.Views.{plain_seen}
use Rattle.p10_elab.specs.KnownViews.{plain_undefined}
use Rattle.p10_elab.specs.RootEnds.{outside_of}
use Rattle.p10_elab.proofs.root_end.put_outside.Given as goal

abbrev pub invariant-loop-one : goal.invariant-loop-one
invariant-loop-one l =
    map plain_seen l.outside.items ++ outside_of l.to (plain_undefined (drop l.one-index l.undefined)) ≡ map plain_seen l.fn.outside.items ++ outside_of l.to (plain_undefined l.undefined)
