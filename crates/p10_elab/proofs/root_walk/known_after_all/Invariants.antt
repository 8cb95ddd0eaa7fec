use Rattle.std.proofs.Common.{◌≡◌, map, drop}
use Rattle.p10_syn.specs.BuiltStatements.{external_of}
use Rattle.p10_elabx.specs.First.{only_first}
use Rattle.p10_heads.specs.PlainHeads.{plain_heads}
use Rattle.p10_elab.specs.RootEnds.{known_after_all}
use Rattle.p10_elab.specs.KnownViews.{plain_known}
use Rattle.p10_elab.proofs.root_walk.known_after_all.Given as goal

abbrev pub invariant-loop-unit : goal.invariant-loop-unit
invariant-loop-unit l =
    known_after_all only_first (plain_heads l.setting.heads.now) (plain_known l.known) (map external_of (drop l.unit-index l.root))
    ≡ known_after_all only_first (plain_heads l.setting.heads.now) (plain_known l.fn.known) (map external_of l.root)
