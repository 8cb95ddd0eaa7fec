use Rattle.std.proofs.Common.{◌≡◌, ◌++◌, map, drop}
use Rattle.p10_syn.specs.BuiltStatements.{external_of}
use Rattle.p10_heads.specs.HeadViews.{plain_head}
use Rattle.p10_heads.specs.private.Sites.{plain_sites, objects_among}
use Rattle.p10_heads.proofs.root_heads.put_objects.Given as goal

abbrev pub invariant-loop-unit : goal.invariant-loop-unit
invariant-loop-unit l =
    map plain_head l.into.items ++ objects_among l.number (plain_sites l.sites) (map external_of (drop l.unit-index l.root))
    ≡ map plain_head l.fn.into.items ++ objects_among l.number (plain_sites l.sites) (map external_of l.root)
