-- All that the roots define, as the code keeps it.
use Rattle.std.specs.Prelude.{map}
use Rattle.p10_heads.specs.declared.heads.Heads.{Heads}
use Rattle.p10_heads.specs.Heads.{Heads as PlainHeads}
use Rattle.p10_heads.specs.HeadViews.{plain_head}

-- what the roots define
abbrev pub plain_heads : Heads → PlainHeads
plain_heads h = record { functions = map plain_head h.functions.items; objects = map plain_head h.objects.items }
