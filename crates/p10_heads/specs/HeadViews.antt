-- What the roots define, as the code keeps it.
use Rattle.p10_heads.specs.declared.outline.Outline.{Outline}
use Rattle.p10_heads.specs.declared.head.Head.{Head}
use Rattle.p10_heads.specs.Heads.{Outline as PlainOutline, Head as PlainHead}

-- a declarator outside of functions
abbrev pub plain_outline : Outline → PlainOutline
plain_outline o = record { name = o.name.now; at = o.at; function = o.function; static = o.internal; defining = o.defining }

-- a function or an object that is defined
abbrev pub plain_head : Head → PlainHead
plain_head h = record { root = h.root; name = h.name.now; at = h.at; internal = h.internal; in_block = h.in_block }
