-- The members of a structure so far, as the code keeps them.
use Rattle.std.specs.Prelude.{List, map}
use Rattle.p10_core.specs.Types.{PlainMember, plain_member}
use Rattle.p10_elabd.specs.declared.named_members.NamedMembers.{NamedMembers}

-- the members, in order
abbrev pub named_members : NamedMembers → List PlainMember
named_members m = map plain_member m.list.items
