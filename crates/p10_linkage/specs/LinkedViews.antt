-- Declarations with linkage, as the code keeps them.
use Rattle.std.specs.Prelude.{map, option_map}
use Rattle.p10_core.specs.Types.{plain_type}
use Rattle.p10_linkage.specs.declared.linked.LinkedKind.{LinkedKind}
use Rattle.p10_linkage.specs.declared.linked.LinkedKind.TheVariants.{Function, Object, Refused, UnknownObject}
use Rattle.p10_linkage.specs.declared.linked.PartKind.{PartKind}
use Rattle.p10_linkage.specs.declared.linked.LinkedName.{LinkedName}
use Rattle.p10_linkage.specs.Linkage.{PartType, LinkedType, a_function, an_object, a_part_function, unknown_object, Linked}

-- a function of which a part is refused
abbrev pub plain_part_type : PartKind → PartType
plain_part_type p = record { parameters = map (option_map plain_type) p.parameters.items; list = p.list; result = option_map plain_type p.result }

-- what is declared
abbrev pub plain_kind : LinkedKind → LinkedType
plain_kind (Function parameters result) = a_function (map plain_type parameters.items) (plain_type result)
plain_kind (Object t) = an_object (plain_type t)
plain_kind (Refused p) = a_part_function (plain_part_type p)
plain_kind UnknownObject = unknown_object

-- a declaration
abbrev pub linked_of_name : LinkedName → Linked
linked_of_name l = record {
  root = l.root;
  name = l.name.now;
  at = l.at;
  type = plain_kind l.kind;
  internal = l.internal;
  defines = l.defines;
  sensor = l.sensor;
}
