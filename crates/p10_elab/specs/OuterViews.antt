-- Objects that roots define outside of functions, as the code keeps them.
use Rattle.p10_syn.specs.Built.{identifier_of}
use Rattle.p10_core.specs.Types.{plain_type}
use Rattle.p10_core.specs.Views.{plain_initializer}
use Rattle.p10_elab.specs.declared.outer_object.OuterObject.{OuterObject}
use Rattle.p10_elab.specs.declared.outer_object.Tentative.{Tentative}
use Rattle.p10_elab.specs.Knowledge.{Defined, Tentative as PlainTentative}

-- an object that a root defines outside of functions
abbrev pub plain_outer_object : OuterObject → Defined
plain_outer_object d = record {
  number = d.number;
  name = identifier_of d.name;
  type = plain_type d.ty;
  initializer = plain_initializer d.initializer;
  sensor = d.sensor;
}

-- a tentative definition
abbrev pub plain_tentative : Tentative → PlainTentative
plain_tentative d = record { name = identifier_of d.name; type = plain_type d.ty }
