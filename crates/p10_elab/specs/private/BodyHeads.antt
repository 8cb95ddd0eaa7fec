-- What is known of a function before its body, as the code keeps it.
use Rattle.p10_syn.specs.Built.{identifier_of}
use Rattle.p10_core.specs.Types.{plain_type}
use Rattle.p10_elab.specs.declared.bodies.BodyHead.{BodyHead}
use Rattle.p10_elab.specs.private.Bodies.{PlainBodyHead}

-- what is known of a function before its body
abbrev pub plain_body_head : BodyHead → PlainBodyHead
plain_body_head x = record { name = identifier_of x.name; number = x.number; internal = x.internal; parameters = x.parameters; result = plain_type x.result }
