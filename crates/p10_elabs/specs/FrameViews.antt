-- What doesn't change in a function, as the code keeps it.
use Rattle.p10_core.specs.Types.{plain_type}
use Rattle.p10_elabs.specs.declared.frame.Frame.{Frame as CodeFrame}
use Rattle.p10_elabs.specs.Locals.{Frame}
use Rattle.p10_heads.specs.PlainHeads.{plain_heads}

-- what doesn't change in a function
abbrev pub plain_frame : CodeFrame → Frame
plain_frame f = record { heads = plain_heads f.heads.now; taken = f.taken.list.items; number = f.number; result = plain_type f.result }
