use Rattle.std.proofs.Common.{◌≡◌, ◌++◌, map, drop}
use Rattle.p10_core.specs.Views.{plain_variable}
use Rattle.p10_elabd.specs.Views.{plain_standing, plain_parameter}
use Rattle.p10_elabs.specs.FrameViews.{plain_frame}
use Rattle.p10_elab.specs.Outer.{parameter_variables}
use Rattle.p10_elab.proofs.body_parameters.parameter_variables.Given as goal

abbrev pub invariant-loop-place : goal.invariant-loop-place
invariant-loop-place l =
    map plain_variable l.variables.items ++ parameter_variables (plain_frame l.frame) (plain_standing l.standing) l.place (map plain_parameter (drop l.place l.parameters))
    ≡ parameter_variables (plain_frame l.frame) (plain_standing l.standing) 0 (map plain_parameter l.parameters)
