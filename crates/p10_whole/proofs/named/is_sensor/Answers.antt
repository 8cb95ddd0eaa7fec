use Rattle.std.proofs.Common.{sym, ◌∙◌, ap, option_map, option_copied}
use Rattle.p10_core.specs.Types.{plain_type}
use Rattle.p10_core.specs.Views.{plain_object}
use Rattle.p10_whole.proofs.Naming.{sensor_shown}
use Rattle.p10_whole.proofs.named.is_sensor.Goals as goal

pub returns-in-Some : goal.returns-in-Some
returns-in-Some c =
    sensor_shown c.args.around.now c.args.number (plain_type c.args.t.now) (plain_object c.in-Some.object.now) c.is_integer.result c.are_compatible.result
    (sym (ap (λ r. option_map plain_object (option_copied r)) c.in-Some.is) ∙ c.object_at.ensures) c.is_integer.ensures c.are_compatible.ensures
