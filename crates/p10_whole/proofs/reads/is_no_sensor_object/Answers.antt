use Rattle.std.proofs.Common.{sym, ◌∙◌, ap, option_map, option_copied}
use Rattle.p10_core.specs.Views.{plain_object}
use Rattle.p10_whole.proofs.Reading.{sensor_some, sensor_absent}
use Rattle.p10_whole.proofs.reads.is_no_sensor_object.Goals as goal

pub returns-in-Some : goal.returns-in-Some
returns-in-Some c =
    sensor_some c.args.around.now c.args.number (plain_object c.in-Some.object.now) (sym (ap (λ r. option_map plain_object (option_copied r)) c.in-Some.is) ∙ c.object_at.ensures)

pub returns-in-None : goal.returns-in-None
returns-in-None c = sensor_absent c.args.around.now c.args.number (sym (ap (λ r. option_map plain_object (option_copied r)) c.in-None.is) ∙ c.object_at.ensures)
