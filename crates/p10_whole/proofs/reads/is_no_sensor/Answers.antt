use Rattle.std.proofs.Common.{sym, ◌∙◌}
use Rattle.p10_core.specs.Views.{plain_place_form}
use Rattle.p10_whole.specs.private.Surroundings.{surroundings_in}
use Rattle.p10_whole.proofs.Reading.{sensor_by, sensor_none}
use Rattle.p10_whole.proofs.reads.is_no_sensor.Goals as goal

pub returns-in-Some : goal.returns-in-Some
returns-in-Some c =
    sensor_by (surroundings_in c.args.around.now) (plain_place_form c.args.form.now) c.in-Some.number c.is_no_sensor_object.result (sym c.in-Some.is ∙ c.object_in.ensures) c.is_no_sensor_object.ensures

pub returns-in-None : goal.returns-in-None
returns-in-None c = sensor_none (surroundings_in c.args.around.now) (plain_place_form c.args.form.now) (sym c.in-None.is ∙ c.object_in.ensures)
