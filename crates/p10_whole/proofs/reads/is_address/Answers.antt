use Rattle.p10_core.specs.Types.{plain_type}
use Rattle.p10_core.specs.Views.{plain_place}
use Rattle.p10_whole.specs.private.Surroundings.{surroundings_in}
use Rattle.p10_whole.proofs.Reading.{address_shown}
use Rattle.p10_whole.proofs.reads.is_address.Goals as goal

pub returns : goal.returns
returns c =
    address_shown (surroundings_in c.args.around.now) (plain_type c.args.t.now) (plain_place c.args.p.now) c.is_pointer_to.result c.is_no_frame.result c.is_no_sensor.result
    c.is_pointer_to.ensures c.is_no_frame.ensures c.is_no_sensor.ensures
