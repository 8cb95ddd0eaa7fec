use Rattle.p10_core.specs.Types.{plain_type}
use Rattle.p10_core.specs.Views.{plain_place}
use Rattle.p10_whole.specs.private.Surroundings.{surroundings_in}
use Rattle.p10_whole.proofs.Reading.{reads_shown}
use Rattle.p10_whole.proofs.reads.reads.Goals as goal

pub returns : goal.returns
returns c =
    reads_shown (surroundings_in c.args.around.now) (plain_type c.args.t.now) (plain_place c.args.p.now) c.is_unqualified_of.result c.is_array.result c.is_complete.result c.is_no_sensor.result
    c.is_unqualified_of.ensures c.is_array.ensures c.is_complete.ensures c.is_no_sensor.ensures
