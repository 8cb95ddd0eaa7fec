use Rattle.p10_core.specs.Types.{plain_type}
use Rattle.p10_core.specs.Views.{plain_value}
use Rattle.p10_whole.specs.private.Surroundings.{surroundings_in}
use Rattle.p10_whole.proofs.Initializing.{single_shown}
use Rattle.p10_whole.proofs.initializers.is_single.Goals as goal

pub returns : goal.returns
returns c =
    single_shown (surroundings_in c.args.around.now) (plain_type c.args.t.now) (plain_value c.args.v.now) c.is_whole_value.result c.is_scalar.result c.is_unqualified_of.result
    c.is_whole_value.ensures c.is_scalar.ensures c.is_unqualified_of.ensures
